-- The requests to a store: what each one does to what the store shows, and what it answers.
use Rattle.std.specs.Prelude.{◌≡◌, ℕ, ◌≤◌, List, Option}
use Rattle.bcv_base.specs.declared.id.Id16.{Id16}
use Rattle.bcv_base.specs.declared.object.ObjName.{ObjName}
use Rattle.bcv_base.specs.Faults.{Rose}
use Rattle.bcv_store.specs.declared.store.Cond.{Cond}
use Rattle.bcv_store.specs.declared.store.Got.{Got}
use Rattle.bcv_store.specs.declared.store.Got.TheVariants as got
use Rattle.bcv_store.specs.declared.store.Put.{Put}
use Rattle.bcv_store.specs.declared.store.Put.TheVariants as put
use Rattle.bcv_store.specs.declared.store.Del.{Del}
use Rattle.bcv_store.specs.declared.store.Del.TheVariants as del
use Rattle.bcv_store.specs.declared.store.Listed.{Listed}
use Rattle.bcv_store.specs.declared.store.Listed.TheVariants as listed
use Rattle.bcv_store.specs.Plans.{rest_of}
use Rattle.bcv_store.specs.StoreShown.{StoreTold, StoreShown}
use Rattle.bcv_store.specs.Asked.{GetTold, PutTold, DeleteTold, ListTold}
use Rattle.bcv_store.specs.Within.{IsGotWithin, IsListedWithin}

-- a get: where the store tells its log, all of its answer; a planned outcome is taken; the answer keeps to what was asked for; it fails only where the count of faults rose
pub record StoreGets (store : StoreTold) (old new : StoreShown) (name : ObjName) (unless : Option ℕ) (most : ℕ) (into : List ℕ) (result : Got) : Type 0 where
  pub told : store.tells → GetTold store old new name unless most into result
  pub taken : store.plans → new.plan ≡ rest_of old.plan
  pub within : IsGotWithin unless most into result
  pub later : old.faults ≤ new.faults
  pub failed : result ≡ got.Failed → Rose old.faults new.faults

-- a put: where the store tells its log, what it appends and all of its answer; a planned outcome is taken; it fails only where the count of faults rose
pub record StorePuts (store : StoreTold) (old new : StoreShown) (name : ObjName) (cond : Cond) (bytes : List ℕ) (result : Put) : Type 0 where
  pub told : store.tells → PutTold store old new name cond bytes result
  pub taken : store.plans → new.plan ≡ rest_of old.plan
  pub later : old.faults ≤ new.faults
  pub failed : result ≡ put.Failed → Rose old.faults new.faults

-- a delete: where the store tells its log, what it appends and all of its answer; a planned outcome is taken; it fails only where the count of faults rose
pub record StoreDeletes (store : StoreTold) (old new : StoreShown) (name : ObjName) (at : ℕ) (result : Del) : Type 0 where
  pub told : store.tells → DeleteTold store old new name at result
  pub taken : store.plans → new.plan ≡ rest_of old.plan
  pub later : old.faults ≤ new.faults
  pub failed : result ≡ del.Failed → Rose old.faults new.faults

-- a list: where the store tells its log, all of its answer; a planned outcome is taken; the answer keeps to what was asked for; it fails only where the count of faults rose
pub record StoreLists (store : StoreTold) (old new : StoreShown) (from : Option Id16) (into : List Id16) (result : Listed) : Type 0 where
  pub told : store.tells → ListTold store old new from into result
  pub taken : store.plans → new.plan ≡ rest_of old.plan
  pub within : IsListedWithin from into result
  pub later : old.faults ≤ new.faults
  pub failed : result ≡ listed.Failed → Rose old.faults new.faults
