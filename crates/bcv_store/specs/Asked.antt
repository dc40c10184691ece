-- What the requests to a store do to its log, and what they answer.
use Rattle.std.specs.Prelude.{◌≡◌, ◌≢◌, ℕ, ◌<◌, ◌≤◌, Bool, true, false, ◌&&◌, ◌==◌, List, [], ◌∷◌, ◌++◌, length, take, Option, Some, None, is_some, is_none}
use Rattle.std.specs.List.{list_all}
use Rattle.bcv_base.specs.declared.id.Id16.{Id16}
use Rattle.bcv_base.specs.declared.object.ObjName.{ObjName}
use Rattle.bcv_base.specs.declared.object.ObjName.TheVariants as object
use Rattle.bcv_base.specs.declared.outcome.Outcome.{Outcome}
use Rattle.bcv_base.specs.declared.outcome.Outcome.TheVariants as outcome
use Rattle.bcv_base.specs.declared.log.Entry.{Entry}
use Rattle.bcv_base.specs.declared.log.Entry.TheVariants as entry
use Rattle.bcv_base.specs.Keyed.{comes_before}
use Rattle.bcv_base.specs.Ids.{has_id}
use Rattle.bcv_base.specs.Log.{Object, object_of, may_follow}
use Rattle.bcv_store.specs.declared.store.Cond.{Cond}
use Rattle.bcv_store.specs.declared.store.Cond.TheVariants as cond
use Rattle.bcv_store.specs.declared.store.Got.{Got}
use Rattle.bcv_store.specs.declared.store.Got.TheVariants as got
use Rattle.bcv_store.specs.declared.store.Put.{Put}
use Rattle.bcv_store.specs.declared.store.Put.TheVariants as put
use Rattle.bcv_store.specs.declared.store.Del.{Del}
use Rattle.bcv_store.specs.declared.store.Del.TheVariants as del
use Rattle.bcv_store.specs.declared.store.Listed.{Listed}
use Rattle.bcv_store.specs.declared.store.Listed.TheVariants as listed
use Rattle.bcv_store.specs.Plans.{next_of, AreOthers}
use Rattle.bcv_store.specs.StoreShown.{StoreTold, StoreShown}

-- the object has this etag; where there is none, no etag is that of the object
abbrev pub has_etag : Option Object → ℕ → Bool
has_etag None etag = false
has_etag (Some x) etag = x.etag == etag

-- the object has the etag that is known already
abbrev pub is_known : Option Object → Option ℕ → Bool
is_known x None = false
is_known x (Some etag) = has_etag x etag

-- ---- get

-- what a get answers of the object that is there, and what it leaves in `into`; Same is tested before TooLong
abbrev pub GetAnswers : Outcome → Option Object → Option ℕ → ℕ → List ℕ → Got → Type 0
GetAnswers o x unless most into (got.Found etag) =
    (o ≡ outcome.Ok) × (x ≡ Some (record { bytes = into; etag = etag })) × (is_known x unless ≡ false) × (length into ≤ most)
GetAnswers o x unless most into got.Same = (o ≡ outcome.Ok) × (is_known x unless ≡ true)
GetAnswers o x unless most into got.Missing = (o ≡ outcome.Ok) × (x ≡ None)
GetAnswers o x unless most into (got.TooLong len) =
    (o ≡ outcome.Ok) × (is_known x unless ≡ false) × (most < len) × ((there : Object) × (x ≡ Some there) × (length there.bytes ≡ len))
GetAnswers o x unless most into got.Failed = o ≢ outcome.Ok
GetAnswers o x unless most into got.NoMemory = Unit {0}

-- a get of a store that tells its log: others may have appended entries, and its answer speaks of the log with them
pub record GetTold (store : StoreTold) (old new : StoreShown) (name : ObjName) (unless : Option ℕ) (most : ℕ) (into : List ℕ) (result : Got) : Type 0 where
  pub others : List Entry
  pub by_others : AreOthers store.alone others
  pub grown : new.log ≡ old.log ++ others
  pub outcome : Outcome
  pub planned : store.plans → outcome ≡ next_of old.plan
  pub answers : GetAnswers outcome (object_of name new.log) unless most into result

-- ---- put

-- the condition of a put holds of the object that is there
abbrev pub holds : Cond → Option Object → Bool
holds cond.Absent x = is_none x
holds (cond.Match etag) x = has_etag x etag

-- one own put more, which may follow the log
pub record Adds (log after : List Entry) (name : ObjName) (bytes : List ℕ) (etag : ℕ) : Type 0 where
  pub rises : may_follow log (entry.Put true name bytes etag) ≡ true
  pub added : after ≡ log ++ entry.Put true name bytes etag ∷ []

-- the effect of a put: one put more where its condition holds, else none
abbrev pub PutEffect : Bool → List Entry → List Entry → ObjName → List ℕ → Type 0
PutEffect true log after name bytes = (etag : ℕ) × Adds log after name bytes etag
PutEffect false log after name bytes = after ≡ log

-- a put that fails: never at Ok, without effect at Fail, with its effect at Lost
abbrev pub PutFails : Outcome → Bool → List Entry → List Entry → ObjName → List ℕ → Type 0
PutFails outcome.Ok held log after name bytes = ⊥
PutFails outcome.Fail held log after name bytes = after ≡ log
PutFails outcome.Lost held log after name bytes = PutEffect held log after name bytes

-- what a put answers over a log, whose object meets the condition or not
abbrev pub PutAnswers : Outcome → Bool → List Entry → List Entry → ObjName → List ℕ → Put → Type 0
PutAnswers o held log after name bytes (put.Stored etag) = (o ≡ outcome.Ok) × (held ≡ true) × Adds log after name bytes etag
PutAnswers o held log after name bytes put.Refused = (o ≡ outcome.Ok) × (held ≡ false) × (after ≡ log)
PutAnswers o held log after name bytes put.Failed = PutFails o held log after name bytes
PutAnswers o held log after name bytes put.NoMemory = after ≡ log

-- a put to a store that tells its log: the entries of others stand before its own one, and its answer speaks of the log with them
pub record PutTold (store : StoreTold) (old new : StoreShown) (name : ObjName) (cond : Cond) (bytes : List ℕ) (result : Put) : Type 0 where
  pub others : List Entry
  pub by_others : AreOthers store.alone others
  pub outcome : Outcome
  pub planned : store.plans → outcome ≡ next_of old.plan
  pub answers : PutAnswers outcome (holds cond (object_of name (old.log ++ others))) (old.log ++ others) new.log name bytes result

-- ---- delete

-- a deletion that fails: never at Ok, without effect at Fail, with its effect at Lost
abbrev pub DeleteFails : Outcome → List Entry → List Entry → ObjName → ℕ → Type 0
DeleteFails outcome.Ok log after name at = ⊥
DeleteFails outcome.Fail log after name at = after ≡ log
DeleteFails outcome.Lost log after name at = after ≡ log ++ entry.Deleted true name at ∷ []

-- what a delete answers over a log; Done appends a deletion also where there is no such object
abbrev pub DeleteAnswers : Outcome → List Entry → List Entry → ObjName → ℕ → Del → Type 0
DeleteAnswers o log after name at del.Done = (o ≡ outcome.Ok) × (after ≡ log ++ entry.Deleted true name at ∷ [])
DeleteAnswers o log after name at del.Failed = DeleteFails o log after name at
DeleteAnswers o log after name at del.NoMemory = after ≡ log

-- a delete in a store that tells its log: the entries of others stand before its own one
pub record DeleteTold (store : StoreTold) (old new : StoreShown) (name : ObjName) (at : ℕ) (result : Del) : Type 0 where
  pub others : List Entry
  pub by_others : AreOthers store.alone others
  pub outcome : Outcome
  pub planned : store.plans → outcome ≡ next_of old.plan
  pub answers : DeleteAnswers outcome (old.log ++ others) new.log name at result

-- ---- list

-- how many ids a list gives at most
abbrev pub list_most : ℕ
list_most = 1024

-- the first id stands before the second, as bytes
abbrev pub id_before : Id16 → Id16 → Bool
id_before i j = comes_before i.0 j.0

-- the id is above the one from which the list goes on, where there is one
abbrev pub is_past : Option Id16 → Id16 → Bool
is_past None i = true
is_past (Some after) i = id_before after i

-- each id stands before those behind it
abbrev pub are_ascending : List Id16 → Bool
are_ascending [] = true
are_ascending (i ∷ is) = list_all (id_before i) is && are_ascending is

-- all ids, ascending, of the blocks that are there and are above `from`
pub record AreIdsAbove (log : List Entry) (from : Option Id16) (ids : List Id16) : Type 0 where
  pub ascending : are_ascending ids ≡ true
  pub there : (i : Id16) → has_id i ids ≡ (is_past from i && is_some (object_of (object.Block i) log))

-- what a list answers of all those ids, and what it leaves in `into`: the first of them, with More exactly where there are further ones
abbrev pub ListAnswers : Outcome → List Entry → Option Id16 → List Id16 → Listed → Type 0
ListAnswers o log from into listed.More =
    (o ≡ outcome.Ok) × ((ids : List Id16) × AreIdsAbove log from ids × (list_most < length ids) × (into ≡ take list_most ids))
ListAnswers o log from into listed.End = (o ≡ outcome.Ok) × AreIdsAbove log from into × (length into ≤ list_most)
ListAnswers o log from into listed.Failed = o ≢ outcome.Ok
ListAnswers o log from into listed.NoMemory = Unit {0}

-- a list of a store that tells its log: others may have appended entries, and its answer speaks of the log with them
pub record ListTold (store : StoreTold) (old new : StoreShown) (from : Option Id16) (into : List Id16) (result : Listed) : Type 0 where
  pub others : List Entry
  pub by_others : AreOthers store.alone others
  pub grown : new.log ≡ old.log ++ others
  pub outcome : Outcome
  pub planned : store.plans → outcome ≡ next_of old.plan
  pub answers : ListAnswers outcome new.log from into result
