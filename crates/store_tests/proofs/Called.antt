-- What a caller of a store that is alone knows after its requests.
use Rattle.std.proofs.Common.{◌≡◌, ◌∙◌, ℕ, true, List, [], ◌++◌, Option, ap, subst}
use Rattle.std.proofs.lemmas.List.{append-nil}
use Rattle.bcv_base.specs.declared.object.ObjName.{ObjName}
use Rattle.bcv_base.specs.declared.log.Entry.{Entry}
use Rattle.bcv_base.specs.Log.{object_of}
use Rattle.bcv_base.specs.LogLaws.{object_of-put}
use Rattle.bcv_store.specs.declared.store.Cond.{Cond}
use Rattle.bcv_store.specs.declared.store.Got.{Got}
use Rattle.bcv_store.specs.declared.store.Got.TheVariants as got
use Rattle.bcv_store.specs.declared.store.Put.{Put}
use Rattle.bcv_store.specs.declared.store.Put.TheVariants as put
use Rattle.bcv_store.specs.Plans.{next_of}
use Rattle.bcv_store.specs.Asked.{GetAnswers, GetTold, holds, PutTold}
use Rattle.bcv_store.specs.StoreShown.{StoreTold, StoreShown}
use Rattle.store_tests.specs.Called.{Replaces}
use Rattle.bcv_memstore.specs.Told.{told_here}

-- a put whose condition holds is not refused, and makes the object
pub replaced : (store : StoreTold) (old new : StoreShown) (name : ObjName) (cond : Cond) (bytes : List ℕ) (result : Put)
    → store.alone → holds cond (object_of name old.log) ≡ true → PutTold store old new name cond bytes result → Replaces new.log name bytes result
replaced store old new name cond bytes (put.Stored etag) one held p =
    ap (object_of name) (p.answers.2).added ∙ object_of-put (old.log ++ p.others) true name bytes etag
replaced store old new name cond bytes put.Refused one held p =
    let same : old.log ++ p.others ≡ old.log = ap (λ (others : List Entry). old.log ++ others) (p.by_others.none one) ∙ append-nil old.log in
    let holding : holds cond (object_of name (old.log ++ p.others)) ≡ true = ap (λ (l : List Entry). holds cond (object_of name l)) same ∙ held in
    absurd (cc (holding, p.answers.1))
replaced store old new name cond bytes put.Failed one held p = tt
replaced store old new name cond bytes put.NoMemory one held p = tt

-- where nothing is planned a get does not fail
pub looked : (old new : StoreShown) (name : ObjName) (unless : Option ℕ) (most : ℕ) (into : List ℕ) (result : Got)
    → old.plan ≡ [] → GetTold told_here old new name unless most into result → result ≡ got.Failed → ⊥
looked old new name unless most into result none g is =
    (subst (λ (r : Got). GetAnswers g.outcome (object_of name new.log) unless most into r) is g.answers) (g.planned tt ∙ ap next_of none)

-- over a store that is alone a get leaves the log
pub kept : (old new : StoreShown) (name : ObjName) (unless : Option ℕ) (most : ℕ) (into : List ℕ) (result : Got)
    → GetTold told_here old new name unless most into result → new.log ≡ old.log
kept old new name unless most into result g = g.grown ∙ ap (λ (others : List Entry). old.log ++ others) (g.by_others.none tt) ∙ append-nil old.log
