-- Requests to a store that is alone: no foreign entries stand before the own one.
use Rattle.std.proofs.Common.{◌≡◌, ◌≢◌, ◌∙◌, ℕ, Bool, ◌⊎◌, inl, inr, List, [], Option, refl, sym, subst}
use Rattle.std.proofs.lemmas.List.{append-nil}
use Rattle.std.proofs.lemmas.List.Elements.{All-nil}
use Rattle.bcv_base.specs.declared.id.Id16.{Id16}
use Rattle.bcv_base.specs.declared.object.ObjName.{ObjName}
use Rattle.bcv_base.specs.declared.outcome.Outcome.{Outcome}
use Rattle.bcv_base.specs.declared.outcome.Outcome.TheVariants as outcome
use Rattle.bcv_base.specs.declared.log.Entry.{Entry}
use Rattle.bcv_base.specs.Log.{object_of}
use Rattle.bcv_store.specs.declared.store.Cond.{Cond}
use Rattle.bcv_store.specs.declared.store.Got.{Got}
use Rattle.bcv_store.specs.declared.store.Put.{Put}
use Rattle.bcv_store.specs.declared.store.Put.TheVariants as put
use Rattle.bcv_store.specs.declared.store.Del.{Del}
use Rattle.bcv_store.specs.declared.store.Del.TheVariants as del
use Rattle.bcv_store.specs.declared.store.Listed.{Listed}
use Rattle.bcv_store.specs.Plans.{next_of, IsForeign, AreOthers}
use Rattle.bcv_store.specs.Asked.{GetAnswers, GetTold, holds, PutEffect, PutAnswers, PutTold, DeleteAnswers, DeleteTold, ListAnswers, ListTold}
use Rattle.bcv_store.specs.StoreShown.{StoreShown}
use Rattle.bcv_memstore.specs.Told.{told_here}

none : AreOthers (Unit {0}) []
none = record { foreign = All-nil IsForeign; none = λ _. refl }

-- a request that fails as planned is not done
pub not_done : (o : Outcome) → (o ≡ outcome.Fail) ⊎ (o ≡ outcome.Lost) → o ≢ outcome.Ok
not_done o (inl fails) is = cc (fails, is)
not_done o (inr loses) is = cc (loses, is)

module _ (old new : StoreShown) (o : Outcome) (first : o ≡ next_of old.plan) where
  pub gets : (name : ObjName) (unless : Option ℕ) (most : ℕ) (into : List ℕ) (result : Got) → new.log ≡ old.log
      → GetAnswers o (object_of name new.log) unless most into result → GetTold told_here old new name unless most into result
  gets name unless most into result same answers =
      record { others = []; by_others = none; grown = same ∙ sym (append-nil old.log); outcome = o; planned = λ _. first; answers = answers }

  pub puts : (name : ObjName) (cond : Cond) (bytes : List ℕ) (result : Put)
      → PutAnswers o (holds cond (object_of name old.log)) old.log new.log name bytes result → PutTold told_here old new name cond bytes result
  puts name cond bytes result answers =
      record {
        others = [];
        by_others = none;
        outcome = o;
        planned = λ _. first;
        answers = subst (λ (log : List Entry). PutAnswers o (holds cond (object_of name log)) log new.log name bytes result) (sym (append-nil old.log)) answers;
      }

  pub deletes : (name : ObjName) (at : ℕ) (result : Del) → DeleteAnswers o old.log new.log name at result → DeleteTold told_here old new name at result
  deletes name at result answers =
      record {
        others = [];
        by_others = none;
        outcome = o;
        planned = λ _. first;
        answers = subst (λ (log : List Entry). DeleteAnswers o log new.log name at result) (sym (append-nil old.log)) answers;
      }

  pub lists : (from : Option Id16) (into : List Id16) (result : Listed) → new.log ≡ old.log
      → ListAnswers o new.log from into result → ListTold told_here old new from into result
  lists from into result same answers =
      record { others = []; by_others = none; grown = same ∙ sym (append-nil old.log); outcome = o; planned = λ _. first; answers = answers }

-- ---- lost answers

-- a put whose answer is lost has had its effect
pub put_was_lost : (held : Bool) (log after : List Entry) (name : ObjName) (bytes : List ℕ) (result : Put)
    → result ≢ put.NoMemory → PutAnswers outcome.Ok held log after name bytes result → PutAnswers outcome.Lost held log after name bytes put.Failed
put_was_lost held log after name bytes (put.Stored etag) told a = subst (λ (b : Bool). PutEffect b log after name bytes) (sym a.1) (etag, a.2)
put_was_lost held log after name bytes put.Refused told a = subst (λ (b : Bool). PutEffect b log after name bytes) (sym a.1) a.2
put_was_lost held log after name bytes put.Failed told a = absurd a
put_was_lost held log after name bytes put.NoMemory told a = absurd (told refl)

-- a delete whose answer is lost has had its effect
pub delete_was_lost : (log after : List Entry) (name : ObjName) (at : ℕ) (result : Del)
    → result ≢ del.NoMemory → DeleteAnswers outcome.Ok log after name at result → DeleteAnswers outcome.Lost log after name at del.Failed
delete_was_lost log after name at del.Done told a = a.1
delete_was_lost log after name at del.Failed told a = absurd a
delete_was_lost log after name at del.NoMemory told a = absurd (told refl)
