-- The request of a step that fetches a page: which outcome it had, and that the machine's step goes under it.
use Rattle.std.proofs.Common.{◌≡◌, ◌≢◌, ◌∙◌, ℕ, Bool, true, false, List, Option, Some, None, refl, sym, subst}
use Rattle.std.proofs.lemmas.Option.{same_Some}
use Rattle.bcv_base.specs.declared.id.Id16.{Id16}
use Rattle.bcv_base.specs.declared.outcome.Outcome.{Outcome}
use Rattle.bcv_base.specs.declared.outcome.Outcome.TheVariants as outcome
use Rattle.bcv_base.specs.Faults.{Rose}
use Rattle.bcv_base.specs.History.{history_of}
use Rattle.bcv_dbmap.specs.Honest.{GrewHonestly}
use Rattle.bcv_dbmap.specs.Sound.{Sound}
use Rattle.bcv_machine.specs.Reading.{ComesAtOnce, FetchStepsOf}
use Rattle.bcv_machine.specs.State.{Access, Side, ToHold, ToRead, Txn, Up, txn_at}
use Rattle.bcv_model.specs.declared.reply.Reply.{Reply}
use Rattle.bcv_model.specs.declared.reply.Reply.TheVariants as reply
use Rattle.bcv_pages.specs.Held.{Held}
use Rattle.bcv_snapshot.specs.declared.fetched.Fetched.{Fetched}
use Rattle.bcv_snapshot.specs.declared.fetched.Fetched.TheVariants as fetched
use Rattle.bcv_snapshot.specs.BlockFetch.{BlockGetSound, SoundFetchEnds}
use Rattle.bcv_store.specs.Plans.{next_of}
use Rattle.bcv_store.specs.StoreShown.{StoreShown, StoreTold}
use Rattle.bcv_transaction.specs.declared.answers.Came.{Came}
use Rattle.bcv_transaction.specs.declared.answers.Came.TheVariants as came
use Rattle.bcv_transaction.specs.declared.answers.Stepped.{Stepped}
use Rattle.bcv_transaction.specs.declared.answers.Stepped.TheVariants as stepped
use Rattle.bcv_transaction.specs.Open.{Open}
use Rattle.bcv_transaction.specs.StepCalls.{Brings, ComesAs, GoesAfter, GoesOn, StepSays, Steps}
use Rattle.bcv_transaction.specs.StepSides.{StepsAs}
use Rattle.bcv_transaction.proofs.StepPlaces.{Gets, gets_of}

-- ---- under another outcome

-- what is answered may come under the outcome
abbrev pub Agrees : Stepped → Outcome → Type 0
Agrees (stepped.Page bytes) o = Unit {0}
Agrees stepped.Held o = Unit {0}
Agrees stepped.CacheFull o = Unit {0}
Agrees stepped.BadPage o = Unit {0}
Agrees stepped.NoTxn o = Unit {0}
Agrees stepped.Gone o = o ≡ outcome.Ok
Agrees (stepped.BadBlock len) o = Unit {0}
Agrees stepped.StoreFault o = o ≢ outcome.Ok
Agrees stepped.NoMemory o = Unit {0}

module _ (access : Access) (s : Side) (u : Up) (p : ℕ) (t : Side) where
  abbrev At : Option Txn → Outcome → Reply → Type 0
  At x o r = FetchStepsOf access s u x p o r t

  page_at : (bytes : List ℕ) (x : Option Txn) (a o : Outcome) → At x a (reply.Page bytes) → At x o (reply.Page bytes)
  page_at bytes None a o does = does
  page_at bytes (Some x) outcome.Ok outcome.Ok does = does
  page_at bytes (Some x) outcome.Ok outcome.Fail does = does
  page_at bytes (Some x) outcome.Ok outcome.Lost does = does
  page_at bytes (Some x) outcome.Fail outcome.Ok does = does
  page_at bytes (Some x) outcome.Fail outcome.Fail does = does
  page_at bytes (Some x) outcome.Fail outcome.Lost does = does
  page_at bytes (Some x) outcome.Lost outcome.Ok does = does
  page_at bytes (Some x) outcome.Lost outcome.Fail does = does
  page_at bytes (Some x) outcome.Lost outcome.Lost does = does

  held_at : (x : Option Txn) (a o : Outcome) → At x a reply.Held → At x o reply.Held
  held_at None a o does = does
  held_at (Some x) outcome.Ok outcome.Ok does = does
  held_at (Some x) outcome.Ok outcome.Fail does = does
  held_at (Some x) outcome.Ok outcome.Lost does = does
  held_at (Some x) outcome.Fail outcome.Ok does = does
  held_at (Some x) outcome.Fail outcome.Fail does = does
  held_at (Some x) outcome.Fail outcome.Lost does = does
  held_at (Some x) outcome.Lost outcome.Ok does = does
  held_at (Some x) outcome.Lost outcome.Fail does = does
  held_at (Some x) outcome.Lost outcome.Lost does = does

  full_at : (x : Option Txn) (a o : Outcome) → At x a reply.CacheFull → At x o reply.CacheFull
  full_at None a o does = does
  full_at (Some x) outcome.Ok outcome.Ok does = does
  full_at (Some x) outcome.Ok outcome.Fail does = does
  full_at (Some x) outcome.Ok outcome.Lost does = does
  full_at (Some x) outcome.Fail outcome.Ok does = does
  full_at (Some x) outcome.Fail outcome.Fail does = does
  full_at (Some x) outcome.Fail outcome.Lost does = does
  full_at (Some x) outcome.Lost outcome.Ok does = does
  full_at (Some x) outcome.Lost outcome.Fail does = does
  full_at (Some x) outcome.Lost outcome.Lost does = does

  no_gone : (b : Access) (x : Txn) → ComesAtOnce b s u x p reply.Gone t → ⊥
  no_gone ToRead x does = does
  no_gone ToHold x does = does

  no_fault : (b : Access) (x : Txn) → ComesAtOnce b s u x p reply.StoreFault t → ⊥
  no_fault ToRead x does = does
  no_fault ToHold x does = does

  gone_at : (x : Option Txn) (a o : Outcome) → o ≡ outcome.Ok → At x a reply.Gone → At x o reply.Gone
  gone_at None a o is does = does
  gone_at (Some x) outcome.Ok o is does = subst (λ (y : Outcome). At (Some x) y reply.Gone) (sym is) does
  gone_at (Some x) outcome.Fail o is does = absurd (no_gone access x does)
  gone_at (Some x) outcome.Lost o is does = absurd (no_gone access x does)

  fault_at : (x : Option Txn) (a o : Outcome) → o ≢ outcome.Ok → At x a reply.StoreFault → At x o reply.StoreFault
  fault_at None a o bad does = does
  fault_at (Some x) a outcome.Ok bad does = absurd (bad refl)
  fault_at (Some x) outcome.Ok o bad does = absurd (no_fault access x does)
  fault_at (Some x) outcome.Fail outcome.Fail bad does = does
  fault_at (Some x) outcome.Fail outcome.Lost bad does = does
  fault_at (Some x) outcome.Lost outcome.Fail bad does = does
  fault_at (Some x) outcome.Lost outcome.Lost bad does = does

pub steps_under : (access : Access) (s : Side) (u : Up) (n p : ℕ) (a o : Outcome) (r : Stepped) (t : Side) → Agrees r o → StepsAs access s u n p a r t → StepsAs access s u n p o r t
steps_under access s u n p a o (stepped.Page bytes) t agrees does = page_at access s u p t bytes.items (txn_at u n) a o does
steps_under access s u n p a o stepped.Held t agrees does = held_at access s u p t (txn_at u n) a o does
steps_under access s u n p a o stepped.CacheFull t agrees does = full_at access s u p t (txn_at u n) a o does
steps_under access s u n p a o stepped.BadPage t agrees does = does
steps_under access s u n p a o stepped.NoTxn t agrees does = does
steps_under access s u n p a o stepped.Gone t agrees does = gone_at access s u p t (txn_at u n) a o agrees does
steps_under access s u n p a o (stepped.BadBlock len) t agrees does = does
steps_under access s u n p a o stepped.StoreFault t agrees does = fault_at access s u p t (txn_at u n) a o agrees does
steps_under access s u n p a o stepped.NoMemory t agrees does = does

-- ---- the request

-- which outcome a request had, where one was made, and that what is answered may come under it
pub record Requested (store : StoreTold) (before after : StoreShown) (r : Stepped) : Type 0 where
  pub made : Bool
  pub request : Outcome
  pub planned : store.plans → made ≡ true → request ≡ next_of before.plan
  pub unmade : made ≡ false → after ≡ before
  pub cause : made ≡ true → request ≢ outcome.Ok → Rose before.faults after.faults
  pub agrees : (o : Outcome) → (made ≡ true → o ≡ request) → Agrees r o

module _ (store : StoreTold) (before after : StoreShown) (r : Stepped) (says : StepSays store before after r) (memory : r ≢ stepped.NoMemory) where
  none_made : after ≡ before → ((o : Outcome) → Agrees r o) → Requested store before after r
  none_made same agrees = record {
    made = false;
    request = outcome.Ok;
    planned = λ plans made. absurd (let e : false ≡ true = made in cc);
    unmade = λ none. same;
    cause = λ made. absurd (let e : false ≡ true = made in cc);
    agrees = λ o is. agrees o;
  }

  agrees_came : (c : Came) → ComesAs c r → (o : Outcome) → Agrees r o
  agrees_came (came.Page bytes) is o = subst (λ (x : Stepped). Agrees x o) (sym is) tt
  agrees_came came.Held is o = subst (λ (x : Stepped). Agrees x o) (sym is) tt
  agrees_came (came.Absent id) is o = absurd is
  agrees_came came.CacheFull is o = subst (λ (x : Stepped). Agrees x o) (sym is) tt
  agrees_came came.BadPage is o = subst (λ (x : Stepped). Agrees x o) (sym is) tt
  agrees_came came.NoTxn is o = subst (λ (x : Stepped). Agrees x o) (sym is) tt
  agrees_came came.NoMemory is o = absurd (memory is)

  -- one was made, which was done
  one_done : (request : Outcome) → (store.plans → request ≡ next_of before.plan) → request ≡ outcome.Ok → ((o : Outcome) → o ≡ request → Agrees r o) → Requested store before after r
  one_done request planned done agrees = record {
    made = true;
    request = request;
    planned = λ plans made. planned plans;
    unmade = λ none. absurd (let e : true ≡ false = none in cc);
    cause = λ made bad. absurd (bad done);
    agrees = λ o is. agrees o (is refl);
  }

  module _ (access : Access) (pages : Held) (n p : ℕ) (tells : store.tells) (mine : List Id16) (sound : Sound (history_of before.log)) (grew : GrewHonestly store.alone mine before.log after.log) where
    fetched_so : (id : Id16) (o got last : Open) (f : Fetched) → Brings store before after id o f got → GoesAfter access pages n p f got r last → Requested store before after r
    fetched_so id o got last f brings goes = by f refl goes
      where
        gets : Gets store before after id o f got
        gets = gets_of store before after id o f got brings

        get : BlockGetSound store mine before after id gets.before f gets.after
        get = gets.gets.sound tells mine sound grew

        ends : (x : Fetched) → f ≡ x → SoundFetchEnds get.outcome (history_of after.log) id gets.before x gets.after
        ends x is = subst (λ (y : Fetched). SoundFetchEnds get.outcome (history_of after.log) id gets.before y gets.after) is get.ends

        by : (x : Fetched) → f ≡ x → GoesAfter access pages n p x got r last → Requested store before after r
        by (fetched.In slot) is after_it = one_done get.outcome get.next (ends (fetched.In slot) is).1 (λ o e. agrees_came after_it.0 after_it.3 o)
        by fetched.CacheFull is after_it = absurd (ends fetched.CacheFull is)
        by fetched.Gone is after_it =
            let done : get.outcome ≡ outcome.Ok = (ends fetched.Gone is).0 in
            one_done get.outcome get.next done (λ o e. subst (λ (x : Stepped). Agrees x o) (same_Some stepped.Gone r after_it.0) (e ∙ done))
        by (fetched.BadBlock len) is after_it =
            one_done get.outcome get.next (ends (fetched.BadBlock len) is).0 (λ o e. subst (λ (x : Stepped). Agrees x o) (same_Some (stepped.BadBlock len) r after_it.0) tt)
        by fetched.StoreFault is after_it =
            let bad : get.outcome ≢ outcome.Ok = ends fetched.StoreFault is in
            let fault : stepped.StoreFault ≡ r = same_Some stepped.StoreFault r after_it.0 in
            record {
              made = true;
              request = get.outcome;
              planned = λ plans made. get.next plans;
              unmade = λ none. absurd (let e : true ≡ false = none in cc);
              cause = λ made failed. says.failed (sym fault);
              agrees = λ o same. subst (λ (x : Stepped). Agrees x o) fault (λ e. bad (sym (same refl) ∙ e));
            }
        by fetched.NoMemory is after_it = absurd (memory (sym (same_Some stepped.NoMemory r after_it.0)))

    goes_so : (c : Came) (o last : Open) → GoesOn access pages store before after n p c o r last → Requested store before after r
    goes_so (came.Absent id) o last goes = fetched_so id o goes.1 last goes.0 goes.2 goes.3
    goes_so (came.Page bytes) o last goes = none_made goes.2 (agrees_came (came.Page bytes) goes.0)
    goes_so came.Held o last goes = none_made goes.2 (agrees_came came.Held goes.0)
    goes_so came.CacheFull o last goes = none_made goes.2 (agrees_came came.CacheFull goes.0)
    goes_so came.BadPage o last goes = none_made goes.2 (agrees_came came.BadPage goes.0)
    goes_so came.NoTxn o last goes = none_made goes.2 (agrees_came came.NoTxn goes.0)
    goes_so came.NoMemory o last goes = none_made goes.2 (agrees_came came.NoMemory goes.0)

    pub requested : (o last : Open) → Steps access pages store before after o n p r last → Requested store before after r
    requested o last steps = goes_so steps.0 steps.1 last steps.3
