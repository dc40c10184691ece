-- No call changes how many blocks the cache of a client may hold.
use Rattle.std.proofs.Common.{◌≡◌, ◌∙◌, ℕ, Option, Some, None, ap}
use Rattle.bcv_cache.specs.Entry.{Blocks}
use Rattle.bcv_databases.specs.Catalog.{View}
use Rattle.bcv_machine.specs.State as m
use Rattle.bcv_model.specs.declared.reply.Reply.{Reply}
use Rattle.bcv_model.specs.declared.reply.Reply.TheVariants as reply
use Rattle.bcv_pages.specs.Held.{Held}
use Rattle.bcv_snapshot.specs.declared.fetched.Fetched.{Fetched}
use Rattle.bcv_snapshot.specs.declared.fetched.Fetched.TheVariants as fetched
use Rattle.bcv_store.specs.StoreShown.{StoreShown, StoreTold}
use Rattle.bcv_transaction.specs.declared.answers.Came.{Came}
use Rattle.bcv_transaction.specs.declared.answers.Came.TheVariants as came
use Rattle.bcv_transaction.specs.declared.answers.Stepped.{Stepped}
use Rattle.bcv_transaction.specs.Open.{Open}
use Rattle.bcv_transaction.specs.OpenCalls.{CacheCalls, CallsIn}
use Rattle.bcv_transaction.specs.StepCalls.{GoesAfter, GoesOn, PageCalls, Steps}
use Rattle.bcv_client.specs.Transactions.{EndsTxn}
use Rattle.bcv_client.specs.TxnBegins.{BeginsTxn, BeginsView}
use Rattle.bcv_client.specs.declared.client.Client.{Client}

-- ---- calls on the open transactions

pub calls_slots : (o n : Open) (Refused : Type 0) (Does : Blocks → Blocks → Type 0) → CallsIn o n Refused Does → n.slots ≡ o.slots
calls_slots o n Refused Does calls = by o.cache n.cache calls
  where
    by : (a b : Option Blocks) → CacheCalls a b o n Refused Does → n.slots ≡ o.slots
    by (Some c) (Some d) x = x.0
    by (Some c) None x = absurd x
    by None b x = ap (λ (y : Open). y.slots) x.1

pub page_slots : (access : m.Access) (pages : Held) (o n : Open) (txn page : ℕ) (r : Came) → PageCalls access pages o txn page r n → n.slots ≡ o.slots
page_slots m.ToRead pages o n txn page r calls = calls_slots o n _ _ calls.0
page_slots m.ToHold pages o n txn page r calls = calls_slots o n _ _ calls

-- ---- a step that fetches

module _ (access : m.Access) (pages : Held) (store : StoreTold) (before after : StoreShown) (txn page : ℕ) (r : Stepped) where
  after_slots : (f : Fetched) (o n : Open) → GoesAfter access pages txn page f o r n → n.slots ≡ o.slots
  after_slots (fetched.In slot) o n goes = page_slots access pages o n txn page goes.0 goes.1
  after_slots _ o n goes = ap (λ (y : Open). y.slots) goes.1

  on_slots : (c : Came) (o n : Open) → GoesOn access pages store before after txn page c o r n → n.slots ≡ o.slots
  on_slots (came.Absent id) o n goes = after_slots goes.0 goes.1 n goes.3 ∙ calls_slots o goes.1 _ _ goes.2.0
  on_slots _ o n goes = ap (λ (y : Open). y.slots) goes.1

  pub steps_slots : (o n : Open) → Steps access pages store before after o txn page r n → n.slots ≡ o.slots
  steps_slots o n steps = on_slots steps.0 steps.1 n steps.3 ∙ page_slots access pages o steps.1 txn page steps.0 steps.2

-- ---- begin and end

module _ {D : Type 0} {g : _} (old new : Client D g) where
  view_slots : (v : View) (r : Reply) → BeginsView old new v r → new.txns.slots ≡ old.txns.slots
  view_slots v reply.TooMany begins = ap (λ (c : Client D g). c.txns.slots) begins.1
  view_slots v (reply.Txn n) begins = ap (λ (o : Open). o.slots) begins.begins.2
  view_slots v reply.NoMemory begins = begins.slots
  view_slots v _ begins = absurd begins

  pub begin_slots : (v : Option View) (r : Reply) → BeginsTxn old new v r → new.txns.slots ≡ old.txns.slots
  begin_slots None r begins = ap (λ (c : Client D g). c.txns.slots) begins.1
  begin_slots (Some v) r begins = view_slots v r begins

  pub end_slots : (n : ℕ) (set : Option ℕ) (r : Reply) → EndsTxn old new n set r → new.txns.slots ≡ old.txns.slots
  end_slots n None r ends = ap (λ (o : Open). o.slots) ends.same
  end_slots n (Some set) r ends = calls_slots old.txns new.txns _ _ ends.ends
