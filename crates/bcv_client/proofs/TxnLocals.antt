-- A look and a free are events of the machine.
use Rattle.std.proofs.Common.{◌≡◌, ℕ, List, subst}
use Rattle.bcv_base.specs.History.{Item, history_of}
use Rattle.bcv_disk.specs.DiskShown.{DiskShown}
use Rattle.bcv_machine.specs.Reading.{Frees}
use Rattle.bcv_machine.specs.State.{Side, Up}
use Rattle.bcv_pages.specs.Held.{Held}
use Rattle.bcv_transaction.specs.declared.answers.Freed.{Freed}
use Rattle.bcv_transaction.specs.declared.answers.Freed.TheVariants as freed
use Rattle.bcv_transaction.specs.ListCalls.{FreesIn}
use Rattle.bcv_transaction.specs.MachineCalls.{FreesAs, StandsFor, side_with}
use Rattle.bcv_transaction.specs.Open.{AreOpen}
use Rattle.bcv_transaction.specs.OpenCalls.{CallsIn}
use Rattle.bcv_transaction.proofs.FitLaws.{calls_leave_fit}
use Rattle.bcv_client.specs.ClientParts.{sets_in}
use Rattle.bcv_client.specs.InForm.{InForm}
use Rattle.bcv_client.specs.Events.{IsNoEvent, Locally, client_side, client_up}
use Rattle.bcv_client.specs.Transactions.{OnlyTxns, freed_reply}
use Rattle.bcv_client.specs.declared.client.Client.{Client}
use Rattle.bcv_client.proofs.TxnCalls.{frees_stay}
use Rattle.bcv_client.proofs.TxnStands.{are_fit, side_other, stands_for, stands_other}

-- ---- free

freed_as : (s : Side) (u : Up) (k p : ℕ) (r : Freed) (t : Side) → FreesAs s u k p r t → Frees s u k p (freed_reply r) t
freed_as s u k p freed.Fine t as_ = as_
freed_as s u k p freed.NoTxn t as_ = as_
freed_as s u k p freed.BadPage t as_ = as_
freed_as s u k p freed.NotHeld t as_ = as_

freed_is_event : (r : Freed) → IsNoEvent (freed_reply r) → ⊥
freed_is_event freed.Fine is = is
freed_is_event freed.NoTxn is = is
freed_is_event freed.BadPage is = is
freed_is_event freed.NotHeld is = is

pub frees_locally : {D : Type 0} {g : _} (shown : D → DiskShown) (old new : Client D g) (k p : ℕ) (r : Freed) → InForm old → OnlyTxns old new → AreOpen old.txns → AreOpen new.txns
    → CallsIn old.txns new.txns (r ≡ freed.NoTxn) (λ c d. FreesIn c old.txns.txns k p r new.txns.txns d)
    → ((past : List Item) (sets : ℕ → Held) (s : Side) (u : Up) → StandsFor past sets old.txns s u → FreesAs s u k p r (side_with past sets s u new.txns.txns))
    → Locally shown (λ s u t. Frees s u k p (freed_reply r) t) old new (freed_reply r)
frees_locally shown old new k p r form only opened still frees machine = λ moment log f stands.
    let sets : ℕ → Held = sets_in old.ledger.databases in
    let s = client_side moment log old f in
    let u = client_up log old in
    let fit = calls_leave_fit.frees (history_of log) sets old.txns new.txns k p r (are_fit shown old moment log f stands) opened still frees in
    let goes = machine (history_of log) sets s u (stands_for shown old moment log f stands form) in
    record {
      stands = stands_other old new only shown log f stands (frees_stay old.txns new.txns k p r opened frees).slots fit;
      goes = record {
        event = λ is. subst (λ (t : Side). Frees s u k p (freed_reply r) t) (side_other old new only moment log f) (freed_as s u k p r _ goes);
        still = λ is. absurd (freed_is_event r is);
      };
    }
