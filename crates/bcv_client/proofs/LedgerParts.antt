-- A client of which nothing has changed but the ledger.
use Rattle.std.proofs.Common.{◌≡◌, ◌∙◌, Bool, List, Option, sym, ap, subst}
use Rattle.std.specs.List.{AllByRecursion}
use Rattle.bcv_base.specs.declared.id.Id16.{Id16}
use Rattle.bcv_base.specs.declared.log.Entry.{Entry}
use Rattle.bcv_base.specs.declared.seen.Latest.{Latest}
use Rattle.bcv_base.specs.declared.seen.Seen.{Seen}
use Rattle.bcv_base.specs.History.{history_of}
use Rattle.bcv_cache.specs.Entry as cache
use Rattle.bcv_clientstate.specs.Fits.{Fits}
use Rattle.bcv_clientstate.specs.Journaled.{Journaled}
use Rattle.bcv_clientstate.specs.Parts.{LedgerParts, OpenTxn, Parts, Task, with_ledger}
use Rattle.bcv_clientstate.specs.SeenClient.{Free}
use Rattle.bcv_databases.specs.Catalog.{Catalog}
use Rattle.bcv_databases.specs.declared.known.Known.{Known}
use Rattle.bcv_disk.specs.DiskShown.{DiskShown}
use Rattle.bcv_ledger.specs.LedgerNotes.{parts_in}
use Rattle.bcv_model.specs.declared.kept.Kept.{Kept}
use Rattle.bcv_slots.specs.declared.Slot.{Slot}
use Rattle.bcv_transaction.specs.Open.{Open}
use Rattle.bcv_client.specs.ClientForm.{IsInForm}
use Rattle.bcv_client.specs.ClientParts.{entries_in, entries_of, parts_of}
use Rattle.bcv_client.specs.Events.{StandsOver}
use Rattle.bcv_client.specs.LocalWrites.{OnlyWrites}
use Rattle.bcv_client.specs.declared.client.Client.{Client}
use Rattle.bcv_client.specs.declared.job.Job.{Job}
use Rattle.bcv_client.proofs.ReadsSaw.{saw_same}
use Rattle.bcv_client.proofs.SameParts.{parts_by}
use Rattle.bcv_client.proofs.SetViews.{KeepsSlot, KeepsTxn, tasks_same, txns_same}

-- ---- the parts

module _ {D : Type 0} {g : _} (old new : Client D g) (only : OnlyWrites old new) where
  abbrev p : Parts
  p = parts_of old

  pub ledger_alone : IsInForm old.seen old.ledger.databases old.txns old.tasks.items
      → AllByRecursion (KeepsTxn old.ledger.databases.sets new.ledger.databases.sets) old.txns.txns
      → AllByRecursion (KeepsSlot old.ledger.databases.sets new.ledger.databases.sets) old.tasks.items
      → parts_of new ≡ with_ledger (parts_in new.ledger) p
  ledger_alone form txns tasks =
      let c : Catalog = old.ledger.databases in
      let d : Catalog = new.ledger.databases in
      ap (λ (x : Id16). parts_by x new.ledger new.seen new.latest new.txns new.tasks.items) only.id
      ∙ ap (λ (x : Seen). parts_by old.id new.ledger x new.latest new.txns new.tasks.items) only.seen
      ∙ ap (λ (x : Option Latest). parts_by old.id new.ledger old.seen x new.txns new.tasks.items) only.latest
      ∙ ap (λ (x : Open). parts_by old.id new.ledger old.seen old.latest x new.tasks.items) only.txns
      ∙ ap (λ (x : List (Slot Job)). parts_by old.id new.ledger old.seen old.latest old.txns x) only.tasks
      ∙ ap (λ (x : List OpenTxn). record (parts_by old.id new.ledger old.seen old.latest old.txns old.tasks.items) { txns = x }) (txns_same c d old.txns.txns form.txns txns)
      ∙ ap (λ (x : List Task). record (with_ledger (parts_in new.ledger) p) { tasks = x }) (tasks_same c d old.seen old.txns old.tasks.items form.tasks_are.each tasks)

  pub stands_by : (shown : D → DiskShown) (log : List Entry) (f free : Free) → parts_of new ≡ with_ledger (parts_in new.ledger) p → StandsOver shown old log f
      → Fits (with_ledger (parts_in new.ledger) p) (entries_of old) log → Journaled shown new.ledger.log new.ledger.databases.kept free → free.slots ≡ f.slots
      → StandsOver shown new log free
  stands_by shown log f free is stands fits journaled slots = record {
    sound = stands.sound;
    fits =
        subst (λ (q : Parts). Fits q (entries_of new) log) (sym is)
        (subst (λ (o : Open). Fits (with_ledger (parts_in new.ledger) p) (entries_in o.cache) log) (sym only.txns) fits);
    saw = saw_same (history_of log) old.tasks.items new.tasks.items only.tasks stands.saw;
    journaled = journaled;
    slots = slots ∙ stands.slots ∙ sym (ap (λ (o : Open). o.slots) only.txns);
  }

-- ---- a client of another ledger that keeps the same

pub fits_closed : (b : Bool) (p : Parts) (entries : List cache.Entry) (log : List Entry) → Fits p entries log → Fits (record p { closed = b }) entries log
fits_closed b p entries log fits = record {
  named = fits.named;
  is_id = fits.is_id;
  ordered = fits.ordered;
  locals = fits.locals;
  known_order = fits.known_order;
  known_apart = fits.known_apart;
  known = fits.known;
  pending = fits.pending;
  latest = fits.latest;
  seen = fits.seen;
  txns = fits.txns;
  tasks = fits.tasks;
  staged = fits.staged;
  cached = fits.cached;
}

pub fits_same : (l : LedgerParts) (p : Parts) (entries : List cache.Entry) (log : List Entry) → l.kept ≡ p.kept → l.known ≡ p.known → Fits p entries log → Fits (with_ledger l p) entries log
fits_same l p entries log kept knows fits =
    subst (λ (k : Kept). Fits (record p { closed = l.closed; kept = k; known = l.known }) entries log) (sym kept)
    (subst (λ (k : List Known). Fits (record p { closed = l.closed; kept = p.kept; known = k }) entries log) (sym knows) (fits_closed l.closed p entries log fits))

pub ledger_same : (l : LedgerParts) (p : Parts) → l.closed ≡ p.closed → l.kept ≡ p.kept → l.known ≡ p.known → with_ledger l p ≡ p
ledger_same l p closed kept knows =
    ap (λ (b : Bool). record p { closed = b; kept = l.kept; known = l.known }) closed
    ∙ ap (λ (k : Kept). record p { kept = k; known = l.known }) kept
    ∙ ap (λ (k : List Known). record p { known = k }) knows
