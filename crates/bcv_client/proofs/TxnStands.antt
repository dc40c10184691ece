-- A client over a log and the machine's transactions; and the client with other transactions over the same log.
use Rattle.std.proofs.Common.{◌≡◌, ◌∙◌, ℕ, List, map, Option, Some, None, IfSome, sym, ap, subst}
use Rattle.std.specs.Global.{Vec}
use Rattle.std.specs.List.{AllByRecursion}
use Rattle.bcv_base.specs.declared.id.Id16.{Id16}
use Rattle.bcv_base.specs.declared.log.Entry.{Entry as LogEntry}
use Rattle.bcv_base.specs.declared.manifest.Manifest.{Manifest}
use Rattle.bcv_base.specs.declared.seen.Latest.{Latest}
use Rattle.bcv_base.specs.declared.seen.Seen.{Seen}
use Rattle.bcv_base.specs.History.{Item, history_of, last_of}
use Rattle.bcv_cache.specs.Entry.{Blocks}
use Rattle.bcv_clientlog.specs.LogParts.{is_shut}
use Rattle.bcv_clientlaws.specs.Different.{with_txns}
use Rattle.bcv_clientlaws.proofs.OtherParts.{entries_fit, txns_fit}
use Rattle.bcv_clientstate.specs.Fits.{Fits, FitsEntry}
use Rattle.bcv_clientstate.specs.Journaled.{Journaled}
use Rattle.bcv_clientstate.specs.Parts.{Parts}
use Rattle.bcv_clientstate.specs.SeenClient.{Free, side_of}
use Rattle.bcv_clientstate.specs.SeenContainer.{block_in}
use Rattle.bcv_clientstate.proofs.Bases.{last_there}
use Rattle.bcv_databases.specs.Catalog.{Catalog}
use Rattle.bcv_dbmap.specs.Outlived.{IsPublished}
use Rattle.bcv_dbmap.specs.Sound.{Sound}
use Rattle.bcv_dbmap.proofs.ManifestLaws.{published_is_up_to}
use Rattle.bcv_disk.specs.DiskShown.{DiskShown}
use Rattle.bcv_ledger.specs.declared.ledger.Ledger.{Ledger}
use Rattle.bcv_machine.specs.State as m
use Rattle.bcv_machine.specs.State.{with_up}
use Rattle.bcv_pages.specs.Held.{Held}
use Rattle.bcv_slots.specs.declared.Slot.{Slot}
use Rattle.bcv_transaction.specs.MachineCalls.{AreFit, StandsFor, open_part, open_parts, side_with}
use Rattle.bcv_transaction.specs.Open.{Open}
use Rattle.bcv_transaction.proofs.FitLaws.{parts_are_seen}
use Rattle.bcv_client.specs.ClientForm.{HasSize}
use Rattle.bcv_client.specs.ClientParts.{entries_in, entries_of, parts_of, sets_in, task_part}
use Rattle.bcv_client.specs.InForm.{InForm}
use Rattle.bcv_client.specs.Events.{StandsOver, client_side, client_up}
use Rattle.bcv_client.specs.Transactions.{OnlyReading, OnlyTxns}
use Rattle.bcv_client.specs.declared.client.Client.{Client}
use Rattle.bcv_client.specs.declared.job.Job.{Job}
use Rattle.bcv_client.proofs.ReadsSaw.{saw_same}

-- ---- the cache

abbrev CacheFits : List Item → Option Blocks → Type 0
CacheFits past x = IfSome x (λ (c : Blocks). AllByRecursion (FitsEntry past) c.entries)

pub cached_in : (past : List Item) (x : Option Blocks) → AllByRecursion (FitsEntry past) (entries_in x) → CacheFits past x
cached_in past None all = tt
cached_in past (Some c) all = all

pub entries_there : (past : List Item) (x : Option Blocks) → CacheFits past x → AllByRecursion (FitsEntry past) (entries_in x)
entries_there past None all = tt
entries_there past (Some c) all = all

-- the cache has blocks of the container's size
cache_block : (past : List Item) (seen : Option ℕ) (c : Catalog) (x : Option Blocks) → Sound past → IfSome seen (λ b. (m : Manifest) × IsPublished m past × (m.block ≡ b))
    → HasSize seen c x → IfSome x (λ (d : Blocks). block_in (last_of past) ≡ d.block)
cache_block past None c x sound there has = subst (λ (y : Option Blocks). IfSome y (λ (d : Blocks). block_in (last_of past) ≡ d.block)) (sym has.2) tt
cache_block past (Some b) c None sound there has = tt
cache_block past (Some b) c (Some d) sound there has =
    let last = last_there past there.0 there.1 in
    ap block_in last.1 ∙ sym (published_is_up_to past there.0 last.0 sound last.1 there.1).block ∙ there.2 ∙ sym has.2

-- ---- what a client stands for

module _ {D : Type 0} {g : _} (shown : D → DiskShown) (c : Client D g) (moment : ℕ) (log : List LogEntry) (f : Free) (stands : StandsOver shown c log f) where
  abbrev past : List Item
  past = history_of log

  abbrev sets : ℕ → Held
  sets = sets_in c.ledger.databases

  pub are_fit : AreFit past sets c.txns
  are_fit = record {
    txns = parts_are_seen.fit past sets c.txns.txns stands.fits.txns;
    cached = cached_in past c.txns.cache stands.fits.cached;
  }

  pub stands_for : InForm c → StandsFor past sets c.txns (client_side moment log c f) (client_up log c)
  stands_for form = record {
    sound = stands.sound;
    fit = are_fit;
    txns = parts_are_seen.seen past sets c.txns.txns;
    block = cache_block past c.seen.block c.ledger.databases c.txns.cache stands.sound stands.fits.seen.block form.size;
    slots = stands.slots;
  }

-- ---- other transactions

abbrev pub parts_from : {D : Type 0} {g : _} → Id16 → Ledger D g → Seen → Option Latest → Open → List (Slot Job) → Parts
parts_from id l seen latest o tasks = record {
  id = id;
  closed = is_shut l.log;
  seen = seen;
  latest = latest;
  kept = l.databases.kept;
  known = l.databases.known;
  txns = map (open_part (sets_in l.databases)) o.txns;
  tasks = map (task_part l.databases) tasks;
}

module _ {D : Type 0} {g : _} (old new : Client D g) (only : OnlyReading old new) where
  -- the parts of the client with its transactions and tasks
  pub parts_read : parts_of new ≡ parts_from old.id old.ledger old.seen old.latest new.txns new.tasks.items
  parts_read =
      ap (λ (i : Id16). parts_from i new.ledger new.seen new.latest new.txns new.tasks.items) only.id
      ∙ ap (λ (l : Ledger D g). parts_from old.id l new.seen new.latest new.txns new.tasks.items) only.ledger
      ∙ ap (λ (s : Seen). parts_from old.id old.ledger s new.latest new.txns new.tasks.items) only.seen
      ∙ ap (λ (l : Option Latest). parts_from old.id old.ledger old.seen l new.txns new.tasks.items) only.latest

module _ {D : Type 0} {g : _} (old new : Client D g) (only : OnlyTxns old new) where
  abbrev others : Parts
  others = with_txns (open_parts (sets_in old.ledger.databases) new.txns.txns) (parts_of old)

  pub parts_other : parts_of new ≡ others
  parts_other =
      parts_read old new only.reading
      ∙ ap (λ (ts : Vec (Slot Job)). parts_from old.id old.ledger old.seen old.latest new.txns ts.items) only.tasks

  module _ (moment : ℕ) (log : List LogEntry) (f : Free) where
    -- the machine's side with the transactions is the client's
    pub side_other : side_with (history_of log) (sets_in old.ledger.databases) (client_side moment log old f) (client_up log old) new.txns.txns ≡ client_side moment log new f
    side_other =
        ap (λ (xs : List m.Txn). with_up (client_side moment log old f) (record (client_up log old) { txns = xs }))
        (sym (parts_are_seen.seen (history_of log) (sets_in old.ledger.databases) new.txns.txns))
        ∙ ap (λ (q : Parts). side_of moment (history_of log) q f) (sym parts_other)

  -- where they fit, the client stands with them
  pub stands_other : (shown : D → DiskShown) (log : List LogEntry) (f : Free) → StandsOver shown old log f → new.txns.slots ≡ old.txns.slots
      → AreFit (history_of log) (sets_in old.ledger.databases) new.txns → StandsOver shown new log f
  stands_other shown log f stands slots fit =
      let sets : ℕ → Held = sets_in old.ledger.databases in
      let ts = open_parts sets new.txns.txns in
      let with_them = txns_fit log (parts_of old) (entries_of old) ts stands.fits (parts_are_seen.back (history_of log) sets new.txns.txns fit.txns) in
      record {
        sound = stands.sound;
        fits = subst (λ (q : Parts). Fits q (entries_of new) log) (sym parts_other)
            (entries_fit log others (entries_of old) (entries_of new) with_them (entries_there (history_of log) new.txns.cache fit.cached));
        saw = saw_same (history_of log) old.tasks.items new.tasks.items (ap (λ (ts : Vec (Slot Job)). ts.items) only.tasks) stands.saw;
        journaled = subst (λ (l : Ledger D g). Journaled shown l.log l.databases.kept f) (sym only.reading.ledger) stands.journaled;
        slots = stands.slots ∙ sym slots;
      }
