-- A ledger that was loaded.
use Rattle.std.proofs.Common.{◌≡◌, ◌∙◌, true, is_some, sym, subst}
use Rattle.bcv_clientlog.specs.declared.load.LogLoad.TheVariants as log_load
use Rattle.bcv_clientlog.specs.declared.log.ClientLog.{ClientLog}
use Rattle.bcv_clientlog.specs.LogLoads.{LogLoads}
use Rattle.bcv_clientlog.specs.LogParts.{is_waiting, log_disk}
use Rattle.bcv_databases.specs.Sound.{AreLoaded}
use Rattle.bcv_databases.proofs.FoldLoaded.{folds_loaded}
use Rattle.bcv_disk.specs.Calls.{DiskFails-as}
use Rattle.bcv_disk.specs.DiskShown.{DiskShown, DiskTold}
use Rattle.bcv_journal.specs.declared.fault.JournalFault.{JournalFault}
use Rattle.bcv_journal.specs.declared.fault.JournalFault.TheVariants as fault
use Rattle.bcv_model.specs.declared.kept.Kept.{Kept}
use Rattle.bcv_ledger.specs.LedgerLoads.{IsOver, LedgerLoads}
use Rattle.bcv_ledger.specs.declared.load.LedgerLoad.{LedgerLoad}
use Rattle.bcv_ledger.specs.declared.load.LedgerLoad.TheVariants as load

module _ {D : Type 0} {g : _} (told : DiskTold) (shown : D → DiskShown) (disk : D) where
  module _ (log : ClientLog D g) (k : Kept) (loads : LogLoads told shown disk (log_load.Ready log k)) where
    -- what a log came to may be loaded, and the log waits where a publication is pending
    pub are_loaded : AreLoaded k
    are_loaded = folds_loaded loads.takes.notes k loads.takes.folds

    pub waits : is_some k.pending ≡ true → is_waiting log ≡ true
    waits some = loads.takes.waits ∙ some

    -- the log was read, and memory is missing for its databases
    starved : LogLoads {D = D} {g = g} told shown disk (log_load.Refused (log_disk log) fault.NoMemory)
    starved = record {
      loaded = λ t. tt;
      only = λ t. tt;
      takes = tt;
      any_moment = loads.any_moment;
      fails = DiskFails-as told (shown disk) (shown (log_disk log)) (λ is. absurd (cc)) (λ none. absurd none) loads.fails;
      calls = λ t u. tt;
    }

    pub over : (result : LedgerLoad D g) → IsOver log k result → LedgerLoads told shown disk result
    over (load.Ready l) is =
        let same : LogLoads told shown disk (log_load.Ready l.log k) = subst (λ (x : ClientLog D g). LogLoads told shown disk (log_load.Ready x k)) (sym is.log_is) loads in
        record { log = subst (λ (x : Kept). LogLoads told shown disk (log_load.Ready l.log x)) (sym is.kept) same; known = is.known }
    over (load.Refused new why) is =
        let there : LogLoads {D = D} {g = g} told shown disk (log_load.Refused new fault.NoMemory) = subst (λ (x : D). LogLoads {D = D} {g = g} told shown disk (log_load.Refused x fault.NoMemory)) (sym is.0) starved in
        record { log = subst (λ (x : JournalFault). LogLoads {D = D} {g = g} told shown disk (log_load.Refused new x)) (sym is.1) there; known = tt }
