-- What a crash may leave after a commit or a revert fits the log.
use Rattle.std.proofs.Common.{◌≡◌, ◌∙◌, ◌^◌, ◌<◌, ◌≤◌, ◌+◌, ℕ, false, List, [], ◌∷◌, Option, Some, None, refl, sym, subst}
use Rattle.bcv_base.specs.declared.log.Entry.{Entry}
use Rattle.bcv_base.specs.History.{history_of}
use Rattle.bcv_base.specs.Keyed.{with_keyed, without_keyed}
use Rattle.bcv_clientlaws.specs.OtherParts.{FitsKept}
use Rattle.bcv_clientlog.specs.LogParts.{LoadsUpTo, is_shut, log_area, log_disk, log_tail}
use Rattle.bcv_clientlog.specs.declared.log.ClientLog.{ClientLog}
use Rattle.bcv_clientstate.specs.NoteSides.{MayNote}
use Rattle.bcv_clientstate.specs.PartRefusals.{commit_reason_in, revert_reason_in, runs_publication}
use Rattle.bcv_clientstate.specs.SeenClient.{Free}
use Rattle.bcv_databases.specs.Catalog.{known_name}
use Rattle.bcv_databases.specs.Changes.{base_of}
use Rattle.bcv_databases.specs.Sound.{AreDatabases}
use Rattle.bcv_disk.specs.Crash.{LeavesOnly}
use Rattle.bcv_disk.specs.DiskShown.{DiskShown, DiskTold}
use Rattle.bcv_ledger.specs.FitsLedger.{FitsLedger}
use Rattle.bcv_ledger.specs.LedgerNotes.{parts_in}
use Rattle.bcv_ledger.specs.LocalCalls.{CommitsFrom, LedgerCommits, LedgerReverts, RevertsFrom}
use Rattle.bcv_ledger.specs.declared.ledger.Ledger.{Ledger}
use Rattle.bcv_ledger.proofs.FitsLedger.{commit_keeps_fit, revert_keeps_fit}
use Rattle.bcv_ledger.proofs.LocalLaws.{revert_may_stand}
use Rattle.bcv_machine.specs.State as m
use Rattle.bcv_model.specs.declared.ask.Commit.{Commit}
use Rattle.bcv_model.specs.declared.kept.Kept.{Kept}
use Rattle.bcv_model.specs.declared.note.Note.{Note}
use Rattle.bcv_model.specs.declared.note.Note.TheVariants as note
use Rattle.bcv_model.specs.declared.reply.Reply.{Reply}
use Rattle.bcv_model.specs.Commits.{writes_of}
use Rattle.bcv_model.specs.NoteRules.{MayStand}
use Rattle.bcv_model.specs.Notes.{after_note}
use Rattle.bcv_publisher.proofs.NotesFit.{client_kept, noted_kept}
use Rattle.bcv_client.specs.CallNames.{LeavesFit}
use Rattle.bcv_client.specs.ClientForm.{IsInForm}
use Rattle.bcv_client.specs.ClientParts.{entries_of, parts_of}
use Rattle.bcv_client.specs.Events.{StandsOver}
use Rattle.bcv_client.specs.Falls.{FallsHere}
use Rattle.bcv_client.specs.LocalWrites.{OnlyWrites}
use Rattle.bcv_client.specs.declared.client.Client.{Client}
use Rattle.bcv_client.proofs.Commits.{may_note}
use Rattle.bcv_client.proofs.FirstReasons.{free_to_revert, open_to_commit}
use Rattle.bcv_client.proofs.LeftFits.{noted_left, same_left}
use Rattle.bcv_client.proofs.Reverts.{SameLedger}

module _ {D : Type 0} {g : _} (told : DiskTold) (shown : D → DiskShown)
    (counts_now : (disk : D) → told.tells → (t : ℕ) (image : List ℕ) → t ≤ (shown disk).moment → (shown disk).may_leave image → (shown disk).left_since t image)
    (old new : Client D g) (db : List ℕ) (only : OnlyWrites old new) where
  abbrev kept : Kept
  kept = old.ledger.databases.kept

  -- one note, with which what is kept still fits
  module _ (tells : told.tells) (log : List Entry) (f : Free) (stands : StandsOver shown old log f) (fits : LeavesFit shown old log) where
    ledger_was : FitsLedger (history_of log) old.id kept old.ledger.databases.known
    ledger_was = record { named = stands.fits.named; locals = stands.fits.locals; known_fit = stands.fits.known; pending = stands.fits.pending }

    one_note : (x : Note) → MayStand kept x → FitsKept log old.id (after_note kept x) []
        → LeavesOnly (shown (log_disk old.ledger.log)) (shown (log_disk new.ledger.log)) (LoadsUpTo kept (log_tail old.ledger.log + log_area old.ledger.log) (x ∷ []))
        → LeavesFit shown new log
    one_note x may noted leaves =
        noted_left told shown counts_now tells old new log kept (log_tail old.ledger.log + log_area old.ledger.log) (x ∷ []) only.id leaves
        (client_kept log (entries_of old) (parts_of old) stands.fits, noted)

  -- ---- a commit

  module _ (c : Commit) (form : IsInForm old.seen old.ledger.databases old.txns old.tasks.items) (are : AreDatabases new.ledger.databases) (size : c.size < 2 ^ 32) where
    pub commit_falls : (r : Reply) → LedgerCommits told shown old.ledger new.ledger db c r → FallsHere told shown old new
    commit_falls r commits tells log f stands fits = by (commit_reason_in (parts_in old.ledger) db (writes_of c)) refl commits
      where
        by : (why : Option Reply) → commit_reason_in (parts_in old.ledger) db (writes_of c) ≡ why → CommitsFrom told shown old.ledger new.ledger db c r why → LeavesFit shown new log
        by (Some why) is from = same_left shown old new log only.id from.1.log fits
        by None is from =
            let may : (y : m.Note) × MayNote (history_of log) (parts_of old) from.note y = may_note told shown old new db c only form are size log from.note stands.sound stands.fits is from.is_note in
            let unshut : is_shut old.ledger.log ≡ false = (open_to_commit (parts_in old.ledger) db (writes_of c) is).0 in
            one_note tells log f stands fits from.note may.1.may
            (noted_kept log old.id kept from.note (without_keyed known_name db old.ledger.databases.known) stands.fits.ordered may.1.may
            (commit_keeps_fit (history_of log) old.id kept old.ledger.databases.known db c from.note (ledger_was tells log f stands fits) from.is_note))
            (from.ends.any_moment tells (stands.journaled.settled unshut) may.1.may)

  -- ---- a revert

  module _ (mid : Ledger D g) (s : SameLedger mid new.ledger) where
    pub revert_falls : (r : Reply) → LedgerReverts told shown old.ledger mid (runs_publication (parts_of old)) db r → FallsHere told shown old new
    revert_falls r reverts tells log f stands fits = by (revert_reason_in (parts_in old.ledger) (runs_publication (parts_of old)) db) refl reverts
      where
        by : (why : Option Reply) → revert_reason_in (parts_in old.ledger) (runs_publication (parts_of old)) db ≡ why
            → RevertsFrom told shown old.ledger mid db r why → LeavesFit shown new log
        by (Some why) is from = same_left shown old new log only.id (s.log ∙ from.1.log) fits
        by None is from =
            let may : MayNote (history_of log) (parts_of old) (note.Revert db) (m.Reverting db) = revert_may_stand log (entries_of old) (parts_of old) db stands.sound stands.fits is in
            let unshut : is_shut old.ledger.log ≡ false = (free_to_revert (parts_in old.ledger) (runs_publication (parts_of old)) db is).0 in
            one_note tells log f stands fits (note.Revert db) may.may
            (noted_kept log old.id kept (note.Revert db) (with_keyed known_name (base_of from.local) old.ledger.databases.known) stands.fits.ordered may.may
            (revert_keeps_fit (history_of log) old.id kept old.ledger.databases.known db from.local (ledger_was tells log f stands fits) from.is_local))
            (subst (λ (l : ClientLog D g). LeavesOnly (shown (log_disk old.ledger.log)) (shown (log_disk l)) (LoadsUpTo kept (log_tail old.ledger.log + log_area old.ledger.log) (note.Revert db ∷ []))) (sym s.log)
            (from.ends.any_moment tells (stands.journaled.settled unshut) may.may))
