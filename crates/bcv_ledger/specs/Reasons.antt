-- Why a commit or a revert is refused, by the view of its database in memory.
use Rattle.std.specs.Prelude.{◌≡◌, ℕ, Bool, true, not, List, [], ◌∷◌, Option, Some, None, is_none, nat_lt}
use Rattle.bcv_base.specs.Image.{Writes}
use Rattle.bcv_base.specs.ManifestRules.{blocks_needed}
use Rattle.bcv_base.specs.Views.{is_commit}
use Rattle.bcv_clientlog.specs.declared.log.ClientLog.{ClientLog}
use Rattle.bcv_clientlog.specs.Noting.{LogCompacts}
use Rattle.bcv_databases.specs.Catalog.{Catalog, View}
use Rattle.bcv_databases.specs.Changes.{commit_note}
use Rattle.bcv_disk.specs.DiskShown.{DiskShown, DiskTold}
use Rattle.bcv_journal.specs.declared.fault.Noted.{Noted}
use Rattle.bcv_machine.specs.Refusals.{first_reason}
use Rattle.bcv_model.specs.declared.ask.Commit.{Commit}
use Rattle.bcv_model.specs.declared.note.Note.{Note}
use Rattle.bcv_model.specs.declared.reply.Reply.{Reply}
use Rattle.bcv_model.specs.declared.reply.Reply.TheVariants as reply
use Rattle.bcv_clientstate.specs.Parts.{LedgerParts}

-- of a client's parts, what its log and databases have
abbrev pub parts_by : Bool → Catalog → LedgerParts
parts_by closed c = record { closed = closed; kept = c.kept; known = c.known }

abbrev pub commit_reason_by : Bool → Writes → Option View → Option Reply
commit_reason_by closed w None = first_reason ((closed, reply.Closed) ∷ (true, reply.NoDatabase) ∷ [])
commit_reason_by closed w (Some v) =
    first_reason
    ((closed, reply.Closed) ∷ (not (is_commit v.entry.page_size w), reply.BadPage) ∷ (nat_lt 65536 (blocks_needed v.block v.entry.page_size w.size), reply.TooLarge) ∷ [])

abbrev pub revert_reason_by : Bool → Bool → Bool → Option View → Option Reply
revert_reason_by closed pending busy None =
    first_reason ((closed, reply.Closed) ∷ (pending, reply.Pending) ∷ (busy, reply.Busy) ∷ (true, reply.NoDatabase) ∷ [])
revert_reason_by closed pending busy (Some v) =
    first_reason ((closed, reply.Closed) ∷ (pending, reply.Pending) ∷ (busy, reply.Busy) ∷ (is_none v.commits, reply.Nothing) ∷ [])

-- the note of a commit is tried, of a log whose notes come to what the databases keep
pub record NotesOver {D : Type 0} {g : _} (told : DiskTold) (shown : D → DiskShown) (old new : ClientLog D g) (c : Catalog) (db : List ℕ) (commit : Commit) (result : Noted) : Type 0 where
  pub note : Note
  pub is_note : commit_note c db commit ≡ Some note
  pub notes : LogCompacts told shown old new c.kept note result
