-- The step of a resolve in the machine's words, by what it found and by how its note ended.
use Rattle.std.specs.Prelude.{◌≡◌, ℕ, true, false, List, Some}
use Rattle.bcv_base.specs.declared.id.Id16.{Id16}
use Rattle.bcv_base.specs.declared.log.Entry.{Entry}
use Rattle.bcv_base.specs.declared.outcome.Outcome.{Outcome}
use Rattle.bcv_base.specs.declared.outcome.Outcome.TheVariants as outcome
use Rattle.bcv_base.specs.declared.seen.Seen.{Seen}
use Rattle.bcv_base.specs.History.{Item, history_of}
use Rattle.bcv_base.specs.Ids.{IsId}
use Rattle.bcv_base.specs.Keyed.{with_made}
use Rattle.bcv_cache.specs.Entry as cache
use Rattle.bcv_databases.specs.Catalog.{known_name}
use Rattle.bcv_databases.specs.Changes.{known_left}
use Rattle.bcv_databases.specs.declared.known.Known.{Known}
use Rattle.bcv_dbmap.specs.Sound.{IsSoundLog}
use Rattle.bcv_machine.specs.Resolve.{Resolves}
use Rattle.bcv_machine.specs.State as m
use Rattle.bcv_model.specs.declared.kept.Kept.{Kept}
use Rattle.bcv_model.specs.declared.kept.PendingPub.{PendingPub}
use Rattle.bcv_model.specs.declared.note.Note.TheVariants as note
use Rattle.bcv_model.specs.declared.reply.Reply.TheVariants as reply
use Rattle.bcv_model.specs.Notes.{after_note, note_size}
use Rattle.bcv_publish.specs.declared.resolved.Resolved.{Resolved}
use Rattle.bcv_publish.specs.declared.resolved.Resolved.TheVariants as resolved
use Rattle.bcv_publish.specs.Resolve.{SoundResolveEnds}
use Rattle.bcv_clientstate.specs.Fits.{Fits}
use Rattle.bcv_clientstate.specs.Journaled.{free_failed, free_noted}
use Rattle.bcv_clientstate.specs.LocalSides.{shut}
use Rattle.bcv_clientstate.specs.NoteSides.{with_note}
use Rattle.bcv_clientstate.specs.PartRefusals.{runs_publication}
use Rattle.bcv_clientstate.specs.Parts.{Parts}
use Rattle.bcv_clientstate.specs.SeenClient.{Free, seen_up, side_of}

-- ---- the client afterwards

-- what is known then, where this is kept: the database of the publication, where no commits of it are left
abbrev pub known_resolved : ℕ → Kept → Parts → List Known
known_resolved n after p = with_made known_name (known_left n after.locals p.kept.pending) p.known

-- the pending publication was made as the version of a number
abbrev pub resolved_at : ℕ → Id16 → Parts → Parts
resolved_at n id p =
    record (with_note (note.Done id n) p) { known = known_resolved n (after_note p.kept (note.Done id n)) p }

-- what is pending and what a resolve of it found, while no task publishes
pub record IsResolved (log : List Entry) (entries : List cache.Entry) (p : Parts) (x : PendingPub) (seen : Seen)
    (o : Outcome) (r : Resolved) : Type 0 where
  pub sound : IsSoundLog log
  pub fits : Fits p entries log
  pub quiet : runs_publication p ≡ false
  pub pending : p.kept.pending ≡ Some x
  pub is_id : IsId x.id
  pub ends : SoundResolveEnds o (history_of log) seen p.id x.id r

-- ---- a version has it

-- done is noted
abbrev pub ResolvesAt : Type 0
ResolvesAt =
    (moment : ℕ) (log : List Entry) (entries : List cache.Entry) (p : Parts) (f : Free) (x : PendingPub) (n : ℕ)
    (seen : Seen) (o : Outcome)
    → IsResolved log entries p x seen o (resolved.At n)
    → Resolves (side_of moment (history_of log) p f) (seen_up (history_of log) p) o (reply.Resolved n)
    (side_of moment (history_of log) (resolved_at n x.id p) (free_noted (note_size (note.Done x.id n)) f))

-- noting it met a fault of the disk
abbrev pub ResolvedIsNotNoted : Type 0
ResolvedIsNotNoted =
    (moment : ℕ) (log : List Entry) (entries : List cache.Entry) (p : Parts) (f : Free) (x : PendingPub) (n : ℕ)
    (seen : Seen) (o : Outcome)
    → IsResolved log entries p x seen o (resolved.At n) → f.failing ≡ true
    → Resolves (side_of moment (history_of log) p f) (seen_up (history_of log) p) o reply.DiskFault
    (side_of moment (history_of log) (shut p) (free_failed (note_size (note.Done x.id n)) (m.Finishing n) f))

-- ---- no version has it

-- void is noted
abbrev pub ResolvesVoid : Type 0
ResolvesVoid =
    (moment : ℕ) (log : List Entry) (entries : List cache.Entry) (p : Parts) (f : Free) (x : PendingPub)
    (seen : Seen) (o : Outcome)
    → IsResolved log entries p x seen o resolved.Voided
    → Resolves (side_of moment (history_of log) p f) (seen_up (history_of log) p) o reply.Voided
    (side_of moment (history_of log) (with_note (note.Void x.id) p) (free_noted (note_size (note.Void x.id)) f))

-- noting it met a fault of the disk
abbrev pub VoidIsNotNoted : Type 0
VoidIsNotNoted =
    (moment : ℕ) (log : List Entry) (entries : List cache.Entry) (p : Parts) (f : Free) (x : PendingPub)
    (seen : Seen) (o : Outcome)
    → IsResolved log entries p x seen o resolved.Voided → f.failing ≡ true
    → Resolves (side_of moment (history_of log) p f) (seen_up (history_of log) p) o reply.DiskFault
    (side_of moment (history_of log) (shut p) (free_failed (note_size (note.Void x.id)) m.Voiding f))

-- ---- the store failed

abbrev pub ResolveMeetsFault : Type 0
ResolveMeetsFault =
    (moment : ℕ) (past : List Item) (p : Parts) (f : Free) (o : Outcome) → (o ≡ outcome.Ok → ⊥)
    → Resolves (side_of moment past p f) (seen_up past p) o reply.StoreFault (side_of moment past p f)
