-- What ends a publication whose intent is noted, before its put: void is noted first, and where it cannot be, that is answered.
use Rattle.std.specs.Prelude.{◌≡◌, ◌⊎◌, true, false, List, Some, None}
use Rattle.bcv_base.specs.declared.id.Id16.{Id16}
use Rattle.bcv_base.specs.declared.log.Entry.{Entry}
use Rattle.bcv_base.specs.declared.outcome.Outcome.{Outcome}
use Rattle.bcv_base.specs.declared.outcome.Outcome.TheVariants as outcome
use Rattle.bcv_base.specs.History.{Item, history_of}
use Rattle.bcv_base.specs.Ids.{IsId}
use Rattle.bcv_cache.specs.Entry as cache
use Rattle.bcv_dbmap.specs.declared.fault.EditFault.{EditFault}
use Rattle.bcv_dbmap.specs.Sound.{IsSoundLog}
use Rattle.bcv_machine.specs.ManifestGet.{GetsManifest, IsFound}
use Rattle.bcv_machine.specs.MiddleStep.{GoesOn, IsGone, after_request}
use Rattle.bcv_machine.specs.State as m
use Rattle.bcv_model.specs.declared.kept.PendingPub.{PendingPub}
use Rattle.bcv_model.specs.declared.note.Note.TheVariants as note
use Rattle.bcv_model.specs.declared.reply.Reply.{Reply}
use Rattle.bcv_model.specs.declared.reply.Reply.TheVariants as reply
use Rattle.bcv_model.specs.Notes.{note_size}
use Rattle.bcv_clientstate.specs.CheckLaws.{fault_reply}
use Rattle.bcv_clientstate.specs.Fits.{Fits}
use Rattle.bcv_clientstate.specs.Journaled.{free_failed, free_noted}
use Rattle.bcv_clientstate.specs.LocalSides.{shut}
use Rattle.bcv_clientstate.specs.NoteSides.{with_note}
use Rattle.bcv_clientstate.specs.PartRefusals.{runs_publication}
use Rattle.bcv_clientstate.specs.Parts.{Parts}
use Rattle.bcv_clientstate.specs.SeenClient.{Free, seen_client, seen_up}

-- a container and the client
abbrev pub side_with : m.Container → List Item → Parts → Free → m.Side
side_with c past p f = record { container = c; client = seen_client past p f }

-- ---- before and after

-- a publication is pending whose task was taken out, and no other task publishes
pub record IsToBeVoided (log : List Entry) (entries : List cache.Entry) (p : Parts) (x : PendingPub)
    (q : m.Publication) : Type 0 where
  pub sound : IsSoundLog log
  pub fits : Fits p entries log
  pub quiet : runs_publication p ≡ false
  pub pending : p.kept.pending ≡ Some x
  pub is_id : IsId x.id
  pub intended : q.intended ≡ true

-- void stands, and the fault is answered; or noting it met a fault of the disk
abbrev pub EndsVoided : Parts → Free → Id16 → Reply → Reply → Parts → Free → Type 0
EndsVoided p f id fault r after free =
    ((r ≡ fault) × (after ≡ with_note (note.Void id) p) × (free ≡ free_noted (note_size (note.Void id)) f))
    ⊎ ((r ≡ reply.DiskFault) × (f.failing ≡ true) × (after ≡ shut p)
    × (free ≡ free_failed (note_size (note.Void id)) m.Voiding f))

-- ---- the manifest's get

-- that met a fault of the store
abbrev pub ReadFailsVoided : Type 0
ReadFailsVoided =
    (c : m.Container) (log : List Entry) (entries : List cache.Entry) (p after : Parts) (f free : Free)
    (x : PendingPub) (q : m.Publication) (o : Outcome) (r : Reply)
    → IsToBeVoided log entries p x q → (o ≡ outcome.Ok → ⊥) → EndsVoided p f x.id reply.StoreFault r after free
    → GetsManifest (side_with c (history_of log) p f) (seen_up (history_of log) p) q o r
    (side_with c (history_of log) after free) None

-- that found why the edit can't be published
abbrev pub ReadFindsFaultVoided : Type 0
ReadFindsFaultVoided =
    (c : m.Container) (log : List Entry) (entries : List cache.Entry) (p after : Parts) (f free : Free)
    (x : PendingPub) (q : m.Publication) (e : EditFault) (r : Reply)
    → IsToBeVoided log entries p x q → IsFound c q (m.last_version c) (fault_reply e)
    → EndsVoided p f x.id (fault_reply e) r after free
    → GetsManifest (side_with c (history_of log) p f) (seen_up (history_of log) p) q outcome.Ok r
    (side_with c (history_of log) after free) None

-- that found no container
abbrev pub ReadFindsNoneVoided : Type 0
ReadFindsNoneVoided =
    (c : m.Container) (log : List Entry) (entries : List cache.Entry) (p after : Parts) (f free : Free)
    (x : PendingPub) (q : m.Publication) (r : Reply)
    → IsToBeVoided log entries p x q → IsFound c q (m.last_version c) reply.NoContainer
    → EndsVoided p f x.id reply.NoContainer r after free
    → GetsManifest (side_with c (history_of log) p f) (seen_up (history_of log) p) q outcome.Ok r
    (side_with c (history_of log) after free) None

-- ---- a request for a block

-- that met a fault of the store
abbrev pub RequestFailsVoided : Type 0
RequestFailsVoided =
    (c : m.Container) (log : List Entry) (entries : List cache.Entry) (p after : Parts) (f free : Free)
    (x : PendingPub) (q : m.Publication) (o : Outcome) (r : Reply)
    → IsToBeVoided log entries p x q → (o ≡ outcome.Ok → ⊥) → EndsVoided p f x.id reply.StoreFault r after free
    → GoesOn (side_with c (history_of log) p f) (seen_up (history_of log) p) q o r
    (side_with (after_request o q c) (history_of log) after free) None

-- that found the old bytes of a block gone
abbrev pub RequestFindsGoneVoided : Type 0
RequestFindsGoneVoided =
    (c : m.Container) (log : List Entry) (entries : List cache.Entry) (p after : Parts) (f free : Free)
    (x : PendingPub) (q : m.Publication) (r : Reply)
    → IsToBeVoided log entries p x q → IsGone c q.kind q.left → EndsVoided p f x.id reply.Gone r after free
    → GoesOn (side_with c (history_of log) p f) (seen_up (history_of log) p) q outcome.Ok r
    (side_with (after_request outcome.Ok q c) (history_of log) after free) None
