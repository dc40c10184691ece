-- What ends a publication whose intent is noted is the machine's.
use Rattle.std.proofs.Common.{◌≡◌, ◌∙◌, Bool, true, List, Option, None, inl, inr, refl, sym, ap, subst}
use Rattle.bcv_base.specs.declared.log.Entry.{Entry}
use Rattle.bcv_base.specs.declared.outcome.Outcome.TheVariants as outcome
use Rattle.bcv_base.specs.History.{Item, history_of}
use Rattle.bcv_cache.specs.Entry as cache
use Rattle.bcv_dbmap.specs.declared.fault.EditFault.TheVariants as fault
use Rattle.bcv_machine.specs.ManifestGet.{GetsManifest, IsFound}
use Rattle.bcv_machine.specs.MiddleStep.{GoesOn, after_request}
use Rattle.bcv_machine.specs.Noting.{FaultEnds, noted}
use Rattle.bcv_machine.specs.State as m
use Rattle.bcv_machine.specs.State.{with_client}
use Rattle.bcv_model.specs.declared.kept.PendingPub.{PendingPub}
use Rattle.bcv_model.specs.declared.note.Note as bytes
use Rattle.bcv_model.specs.declared.note.Note.TheVariants as note
use Rattle.bcv_model.specs.declared.reply.Reply.{Reply}
use Rattle.bcv_model.specs.declared.reply.Reply.TheVariants as reply
use Rattle.bcv_model.specs.Notes.{note_size}
use Rattle.bcv_clientstate.specs.Journaled.{free_noted}
use Rattle.bcv_clientstate.specs.LocalSides.{shut}
use Rattle.bcv_clientstate.specs.NoteSides.{MayNote, while_up, with_note}
use Rattle.bcv_clientstate.specs.Parts.{Parts}
use Rattle.bcv_clientstate.specs.SeenClient.{Free, seen_client, seen_up}
use Rattle.bcv_clientstate.proofs.NoteSides.{fails_as_noted, stands_as_noted}
use Rattle.bcv_clientlaws.specs.FaultEnds.{EndsVoided, IsToBeVoided, ReadFailsVoided, ReadFindsFaultVoided, ReadFindsNoneVoided, RequestFailsVoided, RequestFindsGoneVoided, side_with}
use Rattle.bcv_clientlaws.proofs.PendingEnds.{may_void, same_tasks}

module _ (c : m.Container) (log : List Entry) (entries : List cache.Entry) (p : Parts) (f : Free) (x : PendingPub) (q : m.Publication) (is : IsToBeVoided log entries p x q) where
  abbrev past : List Item
  past = history_of log

  abbrev s : m.Side
  s = side_with c past p f

  abbrev u : m.Up
  u = seen_up past p

  abbrev void : bytes.Note
  void = note.Void x.id

  may : MayNote past p void m.Voiding
  may = may_void log entries p x is.sound is.fits is.pending is.is_id

  up_void : seen_up past (with_note void p) ≡ u
  up_void = ap (λ (ts : List m.Task). record u { tasks = ts }) (same_tasks None p.kept.pending p.tasks is.quiet)

  -- how long the note is does not hang on the container
  stood : side_with c past (with_note void p) (free_noted (note_size void) f) ≡ with_client s (noted s u m.Voiding)
  stood =
      ap (λ (w : m.Up). with_client s (while_up (seen_client past (with_note void p) (free_noted (note_size void) f)) w)) up_void
      ∙ ap (with_client s) (sym (stands_as_noted 0 past p f u void m.Voiding may))

  -- a fault but that of the disk, and what the machine makes of it where void stands
  pub ends : (end : Reply) → ((t : m.Side) → t ≡ with_client s (noted s u m.Voiding) → FaultEnds true s u end end t)
      → (r : Reply) (after : Parts) (free : Free) → EndsVoided p f x.id end r after free → FaultEnds q.intended s u end r (side_with c past after free)
  ends end says r after free (inl e) =
      subst (λ (b : Bool). FaultEnds b s u end r (side_with c past after free)) (sym is.intended)
      (subst (λ (y : Reply). FaultEnds true s u end y (side_with c past after free)) (sym e.0)
      (says (side_with c past after free)
      (ap (λ (a : Parts). side_with c past a free) e.1 ∙ ap (side_with c past (with_note void p)) e.2 ∙ stood)))
  ends end says r after free (inr e) =
      subst (λ (b : Bool). FaultEnds b s u end r (side_with c past after free)) (sym is.intended)
      (subst (λ (y : Reply). FaultEnds true s u end y (side_with c past after free)) (sym e.0)
      (refl, (e.1, ap (λ (a : Parts). seen_client past a free) e.2 ∙ ap (seen_client past (shut p)) e.3 ∙ sym (fails_as_noted 0 past p f u void m.Voiding may))))

-- ---- the manifest's get

pub read_fails_voided : ReadFailsVoided
read_fails_voided c log entries p after f free x q outcome.Ok r is not how = absurd (not refl)
read_fails_voided c log entries p after f free x q outcome.Fail r is not how =
    (ends c log entries p f x q is reply.StoreFault (λ t e. (refl, e)) r after free how, refl)
read_fails_voided c log entries p after f free x q outcome.Lost r is not how =
    (ends c log entries p f x q is reply.StoreFault (λ t e. (refl, e)) r after free how, refl)

-- a get that is done ends with a fault that was found, or with that of the disk
found_ends : (c : m.Container) (log : List Entry) (entries : List cache.Entry) (p after : Parts) (f free : Free) (x : PendingPub) (q : m.Publication) (end r : Reply)
    → (is : IsToBeVoided log entries p x q) → IsFound c q (m.last_version c) end
    → ((s : m.Side) (u : m.Up) (t : m.Side) → t ≡ with_client s (noted s u m.Voiding) → FaultEnds true s u end end t)
    → ((s : m.Side) (u : m.Up) (t : m.Side) (rest : Option m.Publication) → ((y : Reply) × IsFound s.container q (m.last_version s.container) y × FaultEnds q.intended s u y end t) × (rest ≡ None) → GetsManifest s u q outcome.Ok end t rest)
    → EndsVoided p f x.id end r after free
    → GetsManifest (side_with c (history_of log) p f) (seen_up (history_of log) p) q outcome.Ok r (side_with c (history_of log) after free) None
found_ends c log entries p after f free x q end r is found says gets (inl e) =
    let s : m.Side = side_with c (history_of log) p f in
    let u : m.Up = seen_up (history_of log) p in
    let t : m.Side = side_with c (history_of log) after free in
    subst (λ (y : Reply). GetsManifest s u q outcome.Ok y t None) (sym e.0)
    (gets s u t None ((end, found, ends c log entries p f x q is end (says s u) end after free (inl (refl, e.1, e.2))), refl))
found_ends c log entries p after f free x q end r is found says gets (inr e) =
    let s : m.Side = side_with c (history_of log) p f in
    let u : m.Up = seen_up (history_of log) p in
    let t : m.Side = side_with c (history_of log) after free in
    subst (λ (y : Reply). GetsManifest s u q outcome.Ok y t None) (sym e.0)
    ((end, found, ends c log entries p f x q is end (says s u) reply.DiskFault after free (inr (refl, e.1, e.2, e.3))), refl)

pub read_finds_none_voided : ReadFindsNoneVoided
read_finds_none_voided c log entries p after f free x q r is found how =
    found_ends c log entries p after f free x q reply.NoContainer r is found (λ s u t e. (refl, e)) (λ s u t rest g. g) how

pub read_finds_fault_voided : ReadFindsFaultVoided
read_finds_fault_voided c log entries p after f free x q fault.VersionsFull r is found how =
    found_ends c log entries p after f free x q reply.VersionsFull r is found (λ s u t e. (refl, e)) (λ s u t rest g. g) how
read_finds_fault_voided c log entries p after f free x q fault.Exists r is found how =
    found_ends c log entries p after f free x q reply.Exists r is found (λ s u t e. (refl, e)) (λ s u t rest g. g) how
read_finds_fault_voided c log entries p after f free x q fault.PageTooLarge r is found how =
    found_ends c log entries p after f free x q reply.PageTooLarge r is found (λ s u t e. (refl, e)) (λ s u t rest g. g) how
read_finds_fault_voided c log entries p after f free x q fault.TooLarge r is found how =
    found_ends c log entries p after f free x q reply.TooLarge r is found (λ s u t e. (refl, e)) (λ s u t rest g. g) how
read_finds_fault_voided c log entries p after f free x q fault.TooManyDatabases r is found how =
    found_ends c log entries p after f free x q reply.TooManyDatabases r is found (λ s u t e. (refl, e)) (λ s u t rest g. g) how
read_finds_fault_voided c log entries p after f free x q fault.NoDatabase r is found how =
    found_ends c log entries p after f free x q reply.NoDatabase r is found (λ s u t e. (refl, e)) (λ s u t rest g. g) how
read_finds_fault_voided c log entries p after f free x q (fault.Conflict mine theirs) r is found how =
    found_ends c log entries p after f free x q (reply.Conflict mine theirs) r is found (λ s u t e. (refl, e)) (λ s u t rest g. g) how
read_finds_fault_voided c log entries p after f free x q fault.WritersFull r is found how =
    found_ends c log entries p after f free x q reply.WritersFull r is found (λ s u t e. (refl, e)) (λ s u t rest g. g) how
read_finds_fault_voided c log entries p after f free x q fault.DeleteListFull r is found how =
    found_ends c log entries p after f free x q reply.DeleteListFull r is found (λ s u t e. (refl, e)) (λ s u t rest g. g) how
read_finds_fault_voided c log entries p after f free x q fault.ManifestTooLong r is found how =
    found_ends c log entries p after f free x q reply.ManifestTooLong r is found (λ s u t e. (refl, e)) (λ s u t rest g. g) how

-- ---- a request for a block

pub request_fails_voided : RequestFailsVoided
request_fails_voided c log entries p after f free x q outcome.Ok r is not how = absurd (not refl)
request_fails_voided c log entries p after f free x q outcome.Fail r is not how =
    ((reply.StoreFault, refl, ends (after_request outcome.Fail q c) log entries p f x q is reply.StoreFault (λ t e. (refl, e)) r after free how), refl)
request_fails_voided c log entries p after f free x q outcome.Lost r is not how =
    ((reply.StoreFault, refl, ends (after_request outcome.Lost q c) log entries p f x q is reply.StoreFault (λ t e. (refl, e)) r after free how), refl)

pub request_finds_gone_voided : RequestFindsGoneVoided
request_finds_gone_voided c log entries p after f free x q r is gone (inl e) =
    let s : m.Side = side_with c (history_of log) p f in
    let u : m.Up = seen_up (history_of log) p in
    let t : m.Side = side_with (after_request outcome.Ok q c) (history_of log) after free in
    subst (λ (y : Reply). GoesOn s u q outcome.Ok y t None) (sym e.0)
    ((reply.Gone, gone, ends (after_request outcome.Ok q c) log entries p f x q is reply.Gone (λ t e. (refl, e)) reply.Gone after free (inl (refl, e.1, e.2))), refl)
request_finds_gone_voided c log entries p after f free x q r is gone (inr e) =
    let s : m.Side = side_with c (history_of log) p f in
    let u : m.Up = seen_up (history_of log) p in
    let t : m.Side = side_with (after_request outcome.Ok q c) (history_of log) after free in
    subst (λ (y : Reply). GoesOn s u q outcome.Ok y t None) (sym e.0)
    ((reply.Gone, gone, ends (after_request outcome.Ok q c) log entries p f x q is reply.Gone (λ t e. (refl, e)) reply.DiskFault after free (inr (refl, e.1, e.2, e.3))), refl)
