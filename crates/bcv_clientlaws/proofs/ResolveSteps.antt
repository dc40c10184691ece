-- The step of a resolve is the machine's.
use Rattle.std.proofs.Common.{◌≡◌, ◌∙◌, ◌<◌, ◌≤◌, ◌^◌, ℕ, Bool, true, false, cond, List, map, Option, Some, None, is_some, refl, sym, ap, subst}
use Rattle.std.specs.Prelude.{IfSome}
use Rattle.std.specs.Option.{option_map}
use Rattle.bcv_base.specs.declared.id.Id16.{Id16}
use Rattle.bcv_base.specs.declared.log.Entry.{Entry}
use Rattle.bcv_base.specs.declared.outcome.Outcome.{Outcome}
use Rattle.bcv_base.specs.declared.outcome.Outcome.TheVariants as outcome
use Rattle.bcv_base.specs.declared.seen.Seen.{Seen}
use Rattle.bcv_base.specs.History.{Item, history_of}
use Rattle.bcv_base.specs.Keyed.{keyed, with_keyed, with_made}
use Rattle.bcv_base.specs.ManifestRules.{MeetsRules}
use Rattle.bcv_base.specs.Versions.{versions_of}
use Rattle.bcv_cache.specs.Entry as cache
use Rattle.bcv_databases.specs.Catalog.{known_name}
use Rattle.bcv_databases.specs.Changes.{known_left, published, upload_left}
use Rattle.bcv_databases.specs.declared.known.Known.{Known}
use Rattle.bcv_dbmap.specs.ManifestLaws.{IsOwnOf, publication}
use Rattle.bcv_dbmap.specs.Past.{last_own}
use Rattle.bcv_dbmap.specs.Sound.{Sound}
use Rattle.bcv_dbmap.proofs.ManifestLaws.{last_own_is_published}
use Rattle.bcv_machine.specs.LocalWriting.{with_known}
use Rattle.bcv_machine.specs.Noting.{kept_after, noted}
use Rattle.bcv_machine.specs.Refusals.{has_commits}
use Rattle.bcv_machine.specs.Resolve.{Resolves, ResolvesAs, ResolvesPending, number_from, resolved_up}
use Rattle.bcv_machine.specs.State as m
use Rattle.bcv_machine.specs.State.{with_client}
use Rattle.bcv_model.specs.declared.kept.Kept.{Kept}
use Rattle.bcv_model.specs.declared.kept.PendingPub.{PendingPub}
use Rattle.bcv_model.specs.declared.kept.Uploading.{Uploading}
use Rattle.bcv_model.specs.declared.note.Note as bytes
use Rattle.bcv_model.specs.declared.note.Note.TheVariants as note
use Rattle.bcv_model.specs.declared.reply.Reply.{Reply}
use Rattle.bcv_model.specs.declared.reply.Reply.TheVariants as reply
use Rattle.bcv_model.specs.NoteRules.{IsVersionNumber}
use Rattle.bcv_model.specs.Notes.{after_note, kept_name, note_size}
use Rattle.bcv_publish.specs.declared.resolved.Resolved.TheVariants as resolved
use Rattle.bcv_clientstate.specs.Fits.{FitsPending}
use Rattle.bcv_clientstate.specs.Journaled.{free_failed, free_noted}
use Rattle.bcv_clientstate.specs.LocalSides.{shut}
use Rattle.bcv_clientstate.specs.NoteSides.{MayNote, while_up, with_note}
use Rattle.bcv_clientstate.specs.Parts.{Parts}
use Rattle.bcv_clientstate.specs.SeenClient.{Free, seen_client, seen_known, seen_up, side_of}
use Rattle.bcv_clientstate.specs.SeenKept.{seen_kept, seen_local, seen_pending, seen_upload}
use Rattle.bcv_clientstate.proofs.KeyedMaps.{keyed_map, with_map}
use Rattle.bcv_clientstate.proofs.NoteLaws.{are_steps}
use Rattle.bcv_clientstate.proofs.NoteSides.{fails_as_noted, stands_as_noted}
use Rattle.bcv_clientstate.proofs.PartRefusals.{some_map}
use Rattle.bcv_clientstate.proofs.ResolveSides.{at_is_found, voided_is_not_found}
use Rattle.bcv_clientlaws.specs.Resolves.{IsResolved, ResolveMeetsFault, ResolvedIsNotNoted, ResolvesAt, ResolvesVoid, VoidIsNotNoted, resolved_at}
use Rattle.bcv_clientlaws.proofs.ManifestsRead.{rules_of}
use Rattle.bcv_clientlaws.proofs.PendingEnds.{may_finish, may_void, same_tasks}

-- ---- what is known where no commits are left

has_local_is : (k : Kept) (db : List ℕ) → has_commits (seen_kept k) db ≡ is_some (keyed kept_name db k.locals)
has_local_is k db = ap is_some (keyed_map kept_name m.local_name seen_local (λ l. refl) db k.locals) ∙ some_map seen_local (keyed kept_name db k.locals)

known_by : (b : Bool) (n : ℕ) (u : Uploading) (known : List Known)
    → map seen_known (with_made known_name (cond b None (Some (published n u))) known)
    ≡ cond b (map seen_known known) (with_keyed m.known_name (record { name = u.entry.name; base = n }) (map seen_known known))
known_by true n u known = refl
known_by false n u known = sym (with_map known_name m.known_name seen_known (λ k. refl) (published n u) known)

up_by : (b : Bool) (u after : m.Up) → (λ (x : m.Up). x.known) (cond b u after) ≡ cond b u.known after.known
up_by true u after = refl
up_by false u after = refl

rest_by : (b : Bool) (u : m.Up) (db : List ℕ) (n : ℕ) → cond b u (with_known u db n) ≡ record u { known = cond b u.known (with_keyed m.known_name (record { name = db; base = n }) u.known) }
rest_by true u db n = refl
rest_by false u db n = refl

resolved_known : (n : ℕ) (k : Kept) (up : Option Uploading) (u : m.Up) (known : List Known) → u.known ≡ map seen_known known
    → record u { known = map seen_known (with_made known_name (upload_left n k.locals up) known) } ≡ resolved_up (option_map seen_upload up) n (seen_kept k) u
resolved_known n k None u known is = ap (λ (ks : List m.KnownDb). record u { known = ks }) (sym is)
resolved_known n k (Some x) u known is =
    let b : Bool = is_some (keyed kept_name x.entry.name k.locals) in
    ap (λ (ks : List m.KnownDb). record u { known = ks }) (known_by b n x known)
    ∙ ap (λ (ks : List m.KnownDb). record u { known = cond b ks (with_keyed m.known_name (record { name = x.entry.name; base = n }) ks) }) (sym is)
    ∙ sym (rest_by b u x.entry.name n)
    ∙ ap (λ (c : Bool). cond c u (with_known u x.entry.name n)) (sym (has_local_is k x.entry.name))

-- ---- the step

-- a writer's last publication has a version's number
own_number : (past : List Item) (writer id : Id16) (n : ℕ) → Sound past → last_own past writer ≡ Some (publication id n) → IsVersionNumber n
own_number past writer id n sound last =
    let own : IsOwnOf past writer (publication id n) = last_own_is_published past writer (publication id n) last in
    let rules : MeetsRules own.manifest = rules_of past own.manifest sound.reads own.published in
    record { least = subst (λ (k : ℕ). 1 ≤ k) own.number rules.least; most = subst (λ (k : ℕ). k < 2 ^ 64) own.number rules.number }

-- what is pending is what a resolve looks at
over_pending : (s : m.Side) (u : m.Up) (o : Outcome) (x : m.Pending) (r : Reply) (t : m.Side) → o ≡ outcome.Ok → s.client.kept.pending ≡ Some x
    → ResolvesAs s u x (number_from 1 x.id s.container.versions) r t → Resolves s u o r t
over_pending s u o x r t is pending steps =
    subst (λ (y : Outcome). Resolves s u y r t) (sym is) (subst (λ (w : Option m.Pending). ResolvesPending s u w r t) (sym pending) steps)

module _ (moment : ℕ) (log : List Entry) (entries : List cache.Entry) (p : Parts) (f : Free) (x : PendingPub) (seen : Seen) (o : Outcome) where
  abbrev past : List Item
  past = history_of log

  abbrev s : m.Side
  s = side_of moment past p f

  abbrev u : m.Up
  u = seen_up past p

  pending_is : p.kept.pending ≡ Some x → s.client.kept.pending ≡ Some (seen_pending x)
  pending_is is = ap (option_map seen_pending) is

  module _ (n : ℕ) (is : IsResolved log entries p x seen o (resolved.At n)) where
    abbrev done : bytes.Note
    done = note.Done x.id n

    found : number_from 1 x.id (versions_of past) ≡ Some n
    found = at_is_found o past seen p.id x n is.sound is.ends

    may : MayNote past p done (m.Finishing n)
    may = may_finish log entries p x is.sound is.fits is.pending is.is_id n (own_number past p.id x.id n is.sound is.ends.1)

    kept_is : kept_after (seen_kept p.kept) (m.Finishing n) ≡ seen_kept (after_note p.kept done)
    kept_is = sym (are_steps p.kept done is.fits.ordered may.may)

    -- the machine's client that is up afterwards
    abbrev after : m.Up
    after = resolved_up (option_map seen_upload x.upload) n (kept_after (seen_kept p.kept) (m.Finishing n)) u

    up_is : seen_up past (resolved_at n x.id p) ≡ after
    up_is =
        ap (λ (ts : List m.Task). record (seen_up past (resolved_at n x.id p)) { tasks = ts }) (same_tasks (after_note p.kept done).pending p.kept.pending p.tasks is.quiet)
        ∙ ap (λ (w : Option PendingPub). record u { known = map seen_known (with_made known_name (known_left n (after_note p.kept done).locals w) p.known) }) is.pending
        ∙ resolved_known n (after_note p.kept done) x.upload u p.known refl
        ∙ ap (λ (k : m.KeptState). resolved_up (option_map seen_upload x.upload) n k u) (sym kept_is)

    resolved_side : side_of moment past (resolved_at n x.id p) (free_noted (note_size done) f) ≡ with_client s (noted s after (m.Finishing n))
    resolved_side =
        ap (λ (w : m.Up). with_client s (while_up (seen_client past (with_note done p) (free_noted (note_size done) f)) w)) up_is
        ∙ ap (with_client s) (sym (stands_as_noted moment past p f after done (m.Finishing n) may))

    at_stands : Resolves s u o (reply.Resolved n) (side_of moment past (resolved_at n x.id p) (free_noted (note_size done) f))
    at_stands =
        over_pending s u o (seen_pending x) (reply.Resolved n) (side_of moment past (resolved_at n x.id p) (free_noted (note_size done) f)) is.ends.0 (pending_is is.pending)
        (subst (λ (w : Option ℕ). ResolvesAs s u (seen_pending x) w (reply.Resolved n) (side_of moment past (resolved_at n x.id p) (free_noted (note_size done) f))) (sym found)
        (refl, resolved_side))

    at_fails : f.failing ≡ true → Resolves s u o reply.DiskFault (side_of moment past (shut p) (free_failed (note_size done) (m.Finishing n) f))
    at_fails failing =
        let t : m.Side = side_of moment past (shut p) (free_failed (note_size done) (m.Finishing n) f) in
        over_pending s u o (seen_pending x) reply.DiskFault t is.ends.0 (pending_is is.pending)
        (subst (λ (w : Option ℕ). ResolvesAs s u (seen_pending x) w reply.DiskFault t) (sym found)
        (refl, (failing, sym (fails_as_noted moment past p f u done (m.Finishing n) may))))

  module _ (is : IsResolved log entries p x seen o resolved.Voided) where
    abbrev void : bytes.Note
    void = note.Void x.id

    not_found : number_from 1 x.id (versions_of past) ≡ None
    not_found =
        voided_is_not_found o past seen p.id x
        (subst (λ (w : Option PendingPub). IfSome w (FitsPending past p.id)) is.pending is.fits.pending) is.ends

    may_be : MayNote past p void m.Voiding
    may_be = may_void log entries p x is.sound is.fits is.pending is.is_id

    up_void : seen_up past (with_note void p) ≡ u
    up_void = ap (λ (ts : List m.Task). record u { tasks = ts }) (same_tasks None p.kept.pending p.tasks is.quiet)

    void_stands : Resolves s u o reply.Voided (side_of moment past (with_note void p) (free_noted (note_size void) f))
    void_stands =
        let t : m.Side = side_of moment past (with_note void p) (free_noted (note_size void) f) in
        over_pending s u o (seen_pending x) reply.Voided t is.ends.0 (pending_is is.pending)
        (subst (λ (w : Option ℕ). ResolvesAs s u (seen_pending x) w reply.Voided t) (sym not_found)
        (ap (λ (w : m.Up). with_client s (while_up (seen_client past (with_note void p) (free_noted (note_size void) f)) w)) up_void
        ∙ ap (with_client s) (sym (stands_as_noted moment past p f u void m.Voiding may_be))))

    void_fails : f.failing ≡ true → Resolves s u o reply.DiskFault (side_of moment past (shut p) (free_failed (note_size void) m.Voiding f))
    void_fails failing =
        let t : m.Side = side_of moment past (shut p) (free_failed (note_size void) m.Voiding f) in
        over_pending s u o (seen_pending x) reply.DiskFault t is.ends.0 (pending_is is.pending)
        (subst (λ (w : Option ℕ). ResolvesAs s u (seen_pending x) w reply.DiskFault t) (sym not_found)
        (refl, (failing, sym (fails_as_noted moment past p f u void m.Voiding may_be))))

pub resolves_at : ResolvesAt
resolves_at moment log entries p f x n seen o is = at_stands moment log entries p f x seen o n is

pub resolved_is_not_noted : ResolvedIsNotNoted
resolved_is_not_noted moment log entries p f x n seen o is failing = at_fails moment log entries p f x seen o n is failing

pub resolves_void : ResolvesVoid
resolves_void moment log entries p f x seen o is = void_stands moment log entries p f x seen o is

pub void_is_not_noted : VoidIsNotNoted
void_is_not_noted moment log entries p f x seen o is failing = void_fails moment log entries p f x seen o is failing

pub resolve_meets_fault : ResolveMeetsFault
resolve_meets_fault moment before p f outcome.Ok not = absurd (not refl)
resolve_meets_fault moment before p f outcome.Fail not = (refl, refl)
resolve_meets_fault moment before p f outcome.Lost not = (refl, refl)
