-- The end of a resolve in the machine's words.
use Rattle.std.proofs.Common.{◌≡◌, ◌∙◌, ◌||◌, ℕ, Bool, true, false, cond, List, [], ◌∷◌, map, Option, Some, None, is_some, refl, sym, ap, subst}
use Rattle.std.specs.Option.{option_map}
use Rattle.std.specs.List.{list_any}
use Rattle.bcv_base.specs.History.{Item}
use Rattle.bcv_base.specs.Keyed.{keyed, with_keyed, with_made}
use Rattle.bcv_databases.specs.Catalog.{known_name}
use Rattle.bcv_databases.specs.Changes.{known_left, published, upload_left}
use Rattle.bcv_machine.specs.Noting.{kept_after, noted}
use Rattle.bcv_machine.specs.Resolve.{ResolvesAs, ResolvesPending, number_from, resolved_up}
use Rattle.bcv_machine.specs.State as m
use Rattle.bcv_machine.specs.State.{known_name as seen_name, local_name, with_client}
use Rattle.bcv_model.specs.declared.kept.Kept.{Kept}
use Rattle.bcv_model.specs.declared.kept.PendingPub.{PendingPub}
use Rattle.bcv_model.specs.declared.kept.Uploading.{Uploading}
use Rattle.bcv_model.specs.declared.note.Note.TheVariants as note
use Rattle.bcv_model.specs.declared.reply.Reply.{Reply}
use Rattle.bcv_model.specs.declared.reply.Reply.TheVariants as reply
use Rattle.bcv_model.specs.Notes.{after_note, kept_name, note_size}
use Rattle.bcv_clientstate.specs.Journaled.{free_failed, free_noted}
use Rattle.bcv_clientstate.specs.LocalSides.{shut}
use Rattle.bcv_clientstate.specs.NoteSides.{while_up, with_note}
use Rattle.bcv_clientstate.specs.PartRefusals.{is_publishing}
use Rattle.bcv_clientstate.specs.Parts.{Job, Fetching, Polling, Creating, Copying, Uploading as Uploads, Cleaning, Resolving, Parts, Task}
use Rattle.bcv_clientstate.specs.SeenClient.{Free, seen_client, seen_job, seen_known, seen_task, seen_up, side_of}
use Rattle.bcv_clientstate.specs.SeenKept.{seen_kept, seen_local, seen_pending, seen_upload}
use Rattle.bcv_clientstate.proofs.KeyedMaps.{keyed_map, with_map}
use Rattle.bcv_clientstate.proofs.NoteLaws.{are_steps}
use Rattle.bcv_clientstate.proofs.NoteSides.{fails_as_noted, stands_as_noted}
use Rattle.bcv_clientstate.proofs.PartRefusals.{some_map}
use Rattle.bcv_ledger.specs.ResolveLaws.{IsResolved, MadeIsResolved, MadeMeetsFault, VoidedIsResolved, VoidedMeetsFault, found_made}

-- ---- tasks that publish nothing are seen alike, whatever is pending

quiet_job : (a b : Option PendingPub) (j : Job) → is_publishing j ≡ false → seen_job a j ≡ seen_job b j
quiet_job a b (Fetching access txn page) quiet = refl
quiet_job a b Polling quiet = refl
quiet_job a b (Creating block retention id) quiet = absurd (cc)
quiet_job a b (Copying s) quiet = absurd (cc)
quiet_job a b (Uploads s view) quiet = absurd (cc)
quiet_job a b (Cleaning s) quiet = absurd (cc)
quiet_job a b Resolving quiet = refl

neither : (a b : Bool) → (a || b) ≡ false → (a ≡ false) × (b ≡ false)
neither true b e = absurd (cc)
neither false b e = (refl, e)

quiet_tasks : (a b : Option PendingPub) (ts : List Task) → list_any (λ (t : Task). is_publishing t.job) ts ≡ false → map (seen_task a) ts ≡ map (seen_task b) ts
quiet_tasks a b [] quiet = refl
quiet_tasks a b (t ∷ ts) quiet =
    let parts = neither (is_publishing t.job) (list_any (λ (x : Task). is_publishing x.job) ts) quiet in
    ap (λ (j : m.Job). record { number = t.number; job = j } ∷ map (seen_task a) ts) (quiet_job a b t.job parts.0)
    ∙ ap (λ (xs : List m.Task). seen_task b t ∷ xs) (quiet_tasks a b ts parts.1)

-- ---- the client while it is up

-- the known databases, by the upload
known_by : (past : List Item) (p : Parts) (n : ℕ) (after : Kept) (upload : Option Uploading)
    → record (seen_up past p) { known = map seen_known (with_made known_name (upload_left n after.locals upload) p.known) } ≡ resolved_up (option_map seen_upload upload) n (seen_kept after) (seen_up past p)
known_by past p n after None = refl
known_by past p n after (Some u) =
    step (is_some (keyed kept_name u.entry.name after.locals))
    ∙ ap (λ (b : Bool). cond b (seen_up past p) (record (seen_up past p) { known = with_keyed seen_name (seen_known (published n u)) (map seen_known p.known) }))
    (sym (ap is_some (keyed_map kept_name local_name seen_local (λ l. refl) u.entry.name after.locals) ∙ some_map seen_local (keyed kept_name u.entry.name after.locals)))
  where
    step : (b : Bool) → record (seen_up past p) { known = map seen_known (with_made known_name (cond b None (Some (published n u))) p.known) }
        ≡ cond b (seen_up past p) (record (seen_up past p) { known = with_keyed seen_name (seen_known (published n u)) (map seen_known p.known) })
    step true = refl
    step false = ap (λ (ks : List m.KnownDb). record (seen_up past p) { known = ks }) (sym (with_map known_name seen_name seen_known (λ k. refl) (published n u) p.known))

module _ (moment : ℕ) (past : List Item) (p : Parts) (f : Free) (x : PendingPub) where
  abbrev s : m.Side
  s = side_of moment past p f

  abbrev u : m.Up
  u = seen_up past p

  made_up : (n : ℕ) → IsResolved past p x (note.Done x.id n) (m.Finishing n) → seen_up past (found_made x.id n p) ≡ resolved_up (option_map seen_upload x.upload) n (kept_after (seen_kept p.kept) (m.Finishing n)) u
  made_up n is =
      let after : Kept = after_note p.kept (note.Done x.id n) in
      ap (λ (ts : List m.Task). record (seen_up past (found_made x.id n p)) { tasks = ts }) (quiet_tasks after.pending p.kept.pending p.tasks is.quiet)
      ∙ ap (λ (o : Option PendingPub). record u { known = map seen_known (with_made known_name (known_left n after.locals o) p.known) }) is.pending
      ∙ known_by past p n after x.upload
      ∙ ap (λ (k : m.KeptState). resolved_up (option_map seen_upload x.upload) n k u) (are_steps p.kept (note.Done x.id n) is.may.ordered is.may.may)

  made_stands : (n : ℕ) → IsResolved past p x (note.Done x.id n) (m.Finishing n)
      → side_of moment past (found_made x.id n p) (free_noted (note_size (note.Done x.id n)) f)
      ≡ with_client s (noted s (resolved_up (option_map seen_upload x.upload) n (kept_after (seen_kept p.kept) (m.Finishing n)) u) (m.Finishing n))
  made_stands n is =
      ap (λ (up : m.Up). with_client s (while_up (seen_client past (with_note (note.Done x.id n) p) (free_noted (note_size (note.Done x.id n)) f)) up)) (made_up n is)
      ∙ ap (with_client s) (sym (stands_as_noted moment past p f _ (note.Done x.id n) (m.Finishing n) is.may))

  void_stands : IsResolved past p x (note.Void x.id) m.Voiding → side_of moment past (with_note (note.Void x.id) p) (free_noted (note_size (note.Void x.id)) f) ≡ with_client s (noted s u m.Voiding)
  void_stands is =
      ap (λ (ts : List m.Task). with_client s (while_up (seen_client past (with_note (note.Void x.id) p) (free_noted (note_size (note.Void x.id)) f)) (record u { tasks = ts }))) (quiet_tasks None p.kept.pending p.tasks is.quiet)
      ∙ ap (with_client s) (sym (stands_as_noted moment past p f u (note.Void x.id) m.Voiding is.may))

-- what the machine resolves, by what is pending and by what is found
resolves_by : (s : m.Side) (u : m.Up) (x : PendingPub) (o : Option PendingPub) (found : Option ℕ) (r : Reply) (t : m.Side) → o ≡ Some x → number_from 1 x.id s.container.versions ≡ found
    → ResolvesAs s u (seen_pending x) found r t → ResolvesPending s u (option_map seen_pending o) r t
resolves_by s u x o found r t is number resolves =
    subst (λ (q : Option PendingPub). ResolvesPending s u (option_map seen_pending q) r t) (sym is)
    (subst (λ (q : Option ℕ). ResolvesAs s u (seen_pending x) q r t) (sym number) resolves)

pub made_is_resolved : MadeIsResolved
made_is_resolved moment past p f x n is number =
    let t = side_of moment past (found_made x.id n p) (free_noted (note_size (note.Done x.id n)) f) in
    resolves_by (side_of moment past p f) (seen_up past p) x p.kept.pending (Some n) (reply.Resolved n) t is.pending number (refl, made_stands moment past p f x n is)

pub made_meets_fault : MadeMeetsFault
made_meets_fault moment past p f x n is number armed =
    let t = side_of moment past (shut p) (free_failed (note_size (note.Done x.id n)) (m.Finishing n) f) in
    resolves_by (side_of moment past p f) (seen_up past p) x p.kept.pending (Some n) reply.DiskFault t is.pending number
    (refl, (armed, sym (fails_as_noted moment past p f (seen_up past p) (note.Done x.id n) (m.Finishing n) is.may)))

pub voided_is_resolved : VoidedIsResolved
voided_is_resolved moment past p f x is number =
    let t = side_of moment past (with_note (note.Void x.id) p) (free_noted (note_size (note.Void x.id)) f) in
    resolves_by (side_of moment past p f) (seen_up past p) x p.kept.pending None reply.Voided t is.pending number (void_stands moment past p f x is)

pub voided_meets_fault : VoidedMeetsFault
voided_meets_fault moment past p f x is number armed =
    let t = side_of moment past (shut p) (free_failed (note_size (note.Void x.id)) m.Voiding f) in
    resolves_by (side_of moment past p f) (seen_up past p) x p.kept.pending None reply.DiskFault t is.pending number
    (refl, (armed, sym (fails_as_noted moment past p f (seen_up past p) (note.Void x.id) m.Voiding is.may)))
