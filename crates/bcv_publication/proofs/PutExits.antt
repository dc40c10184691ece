-- The ends of a manifest's put with its notes are steps of the machine.
use Rattle.std.proofs.Common.{◌≡◌, ◌∙◌, ◌+◌, ◌*◌, ◌^◌, ◌<◌, ◌||◌, ℕ, Bool, true, false, List, [], ◌∷◌, ◌++◌, map, Option, Some, None, refl, sym, ap, subst}
use Rattle.std.specs.List.{AllByRecursion}
use Rattle.bcv_base.specs.declared.id.Id16.{Id16}
use Rattle.bcv_base.specs.declared.outcome.Outcome.TheVariants as outcome
use Rattle.bcv_base.specs.History.{Item}
use Rattle.bcv_base.specs.HistoryLaws.{id_eq-self}
use Rattle.bcv_base.specs.Ids.{id_eq}
use Rattle.bcv_base.specs.Version.{Version}
use Rattle.bcv_machine.specs.ManifestPut.{Finishes, IntentFails, IsRefused, NoteFailsAt, PutsNothing, Stores, Appends, finished, intent_of, is_last_try, last_refusal, taken_by, version_made, with_intent, with_version}
use Rattle.bcv_machine.specs.Noting.{NoteFails, kept_after, noted}
use Rattle.bcv_machine.specs.State as m
use Rattle.bcv_model.specs.declared.kept.PendingPub.{PendingPub}
use Rattle.bcv_model.specs.declared.note.Note as bytes
use Rattle.bcv_model.specs.declared.note.Note.TheVariants as note
use Rattle.bcv_model.specs.declared.reply.Reply.{Reply}
use Rattle.bcv_model.specs.declared.reply.Reply.TheVariants as reply
use Rattle.bcv_model.specs.NoteRules.{IsVersionNumber}
use Rattle.bcv_model.specs.Notes.{note_size}
use Rattle.bcv_clientstate.specs.Journaled.{free_failed, free_noted}
use Rattle.bcv_clientstate.specs.NoteSides.{MayNote, while_up}
use Rattle.bcv_databases.specs.declared.known.Known.{Known}
use Rattle.bcv_clientstate.specs.Parts.{Job, Fetching, Polling, Creating, Copying, Uploading, Cleaning, Resolving, Task, Parts}
use Rattle.bcv_clientstate.specs.SeenClient.{Free, has_intent, seen_client, seen_job, seen_known, seen_task, seen_up, side_of}
use Rattle.bcv_clientstate.specs.SeenContainer.{container_of}
use Rattle.bcv_clientstate.specs.SeenKept.{seen_kept, seen_pending}
use Rattle.bcv_clientstate.proofs.NoteLaws.{are_steps}
use Rattle.bcv_clientstate.proofs.NoteSides.{stands_as_noted, fails_as_noted, full_as_noted}
use Rattle.bcv_publication.specs.PutExits.{IntentMeetsFull, IntentMeetsFault, PutIsDone, DoneMeetsFault, PutIsRefused, PutIsVoid, VoidMeetsFault, PutFailed, PutIsLost, RefusalIsLost}
use Rattle.bcv_ledger.specs.Begins.{WaitsFor, free_intended, free_untried}
use Rattle.bcv_publication.specs.PutSides.{Appended, AnswersDone, AreKnownAt, IsQuiet, Tried, published, shut, voided, waiting}

-- ---- tasks that publish nothing

quiet_job : (a b : Option PendingPub) (j : Job) → IsQuiet j → seen_job a j ≡ seen_job b j
quiet_job a b (Fetching access txn page) quiet = refl
quiet_job a b Polling quiet = refl
quiet_job a b (Creating block retention id) quiet = absurd quiet
quiet_job a b (Copying s) quiet = absurd quiet
quiet_job a b (Uploading s view) quiet = absurd quiet
quiet_job a b (Cleaning s) quiet = absurd quiet
quiet_job a b Resolving quiet = refl

quiet_tasks : (a b : Option PendingPub) (ts : List Task) → AllByRecursion (λ (t : Task). IsQuiet t.job) ts → map (seen_task a) ts ≡ map (seen_task b) ts
quiet_tasks a b [] quiet = refl
quiet_tasks a b (t ∷ ts) quiet =
    ap (λ (j : m.Job). let y : m.Task = record { number = t.number; job = j } in y ∷ map (seen_task a) ts) (quiet_job a b t.job quiet.0)
    ∙ ap (λ (ys : List m.Task). seen_task b t ∷ ys) (quiet_tasks a b ts quiet.1)

-- ---- a note that failed

-- what is armed is so still after the intent
still_failing : (o : Option PendingPub) (x : PendingPub) (f : Free) → f.failing ≡ true → (free_intended o x f).failing ≡ true
still_failing None x f e = e
still_failing (Some p) x f e = e

fails : (moment : ℕ) (past : List Item) (p : Parts) (f : Free) (u : m.Up) (x : bytes.Note) (y : m.Note) → MayNote past p x y → u ≡ seen_up past p → f.failing ≡ true
    → NoteFails (side_of moment past p f) u y reply.DiskFault (side_of moment past (shut p) (free_failed (note_size x) y f))
fails moment past p f u x y may is failing = (
  refl,
  (
    failing,
    sym (fails_as_noted moment past p f u x y may
        ∙ ap (λ (w : m.Up). while_up (seen_client past p (free_failed (note_size x) y f)) (record w { closed = true })) is),
  ),
)

-- ---- the intent

module _ (moment : ℕ) (past : List Item) (p : Parts) (f : Free) (q : m.Publication) (x : PendingPub) (tried : Tried past p q x) where
  tasks : (b : Option PendingPub) → map (seen_task p.kept.pending) p.tasks ≡ map (seen_task b) p.tasks
  tasks b = quiet_tasks p.kept.pending b p.tasks tried.quiet

  up_waits : seen_up past p ≡ seen_up past (waiting x p)
  up_waits = ap (λ (ts : List m.Task). record (seen_up past p) { tasks = ts }) (tasks (Some x))

  intent : p.kept.pending ≡ None → MayNote past p (note.Intent x) (m.Intending (seen_pending x))
  intent none = record {
    sound = tried.sound;
    ordered = tried.ordered;
    locals = tried.locals;
    may = record { named = tried.named; is_id = tried.is_id; free = none; upload = tried.may_upload };
    fits = tried.upload;
    is = refl;
  }

  intent_is : intent_of q ≡ m.Intending (seen_pending x)
  intent_is =
      ap (λ (i : Id16). let y : m.Pending = record { id = i; upload = taken_by q.kind } in m.Intending y) tried.same_id
      ∙ ap (λ (u : Option m.Taken). let y : m.Pending = record { id = x.id; upload = u } in m.Intending y) tried.takes

  -- where the intent is to be noted, or stands
  by_pending : (o : Option PendingPub) → p.kept.pending ≡ o → WaitsFor o x
      → with_intent (has_intent o q.id) (side_of moment past p f) (seen_up past p) q ≡ side_of moment past (waiting x p) (free_intended o x f)
  by_pending None none waits =
      ap (λ (y : m.Note). m.with_client (side_of moment past p f) (noted (side_of moment past p f) (seen_up past p) y)) intent_is
      ∙ ap (m.with_client (side_of moment past p f)) (stands_as_noted moment past p f (seen_up past p) (note.Intent x) (m.Intending (seen_pending x)) (intent none))
      ∙ ap (λ (u : m.Up). m.with_up (side_of moment past (waiting x p) (free_noted (note_size (note.Intent x)) f)) u) up_waits
  by_pending (Some y) some waits =
      ap (λ (b : Bool). with_intent b (side_of moment past p f) (seen_up past p) q) (ap (λ (z : PendingPub). id_eq z.id q.id) waits ∙ ap (id_eq x.id) tried.same_id ∙ id_eq-self x.id)
      ∙ ap (λ (o : Option PendingPub). m.with_up (record (side_of moment past p f) { client = record (seen_client past p f) { kept = seen_kept (record p.kept { pending = o }) } }) (seen_up past p)) (some ∙ ap Some waits)
      ∙ ap (λ (u : m.Up). m.with_up (side_of moment past (waiting x p) f) u) up_waits

  -- the side once the intent stands
  begun : with_intent q.intended (side_of moment past p f) (seen_up past p) q ≡ side_of moment past (waiting x p) (free_intended p.kept.pending x f)
  begun = ap (λ (b : Bool). with_intent b (side_of moment past p f) (seen_up past p) q) tried.intended ∙ by_pending p.kept.pending refl tried.waits

  not_begun : p.kept.pending ≡ None → q.intended ≡ false
  not_begun none = tried.intended ∙ ap (λ (o : Option PendingPub). has_intent o q.id) none

  unbegun : (r : Reply) (t : m.Side) → p.kept.pending ≡ None → NoteFails (side_of moment past p f) (seen_up past p) (m.Intending (seen_pending x)) r t
      → IntentFails q.intended (side_of moment past p f) (seen_up past p) q r t
  unbegun r t none h =
      subst (λ (b : Bool). IntentFails b (side_of moment past p f) (seen_up past p) q r t) (sym (not_begun none))
      (subst (λ (y : m.Note). NoteFails (side_of moment past p f) (seen_up past p) y r t) (sym intent_is) h)

  -- the journal may be too full for it
  full : p.kept.pending ≡ None → 2 ^ 31 < 2 * f.noted + 87 + note_size (note.Intent x) → IntentFails q.intended (side_of moment past p f) (seen_up past p) q reply.JournalFull (side_of moment past p f)
  full none lt =
      unbegun reply.JournalFull (side_of moment past p f) none
      (refl, (full_as_noted moment past p f (note.Intent x) (m.Intending (seen_pending x)) (intent none) (λ e. e) lt, refl))

  -- the disk failed at it
  faulty : p.kept.pending ≡ None → f.failing ≡ true → IntentFails q.intended (side_of moment past p f) (seen_up past p) q reply.DiskFault (side_of moment past (shut p) (free_untried x f))
  faulty none failing =
      unbegun reply.DiskFault (side_of moment past (shut p) (free_untried x f)) none
      (fails moment past p f (seen_up past p) (note.Intent x) (m.Intending (seen_pending x)) (intent none) refl failing)

  -- of two notes it was not the second that failed
  first_of : (b : Bool) (read : ℕ) (r : Reply) (t : m.Side) → b ≡ false → IntentFails q.intended (side_of moment past p f) (seen_up past p) q r t
      → NoteFailsAt (b || false) (side_of moment past p f) (seen_up past p) q read r t None
  first_of true read r t e h = absurd (cc)
  first_of false read r t e h = (h, refl)

pub intent_meets_full : IntentMeetsFull
intent_meets_full moment past p f q x read outcome.Ok tried none lt = (full moment past p f q x tried none lt, refl)
intent_meets_full moment past p f q x read outcome.Fail tried none lt = (full moment past p f q x tried none lt, refl)
intent_meets_full moment past p f q x read outcome.Lost tried none lt = (full moment past p f q x tried none lt, refl)

pub intent_meets_fault : IntentMeetsFault
intent_meets_fault moment past p f q x read outcome.Ok tried none failing =
    first_of moment past p f q x tried q.intended read reply.DiskFault (side_of moment past (shut p) (free_untried x f)) (not_begun moment past p f q x tried none) (faulty moment past p f q x tried none failing)
intent_meets_fault moment past p f q x read outcome.Fail tried none failing = (faulty moment past p f q x tried none failing, refl)
intent_meets_fault moment past p f q x read outcome.Lost tried none failing = (faulty moment past p f q x tried none failing, refl)

-- ---- the put is refused

module _ (moment : ℕ) (past : List Item) (p : Parts) (f : Free) (q : m.Publication) (x : PendingPub) (tried : Tried past p q x) where
  void : MayNote past (waiting x p) (note.Void x.id) m.Voiding
  void = record {
    sound = tried.sound;
    ordered = tried.ordered;
    locals = tried.locals;
    may = record { named = tried.named; is_id = tried.is_id; waits = refl };
    fits = tt;
    is = refl;
  }

  -- void is noted
  voids : side_of moment past (voided x p) (free_noted 17 (free_intended p.kept.pending x f))
      ≡ m.with_client (with_intent q.intended (side_of moment past p f) (seen_up past p) q) (noted (with_intent q.intended (side_of moment past p f) (seen_up past p) q) (seen_up past p) m.Voiding)
  voids =
      ap (λ (ts : List m.Task). m.with_up (side_of moment past (voided x p) (free_noted 17 (free_intended p.kept.pending x f))) (record (seen_up past p) { tasks = ts })) (sym (tasks moment past p f q x tried None))
      ∙ ap (m.with_client (side_of moment past (waiting x p) (free_intended p.kept.pending x f))) (sym (stands_as_noted moment past (waiting x p) (free_intended p.kept.pending x f) (seen_up past p) (note.Void x.id) m.Voiding void))
      ∙ ap (λ (s : m.Side). m.with_client s (noted s (seen_up past p) m.Voiding)) (sym (begun moment past p f q x tried))

  -- the note of void failed
  void_fails : f.failing ≡ true → NoteFails (with_intent q.intended (side_of moment past p f) (seen_up past p) q) (seen_up past p) m.Voiding reply.DiskFault
      (side_of moment past (shut (waiting x p)) (free_failed 17 m.Voiding (free_intended p.kept.pending x f)))
  void_fails failing =
      subst (λ (s : m.Side). NoteFails s (seen_up past p) m.Voiding reply.DiskFault (side_of moment past (shut (waiting x p)) (free_failed 17 m.Voiding (free_intended p.kept.pending x f)))) (sym (begun moment past p f q x tried))
      (fails moment past (waiting x p) (free_intended p.kept.pending x f) (seen_up past p) (note.Void x.id) m.Voiding void (up_waits moment past p f q x tried) (still_failing p.kept.pending x f failing))

-- the last refusal is answered once void is noted
module _ (second : Bool) (s : m.Side) (u : m.Up) (q : m.Publication) (read : ℕ) (t : m.Side) where
  answered : (kind : m.Kind) → kind ≡ q.kind → last_refusal kind (q.refused ++ read ∷ []) ≡ last_refusal q.kind (q.refused ++ read ∷ [])
  answered kind same = ap (λ (k : m.Kind). last_refusal k (q.refused ++ read ∷ [])) same

  last_refused : (kind : m.Kind) → kind ≡ q.kind → IsRefused s.container read → is_last_try q.kind q.refused ≡ true
      → t ≡ m.with_client (with_intent q.intended s u q) (noted (with_intent q.intended s u q) u m.Voiding) → PutsNothing second s u q read (last_refusal kind (q.refused ++ read ∷ [])) t None
  last_refused (m.Creating block retention) same refused last is = (refused, (last, (answered (m.Creating block retention) same, is), refl))
  last_refused (m.Making d page_size pages) same refused last is = (refused, (last, (answered (m.Making d page_size pages) same, is), refl))
  last_refused (m.Uploading d base commits) same refused last is = (refused, (last, (answered (m.Uploading d base commits) same, is), refl))
  last_refused (m.Copying a b) same refused last is = (refused, (last, (answered (m.Copying a b) same, is), refl))
  last_refused (m.Removing a) same refused last is = (refused, (last, (answered (m.Removing a) same, is), refl))
  last_refused m.Cleaning same refused last is = (refused, (last, (answered m.Cleaning same, is), refl))

  -- of two notes it was the second that failed
  second_of : (b : Bool) (r : Reply) → NoteFailsAt true s u q read r t None → NoteFailsAt (b || true) s u q read r t None
  second_of true r h = h
  second_of false r h = h

pub put_is_refused : PutIsRefused
put_is_refused second moment past p f q x read tried refused last = (refused, (last, refl, sym (begun moment past p f q x tried), refl))

pub put_is_void : PutIsVoid
put_is_void second moment past p f q x read tried refused last =
    last_refused second (side_of moment past p f) (seen_up past p) q read (side_of moment past (voided x p) (free_noted 17 (free_intended p.kept.pending x f))) q.kind refl refused last
    (voids moment past p f q x tried)

pub void_meets_fault : VoidMeetsFault
void_meets_fault moment past p f q x read tried refused last failing =
    second_of true (side_of moment past p f) (seen_up past p) q read (side_of moment past (shut (waiting x p)) (free_failed 17 m.Voiding (free_intended p.kept.pending x f))) q.intended reply.DiskFault
    (refused, (last, void_fails moment past p f q x tried failing, refl))

-- ---- the put is done

module _ (moment : ℕ) (past later : List Item) (p : Parts) (f : Free) (q : m.Publication) (x : PendingPub) (n : ℕ) (v : Version)
    (tried : Tried past p q x) (grown : Appended moment past later p q v) where
  -- the side once the version is there
  appended : with_version (with_intent q.intended (side_of moment past p f) (seen_up past p) q) q.kind v ≡ side_of moment later (waiting x p) (free_intended p.kept.pending x f)
  appended =
      ap (λ (s : m.Side). with_version s q.kind v) (begun moment past p f q x tried)
      ∙ ap (λ (c : m.Container). let s : m.Side = record { container = c; client = seen_client past (waiting x p) (free_intended p.kept.pending x f) } in s) (sym grown.after)
      ∙ ap (λ (ts : List m.Txn). m.with_up (side_of moment later (waiting x p) (free_intended p.kept.pending x f)) (record (seen_up past (waiting x p)) { txns = ts })) (sym grown.txns)

  done : IsVersionNumber n → MayNote later (waiting x p) (note.Done x.id n) (m.Finishing n)
  done number = record {
    sound = grown.sound;
    ordered = tried.ordered;
    locals = grown.locals;
    may = (record { named = tried.named; is_id = tried.is_id; waits = refl }, number);
    fits = tt;
    is = refl;
  }

  up_later : seen_up past p ≡ seen_up later (waiting x p)
  up_later = up_waits moment past p f q x tried ∙ ap (λ (ts : List m.Txn). record (seen_up past (waiting x p)) { txns = ts }) (sym grown.txns)

  -- done is noted
  finishes : (known : List Known) → IsVersionNumber n → AreKnownAt x n known p v
      → side_of moment later (published x n known p) (free_noted 25 (free_intended p.kept.pending x f))
      ≡ finished (side_of moment later (waiting x p) (free_intended p.kept.pending x f)) (seen_up past p) n v
  finishes known number are =
      ap (λ (ts : List m.Task). m.with_up (side_of moment later (published x n known p) (free_noted 25 (free_intended p.kept.pending x f))) (record (seen_up later (published x n known p)) { tasks = ts }))
      (sym (tasks moment past p f q x tried None))
      ∙ ap (λ (ts : List m.Txn). m.with_up (side_of moment later (published x n known p) (free_noted 25 (free_intended p.kept.pending x f))) (record (seen_up past p) { known = map seen_known known; txns = ts })) grown.txns
      ∙ ap (λ (ks : List m.KnownDb). m.with_up (side_of moment later (published x n known p) (free_noted 25 (free_intended p.kept.pending x f))) (record (seen_up past p) { known = ks }))
      (are ∙ ap (λ (k : m.KeptState). m.known_at k n v.dbs) (are_steps (waiting x p).kept (note.Done x.id n) tried.ordered (done number).may))
      ∙ ap (m.with_client (side_of moment later (waiting x p) (free_intended p.kept.pending x f)))
      (sym (stands_as_noted moment later (waiting x p) (free_intended p.kept.pending x f)
      (record (seen_up past p) { known = m.known_at (kept_after (seen_kept (waiting x p).kept) (m.Finishing n)) n v.dbs }) (note.Done x.id n) (m.Finishing n) (done number)))

  -- the reply says so
  answers : (s t : m.Side) (u : m.Up) (r : Reply) → AnswersDone q n r → t ≡ finished s u n v → Finishes s u q n v r t
  answers s t u (reply.Done k) says is = (says, is)
  answers s t u (reply.Cleaned deleted more) says is = (says, is)
  answers s t u _ says is = absurd says

  stored : (r : Reply) (t : m.Side) → Finishes (side_of moment later (waiting x p) (free_intended p.kept.pending x f)) (seen_up past p) q n v r t
      → Stores (with_intent q.intended (side_of moment past p f) (seen_up past p) q) (seen_up past p) q n (version_made (container_of moment past) q) r t
  stored r t h =
      subst (λ (o : Option Version). Stores (with_intent q.intended (side_of moment past p f) (seen_up past p) q) (seen_up past p) q n o r t) (sym grown.next)
      (subst (λ (s : m.Side). Finishes s (seen_up past p) q n v r t) (sym appended) h)

  appends : Appends (with_intent q.intended (side_of moment past p f) (seen_up past p) q) q (version_made (container_of moment past) q) (side_of moment later (waiting x p) (free_intended p.kept.pending x f))
  appends =
      subst (λ (o : Option Version). Appends (with_intent q.intended (side_of moment past p f) (seen_up past p) q) q o (side_of moment later (waiting x p) (free_intended p.kept.pending x f))) (sym grown.next) (sym appended)

pub put_is_done : PutIsDone
put_is_done second moment past later p f q x read n v known r tried grown next number are says = (
  next,
  stored moment past later p f q x n v tried grown r (side_of moment later (published x n known p) (free_noted 25 (free_intended p.kept.pending x f)))
      (answers moment past later p f q x n v tried grown (side_of moment later (waiting x p) (free_intended p.kept.pending x f)) (side_of moment later (published x n known p) (free_noted 25 (free_intended p.kept.pending x f))) (seen_up past p) r says
      (finishes moment past later p f q x n v tried grown known number are)),
  refl,
)

pub done_meets_fault : DoneMeetsFault
done_meets_fault second moment past later p f q x read n v tried grown next number failing = (
  next,
  stored moment past later p f q x n v tried grown reply.DiskFault (side_of moment later (shut (waiting x p)) (free_failed 25 (m.Finishing n) (free_intended p.kept.pending x f)))
      (fails moment later (waiting x p) (free_intended p.kept.pending x f) (seen_up past p) (note.Done x.id n) (m.Finishing n) (done moment past later p f q x n v tried grown number)
      (up_later moment past later p f q x n v tried grown) (still_failing p.kept.pending x f failing)),
  refl,
)

-- ---- it is not known what became of the put

pub put_failed : PutFailed
put_failed second moment past p f q x read tried = (sym tried.same_id, sym (begun moment past p f q x tried), refl)

pub put_is_lost : PutIsLost
put_is_lost second moment past later p f q x read n v tried grown next = (next, (sym tried.same_id, appends moment past later p f q x n v tried grown, refl))

pub refusal_is_lost : RefusalIsLost
refusal_is_lost second moment past p f q x read tried refused = (refused, (sym tried.same_id, sym (begun moment past p f q x tried), refl))
