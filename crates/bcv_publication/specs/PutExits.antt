-- The ends of a manifest's put with its notes, each a step of the machine from the client's side before it to that after it.
use Rattle.std.specs.Prelude.{◌≡◌, ◌<◌, ◌+◌, ◌*◌, ◌^◌, ℕ, Bool, true, false, List, [], ◌∷◌, ◌++◌, Option, Some, None}
use Rattle.bcv_base.specs.declared.outcome.Outcome.{Outcome}
use Rattle.bcv_base.specs.declared.outcome.Outcome.TheVariants as outcome
use Rattle.bcv_base.specs.History.{Item}
use Rattle.bcv_base.specs.Version.{Version}
use Rattle.bcv_machine.specs.ManifestPut.{IsNext, IsRefused, PutsManifest, is_last_try, last_refusal, tried_again}
use Rattle.bcv_machine.specs.State as m
use Rattle.bcv_model.specs.declared.kept.PendingPub.{PendingPub}
use Rattle.bcv_model.specs.declared.note.Note.TheVariants as note
use Rattle.bcv_model.specs.declared.reply.Reply.{Reply}
use Rattle.bcv_model.specs.declared.reply.Reply.TheVariants as reply
use Rattle.bcv_model.specs.NoteRules.{IsVersionNumber}
use Rattle.bcv_model.specs.Notes.{note_size}
use Rattle.bcv_clientstate.specs.Journaled.{free_failed, free_noted}
use Rattle.bcv_databases.specs.declared.known.Known.{Known}
use Rattle.bcv_clientstate.specs.Parts.{Parts}
use Rattle.bcv_clientstate.specs.SeenClient.{Free, seen_up, side_of}
use Rattle.bcv_clientstate.specs.SeenContainer.{container_of}
use Rattle.bcv_ledger.specs.Begins.{free_intended, free_untried}
use Rattle.bcv_publication.specs.PutSides.{Appended, AnswersDone, AreKnownAt, Tried, published, shut, voided, waiting}

-- the machine's put over a history, by a client with its task taken out, ends so
abbrev pub PutsTo : Bool → ℕ → List Item → Parts → Free → m.Publication → ℕ → Outcome → Option ℕ → Reply → m.Side → Option m.Publication → Type 0
PutsTo second moment past p f q read o number r t rest = PutsManifest second (side_of moment past p f) (seen_up past p) q read o number r t rest

-- ---- before the put

-- the journal is too full for the intent, under each outcome
abbrev pub IntentMeetsFull : Type 0
IntentMeetsFull =
    (moment : ℕ) (past : List Item) (p : Parts) (f : Free) (q : m.Publication) (x : PendingPub) (read : ℕ) (o : Outcome) → Tried past p q x
    → p.kept.pending ≡ None → 2 ^ 31 < 2 * f.noted + 87 + note_size (note.Intent x)
    → PutsTo false moment past p f q read o None reply.JournalFull (side_of moment past p f) None

-- the disk failed at the intent, under each outcome
abbrev pub IntentMeetsFault : Type 0
IntentMeetsFault =
    (moment : ℕ) (past : List Item) (p : Parts) (f : Free) (q : m.Publication) (x : PendingPub) (read : ℕ) (o : Outcome) → Tried past p q x
    → p.kept.pending ≡ None → f.failing ≡ true
    → PutsTo false moment past p f q read o None reply.DiskFault (side_of moment past (shut p) (free_untried x f)) None

-- ---- the put is done

-- the version is published, and done is noted
abbrev pub PutIsDone : Type 0
PutIsDone =
    (second : Bool) (moment : ℕ) (past later : List Item) (p : Parts) (f : Free) (q : m.Publication) (x : PendingPub) (read n : ℕ) (v : Version) (known : List Known) (r : Reply)
    → Tried past p q x → Appended moment past later p q v → IsNext (container_of moment past) read n → IsVersionNumber n → AreKnownAt x n known p v → AnswersDone q n r
    → PutsTo second moment past p f q read outcome.Ok (Some n) r
    (side_of moment later (published x n known p) (free_noted 25 (free_intended p.kept.pending x f))) None

-- the version is published, and the disk failed at the note
abbrev pub DoneMeetsFault : Type 0
DoneMeetsFault =
    (second : Bool) (moment : ℕ) (past later : List Item) (p : Parts) (f : Free) (q : m.Publication) (x : PendingPub) (read n : ℕ) (v : Version)
    → Tried past p q x → Appended moment past later p q v → IsNext (container_of moment past) read n → IsVersionNumber n → f.failing ≡ true
    → PutsTo second moment past p f q read outcome.Ok (Some n) reply.DiskFault
    (side_of moment later (shut (waiting x p)) (free_failed 25 (m.Finishing n) (free_intended p.kept.pending x f))) None

-- ---- the put is refused

-- and is to be tried again
abbrev pub PutIsRefused : Type 0
PutIsRefused =
    (second : Bool) (moment : ℕ) (past : List Item) (p : Parts) (f : Free) (q : m.Publication) (x : PendingPub) (read : ℕ)
    → Tried past p q x → IsRefused (container_of moment past) read → is_last_try q.kind q.refused ≡ false
    → PutsTo second moment past p f q read outcome.Ok None (reply.Working 2) (side_of moment past (waiting x p) (free_intended p.kept.pending x f)) (Some (tried_again q read))

-- for the last time, and void is noted
abbrev pub PutIsVoid : Type 0
PutIsVoid =
    (second : Bool) (moment : ℕ) (past : List Item) (p : Parts) (f : Free) (q : m.Publication) (x : PendingPub) (read : ℕ)
    → Tried past p q x → IsRefused (container_of moment past) read → is_last_try q.kind q.refused ≡ true
    → PutsTo second moment past p f q read outcome.Ok None (last_refusal q.kind (q.refused ++ read ∷ []))
    (side_of moment past (voided x p) (free_noted 17 (free_intended p.kept.pending x f))) None

-- for the last time, and the disk failed at the note
abbrev pub VoidMeetsFault : Type 0
VoidMeetsFault =
    (moment : ℕ) (past : List Item) (p : Parts) (f : Free) (q : m.Publication) (x : PendingPub) (read : ℕ)
    → Tried past p q x → IsRefused (container_of moment past) read → is_last_try q.kind q.refused ≡ true → f.failing ≡ true
    → PutsTo true moment past p f q read outcome.Ok None reply.DiskFault
    (side_of moment past (shut (waiting x p)) (free_failed 17 m.Voiding (free_intended p.kept.pending x f))) None

-- ---- it is not known what became of the put

-- it failed without effect
abbrev pub PutFailed : Type 0
PutFailed =
    (second : Bool) (moment : ℕ) (past : List Item) (p : Parts) (f : Free) (q : m.Publication) (x : PendingPub) (read : ℕ) → Tried past p q x
    → PutsTo second moment past p f q read outcome.Fail None (reply.Unknown x.id) (side_of moment past (waiting x p) (free_intended p.kept.pending x f)) None

-- the version is published, and the answer was lost
abbrev pub PutIsLost : Type 0
PutIsLost =
    (second : Bool) (moment : ℕ) (past later : List Item) (p : Parts) (f : Free) (q : m.Publication) (x : PendingPub) (read n : ℕ) (v : Version)
    → Tried past p q x → Appended moment past later p q v → IsNext (container_of moment past) read n
    → PutsTo second moment past p f q read outcome.Lost (Some n) (reply.Unknown x.id) (side_of moment later (waiting x p) (free_intended p.kept.pending x f)) None

-- it was refused, and the answer was lost
abbrev pub RefusalIsLost : Type 0
RefusalIsLost =
    (second : Bool) (moment : ℕ) (past : List Item) (p : Parts) (f : Free) (q : m.Publication) (x : PendingPub) (read : ℕ)
    → Tried past p q x → IsRefused (container_of moment past) read
    → PutsTo second moment past p f q read outcome.Lost None (reply.Unknown x.id) (side_of moment past (waiting x p) (free_intended p.kept.pending x f)) None
