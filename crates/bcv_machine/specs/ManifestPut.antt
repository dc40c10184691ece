-- The manifest's put of a publication: its intent, the put, and done or void, one after the other.
use Rattle.std.specs.Prelude.{◌≡◌, ℕ, ◌+◌, ◌<◌, Bool, true, false, ◌||◌, ◌==◌, List, [], ◌∷◌, ◌++◌, length, Option, Some, None}
use Rattle.std.specs.Option.{option_map}
use Rattle.bcv_base.specs.declared.id.Id16.{Id16}
use Rattle.bcv_base.specs.declared.outcome.Outcome.{Outcome}
use Rattle.bcv_base.specs.declared.outcome.Outcome.TheVariants as outcome
use Rattle.bcv_base.specs.Edits as edits
use Rattle.bcv_base.specs.Image.{view_image}
use Rattle.bcv_base.specs.Version.{Database, Version}
use Rattle.bcv_model.specs.declared.reply.Reply.{Reply}
use Rattle.bcv_model.specs.declared.reply.Reply.TheVariants as reply
use Rattle.bcv_machine.specs.Noting.{kept_after, noted, NoteFails, FaultEnds}
use Rattle.bcv_machine.specs.State.{Container, Kind, Creating, Making, Uploading, Copying, Removing, Cleaning, CleanupBegun, Publication, Pending, Taken, Note, Intending, Finishing, Up, Side, version_count, last_version, database_at, known_at, with_client, with_up}

-- ---- what is published

-- the edit that a publication makes of the last version; a create makes none
abbrev pub edit_of : Container → Kind → Option edits.Edit
edit_of c (Creating block retention) = None
edit_of c (Making d page_size pages) = Some (edits.New d page_size pages)
edit_of c (Uploading d base commits) = option_map (λ (x : Database). edits.Upload d x.page_size (view_image x.page_size x.image commits)) (database_at c base d)
edit_of c (Copying a b) = Some (edits.Copy a b)
edit_of c (Removing a) = Some (edits.Remove a)
edit_of c Cleaning = Some edits.Sweep

-- the version that is next: an edit of the last one, or the first one
abbrev pub version_next : Container → Id16 → Option edits.Edit → Option Version → Option Version
version_next c id e None = Some (edits.created id c.moment)
version_next c id e (Some last) = option_map (λ (x : edits.Edit). edits.edited last x id c.moment) e

abbrev pub version_made : Container → Publication → Option Version
version_made c p = version_next c p.id (edit_of c p.kind) (last_version c)

-- a create gives the block size and the retention
abbrev pub sized_by : Kind → Container → Container
sized_by (Creating block retention) c = record c { block = block; retention = retention }
sized_by (Making d page_size pages) c = c
sized_by (Uploading d base commits) c = c
sized_by (Copying a b) c = c
sized_by (Removing a) c = c
sized_by Cleaning c = c

-- the side with one version more
abbrev pub with_version : Side → Kind → Version → Side
with_version s kind v = record s { container = record (sized_by kind s.container) { versions = s.container.versions ++ v ∷ [] } }

-- ---- the intent

-- of an upload the database and how many commits it takes
abbrev pub taken_by : Kind → Option Taken
taken_by (Creating block retention) = None
taken_by (Making d page_size pages) = None
taken_by (Uploading d base commits) = Some (record { db = d; count = length commits })
taken_by (Copying a b) = None
taken_by (Removing a) = None
taken_by Cleaning = None

-- what is pending from the intent on
abbrev pub pending_of : Publication → Pending
pending_of p = record { id = p.id; upload = taken_by p.kind }

abbrev pub intent_of : Publication → Note
intent_of p = Intending (pending_of p)

-- the side once the publication has its intent, which is noted where it has none
abbrev pub with_intent : Bool → Side → Up → Publication → Side
with_intent true s u p = with_up s u
with_intent false s u p = with_client s (noted s u (intent_of p))

-- the intent is not noted, and nothing is put
abbrev pub IntentFails : Bool → Side → Up → Publication → Reply → Side → Type 0
IntentFails true s u p r t = ⊥
IntentFails false s u p r t = NoteFails s u (intent_of p) r t

-- ---- the put is done

abbrev pub count_begun : Option CleanupBegun → ℕ
count_begun None = 0
count_begun (Some b) = b.count

-- what answers a publication that was made as the version of a number; whether a cleanup left more is open
abbrev pub done_reply : Publication → Kind → ℕ → Bool → Reply
done_reply p (Creating block retention) n more = reply.Done n
done_reply p (Making d page_size pages) n more = reply.Done n
done_reply p (Uploading d base commits) n more = reply.Done n
done_reply p (Copying a b) n more = reply.Done n
done_reply p (Removing a) n more = reply.Done n
done_reply p Cleaning n more = reply.Cleaned (count_begun p.begun) more

-- the client knows the version as after a poll
abbrev pub finished : Side → Up → ℕ → Version → Side
finished s u n v = with_client s (noted s (record u { known = known_at (kept_after s.client.kept (Finishing n)) n v.dbs }) (Finishing n))

-- done is noted, and answered; or noting fails, and nothing moves, but the version stays
abbrev pub Finishes : Side → Up → Publication → ℕ → Version → Reply → Side → Type 0
Finishes s u p n v (reply.Done k) t = (done_reply p p.kind n false ≡ reply.Done k) × (t ≡ finished s u n v)
Finishes s u p n v (reply.Cleaned deleted more) t = (done_reply p p.kind n more ≡ reply.Cleaned deleted more) × (t ≡ finished s u n v)
Finishes s u p n v r t = NoteFails s u (Finishing n) r t

-- the version read is still the last one, and this is the number after it
abbrev pub IsNext : Container → ℕ → ℕ → Type 0
IsNext c read n = (read ≡ version_count c) × (n ≡ version_count c + 1)

-- the version that was made is appended, and the publication finishes
abbrev pub Stores : Side → Up → Publication → ℕ → Option Version → Reply → Side → Type 0
Stores s u p n None r t = ⊥
Stores s u p n (Some v) r t = Finishes (with_version s p.kind v) u p n v r t

-- the version that was made is appended, and nothing is known of it
abbrev pub Appends : Side → Publication → Option Version → Side → Type 0
Appends s p None t = ⊥
Appends s p (Some v) t = t ≡ with_version s p.kind v

-- ---- the put is refused

-- the version read is not the last one any more
abbrev pub IsRefused : Container → ℕ → Type 0
IsRefused c read = read < version_count c

-- a create is tried once, everything else eight times; this was the last time
abbrev pub is_last_try : Kind → List ℕ → Bool
is_last_try (Creating block retention) refused = true
is_last_try (Making d page_size pages) refused = length refused == 7
is_last_try (Uploading d base commits) refused = length refused == 7
is_last_try (Copying a b) refused = length refused == 7
is_last_try (Removing a) refused = length refused == 7
is_last_try Cleaning refused = length refused == 7

-- what answers the last refused put
abbrev pub last_refusal : Kind → List ℕ → Reply
last_refusal (Creating block retention) numbers = reply.Exists
last_refusal (Making d page_size pages) numbers = reply.Contended numbers
last_refusal (Uploading d base commits) numbers = reply.Contended numbers
last_refusal (Copying a b) numbers = reply.Contended numbers
last_refusal (Removing a) numbers = reply.Contended numbers
last_refusal Cleaning numbers = reply.Contended numbers

-- the publication reads the manifest anew
abbrev pub tried_again : Publication → ℕ → Publication
tried_again p read = record p { left = 2; read = None; refused = p.refused ++ read ∷ []; intended = true }

-- after a refused put the publication is tried again, or it ends, and void is noted
abbrev pub Refuses : Side → Up → Publication → ℕ → Reply → Side → Option Publication → Type 0
Refuses s u p read (reply.Working left) t rest = (is_last_try p.kind p.refused ≡ false) × (left ≡ 2) × (t ≡ s) × (rest ≡ Some (tried_again p read))
Refuses s u p read r t rest = (is_last_try p.kind p.refused ≡ true) × FaultEnds true s u (last_refusal p.kind (p.refused ++ read ∷ [])) r t × (rest ≡ None)

-- nothing was published, and a note failed: the intent, or after it and a refused put the void
abbrev pub NoteFailsAt : Bool → Side → Up → Publication → ℕ → Reply → Side → Option Publication → Type 0
NoteFailsAt false s u p read r t rest = IntentFails p.intended s u p r t × (rest ≡ None)
NoteFailsAt true s u p read r t rest = IsRefused s.container read × Refuses (with_intent p.intended s u p) u p read r t rest

-- ---- the whole step

-- a request that was done, and published nothing
abbrev pub PutsNothing : Bool → Side → Up → Publication → ℕ → Reply → Side → Option Publication → Type 0
PutsNothing second s u p read reply.JournalFull t rest = NoteFailsAt false s u p read reply.JournalFull t rest
PutsNothing second s u p read reply.DiskFault t rest = NoteFailsAt (p.intended || second) s u p read reply.DiskFault t rest
PutsNothing second s u p read reply.Crashed t rest = NoteFailsAt (p.intended || second) s u p read reply.Crashed t rest
PutsNothing second s u p read r t rest = IsRefused s.container read × Refuses (with_intent p.intended s u p) u p read r t rest

-- a request that failed without effect, or that never came to be made
abbrev pub PutFails : Side → Up → Publication → Reply → Side → Option Publication → Type 0
PutFails s u p (reply.Unknown id) t rest = (id ≡ p.id) × (t ≡ with_intent p.intended s u p) × (rest ≡ None)
PutFails s u p r t rest = IntentFails p.intended s u p r t × (rest ≡ None)

-- a request that was made, and whose answer was lost: where the version read is no longer the last one nothing is appended
abbrev pub PutLosesNothing : Side → Up → Publication → ℕ → Reply → Side → Option Publication → Type 0
PutLosesNothing s u p read (reply.Unknown id) t rest = IsRefused s.container read × PutFails s u p (reply.Unknown id) t rest
PutLosesNothing s u p read r t rest = PutFails s u p r t rest

abbrev pub PutLosesAnswer : Side → Up → Publication → Reply → Side → Option Publication → Type 0
PutLosesAnswer s u p (reply.Unknown id) t rest = (id ≡ p.id) × Appends (with_intent p.intended s u p) p (version_made s.container p) t × (rest ≡ None)
PutLosesAnswer s u p _ t rest = ⊥

-- `second` tells which of two notes failed; the number is that of the version that was published, where one was
abbrev pub PutsManifest : Bool → Side → Up → Publication → ℕ → Outcome → Option ℕ → Reply → Side → Option Publication → Type 0
PutsManifest second s u p read outcome.Ok (Some n) r t rest =
    IsNext s.container read n × Stores (with_intent p.intended s u p) u p n (version_made s.container p) r t × (rest ≡ None)
PutsManifest second s u p read outcome.Ok None r t rest = PutsNothing second s u p read r t rest
PutsManifest second s u p read outcome.Fail (Some n) r t rest = ⊥
PutsManifest second s u p read outcome.Fail None r t rest = PutFails s u p r t rest
PutsManifest second s u p read outcome.Lost (Some n) r t rest = IsNext s.container read n × PutLosesAnswer s u p r t rest
PutsManifest second s u p read outcome.Lost None r t rest = PutLosesNothing s u p read r t rest
