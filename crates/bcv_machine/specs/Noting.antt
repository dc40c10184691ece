-- Noting: what is kept after a note, how long it is, and how the noting of it may end.
use Rattle.std.specs.Prelude.{◌≡◌, ℕ, ◌+◌, ◌*◌, ◌^◌, ◌<◌, Bool, true, false, List, [], ◌∷◌, ◌++◌, length, take, drop, replicate, Option, Some, None, unwrap_or, option_and_then}
use Rattle.std.specs.Option.{option_map}
use Rattle.bcv_base.specs.declared.id.Id16.{Id16}
use Rattle.bcv_base.specs.declared.manifest.DbEntry.{DbEntry}
use Rattle.bcv_base.specs.Image.{Writes}
use Rattle.bcv_base.specs.Keyed.{keyed, with_keyed, without_keyed}
use Rattle.bcv_base.specs.ManifestRules.{blocks_needed}
use Rattle.bcv_base.specs.Version.{Database}
use Rattle.bcv_base.specs.Views.{view_size}
use Rattle.bcv_model.specs.declared.ask.Commit.{Commit}
use Rattle.bcv_model.specs.declared.kept.Uploading as concrete
use Rattle.bcv_model.specs.declared.note.Note as bytes
use Rattle.bcv_model.specs.declared.note.Note.TheVariants as note
use Rattle.bcv_model.specs.declared.reply.Reply.{Reply}
use Rattle.bcv_model.specs.declared.reply.Reply.TheVariants as reply
use Rattle.bcv_model.specs.Notes.{note_size}
use Rattle.bcv_machine.specs.State.{Container, KeptState, LocalDb, Taken, Pending, Note, Committing, Reverting, Intending, Finishing, Voiding, Up, Client, Side, database_at, local_name, commits_in, with_client, with_up}

-- ---- what is kept after a note

-- a database with one more commit; its first one fixes the base
abbrev pub with_commit : List ℕ → ℕ → Writes → Option LocalDb → LocalDb
with_commit name base w None = record { name = name; base = base; commits = w ∷ [] }
with_commit name base w (Some d) = record d { commits = d.commits ++ w ∷ [] }

-- the databases after a publication at a number that took commits of one: the later ones stay, over that version
abbrev pub with_remaining : List ℕ → ℕ → List Writes → List LocalDb → List LocalDb
with_remaining name number [] ls = without_keyed local_name name ls
with_remaining name number (w ∷ ws) ls = with_keyed local_name (record { name = name; base = number; commits = w ∷ ws }) ls

abbrev pub locals_published : ℕ → Option Taken → List LocalDb → List LocalDb
locals_published number None ls = ls
locals_published number (Some x) ls = with_remaining x.db number (drop x.count (commits_in ls x.db)) ls

-- what is kept after the pending publication was made as the version of a number
abbrev pub kept_published : ℕ → Option Pending → KeptState → KeptState
kept_published number None k = k
kept_published number (Some p) k = record { locals = locals_published number p.upload k.locals; pending = None }

-- what is kept after a note
abbrev pub kept_after : KeptState → Note → KeptState
kept_after k (Committing name base w) = record k { locals = with_keyed local_name (with_commit name base w (keyed local_name name k.locals)) k.locals }
kept_after k (Reverting name) = record k { locals = without_keyed local_name name k.locals }
kept_after k (Intending p) = record k { pending = Some p }
kept_after k (Finishing number) = kept_published number k.pending k
kept_after k Voiding = record k { pending = None }

-- ---- how long a note is

-- an id of zeros stands where the bytes of an id do not count
abbrev pub some_id : Id16
some_id = record { 0 = replicate 16 0 }

-- a database's entry with as many pages, and as many blocks as these need
abbrev pub entry_with : ℕ → ℕ → Database → DbEntry
entry_with block pages d = record { name = d.name; tag = d.tag; page_size = d.page_size; pages = pages; blocks = replicate (blocks_needed block d.page_size pages) some_id }

abbrev pub commit_of : Writes → Commit
commit_of w = record { size = w.size; pages = w.pages }

-- the note of a commit: a database's first one has the base's entry with it
abbrev pub commit_note : Container → List ℕ → ℕ → Writes → Option LocalDb → bytes.Note
commit_note c name base w None =
    unwrap_or (option_map (λ (d : Database). note.First (entry_with c.block (length d.image) d) base c.block (commit_of w)) (database_at c base name)) (note.Committed name (commit_of w))
commit_note c name base w (Some d) = note.Committed name (commit_of w)

-- the entry of an upload of the first commits of a database: the size is that after them
abbrev pub upload_with : Container → Taken → LocalDb → Option concrete.Uploading
upload_with c x l =
    option_map (λ (d : Database). record { count = x.count; block = c.block; entry = entry_with c.block (view_size (length d.image) (take x.count l.commits)) d }) (database_at c l.base x.db)

-- what an intent has of an upload
abbrev pub upload_in : Container → List LocalDb → Option Taken → Option concrete.Uploading
upload_in c ls None = None
upload_in c ls (Some x) = option_and_then (upload_with c x) (keyed local_name x.db ls)

-- the note as the client's log has it, but for ids
abbrev pub logged : Container → KeptState → Note → bytes.Note
logged c k (Committing name base w) = commit_note c name base w (keyed local_name name k.locals)
logged c k (Reverting name) = note.Revert name
logged c k (Intending p) = note.Intent (record { id = p.id; upload = upload_in c k.locals p.upload })
logged c k (Finishing number) = note.Done some_id number
logged c k Voiding = note.Void some_id

-- the bytes of a note
abbrev pub length_of_note : Side → Note → ℕ
length_of_note s x = note_size (logged s.container s.client.kept x)

-- ---- how noting ends

-- what is noted once the note was tried: its bytes, a gate and a length
abbrev pub noted_with : Side → Note → ℕ
noted_with s x = s.client.noted + (5 + length_of_note s x)

-- the client once the note stands
abbrev pub noted : Side → Up → Note → Client
noted s u x = record s.client { noted = noted_with s x; kept = kept_after s.client.kept x; up = Some u }

-- the client once a device call failed: the note is in flight, and the journal is closed
abbrev pub note_failed : Side → Up → Note → Client
note_failed s u x = record s.client { failing = false; noted = noted_with s x; flight = Some x; up = Some (record u { closed = true }) }

-- the client once its fuse burnt: the note is in flight, and the client is down
abbrev pub note_crashed : Side → Note → Client
note_crashed s x = record s.client { fused = false; noted = noted_with s x; flight = Some x; up = None }

-- the journal may be too full for the note; it never is for the end of a publication
abbrev pub MayBeFull : Side → Note → Type 0
MayBeFull s (Committing name base w) = 2 ^ 31 < 2 * s.client.noted + 87 + length_of_note s (Committing name base w)
MayBeFull s (Reverting name) = 2 ^ 31 < 2 * s.client.noted + 87 + length_of_note s (Reverting name)
MayBeFull s (Intending p) = 2 ^ 31 < 2 * s.client.noted + 87 + length_of_note s (Intending p)
MayBeFull s (Finishing number) = ⊥
MayBeFull s Voiding = ⊥

-- noting ends with the note standing, where nothing is answered, or with one of three replies, and leaves this client
abbrev pub Notes : Side → Up → Note → Option Reply → Client → Type 0
Notes s u x None d = d ≡ noted s u x
Notes s u x (Some reply.JournalFull) d = MayBeFull s x × (d ≡ record s.client { up = Some u })
Notes s u x (Some reply.DiskFault) d = (s.client.failing ≡ true) × (d ≡ note_failed s u x)
Notes s u x (Some reply.Crashed) d = (s.client.fused ≡ true) × (d ≡ note_crashed s x)
Notes s u x (Some _) d = ⊥

-- the note does not stand, and the reply says why
abbrev pub NoteFails : Side → Up → Note → Reply → Side → Type 0
NoteFails s u x r t = (t.container ≡ s.container) × Notes s u x (Some r) t.client

-- ---- how a publication ends by a fault

-- without an intent the fault is answered; with one the void is noted first, and where it cannot be, that is answered
abbrev pub FaultEnds : Bool → Side → Up → Reply → Reply → Side → Type 0
FaultEnds false s u fault r t = (r ≡ fault) × (t ≡ with_up s u)
FaultEnds true s u fault reply.DiskFault t = NoteFails s u Voiding reply.DiskFault t
FaultEnds true s u fault reply.Crashed t = NoteFails s u Voiding reply.Crashed t
FaultEnds true s u fault r t = (r ≡ fault) × (t ≡ with_client s (noted s u Voiding))
