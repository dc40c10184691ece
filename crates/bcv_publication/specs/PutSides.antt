-- What a client keeps and has around the put of a publication.
use Rattle.std.specs.Prelude.{◌≡◌, ℕ, true, false, List, [], ◌∷◌, ◌++◌, map, Some, IfSome, IsSome}
use Rattle.std.specs.List.{AllByRecursion}
use Rattle.std.specs.Option.{option_map}
use Rattle.bcv_base.specs.History.{Item}
use Rattle.bcv_base.specs.Ids.{IsId}
use Rattle.bcv_base.specs.Version.{Version}
use Rattle.bcv_dbmap.specs.Sound.{Sound}
use Rattle.bcv_machine.specs.ManifestPut.{done_reply, sized_by, taken_by, version_made}
use Rattle.bcv_machine.specs.State as m
use Rattle.bcv_model.specs.declared.kept.PendingPub.{PendingPub}
use Rattle.bcv_model.specs.declared.note.Note.TheVariants as note
use Rattle.bcv_model.specs.declared.reply.Reply.{Reply}
use Rattle.bcv_model.specs.declared.reply.Reply.TheVariants as reply
use Rattle.bcv_model.specs.NoteRules.{MayUpload}
use Rattle.bcv_model.specs.Notes.{after_note}
use Rattle.bcv_clientstate.specs.BaseLaws.{FitsLocal, FitsUpload}
use Rattle.bcv_clientstate.specs.KeptLaws.{IsOrdered}
use Rattle.bcv_clientstate.specs.NoteSides.{with_note}
use Rattle.bcv_databases.specs.declared.known.Known.{Known}
use Rattle.bcv_clientstate.specs.Parts.{Job, Fetching, Polling, Creating, Copying, Uploading, Cleaning, Resolving, Task, Parts}
use Rattle.bcv_clientstate.specs.SeenClient.{has_intent, seen_known, seen_txn}
use Rattle.bcv_clientstate.specs.SeenContainer.{container_of}
use Rattle.bcv_clientstate.specs.SeenKept.{seen_kept, seen_upload}
use Rattle.bcv_ledger.specs.Begins.{WaitsFor}

-- ---- what may be tried

-- the job publishes nothing
abbrev pub IsQuiet : Job → Type 0
IsQuiet (Fetching access txn page) = Unit {0}
IsQuiet Polling = Unit {0}
IsQuiet (Creating block retention id) = ⊥
IsQuiet (Copying s) = ⊥
IsQuiet (Uploading s view) = ⊥
IsQuiet (Cleaning s) = ⊥
IsQuiet Resolving = Unit {0}

-- the publication, which is pending as this once its intent is noted, may be put by a client whose other tasks publish nothing
pub record Tried (past : List Item) (p : Parts) (q : m.Publication) (x : PendingPub) : Type 0 where
  pub sound : Sound past
  pub ordered : IsOrdered p.kept
  pub locals : AllByRecursion (FitsLocal past) p.kept.locals
  pub named : IsSome p.kept.me
  pub is_id : IsId x.id
  pub same_id : q.id ≡ x.id
  pub takes : taken_by q.kind ≡ option_map seen_upload x.upload
  pub may_upload : IfSome x.upload (MayUpload p.kept)
  pub upload : IfSome x.upload (FitsUpload p.kept)
  pub waits : WaitsFor p.kept.pending x
  pub intended : q.intended ≡ has_intent p.kept.pending q.id
  pub quiet : AllByRecursion (λ (t : Task). IsQuiet t.job) p.tasks

-- ---- the client afterwards

-- its intent stands
abbrev pub waiting : PendingPub → Parts → Parts
waiting x p = with_note (note.Intent x) p

-- it was made as the version of a number, and these databases are known without commits
abbrev pub published : PendingPub → ℕ → List Known → Parts → Parts
published x n known p = record p { kept = after_note (waiting x p).kept (note.Done x.id n); known = known }

-- it was not made
abbrev pub voided : PendingPub → Parts → Parts
voided x p = with_note (note.Void x.id) (waiting x p)

-- a note of its end failed: the journal is closed
abbrev pub shut : Parts → Parts
shut p = record p { closed = true }

-- ---- the version that was made

-- the log has the version more that the machine makes of the publication, and the client's bases are there still
pub record Appended (moment : ℕ) (past later : List Item) (p : Parts) (q : m.Publication) (v : Version) : Type 0 where
  pub next : version_made (container_of moment past) q ≡ Some v
  pub after : container_of moment later ≡ record (sized_by q.kind (container_of moment past)) { versions = (container_of moment past).versions ++ v ∷ [] }
  pub sound : Sound later
  pub locals : AllByRecursion (FitsLocal later) p.kept.locals
  pub txns : map (seen_txn later) p.txns ≡ map (seen_txn past) p.txns

-- these are the databases of the version that have no commits, at its number
abbrev pub AreKnownAt : PendingPub → ℕ → List Known → Parts → Version → Type 0
AreKnownAt x n known p v = map seen_known known ≡ m.known_at (seen_kept (published x n known p).kept) n v.dbs

-- the reply to a publication that was made as the version of a number
abbrev pub AnswersDone : m.Publication → ℕ → Reply → Type 0
AnswersDone q n (reply.Done k) = done_reply q q.kind n false ≡ reply.Done k
AnswersDone q n (reply.Cleaned deleted more) = done_reply q q.kind n more ≡ reply.Cleaned deleted more
AnswersDone q n _ = ⊥
