-- What is noted once a put is answered, and what becomes of its task.
use Rattle.std.specs.Prelude.{◌≡◌, ◌≢◌, ◌<◌, ◌^◌, ℕ, Bool, true, false, List, Option, Some, None, MatchOption}
use Rattle.bcv_base.specs.declared.id.Id16.{Id16}
use Rattle.bcv_base.specs.declared.manifest.Manifest.{Manifest}
use Rattle.bcv_base.specs.declared.seen.Latest.{Latest}
use Rattle.bcv_base.specs.declared.seen.Seen.{Seen}
use Rattle.bcv_base.specs.ManifestRules.{Ascends, db_name}
use Rattle.bcv_clientstate.specs.KnownLaws.{known_of}
use Rattle.bcv_databases.specs.declared.known.Known.{Known}
use Rattle.bcv_disk.specs.DiskShown.{DiskShown, DiskTold}
use Rattle.bcv_ledger.specs.declared.ledger.Ledger.{Ledger}
use Rattle.bcv_ledger.specs.NoteEnds.{NoteEnds, known_found}
use Rattle.bcv_model.specs.declared.kept.Kept.{Kept}
use Rattle.bcv_model.specs.declared.note.Note.TheVariants as note
use Rattle.bcv_model.specs.declared.reply.Reply.{Reply}
use Rattle.bcv_model.specs.declared.reply.Reply.TheVariants as reply
use Rattle.bcv_model.specs.Notes.{after_note}
use Rattle.bcv_publication.specs.TaskSides.{done_answer}
use Rattle.bcv_publish.specs.ManifestRead.{is_other}
use Rattle.bcv_tasks.specs.declared.publish_task.PublishTask.{PublishTask}
use Rattle.bcv_tasks.specs.declared.put_answer.PutAnswer.{PutAnswer}
use Rattle.bcv_tasks.specs.declared.put_answer.PutAnswer.TheVariants as answer
use Rattle.bcv_tasks.specs.State.{id_of, latest_of}

-- the fault, or else this reply
abbrev pub reply_by : Option Reply → Reply → Reply
reply_by None r = r
reply_by (Some fault) r = fault

-- a task that has published has its manifest, whose databases ascend by name
abbrev pub HasMade : PutAnswer → PublishTask → Type 0
HasMade (answer.Published n) t = MatchOption (latest_of t) ⊥ (λ l. Ascends db_name l.manifest.dbs)
HasMade _ t = Unit {0}

-- the databases that are known once a publication was made as the version of a number: those of its manifest; where that has
-- another block size than was seen, those of before, with the one that it uploaded where no commits are left
abbrev pub known_made : Bool → Kept → Id16 → ℕ → Manifest → List Known → List Known
known_made true k id n m known = known_found k id n known
known_made false k id n m known = known_of (after_note k (note.Done id n)) m

-- done is noted of a publication with this manifest, whose databases are known then, by what was seen
pub record NotesDone {D : Type 0} {g : _} (told : DiskTold) (shown : D → DiskShown) (old new : Ledger D g) (id : Id16) (n : ℕ)
    (seen : Seen) (m : Manifest) (fault : Option Reply) : Type 0 where
  pub ends :
      NoteEnds told shown old new (note.Done id n)
      (known_made (is_other seen.block m.block) old.databases.kept id n m old.databases.known) fault
  pub room : fault ≢ Some reply.JournalFull
  pub number : n < 2 ^ 64

-- the publication was made as the version of a number: done is noted
pub record Publishes {D : Type 0} {g : _} (told : DiskTold) (shown : D → DiskShown) (old new : Ledger D g) (t : PublishTask)
    (seen : Seen) (n : ℕ) (result : Reply) : Type 0 where
  pub latest : Latest
  pub is_latest : latest_of t ≡ Some latest
  pub fault : Option Reply
  pub done : NotesDone told shown old new (id_of t) n seen latest.manifest fault
  pub is : result ≡ reply_by fault (done_answer t n)

-- it was not made: void is noted
pub record Voids {D : Type 0} {g : _} (told : DiskTold) (shown : D → DiskShown) (old new : Ledger D g) (t : PublishTask) (r : Reply) (result : Reply) : Type 0 where
  pub fault : Option Reply
  pub ends : NoteEnds told shown old new (note.Void (id_of t)) old.databases.known fault
  pub room : fault ≢ Some reply.JournalFull
  pub is : result ≡ reply_by fault r

-- where the task goes on, or it is not known what became of the put, nothing is noted
abbrev pub Settles : {D : Type 0} {g : _} → DiskTold → (D → DiskShown) → Ledger D g → Ledger D g → PublishTask → Seen → PutAnswer → Reply
    → Type 0
Settles told shown old new t seen (answer.Published n) result = Publishes told shown old new t seen n result
Settles told shown old new t seen answer.Refused result = (new ≡ old) × (result ≡ reply.Working 2)
Settles told shown old new t seen (answer.Contended numbers) result = Voids told shown old new t (reply.Contended numbers) result
Settles told shown old new t seen answer.Exists result = Voids told shown old new t reply.Exists result
Settles told shown old new t seen answer.Unknown result = (new ≡ old) × (result ≡ reply.Unknown (id_of t))
Settles told shown old new t seen answer.NoMemory result = (new ≡ old) × (result ≡ reply.NoMemory)
