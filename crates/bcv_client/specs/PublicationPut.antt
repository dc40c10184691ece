-- The step of a publishing task at its put: what it leaves of a client, whatever its store and its disk tell, and what it notes.
use Rattle.std.specs.Prelude.{◌≡◌, ℕ, Bool, true, false, List, Option, Some, None}
use Rattle.bcv_base.specs.declared.clock.Now.{Now}
use Rattle.bcv_base.specs.declared.clock.Now.TheVariants as now
use Rattle.bcv_base.specs.declared.id.Id16.{Id16}
use Rattle.bcv_base.specs.declared.manifest.Manifest.{Manifest}
use Rattle.bcv_base.specs.declared.seen.Latest.{Latest}
use Rattle.bcv_base.specs.declared.seen.Seen.{Seen}
use Rattle.bcv_base.specs.Faults.{Rose}
use Rattle.bcv_base.specs.Moments.{ClockShown, Tells}
use Rattle.bcv_clientlaws.specs.OtherParts.{Includes}
use Rattle.bcv_clientstate.specs.SeenClient.{Free}
use Rattle.bcv_dbmap.specs.Honest.{GrewHonestly}
use Rattle.bcv_disk.specs.DiskShown.{DiskShown, DiskTold}
use Rattle.bcv_ledger.specs.declared.ledger.Ledger.{Ledger}
use Rattle.bcv_model.specs.declared.kept.Kept.{Kept}
use Rattle.bcv_model.specs.declared.note.Note.{Note}
use Rattle.bcv_model.specs.declared.reply.Reply.{Reply}
use Rattle.bcv_model.specs.declared.reply.Reply.TheVariants as reply
use Rattle.bcv_model.specs.NoteRules.{Folds}
use Rattle.bcv_publish.specs.declared.work.Work.TheVariants as work
use Rattle.bcv_publish.specs.ManifestRead.{is_other}
use Rattle.bcv_publisher.specs.PollStep.{seen_with}
use Rattle.bcv_publisher.specs.NotesFit.{FoldsFit}
use Rattle.bcv_publisher.specs.PutNotes.{PutNotes}
use Rattle.bcv_publisher.specs.PutStep.{PutStep}
use Rattle.bcv_publisher.specs.StepNotes.{LeavesNotes, NotesPublication}
use Rattle.bcv_publisher.specs.WorkEnds.{EndsWork}
use Rattle.bcv_store.specs.StoreShown.{StoreShown, StoreTold}
use Rattle.bcv_tasks.specs.declared.publish_task.PublishTask.{PublishTask}
use Rattle.bcv_tasks.specs.declared.publish_task.PublishTask.TheVariants as task
use Rattle.bcv_tasks.specs.State.{latest_of, pending_of}
use Rattle.bcv_client.specs.LocalWrites.{TrimsSets, TrimsWhere}
use Rattle.bcv_client.specs.PublicationOver.{StandsWith, mine_with}
use Rattle.bcv_client.specs.declared.client.Client.{Client}

-- ---- its parts

-- a task that makes a container has this writer
abbrev pub signed : Id16 → PublishTask → PublishTask
signed writer (task.Create c) = task.Create (record c { writer = writer })
signed writer t = t

-- the reply of a put says that the publication was made
abbrev pub says_made : Reply → Bool
says_made (reply.Done n) = true
says_made (reply.Cleaned deleted more) = true
says_made _ = false

-- what is seen once this manifest was published, by whether it has another block size than was seen
abbrev pub seen_made : Bool → Seen → Manifest → Seen
seen_made true s m = s
seen_made false s m = seen_with s m

-- where the publication was made, its manifest is seen
abbrev pub SeesWhere : Bool → Seen → Seen → Option Latest → Type 0
SeesWhere false s t l = t ≡ s
SeesWhere true s t None = t ≡ s
SeesWhere true s t (Some l) = t ≡ seen_made (is_other s.block l.manifest.block) s l.manifest

-- the set of a place whose commits a task uploads, where it uploads some
abbrev pub set_uploaded : ℕ → PublishTask → Option ℕ
set_uploaded set (task.Upload id s) = Some set
set_uploaded set t = None

-- ---- the step

-- but for the ledger and what was seen nothing has changed
pub record OnlyPuts {D : Type 0} {g : _} (old new : Client D g) : Type 0 where
  pub id : new.id ≡ old.id
  pub latest : new.latest ≡ old.latest
  pub txns : new.txns ≡ old.txns
  pub tasks : new.tasks ≡ old.tasks
  pub taken : new.taken ≡ old.taken

-- the put at a moment: the ledger takes the step; where the publication was made its manifest is seen, and of the set whose
-- commits it uploaded is forgotten what nobody needs any more
pub record PutsAt {D : Type 0} {g : _} (told : DiskTold) (shown : D → DiskShown) (store : StoreTold) (before after : StoreShown)
    (old new : Client D g) (set taken : ℕ) (t : PublishTask) (moment : ℕ) (r : Reply) (u : PublishTask) : Type 0 where
  pub only : OnlyPuts old new
  pub mid : Ledger D g
  pub puts : PutStep told shown store before after old.ledger mid old.seen taken t moment r u
  pub notes : PutNotes told shown store before after old.ledger mid old.seen taken t r u
  pub sees : SeesWhere (says_made r) old.seen new.seen (latest_of u)
  pub trims : TrimsWhere (says_made r) (set_uploaded set u) mid new.ledger old.txns old.tasks.items
  pub views : TrimsSets mid new.ledger old.txns

-- no moment was read: void is noted where the publication is pending
pub record EndsUntimed {D : Type 0} {g : _} (told : DiskTold) (shown : D → DiskShown) (before after : StoreShown)
    (old new : Client D g) (t : PublishTask) (r : Reply) (u : PublishTask) : Type 0 where
  pub only : OnlyPuts old new
  pub seen_same : new.seen ≡ old.seen
  pub store_same : after ≡ before
  pub task_same : u ≡ t
  pub ends : EndsWork told shown old.ledger new.ledger t work.ClockFault r

-- by what the clock answered
abbrev pub PutsBy : {D : Type 0} {g : _} → DiskTold → (D → DiskShown) → StoreTold → StoreShown → StoreShown → Client D g
    → Client D g → ℕ → ℕ → PublishTask → Reply → PublishTask → Now → Type 0
PutsBy told shown store before after old new set taken t r u (now.At moment) =
    PutsAt told shown store before after old new set taken t moment r u
PutsBy told shown store before after old new set taken t r u now.Failed =
    EndsUntimed told shown before after old new t r u

-- the step of a task that is ready, which publishes in the client's name
pub record ClientPuts {D : Type 0} {g : _} (told : DiskTold) (shown : D → DiskShown) (store : StoreTold)
    (before after : StoreShown) (clock later_clock : ClockShown) (old new : Client D g) (set taken : ℕ) (t : PublishTask)
    (r : Reply) (u : PublishTask) : Type 0 where
  pub read : Now
  pub tells : Tells clock later_clock read
  pub by : PutsBy told shown store before after old new set taken (signed old.id t) r u read
  pub cause : r ≡ reply.ClockFault → Rose clock.faults later_clock.faults

-- ---- what it notes

-- its intent, where nothing is pending, and what became of it, where that is known, each of which may stand where the client stands
-- with the task; a crash at any moment leaves what was kept, or that with the first of these notes, and so on, each of which fits
pub record ClientNotes {D : Type 0} {g : _} (told : DiskTold) (shown : D → DiskShown) (store : StoreTold)
    (before after : StoreShown) (old new : Client D g) (set taken : ℕ) (t : PublishTask) : Type 0 where
  pub notes : List Note
  pub noted : NotesPublication old.ledger.databases.kept.pending (pending_of taken t) notes
  pub any_moment : told.tells → (end : Kept) → Folds old.ledger.databases.kept notes end
      → LeavesNotes shown old.ledger.log new.ledger.log old.ledger.databases.kept notes
  pub may : store.tells → (n : ℕ) (mine : List Id16) (f : Free) → StandsWith shown old n set taken t before.log f
      → Includes mine (mine_with old n set taken t) → GrewHonestly store.alone mine before.log after.log
      → (end : Kept) × Folds old.ledger.databases.kept notes end
  pub left : store.tells → (n : ℕ) (mine : List Id16) (f : Free) → StandsWith shown old n set taken t before.log f
      → Includes mine (mine_with old n set taken t) → GrewHonestly store.alone mine before.log after.log
      → FoldsFit after.log old.id old.ledger.databases.kept notes
