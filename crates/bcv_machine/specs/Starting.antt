-- Starting a task: what it is asked over, how many requests it has left, and when it may start.
use Rattle.std.specs.Prelude.{◌≡◌, ℕ, ◌+◌, ◌*◌, ◌/◌, true, false, List, [], length, Option, Some, None, unwrap_or}
use Rattle.std.specs.Option.{option_map}
use Rattle.bcv_base.specs.declared.id.Id16.{Id16}
use Rattle.bcv_base.specs.Ids.{IsId}
use Rattle.bcv_base.specs.Image.{Writes}
use Rattle.bcv_base.specs.Keyed.{keyed}
use Rattle.bcv_base.specs.Version.{Database}
use Rattle.bcv_base.specs.Views.{touched_blocks}
use Rattle.bcv_model.specs.declared.reply.Reply.{Reply}
use Rattle.bcv_model.specs.declared.reply.Reply.TheVariants as reply
use Rattle.bcv_machine.specs.Refusals.{UnlessRefused, start_refusal, poll_refusal, resolve_refusal}
use Rattle.bcv_machine.specs.State.{Container, KeptState, LocalDb, Kind, Creating, Making, Uploading, Copying, Removing, Cleaning, Publication, Job, Polling, Publishing, Resolving, Up, Side, local_name, database_at, with_up, with_task, least_free, task_numbers, is_unused}

-- ---- what an upload is asked over

-- the base and the commits that a database has now
abbrev pub upload_over : List ℕ → Option LocalDb → Kind
upload_over db None = Uploading db 0 []
upload_over db (Some d) = Uploading db d.base d.commits

abbrev pub upload_of : KeptState → List ℕ → Kind
upload_of k db = upload_over db (keyed local_name db k.locals)

-- how many blocks of a database hold a page that its commits made
abbrev pub touched_count : ℕ → List Writes → Database → ℕ
touched_count block commits d = length (touched_blocks (block / d.page_size) (length d.image) commits)

-- how many blocks an upload puts
abbrev pub upload_blocks : Container → List ℕ → ℕ → List Writes → ℕ
upload_blocks c db base commits = unwrap_or (option_map (touched_count c.block commits) (database_at c base db)) 0

-- ---- requests left at the start

abbrev pub left_at_start : Container → Kind → ℕ
left_at_start c (Creating block retention) = 1
left_at_start c (Making d page_size pages) = length pages + 2
left_at_start c (Uploading d base commits) = 2 * upload_blocks c d base commits + 2
left_at_start c (Copying a b) = 2
left_at_start c (Removing a) = 2
left_at_start c Cleaning = 66

-- a create reads no manifest: it is as though it had read a version of number 0
abbrev pub read_at_start : Kind → Option ℕ
read_at_start (Creating block retention) = Some 0
read_at_start (Making d page_size pages) = None
read_at_start (Uploading d base commits) = None
read_at_start (Copying a b) = None
read_at_start (Removing a) = None
read_at_start Cleaning = None

-- ---- a publication starts

abbrev pub started : Container → Kind → Id16 → Publication
started c kind id = record { id = id; kind = kind; left = left_at_start c kind; read = read_at_start kind; refused = []; intended = false; begun = None }

-- a task has the least free number and so many requests left
abbrev pub StartsAs : Side → Up → Job → ℕ → Reply → Side → Type 0
StartsAs s u job left (reply.Task n k) t = (least_free (task_numbers u) ≡ Some n) × (k ≡ left) × (t ≡ with_up s (with_task u n job))
StartsAs s u job left _ t = ⊥

-- a publication starts under an id that was never used
abbrev pub Publishes : Side → Up → Kind → Id16 → Reply → Side → Type 0
Publishes s u kind id r t = IsId id × (is_unused s id ≡ true) × StartsAs s u (Publishing (started s.container kind id)) (left_at_start s.container kind) r t

abbrev pub Starts : Side → Up → Kind → Id16 → Reply → Side → Type 0
Starts s u kind id r t = UnlessRefused (start_refusal s.client.kept u kind) (with_up s u) r t (Publishes s u kind id r t)

-- ---- a poll and a resolve start

abbrev pub StartsPoll : Side → Up → Reply → Side → Type 0
StartsPoll s u r t = UnlessRefused (poll_refusal u) (with_up s u) r t (StartsAs s u Polling 1 r t)

abbrev pub StartsResolve : Side → Up → Reply → Side → Type 0
StartsResolve s u r t = UnlessRefused (resolve_refusal s.client.kept u) (with_up s u) r t (StartsAs s u Resolving 1 r t)
