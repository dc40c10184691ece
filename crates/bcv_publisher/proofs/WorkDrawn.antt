-- Which names a step before a put draws, and which moment it reads.
use Rattle.std.proofs.Common.{◌≡◌, ◌≤◌, ℕ, Bool, true, false, cond, List, [], length, append-nil, Option, Some, None, IfSome, is_none, sym, ap, subst, arith}
use Rattle.bcv_base.specs.declared.clock.Now.TheVariants as now
use Rattle.bcv_base.specs.declared.id.Id16.{Id16}
use Rattle.bcv_base.specs.declared.seen.Latest.{Latest}
use Rattle.bcv_base.specs.declared.seen.Seen.{Seen}
use Rattle.bcv_base.specs.Drawn.{AddsNames, NamesShown}
use Rattle.bcv_base.specs.Image.{Writes}
use Rattle.bcv_base.specs.Moments.{ClockShown, Tells}
use Rattle.bcv_cache.specs.Entry.{Blocks}
use Rattle.bcv_cleanup.specs.CleanupWork.{AsksClock}
use Rattle.bcv_dbcopy.specs.State as copy
use Rattle.bcv_dbcopy.specs.TaskWork as copying
use Rattle.bcv_publish.specs.declared.work.Work.{Work}
use Rattle.bcv_publish.specs.declared.work.Work.TheVariants as work
use Rattle.bcv_store.specs.StoreShown.{StoreShown, StoreTold}
use Rattle.bcv_tasks.specs.declared.publish_task.PublishTask.{PublishTask}
use Rattle.bcv_tasks.specs.declared.publish_task.PublishTask.TheVariants as task
use Rattle.bcv_tasks.specs.TaskWork.{WorksAs}
use Rattle.bcv_upload.specs.State as upload
use Rattle.bcv_upload.specs.UploadWork as uploading
use Rattle.bcv_publisher.specs.WorkStep.{drawn_ids, moment_read}

-- ---- at most one name

one : (ids : List Id16) → length ids ≡ 1 → length ids ≤ 1
one ids is = omega (arith, is)

none : (ids : List Id16) → ids ≡ [] → length ids ≤ 1
none ids is = let long : length ids ≡ 0 = ap length is in omega (arith, long)

copied : (o : Option Latest) (s : copy.State) (r : Work) (v : copy.State) (ids : List Id16) → copying.DrawsFor o s r v ids → length ids ≤ 1
copied None s r v ids d = none ids d
copied (Some l) s work.More v ids d = one ids (ap length d.1)
copied (Some l) s work.NamesFault v ids d = none ids d
copied (Some l) s work.NoMemory v ids d = d
copied (Some l) s _ v ids d = one ids d

put : (s : upload.State) (r : Work) (v : upload.State) (ids : List Id16) → uploading.BlockDraws s r v ids → length ids ≤ 1
put s work.More v ids d = one ids (ap length d.1)
put s work.NamesFault v ids d = none ids d
put s work.NoMemory v ids d = d
put s _ v ids d = one ids d

uploaded : (o : Option Latest) (fetch : Bool) (s : upload.State) (r : Work) (v : upload.State) (ids : List Id16) → uploading.DrawsFor o fetch s r v ids → length ids ≤ 1
uploaded None fetch s r v ids d = none ids d
uploaded (Some l) true s r v ids d = none ids d
uploaded (Some l) false s r v ids d = put s r v ids d

adds_none : (drawn : Option (List Id16)) → AddsNames drawn drawn []
adds_none None = tt
adds_none (Some ids) = sym (append-nil ids)

-- ---- the clock

read_of : (clock after : ClockShown) (o n : Option ℕ) (r : Work) → AsksClock o clock after r n → IfSome (cond (is_none o) n None) (λ at. Tells clock after (now.At at))
read_of clock after None n work.ClockFault asked = subst (λ (x : Option ℕ). IfSome x (λ at. Tells clock after (now.At at))) (sym asked.1) tt
read_of clock after None n _ asked = subst (λ (x : Option ℕ). IfSome x (λ at. Tells clock after (now.At at))) (sym asked.2) asked.1
read_of clock after (Some moment) n r asked = tt

-- ---- each kind

module _ (store : StoreTold) (a b : StoreShown) (names later : NamesShown) (clock after : ClockShown) (seen : Seen) (view : List Writes) (blocks : Blocks) where
  -- the names that a step drew
  pub record Draws (ids : List Id16) : Type 0 where
    pub adds : AddsNames names.drawn later.drawn ids
    pub few : length ids ≤ 1

  pub draws_of : (t : PublishTask) (made : Work) (u : PublishTask) (kind : WorksAs store a b names later clock after seen view blocks t made u)
      → Draws (drawn_ids store a b names later clock after seen view blocks t made u kind)
  draws_of (task.Copy id s) made (task.Copy i v) kind = record { adds = kind.0.drawn; few = copied s.publish.latest s made v kind.0.ids kind.0.draws }
  draws_of (task.Upload id s) made (task.Upload i v) kind =
      record { adds = kind.0.drawn; few = uploaded s.publish.latest (uploading.is_fetch view blocks s) s made v kind.0.ids kind.0.draws }
  draws_of (task.Cleanup id s) made (task.Cleanup i v) kind =
      record { adds = subst (λ (n : NamesShown). AddsNames names.drawn n.drawn []) (sym kind.1) (adds_none names.drawn); few = omega arith }
  draws_of (task.Create x) made u kind = absurd kind
  draws_of (task.Copy id s) made _ kind = absurd kind
  draws_of (task.Upload id s) made _ kind = absurd kind
  draws_of (task.Cleanup id s) made _ kind = absurd kind

  pub reads_of : (t : PublishTask) (made : Work) (u : PublishTask) → WorksAs store a b names later clock after seen view blocks t made u
      → IfSome (moment_read t u) (λ at. Tells clock after (now.At at))
  reads_of (task.Cleanup id s) made (task.Cleanup i v) kind = read_of clock after s.moment v.moment made kind.0.asked
  reads_of _ made _ kind = tt
