-- What a publication has read before refused puts lies in the log.
use Rattle.std.proofs.Common.{◌≡◌, ◌∙◌, ◌+◌, ◌≤◌, ℕ, true, List, [], ◌∷◌, ◌++◌, Option, Some, None, IfSome, refl, sym, ap, subst, arith}
use Rattle.bcv_base.specs.declared.log.Entry.{Entry}
use Rattle.bcv_base.specs.declared.manifest.Manifest.{Manifest}
use Rattle.bcv_base.specs.declared.seen.Latest.{Latest}
use Rattle.bcv_base.specs.History.{Item, count_of, history_of, last_of}
use Rattle.bcv_base.specs.HistoryLaws.{last_is}
use Rattle.bcv_clientstate.specs.Fits.{FitsSeen}
use Rattle.bcv_dbmap.specs.Kept.{IsKept}
use Rattle.bcv_dbmap.specs.Sound.{IsSoundLog, Sound}
use Rattle.bcv_dbmap.proofs.KeptLaws.{kept_published}
use Rattle.bcv_publish.specs.ManifestPut.{refused_once}
use Rattle.bcv_publish.specs.State as publish
use Rattle.bcv_tasks.specs.declared.publish_task.PublishTask.{PublishTask}
use Rattle.bcv_tasks.specs.declared.publish_task.PublishTask.TheVariants as task
use Rattle.bcv_tasks.specs.declared.put_answer.PutAnswer.TheVariants as answer
use Rattle.bcv_tasks.specs.State.{IsRunning, is_ready, latest_of, publish_of}
use Rattle.bcv_tasks.specs.TaskPut.{IsPassed, PutLeaves, with_refused}
use Rattle.bcv_publisher.specs.ReadsBefore.{NewHasReadNone, RefusedHasRead}
use Rattle.bcv_publisher.specs.WorkStep.{number_above, seen_before}

last_added : (ns : List ℕ) (n : ℕ) → publish.last_number (ns ++ n ∷ []) ≡ Some n
last_added [] n = refl
last_added (k ∷ []) n = refl
last_added (k ∷ j ∷ ns) n = last_added (j ∷ ns) n

above_is : (past : List Item) (o : Option Manifest) (read : Latest) → Sound past → last_of past ≡ o → IsPassed o (Some read) → read.manifest.number + 1 ≤ count_of past
above_is past None read sound last passed = absurd passed
above_is past (Some k) read sound last passed = let counted : k.number ≡ count_of past = (last_is past k sound.reads last).number in omega (arith, counted, passed)

pub new_has_read_none : NewHasReadNone
new_has_read_none past writer id = record { block = tt; number = omega arith }

pub refused_has_read : RefusedHasRead
refused_has_read log p read sound kept passed =
    let above = above_is (history_of log) (last_of (history_of log)) read sound refl passed in
    let same : number_above (publish.last_number (p.refused ++ read.manifest.number ∷ [])) ≡ read.manifest.number + 1 = ap number_above (last_added p.refused read.manifest.number) in
    record { block = (read.manifest, kept_published log read kept, refl); number = omega (arith, above, same) }

-- what a task read that goes on
task_reads : (t : PublishTask) (read : Latest) → IsRunning t → is_ready t ≡ true → latest_of t ≡ Some read → publish_of (with_refused t read) ≡ refused_once (publish_of t) read
task_reads (task.Create c) read running ready kept = absurd (let both : None ≡ Some read = sym running.waits ∙ kept in cc)
task_reads (task.Copy id s) read running ready kept = refl
task_reads (task.Upload id s) read running ready kept = refl
task_reads (task.Cleanup id s) read running ready kept = refl

pub refused_is_seen : (log : List Entry) (moment : ℕ) (t u : PublishTask) → IsSoundLog log → IsRunning t → is_ready t ≡ true → IfSome (latest_of t) (IsKept log) → IsPassed (last_of (history_of log)) (latest_of t)
    → PutLeaves moment t answer.Refused u → FitsSeen (history_of log) (seen_before (publish_of u))
refused_is_seen log moment t u sound running ready kept passed leaves =
    let down = leaves.1.1 in
    subst (λ (q : publish.State). FitsSeen (history_of log) (seen_before q)) (sym (ap publish_of down.becomes ∙ task_reads t down.read running ready down.kept))
    (refused_has_read log (publish_of t) down.read sound (subst (λ (o : Option Latest). IfSome o (IsKept log)) down.kept kept)
    (subst (λ (o : Option Latest). IsPassed (last_of (history_of log)) o) down.kept passed))
