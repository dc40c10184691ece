-- What each step keeps of a cleanup.
use Rattle.std.proofs.Common.{◌≡◌, ◌∙◌, ℕ, ◌≤◌, Bool, List, [], ◌∷◌, length, Option, Some, None, is_some, refl, sym, ap, subst, arith}
use Rattle.bcv_base.specs.declared.id.Id16.{Id16}
use Rattle.bcv_base.specs.declared.seen.Seen.{Seen}
use Rattle.bcv_dbmap.specs.declared.plan.EditPlan.{EditPlan}
use Rattle.bcv_dbmap.specs.declared.plan.EditPlan.TheVariants as edit
use Rattle.bcv_dbmap.specs.Checked.{checked}
use Rattle.bcv_dbmap.specs.Deletions.{most_cleaned}
use Rattle.bcv_publish.specs.declared.work.Work.{Work}
use Rattle.bcv_publish.specs.declared.work.Work.TheVariants as work
use Rattle.bcv_publish.specs.ManifestGet.{GetLeaves}
use Rattle.bcv_publish.specs.State as publish
use Rattle.bcv_cleanup.specs.State.{State, IsTask, IsTimed, IsRead, taken_ids}
use Rattle.bcv_cleanup.proofs.Sweeps.{sweep_passes}

-- ---- the get

timed_by : (moment : Option ℕ) (at : ℕ) (ids : List Id16) → moment ≡ Some at → IsTimed moment ids
timed_by moment at [] is = tt
timed_by moment at (i ∷ is) known = ap is_some known

-- a first get that kept a manifest, of which these ids are taken
pub task_first : (seen : Seen) (s : State) (result : Work) (p : publish.State) (at : ℕ) (ids : List Id16) (more : Bool) → IsTask s → taken_ids s ≡ [] → s.moment ≡ Some at → result ≡ work.More
    → GetLeaves seen s.edit s.publish result p → length ids ≤ most_cleaned → IsTask (record s { edit = edit.Sweep ids; publish = p; more = more })
task_first seen s result p at ids more t first known is leaves few =
    let g = subst (λ (w : Work). GetLeaves seen s.edit s.publish w p) is leaves in
    let empty : s.edit ≡ edit.Sweep [] = t.edit ∙ ap (λ (l : List Id16). edit.Sweep l) first in
    let passes : checked g.0.manifest (edit.Sweep []) s.publish.writer ≡ None = subst (λ (e : EditPlan). checked g.0.manifest e s.publish.writer ≡ None) empty g.4 in
    let none_deleted : length (taken_ids s) ≡ 0 = ap (λ (l : List Id16). length l) first in
    record {
      edit = refl;
      few_taken = few;
      few_deleted = omega (arith, t.few_deleted, none_deleted);
      timed = timed_by s.moment at ids known;
      stage = λ still. subst (λ (q : publish.State). IsRead (record s { edit = edit.Sweep ids; publish = q; more = more }) q.latest) (sym g.5)
          (record { rules = g.1; limits = g.2; passes = sweep_passes g.0.manifest ids s.publish.writer g.1 passes });
    }
