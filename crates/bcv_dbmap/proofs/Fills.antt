-- A plan fills itself.
use Rattle.std.proofs.Common.{◌≡◌, Bool, true, false, not, ◌||◌, List, [], ◌∷◌, cond, refl, sym, ◌∙◌}
use Rattle.std.specs.List.{filter}
use Rattle.bcv_base.specs.declared.id.Id16.{Id16}
use Rattle.bcv_base.specs.declared.manifest.DbEntry.{DbEntry}
use Rattle.bcv_base.specs.Ids.{id_eq, has_id}
use Rattle.bcv_dbmap.specs.declared.plan.EditPlan.TheVariants as plan
use Rattle.bcv_dbmap.specs.Checked.{zero_id}
use Rattle.bcv_dbmap.specs.Filled.{FillsEntry}
use Rattle.bcv_dbmap.specs.Laws.{FillsItself}

-- an id that a filter keeps is one of all
kept_or : (b same kept later : Bool) → (kept ≡ true → later ≡ true) → cond b (same || kept) kept ≡ true → (same || later) ≡ true
kept_or b true kept later rest h = refl
kept_or true false kept later rest h = rest h
kept_or false false kept later rest h = rest h

has_id-cond : (b : Bool) (i j : Id16) (is : List Id16) → has_id i (cond b (j ∷ is) is) ≡ cond b (id_eq j i || has_id i is) (has_id i is)
has_id-cond true i j is = refl
has_id-cond false i j is = refl

kept_id : (keeps : Id16 → Bool) (i : Id16) (is : List Id16) → has_id i (filter keeps is) ≡ true → has_id i is ≡ true
kept_id keeps i [] h = h
kept_id keeps i (j ∷ is) h = kept_or (keeps j) (id_eq j i) (has_id i (filter keeps is)) (has_id i is) (kept_id keeps i is) (sym (has_id-cond (keeps j) i j (filter keeps is)) ∙ h)

fills_entry : (e : DbEntry) → FillsEntry e e
fills_entry e = record { name = refl; page_size = refl; pages = refl; blocks = λ i h. kept_id (λ j. not (id_eq j zero_id)) i e.blocks h }

pub fills_itself : FillsItself
fills_itself (plan.New e) = (e, refl, fills_entry e)
fills_itself (plan.Upload from e) = (e, refl, fills_entry e)
fills_itself (plan.Copy from to) = refl
fills_itself (plan.Remove name) = refl
fills_itself (plan.Sweep ids) = refl
