-- What the tests need of a manifest that they edit.
use lib.Count.{ones}
use Rattle.std.proofs.Common.{◌≡◌, ◌∙◌, ℕ, ◌<◌, ◌≤◌, ◌^◌, true, List, [], ◌∷◌, ◌++◌, Option, Some, None, Result, Ok, Err, false, refl, sym, subst, lit<, lit≤}
use Rattle.std.specs.Prelude.{not}
use Rattle.std.specs.Int.{is_power_of_two}
use Rattle.std.specs.List.{AllByRecursion}
use Rattle.std.specs.Result.{MatchResult, is_err}
use Rattle.std.proofs.lemmas.Bool.{and_parts}
use Rattle.bcv_base.specs.declared.id.Id16.{Id16}
use Rattle.bcv_base.specs.declared.manifest.DbEntry.{DbEntry}
use Rattle.bcv_base.specs.declared.manifest.Dead.{Dead}
use Rattle.bcv_base.specs.declared.manifest.Manifest.{Manifest}
use Rattle.bcv_base.specs.declared.manifest.Writer.{Writer}
use Rattle.bcv_base.specs.Ids.{IsId, id_eq, has_id}
use Rattle.bcv_base.specs.ManifestRules.{is_block_size, is_page_size}
use Rattle.bcv_dbmap.specs.declared.fault.EditFault.{EditFault}
use Rattle.bcv_dbmap.specs.declared.plan.EditPlan.{EditPlan}
use Rattle.bcv_dbmap.specs.declared.plan.EditPlan.TheVariants as plan
use Rattle.bcv_dbmap.specs.Applied.{applied, FitsPlan}
use Rattle.bcv_dbmap.specs.Checked.{checked, zero_id}
use Rattle.bcv_dbmap.specs.Filled.{Fills, FillsEntry}
use Rattle.store_tests.specs.Tried.{IsTried}
use Rattle.bcv_dbmap.proofs.Chosen.{has_filter}
use Rattle.bcv_dbmap.proofs.Limits.{applied_meets_limits}
use Rattle.bcv_dbmap.proofs.RulesLaws.{applied_meets_rules}

pub all_push : (ids : List Id16) (i : Id16) → AllByRecursion IsId ids → IsId i → AllByRecursion IsId (ids ++ i ∷ [])
all_push [] i all one = (one, tt)
all_push (x ∷ xs) i all one = (all.0, all_push xs i all.1 one)

fills_entry : (e : DbEntry) → FillsEntry e e
fills_entry e = record {
  name = refl;
  page_size = refl;
  pages = refl;
  blocks = λ i h. (and_parts (has_id i e.blocks) (not (id_eq i zero_id)) (sym (has_filter (λ x. not (id_eq x zero_id)) i e.blocks) ∙ h)).0;
}

fills_itself : (p : EditPlan) → Fills p p
fills_itself (plan.New e) = (e, refl, fills_entry e)
fills_itself (plan.Upload from e) = (e, refl, fills_entry e)
fills_itself (plan.Copy from to) = refl
fills_itself (plan.Remove name) = refl
fills_itself (plan.Sweep ids) = refl

-- what is applied can be edited again
pub tried_again : (m : Manifest) (p : EditPlan) (id writer : Id16) (moment : ℕ) → IsTried m → FitsPlan 1024 p → checked m p writer ≡ None → moment < 2 ^ 64 → IsId id → IsId writer
    → IsTried (applied m p id writer moment)
tried_again m p id writer moment tried fits passes small is_id is_writer =
    let fits_m : FitsPlan m.block p = subst (λ (block : ℕ). FitsPlan block p) (sym tried.block) fits in
    record {
      rules = applied_meets_rules m p id writer moment tried.rules fits_m passes small is_id is_writer;
      limits = (applied_meets_limits m p p id writer moment tried.rules tried.limits fits_m passes (fills_itself p)).1;
      block = tried.block;
    }

pub passes_from_no_err : (r : Result (Unit {0}) EditFault) (o : Option EditFault) → MatchResult r (λ _. o ≡ None) (λ f. o ≡ Some f) → is_err r ≡ false → o ≡ None
passes_from_no_err (Ok u) o h e = h
passes_from_no_err (Err f) o h e = absurd cc

pub is_power : is_power_of_two 1024 ≡ true
unfolding ones
is_power = refl

pub is_size : is_block_size 1024 ≡ true
unfolding ones
is_size = refl

pub is_page : is_page_size 1024 1024 ≡ true
unfolding ones
is_page = refl

-- a manifest with nothing in it
nothing_tried : (number : ℕ) (id : Id16) → 1 ≤ number → number < 2 ^ 64 → IsId id
    → IsTried (record { number = number; moment = 0; block = 1024; retention = 0; id = id; writers = []; dbs = []; dead = [] })
nothing_tried number id least small is_id = record {
  rules = record {
    least = least;
    number = small;
    moment = lit< tt;
    block = is_size;
    retention = lit< tt;
    id = is_id;
    writers = tt;
    each_writer = tt;
    dbs = tt;
    each_db = tt;
    dead = tt;
    each_dead = tt;
  };
  limits = record { few_writers = lit≤ tt; few_dbs = lit≤ tt; few_dead = lit≤ tt };
  block = refl;
}

pub empty_tried : (number : ℕ) (id : Id16) (writers : List Writer) (dbs : List DbEntry) (dead : List Dead) → 1 ≤ number → number < 2 ^ 64 → IsId id → writers ≡ [] → dbs ≡ [] → dead ≡ []
    → IsTried (record { number = number; moment = 0; block = 1024; retention = 0; id = id; writers = writers; dbs = dbs; dead = dead })
empty_tried number id writers dbs dead least small is_id no_writers no_dbs no_dead =
    subst (λ (ws : List Writer). IsTried (record { number = number; moment = 0; block = 1024; retention = 0; id = id; writers = ws; dbs = dbs; dead = dead })) (sym no_writers)
    (subst (λ (ds : List DbEntry). IsTried (record { number = number; moment = 0; block = 1024; retention = 0; id = id; writers = []; dbs = ds; dead = dead })) (sym no_dbs)
    (subst (λ (es : List Dead). IsTried (record { number = number; moment = 0; block = 1024; retention = 0; id = id; writers = []; dbs = []; dead = es })) (sym no_dead)
    (nothing_tried number id least small is_id)))
