-- What a cleanup takes of a delete list, and what its sweep leaves.
use Rattle.std.proofs.Common.{◌≡◌, ◌∙◌, ℕ, zero, suc, max, Bool, true, false, cond, List, [], ◌∷◌, take, Some, slice_get, refl, sym, ap, subst}
use Rattle.std.specs.List.{filter, AllByRecursion}
use Rattle.bcv_base.specs.declared.manifest.Dead.{Dead}
use Rattle.bcv_base.specs.Keyed.{keyed}
use Rattle.bcv_base.specs.ManifestRules.{dead_id, IsAbove, Ascends}
use Rattle.bcv_dbmap.specs.declared.plan.EditPlan.TheVariants as plan
use Rattle.bcv_dbmap.specs.BlockLaws.{CleanedIsDead, SweepLeavesOthers}
use Rattle.bcv_dbmap.specs.Deletions.{most_cleaned}
use Rattle.bcv_dbmap.proofs.Keys.{keyed_here, keyed_there, key_same, before_other}
use Rattle.bcv_dbmap.proofs.Moved.{dead_after_is}

-- ---- look-ups in an ascending list

-- each dead block is the one that its id finds
each_found : (xs : List Dead) → Ascends dead_id xs → AllByRecursion (λ (e : Dead). keyed dead_id e.id.0 xs ≡ Some e) xs
each_found [] asc = tt
each_found (x ∷ xs) asc = (keyed_here dead_id x.id.0 x xs (key_same x.id.0), later xs asc.0 (each_found xs asc.1))
  where
    later : (ys : List Dead) → IsAbove dead_id x.id.0 ys → AllByRecursion (λ (e : Dead). keyed dead_id e.id.0 xs ≡ Some e) ys → AllByRecursion (λ (e : Dead). keyed dead_id e.id.0 (x ∷ xs) ≡ Some e) ys
    later [] above all = tt
    later (y ∷ ys) above all = (keyed_there dead_id y.id.0 x xs (before_other x.id.0 y.id.0 above.0) ∙ all.0, later ys above.1 all.1)

-- what is found among the first ones is found, and what a filter keeps was there and passes the test
got_of_take : (n k : ℕ) (xs : List Dead) (e : Dead) → slice_get (take n xs) k ≡ Some e → slice_get xs k ≡ Some e
got_of_take zero k xs e h = absurd cc
got_of_take (suc n) k [] e h = absurd cc
got_of_take (suc n) zero (x ∷ xs) e h = h
got_of_take (suc n) (suc k) (x ∷ xs) e h = got_of_take n k xs e h

got_of_filter : (P : Dead → Type 0) (test : Dead → Bool) (xs : List Dead) (k : ℕ) (e : Dead) → AllByRecursion P xs → slice_get (filter test xs) k ≡ Some e → P e × (test e ≡ true)
got_of_filter P test [] k e all h = absurd cc
got_of_filter P test (x ∷ xs) k e all h = kept (test x) refl k (λ n g. got_of_filter P test xs n e all.1 g) h
  where
    kept : (b : Bool) → test x ≡ b → (k : ℕ) → ((n : ℕ) → slice_get (filter test xs) n ≡ Some e → P e × (test e ≡ true))
        → slice_get (cond b (x ∷ filter test xs) (filter test xs)) k ≡ Some e → P e × (test e ≡ true)
    kept false t k rest h = rest k h
    kept true t zero rest h = let same : x ≡ e = cc in (subst P same all.0, sym (ap test same) ∙ t)
    kept true t (suc k) rest h = rest k h

pub cleaned_is_dead : CleanedIsDead
cleaned_is_dead m released n e rules h =
    got_of_filter (λ (x : Dead). keyed dead_id x.id.0 m.dead ≡ Some x) released m.dead n e (each_found m.dead rules.dead) (got_of_take most_cleaned n (filter released m.dead) e h)

-- ---- the sweep

pub sweep_leaves_others : SweepLeavesOthers
sweep_leaves_others m ids id writer moment rules =
    sym (dead_after_is (plan.Sweep ids) (max m.moment moment) m.block id m.dbs m.dead rules.dbs rules.dead rules.each_dead refl)
