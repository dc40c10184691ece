-- A cleanup that published is complete.
use Rattle.std.proofs.Common.{◌≡◌, ◌∙◌, ℕ, Bool, true, false, not, ◌&&◌, ◌||◌, cond, List, [], ◌∷◌, take, Option, Some, None, MatchOption, refl, sym, ap, subst}
use Rattle.std.specs.List.{filter, list_any}
use Rattle.bcv_base.specs.declared.manifest.Dead.{Dead}
use Rattle.bcv_base.specs.declared.seen.Latest.{Latest}
use Rattle.bcv_base.specs.Ids.{has_id}
use Rattle.bcv_base.specs.ManifestRules.{MeetsRules}
use Rattle.bcv_dbmap.specs.declared.plan.EditPlan.{EditPlan}
use Rattle.bcv_dbmap.specs.declared.plan.EditPlan.TheVariants as edit
use Rattle.bcv_dbmap.specs.Applied.{applied}
use Rattle.bcv_dbmap.specs.Deletions.{most_cleaned}
use Rattle.bcv_dbmap.proofs.CleanupLaws.{sweep_leaves_others}
use Rattle.bcv_publish.specs.declared.work.PutEnd.{PutEnd}
use Rattle.bcv_publish.specs.declared.work.PutEnd.TheVariants as put
use Rattle.bcv_publish.specs.ManifestPut as publishing
use Rattle.bcv_publish.specs.State as publish
use Rattle.bcv_cleanup.specs.CleanupPut.{CleansAll, IsComplete, NothingIsComplete, behind_put}
use Rattle.bcv_cleanup.specs.Released.{has_more, ids_of}
use Rattle.bcv_cleanup.specs.State.{IsRead, IsTask, State, taken_ids}

-- what passes one test among those that pass another one passes both
any_kept : (test other : Dead → Bool) (dead : List Dead) → list_any test (filter other dead) ≡ list_any (λ (e : Dead). test e && other e) dead
any_kept test other [] = refl
any_kept test other (e ∷ es) = by_test (other e) refl (any_kept test other es)
  where
    both : (a : Bool) → (a && true) ≡ a
    both true = refl
    both false = refl

    neither : (a : Bool) → (a && false) ≡ false
    neither true = refl
    neither false = refl

    by_test : (b : Bool) → other e ≡ b → list_any test (filter other es) ≡ list_any (λ (x : Dead). test x && other x) es
        → list_any test (filter other (e ∷ es)) ≡ list_any (λ (x : Dead). test x && other x) (e ∷ es)
    by_test true is rest =
        ap (λ (b : Bool). list_any test (cond b (e ∷ filter other es) (filter other es))) is ∙ ap (λ (b : Bool). test e || b) rest
        ∙ ap (λ (b : Bool). b || list_any (λ (x : Dead). test x && other x) es) (sym (both (test e)) ∙ ap (λ (b : Bool). test e && b) (sym is))
    by_test false is rest =
        ap (λ (b : Bool). list_any test (cond b (e ∷ filter other es) (filter other es))) is ∙ rest
        ∙ ap (λ (b : Bool). b || list_any (λ (x : Dead). test x && other x) es) (sym (neither (test e)) ∙ ap (λ (b : Bool). test e && b) (sym is))

-- the published manifest has a released entry exactly where the one that was read had one besides what was swept
swept_more : (released : Dead → Bool) (s : State) (read : Latest) (moment : ℕ) → s.edit ≡ edit.Sweep (taken_ids s) → MeetsRules read.manifest
    → list_any released (applied read.manifest s.edit s.publish.id s.publish.writer moment).dead ≡ has_more released (taken_ids s) read.manifest.dead
swept_more released s read moment sweeps rules =
    ap (λ (e : EditPlan). list_any released (applied read.manifest e s.publish.id s.publish.writer moment).dead) sweeps
    ∙ ap (λ (l : List Dead). list_any released l) (sweep_leaves_others read.manifest (taken_ids s) s.publish.id s.publish.writer moment rules)
    ∙ any_kept released (λ (e : Dead). not (has_id e.id (taken_ids s))) read.manifest.dead

complete : (moment : ℕ) (s : State) (read : Latest) (end : PutEnd) (p : publish.State) → s.edit ≡ edit.Sweep (taken_ids s) → MeetsRules read.manifest → publishing.PutLeaves s.edit moment s.publish read end p
    → CleansAll s read end (behind_put s p end)
complete moment s read (put.Published n) p sweeps rules leaves released first took says =
    subst (λ (q : publish.State). IsComplete released first (put.Published n) (behind_put s q (put.Published n))) (sym leaves.2)
    (record { takes = refl; left = says ∙ sym (swept_more released s read moment sweeps rules) })
complete moment s read put.Refused p sweeps rules leaves released first took says = tt
complete moment s read (put.Contended numbers) p sweeps rules leaves released first took says = tt
complete moment s read put.Unknown p sweeps rules leaves released first took says = tt
complete moment s read put.NoMemory p sweeps rules leaves released first took says = tt

-- whatever is kept
pub any_complete : (moment : ℕ) (s : State) (end : PutEnd) (p : publish.State) → IsTask s → s.published ≡ false → MatchOption s.publish.latest ⊥ (λ read. publishing.PutLeaves s.edit moment s.publish read end p)
    → MatchOption s.publish.latest ⊥ (λ read. CleansAll s read end (behind_put s p end))
any_complete moment s end p t still leaves = by_latest s.publish.latest (t.stage still) leaves
  where
    by_latest : (o : Option Latest) → IsRead s o → MatchOption o ⊥ (λ read. publishing.PutLeaves s.edit moment s.publish read end p) → MatchOption o ⊥ (λ read. CleansAll s read end (behind_put s p end))
    by_latest None read leaves = absurd leaves
    by_latest (Some l) read leaves = complete moment s l end p t.edit read.rules leaves

-- ---- without a publication

-- where none are first, none are released
no_first : (xs : List Dead) → [] ≡ ids_of (take most_cleaned xs) → xs ≡ []
no_first [] h = refl
no_first (x ∷ xs) h = absurd cc

none_released : (released : Dead → Bool) (dead : List Dead) → filter released dead ≡ [] → false ≡ list_any released dead
none_released released [] h = refl
none_released released (e ∷ es) h = by_test (released e) refl h (none_released released es)
  where
    by_test : (b : Bool) → released e ≡ b → cond b (e ∷ filter released es) (filter released es) ≡ [] → (filter released es ≡ [] → false ≡ list_any released es) → false ≡ list_any released (e ∷ es)
    by_test true is h later = absurd cc
    by_test false is h later = later h ∙ ap (λ (b : Bool). b || list_any released es) (sym is)

pub nothing_is_complete : NothingIsComplete
nothing_is_complete released read none =
    let empty : filter released read.dead ≡ [] = no_first (filter released read.dead) none in
    record { takes = sym (ap (λ (l : List Dead). take most_cleaned l) empty); left = none_released released read.dead empty }
