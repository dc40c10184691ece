-- Which dead blocks a cleanup takes: those that the caller's rule releases.
use Rattle.std.specs.Prelude.{◌≡◌, ℕ, ◌<◌, ◌^◌, Bool, true, not, ◌&&◌, List, [], ◌∷◌, map}
use Rattle.std.specs.List.{list_any}
use Rattle.bcv_base.specs.declared.id.Id16.{Id16}
use Rattle.bcv_base.specs.declared.manifest.Dead.{Dead}
use Rattle.bcv_base.specs.declared.manifest.Manifest.{Manifest}
use Rattle.bcv_base.specs.Ids.{has_id}
use Rattle.bcv_base.specs.Keyed.{keyed}
use Rattle.bcv_base.specs.ManifestRules.{dead_id}
use Rattle.bcv_dbmap.specs.Deletions.{cleaned}
use Rattle.bcv_dbmap.specs.Past.{is_old}

-- what a rule may answer of a stamp, a moment and a retention, in this order
abbrev pub RuleAnswers : Type 1
RuleAnswers = ℕ → ℕ → ℕ → Bool → Type 0

-- the test is the rule at a moment, in a container that keeps dead blocks so long: it says of each entry what the rule
-- answers
abbrev pub IsTestOf : RuleAnswers → ℕ → ℕ → (Dead → Bool) → Type 0
IsTestOf answers moment retention released =
    (e : Dead) (answer : Bool) → e.stamp < 2 ^ 64 → answers e.stamp moment retention answer → released e ≡ answer

-- the ids of some entries
abbrev pub ids_of : List Dead → List Id16
ids_of dead = map (λ (e : Dead). e.id) dead

-- a delete list has an entry that the test releases, besides those of some ids
abbrev pub has_more : (Dead → Bool) → List Id16 → List Dead → Bool
has_more released ids dead = list_any (λ (e : Dead). released e && not (has_id e.id ids)) dead

-- ---- what a get takes and finds

-- the first get takes the first entries that the rule releases, and each of them has its retention behind it
pub record TakesFirst (answers : RuleAnswers) (moment : ℕ) (m : Manifest) (ids : List Id16) : Type 0 where
  pub first : (released : Dead → Bool) → IsTestOf answers moment m.retention released
      → ids ≡ ids_of (cleaned released m.dead)
  pub expired : (i : Id16) → has_id i ids ≡ true → is_old (keyed dead_id i.0 m.dead) m.retention moment ≡ true

-- where entries were taken before, a get takes no further one
abbrev pub TakesDead : RuleAnswers → ℕ → Manifest → List Id16 → List Id16 → Type 0
TakesDead answers moment m [] ids = TakesFirst answers moment m ids
TakesDead answers moment m (i ∷ is) ids = ids ≡ i ∷ is

-- what a get takes of a manifest, and that it says whether the manifest has a further entry that the rule releases
pub record FindsDead (answers : RuleAnswers) (moment : ℕ) (m : Manifest) (before ids : List Id16)
    (more : Bool) : Type 0 where
  pub takes : TakesDead answers moment m before ids
  pub further : (released : Dead → Bool) → IsTestOf answers moment m.retention released
      → more ≡ has_more released ids m.dead
