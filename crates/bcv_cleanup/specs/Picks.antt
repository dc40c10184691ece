-- A walk over a delete list that picks what the rule releases.
use Rattle.std.specs.Prelude.{◌≡◌, ◌≤◌, ◌⊎◌, ℕ, true, false, List, [], ◌∷◌, length, take}
use Rattle.bcv_base.specs.declared.id.Id16.{Id16}
use Rattle.bcv_base.specs.declared.manifest.Dead.{Dead}
use Rattle.bcv_dbmap.specs.Deletions.{most_cleaned}
use Rattle.bcv_cleanup.specs.Released.{RuleAnswers}

-- these are the ids of those entries of which the rule said yes
abbrev pub Picks : RuleAnswers → ℕ → ℕ → List Dead → List Id16 → Type 0
Picks answers moment retention [] ids = ids ≡ []
Picks answers moment retention (e ∷ es) ids =
    ((is : List Id16) × (ids ≡ e.id ∷ is) × answers e.stamp moment retention true
    × Picks answers moment retention es is)
    ⊎ (answers e.stamp moment retention false × Picks answers moment retention es ids)

-- a walk that went past so many entries picked no more than may be taken, and stopped only there or at the end
pub record PicksFirst (answers : RuleAnswers) (moment retention : ℕ) (dead : List Dead) (place : ℕ)
    (ids : List Id16) : Type 0 where
  pub within : place ≤ length dead
  pub picks : Picks answers moment retention (take place dead) ids
  pub few : length ids ≤ most_cleaned
  pub stops : (length ids ≡ most_cleaned) ⊎ (place ≡ length dead)
