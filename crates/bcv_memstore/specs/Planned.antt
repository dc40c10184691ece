-- Outcomes that are planned for single requests.
use Rattle.std.specs.Prelude.{ℕ, zero, suc, List, ◌∷◌}
use Rattle.bcv_base.specs.declared.outcome.Outcome.{Outcome}
use Rattle.bcv_store.specs.Plans.{next_of, rest_of}

-- the plan in which the request after so many further ones has this outcome, and each other request keeps its own
abbrev pub planned_at : ℕ → Outcome → List Outcome → List Outcome
planned_at zero o os = o ∷ rest_of os
planned_at (suc calls) o os = next_of os ∷ planned_at calls o (rest_of os)
