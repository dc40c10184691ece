-- Laws on the lines of a script: what its grammar gives may be given to a world.
use Rattle.std.specs.Prelude.{◌≡◌, ℕ, ◌≤◌, List, length, Ok}
use Rattle.bcv_model.specs.declared.event.Event.{Event}
use Rattle.bcv_model.specs.declared.spec.WorldSpec.{WorldSpec}
use Rattle.bcv_model.specs.Script.{event_of, world_of}
use Rattle.bcv_world.specs.LineEvents.{IsSpec, Keeps}

-- its sizes are within the limits, and it has few clients
pub record IsLineSpec (spec : WorldSpec) : Type 0 where
  pub sizes : IsSpec spec
  pub clients : spec.clients ≤ 16

-- so it is of the world of a first line
abbrev pub WorldLineKeeps : Type 0
WorldLineKeeps = (line : List ℕ) (spec : WorldSpec) → world_of line ≡ Ok spec → IsLineSpec spec

-- the event of another line is one of its world, where the line is within the limit
abbrev pub LineKeeps : Type 0
LineKeeps =
    (spec : WorldSpec) (line : List ℕ) (e : Event) → length line ≤ 1048576 → event_of spec line ≡ Ok e
    → Keeps spec e
