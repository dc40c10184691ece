-- Time goes on.
use Rattle.std.specs.Prelude.{ℕ, ◌+◌, ◌-◌, ◌^◌, min}
use Rattle.bcv_machine.specs.State.{Container, State}

-- the moment, so many seconds later; it stands still at the end of a u64
abbrev pub later_by : ℕ → Container → Container
later_by n c = record c { moment = min (c.moment + n) (2 ^ 64 - 1) }

abbrev pub ticked : State → ℕ → State
ticked a n = record a { container = later_by n a.container }
