-- What the real clock and the source of random names show, which tell nothing but how often they failed.
use Rattle.std.specs.Prelude.{◌≡◌, ℕ, ◌++◌, None}
use Rattle.std.specs.Int.{w64, to_be_bytes}
use Rattle.bcv_base.specs.Moments.{ClockShown}
use Rattle.bcv_base.specs.Drawn.{NamesShown}
use Rattle.bcv_base.specs.declared.id.Id16.{Id16}
use Rattle.bcv_host.specs.declared.rand_names.RandNames.{RandNames}
use Rattle.bcv_host.specs.declared.sys_clock.SysClock.{SysClock}

-- how often a clock has failed
abbrev pub clock_faults : {R : Type 0} → SysClock R → ℕ
clock_faults clock = clock.faults

-- a clock that tells no moment, and that has failed so often
abbrev pub untold_clock : ℕ → ClockShown
untold_clock faults = record { last = None; set = None; faults = faults }

-- the generator of a source of names
abbrev pub generator_of : {R : Type 0} → RandNames R → R
generator_of names = names.rng

-- how often a source of names has failed
abbrev pub name_faults : {R : Type 0} → RandNames R → ℕ
name_faults names = names.faults

-- a source that tells no name, and that has failed so often
abbrev pub untold_names : ℕ → NamesShown
untold_names faults = record { drawn = None; faults = faults }

-- a generator gives one word and then another one
pub record AreWords {R : Type 0} (may : R → ℕ → R → Type 0) (old new : R) (first second : ℕ) : Type 0 where
  pub between : R
  pub gives_first : may old first between
  pub gives_second : may between second new

-- a name of two words that a generator may give next
pub record IsDrawn {R : Type 0} (may : R → ℕ → R → Type 0) (old new : R) (id : Id16) : Type 0 where
  pub first : ℕ
  pub second : ℕ
  pub words : AreWords may old new first second
  pub bytes : id.0 ≡ to_be_bytes w64 first ++ to_be_bytes w64 second
