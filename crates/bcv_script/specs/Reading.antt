-- What a reader's answer says of the grammar.
use Rattle.std.specs.Prelude.{◌≡◌, ℕ, ◌-◌, Result, Ok, Err}
use Rattle.bcv_script.specs.declared.fault.LineFault.{LineFault}
use Rattle.bcv_script.specs.declared.fault.LineFault.TheVariants as fault
use Rattle.bcv_script.specs.declared.stop.Stop.{Stop}
use Rattle.bcv_script.specs.declared.stop.Stop.TheVariants as stop

-- a reader of words stopped where the grammar has its fault, unless memory ran out
abbrev pub Stops : {Y : Type 0} → Stop → Result Y ℕ → Type 0
Stops (stop.Fault left) read = read ≡ Err left
Stops stop.NoMemory read = Unit {0}

-- a reader of words gave, as seen by view, what the grammar reads, unless memory ran out
abbrev pub Gives : {X Y : Type 0} → (X → Y) → Result X Stop → Result Y ℕ → Type 0
Gives view (Ok x) read = read ≡ Ok (view x)
Gives view (Err e) read = Stops e read

-- a bad line names the grammar's place of the fault; out of memory says nothing
abbrev pub Refuses : {Y : Type 0} → LineFault → Result Y ℕ → Type 0
Refuses (fault.BadLine at) read = read ≡ Err at
Refuses fault.NoMemory read = Unit {0}

-- a call answers, as seen by view, what the grammar reads in the line, and a bad line exactly where and at the place that the
-- grammar says, unless memory ran out
abbrev pub Answers : {X Y : Type 0} → (X → Y) → Result X LineFault → Result Y ℕ → Type 0
Answers view (Ok x) read = read ≡ Ok (view x)
Answers view (Err e) read = Refuses e read

-- a stop in a line of so many bytes, told by its place
abbrev pub fault_of : ℕ → Stop → LineFault
fault_of total (stop.Fault left) = fault.BadLine (total - left)
fault_of total stop.NoMemory = fault.NoMemory
