-- What a reader's answer says of the grammar.
use Rattle.std.specs.Prelude.{◌≡◌, ℕ, ◌-◌, Result, Ok, Err}
use Rattle.bcv_manifest.specs.declared.fault.ReadFault.{ReadFault}
use Rattle.bcv_manifest.specs.declared.fault.ReadFault.TheVariants as fault
use Rattle.bcv_manifest.specs.declared.fault.Stop.{Stop}
use Rattle.bcv_manifest.specs.declared.fault.Stop.TheVariants as stop

-- a reader of fields stopped where the grammar has its fault, unless memory ran out
abbrev pub Stops : {Y : Type 0} → Stop → Result Y ℕ → Type 0
Stops stop.NoMemory read = Unit {0}
Stops (stop.Fault left) read = read ≡ Err left

-- a reader of fields gave, as seen by view, what the grammar reads, unless memory ran out
abbrev pub Gives : {X Y : Type 0} → (X → Y) → Result X Stop → Result Y ℕ → Type 0
Gives view (Ok x) read = read ≡ Ok (view x)
Gives view (Err e) read = Stops e read

-- Bad names the grammar's place of the fault; want of memory says nothing
abbrev pub Refuses : {Y : Type 0} → ReadFault → Result Y ℕ → Type 0
Refuses fault.NoMemory read = Unit {0}
Refuses (fault.Bad bad) read = read ≡ Err bad.at

-- a call answered, as seen by view, what the grammar reads, unless memory ran out
abbrev pub Answers : {X Y : Type 0} → (X → Y) → Result X ReadFault → Result Y ℕ → Type 0
Answers view (Ok x) read = read ≡ Ok (view x)
Answers view (Err e) read = Refuses e read

-- a stop in so many bytes, told by its place
abbrev pub fault_of : ℕ → Stop → ReadFault
fault_of total stop.NoMemory = fault.NoMemory
fault_of total (stop.Fault left) = fault.Bad (record { at = total - left })
