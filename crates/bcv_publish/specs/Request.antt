-- What is said of every request: over a sound log, and of the plan.
use Rattle.std.specs.Prelude.{◌≡◌, ◌⊎◌, List}
use Rattle.bcv_base.specs.declared.id.Id16.{Id16}
use Rattle.bcv_base.specs.History.{history_of}
use Rattle.bcv_dbmap.specs.Honest.{GrewHonestly}
use Rattle.bcv_dbmap.specs.Sound.{Sound}
use Rattle.bcv_store.specs.Plans.{rest_of}
use Rattle.bcv_store.specs.StoreShown.{StoreTold, StoreShown}

-- a fact on the names that are mine holds where the log is told, was sound before, and others grew it honestly
abbrev pub OverSoundLog : StoreTold → StoreShown → StoreShown → (List Id16 → Type 0) → Type 0
OverSoundLog store old new Fact =
    store.tells → (mine : List Id16) → Sound (history_of old.log) → GrewHonestly store.alone mine old.log new.log → Fact mine

-- a request was made: where outcomes are planned, the first one was taken
abbrev pub TakesOutcome : StoreTold → StoreShown → StoreShown → Type 0
TakesOutcome store old new = store.plans → new.plan ≡ rest_of old.plan

-- a request was made, or none, and then the store shows what it showed
abbrev pub MayTakeOutcome : StoreTold → StoreShown → StoreShown → Type 0
MayTakeOutcome store old new = TakesOutcome store old new ⊎ (new ≡ old)
