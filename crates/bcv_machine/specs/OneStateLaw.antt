-- What is said of an event decides the state after it.
use Rattle.std.specs.Prelude.{◌≡◌}
use Rattle.bcv_model.specs.declared.event.Act.{Act}
use Rattle.bcv_model.specs.declared.event.Act.TheVariants as act
use Rattle.bcv_model.specs.declared.event.Event.{Event}
use Rattle.bcv_model.specs.declared.event.Event.TheVariants as event
use Rattle.bcv_model.specs.declared.reply.Said.{Said}
use Rattle.bcv_machine.specs.State.{State}
use Rattle.bcv_machine.specs.Step.{Choice, Next}

-- ---- one state follows

abbrev pub IsNoUpAct : Act → Type 0
IsNoUpAct (act.Ask q o) = Unit {0}
IsNoUpAct act.Up = ⊥
IsNoUpAct (act.Crash image) = Unit {0}
IsNoUpAct (act.Fuse calls image) = Unit {0}
IsNoUpAct (act.FailAt calls) = Unit {0}

-- the event is no client's coming up, at which the reply alone tells which of two states a crash left
abbrev pub IsNoUp : Event → Type 0
IsNoUp (event.Tick n) = Unit {0}
IsNoUp (event.Of n what) = IsNoUpAct what

-- what is said of an event, and what is left open, decide the state after it
abbrev pub OneStateFollows : Type 0
OneStateFollows = (a b other : State) (e : Event) (s : Said) (c : Choice) → IsNoUp e → Next a e s c b → Next a e s c other → b ≡ other
