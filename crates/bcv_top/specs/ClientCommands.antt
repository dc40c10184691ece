-- Which commands bring a client up, and how the run of one is seen by what is handed back.
use Rattle.std.specs.Prelude.{Option, Some, None}
use Rattle.bcv_commands.specs.declared.command.Command.{Command}
use Rattle.bcv_commands.specs.declared.command.Command.TheVariants as command
use Rattle.bcv_runner.specs.declared.run.Ran.{Ran}
use Rattle.bcv_top.specs.declared.Ended.{Ended}

-- all but a replay and a made script
abbrev pub UsesClient : Command → Type 0
UsesClient command.Replay = ⊥
UsesClient (command.Generate n) = ⊥
UsesClient _ = Unit {0}

-- no client is brought up: no command, a replay, and a made script
abbrev pub RunsAlone : Option Command → Type 0
RunsAlone None = Unit {0}
RunsAlone (Some command.Replay) = Unit {0}
RunsAlone (Some (command.Generate n)) = Unit {0}
RunsAlone (Some _) = ⊥

-- the end of a command, without a world
abbrev pub ran_of : {D : Type 0} → Ended D → Ran D
ran_of e = record { status = e.status; disk = e.disk }
