-- What each command promises, by its words.
use Rattle.std.specs.Prelude.{◌≡◌, ◌≢◌, ℕ, List, [], Option, Some, None}
use Rattle.bcv_commands.specs.declared.command.Command.{Command}
use Rattle.bcv_commands.specs.declared.command.Command.TheVariants as command
use Rattle.bcv_commands.specs.declared.status.Status.{Status}
use Rattle.bcv_commands.specs.declared.status.Status.TheVariants as status
use Rattle.bcv_world.specs.declared.world.World.{World}
use Rattle.bcv_top.specs.Headline.{Replays}
use Rattle.bcv_top.specs.MadeRun.{Generates}

-- the world that is handed on, what was taken of the input, whether it has ended, and what was written, by the status; words
-- that are no command do nothing, and a command over a client has no world
abbrev pub RunsCommand
    : Option Command → Status → Option World → List ℕ → Type 0 → List ℕ → Type 0
RunsCommand None s world taken ended written =
    (s ≡ status.BadWords) × (world ≡ None) × (taken ≡ []) × (written ≡ [])
RunsCommand (Some command.Replay) s world taken ended written =
    (s ≢ status.BadWords) × Replays s world taken ended written
RunsCommand (Some (command.Generate n)) s world taken ended written =
    (taken ≡ []) × Generates n s world written
RunsCommand (Some _) s world taken ended written = (s ≢ status.BadWords) × (world ≡ None)
