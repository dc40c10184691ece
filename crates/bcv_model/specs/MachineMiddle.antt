-- A step of a publishing task between the manifest's get and its put.
use Rattle.std.specs.Prelude.{◌≡◌, ◌+◌}
use Rattle.bcv_base.specs.declared.outcome.Outcome.{Outcome}
use Rattle.bcv_base.specs.declared.outcome.Outcome.TheVariants as outcome
use Rattle.bcv_model.specs.declared.reply.Reply.{Reply}
use Rattle.bcv_model.specs.declared.reply.Reply.TheVariants as reply
use Rattle.bcv_model.specs.MachineNotes.{ended}
use Rattle.bcv_model.specs.MachineState.{State, Here, Task, Kind, Making, with_up, with_task}

-- a new database's task puts a block a step; where that fails the task ends
abbrev pub GoesOn : Here → Task → Kind → Outcome → Reply → State → Type 0
GoesOn h task (Making d page_size pages) outcome.Ok (reply.Working left) b =
    (left + 1 ≡ task.left) × (b ≡ with_up h (record h.up { tasks = with_task (record task { left = left }) h.up.tasks }))
GoesOn h task (Making d page_size pages) outcome.Fail reply.StoreFault b = b ≡ ended h task task.refused
GoesOn h task (Making d page_size pages) outcome.Lost reply.StoreFault b = b ≡ ended h task task.refused
GoesOn h task _ _ _ b = ⊥
