use Rattle.std.proofs.Common.{◌≡◌, ◌+◌, ◌<◌, arith, length}
use Rattle.std.proofs.lemmas.Bool.{leb-false}
use Rattle.std.proofs.lemmas.List.{length-map}
use Rattle.bcv_slots.specs.Numbered.{numbers_of}
use Rattle.bcv_slots.specs.declared.Slot.{Slot}
use Rattle.bcv_client.specs.declared.job.Job.{Job}
use Rattle.bcv_client.proofs.TasksPut.{free_is_few}
use Rattle.bcv_client.proofs.starting.task_number.Goals as goal

pub overflow_cast-result : goal.overflow_cast-result
overflow_cast-result c =
    let few : c.free_number.result < 1 + (length (numbers_of c.args.tasks.now) + 1) = free_is_few (numbers_of c.args.tasks.now) c.free_number.result c.free_number.ensures in
    let long : length (numbers_of c.args.tasks.now) ≡ length c.args.tasks.now = length-map c.args.tasks.now (λ (s : Slot Job). s.number) in
    let low : length c.args.tasks.now < 16 = leb-false 16 (length c.args.tasks.now) c.requires in
    omega (arith, few, long, low)
