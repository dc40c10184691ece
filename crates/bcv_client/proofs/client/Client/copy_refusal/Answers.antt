use Rattle.std.proofs.Common.{ap, sym, ◌∙◌}
use Rattle.bcv_clientlaws.specs.Starts.{kind_asked}
use Rattle.bcv_clientstate.specs.StartRefusals.{kind_reasons}
use Rattle.bcv_dbcopy.specs.declared.plan.CopyPlan.{CopyPlan}
use Rattle.bcv_machine.specs.Refusals.{first_reason}
use Rattle.bcv_client.specs.ClientParts.{parts_of}
use Rattle.bcv_client.specs.NewTasks.{removal_reason_by}
use Rattle.bcv_client.proofs.PublicationsStart.{removal_reason_is}
use Rattle.bcv_client.proofs.client.Client.copy_refusal.Goals as goal

pub returns-in-Remove : goal.returns-in-Remove
returns-in-Remove g c =
    c.removal_reason.ensures ∙ ap removal_reason_by c.find.ensures.found ∙ removal_reason_is c.args.self.now.ledger.databases _ c.find.ensures.sound
    ∙ ap (λ (x : CopyPlan). first_reason (kind_reasons (parts_of c.args.self.now) (kind_asked x))) (sym c.in-Remove.is)
