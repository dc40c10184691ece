use Rattle.bcv_ledger.proofs.LocalSteps.{revert_steps}
use Rattle.bcv_ledger.proofs.ledger.Ledger.revert.Goals as goal

pub returns-clause-steps : goal.returns-clause-steps
returns-clause-steps g c =
    let d = g.D.Disk in
    revert_steps d.told d.shown c.args.self.now c.note_revert.new.self c.args.busy c.args.db c.note_revert.result c.note_revert.ensures
