use Rattle.bcv_ledger.proofs.LocalSteps.{commit_steps}
use Rattle.bcv_ledger.proofs.ledger.Ledger.commit.Goals as goal

pub returns-clause-steps : goal.returns-clause-steps
returns-clause-steps g c =
    let d = g.D.Disk in
    commit_steps d.told d.shown c.args.self.now c.note_commit.new.self c.args.db c.args.commit c.note_commit.result c.commit_size.ensures.small c.note_commit.ensures
