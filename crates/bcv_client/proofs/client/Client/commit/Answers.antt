use Rattle.std.proofs.Common.{refl}
use Rattle.bcv_client.proofs.CallFaults.{commit_disk}
use Rattle.bcv_client.proofs.Commits.{commit_is_noted, commit_keeps_form}
use Rattle.bcv_client.proofs.FallsLocal.{commit_falls}
use Rattle.bcv_client.proofs.CallMoments.{commit_moments}
use Rattle.bcv_client.proofs.client.Client.commit.Goals as goal

pub returns-clause-form : goal.returns-clause-form
returns-clause-form g c =
    let s = c.args.self.now in
    commit_keeps_form g.D.Disk.told g.D.Disk.shown s.ledger c.commit-reply.new.self c.args.db c.args.commit c.commit-reply.result s.seen s.txns s.tasks.items c.requires.form c.commit-reply.ensures.commits

pub returns-clause-steps : goal.returns-clause-steps
returns-clause-steps g c = λ tells.
    commit_is_noted g.D.Disk.told g.D.Disk.shown c.args.self.now _ c.args.db c.args.commit (record { id = refl; seen = refl; latest = refl; txns = refl; tasks = refl })
    c.requires.form c.kept.ensures.sound c.commit_size.ensures.small c.commit-reply.result tells c.commit-reply.ensures.commits (c.commit-reply.ensures.steps tells)

pub returns-clause-falls : goal.returns-clause-falls
returns-clause-falls g c =
    commit_falls g.D.Disk.told g.D.Disk.shown g.met.D.Disk.counts_now c.args.self.now (record c.args.self.now { ledger = c.commit-reply.new.self }) c.args.db (record { id = refl; seen = refl; latest = refl; txns = refl; tasks = refl }) c.args.commit
    c.requires.form c.kept.ensures.sound c.commit_size.ensures.small c.commit-reply.result c.commit-reply.ensures.commits

pub returns-clause-disk : goal.returns-clause-disk
returns-clause-disk g c =
    commit_disk g.D.Disk.told g.D.Disk.shown c.args.self.now (record c.args.self.now { ledger = c.commit-reply.new.self }) c.args.db c.args.commit c.commit-reply.result c.commit-reply.ensures.commits

pub returns-clause-any_moment : goal.returns-clause-any_moment
returns-clause-any_moment g c =
    commit_moments g.D.Disk.told g.D.Disk.shown g.met.D.Disk.only_now c.args.self.now (record c.args.self.now { ledger = c.commit-reply.new.self }) c.args.db (record { id = refl; seen = refl; latest = refl; txns = refl; tasks = refl }) c.args.commit
    c.requires.form c.kept.ensures.sound c.commit_size.ensures.small c.commit-reply.result c.commit-reply.ensures.commits
