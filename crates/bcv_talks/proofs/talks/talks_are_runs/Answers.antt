use Rattle.bcv_talks.proofs.TalkEnds.{talk_ends}
use Rattle.bcv_talks.proofs.TalkRuns.{talk_run}
use Rattle.bcv_talks.proofs.talks.talks_are_runs.Goals as goal

pub returns-clause-runs : goal.returns-clause-runs
returns-clause-runs g c = λ x y es talk mine used moment f is. talk_run g.D.Disk.told g.D.Disk.shown g.S.Store.told x y es talk mine used moment f

pub returns-clause-ends : goal.returns-clause-ends
returns-clause-ends g c =
    λ x y es talk mine used moment f disk is. talk_ends g.D.Disk.told g.D.Disk.shown g.S.Store.told x y es talk mine used moment f disk
