use Rattle.bcv_talks.proofs.TalkAlone.{names_new_alone, talk_alone_is_run}
use Rattle.bcv_talks.proofs.talks.talks_are_runs_alone.Goals as goal

pub returns-clause-names : goal.returns-clause-names
returns-clause-names g c = λ x y es talk mine used f is. names_new_alone g.D.Disk.told g.D.Disk.shown g.S.Store.told x y es talk mine used f

pub returns-clause-runs : goal.returns-clause-runs
returns-clause-runs g c = λ x y es talk mine used moment f is. talk_alone_is_run g.D.Disk.told g.D.Disk.shown g.S.Store.told x y es talk mine used moment f
