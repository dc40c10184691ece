use Rattle.bcv_talks.proofs.RunNames.{run_names_differ}
use Rattle.bcv_talks.proofs.SideRuns.{alone_runs}
use Rattle.bcv_talks.proofs.TalkGrowth.{runs_extend}
use Rattle.bcv_talks.proofs.runs.runs_go_on.Goals as goal

pub returns-clause-extend : goal.returns-clause-extend
returns-clause-extend g c = runs_extend g.S.Store.told

pub returns-clause-names : goal.returns-clause-names
returns-clause-names g c = run_names_differ g.S.Store.told

pub returns-clause-alone : goal.returns-clause-alone
returns-clause-alone g c = alone_runs g.S.Store.told
