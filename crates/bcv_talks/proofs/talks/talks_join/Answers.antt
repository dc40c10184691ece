use Rattle.bcv_talks.proofs.TalkJoins.{call_is_talk, talk_and_call, talks_join}
use Rattle.bcv_talks.proofs.talks.talks_join.Goals as goal

pub returns-clause-join : goal.returns-clause-join
returns-clause-join g c = λ x y z es more is. talks_join g.D.Disk.told g.D.Disk.shown g.S.Store.told x y z es more

pub returns-clause-call : goal.returns-clause-call
returns-clause-call g c = λ x y e is. call_is_talk g.D.Disk.told g.D.Disk.shown g.S.Store.told x y e

pub returns-clause-more : goal.returns-clause-more
returns-clause-more g c = λ x y z es e is. talk_and_call g.D.Disk.told g.D.Disk.shown g.S.Store.told x y z es e
