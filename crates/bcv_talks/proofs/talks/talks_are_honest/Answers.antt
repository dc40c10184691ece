use Rattle.bcv_talks.proofs.TalkGrowth.{honest_alone, honest_in_each}
use Rattle.bcv_talks.proofs.talks.talks_are_honest.Goals as goal

pub returns-clause-each : goal.returns-clause-each
returns-clause-each g c = λ x y es talk mine is. honest_in_each g.D.Disk.told g.D.Disk.shown g.S.Store.told x y es talk mine

pub returns-clause-alone : goal.returns-clause-alone
returns-clause-alone g c = λ x y es talk mine is. honest_alone g.D.Disk.told g.D.Disk.shown g.S.Store.told x y es talk mine
