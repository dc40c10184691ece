use Rattle.bcv_talks.proofs.TalkTotals.{talk_counts_faults, talk_draws, talk_keeps_client}
use Rattle.bcv_talks.proofs.talks.talks_keep_client.Goals as goal

pub returns-clause-same : goal.returns-clause-same
returns-clause-same g c = λ x y es talk is. talk_keeps_client g.D.Disk.told g.D.Disk.shown g.S.Store.told x y es talk

pub returns-clause-draw : goal.returns-clause-draw
returns-clause-draw g c = λ x y es talk is. talk_draws g.D.Disk.told g.D.Disk.shown g.S.Store.told x y es talk

pub returns-clause-faults : goal.returns-clause-faults
returns-clause-faults g c = λ x y es talk is. talk_counts_faults g.D.Disk.told g.D.Disk.shown g.S.Store.told x y es talk
