use Rattle.bcv_talks.proofs.TalkFits.{talk_leaves_fit, told_names_agree}
use Rattle.bcv_talks.proofs.talks.talks_leave_fit.Goals as goal

pub returns-clause-fit : goal.returns-clause-fit
returns-clause-fit g c = λ x y es talk mine used f is. talk_leaves_fit g.D.Disk.told g.D.Disk.shown g.S.Store.told x y es talk mine used f

pub returns-clause-names : goal.returns-clause-names
returns-clause-names g c = λ x y es talk is. told_names_agree g.D.Disk.told g.D.Disk.shown g.S.Store.told x y es talk
