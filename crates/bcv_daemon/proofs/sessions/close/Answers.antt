use Rattle.std.proofs.Common.{not, rules, ◌==◌}
use Rattle.std.proofs.lemmas.Fn.{filter_same}
use Rattle.bcv_daemon.specs.declared.sessions.Session.{Session}
use Rattle.bcv_daemon.proofs.sessions.close.Goals as goal

pub returns : goal.returns
returns c = filter_same _ (λ (s : Session). not (s.number == c.args.number)) _ (λ x r f' k. search rules) _ _ c.retain.ensures.filtered
