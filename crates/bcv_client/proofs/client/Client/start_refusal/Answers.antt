use Rattle.std.proofs.Common.{ap, is_some, length, nat_le, rules, sym, ◌≡◌, ◌∙◌}
use Rattle.bcv_clientstate.proofs.PartRefusals.{some_map}
use Rattle.bcv_client.proofs.PublicationsStart.{refusal_is}
use Rattle.bcv_client.proofs.client.Client.start_refusal.Goals as goal

pub returns : goal.returns
returns g c =
    let long : c.len-all.result ≡ length c.args.self.now.tasks.items = (search rules) in
    c.reason_with.ensures
    ∙ refusal_is c.args.self.now c.args.own c.closed.result c.runs_publication.result c.is_some-pending.result (nat_le 16 c.len-all.result) c.closed.ensures c.runs_publication.ensures
    (c.is_some-pending.ensures ∙ sym (some_map _ c.pending.result) ∙ ap is_some c.pending.ensures) (ap (nat_le 16) long)
