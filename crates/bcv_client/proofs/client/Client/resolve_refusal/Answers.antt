use Rattle.std.proofs.Common.{ap, is_some, length, nat_le, rules, sym, ◌≡◌, ◌∙◌}
use Rattle.bcv_clientstate.proofs.PartRefusals.{some_map}
use Rattle.bcv_client.proofs.TasksStart.{resolve_reason_is}
use Rattle.bcv_client.proofs.client.Client.resolve_refusal.Goals as goal

pub returns : goal.returns
returns g c =
    let long : c.len-all.result ≡ length c.args.self.now.tasks.items = (search rules) in
    c.resolve_reason_by.ensures
    ∙ resolve_reason_is c.args.self.now c.closed.result c.any_publishes.result c.is_some-pending.result (nat_le 16 c.len-all.result) c.deref.result.now c.closed.ensures c.any_publishes.ensures
    c.deref.ensures.value
    (c.is_some-pending.ensures ∙ sym (some_map _ c.pending.result) ∙ ap is_some c.pending.ensures) (ap (nat_le 16) long)
