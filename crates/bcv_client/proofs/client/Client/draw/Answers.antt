use Rattle.std.proofs.Common.{refl, rules, sym, vec_capacity, vec_len, ◌<◌, ◌∙◌}
use Rattle.bcv_client.proofs.PublicationsStart.{can_publish, draw_did, draw_full, draw_refused}
use Rattle.bcv_client.proofs.client.Client.draw.Goals as goal

pub returns-in-Some : goal.returns-in-Some
returns-in-Some g c =
    draw_refused c.args.self.now (g.N.Names.shown c.args.names.now) c.args.own c.start_refusal.result c.in-Some.reason c.start_refusal.ensures c.in-Some.is

pub returns-then-is_err : goal.returns-then-is_err
returns-then-is_err g c =
    let s = c.args.self.now in
    draw_full s (g.N.Names.shown c.args.names.now) c.args.own (record s { tasks = c.reserve.new.self }) (sym c.start_refusal.ensures ∙ c.in_default.is)
    (record { only = record { id = refl; ledger = refl; seen = refl; latest = refl; txns = refl; taken = refl }; tasks = c.reserve.ensures.items })

pub returns : goal.returns
returns g c =
    let s = c.args.self.now in
    let none = sym c.start_refusal.ensures ∙ c.in_default.is in
    let room : vec_len c.reserve.new.self < vec_capacity c.reserve.new.self = (search rules) in
    draw_did s (g.N.Names.shown c.args.names.now) c.args.own (record s { tasks = c.reserve.new.self }) (g.N.Names.shown c.drawn.new.names) c.drawn.result none
    (record { only = record { id = refl; ledger = refl; seen = refl; latest = refl; txns = refl; taken = refl }; tasks = c.reserve.ensures.items })
    (can_publish s (g.N.Names.shown c.args.names.now) c.args.own (record s { tasks = c.reserve.new.self }) none
    (record { only = record { id = refl; ledger = refl; seen = refl; latest = refl; txns = refl; taken = refl }; tasks = c.reserve.ensures.items }) room)
    c.drawn.ensures
