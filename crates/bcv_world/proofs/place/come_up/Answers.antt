use Rattle.std.proofs.Common.{◌∙◌, ℕ, Bool, List, ap, arith, subst, sym}
use Rattle.bcv_base.specs.declared.log.Entry.{Entry}
use Rattle.bcv_memstore.specs.Told.{log_of}
use Rattle.bcv_model.specs.declared.event.Act.TheVariants as act
use Rattle.bcv_model.specs.declared.reply.Reply.{Reply}
use Rattle.bcv_transaction.specs.Open.{Open}
use Rattle.bcv_world.specs.declared.place.Place.TheVariants as place
use Rattle.bcv_world.specs.Standing.{PlaceActs}
use Rattle.bcv_world.specs.UpReplies.{down_reply}
use Rattle.bcv_world.proofs.RisenPlaces.{empty_client, ready_place, refused_place}
use Rattle.bcv_world.proofs.place.come_up.Goals as goal

pub returns-in-Ready-clause-within : goal.returns-in-Ready-clause-within
returns-in-Ready-clause-within c =
    record { form = empty_client c.args.slots c.in-Ready.client c.in-Ready.ensures.empty; taken = omega (arith, c.in-Ready.ensures.empty.taken) }

pub returns-in-Ready-clause-acts : goal.returns-in-Ready-clause-acts
returns-in-Ready-clause-acts c =
    let log : List Entry = log_of c.args.around.now.store in
    let moment : ℕ = c.args.around.now.clock.moment in
    subst (λ (r : Reply). PlaceActs log log c.args.around.now.names c.up.new.names moment c.args.slots (place.Down c.args.disk) (place.Up c.in-Ready.client) act.Up r)
    (sym c.up_again-reply.ensures)
    (ready_place log c.args.around.now.names c.up.new.names moment c.args.slots c.args.disk c.mend.new.self c.mend.ensures c.in-Ready.client c.list.result c.in-Ready.ensures.rises
    c.in-Ready.ensures.empty c.in-Ready.ensures.again c.list.ensures.table)

pub returns-in-Refused-clause-within : goal.returns-in-Refused-clause-within
returns-in-Refused-clause-within c = record { form = tt; taken = omega arith }

pub returns-in-Refused-clause-acts : goal.returns-in-Refused-clause-acts
returns-in-Refused-clause-acts c =
    let log : List Entry = log_of c.args.around.now.store in
    let moment : ℕ = c.args.around.now.clock.moment in
    subst (λ (r : Reply). PlaceActs log log c.args.around.now.names c.up.new.names moment c.args.slots (place.Down c.args.disk) (place.Down c.in-Refused.disk) act.Up r)
    (sym (c.refused_up-reply.ensures ∙ ap (λ (b : Bool). down_reply b c.in-Refused.fault) c.burnt.ensures))
    (refused_place log c.args.around.now.names c.up.new.names moment c.args.slots c.args.disk c.mend.new.self c.mend.ensures c.in-Refused.disk c.in-Refused.fault c.in-Refused.ensures.rises
    c.in-Refused.ensures.again)

pub returns-in-Ready-clause-caches : goal.returns-in-Ready-clause-caches
returns-in-Ready-clause-caches c = let txns = c.in-Ready.ensures.empty.txns in (ap (λ (o : Open). o.txns) txns, ap (λ (o : Open). o.cache) txns)
