use Rattle.std.proofs.Common.{◌∙◌, arith}
use Rattle.bcv_slots.proofs.NumbersDiffer.{first_is_only}
use Rattle.bcv_slots.proofs.PlacesFound.{item_taken, none_found, none_left, others_left}
use Rattle.bcv_slots.proofs.take.Goals as goal

pub returns-in_default-clause-found : goal.returns-in_default-clause-found
returns-in_default-clause-found g c = none_found c.args.number c.deref.result.now c.args.slots.now.items c.deref.ensures.value c.in_default.ensures

pub returns-in_default-clause-others : goal.returns-in_default-clause-others
returns-in_default-clause-others g c = none_left c.args.number c.deref.result.now c.args.slots.now.items c.deref.ensures.value c.in_default.ensures

pub returns-in_default-clause-only : goal.returns-in_default-clause-only
returns-in_default-clause-only g c all =
    none_left c.args.number c.deref.result.now c.args.slots.now.items c.deref.ensures.value c.in_default.ensures ∙ first_is_only c.args.number c.args.slots.now.items all

pub remove-item-requires : goal.remove-item-requires
remove-item-requires g c = let is = c.in-Some.ensures in omega (arith, is.inside, c.deref.ensures.len)

pub returns-clause-found : goal.returns-clause-found
returns-clause-found g c =
    item_taken c.args.number c.deref.result.now c.args.slots.now.items c.in-Some.place c.remove-item.result c.deref.ensures.value c.in-Some.ensures c.remove-item.ensures.value

pub returns-clause-others : goal.returns-clause-others
returns-clause-others g c =
    c.remove-item.ensures.items ∙ others_left c.args.number c.deref.result.now c.args.slots.now.items c.in-Some.place c.deref.ensures.value c.in-Some.ensures

pub returns-clause-only : goal.returns-clause-only
returns-clause-only g c all =
    c.remove-item.ensures.items ∙ others_left c.args.number c.deref.result.now c.args.slots.now.items c.in-Some.place c.deref.ensures.value c.in-Some.ensures
    ∙ first_is_only c.args.number c.args.slots.now.items all
