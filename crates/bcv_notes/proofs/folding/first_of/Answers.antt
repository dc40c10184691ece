use Rattle.std.proofs.Common.{sym, ◌∙◌}
use Rattle.std.proofs.lemmas.List.{get_or_read}
use Rattle.bcv_notes.proofs.Placing.{named_here, named_later, named_nowhere}
use Rattle.bcv_notes.proofs.folding.first_of.Goals as goal

pub returns-then-same_as : goal.returns-then-same_as
returns-then-same_as c =
    let ls = c.args.locals.now in
    let i = c.loop-place.place in
    let x = c.index-locals-place.result in
    (c.loop-place-test.true, λ change l is. named_here c.args.db.now ls i x c.loop-place-test.true c.loop-place.invariant (sym c.same_as.ensures ∙ c.if-same_as.true) change l (get_or_read ls i l c.loop-place-test.true is x))

pub loop-place-preserved : goal.loop-place-preserved
loop-place-preserved c = named_later c.args.db.now c.args.locals.now c.loop-place.place c.index-locals-place.result c.loop-place-test.true c.loop-place.invariant (sym c.same_as.ensures ∙ c.if-same_as.false)

pub returns : goal.returns
returns c = named_nowhere c.args.db.now c.args.locals.now c.loop-place.place c.loop-place-test.false c.loop-place.invariant
