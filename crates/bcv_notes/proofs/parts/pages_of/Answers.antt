use Rattle.bcv_notes.specs.NoteGrammar.{pages_at}
use Rattle.bcv_notes.proofs.Pages.{goes_on, ends, is_done}
use Rattle.bcv_notes.proofs.parts.pages_of.Goals as goal

pub returns-in-Err : goal.returns-in-Err
returns-in-Err c = ends c.args.page_size c.args.most c.in-Err.stop c.loop.pages.items c.args.count c.loop.counter c.loop.before c.loop.rest.now (pages_at c.args.page_size c.args.most c.args.count 0 c.args.bytes.now) c.loop-test.true c.in-Err.ensures c.loop.invariant

pub loop-preserved : goal.loop-preserved
loop-preserved c =
    rw c.in_ok-push.ensures.items (goes_on c.args.page_size c.args.most c.loop.pages.items c.args.count c.loop.counter c.loop.before c.loop.rest.now c.in-Ok.field.0 c.in-Ok.field.1.now (pages_at c.args.page_size c.args.most c.args.count 0 c.args.bytes.now) c.loop-test.true c.in-Ok.ensures c.loop.invariant)

pub returns : goal.returns
returns c = is_done c.args.page_size c.args.most c.loop.pages.items c.args.count c.loop.counter c.loop.before c.loop.rest.now (pages_at c.args.page_size c.args.most c.args.count 0 c.args.bytes.now) c.loop-test.false c.loop.invariant
