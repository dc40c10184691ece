use Rattle.std.proofs.Common.{rules, arith}
use Rattle.bcv_model.specs.Script.{pairs_at}
use Rattle.bcv_script.proofs.Pages.{pairs_on}
use Rattle.bcv_script.proofs.page.pairs.Goals as goal

pub loop-alloc-preserved : goal.loop-alloc-preserved
loop-alloc-preserved c =
    rw c.in_ok-push.ensures.items (pairs_on c.args.page_size c.loop-alloc.after (pairs_at c.args.page_size 0 c.args.words.now) c.loop-alloc.pairs.items c.loop-alloc.words c.pair.new.words c.in_ok-page.page c.in_ok-page.bytes.items c.in_ok-padded.field-0 c.loop-alloc.invariant c.in_ok-page.ensures.value c.in_ok-padded.ensures)
