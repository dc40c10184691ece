use Rattle.std.proofs.Common.{rules, arith}
use Rattle.bcv_model.specs.Script.{pages_at}
use Rattle.bcv_script.proofs.Pages.{pages_on}
use Rattle.bcv_script.proofs.page.pages.Goals as goal

pub loop-alloc-preserved : goal.loop-alloc-preserved
loop-alloc-preserved c =
    rw c.in_ok-push.ensures.items (pages_on c.args.page_size (pages_at c.args.page_size c.args.words.now) c.loop-alloc.pages.items c.loop-alloc.words c.page.new.words c.in_ok-page.field-0 c.loop-alloc.invariant c.in_ok-page.ensures)
