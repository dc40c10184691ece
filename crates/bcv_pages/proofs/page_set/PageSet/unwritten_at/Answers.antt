use Rattle.std.proofs.Common.{arith, ◌+◌}
use Rattle.bcv_pages.specs.Held.{view_of}
use Rattle.bcv_pages.proofs.Kept.{origin-base, origin-added}
use Rattle.bcv_pages.proofs.page_set.PageSet.unwritten_at.Goals as goal

pub returns-then-page-pages_kept : goal.returns-then-page-pages_kept
returns-then-page-pages_kept c =
    origin-base (c.args.from + 1) c.args.base_pages c.args.page (view_of c.args.self.now c.args.from c.args.to) c.requires.none (omega (arith, c.pages_kept.ensures))

pub returns-else-page-pages_kept : goal.returns-else-page-pages_kept
returns-else-page-pages_kept c =
    origin-added (c.args.from + 1) c.args.base_pages c.args.page (view_of c.args.self.now c.args.from c.args.to) c.requires.none (omega (arith, c.pages_kept.ensures))
