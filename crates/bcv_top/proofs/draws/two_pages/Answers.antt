use Rattle.std.proofs.Common.{◌∙◌}
use Rattle.bcv_top.proofs.MadeRuns.{two_items}
use Rattle.bcv_top.proofs.draws.two_pages.Goals as goal

pub returns : goal.returns
returns c =
    c.of.ensures ∙ two_items _ _ _ _ _ _ _ c.new-pages.ensures.items c.in_ok-push.ensures.items c.in_ok-push-2.ensures.items c.in_ok-page.ensures c.in_ok-page-2.ensures
