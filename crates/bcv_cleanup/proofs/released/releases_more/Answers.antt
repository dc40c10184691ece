use Rattle.std.proofs.Common.{◌∙◌, sym}
use Rattle.bcv_cleanup.proofs.Walks.{passed_one}
use Rattle.bcv_cleanup.proofs.released.releases_more.Goals as goal

pub loop-entry-preserved : goal.loop-entry-preserved
loop-entry-preserved g c =
    λ released test. c.loop-entry.invariant released test
    ∙ passed_one released c.args.ids.now c.args.dead.now c.loop-entry.entry-index _ c.loop-entry-test.true (sym c.if-is_further.false ∙ c.is_further.ensures released test)
