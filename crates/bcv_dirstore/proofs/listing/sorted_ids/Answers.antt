use Rattle.std.proofs.Common.{◌+◌, drop, List, subst}
use Rattle.std.proofs.lemmas.List.{drop_more}
use Rattle.bcv_base.specs.declared.id.Id16.{Id16}
use Rattle.bcv_dirstore.proofs.FirstIds.{Comes, comes_more}
use Rattle.bcv_dirstore.proofs.listing.sorted_ids.Goals as goal

pub loop-id-preserved : goal.loop-id-preserved
loop-id-preserved c =
    comes_more c.loop-id.sorted c.insert.new.self _ _ (drop (c.loop-id.id-index + 1) c.args.found.now) c.args.found.now c.in_ok-insert.ensures.updates
    (subst (λ (l : List Id16). Comes c.loop-id.sorted l c.args.found.now) (drop_more c.args.found.now c.loop-id.id-index _ c.loop-id-test.true) c.loop-id.invariant)
