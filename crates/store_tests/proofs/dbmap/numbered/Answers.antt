use Rattle.std.proofs.Common.{◌∙◌}
use Rattle.store_tests.proofs.Trying.{empty_tried}
use Rattle.store_tests.proofs.dbmap.numbered.Goals as goal

pub returns : goal.returns
returns c =
    empty_tried c.args.number c.id_of.result c.of.result c.of-2.result c.of-3.result c.requires c.ranges.number.fits c.id_of.ensures
    (c.of.ensures ∙ c.new.ensures.items) (c.of-2.ensures ∙ c.new-2.ensures.items) (c.of-3.ensures ∙ c.new-3.ensures.items)
