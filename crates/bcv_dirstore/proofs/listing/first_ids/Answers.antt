use Rattle.std.proofs.Common.{◌∙◌, sym}
use Rattle.std.specs.Option.{option_copied}
use Rattle.bcv_dirstore.proofs.FirstIds.{listed_more, listed_end, within_more, within_end}
use Rattle.bcv_dirstore.proofs.listing.first_ids.Goals as goal

pub returns-in-Ok-true-clause-listed : goal.returns-in-Ok-true-clause-listed
returns-in-Ok-true-clause-listed c =
    listed_more c.in-Ok.sorted c.args.found.now (option_copied c.args.after) c.ids_above.ensures.ordered c.ids_above.new.into.items c.in-Ok.ensures
    (sym c.in-Ok-true.field-0-test ∙ c.in-Ok-true.ensures.listed.0, c.in-Ok-true.ensures.listed.1)

pub returns-in-Ok-true-clause-within : goal.returns-in-Ok-true-clause-within
returns-in-Ok-true-clause-within c =
    within_more c.in-Ok.sorted c.args.found.now (option_copied c.args.after) c.ids_above.ensures.ordered c.ids_above.new.into.items
    (sym c.in-Ok-true.field-0-test ∙ c.in-Ok-true.ensures.listed.0, c.in-Ok-true.ensures.listed.1)

pub returns-in-Ok-false-clause-listed : goal.returns-in-Ok-false-clause-listed
returns-in-Ok-false-clause-listed c =
    listed_end c.in-Ok.sorted c.args.found.now (option_copied c.args.after) c.ids_above.ensures.ordered c.ids_above.new.into.items c.in-Ok.ensures
    (sym c.in-Ok-false.field-0-test ∙ c.in-Ok-false.ensures.listed.0, c.in-Ok-false.ensures.listed.1)

pub returns-in-Ok-false-clause-within : goal.returns-in-Ok-false-clause-within
returns-in-Ok-false-clause-within c =
    within_end c.in-Ok.sorted c.args.found.now (option_copied c.args.after) c.ids_above.ensures.ordered c.ids_above.new.into.items
    (sym c.in-Ok-false.field-0-test ∙ c.in-Ok-false.ensures.listed.0, c.in-Ok-false.ensures.listed.1)
