use Rattle.std.specs.Option.{option_copied}
use Rattle.bcv_memstore.proofs.Listing.{listed_more, listed_end, within_more, within_end}
use Rattle.bcv_memstore.proofs.history.History.list.Goals as goal

pub returns-in-Ok-true-clause-told : goal.returns-in-Ok-true-clause-told
returns-in-Ok-true-clause-told c = rw (← c.self.view_is) (listed_more c.self.inside.places _ (option_copied c.args.after) c.ids_above.ensures.ordered _ c.self.invariant.0 (rw c.in-Ok-true.field-0-test at c.in-Ok-true.ensures.listed))

pub returns-in-Ok-true-clause-within : goal.returns-in-Ok-true-clause-within
returns-in-Ok-true-clause-within c = within_more c.self.inside.places _ (option_copied c.args.after) c.ids_above.ensures.ordered _ (rw c.in-Ok-true.field-0-test at c.in-Ok-true.ensures.listed) c.self.invariant.0

pub returns-in-Ok-false-clause-told : goal.returns-in-Ok-false-clause-told
returns-in-Ok-false-clause-told c = rw (← c.self.view_is) (listed_end c.self.inside.places _ (option_copied c.args.after) c.ids_above.ensures.ordered _ c.self.invariant.0 (rw c.in-Ok-false.field-0-test at c.in-Ok-false.ensures.listed))

pub returns-in-Ok-false-clause-within : goal.returns-in-Ok-false-clause-within
returns-in-Ok-false-clause-within c = within_end c.self.inside.places _ (option_copied c.args.after) c.ids_above.ensures.ordered _ (rw c.in-Ok-false.field-0-test at c.in-Ok-false.ensures.listed) c.self.invariant.0
