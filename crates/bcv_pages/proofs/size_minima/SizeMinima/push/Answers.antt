use Rattle.bcv_pages.proofs.Least.{columns-pushed}
use Rattle.bcv_pages.proofs.size_minima.SizeMinima.push.Goals as goal

pub filled-column-requires-clause-columns : goal.filled-column-requires-clause-columns
filled-column-requires-clause-columns c = rw c.as_slice.ensures.value c.self.invariant.columns_are

pub invariant_of-self : goal.invariant_of-self
invariant_of-self c = record {
  columns_are = rw c.in-Ok.ensures.items (columns-pushed c.self.inside.columns.items c.filled-column.result c.args.size c.self.invariant.columns_are (rw c.as_slice.ensures.value at c.filled-column.ensures.column) c.filled-column.ensures.size);
  room = rw c.take.ensures.after tt;
}
