use Rattle.std.proofs.Common.{arith}
use Rattle.bcv_notes.specs.KeptBy.{items_of}
use Rattle.bcv_clientlog.proofs.LoadedLog.{size_drop, size_rest}
use Rattle.bcv_clientlog.proofs.load.place_of.Goals as goal

pub overflow_sub-result : goal.overflow_sub-result
overflow_sub-result c = omega (arith, c.items_size.ensures, c.requires.within, size_drop c.args.number (items_of c.args.items.now), size_rest c.args.number c.args.items.now)

pub returns : goal.returns
returns c = omega (arith, c.items_size.ensures, c.requires.within, c.ranges.tail.fits, size_drop c.args.number (items_of c.args.items.now), size_rest c.args.number c.args.items.now)
