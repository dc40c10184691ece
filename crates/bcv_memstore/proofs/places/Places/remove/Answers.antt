use Rattle.std.proofs.Common.{None}
use Rattle.bcv_memstore.proofs.Placing.{place_changed}
use Rattle.bcv_memstore.proofs.places.Places.remove.Goals as goal

pub returns-in-Block : goal.returns-in-Block
returns-in-Block c = rw c.in-Block.is (place_changed c.args.self.now.manifest c.args.self.now.blocks c.remove.new.self c.in-Block.id None c.remove.ensures.updates)
