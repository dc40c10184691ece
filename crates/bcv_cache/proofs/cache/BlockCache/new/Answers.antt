use Rattle.bcv_cache.proofs.Places.{IsCache-empty}
use Rattle.bcv_cache.proofs.cache.BlockCache.new.Goals as goal

pub returns-clause-cache : goal.returns-clause-cache
returns-clause-cache c = rw c.in_ok-sparse.ensures (IsCache-empty c.min-most.result c.args.block)
