use Rattle.std.proofs.Common.{refl}
use lib.Count.{ones}
use Rattle.store_tests.proofs.publish.made.Goals as goal

pub create-requires : goal.create-requires
unfolding ones
create-requires c = refl
