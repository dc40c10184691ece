use Rattle.std.proofs.Common.{refl}
use lib.Count.{ones}
use Rattle.store_tests.proofs.races.two_publications_over_one_store.Goals as goal

pub create-first-requires : goal.create-first-requires
unfolding ones
create-first-requires c d = refl
