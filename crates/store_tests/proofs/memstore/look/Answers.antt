use Rattle.store_tests.proofs.Called.{looked, kept}
use Rattle.store_tests.proofs.memstore.look.Goals as goal

pub returns-clause-answered : goal.returns-clause-answered
returns-clause-answered c is = looked _ _ _ _ _ _ _ c.requires (c.get.ensures.gets.told tt) is

pub returns-clause-log : goal.returns-clause-log
returns-clause-log c = kept _ _ _ _ _ _ _ (c.get.ensures.gets.told tt)
