use Rattle.bcv_clientstate.proofs.Bases.{base_block, base_database}
use Rattle.bcv_clientstate.proofs.laws.base_is_database.Goals as goal

pub returns-clause-database : goal.returns-clause-database
returns-clause-database c = base_database

pub returns-clause-block : goal.returns-clause-block
returns-clause-block c = base_block
