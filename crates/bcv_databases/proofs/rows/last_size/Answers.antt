use Rattle.std.proofs.Common.{sym}
use Rattle.bcv_databases.proofs.TableRows.{size_last}
use Rattle.bcv_databases.proofs.rows.last_size.Goals as goal

pub returns-in-Some : goal.returns-in-Some
returns-in-Some c = sym (size_last c.args.pages c.args.commits.now c.in-Some.commit.now (sym c.in-Some.ensures.value))
