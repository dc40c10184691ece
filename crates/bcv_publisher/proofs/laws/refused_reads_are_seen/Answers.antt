use Rattle.bcv_publisher.proofs.RefusedReads.{new_has_read_none, refused_has_read}
use Rattle.bcv_publisher.proofs.laws.refused_reads_are_seen.Goals as goal

pub returns-clause-new : goal.returns-clause-new
returns-clause-new c = new_has_read_none

pub returns-clause-refused : goal.returns-clause-refused
returns-clause-refused c = refused_has_read
