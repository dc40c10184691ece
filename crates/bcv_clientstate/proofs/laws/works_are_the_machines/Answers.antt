use Rattle.bcv_clientstate.proofs.WorkSides.{cleanup_goes_on, cleanup_reads, copy_goes_on, copy_reads, upload_goes_on, upload_reads}
use Rattle.bcv_clientstate.proofs.laws.works_are_the_machines.Goals as goal

pub returns-clause-copy_reads : goal.returns-clause-copy_reads
returns-clause-copy_reads c = copy_reads

pub returns-clause-copy_goes_on : goal.returns-clause-copy_goes_on
returns-clause-copy_goes_on c = copy_goes_on

pub returns-clause-upload_reads : goal.returns-clause-upload_reads
returns-clause-upload_reads c = upload_reads

pub returns-clause-upload_goes_on : goal.returns-clause-upload_goes_on
returns-clause-upload_goes_on c = upload_goes_on

pub returns-clause-cleanup_reads : goal.returns-clause-cleanup_reads
returns-clause-cleanup_reads c = cleanup_reads

pub returns-clause-cleanup_goes_on : goal.returns-clause-cleanup_goes_on
returns-clause-cleanup_goes_on c = cleanup_goes_on
