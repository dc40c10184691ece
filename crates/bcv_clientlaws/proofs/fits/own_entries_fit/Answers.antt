use Rattle.bcv_clientlaws.proofs.OwnEntries.{blocks_leave_fits, cleanup_appends, cleanup_deletes, cleanup_fits, cleanup_is_refused, cleanup_reads_on, copy_appends, copy_fits, copy_is_refused, copy_works, create_fits, publication_fits, task_goes_on_fits, upload_appends, upload_fits, upload_is_refused, upload_works}
use Rattle.bcv_clientlaws.proofs.fits.own_entries_fit.Goals as goal

pub returns-clause-blocks : goal.returns-clause-blocks
returns-clause-blocks c = blocks_leave_fits

pub returns-clause-goes_on : goal.returns-clause-goes_on
returns-clause-goes_on c = task_goes_on_fits

pub returns-clause-publication : goal.returns-clause-publication
returns-clause-publication c = publication_fits

pub returns-clause-create : goal.returns-clause-create
returns-clause-create c = create_fits

pub returns-clause-copy : goal.returns-clause-copy
returns-clause-copy c = copy_fits

pub returns-clause-upload : goal.returns-clause-upload
returns-clause-upload c = upload_fits

pub returns-clause-cleanup : goal.returns-clause-cleanup
returns-clause-cleanup c = cleanup_fits

pub returns-clause-copy_works : goal.returns-clause-copy_works
returns-clause-copy_works c = copy_works

pub returns-clause-upload_works : goal.returns-clause-upload_works
returns-clause-upload_works c = upload_works

pub returns-clause-cleanup_reads : goal.returns-clause-cleanup_reads
returns-clause-cleanup_reads c = cleanup_reads_on

pub returns-clause-cleanup_deletes : goal.returns-clause-cleanup_deletes
returns-clause-cleanup_deletes c = cleanup_deletes

pub returns-clause-copy_appends : goal.returns-clause-copy_appends
returns-clause-copy_appends c = copy_appends

pub returns-clause-upload_appends : goal.returns-clause-upload_appends
returns-clause-upload_appends c = upload_appends

pub returns-clause-cleanup_appends : goal.returns-clause-cleanup_appends
returns-clause-cleanup_appends c = cleanup_appends

pub returns-clause-refused_copy : goal.returns-clause-refused_copy
returns-clause-refused_copy c = copy_is_refused

pub returns-clause-refused_upload : goal.returns-clause-refused_upload
returns-clause-refused_upload c = upload_is_refused

pub returns-clause-refused_cleanup : goal.returns-clause-refused_cleanup
returns-clause-refused_cleanup c = cleanup_is_refused
