use Rattle.bcv_clientlaws.proofs.TaskStarts.{cleanup_starts, copy_starts, create_starts, fetch_starts, poll_starts, refuses_fetch, refuses_poll, refuses_resolve, refuses_start, refuses_upload, resolve_starts, starts_as_asked, starts_without_pending, upload_starts}
use Rattle.bcv_clientlaws.proofs.starts.starts_are_as_asked.Goals as goal

pub returns-clause-starts : goal.returns-clause-starts
returns-clause-starts c = starts_as_asked

pub returns-clause-refused : goal.returns-clause-refused
returns-clause-refused c = refuses_start

pub returns-clause-free : goal.returns-clause-free
returns-clause-free c = starts_without_pending

pub returns-clause-create : goal.returns-clause-create
returns-clause-create c = create_starts

pub returns-clause-copy : goal.returns-clause-copy
returns-clause-copy c = copy_starts

pub returns-clause-upload : goal.returns-clause-upload
returns-clause-upload c = upload_starts

pub returns-clause-no_upload : goal.returns-clause-no_upload
returns-clause-no_upload c = refuses_upload

pub returns-clause-cleanup : goal.returns-clause-cleanup
returns-clause-cleanup c = cleanup_starts

pub returns-clause-poll : goal.returns-clause-poll
returns-clause-poll c = poll_starts

pub returns-clause-no_poll : goal.returns-clause-no_poll
returns-clause-no_poll c = refuses_poll

pub returns-clause-resolve : goal.returns-clause-resolve
returns-clause-resolve c = resolve_starts

pub returns-clause-no_resolve : goal.returns-clause-no_resolve
returns-clause-no_resolve c = refuses_resolve

pub returns-clause-fetch : goal.returns-clause-fetch
returns-clause-fetch c = fetch_starts

pub returns-clause-no_fetch : goal.returns-clause-no_fetch
returns-clause-no_fetch c = refuses_fetch
