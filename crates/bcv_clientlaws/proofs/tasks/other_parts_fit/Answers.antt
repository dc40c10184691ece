use Rattle.bcv_clientlaws.proofs.OtherParts.{entries_fit, fits_with_ended_txn, fits_without_task, found_task_fits, kept_fits, kept_fits_quietly, latest_fits, names_suffice, others_leave_fits, risen_fits, shut_fits, task_fits_last, tasks_fit, txns_fit}
use Rattle.bcv_clientlaws.proofs.Taken.{notes_keep_taken}
use Rattle.bcv_clientlaws.proofs.tasks.other_parts_fit.Goals as goal

pub returns-clause-others : goal.returns-clause-others
returns-clause-others c = others_leave_fits

pub returns-clause-names : goal.returns-clause-names
returns-clause-names c = names_suffice

pub returns-clause-tasks : goal.returns-clause-tasks
returns-clause-tasks c = tasks_fit

pub returns-clause-task : goal.returns-clause-task
returns-clause-task c = task_fits_last

pub returns-clause-without : goal.returns-clause-without
returns-clause-without c = fits_without_task

pub returns-clause-found : goal.returns-clause-found
returns-clause-found c = found_task_fits

pub returns-clause-txns : goal.returns-clause-txns
returns-clause-txns c = txns_fit

pub returns-clause-ended : goal.returns-clause-ended
returns-clause-ended c = fits_with_ended_txn

pub returns-clause-entries : goal.returns-clause-entries
returns-clause-entries c = entries_fit

pub returns-clause-latest : goal.returns-clause-latest
returns-clause-latest c = latest_fits

pub returns-clause-kept : goal.returns-clause-kept
returns-clause-kept c = kept_fits

pub returns-clause-quietly : goal.returns-clause-quietly
returns-clause-quietly c = kept_fits_quietly

pub returns-clause-taken : goal.returns-clause-taken
returns-clause-taken c = notes_keep_taken

pub returns-clause-risen : goal.returns-clause-risen
returns-clause-risen c = risen_fits

pub returns-clause-shut : goal.returns-clause-shut
returns-clause-shut c = shut_fits
