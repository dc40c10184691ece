use Rattle.bcv_clientlaws.proofs.DatabaseForms.{bases_are_in_form, commits_keep_form, ends_keep_form, fits_are_in_form, folds_are_in_form, form_is_containers, found_in_form, found_known_in_form, notes_keep_form, reads_keep_form, resolves_keep_form, reverts_keep_form}
use Rattle.bcv_clientlaws.proofs.forms.databases_stay_in_form.Goals as goal

pub returns-clause-found : goal.returns-clause-found
returns-clause-found c = found_in_form

pub returns-clause-found_known : goal.returns-clause-found_known
returns-clause-found_known c = found_known_in_form

pub returns-clause-notes : goal.returns-clause-notes
returns-clause-notes c = notes_keep_form

pub returns-clause-reads : goal.returns-clause-reads
returns-clause-reads c = reads_keep_form

pub returns-clause-commits : goal.returns-clause-commits
returns-clause-commits c = commits_keep_form

pub returns-clause-reverts : goal.returns-clause-reverts
returns-clause-reverts c = reverts_keep_form

pub returns-clause-ends : goal.returns-clause-ends
returns-clause-ends c = ends_keep_form

pub returns-clause-resolves : goal.returns-clause-resolves
returns-clause-resolves c = resolves_keep_form

pub returns-clause-folds : goal.returns-clause-folds
returns-clause-folds c = folds_are_in_form

pub returns-clause-bases : goal.returns-clause-bases
returns-clause-bases c = bases_are_in_form

pub returns-clause-fits : goal.returns-clause-fits
returns-clause-fits c = fits_are_in_form

pub returns-clause-container : goal.returns-clause-container
returns-clause-container c = form_is_containers
