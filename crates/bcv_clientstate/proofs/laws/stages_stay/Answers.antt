use Rattle.bcv_clientstate.proofs.Stages.{deletion_stays_swept, new_is_staged, reading_is_swept, refused_is_staged, refused_is_swept, upload_stays_staged}
use Rattle.bcv_clientstate.proofs.laws.stages_stay.Goals as goal

pub returns-clause-new : goal.returns-clause-new
returns-clause-new c = new_is_staged

pub returns-clause-upload : goal.returns-clause-upload
returns-clause-upload c = upload_stays_staged

pub returns-clause-reading : goal.returns-clause-reading
returns-clause-reading c = reading_is_swept

pub returns-clause-deletion : goal.returns-clause-deletion
returns-clause-deletion c = deletion_stays_swept

pub returns-clause-refused_upload : goal.returns-clause-refused_upload
returns-clause-refused_upload c = refused_is_staged

pub returns-clause-refused_cleanup : goal.returns-clause-refused_cleanup
returns-clause-refused_cleanup c = refused_is_swept
