use Rattle.bcv_upload.proofs.Owned.{blocks_stay_others, blocks_stay_put}
use Rattle.bcv_upload.proofs.laws.blocks_stay.Goals as goal

pub returns-clause-others : goal.returns-clause-others
returns-clause-others c = blocks_stay_others

pub returns-clause-put : goal.returns-clause-put
returns-clause-put c = blocks_stay_put
