use Rattle.bcv_upload.proofs.ViewPages.{uploaded_is_the_view}
use Rattle.bcv_upload.proofs.laws.uploaded_is_the_view.Goals as goal

pub returns : goal.returns
returns c = uploaded_is_the_view
