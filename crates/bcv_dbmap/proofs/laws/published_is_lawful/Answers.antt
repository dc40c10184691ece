use Rattle.bcv_dbmap.proofs.Publishes.{published_is_lawful}
use Rattle.bcv_dbmap.proofs.laws.published_is_lawful.Goals as goal

pub returns : goal.returns
returns c = published_is_lawful
