use Rattle.bcv_dirstore.proofs.Stored.{stored_is_found}
use Rattle.bcv_dirstore.proofs.laws.stored_is_found.Goals as goal

pub returns : goal.returns
returns c = stored_is_found c.args.etag c.args.bytes.now
