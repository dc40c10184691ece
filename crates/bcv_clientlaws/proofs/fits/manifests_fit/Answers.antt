use Rattle.bcv_clientlaws.proofs.ManifestsRead.{read_fits, read_is_seen, seen_is_seen_in}
use Rattle.bcv_clientlaws.proofs.fits.manifests_fit.Goals as goal

pub returns-clause-seen : goal.returns-clause-seen
returns-clause-seen c = read_is_seen

pub returns-clause-read : goal.returns-clause-read
returns-clause-read c = read_fits

pub returns-clause-within : goal.returns-clause-within
returns-clause-within c = seen_is_seen_in
