use Rattle.bcv_talks.proofs.ReadRequests.{fetches_what_is_far}
use Rattle.bcv_talks.proofs.reading.reads_fetch_what_is_far.Goals as goal

pub returns : goal.returns
returns g c = record { fetches = λ access new txn page j r room asks wants. fetches_what_is_far c.args.client.now access new txn page j r room asks wants }
