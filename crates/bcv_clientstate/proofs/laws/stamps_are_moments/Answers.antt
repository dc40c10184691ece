use Rattle.bcv_clientstate.proofs.Stamps.{stamps_are_moments}
use Rattle.bcv_clientstate.proofs.laws.stamps_are_moments.Goals as goal

pub returns : goal.returns
returns c = stamps_are_moments
