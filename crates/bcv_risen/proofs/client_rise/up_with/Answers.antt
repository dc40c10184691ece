use Rattle.std.proofs.Common.{◌∙◌, ap, refl}
use Rattle.bcv_risen.specs.SeenBases.{seen_in}
use Rattle.bcv_risen.proofs.client_rise.up_with.Goals as goal

pub returns : goal.returns
returns g c = record {
  ledger = refl;
  same = refl;
  is_id = c.bytes.ensures.id;
  sees = c.seen_in-seen.ensures ∙ ap seen_in c.kept.ensures.kept;
  rests = c.rests.ensures;
}
