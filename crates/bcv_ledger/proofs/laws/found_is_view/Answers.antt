use Rattle.bcv_ledger.proofs.TableLaws.{found_is_view}
use Rattle.bcv_ledger.proofs.laws.found_is_view.Goals as goal

pub returns : goal.returns
returns c = found_is_view
