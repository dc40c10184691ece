use Rattle.bcv_ledger.proofs.TableLaws.{lists_are_the_machines}
use Rattle.bcv_ledger.proofs.laws.lists_are_the_machines.Goals as goal

pub returns : goal.returns
returns c = lists_are_the_machines
