use Rattle.bcv_client.proofs.TablesListed.{lists}
use Rattle.bcv_client.proofs.client.Client.list.Goals as goal

pub returns-clause-steps : goal.returns-clause-steps
returns-clause-steps g c = lists g.D.Disk.shown c.args.self.now c.table.result c.lists_are_the_machines.ensures c.table.ensures
