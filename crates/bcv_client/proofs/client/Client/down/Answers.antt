use Rattle.bcv_client.proofs.CameUp.{leaves_down}
use Rattle.bcv_client.proofs.client.Client.down.Goals as goal

pub returns-clause-down : goal.returns-clause-down
returns-clause-down g c =
    leaves_down g.D.Disk.shown c.args.self c.down.result c.down.ensures.disk
