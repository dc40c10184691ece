use Rattle.bcv_publish.proofs.BlockPutLaws.{none_puts}
use Rattle.bcv_dbcopy.proofs.task_work.put_next.Goals as goal

pub returns-in-Err-clause-puts : goal.returns-in-Err-clause-puts
returns-in-Err-clause-puts g c = none_puts g.S.Store.told (g.S.Store.shown c.args.store.now) (g.N.Names.shown c.args.names.now) _ c.args.entry.now.blocks
