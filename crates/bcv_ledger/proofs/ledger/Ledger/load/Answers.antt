use Rattle.bcv_ledger.proofs.LedgerLoaded.{are_loaded, over}
use Rattle.bcv_ledger.proofs.ledger.Ledger.load.Goals as goal

pub over-requires-clause-loaded : goal.over-requires-clause-loaded
over-requires-clause-loaded g c = let d = g.D.Disk in are_loaded d.told d.shown c.args.disk c.in-Ready.log c.in-Ready.kept c.in-Ready.ensures

pub returns-in-Ready : goal.returns-in-Ready
returns-in-Ready g c = let d = g.D.Disk in over d.told d.shown c.args.disk c.in-Ready.log c.in-Ready.kept c.in-Ready.ensures c.over.result c.over.ensures
