use Rattle.std.proofs.Common.{◌++◌, sym, subst}
use Rattle.bcv_cache.specs.Entry.{Blocks}
use Rattle.bcv_snapshot.specs.Opened.{Opened}
use Rattle.bcv_snapshot.specs.Pins.{HasPins}
use Rattle.bcv_snapshot.proofs.PinLaws.{back}
use Rattle.bcv_snapshot.proofs.txn.Txn.end.Goals as goal

pub returns-clause-pins : goal.returns-clause-pins
returns-clause-pins c = λ others has.
    subst (λ (x : Blocks). HasPins others x.entries) (sym c.give_back.ensures)
    (back c.self.inside.held.items c.args.cache.now.entries others (subst (λ (t : Opened). HasPins (t.held ++ others) c.args.cache.now.entries) (sym c.self.view_is) has))
