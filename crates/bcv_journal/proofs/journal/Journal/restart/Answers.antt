use Rattle.std.proofs.Common.{refl, rules}
use Rattle.bcv_journal.specs.Settled.{items_of}
use Rattle.bcv_journal.proofs.Replaced.{restart_done, restart_failed, restart_none, restart_starved}
use Rattle.bcv_journal.proofs.journal.Journal.restart.Goals as goal

pub returns-in_default : goal.returns-in_default
returns-in_default g c =
    restart_none g.D.Disk.told g.D.Disk.shown c.args.self.now (items_of c.args.items.now) (search rules) (g.met.D.Disk.only_now c.args.self.now.disk)

pub returns-in-Done : goal.returns-in-Done
returns-in-Done g c =
    restart_done g.D.Disk.told g.D.Disk.shown c.args.self.now _ (items_of c.args.items.now) (search rules) c.deref-2.result.now (search rules) c.place_for-start.result (search rules) c.in-Done.ensures (search rules) _ (search rules) refl

pub returns-in-Failed : goal.returns-in-Failed
returns-in-Failed g c =
    restart_failed g.D.Disk.told g.D.Disk.shown c.args.self.now _ (items_of c.args.items.now) (search rules) c.deref-2.result.now (search rules) c.place_for-start.result (search rules) c.in-Failed.ensures refl refl

pub returns : goal.returns
returns g c =
    restart_starved g.D.Disk.told g.D.Disk.shown c.args.self.now _ (items_of c.args.items.now) (search rules) c.deref-2.result.now (search rules) c.place_for-start.result (search rules) (search rules) (search rules) refl
