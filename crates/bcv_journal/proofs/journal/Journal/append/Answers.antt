use Rattle.std.proofs.Common.{refl, rules}
use Rattle.bcv_journal.proofs.Appended.{append_done, append_failed, append_full, append_starved}
use Rattle.bcv_journal.proofs.journal.Journal.append.Goals as goal

pub returns-then-not-has_room : goal.returns-then-not-has_room
returns-then-not-has_room g c =
    append_full g.D.Disk.told g.D.Disk.shown c.args.self.now c.args.bytes.now c.args.spare (search rules) (search rules) (g.met.D.Disk.only_now c.args.self.now.disk)

pub returns-in-Done : goal.returns-in-Done
returns-in-Done g c = append_done g.D.Disk.told g.D.Disk.shown c.args.self.now _ c.args.bytes.now c.args.spare (search rules) (search rules) c.in-Done.ensures (search rules) refl

pub returns-in-Failed : goal.returns-in-Failed
returns-in-Failed g c = append_failed g.D.Disk.told g.D.Disk.shown c.args.self.now _ c.args.bytes.now c.args.spare (search rules) (search rules) c.in-Failed.ensures refl refl

pub returns-in-NoMemory : goal.returns-in-NoMemory
returns-in-NoMemory g c = append_starved g.D.Disk.told g.D.Disk.shown c.args.self.now _ c.args.bytes.now c.args.spare (search rules) (search rules) c.in-NoMemory.ensures (search rules) refl
