use Rattle.std.proofs.Common.{◌≡◌, List, ℕ, refl, rules, subst}
use Rattle.bcv_journal.specs.JournalCalls.{JournalAppends}
use Rattle.bcv_journal.specs.declared.fault.Noted.TheVariants as noted
use Rattle.bcv_clientlog.proofs.Trying.{compacted_then}
use Rattle.bcv_clientlog.proofs.noting.add_compactly.Goals as goal

pub returns-in-Done : goal.returns-in-Done
returns-in-Done g c =
    let d = g.D.Disk in
    let same : c.deref.result.now ≡ c.in-Ok.bytes.items = (search rules) in
    compacted_then d.told d.shown c.args.journal.now c.compact.new.journal c.append.new.self c.args.kept.now c.args.dense c.args.text c.in-Ok.bytes c.len.result noted.Done c.append.result c.in-Ok.is (search rules) (search rules) c.in-Done.ensures
    (subst (λ (l : List ℕ). JournalAppends d.told d.shown c.compact.new.journal c.append.new.self l 64 c.append.result) same c.append.ensures)

pub returns-in-DiskFault : goal.returns-in-DiskFault
returns-in-DiskFault g c =
    let d = g.D.Disk in
    compacted_then d.told d.shown c.args.journal.now c.compact.new.journal c.compact.new.journal c.args.kept.now c.args.dense c.args.text c.in-Ok.bytes c.len.result noted.DiskFault noted.DiskFault c.in-Ok.is (search rules) (search rules) c.in-DiskFault.ensures (refl, refl)

pub returns-in-NoMemory : goal.returns-in-NoMemory
returns-in-NoMemory g c =
    let d = g.D.Disk in
    compacted_then d.told d.shown c.args.journal.now c.compact.new.journal c.compact.new.journal c.args.kept.now c.args.dense c.args.text c.in-Ok.bytes c.len.result noted.NoMemory noted.NoMemory c.in-Ok.is (search rules) (search rules) c.in-NoMemory.ensures (refl, refl)
