use Rattle.std.proofs.Common.{◌≡◌, rules, List, ℕ, sym, ◌∙◌, subst}
use Rattle.std.proofs.lemmas.List.{take_at}
use Rattle.bcv_disk.specs.DiskCalls.{DiskReads}
use Rattle.bcv_disk.specs.declared.disk.DiskEnd.TheVariants.{Done}
use Rattle.bcv_journal.proofs.LoadParts.{long_done, long_failed, long_none}
use Rattle.bcv_journal.proofs.load.load_long.Goals as goal

pub returns-in_default : goal.returns-in_default
returns-in_default g c =
    let d = g.D.Disk in
    long_none d.told (d.shown c.args.disk.now) (g.met.D.Disk.only_now c.args.disk.now)

pub returns-in-Done : goal.returns-in-Done
returns-in-Done g c =
    let d = g.D.Disk in
    let same : c.deref.result.now ≡ c.read.new.into = c.deref.ensures.value ∙ take_at c.read.new.into _ _ (search rules) in
    let reads = subst (λ (l : List ℕ). DiskReads d.told (d.shown c.args.disk.now) (d.shown c.read.new.self) 0 c.deref_mut.result.now l Done) (sym same) c.in-Done.ensures.reads in
    long_done d.told (d.shown c.args.disk.now) (d.shown c.read.new.self) c.deref_mut.result.now c.deref.result.now (g.met.D.Disk.only_now c.args.disk.now) reads (search rules) (search rules) (search rules) c.read_items.result c.read_items.ensures.items
    c.read_items.ensures.fault

pub returns-in-Failed : goal.returns-in-Failed
returns-in-Failed g c =
    let d = g.D.Disk in
    long_failed d.told (d.shown c.args.disk.now) (d.shown c.read.new.self) c.deref_mut.result.now _ (g.met.D.Disk.only_now c.args.disk.now) c.in-Failed.ensures.reads
