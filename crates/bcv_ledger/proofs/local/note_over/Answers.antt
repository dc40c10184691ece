use Rattle.std.proofs.Common.{◌≡◌, true, false, Some, is_some, rules, subst, sym}
use Rattle.bcv_clientlog.specs.Noting.{LogCompacts}
use Rattle.bcv_databases.specs.Catalog.{found_at, shown_view}
use Rattle.bcv_model.specs.declared.kept.Kept.{Kept}
use Rattle.bcv_model.specs.declared.note.Note.TheVariants as note
use Rattle.bcv_ledger.proofs.Reasons.{noted_first, noted_later}
use Rattle.bcv_ledger.proofs.local.note_over.Goals as goal

pub returns-then-is_some : goal.returns-then-is_some
returns-then-is_some g c =
    let d = g.D.Disk in
    let found : found_at c.args.databases.now c.args.db.now ≡ Some (shown_view c.in-Some.view) = (search rules) in
    let some : is_some (shown_view c.in-Some.view).commits ≡ true = sym c.if-is_some.ensures in
    let x = note.Committed c.args.db.now c.args.commit.now in
    record {
      note = x;
      is_note = noted_later c.args.databases.now c.args.db.now c.args.commit.now (shown_view c.in-Some.view) found some;
      notes = subst (λ (k : Kept). LogCompacts d.told d.shown c.args.log.now c.commit.new.self k x c.commit.result) c.kept.ensures.kept c.commit.ensures;
    }

pub returns : goal.returns
returns g c =
    let d = g.D.Disk in
    let v = shown_view c.in-Some.view in
    let found : found_at c.args.databases.now c.args.db.now ≡ Some v = (search rules) in
    let none : is_some v.commits ≡ false = sym c.if-is_some.ensures in
    let x = note.First v.entry v.number v.block c.args.commit.now in
    record {
      note = x;
      is_note = noted_first c.args.databases.now c.args.db.now c.args.commit.now v c.kept-2.ensures.sound found none;
      notes = subst (λ (k : Kept). LogCompacts d.told d.shown c.args.log.now c.first.new.self k x c.first.result) c.kept-2.ensures.kept c.first.ensures;
    }
