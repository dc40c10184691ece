use Rattle.std.proofs.Common.{◌≡◌, ◌∙◌, Bool, List, refl, rules, sym, subst}
use Rattle.bcv_base.specs.ManifestRules.{Ascends}
use Rattle.bcv_databases.specs.Catalog.{known_name}
use Rattle.bcv_databases.specs.Changes as changes
use Rattle.bcv_databases.specs.declared.known.Known.{Known}
use Rattle.bcv_model.specs.declared.note.Note.TheVariants.{Done}
use Rattle.bcv_ledger.specs.LedgerNotes.{PollsWhere, stands}
use Rattle.bcv_ledger.proofs.KnownAt.{ascends_in, kept_polled, known_polled, views_polled}
use Rattle.bcv_ledger.proofs.NotesEnded.{ended_by, kept_where, known_where, never_full, same_views, unnoted, views_where}
use Rattle.bcv_ledger.proofs.ledger.Ledger.made.Goals as goal

pub returns-in_default-clause-ends : goal.returns-in_default-clause-ends
returns-in_default-clause-ends g c =
    let d = g.D.Disk in
    let old = c.args.self.now in
    unnoted d.told d.shown g.met.D.Disk.only_now old old (Done c.args.id c.args.number) c.requires.is_open refl c.span.ensures.leaves _ refl refl (same_views old.databases.sets)

pub poll_where-requires : goal.poll_where-requires
poll_where-requires g c =
    let m = c.args.manifest.now in
    let is : c.in-Ok.found.items ≡ changes.known_in m = (search rules) in
    subst (λ (xs : List Known). Ascends known_name xs) (sym is) (ascends_in m m.dbs c.requires.order)

pub returns-clause-ends : goal.returns-clause-ends
returns-clause-ends g c =
    let d = g.D.Disk in
    let old = c.args.self.now in
    let m = c.args.manifest.now in
    let x = Done c.args.id c.args.number in
    let r = c.finish-noted.result in
    let mid = c.finish-noted.new.self.databases in
    let found = c.in-Ok.found.items in
    let is : found ≡ changes.known_in m = (search rules) in
    let notes = c.finish-noted.ensures.notes in
    let polls : PollsWhere (stands r) mid c.poll_where.new.databases found = subst (λ (b : Bool). PollsWhere b mid c.poll_where.new.databases found) c.stands.ensures c.poll_where.ensures in
    let kept = kept_where r x old.databases mid notes.databases in
    let known = known_where r x old.databases mid notes.databases in
    let views = views_where r x old.databases mid notes.databases in
    ended_by d.told d.shown old _ x c.requires.is_open _ r _ c.noted_fault.ensures notes.tried
    (kept_polled x m old.databases mid c.poll_where.new.databases found is r kept polls)
    (known_polled x m old.databases mid c.poll_where.new.databases found is r kept known polls)
    (views_polled x m old.databases mid c.poll_where.new.databases found is r views polls)

pub returns-clause-fits : goal.returns-clause-fits
returns-clause-fits g c full = never_full c.finish-noted.result c.finish-noted.ensures.fits (sym c.noted_fault.ensures ∙ full)
