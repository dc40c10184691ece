use Rattle.std.proofs.Common.{◌∙◌, Bool, refl, sym, subst}
use Rattle.bcv_model.specs.declared.note.Note.TheVariants.{Done}
use Rattle.bcv_ledger.specs.LedgerNotes.{ResolvesWhere, stands}
use Rattle.bcv_ledger.proofs.LedgerNoted.{tried}
use Rattle.bcv_ledger.proofs.NotesEnded.{done_waits, ended_by, never_full, still_waits, unnoted}
use Rattle.bcv_ledger.proofs.Resolved.{kept_resolved, known_resolved, views_resolved}
use Rattle.bcv_ledger.proofs.ledger.Ledger.resolved.Goals as goal

pub returns-then-is_err-clause-ends : goal.returns-then-is_err-clause-ends
returns-then-is_err-clause-ends g c =
    let d = g.D.Disk in
    let old = c.args.self.now in
    let same = c.reserve.ensures.same in
    unnoted d.told d.shown g.met.D.Disk.only_now old _ (Done c.args.id c.args.number) c.requires.is_open refl c.span.ensures.leaves _ same.kept same.known same.views

pub invariant_of-self-2 : goal.invariant_of-self-2
invariant_of-self-2 g c =
    let d = g.D.Disk in
    let old = c.args.self.now in
    let x = Done c.args.id c.args.number in
    let r = c.done-noted.result in
    let mid = c.reserve.new.self in
    let is : ResolvesWhere (stands r) mid c.resolve_where.new.databases c.args.number = subst (λ (b : Bool). ResolvesWhere b mid c.resolve_where.new.databases c.args.number) c.stands.ensures c.resolve_where.ensures in
    let kept = kept_resolved c.args.id c.args.number old.databases mid c.resolve_where.new.databases c.reserve.ensures.same r is in
    record {
      waits = still_waits d.told d.shown old.log c.done-noted.new.self x r old.databases.kept c.resolve_where.new.databases.kept c.done-noted.ensures.notes.leaves kept old.waits (done_waits old.databases.kept c.args.id c.args.number);
    }

pub returns-clause-ends : goal.returns-clause-ends
returns-clause-ends g c =
    let d = g.D.Disk in
    let old = c.args.self.now in
    let x = Done c.args.id c.args.number in
    let r = c.done-noted.result in
    let mid = c.reserve.new.self in
    let is : ResolvesWhere (stands r) mid c.resolve_where.new.databases c.args.number = subst (λ (b : Bool). ResolvesWhere b mid c.resolve_where.new.databases c.args.number) c.stands.ensures c.resolve_where.ensures in
    ended_by d.told d.shown old _ x c.requires.is_open _ r _ c.noted_fault.ensures
    (tried d.told d.shown g.met.D.Disk.counts_now old.log c.done-noted.new.self old.databases.kept x r c.span-2.ensures.leaves refl c.done-noted.ensures.notes)
    (kept_resolved c.args.id c.args.number old.databases mid c.resolve_where.new.databases c.reserve.ensures.same r is)
    (known_resolved c.args.id c.args.number old.databases mid c.resolve_where.new.databases c.reserve.ensures.same r is)
    (views_resolved c.args.id c.args.number old.databases mid c.resolve_where.new.databases c.reserve.ensures.same r is)

pub returns-clause-fits : goal.returns-clause-fits
returns-clause-fits g c full = never_full c.done-noted.result c.done-noted.ensures.fits (sym c.noted_fault.ensures ∙ full)
