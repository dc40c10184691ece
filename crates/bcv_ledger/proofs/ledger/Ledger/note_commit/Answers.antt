use Rattle.std.proofs.Common.{◌≡◌, ◌∙◌, Bool, true, Option, Some, None, IsSome, IfSome, ap, refl, rules, subst, sym}
use Rattle.bcv_base.specs.Views.{is_commit}
use Rattle.bcv_clientlog.specs.LogParts.{is_shut, log_start, log_tail, size_kept}
use Rattle.bcv_clientlog.specs.Noting.{LogCompacts}
use Rattle.bcv_databases.specs.Catalog.{View}
use Rattle.bcv_model.specs.declared.kept.Kept.{Kept}
use Rattle.bcv_model.specs.Commits.{writes_of}
use Rattle.bcv_clientstate.specs.PartRefusals.{commit_reason_in}
use Rattle.bcv_ledger.specs.LedgerNotes.{parts_in, stands}
use Rattle.bcv_ledger.specs.LocalCalls.{AddsWhere, fault_of}
use Rattle.bcv_ledger.proofs.LedgerNoted.{tried_compactly}
use Rattle.bcv_ledger.proofs.LocalEnds.{commits_by, kept_added, known_added, note_before, reply_is_fault, takes_commit, views_added, waits_commit}
use Rattle.bcv_ledger.proofs.NotesEnded.{ended_by, still_waits, unnoted}
use Rattle.bcv_ledger.proofs.Reasons.{few_pages, free_to_commit, known_still, note_there}
use Rattle.bcv_ledger.proofs.ledger.Ledger.note_commit.Goals as goal

pub returns-in-Some : goal.returns-in-Some
returns-in-Some g c =
    let d = g.D.Disk in
    let old = c.args.self.now in
    let why : commit_reason_in (parts_in old) c.args.db (writes_of c.args.commit) ≡ Some c.in-Some.reason = (search rules) in
    commits_by d.told d.shown old _ c.args.db c.args.commit c.in-Some.reason (Some c.in-Some.reason) why (refl, record { log = refl; databases = refl })

pub ready-requires-clause-known : goal.ready-requires-clause-known
ready-requires-clause-known g c =
    let old = c.args.self.now in
    let w = writes_of c.args.commit in
    let none : commit_reason_in (parts_in old) c.args.db w ≡ None = (search rules) in
    subst (λ (o : Option View). IsSome o) (sym (free_to_commit (is_shut old.log) w old.databases c.args.db none).is) refl

pub ready-requires-clause-fits : goal.ready-requires-clause-fits
ready-requires-clause-fits g c =
    let old = c.args.self.now in
    let w = writes_of c.args.commit in
    let none : commit_reason_in (parts_in old) c.args.db w ≡ None = (search rules) in
    let free = free_to_commit (is_shut old.log) w old.databases c.args.db none in
    subst (λ (o : Option View). IfSome o (λ (v : View). is_commit v.entry.page_size w ≡ true)) (sym free.is) free.fits

pub returns-in_default-ready : goal.returns-in_default-ready
returns-in_default-ready g c =
    let d = g.D.Disk in
    let old = c.args.self.now in
    let w = writes_of c.args.commit in
    let none : commit_reason_in (parts_in old) c.args.db w ≡ None = (search rules) in
    let free = free_to_commit (is_shut old.log) w old.databases c.args.db none in
    let n = note_there old.databases c.args.db c.args.commit free.there free.is in
    let same = c.ready.ensures.same in
    commits_by d.told d.shown old _ c.args.db c.args.commit _ None none
    (record { note = n.0; is_note = n.1; ends = unnoted d.told d.shown g.met.D.Disk.only_now old _ n.0 free.is_open refl c.span.ensures.leaves _ same.kept same.known same.views })

pub note_over-noted-requires-clause-known : goal.note_over-noted-requires-clause-known
note_over-noted-requires-clause-known g c =
    let old = c.args.self.now in
    let w = writes_of c.args.commit in
    let none : commit_reason_in (parts_in old) c.args.db w ≡ None = (search rules) in
    known_still old.databases c.ready.new.self c.args.db c.ready.ensures.same (subst (λ (o : Option View). IsSome o) (sym (free_to_commit (is_shut old.log) w old.databases c.args.db none).is) refl)

pub note_over-noted-requires-clause-few : goal.note_over-noted-requires-clause-few
note_over-noted-requires-clause-few g c =
    let old = c.args.self.now in
    let w = writes_of c.args.commit in
    let none : commit_reason_in (parts_in old) c.args.db w ≡ None = (search rules) in
    let free = free_to_commit (is_shut old.log) w old.databases c.args.db none in
    few_pages free.there.entry.page_size w c.commit_reason.ensures.small free.fits

pub add_where-requires : goal.add_where-requires
add_where-requires g c = (search rules)

pub invariant_of-self-2 : goal.invariant_of-self-2
invariant_of-self-2 g c =
    let d = g.D.Disk in
    let old = c.args.self.now in
    let r = c.note_over-noted.result in
    let mid = c.ready.new.self in
    let n = c.note_over-noted.ensures in
    let adds : AddsWhere (stands r) mid c.add_where.new.databases c.args.db c.args.commit = subst (λ (b : Bool). AddsWhere b mid c.add_where.new.databases c.args.db c.args.commit) c.stands.ensures c.add_where.ensures in
    let kept = kept_added c.args.db c.args.commit n.note old.databases mid c.add_where.new.databases c.ready.ensures.same n.is_note r adds in
    record {
      waits = still_waits d.told d.shown old.log c.note_over-noted.new.log n.note r old.databases.kept c.add_where.new.databases.kept n.notes.leaves kept old.waits
          (waits_commit c.args.db c.args.commit n.note mid n.is_note old.databases.kept _ old.waits);
    }

pub returns : goal.returns
returns g c =
    let d = g.D.Disk in
    let old = c.args.self.now in
    let db = c.args.db in
    let commit = c.args.commit in
    let w = writes_of commit in
    let none : commit_reason_in (parts_in old) db w ≡ None = (search rules) in
    let free = free_to_commit (is_shut old.log) w old.databases db none in
    let r = c.note_over-noted.result in
    let mid = c.ready.new.self in
    let same = c.ready.ensures.same in
    let n = c.note_over-noted.ensures in
    let last = c.add_where.new.databases in
    let adds : AddsWhere (stands r) mid last db commit = subst (λ (b : Bool). AddsWhere b mid last db commit) c.stands.ensures c.add_where.ensures in
    commits_by d.told d.shown old _ db commit _ None none
    (record {
      note = n.note;
      is_note = sym (note_before db commit old.databases mid same) ∙ n.is_note;
      ends =
          ended_by d.told d.shown old _ n.note free.is_open _ r _ (ap fault_of c.noted_reply.ensures ∙ reply_is_fault r)
          (tried_compactly d.told d.shown g.met.D.Disk.counts_now old.log c.note_over-noted.new.log old.databases.kept n.note r c.span-2.ensures.leaves c.span.ensures.order
          (takes_commit db commit n.note mid n.is_note (log_start old.log) (log_tail old.log) (size_kept old.databases.kept))
          (subst (λ (k : Kept). LogCompacts d.told d.shown old.log c.note_over-noted.new.log k n.note r) same.kept n.notes))
          (kept_added db commit n.note old.databases mid last same n.is_note r adds)
          (known_added db commit n.note old.databases mid last same n.is_note r adds)
          (views_added db commit n.note old.databases mid last same n.is_note r adds);
    })
