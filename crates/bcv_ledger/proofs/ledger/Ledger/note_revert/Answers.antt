use Rattle.std.proofs.Common.{◌≡◌, ◌∙◌, Bool, Some, None, IsSome, ap, refl, rules, subst, sym}
use Rattle.bcv_base.specs.Keyed.{keyed}
use Rattle.bcv_clientlog.specs.LogParts.{is_shut}
use Rattle.bcv_clientlog.specs.Noting.{LogCompacts}
use Rattle.bcv_model.specs.declared.kept.Kept.{Kept}
use Rattle.bcv_model.specs.declared.note.Note.TheVariants.{Revert}
use Rattle.bcv_model.specs.Notes.{kept_name}
use Rattle.bcv_clientstate.specs.PartRefusals.{revert_reason_in}
use Rattle.bcv_ledger.specs.LedgerNotes.{parts_in, stands}
use Rattle.bcv_ledger.specs.LocalCalls.{RevertsWhere, fault_of}
use Rattle.bcv_ledger.proofs.Begun.{none_is}
use Rattle.bcv_ledger.proofs.LedgerNoted.{tried_compactly}
use Rattle.bcv_ledger.proofs.LocalEnds.{kept_reverted, known_reverted, reply_is_fault, reverts_by, views_reverted}
use Rattle.bcv_ledger.proofs.NotesEnded.{ended_by, still_waits, unnoted}
use Rattle.bcv_ledger.proofs.Reasons.{free_to_revert, some_is}
use Rattle.bcv_ledger.proofs.ledger.Ledger.note_revert.Goals as goal

pub returns-in-Some : goal.returns-in-Some
returns-in-Some g c =
    let d = g.D.Disk in
    let old = c.args.self.now in
    let why : revert_reason_in (parts_in old) c.args.busy c.args.db ≡ Some c.in-Some.reason = (search rules) in
    reverts_by d.told d.shown old _ c.args.busy c.args.db c.in-Some.reason (Some c.in-Some.reason) why (refl, record { log = refl; databases = refl })

pub returns-then-is_err : goal.returns-then-is_err
returns-then-is_err g c =
    let d = g.D.Disk in
    let old = c.args.self.now in
    let none : revert_reason_in (parts_in old) c.args.busy c.args.db ≡ None = (search rules) in
    let free = free_to_revert (is_shut old.log) c.args.busy old.databases c.args.db none in
    let l = some_is (keyed kept_name c.args.db old.databases.kept.locals) free.local in
    let same = c.reserve.ensures.same in
    reverts_by d.told d.shown old _ c.args.busy c.args.db _ None none
    (record { local = l.0; is_local = l.1; ends = unnoted d.told d.shown g.met.D.Disk.only_now old _ (Revert c.args.db) free.is_open refl c.span.ensures.leaves _ same.kept same.known same.views })

pub revert_where-requires-clause-local : goal.revert_where-requires-clause-local
revert_where-requires-clause-local g c =
    let old = c.args.self.now in
    let none : revert_reason_in (parts_in old) c.args.busy c.args.db ≡ None = (search rules) in
    let free = free_to_revert (is_shut old.log) c.args.busy old.databases c.args.db none in
    subst (λ (k : Kept). IsSome (keyed kept_name c.args.db k.locals)) (sym c.reserve.ensures.same.kept) free.local

pub revert_where-requires-clause-free : goal.revert_where-requires-clause-free
revert_where-requires-clause-free g c =
    let old = c.args.self.now in
    let none : revert_reason_in (parts_in old) c.args.busy c.args.db ≡ None = (search rules) in
    let free = free_to_revert (is_shut old.log) c.args.busy old.databases c.args.db none in
    ap (λ (k : Kept). k.pending) c.reserve.ensures.same.kept ∙ none_is old.databases.kept.pending free.free

pub invariant_of-self-2 : goal.invariant_of-self-2
invariant_of-self-2 g c =
    let d = g.D.Disk in
    let old = c.args.self.now in
    let r = c.revert-noted.result in
    let mid = c.reserve.new.self in
    let last = c.revert_where.new.databases in
    let none : revert_reason_in (parts_in old) c.args.busy c.args.db ≡ None = (search rules) in
    let l = some_is (keyed kept_name c.args.db old.databases.kept.locals) (free_to_revert (is_shut old.log) c.args.busy old.databases c.args.db none).local in
    let does : RevertsWhere (stands r) mid last c.args.db = subst (λ (b : Bool). RevertsWhere b mid last c.args.db) c.stands.ensures c.revert_where.ensures in
    record {
      waits = still_waits d.told d.shown old.log c.revert-noted.new.self (Revert c.args.db) r old.databases.kept last.kept c.revert-noted.ensures.leaves
          (kept_reverted c.args.db l.0 old.databases mid last c.reserve.ensures.same l.1 r does) old.waits (λ some. old.waits some);
    }

pub returns : goal.returns
returns g c =
    let d = g.D.Disk in
    let old = c.args.self.now in
    let db = c.args.db in
    let none : revert_reason_in (parts_in old) c.args.busy db ≡ None = (search rules) in
    let free = free_to_revert (is_shut old.log) c.args.busy old.databases db none in
    let l = some_is (keyed kept_name db old.databases.kept.locals) free.local in
    let r = c.revert-noted.result in
    let mid = c.reserve.new.self in
    let same = c.reserve.ensures.same in
    let last = c.revert_where.new.databases in
    let does : RevertsWhere (stands r) mid last db = subst (λ (b : Bool). RevertsWhere b mid last db) c.stands.ensures c.revert_where.ensures in
    reverts_by d.told d.shown old _ c.args.busy db _ None none
    (record {
      local = l.0;
      is_local = l.1;
      ends =
          ended_by d.told d.shown old _ (Revert db) free.is_open _ r _ (ap fault_of c.noted_reply.ensures ∙ reply_is_fault r)
          (tried_compactly d.told d.shown g.met.D.Disk.counts_now old.log c.revert-noted.new.self old.databases.kept (Revert db) r c.span-2.ensures.leaves c.span.ensures.order (λ calls is. is)
          (subst (λ (k : Kept). LogCompacts d.told d.shown old.log c.revert-noted.new.self k (Revert db) r) (c.kept.ensures.kept ∙ same.kept) c.revert-noted.ensures))
          (kept_reverted db l.0 old.databases mid last same l.1 r does)
          (known_reverted db l.0 old.databases mid last same l.1 r does)
          (views_reverted db l.0 old.databases mid last same l.1 r does);
    })
