-- How a commit and a revert end.
use Rattle.std.proofs.Common.{◌≡◌, ◌∙◌, ℕ, Bool, true, List, Option, Some, None, is_some, refl, sym, ap, subst}
use Rattle.std.proofs.lemmas.Option.{same_Some}
use Rattle.bcv_base.specs.Keyed.{keyed, with_keyed, without_keyed}
use Rattle.bcv_clientlog.specs.Noting.{waits_by}
use Rattle.bcv_databases.specs.Catalog.{Catalog, known_name}
use Rattle.bcv_databases.specs.Changes.{base_of, commit_note, note_over}
use Rattle.bcv_databases.specs.Sound.{IsSame, KeepsViews}
use Rattle.bcv_databases.specs.declared.known.Known.{Known}
use Rattle.bcv_disk.specs.DiskShown.{DiskShown, DiskTold}
use Rattle.bcv_journal.specs.declared.fault.Noted.{Noted}
use Rattle.bcv_journal.specs.declared.fault.Noted.TheVariants.{Done, JournalFull, DiskFault, Closed, NoMemory}
use Rattle.bcv_model.specs.declared.ask.Commit.{Commit}
use Rattle.bcv_model.specs.declared.kept.Kept.{Kept}
use Rattle.bcv_model.specs.declared.kept.Local.{Local}
use Rattle.bcv_model.specs.declared.note.Note.{Note}
use Rattle.bcv_model.specs.declared.note.Note.TheVariants as note
use Rattle.bcv_model.specs.declared.reply.Reply.{Reply}
use Rattle.bcv_model.specs.Commits.{writes_of}
use Rattle.bcv_model.specs.Notes.{after_note, kept_name, note_size}
use Rattle.bcv_clientstate.specs.PartRefusals.{commit_reason_in, revert_reason_in}
use Rattle.bcv_ledger.specs.LedgerNotes.{FourOrNine, TakesCalls, parts_in, stands}
use Rattle.bcv_ledger.specs.LocalCalls.{AddsWhere, CommitsFrom, LedgerCommits, LedgerReverts, RevertsFrom, RevertsWhere, fault_of, noted_reply}
use Rattle.bcv_ledger.specs.NoteEnds.{kept_ended, known_ended, noted_fault}
use Rattle.bcv_ledger.specs.declared.ledger.Ledger.{Ledger}
use Rattle.bcv_ledger.proofs.NotesEnded.{views_then}

-- ---- what is answered

pub reply_is_fault : (result : Noted) → fault_of (noted_reply result) ≡ noted_fault result
reply_is_fault Done = refl
reply_is_fault JournalFull = refl
reply_is_fault DiskFault = refl
reply_is_fault Closed = refl
reply_is_fault NoMemory = refl

pub commits_by : {D : Type 0} {g : _} (told : DiskTold) (shown : D → DiskShown) (old new : Ledger D g) (db : List ℕ) (c : Commit) (r : Reply) (why : Option Reply)
    → commit_reason_in (parts_in old) db (writes_of c) ≡ why → CommitsFrom told shown old new db c r why → LedgerCommits told shown old new db c r
commits_by told shown old new db c r why is from = subst (λ (o : Option Reply). CommitsFrom told shown old new db c r o) (sym is) from

pub reverts_by : {D : Type 0} {g : _} (told : DiskTold) (shown : D → DiskShown) (old new : Ledger D g) (busy : Bool) (db : List ℕ) (r : Reply) (why : Option Reply)
    → revert_reason_in (parts_in old) busy db ≡ why → RevertsFrom told shown old new db r why → LedgerReverts told shown old new busy db r
reverts_by told shown old new busy db r why is from = subst (λ (o : Option Reply). RevertsFrom told shown old new db r o) (sym is) from

-- ---- the note of a commit

module _ (db : List ℕ) (commit : Commit) (x : Note) where
  takes_over : (a : Option Local) (b : Option Known) → note_over db commit a b ≡ Some x → (start tail size calls : ℕ) → FourOrNine start tail size (note_size x) calls → TakesCalls x start tail size calls
  takes_over (Some l) b e start tail size calls =
      subst (λ (y : Note). FourOrNine start tail size (note_size y) calls → TakesCalls y start tail size calls) (same_Some (note.Committed db commit) x e) (λ four. four)
  takes_over None (Some k) e start tail size calls =
      subst (λ (y : Note). FourOrNine start tail size (note_size y) calls → TakesCalls y start tail size calls) (same_Some (note.First k.entry k.number k.block commit) x e) (λ four. four)
  takes_over None None e start tail size calls = absurd (cc)

  pub takes_commit : (c : Catalog) → commit_note c db commit ≡ Some x → (start tail size calls : ℕ) → FourOrNine start tail size (note_size x) calls → TakesCalls x start tail size calls
  takes_commit c e = takes_over (keyed kept_name db c.kept.locals) (keyed known_name db c.known) e

  -- it leaves what is pending
  waits_over : (a : Option Local) (b : Option Known) → note_over db commit a b ≡ Some x → (k : Kept) (was : Bool) → (is_some k.pending ≡ true → was ≡ true) → is_some (after_note k x).pending ≡ true → waits_by x was ≡ true
  waits_over (Some l) b e k was =
      subst (λ (y : Note). (is_some k.pending ≡ true → was ≡ true) → is_some (after_note k y).pending ≡ true → waits_by y was ≡ true) (same_Some (note.Committed db commit) x e) (λ waits some. waits some)
  waits_over None (Some l) e k was =
      subst (λ (y : Note). (is_some k.pending ≡ true → was ≡ true) → is_some (after_note k y).pending ≡ true → waits_by y was ≡ true) (same_Some (note.First l.entry l.number l.block commit) x e) (λ waits some. waits some)
  waits_over None None e k was = absurd (cc)

  pub waits_commit : (c : Catalog) → commit_note c db commit ≡ Some x → (k : Kept) (was : Bool) → (is_some k.pending ≡ true → was ≡ true) → is_some (after_note k x).pending ≡ true → waits_by x was ≡ true
  waits_commit c e = waits_over (keyed kept_name db c.kept.locals) (keyed known_name db c.known) e

-- the note is the same once memory was taken
pub note_before : (db : List ℕ) (commit : Commit) (old mid : Catalog) → IsSame old mid → commit_note mid db commit ≡ commit_note old db commit
note_before db commit old mid same =
    ap (λ (k : Kept). note_over db commit (keyed kept_name db k.locals) (keyed known_name db mid.known)) same.kept
    ∙ ap (λ (ks : List Known). note_over db commit (keyed kept_name db old.kept.locals) (keyed known_name db ks)) same.known

-- ---- the databases afterwards

module _ (db : List ℕ) (commit : Commit) (x : Note) (old mid new : Catalog) (same : IsSame old mid) (is : commit_note mid db commit ≡ Some x) where
  pub kept_added : (result : Noted) → AddsWhere (stands result) mid new db commit → new.kept ≡ kept_ended (noted_fault result) old.kept x
  kept_added Done adds =
      adds.kept ∙ ap (after_note mid.kept) (same_Some adds.note x (sym adds.is_note ∙ is)) ∙ ap (λ (k : Kept). after_note k x) same.kept
  kept_added JournalFull e = ap (λ (c : Catalog). c.kept) e ∙ same.kept
  kept_added DiskFault e = ap (λ (c : Catalog). c.kept) e ∙ same.kept
  kept_added Closed e = ap (λ (c : Catalog). c.kept) e ∙ same.kept
  kept_added NoMemory e = ap (λ (c : Catalog). c.kept) e ∙ same.kept

  pub known_added : (result : Noted) → AddsWhere (stands result) mid new db commit → new.known ≡ known_ended (noted_fault result) old.known (without_keyed known_name db old.known)
  known_added Done adds = adds.known ∙ ap (without_keyed known_name db) same.known
  known_added JournalFull e = ap (λ (c : Catalog). c.known) e ∙ same.known
  known_added DiskFault e = ap (λ (c : Catalog). c.known) e ∙ same.known
  known_added Closed e = ap (λ (c : Catalog). c.known) e ∙ same.known
  known_added NoMemory e = ap (λ (c : Catalog). c.known) e ∙ same.known

  pub views_added : (result : Noted) → AddsWhere (stands result) mid new db commit → KeepsViews old.sets new.sets
  views_added Done adds = views_then old.sets mid.sets new.sets same.views adds.views
  views_added JournalFull e = subst (λ (c : Catalog). KeepsViews old.sets c.sets) (sym e) same.views
  views_added DiskFault e = subst (λ (c : Catalog). KeepsViews old.sets c.sets) (sym e) same.views
  views_added Closed e = subst (λ (c : Catalog). KeepsViews old.sets c.sets) (sym e) same.views
  views_added NoMemory e = subst (λ (c : Catalog). KeepsViews old.sets c.sets) (sym e) same.views

module _ (db : List ℕ) (l : Local) (old mid new : Catalog) (same : IsSame old mid) (is : keyed kept_name db old.kept.locals ≡ Some l) where
  pub kept_reverted : (result : Noted) → RevertsWhere (stands result) mid new db → new.kept ≡ kept_ended (noted_fault result) old.kept (note.Revert db)
  kept_reverted Done r = r.kept ∙ ap (λ (k : Kept). after_note k (note.Revert db)) same.kept
  kept_reverted JournalFull e = ap (λ (c : Catalog). c.kept) e ∙ same.kept
  kept_reverted DiskFault e = ap (λ (c : Catalog). c.kept) e ∙ same.kept
  kept_reverted Closed e = ap (λ (c : Catalog). c.kept) e ∙ same.kept
  kept_reverted NoMemory e = ap (λ (c : Catalog). c.kept) e ∙ same.kept

  pub known_reverted : (result : Noted) → RevertsWhere (stands result) mid new db → new.known ≡ known_ended (noted_fault result) old.known (with_keyed known_name (base_of l) old.known)
  known_reverted Done r =
      let one : r.local ≡ l = same_Some r.local l (sym r.is_local ∙ ap (λ (k : Kept). keyed kept_name db k.locals) same.kept ∙ is) in
      r.known ∙ ap (λ (x : Local). with_keyed known_name (base_of x) mid.known) one ∙ ap (with_keyed known_name (base_of l)) same.known
  known_reverted JournalFull e = ap (λ (c : Catalog). c.known) e ∙ same.known
  known_reverted DiskFault e = ap (λ (c : Catalog). c.known) e ∙ same.known
  known_reverted Closed e = ap (λ (c : Catalog). c.known) e ∙ same.known
  known_reverted NoMemory e = ap (λ (c : Catalog). c.known) e ∙ same.known

  pub views_reverted : (result : Noted) → RevertsWhere (stands result) mid new db → KeepsViews old.sets new.sets
  views_reverted Done r = views_then old.sets mid.sets new.sets same.views r.views
  views_reverted JournalFull e = subst (λ (c : Catalog). KeepsViews old.sets c.sets) (sym e) same.views
  views_reverted DiskFault e = subst (λ (c : Catalog). KeepsViews old.sets c.sets) (sym e) same.views
  views_reverted Closed e = subst (λ (c : Catalog). KeepsViews old.sets c.sets) (sym e) same.views
  views_reverted NoMemory e = subst (λ (c : Catalog). KeepsViews old.sets c.sets) (sym e) same.views
