-- A commit and a revert in the machine's words.
use Rattle.std.proofs.Common.{◌≡◌, ◌≢◌, ◌∙◌, ◌^◌, ◌<◌, ℕ, Bool, true, false, List, Option, Some, None, is_none, refl, sym, ap, subst}
use Rattle.bcv_base.specs.declared.log.Entry.{Entry}
use Rattle.bcv_base.specs.History.{Item, history_of}
use Rattle.bcv_base.specs.Keyed.{with_keyed, without_keyed}
use Rattle.bcv_cache.specs.Entry as cache
use Rattle.bcv_clientlog.specs.LogParts.{is_shut}
use Rattle.bcv_databases.specs.Catalog.{Catalog, known_name}
use Rattle.bcv_databases.specs.Changes.{base_of}
use Rattle.bcv_databases.specs.declared.known.Known.{Known}
use Rattle.bcv_disk.specs.DiskShown.{DiskShown, DiskTold}
use Rattle.bcv_machine.specs.LocalWriting as machine
use Rattle.bcv_machine.specs.State as m
use Rattle.bcv_model.specs.declared.ask.Commit.{Commit}
use Rattle.bcv_model.specs.declared.kept.Kept.{Kept}
use Rattle.bcv_model.specs.declared.note.Note.{Note}
use Rattle.bcv_model.specs.declared.note.Note.TheVariants as note
use Rattle.bcv_model.specs.declared.reply.Reply.{Reply}
use Rattle.bcv_model.specs.declared.reply.Reply.TheVariants as reply
use Rattle.bcv_model.specs.Commits.{writes_of}
use Rattle.bcv_model.specs.Notes.{after_note, note_size}
use Rattle.bcv_clientstate.specs.Journaled.{Journaled, free_failed, free_noted}
use Rattle.bcv_clientstate.specs.LocalSides.{EndsLocally}
use Rattle.bcv_clientstate.specs.NoteSides.{MayNote}
use Rattle.bcv_clientstate.specs.PartRefusals.{commit_reason_in, part_view_in, revert_reason_in, runs_publication}
use Rattle.bcv_clientstate.specs.Parts.{LedgerParts, Parts, with_ledger}
use Rattle.bcv_clientstate.specs.SeenClient.{Free, seen_up, side_of}
use Rattle.bcv_clientstate.proofs.LocalSides.{commits_as_asked, refuses_commit, refuses_revert, reverts_as_asked}
use Rattle.bcv_ledger.specs.LedgerNotes.{parts_in}
use Rattle.bcv_ledger.specs.LocalCalls.{CommitSteps, CommitsFrom, HasLedger, IsArmed, LedgerCommits, LedgerReverts, LocalSteps, RevertSteps, RevertsFrom, fault_of}
use Rattle.bcv_ledger.specs.NoteEnds.{EndGoes, NoteEnds}
use Rattle.bcv_ledger.specs.declared.ledger.Ledger.{Ledger}
use Rattle.bcv_ledger.proofs.LocalLaws.{commit_may_stand, revert_may_stand}
use Rattle.bcv_ledger.proofs.Reasons.{free_to_revert, open_to_commit}

-- ---- the parts

with_parts : (p : Parts) (a b : LedgerParts) → a.closed ≡ b.closed → a.kept ≡ b.kept → a.known ≡ b.known → with_ledger a p ≡ with_ledger b p
with_parts p a b closed kept known =
    ap (λ (x : Bool). record p { closed = x; kept = a.kept; known = a.known }) closed
    ∙ ap (λ (x : Kept). record p { closed = b.closed; kept = x; known = a.known }) kept
    ∙ ap (λ (x : List Known). record p { closed = b.closed; kept = b.kept; known = x }) known

pub there_is : {A : Type 0} (o : Option A) → is_none o ≡ false → (x : A) × (o ≡ Some x)
there_is None e = absurd (cc)
there_is (Some x) e = (x, refl)

-- ---- how the note ended

-- the client afterwards, by the answer
pub record Ended {D : Type 0} {g : _} (shown : D → DiskShown) (old new : Ledger D g) (p : Parts) (f : Free) (x : Note) (y : m.Note) (known : List Known) (r : Reply) : Type 0 where
  pub free : Free
  pub journaled : Journaled shown new.log new.databases.kept free
  pub ends : EndsLocally (record (with_ledger (parts_in old) p) { kept = after_note old.databases.kept x; known = known }) (with_ledger (parts_in old) p) f x y r (with_ledger (parts_in new) p) free

module _ {D : Type 0} {g : _} (told : DiskTold) (shown : D → DiskShown) (old new : Ledger D g) (p : Parts) (f : Free) (x : Note) (y : m.Note) (known : List Known) (is_open : is_shut old.log ≡ false) where
  ended : (r : Reply) → NoteEnds told shown old new x known (fault_of r) → EndGoes shown new.log new.databases.kept f x y (fault_of r) → IsArmed r f → r ≢ reply.NoMemory → Ended shown old new p f x y known r
  ended reply.Fine ends goes armed memory = record {
    free = free_noted (note_size x) f;
    journaled = goes;
    ends = (with_parts p (parts_in new) (record { closed = is_shut old.log; kept = after_note old.databases.kept x; known = known }) (ends.shut ∙ sym is_open) ends.kept ends.knows, refl);
  }
  ended reply.JournalFull ends goes armed memory = record {
    free = f;
    journaled = goes.0;
    ends = (goes.1, with_parts p (parts_in new) (parts_in old) (ends.shut ∙ sym is_open) ends.kept ends.knows, refl);
  }
  ended reply.DiskFault ends goes armed memory = record {
    free = free_failed (note_size x) y f;
    journaled = goes;
    ends = (armed, with_parts p (parts_in new) (record { closed = true; kept = old.databases.kept; known = old.databases.known }) ends.shut ends.kept ends.knows, refl);
  }
  ended reply.NoMemory ends goes armed memory = absurd (memory refl)
  ended _ ends goes armed memory = absurd ends.answers

-- ---- commit

module _ {D : Type 0} {g : _} (told : DiskTold) (shown : D → DiskShown) (old new : Ledger D g) (db : List ℕ) (c : Commit) (r : Reply) (tells : told.tells) (size : c.size < 2 ^ 32)
    (moment : ℕ) (log : List Entry) (entries : List cache.Entry) (p : Parts) (f : Free) (has : HasLedger shown old p entries log f) (armed : IsArmed r f) (memory : r ≢ reply.NoMemory) where
  abbrev past : List Item
  past = history_of log

  abbrev q : Parts
  q = with_ledger (parts_in old) p

  abbrev Goes : Parts → Free → Type 0
  Goes after free = machine.Commits (side_of moment past q f) (seen_up past q) db (writes_of c) r (side_of moment past after free)

  by_reason : (why : Option Reply) → commit_reason_in (parts_in old) db (writes_of c) ≡ why → CommitsFrom told shown old new db c r why
      → LocalSteps shown old new p moment past f (λ s u t. machine.Commits s u db (writes_of c) r t)
  by_reason (Some why) is from = record {
    free = f;
    journaled =
        subst (λ (l : _). Journaled shown l new.databases.kept f) (sym from.1.log)
        (subst (λ (k : Catalog). Journaled shown old.log k.kept f) (sym from.1.databases) has.journaled);
    goes =
        subst (λ (a : Parts). Goes a f)
        (sym (with_parts p (parts_in new) (parts_in old) (ap is_shut from.1.log) (ap (λ (k : Catalog). k.kept) from.1.databases) (ap (λ (k : Catalog). k.known) from.1.databases)))
        (refuses_commit moment log entries q f db (writes_of c) r has.sound has.fits (is ∙ ap Some (sym from.0)));
  }
  by_reason None is from =
      let first = open_to_commit (parts_in old) db (writes_of c) is in
      let v = there_is (part_view_in (parts_in old) db) first.1 in
      let y : m.Note = m.Committing db v.0.number (writes_of c) in
      let may : MayNote past q from.note y = commit_may_stand log entries q db c v.0 from.note has.sound has.fits size is v.1 from.is_note in
      let goes : EndGoes shown new.log new.databases.kept f from.note y (fault_of r) = from.ends.goes tells may.may f has.journaled y may.is in
      let e = ended told shown old new p f from.note y (without_keyed known_name db old.databases.known) first.0 r from.ends goes armed memory in
      record {
        free = e.free;
        journaled = e.journaled;
        goes = commits_as_asked moment log entries q (with_ledger (parts_in new) p) f e.free db (writes_of c) v.0 from.note r has.sound has.fits is v.1 may e.ends;
      }

pub commit_steps : {D : Type 0} {g : _} (told : DiskTold) (shown : D → DiskShown) (old new : Ledger D g) (db : List ℕ) (c : Commit) (r : Reply) → c.size < 2 ^ 32 → LedgerCommits told shown old new db c r
    → told.tells → CommitSteps shown old new db (writes_of c) r
commit_steps told shown old new db c r size commits tells moment log entries p f has armed memory =
    by_reason told shown old new db c r tells size moment log entries p f has armed memory (commit_reason_in (parts_in old) db (writes_of c)) refl commits

-- ---- revert

module _ {D : Type 0} {g : _} (told : DiskTold) (shown : D → DiskShown) (old new : Ledger D g) (busy : Bool) (db : List ℕ) (r : Reply) (tells : told.tells)
    (moment : ℕ) (log : List Entry) (entries : List cache.Entry) (p : Parts) (f : Free) (has : HasLedger shown old p entries log f) (runs : busy ≡ runs_publication p) (armed : IsArmed r f) (memory : r ≢ reply.NoMemory) where
  abbrev before : List Item
  before = history_of log

  abbrev o : Parts
  o = with_ledger (parts_in old) p

  abbrev Reverts : Parts → Free → Type 0
  Reverts after free = machine.Reverts (side_of moment before o f) (seen_up before o) db r (side_of moment before after free)

  by_revert : (why : Option Reply) → revert_reason_in (parts_in old) busy db ≡ why → RevertsFrom told shown old new db r why
      → LocalSteps shown old new p moment before f (λ s u t. machine.Reverts s u db r t)
  by_revert (Some why) is from = record {
    free = f;
    journaled =
        subst (λ (l : _). Journaled shown l new.databases.kept f) (sym from.1.log)
        (subst (λ (k : Catalog). Journaled shown old.log k.kept f) (sym from.1.databases) has.journaled);
    goes =
        subst (λ (a : Parts). Reverts a f)
        (sym (with_parts p (parts_in new) (parts_in old) (ap is_shut from.1.log) (ap (λ (k : Catalog). k.kept) from.1.databases) (ap (λ (k : Catalog). k.known) from.1.databases)))
        (refuses_revert moment log o f db r (ap (λ (b : Bool). revert_reason_in (parts_in old) b db) (sym runs) ∙ is ∙ ap Some (sym from.0)));
  }
  by_revert None is from =
      let none : revert_reason_in (parts_in old) (runs_publication p) db ≡ None = ap (λ (b : Bool). revert_reason_in (parts_in old) b db) (sym runs) ∙ is in
      let free = free_to_revert (is_shut old.log) busy old.databases db is in
      let y : m.Note = m.Reverting db in
      let may : MayNote before o (note.Revert db) y = revert_may_stand log entries o db has.sound has.fits none in
      let goes : EndGoes shown new.log new.databases.kept f (note.Revert db) y (fault_of r) = from.ends.goes tells may.may f has.journaled y may.is in
      let e = ended told shown old new p f (note.Revert db) y (with_keyed known_name (base_of from.local) old.databases.known) free.is_open r from.ends goes armed memory in
      record {
        free = e.free;
        journaled = e.journaled;
        goes = reverts_as_asked moment log o (with_ledger (parts_in new) p) f e.free db from.local r none from.is_local may e.ends;
      }

pub revert_steps : {D : Type 0} {g : _} (told : DiskTold) (shown : D → DiskShown) (old new : Ledger D g) (busy : Bool) (db : List ℕ) (r : Reply) → LedgerReverts told shown old new busy db r
    → told.tells → RevertSteps shown old new busy db r
revert_steps told shown old new busy db r reverts tells moment log entries p f has runs armed memory =
    by_revert told shown old new busy db r tells moment log entries p f has runs armed memory (revert_reason_in (parts_in old) busy db) refl reverts
