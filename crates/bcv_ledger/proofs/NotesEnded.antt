-- How a call ends that notes something.
use Rattle.std.proofs.Common.{◌≡◌, ◌≢◌, ◌+◌, ◌^◌, ◌<◌, ◌∙◌, ℕ, Bool, true, false, List, [], ◌∷◌, length, Option, Some, None, is_some, ⊎_elim, inl, inr, refl, sym, ap, subst, arith}
use Rattle.bcv_base.specs.declared.id.Id16.{Id16}
use Rattle.bcv_clientlog.specs.declared.log.ClientLog.{ClientLog}
use Rattle.bcv_clientlog.specs.LogParts.{Holds, LoadsAs, LoadsUpTo, is_shut, is_waiting, log_area, log_disk, log_tail}
use Rattle.bcv_clientlog.specs.Noting.{NoteLeaves, spare_after, waits_by}
use Rattle.bcv_databases.specs.Catalog.{Catalog}
use Rattle.bcv_databases.specs.Sound.{KeepsViews}
use Rattle.bcv_databases.specs.declared.known.Known.{Known}
use Rattle.bcv_disk.specs.Calls.{DiskFails-as, DiskFails-none}
use Rattle.bcv_disk.specs.Crash.{LeavesOnly}
use Rattle.bcv_disk.specs.DiskCalls.{DiskFails}
use Rattle.bcv_disk.specs.DiskShown.{DiskShown, DiskTold}
use Rattle.bcv_journal.specs.declared.fault.Noted.{Noted}
use Rattle.bcv_journal.specs.declared.fault.Noted.TheVariants.{Done, JournalFull, DiskFault, Closed, NoMemory}
use Rattle.bcv_machine.specs.State as m
use Rattle.bcv_model.specs.declared.kept.Kept.{Kept}
use Rattle.bcv_model.specs.declared.kept.PendingPub.{PendingPub}
use Rattle.bcv_model.specs.declared.note.Note.{Note}
use Rattle.bcv_model.specs.declared.note.Note.TheVariants as note
use Rattle.bcv_model.specs.declared.reply.Reply.{Reply}
use Rattle.bcv_model.specs.declared.reply.Reply.TheVariants as reply
use Rattle.bcv_model.specs.Notes.{after_note, kept_published, note_size, note_text}
use Rattle.bcv_pages.specs.Held.{Held}
use Rattle.bcv_clientstate.specs.Journaled.{Journaled, NoteGoes, free_failed, free_noted}
use Rattle.bcv_clientstate.specs.SeenClient.{Free}
use Rattle.bcv_ledger.specs.LedgerNotes.{EndsWhere, NoteTried, stands}
use Rattle.bcv_ledger.specs.NoteEnds.{EndGoes, IsNoteFault, NoteEnds, ShutAfter, kept_ended, known_ended, noted_fault}
use Rattle.bcv_ledger.specs.declared.ledger.Ledger.{Ledger}

-- ---- booleans

not_true : (b : Bool) → (b ≡ true → ⊥) → b ≡ false
not_true true denied = absurd (denied refl)
not_true false denied = refl

-- ---- the databases

pub same_views : (sets : List (Option Held)) → KeepsViews sets sets
same_views sets place h at = (h, at, (λ from to can. (can, refl)), refl)

pub views_then : (a b c : List (Option Held)) → KeepsViews a b → KeepsViews b c → KeepsViews a c
views_then a b c one two place h at =
    let p = one place h at in
    let q = two place p.0 p.1 in
    (q.0, q.1, (λ from to can. let x = p.2 from to can in let y = q.2 from to x.0 in (y.0, y.1 ∙ x.1)), q.3 ∙ p.3)

-- after a change of its own each way, what is kept, known and seen
pub kept_where : (result : Noted) (x : Note) (old new : Catalog) → EndsWhere (stands result) old new x → new.kept ≡ kept_ended (noted_fault result) old.kept x
kept_where Done x old new e = e.kept
kept_where JournalFull x old new e = ap (λ (c : Catalog). c.kept) e
kept_where DiskFault x old new e = ap (λ (c : Catalog). c.kept) e
kept_where Closed x old new e = ap (λ (c : Catalog). c.kept) e
kept_where NoMemory x old new e = ap (λ (c : Catalog). c.kept) e

pub views_where : (result : Noted) (x : Note) (old new : Catalog) → EndsWhere (stands result) old new x → KeepsViews old.sets new.sets
views_where Done x old new e = e.views
views_where JournalFull x old new e = subst (λ (c : Catalog). KeepsViews old.sets c.sets) (sym e) (same_views old.sets)
views_where DiskFault x old new e = subst (λ (c : Catalog). KeepsViews old.sets c.sets) (sym e) (same_views old.sets)
views_where Closed x old new e = subst (λ (c : Catalog). KeepsViews old.sets c.sets) (sym e) (same_views old.sets)
views_where NoMemory x old new e = subst (λ (c : Catalog). KeepsViews old.sets c.sets) (sym e) (same_views old.sets)

pub known_where : (result : Noted) (x : Note) (old new : Catalog) → EndsWhere (stands result) old new x → new.known ≡ old.known
known_where Done x old new e = e.known
known_where JournalFull x old new e = ap (λ (c : Catalog). c.known) e
known_where DiskFault x old new e = ap (λ (c : Catalog). c.known) e
known_where Closed x old new e = ap (λ (c : Catalog). c.known) e
known_where NoMemory x old new e = ap (λ (c : Catalog). c.known) e

-- the known databases stay, whatever is answered
pub known_kept : (fault : Option Reply) (old : List Known) → known_ended fault old old ≡ old
known_kept None old = refl
known_kept (Some fault) old = refl

-- ---- what waits in the log

pub still_waits : {D : Type 0} {g : _} (told : DiskTold) (shown : D → DiskShown) (old new : ClientLog D g) (x : Note) (result : Noted) (before now : Kept)
    → NoteLeaves told shown old new x result → now ≡ kept_ended (noted_fault result) before x → (is_some before.pending ≡ true → is_waiting old ≡ true)
    → (is_some (after_note before x).pending ≡ true → waits_by x (is_waiting old) ≡ true) → is_some now.pending ≡ true → is_waiting new ≡ true
still_waits told shown old new x Done before now leaves is was then some = leaves.waits refl ∙ then (sym (ap (λ (k : Kept). is_some k.pending) is) ∙ some)
still_waits told shown old new x JournalFull before now leaves is was then some = leaves.still (λ e. cc) ∙ was (sym (ap (λ (k : Kept). is_some k.pending) is) ∙ some)
still_waits told shown old new x DiskFault before now leaves is was then some = leaves.still (λ e. cc) ∙ was (sym (ap (λ (k : Kept). is_some k.pending) is) ∙ some)
still_waits told shown old new x Closed before now leaves is was then some = leaves.still (λ e. cc) ∙ was (sym (ap (λ (k : Kept). is_some k.pending) is) ∙ some)
still_waits told shown old new x NoMemory before now leaves is was then some = leaves.still (λ e. cc) ∙ was (sym (ap (λ (k : Kept). is_some k.pending) is) ∙ some)

-- nothing is pending once a publication was made
pub done_is_free : (k : Kept) (number : ℕ) (p : Option PendingPub) → k.pending ≡ p → (kept_published number k p).pending ≡ None
done_is_free k number None e = e
done_is_free k number (Some p) e = refl

pub done_waits : (k : Kept) (id : Id16) (number : ℕ) {b : Bool} → is_some (after_note k (note.Done id number)).pending ≡ true → b ≡ true
done_waits k id number some = let none : is_some (after_note k (note.Done id number)).pending ≡ false = ap is_some (done_is_free k number k.pending refl) in absurd (cc)

-- ---- how a call ends

module _ {D : Type 0} {g : _} (told : DiskTold) (shown : D → DiskShown) (old new : Ledger D g) (x : Note) (is_open : is_shut old.log ≡ false) where
  abbrev Tried : Noted → Type 0
  Tried result = NoteTried told shown old.log new.log old.databases.kept x result

  still_open : (result : Noted) → Tried result → result ≢ DiskFault → is_shut new.log ≡ false
  still_open result tried other = not_true (is_shut new.log) (λ shut. ⊎_elim (λ was. absurd (cc)) other (tried.leaves.shuts.0 shut))

  pub shut_after : (result : Noted) → Tried result → ShutAfter (noted_fault result) (is_shut new.log)
  shut_after Done tried = still_open Done tried (λ e. cc)
  shut_after JournalFull tried = still_open JournalFull tried (λ e. cc)
  shut_after DiskFault tried = tried.leaves.shuts.1 (inr refl)
  shut_after Closed tried = still_open Closed tried (λ e. cc)
  shut_after NoMemory tried = still_open NoMemory tried (λ e. cc)

  pub not_closed : Tried Closed → ⊥
  not_closed tried = let c : is_shut old.log ≡ true = tried.leaves.closed.0 refl in cc

  abbrev Fails : Option Reply → Type 0
  Fails fault = DiskFails told (shown (log_disk old.log)) (shown (log_disk new.log)) (fault ≡ Some reply.DiskFault)

  pub fails_as : (result : Noted) → Tried result → Fails (noted_fault result)
  fails_as Done tried = DiskFails-as told (shown (log_disk old.log)) (shown (log_disk new.log)) (λ e. absurd (cc)) (λ e. absurd (cc)) tried.leaves.fails
  fails_as JournalFull tried = DiskFails-as told (shown (log_disk old.log)) (shown (log_disk new.log)) (λ e. absurd (cc)) (λ e. absurd (cc)) tried.leaves.fails
  fails_as DiskFault tried = DiskFails-as told (shown (log_disk old.log)) (shown (log_disk new.log)) (λ e. refl) (λ e. refl) tried.leaves.fails
  fails_as Closed tried = DiskFails-as told (shown (log_disk old.log)) (shown (log_disk new.log)) (λ e. absurd (cc)) (λ e. absurd (cc)) tried.leaves.fails
  fails_as NoMemory tried = DiskFails-as told (shown (log_disk old.log)) (shown (log_disk new.log)) (λ e. absurd (cc)) (λ e. absurd (cc)) tried.leaves.fails

  full_as : (result : Noted) → Tried result → noted_fault result ≡ Some reply.JournalFull → 2 ^ 31 < log_tail new.log + 6 + length (note_text x) + spare_after x
  full_as Done tried e = absurd (cc)
  full_as JournalFull tried e = tried.leaves.full refl
  full_as DiskFault tried e = absurd (cc)
  full_as Closed tried e = absurd (cc)
  full_as NoMemory tried e = absurd (cc)

  answers_as : (result : Noted) → Tried result → IsNoteFault (noted_fault result)
  answers_as Done tried = tt
  answers_as JournalFull tried = tt
  answers_as DiskFault tried = tt
  answers_as Closed tried = absurd (not_closed tried)
  answers_as NoMemory tried = tt

  done_of : (result : Noted) → noted_fault result ≡ None → result ≡ Done
  done_of Done e = refl
  done_of JournalFull e = absurd (cc)
  done_of DiskFault e = absurd (cc)
  done_of Closed e = absurd (cc)
  done_of NoMemory e = absurd (cc)

  pub goes_as : (result : Noted) (f : Free) (y : m.Note) → new.databases.kept ≡ kept_ended (noted_fault result) old.databases.kept x → NoteGoes shown new.log old.databases.kept f x y result
      → EndGoes shown new.log new.databases.kept f x y (noted_fault result)
  goes_as Done f y kept goes = subst (λ (k : Kept). Journaled shown new.log k (free_noted (note_size x) f)) (sym kept) goes
  goes_as JournalFull f y kept goes = (subst (λ (k : Kept). Journaled shown new.log k f) (sym kept) goes.0, goes.1)
  goes_as DiskFault f y kept goes = subst (λ (k : Kept). Journaled shown new.log k (free_failed (note_size x) y f)) (sym kept) goes
  goes_as Closed f y kept goes = goes
  goes_as NoMemory f y kept goes = subst (λ (k : Kept). Journaled shown new.log k f) (sym kept) goes

  pub ended : (result : Noted) (known : List Known) → Tried result → new.databases.kept ≡ kept_ended (noted_fault result) old.databases.kept x
      → new.databases.known ≡ known_ended (noted_fault result) old.databases.known known → KeepsViews old.databases.sets new.databases.sets
      → NoteEnds told shown old new x known (noted_fault result)
  ended result known tried kept knows views = record {
    kept = kept;
    knows = knows;
    views = views;
    answers = answers_as result tried;
    shut = shut_after result tried;
    fails = fails_as result tried;
    full = full_as result tried;
    any_moment = tried.any_moment;
    counts = λ tells troubled none holds may. tried.counts tells troubled (done_of result none) holds may;
    goes = λ tells may f journaled y is. goes_as result f y kept (tried.goes tells is_open may f journaled y is);
  }

  -- by what is answered
  pub ended_by : (fault : Option Reply) (result : Noted) (known : List Known) → fault ≡ noted_fault result → Tried result → new.databases.kept ≡ kept_ended (noted_fault result) old.databases.kept x
      → new.databases.known ≡ known_ended (noted_fault result) old.databases.known known → KeepsViews old.databases.sets new.databases.sets
      → NoteEnds told shown old new x known fault
  ended_by fault result known is tried kept knows views = subst (λ (f : Option Reply). NoteEnds told shown old new x known f) (sym is) (ended result known tried kept knows views)

-- ---- no memory was there, and nothing was tried

module _ {D : Type 0} {g : _} (told : DiskTold) (shown : D → DiskShown)
    (only_now : (disk : D) → told.tells → (image : List ℕ) → (shown disk).left_since (shown disk).moment image → (shown disk).may_leave image)
    (old new : Ledger D g) (x : Note) (is_open : is_shut old.log ≡ false) (same : new.log ≡ old.log)
    (rest : (k : Kept) → Holds shown old.log k → (image : List ℕ) → (shown (log_disk old.log)).may_leave image → LoadsAs image k (log_tail old.log + log_area old.log)) where
  abbrev d : DiskShown
  d = shown (log_disk old.log)

  pub rested : told.tells → Holds shown old.log old.databases.kept → LeavesOnly d d (LoadsUpTo old.databases.kept (log_tail old.log + log_area old.log) (x ∷ []))
  rested tells holds = record {
    later = omega arith;
    each = λ image left. inl (rest old.databases.kept holds image (only_now (log_disk old.log) tells image left));
    before = λ t image le left. inl left;
  }

  quiet : DiskFails told d d (Some reply.NoMemory ≡ Some reply.DiskFault)
  quiet = DiskFails-none told d (λ e. absurd (cc))

  pub unnoted : (known : List Known) → new.databases.kept ≡ old.databases.kept → new.databases.known ≡ old.databases.known → KeepsViews old.databases.sets new.databases.sets
      → NoteEnds told shown old new x known (Some reply.NoMemory)
  unnoted known kept knows views = record {
    kept = kept;
    knows = knows;
    views = views;
    answers = tt;
    shut = ap is_shut same ∙ is_open;
    fails = subst (λ (l : ClientLog D g). DiskFails told d (shown (log_disk l)) (Some reply.NoMemory ≡ Some reply.DiskFault)) (sym same) quiet;
    full = λ e. absurd (cc);
    any_moment = λ tells holds may.
        subst (λ (l : ClientLog D g). LeavesOnly d (shown (log_disk l)) (LoadsUpTo old.databases.kept (log_tail old.log + log_area old.log) (x ∷ []))) (sym same) (rested tells holds);
    counts = λ tells troubled none holds may. absurd (cc);
    goes = λ tells may f journaled y is.
        subst (λ (k : Kept). Journaled shown new.log k f) (sym kept) (subst (λ (l : ClientLog D g). Journaled shown l old.databases.kept f) (sym same) journaled);
  }

pub never_full : (result : Noted) → result ≢ JournalFull → noted_fault result ≡ Some reply.JournalFull → ⊥
never_full Done other e = absurd (cc)
never_full JournalFull other e = other refl
never_full DiskFault other e = absurd (cc)
never_full Closed other e = absurd (cc)
never_full NoMemory other e = absurd (cc)
