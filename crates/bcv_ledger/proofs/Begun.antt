-- How a publication begins.
use Rattle.std.proofs.Common.{◌≡◌, ◌+◌, ℕ, true, false, List, Option, Some, None, is_some, ap, refl, sym, ◌∙◌, subst, arith}
use Rattle.bcv_clientlog.specs.LogParts.{Holds, LoadsAs, is_shut, log_area, log_disk, log_tail}
use Rattle.bcv_disk.specs.Calls.{DiskFails-none}
use Rattle.bcv_disk.specs.DiskShown.{DiskShown, DiskTold}
use Rattle.bcv_machine.specs.State as m
use Rattle.bcv_model.specs.declared.kept.Kept.{Kept}
use Rattle.bcv_model.specs.declared.kept.PendingPub.{PendingPub}
use Rattle.bcv_model.specs.declared.note.Note.TheVariants as note
use Rattle.bcv_model.specs.declared.reply.Reply.{Reply}
use Rattle.bcv_model.specs.declared.reply.Reply.TheVariants as reply
use Rattle.bcv_clientstate.specs.Journaled.{Journaled}
use Rattle.bcv_clientstate.specs.SeenClient.{Free}
use Rattle.bcv_clientstate.specs.SeenKept.{seen_pending}
use Rattle.bcv_ledger.specs.Begins.{BeginGoes, Begins, WaitsFor, free_intended, kept_begun}
use Rattle.bcv_ledger.specs.NoteEnds.{EndGoes, NoteEnds, kept_ended}
use Rattle.bcv_ledger.specs.declared.ledger.Ledger.{Ledger}
use Rattle.bcv_ledger.proofs.NotesEnded.{known_kept, rested, same_views}

pub none_is : (o : Option PendingPub) → is_some o ≡ false → o ≡ None
none_is None e = refl
none_is (Some x) e = absurd (cc)

-- ---- nothing was pending

kept_as : (fault : Option Reply) (k : Kept) (x : PendingPub) → kept_ended fault k (note.Intent x) ≡ kept_begun fault k x
kept_as None k x = refl
kept_as (Some fault) k x = refl

module _ {D : Type 0} {g : _} (shown : D → DiskShown) (new : Ledger D g) (x : PendingPub) (f : Free) where
  goes_as : (before : Option PendingPub) (fault : Option Reply) → before ≡ None → EndGoes shown new.log new.databases.kept f (note.Intent x) (m.Intending (seen_pending x)) fault
      → BeginGoes shown new.log new.databases.kept before x f fault
  goes_as (Some y) fault none goes = absurd (cc)
  goes_as None None none goes = goes
  goes_as None (Some reply.JournalFull) none goes = (refl, goes.0, goes.1)
  goes_as None (Some reply.DiskFault) none goes = (refl, goes)
  goes_as None (Some reply.NoMemory) none goes = (refl, goes)
  goes_as None (Some _) none goes = absurd goes

module _ {D : Type 0} {g : _} (told : DiskTold) (shown : D → DiskShown) (old new : Ledger D g) (x : PendingPub) where
  pub begun : (fault : Option Reply) → is_some old.databases.kept.pending ≡ false → NoteEnds told shown old new (note.Intent x) old.databases.known fault → Begins told shown old new x fault
  begun fault free ends =
      let none : old.databases.kept.pending ≡ None = none_is old.databases.kept.pending free in
      record {
        kept = ends.kept ∙ kept_as fault old.databases.kept x;
        known = ends.knows ∙ known_kept fault old.databases.known;
        views = ends.views;
        before = λ some. absurd (cc);
        answers = ends.answers;
        shut = ends.shut;
        fails = ends.fails;
        full = λ e. let lt = ends.full e in omega (arith, lt);
        any_moment = λ tells holds may. ends.any_moment tells holds (may none);
        counts = λ tells troubled is free holds may. ends.counts tells troubled is holds (may none);
        goes = λ tells may f journaled. goes_as shown new x f old.databases.kept.pending fault none (ends.goes tells (may none) f journaled (m.Intending (seen_pending x)) refl);
      }

-- ---- it was pending already

module _ {D : Type 0} {g : _} (told : DiskTold) (shown : D → DiskShown)
    (only_now : (disk : D) → told.tells → (image : List ℕ) → (shown disk).left_since (shown disk).moment image → (shown disk).may_leave image)
    (old : Ledger D g) (x : PendingPub) (is_open : is_shut old.log ≡ false)
    (rest : (k : Kept) → Holds shown old.log k → (image : List ℕ) → (shown (log_disk old.log)).may_leave image → LoadsAs image k (log_tail old.log + log_area old.log)) where
  begun_as : (o : Option PendingPub) → old.databases.kept.pending ≡ o → is_some o ≡ true → WaitsFor o x → Begins told shown old old x None
  begun_as None is some waits = absurd (cc)
  begun_as (Some y) is some waits = record {
    kept = ap (λ (o : Option PendingPub). record old.databases.kept { pending = o }) (is ∙ ap Some waits);
    known = refl;
    views = same_views old.databases.sets;
    before = λ some. refl;
    answers = tt;
    shut = is_open;
    fails = DiskFails-none told (shown (log_disk old.log)) (λ e. absurd (cc));
    full = λ e. absurd (cc);
    any_moment = λ tells holds may. rested told shown only_now old old (note.Intent x) is_open refl rest tells holds;
    counts = λ tells troubled done free holds may. absurd (cc);
    goes = λ tells may f journaled. subst (λ (o : Option PendingPub). Journaled shown old.log old.databases.kept (free_intended o x f)) (sym is) journaled;
  }

  pub begun_before : is_some old.databases.kept.pending ≡ true → WaitsFor old.databases.kept.pending x → Begins told shown old old x None
  begun_before some waits = begun_as old.databases.kept.pending refl some waits
