-- What a step of a resolve does, at each of its exits.
use Rattle.std.proofs.Common.{◌≡◌, ◌≢◌, ℕ, Bool, false, List, [], ◌∷◌, Option, Some, None, refl, sym, ap, subst}
use Rattle.bcv_base.specs.declared.id.Id16.{Id16}
use Rattle.bcv_base.specs.declared.seen.Seen.{Seen}
use Rattle.bcv_base.specs.History.{history_of}
use Rattle.bcv_base.specs.Ids.{IsId}
use Rattle.bcv_clientlog.specs.LogParts.{LoadsUpTo, is_shut, log_disk}
use Rattle.bcv_databases.specs.declared.known.Known.{Known}
use Rattle.bcv_databases.specs.Sound.{AreDatabases, KeepsViews}
use Rattle.bcv_dbmap.specs.Honest.{GrewHonestly}
use Rattle.bcv_dbmap.specs.Sound.{IsSoundLog}
use Rattle.bcv_disk.specs.Calls.{DiskFails-as, DiskFails-none}
use Rattle.bcv_disk.specs.Crash.{LeavesOnly}
use Rattle.bcv_disk.specs.DiskCalls.{DiskFails}
use Rattle.bcv_disk.specs.DiskShown.{DiskShown, DiskTold}
use Rattle.bcv_model.specs.declared.kept.PendingPub.{PendingPub}
use Rattle.bcv_model.specs.declared.note.Note.{Note}
use Rattle.bcv_model.specs.declared.note.Note.TheVariants as note
use Rattle.bcv_model.specs.declared.reply.Reply.{Reply}
use Rattle.bcv_model.specs.declared.reply.Reply.TheVariants as reply
use Rattle.bcv_publish.specs.declared.resolved.Resolved.{Resolved}
use Rattle.bcv_publish.specs.declared.resolved.Resolved.TheVariants as resolved
use Rattle.bcv_publish.specs.Resolve.{ResolveSound, Resolves}
use Rattle.bcv_store.specs.StoreShown.{StoreShown, StoreTold}
use Rattle.bcv_clientstate.specs.Fits.{FitsSeen}
use Rattle.bcv_clientstate.specs.Parts.{Parts, with_ledger}
use Rattle.bcv_clientstate.specs.Journaled.{most_of}
use Rattle.bcv_clientlaws.proofs.ResolveSteps.{resolve_meets_fault}
use Rattle.bcv_ledger.specs.declared.ledger.Ledger.{Ledger}
use Rattle.bcv_ledger.specs.LedgerNotes.{parts_in}
use Rattle.bcv_ledger.specs.NoteEnds.{NoteEnds, ShutAfter, known_found}
use Rattle.bcv_publisher.specs.ResolveStep.{EndsResolve, NeverBad, ResolveLeaves, ResolveStep, ResolveSteps}
use Rattle.bcv_publisher.specs.Settles.{reply_by}
use Rattle.bcv_publisher.specs.StepNotes.{EndsPending}
use Rattle.bcv_publisher.proofs.Grown.{same_views}
use Rattle.bcv_publisher.proofs.Moments.{leaves_kept, leaves_noted}
use Rattle.bcv_publisher.proofs.ResolveEnds.{found_fails, found_says, not_bad, unnoted, voided_fails, voided_says}

module _ {D : Type 0} {g : _} (told : DiskTold) (shown : D → DiskShown) (store : StoreTold) (before after : StoreShown) (old new : Ledger D g) (writer : Id16) (s : Seen) (x : PendingPub)
    (is_pending : old.databases.kept.pending ≡ Some x) (is_id : IsId x.id) (is_open : is_shut old.log ≡ false) (holds : AreDatabases new.databases)
    (only_now : (disk : D) → told.tells → (image : List ℕ) → (shown disk).left_since (shown disk).moment image → (shown disk).may_leave image) where
  -- what was found, for a client of this writer
  finds_as : (answer : Resolved) → Resolves store before after s writer x.id answer → store.tells → (mine : List Id16) → IsSoundLog before.log → GrewHonestly store.alone mine before.log after.log
      → (p : Parts) → p.id ≡ writer → ResolveSound store mine before after s p.id x.id answer
  finds_as answer resolves tells mine sound honest p signed = subst (λ (i : Id16). ResolveSound store mine before after s i x.id answer) (sym signed) (resolves.sound tells mine sound honest)

  -- ---- a note was tried

  module _ (answer : Resolved) (resolves : Resolves store before after s writer x.id answer) (z : Note) (is_end : EndsPending x.id z) (known : List Known) (fault : Option Reply)
      (ends : NoteEnds told shown old new z known fault) where
    -- and this is answered, which is no fault of the store
    noted : (r : Reply) → ResolveLeaves old new x.id r → ShutAfter (Some r) (is_shut new.log) → (r ≡ reply.DiskFault → fault ≡ Some reply.DiskFault)
        → (fault ≡ Some reply.DiskFault → r ≡ reply.DiskFault) → r ≢ reply.StoreFault → ((at : ℕ) → r ≢ reply.BadManifest at)
        → (store.tells → told.tells → ResolveSteps shown store before after old new (z ∷ []) writer s r)
        → ResolveStep told shown store before after old new writer s r
    noted r leaves closed there back not_store good machine = record {
      pending = x;
      is_pending = is_pending;
      leaves = leaves;
      views = ends.views;
      shut = closed;
      disk = DiskFails-as told (shown (log_disk old.log)) (shown (log_disk new.log)) there back ends.fails;
      taken = resolves.taken;
      later = resolves.later;
      failed = λ e. absurd (not_store e);
      never_bad = λ tells mine sound honest fits at e. good at e;
      notes = z ∷ [];
      ends = is_end;
      any_moment = λ tells end folds f journaled.
          leaves_noted shown old.log new.log old.databases.kept (z ∷ []) f journaled (ends.any_moment tells (journaled.settled is_open) folds.0);
      machine = machine;
    }

  -- a note that failed
  faulted : (answer : Resolved) → Resolves store before after s writer x.id answer → (z : Note) → EndsPending x.id z → (known : List Known) (fault : Reply)
      → NoteEnds told shown old new z known (Some fault) → fault ≢ reply.JournalFull
      → (store.tells → told.tells → ResolveSteps shown store before after old new (z ∷ []) writer s fault) → ResolveStep told shown store before after old new writer s fault
  faulted answer resolves z is_end known reply.DiskFault ends room machine =
      noted answer resolves z is_end known (Some reply.DiskFault) ends reply.DiskFault (ends.kept, ends.knows) ends.shut (λ e. refl) (λ e. refl) (λ e. cc) (λ at e. cc) machine
  faulted answer resolves z is_end known reply.NoMemory ends room machine =
      noted answer resolves z is_end known (Some reply.NoMemory) ends reply.NoMemory (ends.kept, ends.knows) ends.shut (λ e. absurd (cc)) (λ e. absurd (cc)) (λ e. cc) (λ at e. cc) machine
  faulted answer resolves z is_end known reply.JournalFull ends room machine = absurd (room refl)
  faulted answer resolves z is_end known _ ends room machine = absurd ends.answers

  found : (n : ℕ) → Resolves store before after s writer x.id (resolved.At n) → (fault : Option Reply)
      → NoteEnds told shown old new (note.Done x.id n) (known_found old.databases.kept x.id n old.databases.known) fault → fault ≢ Some reply.JournalFull
      → ResolveStep told shown store before after old new writer s (reply_by fault (reply.Resolved n))
  found n resolves None ends room =
      noted (resolved.At n) resolves (note.Done x.id n) refl (known_found old.databases.kept x.id n old.databases.known) None ends (reply.Resolved n) (ends.kept, ends.knows) ends.shut
      (λ e. absurd (cc)) (λ e. absurd (cc)) (λ e. cc) (λ at e. cc)
      (λ store_tells tells p entries mine sound fits quiet signed sees all honest.
      found_says told shown store mine before after old new s p entries x is_open is_id tells sound fits quiet all is_pending n
      (finds_as (resolved.At n) resolves store_tells mine sound honest p signed) holds ends)
  found n resolves (Some fault) ends room =
      faulted (resolved.At n) resolves (note.Done x.id n) refl (known_found old.databases.kept x.id n old.databases.known) fault ends (λ e. room (ap Some e))
      (λ store_tells tells p entries mine sound fits quiet signed sees all honest.
      found_fails told shown store mine before after old new s p entries x is_open is_id tells sound fits quiet all is_pending n
      (finds_as (resolved.At n) resolves store_tells mine sound honest p signed) fault ends (λ e. room (ap Some e)))

  voided : Resolves store before after s writer x.id resolved.Voided → (fault : Option Reply) → NoteEnds told shown old new (note.Void x.id) old.databases.known fault
      → fault ≢ Some reply.JournalFull → ResolveStep told shown store before after old new writer s (reply_by fault reply.Voided)
  voided resolves None ends room =
      noted resolved.Voided resolves (note.Void x.id) refl old.databases.known None ends reply.Voided (ends.kept, ends.knows) ends.shut
      (λ e. absurd (cc)) (λ e. absurd (cc)) (λ e. cc) (λ at e. cc)
      (λ store_tells tells p entries mine sound fits quiet signed sees all honest.
      voided_says told shown store mine before after old new s p entries x is_open is_id tells sound fits quiet all is_pending
      (finds_as resolved.Voided resolves store_tells mine sound honest p signed) holds ends)
  voided resolves (Some fault) ends room =
      faulted resolved.Voided resolves (note.Void x.id) refl old.databases.known fault ends (λ e. room (ap Some e))
      (λ store_tells tells p entries mine sound fits quiet signed sees all honest.
      voided_fails told shown store mine before after old new s p entries x is_open is_id tells sound fits quiet all is_pending
      (finds_as resolved.Voided resolves store_tells mine sound honest p signed) fault ends (λ e. room (ap Some e)))

  -- ---- nothing was noted

  module _ (answer : Resolved) (resolves : Resolves store before after s writer x.id answer) (same : new ≡ old) where
    stays : (r : Reply) → ResolveLeaves old old x.id r → ShutAfter (Some r) false → r ≢ reply.DiskFault → (r ≡ reply.StoreFault → answer ≡ resolved.StoreFault)
        → (store.tells → NeverBad store before after s r) → (store.tells → told.tells → ResolveSteps shown store before after old new [] writer s r)
        → ResolveStep told shown store before after old new writer s r
    stays r leaves closed no_fault failed good machine = record {
      pending = x;
      is_pending = is_pending;
      leaves = subst (λ (l : Ledger D g). ResolveLeaves old l x.id r) (sym same) leaves;
      views = subst (λ (l : Ledger D g). KeepsViews old.databases.sets l.databases.sets) (sym same) (same_views old.databases.sets);
      shut = subst (λ (l : Ledger D g). ShutAfter (Some r) (is_shut l.log)) (sym same) (subst (λ (b : Bool). ShutAfter (Some r) b) (sym is_open) closed);
      disk =
          subst (λ (l : Ledger D g). DiskFails told (shown (log_disk old.log)) (shown (log_disk l.log)) (r ≡ reply.DiskFault)) (sym same)
          (DiskFails-none told (shown (log_disk old.log)) no_fault);
      taken = resolves.taken;
      later = resolves.later;
      failed = λ e. resolves.failed (failed e);
      never_bad = good;
      notes = [];
      ends = tt;
      any_moment = λ tells end folds f journaled.
          subst (λ (l : Ledger D g). LeavesOnly (shown (log_disk old.log)) (shown (log_disk l.log)) (LoadsUpTo old.databases.kept (most_of f) [])) (sym same)
          (leaves_kept told shown tells only_now old.log old.databases.kept f is_open journaled);
      machine = machine;
    }

  store_fault : Resolves store before after s writer x.id resolved.StoreFault → new ≡ old → ResolveStep told shown store before after old new writer s reply.StoreFault
  store_fault resolves same =
      stays resolved.StoreFault resolves same reply.StoreFault refl refl (λ e. cc) (λ e. refl) (λ tells mine sound honest fits at e. cc)
      (λ store_tells tells p entries mine sound fits quiet signed sees all honest.
      let finds = finds_as resolved.StoreFault resolves store_tells mine sound honest p signed in
      unnoted told shown store mine before after old new s p entries x is_open is_id tells sound fits quiet all is_pending resolved.StoreFault finds reply.StoreFault same
      (λ memory moment f. resolve_meets_fault moment (history_of after.log) (with_ledger (parts_in old) p) f finds.outcome (λ e. finds.ends e)))

  out_of_memory : Resolves store before after s writer x.id resolved.NoMemory → new ≡ old → ResolveStep told shown store before after old new writer s reply.NoMemory
  out_of_memory resolves same =
      stays resolved.NoMemory resolves same reply.NoMemory (refl, refl) refl (λ e. cc) (λ e. absurd (cc)) (λ tells mine sound honest fits at e. cc)
      (λ store_tells tells p entries mine sound fits quiet signed sees all honest.
      unnoted told shown store mine before after old new s p entries x is_open is_id tells sound fits quiet all is_pending resolved.NoMemory
      (finds_as resolved.NoMemory resolves store_tells mine sound honest p signed) reply.NoMemory same
      (λ memory moment f. absurd (memory refl)))

  bad_manifest : (at : ℕ) → Resolves store before after s writer x.id (resolved.BadManifest at) → new ≡ old
      → ResolveStep told shown store before after old new writer s (reply.BadManifest at)
  bad_manifest at resolves same =
      stays (resolved.BadManifest at) resolves same (reply.BadManifest at) refl refl (λ e. cc) (λ e. absurd (cc))
      (λ tells mine sound honest fits k e. not_bad store mine before after s writer x.id at (resolves.sound tells mine sound honest) fits)
      (λ store_tells tells p entries mine sound fits quiet signed sees all honest.
      absurd (not_bad store mine before after s writer x.id at (resolves.sound store_tells mine sound honest)
      (subst (λ (y : Seen). FitsSeen (history_of before.log) y) sees fits.seen)))

  -- ---- every answer

  pub resolves_to : (answer : Resolved) (result : Reply) → Resolves store before after s writer x.id answer → EndsResolve told shown old new x.id answer result
      → ResolveStep told shown store before after old new writer s result
  resolves_to (resolved.At n) result resolves h =
      subst (λ (r : Reply). ResolveStep told shown store before after old new writer s r) (sym h.notes.is) (found n resolves h.notes.fault h.notes.ends h.notes.room)
  resolves_to resolved.Voided result resolves h =
      subst (λ (r : Reply). ResolveStep told shown store before after old new writer s r) (sym h.is) (voided resolves h.fault h.ends h.room)
  resolves_to (resolved.BadManifest at) result resolves h =
      subst (λ (r : Reply). ResolveStep told shown store before after old new writer s r) (sym h.1) (bad_manifest at resolves h.0)
  resolves_to resolved.StoreFault result resolves h =
      subst (λ (r : Reply). ResolveStep told shown store before after old new writer s r) (sym h.1) (store_fault resolves h.0)
  resolves_to resolved.NoMemory result resolves h =
      subst (λ (r : Reply). ResolveStep told shown store before after old new writer s r) (sym h.1) (out_of_memory resolves h.0)
