-- The step of a resolve: what became of the pending publication is looked up and noted.
use Rattle.std.specs.Prelude.{◌≡◌, ◌≢◌, ◌≤◌, ◌<◌, ◌^◌, ℕ, false, List, [], Option, Some}
use Rattle.bcv_base.specs.declared.id.Id16.{Id16}
use Rattle.bcv_base.specs.declared.outcome.Outcome.{Outcome}
use Rattle.bcv_base.specs.declared.seen.Seen.{Seen}
use Rattle.bcv_base.specs.Faults.{Rose}
use Rattle.bcv_base.specs.History.{history_of}
use Rattle.bcv_cache.specs.Entry as cache
use Rattle.bcv_clientlog.specs.LogParts.{is_shut, log_disk}
use Rattle.bcv_dbmap.specs.Honest.{GrewHonestly}
use Rattle.bcv_dbmap.specs.RequestGrowth.{RequestGrowth}
use Rattle.bcv_dbmap.specs.Sound.{IsSoundLog}
use Rattle.bcv_disk.specs.DiskCalls.{DiskFails}
use Rattle.bcv_disk.specs.DiskShown.{DiskShown, DiskTold}
use Rattle.bcv_machine.specs.Resolve.{Resolves}
use Rattle.bcv_model.specs.declared.kept.Kept.{Kept}
use Rattle.bcv_model.specs.declared.kept.PendingPub.{PendingPub}
use Rattle.bcv_model.specs.declared.note.Note.{Note}
use Rattle.bcv_model.specs.declared.note.Note.TheVariants as note
use Rattle.bcv_model.specs.declared.reply.Reply.{Reply}
use Rattle.bcv_model.specs.declared.reply.Reply.TheVariants as reply
use Rattle.bcv_model.specs.NoteRules.{Folds}
use Rattle.bcv_model.specs.Notes.{after_note}
use Rattle.bcv_publish.specs.declared.resolved.Resolved.{Resolved}
use Rattle.bcv_publish.specs.declared.resolved.Resolved.TheVariants as resolved
use Rattle.bcv_publish.specs.Request.{TakesOutcome}
use Rattle.bcv_store.specs.Plans.{next_of}
use Rattle.bcv_store.specs.StoreShown.{StoreShown, StoreTold}
use Rattle.bcv_databases.specs.declared.known.Known.{Known}
use Rattle.bcv_databases.specs.Sound.{KeepsViews}
use Rattle.bcv_clientstate.specs.Fits.{Fits, FitsSeen}
use Rattle.bcv_clientstate.specs.Journaled.{Journaled}
use Rattle.bcv_clientstate.specs.PartRefusals.{runs_publication}
use Rattle.bcv_clientstate.specs.Parts.{Parts, mine_of, with_ledger}
use Rattle.bcv_clientstate.specs.SeenClient.{Free, seen_up, side_of}
use Rattle.bcv_clientlaws.specs.OtherParts.{Includes}
use Rattle.bcv_ledger.specs.declared.ledger.Ledger.{Ledger}
use Rattle.bcv_ledger.specs.LedgerNotes.{parts_in}
use Rattle.bcv_ledger.specs.NoteEnds.{NoteEnds, ShutAfter, known_found}
use Rattle.bcv_publisher.specs.NotesFit.{FoldsFit}
use Rattle.bcv_publisher.specs.PutStep.{Armed, Keeps}
use Rattle.bcv_publisher.specs.Settles.{reply_by}
use Rattle.bcv_publisher.specs.StepNotes.{EndsOnce, LeavesNotes}

-- ---- what a step leaves, over every store and disk

-- what is kept and known, by what is answered
abbrev pub ResolveLeaves : {D : Type 0} {g : _} → Ledger D g → Ledger D g → Id16 → Reply → Type 0
ResolveLeaves old new id (reply.Resolved n) =
    Keeps new (after_note old.databases.kept (note.Done id n)) (known_found old.databases.kept id n old.databases.known)
ResolveLeaves old new id reply.Voided = Keeps new (after_note old.databases.kept (note.Void id)) old.databases.known
ResolveLeaves old new id (reply.BadManifest at) = new ≡ old
ResolveLeaves old new id reply.StoreFault = new ≡ old
ResolveLeaves old new id reply.DiskFault = Keeps new old.databases.kept old.databases.known
ResolveLeaves old new id reply.NoMemory = Keeps new old.databases.kept old.databases.known
ResolveLeaves old new id _ = ⊥

-- ---- over a store and a disk that tell

-- the step over a sound log: how the log grew, which outcome its request had, that its note may stand, that whichever of it a
-- crash leaves fits, that the client fits afterwards, and what the machine says, from the side over what others appended to the side over it
pub record ResolveSays {D : Type 0} {g : _} (shown : D → DiskShown) (store : StoreTold) (mine : List Id16)
    (before after : StoreShown) (old new : Ledger D g) (notes : List Note) (p : Parts) (entries : List cache.Entry)
    (r : Reply) : Type 0 where
  pub growth : RequestGrowth store.alone mine before.log after.log
  pub no_own : growth.own ≡ []
  pub request : Outcome
  pub planned : store.plans → request ≡ next_of before.plan
  pub may : (end : Kept) × Folds old.databases.kept notes end
  pub left : FoldsFit after.log p.id old.databases.kept notes
  pub fits : Fits (with_ledger (parts_in new) p) entries after.log
  pub steps : (f : Free) → Journaled shown old.log old.databases.kept f → Armed r f
      → (free : Free) × Journaled shown new.log new.databases.kept free
      × (r ≢ reply.NoMemory → (moment : ℕ)
      → Resolves (side_of moment (history_of after.log) (with_ledger (parts_in old) p) f)
      (seen_up (history_of after.log) (with_ledger (parts_in old) p)) request r
      (side_of moment (history_of after.log) (with_ledger (parts_in new) p) free))

-- the step, for each client of this writer that fits a sound log which others grow honestly, while no task publishes
abbrev pub ResolveSteps : {D : Type 0} {g : _} → (D → DiskShown) → StoreTold → StoreShown → StoreShown → Ledger D g → Ledger D g
    → List Note → Id16 → Seen → Reply → Type 0
ResolveSteps shown store before after old new notes writer seen r =
    (p : Parts) (entries : List cache.Entry) (mine : List Id16) → IsSoundLog before.log
    → Fits (with_ledger (parts_in old) p) entries before.log → runs_publication p ≡ false → p.id ≡ writer → p.seen ≡ seen
    → Includes mine (mine_of (with_ledger (parts_in old) p)) → GrewHonestly store.alone mine before.log after.log
    → ResolveSays shown store mine before after old new notes p entries r

-- over a sound log of which this was seen no manifest is bad
abbrev pub NeverBad : StoreTold → StoreShown → StoreShown → Seen → Reply → Type 0
NeverBad store before after seen r =
    (mine : List Id16) → IsSoundLog before.log → GrewHonestly store.alone mine before.log after.log
    → FitsSeen (history_of before.log) seen → (at : ℕ) → r ≢ reply.BadManifest at

-- ---- the whole

-- what a step of a resolve does
pub record ResolveStep {D : Type 0} {g : _} (told : DiskTold) (shown : D → DiskShown) (store : StoreTold)
    (before after : StoreShown) (old new : Ledger D g) (writer : Id16) (seen : Seen) (r : Reply) : Type 0 where
  pub pending : PendingPub
  pub is_pending : old.databases.kept.pending ≡ Some pending
  pub leaves : ResolveLeaves old new pending.id r
  pub views : KeepsViews old.databases.sets new.databases.sets
  -- the journal is closed exactly after a fault of the disk
  pub shut : ShutAfter (Some r) (is_shut new.log)
  pub disk : DiskFails told (shown (log_disk old.log)) (shown (log_disk new.log)) (r ≡ reply.DiskFault)
  pub taken : TakesOutcome store before after
  pub later : before.faults ≤ after.faults
  pub failed : r ≡ reply.StoreFault → Rose before.faults after.faults
  pub never_bad : store.tells → NeverBad store before after seen r
  -- what is noted, and what a crash at any moment leaves of it, where it may stand
  pub notes : List Note
  pub ends : EndsOnce pending.id notes
  pub any_moment : told.tells → (end : Kept) → Folds old.databases.kept notes end
      → LeavesNotes shown old.log new.log old.databases.kept notes
  pub machine : store.tells → told.tells → ResolveSteps shown store before after old new notes writer seen r

-- ---- the parts of a step, apart from the store

-- a note of the end was tried, after which this is answered
pub record NotesEnd {D : Type 0} {g : _} (told : DiskTold) (shown : D → DiskShown) (old new : Ledger D g) (x : Note)
    (known : List Known) (r result : Reply) : Type 0 where
  pub fault : Option Reply
  pub ends : NoteEnds told shown old new x known fault
  pub room : fault ≢ Some reply.JournalFull
  pub is : result ≡ reply_by fault r

-- it was made, and done is noted
pub record FindsMade {D : Type 0} {g : _} (told : DiskTold) (shown : D → DiskShown) (old new : Ledger D g) (id : Id16) (n : ℕ)
    (result : Reply) : Type 0 where
  pub notes : NotesEnd told shown old new (note.Done id n) (known_found old.databases.kept id n old.databases.known) (reply.Resolved n) result
  pub number : n < 2 ^ 64

-- what is noted of what a resolve found
abbrev pub EndsResolve : {D : Type 0} {g : _} → DiskTold → (D → DiskShown) → Ledger D g → Ledger D g → Id16 → Resolved → Reply → Type 0
EndsResolve told shown old new id (resolved.At n) result = FindsMade told shown old new id n result
EndsResolve told shown old new id resolved.Voided result =
    NotesEnd told shown old new (note.Void id) old.databases.known reply.Voided result
EndsResolve told shown old new id (resolved.BadManifest at) result = (new ≡ old) × (result ≡ reply.BadManifest at)
EndsResolve told shown old new id resolved.StoreFault result = (new ≡ old) × (result ≡ reply.StoreFault)
EndsResolve told shown old new id resolved.NoMemory result = (new ≡ old) × (result ≡ reply.NoMemory)
