-- What a call notes, and what a crash at any moment of it leaves of the client's disk: what it held before the call, with the
-- first of the call's notes.
use Rattle.std.specs.Prelude.{◌≡◌, ◌⊎◌, ℕ, true, List, [], ◌∷◌, Option, Some, None}
use Rattle.bcv_base.specs.declared.id.Id16.{Id16}
use Rattle.bcv_base.specs.declared.log.Entry.{Entry}
use Rattle.bcv_clientlaws.specs.OtherParts.{Includes}
use Rattle.bcv_clientlog.specs.LogParts.{LoadsUpTo, is_shut, log_disk}
use Rattle.bcv_clientstate.specs.Journaled.{HoldsKept, Journaled, most_of}
use Rattle.bcv_clientstate.specs.Parts.{mine_of}
use Rattle.bcv_clientstate.specs.SeenClient.{Free}
use Rattle.bcv_databases.specs.Catalog.{Catalog}
use Rattle.bcv_databases.specs.Changes.{commit_note}
use Rattle.bcv_dbmap.specs.Honest.{GrewHonestly}
use Rattle.bcv_disk.specs.Crash.{LeavesOnly}
use Rattle.bcv_disk.specs.DiskShown.{DiskShown, DiskTold}
use Rattle.bcv_ledger.specs.declared.ledger.Ledger.{Ledger}
use Rattle.bcv_machine.specs.State as m
use Rattle.bcv_model.specs.declared.ask.Ask.{Ask}
use Rattle.bcv_model.specs.declared.ask.Ask.TheVariants as ask
use Rattle.bcv_model.specs.declared.ask.Commit.{Commit}
use Rattle.bcv_model.specs.declared.kept.Kept.{Kept}
use Rattle.bcv_model.specs.declared.kept.PendingPub.{PendingPub}
use Rattle.bcv_model.specs.declared.note.Note.{Note}
use Rattle.bcv_model.specs.declared.note.Note.TheVariants as note
use Rattle.bcv_model.specs.NoteRules.{Folds}
use Rattle.bcv_publisher.specs.StepNotes.{EndsOnce}
use Rattle.bcv_store.specs.StoreShown.{StoreShown, StoreTold}
use Rattle.bcv_tasks.specs.declared.publish_task.PublishTask.{PublishTask}
use Rattle.bcv_client.specs.ClientParts.{parts_of}
use Rattle.bcv_client.specs.Events.{StandsOver}
use Rattle.bcv_client.specs.PublicationOver.{StandsWith, mine_with}
use Rattle.bcv_client.specs.declared.client.Client.{Client}

-- ---- the notes of a call

-- no note, or one that is so
abbrev pub NoneOrOne : (Note → Type 0) → List Note → Type 0
NoneOrOne Is [] = Unit {0}
NoneOrOne Is (x ∷ []) = Is x
NoneOrOne Is (x ∷ y ∷ rest) = ⊥

-- a commit's: the first one of a known database, or one more
abbrev pub NotesOfCommit : Catalog → List ℕ → Commit → List Note → Type 0
NotesOfCommit c db commit notes = NoneOrOne (λ (x : Note). commit_note c db commit ≡ Some x) notes

-- a revert's
abbrev pub NotesOfRevert : List ℕ → List Note → Type 0
NotesOfRevert db notes = NoneOrOne (λ (x : Note). x ≡ note.Revert db) notes

-- those of a task's step, by what is pending before it: an intent and then its end, the intent alone, or none; where a publication
-- is pending already, its end or none
abbrev pub NotesOfStep : Option PendingPub → List Note → Type 0
NotesOfStep None [] = Unit {0}
NotesOfStep None (note.Intent p ∷ rest) = EndsOnce p.id rest
NotesOfStep None _ = ⊥
NotesOfStep (Some p) notes = EndsOnce p.id notes

-- an ask's, by what the client keeps and knows before it
abbrev pub NotesOfAsk : Catalog → Ask → List Note → Type 0
NotesOfAsk c (ask.Commit db commit) notes = NotesOfCommit c db commit notes
NotesOfAsk c (ask.Revert db) notes = NotesOfRevert db notes
NotesOfAsk c (ask.Step task) notes = NotesOfStep c.kept.pending notes
NotesOfAsk c _ notes = notes ≡ []

-- ---- what a crash leaves

-- the image holds what was kept, with or without a note that an earlier fault left in flight; or what was kept with the first of
-- these notes, with two of them, and so on
abbrev pub HoldsSince : Kept → ℕ → Option m.Note → List Note → List ℕ → Type 0
HoldsSince k most flight notes image = HoldsKept image k most flight ⊎ LoadsUpTo k most notes image

-- a crash at any moment of a call with these notes, each of which may stand after those before it, leaves such images
abbrev pub LeavesSince : {D : Type 0} {g : _} → DiskTold → (D → DiskShown) → Ledger D g → Ledger D g → List Note → Type 0
LeavesSince told shown old new notes =
    told.tells → (f : Free) → Journaled shown old.log old.databases.kept f
    → (end : Kept) → Folds old.databases.kept notes end
    → LeavesOnly (shown (log_disk old.log)) (shown (log_disk new.log))
    (HoldsSince old.databases.kept (most_of f) f.flight notes)

-- what a call notes: such notes, which may stand one after the other, and none after a fault of the disk; and what a crash at any
-- moment of the call leaves, whatever the store tells
pub record AnyMoment {D : Type 0} {g : _} (Are May : List Note → Type 0) (told : DiskTold) (shown : D → DiskShown)
    (old new : Ledger D g) : Type 0 where
  pub notes : List Note
  pub are : Are notes
  pub may : May notes
  pub shut : is_shut old.log ≡ true → notes ≡ []
  pub leaves : LeavesSince told shown old new notes

-- ---- where the notes may stand

-- wherever the client stands
abbrev pub MayStandHere : {D : Type 0} {g : _} → (D → DiskShown) → Client D g → List Note → Type 0
MayStandHere shown c notes =
    (log : List Entry) (f : Free) → StandsOver shown c log f → (end : Kept) × Folds c.ledger.databases.kept notes end

-- wherever the client stood over a log that others grow honestly, where its names are mine
abbrev pub MayStandOver : (List Entry → Free → Type 0) → List Id16 → DiskTold → StoreTold → StoreShown → StoreShown → Kept
    → List Note → Type 0
MayStandOver Stood own told store before after k notes =
    store.tells → told.tells → (mine : List Id16) (f : Free) → Stood before.log f → Includes mine own
    → GrewHonestly store.alone mine before.log after.log → (end : Kept) × Folds k notes end

-- ---- the calls

-- a call without a request
abbrev pub LocalMoments : {D : Type 0} {g : _} → (List Note → Type 0) → DiskTold → (D → DiskShown) → Client D g → Client D g
    → Type 0
LocalMoments Are told shown old new = AnyMoment Are (MayStandHere shown old) told shown old.ledger new.ledger

-- a call of a client
abbrev pub CallMoments : {D : Type 0} {g : _} → (List Note → Type 0) → DiskTold → (D → DiskShown) → StoreTold → StoreShown
    → StoreShown → Client D g → Client D g → Type 0
CallMoments Are told shown store before after old new =
    AnyMoment Are
    (MayStandOver (StandsOver shown old) (mine_of (parts_of old)) told store before after old.ledger.databases.kept)
    told shown old.ledger new.ledger

-- the step of a publishing task that was taken out
abbrev pub TaskMoments : {D : Type 0} {g : _} → DiskTold → (D → DiskShown) → StoreTold → StoreShown → StoreShown → Client D g
    → Client D g → ℕ → ℕ → ℕ → PublishTask → Type 0
TaskMoments told shown store before after old new n set taken t =
    AnyMoment (NotesOfStep old.ledger.databases.kept.pending)
    (MayStandOver (StandsWith shown old n set taken t) (mine_with old n set taken t) told store before after
    old.ledger.databases.kept)
    told shown old.ledger new.ledger
