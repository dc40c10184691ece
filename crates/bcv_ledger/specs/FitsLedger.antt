-- What of a client's fitting a log concerns its ledger, and that it stays when a note is kept.
use Rattle.std.specs.Prelude.{◌≡◌, ℕ, List, Option, Some, IfSome}
use Rattle.std.specs.List.{AllByRecursion}
use Rattle.bcv_base.specs.declared.id.Id16.{Id16}
use Rattle.bcv_base.specs.declared.manifest.Manifest.{Manifest}
use Rattle.bcv_base.specs.History.{Item}
use Rattle.bcv_base.specs.Keyed.{keyed, with_keyed, without_keyed}
use Rattle.bcv_databases.specs.Catalog.{known_name}
use Rattle.bcv_databases.specs.Changes.{base_of, note_over}
use Rattle.bcv_databases.specs.declared.known.Known.{Known}
use Rattle.bcv_dbmap.specs.Outlived.{IsPublished}
use Rattle.bcv_dbmap.specs.Sound.{Sound}
use Rattle.bcv_model.specs.declared.ask.Commit.{Commit}
use Rattle.bcv_model.specs.declared.kept.Kept.{Kept}
use Rattle.bcv_model.specs.declared.kept.Local.{Local}
use Rattle.bcv_model.specs.declared.kept.PendingPub.{PendingPub}
use Rattle.bcv_model.specs.declared.note.Note.{Note}
use Rattle.bcv_model.specs.declared.note.Note.TheVariants as note
use Rattle.bcv_model.specs.Notes.{after_note, kept_name}
use Rattle.bcv_clientstate.specs.BaseLaws.{FitsLocal}
use Rattle.bcv_clientstate.specs.Fits.{FitsKnown, FitsPending}
use Rattle.bcv_clientstate.specs.KnownLaws.{known_of}
use Rattle.bcv_clientstate.specs.SeenContainer.{HasBase}
use Rattle.bcv_ledger.specs.NoteEnds.{known_found}

-- the client's id is kept, each database stands on a base of the log, and what is pending was made or not; that names ascend, and
-- that no known database has commits, a ledger says of itself
pub record FitsLedger (past : List Item) (id : Id16) (k : Kept) (known : List Known) : Type 0 where
  pub named : k.me ≡ Some id
  pub locals : AllByRecursion (FitsLocal past) k.locals
  pub known_fit : AllByRecursion (FitsKnown past) known
  pub pending : IfSome k.pending (FitsPending past id)

-- ---- the client's own notes

abbrev pub CommitKeepsFit : Type 0
CommitKeepsFit =
    (past : List Item) (id : Id16) (k : Kept) (known : List Known) (db : List ℕ) (c : Commit) (x : Note) → FitsLedger past id k known
    → note_over db c (keyed kept_name db k.locals) (keyed known_name db known) ≡ Some x → FitsLedger past id (after_note k x) (without_keyed known_name db known)

abbrev pub RevertKeepsFit : Type 0
RevertKeepsFit =
    (past : List Item) (id : Id16) (k : Kept) (known : List Known) (db : List ℕ) (l : Local) → FitsLedger past id k known
    → keyed kept_name db k.locals ≡ Some l → FitsLedger past id (after_note k (note.Revert db)) (with_keyed known_name (base_of l) known)

-- ---- publications

abbrev pub IntentKeepsFit : Type 0
IntentKeepsFit =
    (past : List Item) (id : Id16) (k : Kept) (known : List Known) (x : PendingPub) → FitsLedger past id k known → FitsPending past id x
    → FitsLedger past id (after_note k (note.Intent x)) known

abbrev pub VoidKeepsFit : Type 0
VoidKeepsFit =
    (past : List Item) (id : Id16) (k : Kept) (known : List Known) (pub_id : Id16) → FitsLedger past id k known → FitsLedger past id (after_note k (note.Void pub_id)) known

-- what the pending publication uploaded is in the version of this number
abbrev pub IsUploadedAt : List Item → ℕ → Option PendingPub → Type 0
IsUploadedAt past number p = IfSome p (λ x. IfSome x.upload (λ u. HasBase past number u.block u.entry))

-- it was made, and the databases of its manifest are known
abbrev pub MadeKeepsFit : Type 0
MadeKeepsFit =
    (past : List Item) (id : Id16) (k : Kept) (known : List Known) (pub_id : Id16) (number : ℕ) (read : Manifest) → Sound past → IsPublished read past → FitsLedger past id k known
    → IsUploadedAt past number k.pending → FitsLedger past id (after_note k (note.Done pub_id number)) (known_of (after_note k (note.Done pub_id number)) read)

-- it was found to be made
abbrev pub ResolvedKeepsFit : Type 0
ResolvedKeepsFit =
    (past : List Item) (id : Id16) (k : Kept) (known : List Known) (pub_id : Id16) (number : ℕ) → FitsLedger past id k known → IsUploadedAt past number k.pending
    → FitsLedger past id (after_note k (note.Done pub_id number)) (known_found k pub_id number known)

abbrev pub PollKeepsFit : Type 0
PollKeepsFit =
    (past : List Item) (id : Id16) (k : Kept) (known : List Known) (read : Manifest) → Sound past → IsPublished read past → FitsLedger past id k known → FitsLedger past id k (known_of k read)
