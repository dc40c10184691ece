-- What a resolve finds of the pending publication, in the machine's words: the version that it was made as, or none.
use Rattle.std.specs.Prelude.{◌≡◌, ℕ, false, List, Some, None}
use Rattle.bcv_base.specs.declared.id.Id16.{Id16}
use Rattle.bcv_base.specs.declared.outcome.Outcome.{Outcome}
use Rattle.bcv_base.specs.declared.seen.Seen.{Seen}
use Rattle.bcv_base.specs.History.{Item}
use Rattle.bcv_base.specs.Versions.{versions_of}
use Rattle.bcv_dbmap.specs.Past.{has_version, last_own}
use Rattle.bcv_dbmap.specs.Sound.{Sound}
use Rattle.bcv_machine.specs.Resolve.{number_from}
use Rattle.bcv_model.specs.declared.kept.PendingPub.{PendingPub}
use Rattle.bcv_publish.specs.declared.resolved.Resolved.TheVariants as resolved
use Rattle.bcv_publish.specs.Resolve.{SoundResolveEnds}
use Rattle.bcv_clientstate.specs.Fits.{FitsPending}

-- a writer's last publication is found at its number
abbrev pub LastIsFound : Type 0
LastIsFound =
    (past : List Item) (writer id : Id16) (n : ℕ) → Sound past → last_own past writer ≡ Some (record { id = id; number = n })
    → number_from 1 id (versions_of past) ≡ Some n

-- an id that no version has is not found
abbrev pub FreshIsNotFound : Type 0
FreshIsNotFound = (past : List Item) (id : Id16) → has_version past id ≡ false → number_from 1 id (versions_of past) ≡ None

-- a resolve that answers a version is right
abbrev pub AtIsFound : Type 0
AtIsFound =
    (o : Outcome) (past : List Item) (seen : Seen) (writer : Id16) (p : PendingPub) (n : ℕ) → Sound past → SoundResolveEnds o past seen writer p.id (resolved.At n)
    → number_from 1 p.id (versions_of past) ≡ Some n

-- and so is one that answers that there is none
abbrev pub VoidedIsNotFound : Type 0
VoidedIsNotFound =
    (o : Outcome) (past : List Item) (seen : Seen) (writer : Id16) (p : PendingPub) → FitsPending past writer p → SoundResolveEnds o past seen writer p.id resolved.Voided
    → number_from 1 p.id (versions_of past) ≡ None
