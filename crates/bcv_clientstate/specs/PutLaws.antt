-- A publication in the machine's words: the log with its manifest stands for the container with one version more.
use Rattle.std.specs.Prelude.{◌≡◌, ℕ, List, [], ◌∷◌, ◌++◌, Some, None}
use Rattle.bcv_base.specs.declared.id.Id16.{Id16}
use Rattle.bcv_base.specs.declared.manifest.Manifest.{Manifest}
use Rattle.bcv_base.specs.History.{Item, Published, last_of}
use Rattle.bcv_base.specs.Version.{Version}
use Rattle.bcv_base.specs.Versions.{version_of, versions_of}
use Rattle.bcv_dbmap.specs.declared.plan.EditPlan.{EditPlan}
use Rattle.bcv_dbmap.specs.Applied.{applied, edit_of, first_manifest}
use Rattle.bcv_dbmap.specs.Sound.{Sound}
use Rattle.bcv_machine.specs.ManifestPut.{sized_by, version_next}
use Rattle.bcv_machine.specs.State.{Container, Creating, last_version, version_count}
use Rattle.bcv_clientstate.specs.SeenContainer.{container_of}

-- the container with one version more
abbrev pub with_version : Version → Container → Container
with_version v c = record c { versions = c.versions ++ v ∷ [] }

-- the last manifest is the container's last version, at its number
pub record IsLastVersion (moment : ℕ) (past : List Item) (m : Manifest) : Type 0 where
  pub version : last_version (container_of moment past) ≡ Some (version_of past m)
  pub number : version_count (container_of moment past) ≡ m.number

abbrev pub LastIsLastVersion : Type 0
LastIsLastVersion = (moment : ℕ) (past : List Item) (m : Manifest) → Sound past → last_of past ≡ Some m → IsLastVersion moment past m

-- without a manifest there is no version
abbrev pub NoneIsNoVersion : Type 0
NoneIsNoVersion = (moment : ℕ) (past : List Item) → Sound past → last_of past ≡ None → versions_of past ≡ []

-- what a plan makes of the last manifest is the machine's edit of its last version
pub record IsEditMade (moment : ℕ) (past : List Item) (old : Manifest) (plan : EditPlan) (id writer : Id16) : Type 0 where
  pub version : Version
  pub next : version_next (container_of moment past) id (Some (edit_of past plan)) (last_version (container_of moment past)) ≡ Some version
  pub after : container_of moment (Published (applied old plan id writer moment) ∷ past) ≡ with_version version (container_of moment past)

abbrev pub PutIsTheEdit : Type 0
PutIsTheEdit =
    (moment : ℕ) (past : List Item) (old : Manifest) (plan : EditPlan) (id writer : Id16) → Sound past → last_of past ≡ Some old
    → IsEditMade moment past old plan id writer

-- a first manifest is the machine's first version, with the block size and retention that the create gave
pub record IsFirstMade (moment : ℕ) (past : List Item) (block retention : ℕ) (id writer : Id16) : Type 0 where
  pub version : Version
  pub next : version_next (container_of moment past) id None (last_version (container_of moment past)) ≡ Some version
  pub after :
      container_of moment (Published (first_manifest block retention id writer moment) ∷ past)
      ≡ with_version version (sized_by (Creating block retention) (container_of moment past))

abbrev pub CreateIsFirst : Type 0
CreateIsFirst =
    (moment : ℕ) (past : List Item) (block retention : ℕ) (id writer : Id16) → Sound past → last_of past ≡ None → IsFirstMade moment past block retention id writer
