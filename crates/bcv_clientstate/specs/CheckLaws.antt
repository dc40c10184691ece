-- What a publication's get finds, in the machine's words: the edit's first fault over the last manifest is the machine's over
-- the last version.
use Rattle.std.specs.Prelude.{◌≡◌, ◌≤◌, ℕ, true, List, length, Some, None}
use Rattle.bcv_base.specs.declared.id.Id16.{Id16}
use Rattle.bcv_base.specs.declared.manifest.Manifest.{Manifest}
use Rattle.bcv_base.specs.History.{Item, last_of}
use Rattle.bcv_base.specs.ManifestRules.{blocks_needed}
use Rattle.bcv_base.specs.Names.{is_name}
use Rattle.bcv_base.specs.SizeLimits.{most_blocks}
use Rattle.bcv_base.specs.Version.{Database}
use Rattle.bcv_dbmap.specs.declared.fault.EditFault.{EditFault}
use Rattle.bcv_dbmap.specs.declared.fault.EditFault.TheVariants as fault
use Rattle.bcv_dbmap.specs.declared.plan.EditPlan.{EditPlan}
use Rattle.bcv_dbmap.specs.declared.plan.EditPlan.TheVariants as edit
use Rattle.bcv_dbmap.specs.Checked.{checked}
use Rattle.bcv_dbmap.specs.Sound.{Sound}
use Rattle.bcv_machine.specs.ManifestGet.{CanPublish, IsFound}
use Rattle.bcv_machine.specs.State as m
use Rattle.bcv_model.specs.declared.reply.Reply.{Reply}
use Rattle.bcv_model.specs.declared.reply.Reply.TheVariants as reply
use Rattle.bcv_clientstate.specs.SeenContainer.{container_of}

-- what answers an edit that cannot be published
abbrev pub fault_reply : EditFault → Reply
fault_reply fault.VersionsFull = reply.VersionsFull
fault_reply fault.Exists = reply.Exists
fault_reply fault.PageTooLarge = reply.PageTooLarge
fault_reply fault.TooLarge = reply.TooLarge
fault_reply fault.TooManyDatabases = reply.TooManyDatabases
fault_reply fault.NoDatabase = reply.NoDatabase
fault_reply (fault.Conflict mine theirs) = reply.Conflict mine theirs
fault_reply fault.WritersFull = reply.WritersFull
fault_reply fault.DeleteListFull = reply.DeleteListFull
fault_reply fault.ManifestTooLong = reply.ManifestTooLong

-- the database of an upload's base has the tag that the edit is asked over
pub record IsOver (c : m.Container) (db : List ℕ) (base : ℕ) (from : Id16) : Type 0 where
  pub mine : Database
  pub there : m.database_at c base db ≡ Some mine
  pub tag : mine.tag ≡ from

-- what a publication publishes is asked for by this edit
abbrev pub IsAskedAs : m.Container → m.Kind → EditPlan → Type 0
IsAskedAs c (m.Making d page_size pages) (edit.New e) = (e.name ≡ d) × (e.page_size ≡ page_size) × (e.pages ≡ length pages) × (is_name e.name ≡ true)
IsAskedAs c (m.Uploading d base commits) (edit.Upload from e) = (e.name ≡ d) × IsOver c d base from × (blocks_needed c.block e.page_size e.pages ≤ most_blocks)
IsAskedAs c (m.Copying a b) (edit.Copy from to) = (from ≡ a) × (to ≡ b) × (is_name to ≡ true)
IsAskedAs c (m.Removing a) (edit.Remove name) = name ≡ a
IsAskedAs c m.Cleaning (edit.Sweep ids) = Unit {0}
IsAskedAs c _ _ = ⊥

-- an edit that passes can be published
abbrev pub PassesIsFree : Type 0
PassesIsFree =
    (moment : ℕ) (past : List Item) (l : Manifest) (kind : m.Kind) (plan : EditPlan) (writer : Id16) → Sound past → last_of past ≡ Some l
    → IsAskedAs (container_of moment past) kind plan → checked l plan writer ≡ None → CanPublish (container_of moment past) kind (m.last_version (container_of moment past))

-- one that does not is found to have the machine's fault
abbrev pub FaultIsFound : Type 0
FaultIsFound =
    (moment : ℕ) (past : List Item) (l : Manifest) (q : m.Publication) (plan : EditPlan) (writer : Id16) (f : EditFault) → Sound past → last_of past ≡ Some l
    → IsAskedAs (container_of moment past) q.kind plan → checked l plan writer ≡ Some f → IsFound (container_of moment past) q (m.last_version (container_of moment past)) (fault_reply f)

-- without a manifest there is no container
abbrev pub NoneIsFound : Type 0
NoneIsFound =
    (moment : ℕ) (past : List Item) (q : m.Publication) → Sound past → last_of past ≡ None
    → IsFound (container_of moment past) q (m.last_version (container_of moment past)) reply.NoContainer
