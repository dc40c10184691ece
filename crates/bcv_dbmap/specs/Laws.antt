-- The laws of edits and of sound histories.
use Rattle.std.specs.Prelude.{◌≡◌, ◌<◌, ◌^◌, ℕ, Bool, true, false, List, [], ◌∷◌, ◌++◌, Some, None, Ok}
use Rattle.bcv_base.specs.declared.id.Id16.{Id16}
use Rattle.bcv_base.specs.declared.log.Entry.{Entry}
use Rattle.bcv_base.specs.declared.log.Entry.TheVariants as entry
use Rattle.bcv_base.specs.declared.manifest.DbEntry.{DbEntry}
use Rattle.bcv_base.specs.declared.manifest.Manifest.{Manifest}
use Rattle.bcv_base.specs.declared.object.ObjName.TheVariants as object
use Rattle.bcv_base.specs.Edits.{edited, created}
use Rattle.bcv_base.specs.History.{Item, Published, HasBlock, Always, last_of, history_of}
use Rattle.bcv_base.specs.Ids.{has_id, IsId}
use Rattle.bcv_base.specs.ManifestGrammar.{manifest_of}
use Rattle.bcv_base.specs.ManifestRules.{MeetsRules, MeetsLimits, IsShort, lists, is_block_size}
use Rattle.bcv_base.specs.Version.{Version}
use Rattle.bcv_base.specs.Versions.{version_of, versions_of, Reads, HasVersions}
use Rattle.bcv_dbmap.specs.declared.plan.EditPlan.{EditPlan}
use Rattle.bcv_dbmap.specs.Applied.{applied, first_manifest, edit_of, swept_ids, FitsPlan}
use Rattle.bcv_dbmap.specs.Checked.{checked}
use Rattle.bcv_dbmap.specs.Filled.{Fills}
use Rattle.bcv_dbmap.specs.Growth.{IsNewBlock, IsLawful, AreLawful, IsUntouched}
use Rattle.bcv_dbmap.specs.Outlived.{IsDeletedIn, IsOutlived, IsGone}
use Rattle.bcv_dbmap.specs.Past.{IsAmong, has_version, was_deleted}
use Rattle.bcv_dbmap.specs.Sound.{Sound, IsSoundLog}

-- ---- edits

-- what a plan makes of the last manifest, put behind its new blocks, appends the plan's edit to the versions
abbrev pub AppliedAppendsEdit : Type 0
AppliedAppendsEdit =
    (past : List Item) (old : Manifest) (plan : EditPlan) (id writer : Id16) (moment : ℕ) → Always Reads past → last_of past ≡ Some old
    → (older : List Version) × (versions_of past ≡ older ++ version_of past old ∷ [])
    × (versions_of (Published (applied old plan id writer moment) ∷ past) ≡ versions_of past ++ edited (version_of past old) (edit_of past plan) id moment ∷ [])

-- a first manifest makes the first version, with no database
abbrev pub FirstCreates : Type 0
FirstCreates =
    (past : List Item) (block retention : ℕ) (id writer : Id16) (moment : ℕ) → Always Reads past → last_of past ≡ None
    → versions_of (Published (first_manifest block retention id writer moment) ∷ past) ≡ created id moment ∷ []

-- the put of such a manifest is not refused, where the plan passes and fits, and each block that is newly listed was put with
-- the block size: the versions have that edit more
abbrev pub AppliedHasVersions : Type 0
AppliedHasVersions =
    (log : List Entry) (versions : List Version) (old : Manifest) (plan : EditPlan) (id writer : Id16) (moment : ℕ) (own : Bool) (bytes : List ℕ) (etag : ℕ)
    → HasVersions log versions → last_of (history_of log) ≡ Some old → checked old plan writer ≡ None → FitsPlan old.block plan
    → moment < 2 ^ 64 → IsId id → IsId writer
    → ((i : Id16) → lists (applied old plan id writer moment).dbs i ≡ true → lists old.dbs i ≡ false → HasBlock (history_of log) i old.block)
    → manifest_of bytes ≡ Ok (applied old plan id writer moment)
    → HasVersions (log ++ entry.Put own object.Manifest bytes etag ∷ []) (versions ++ edited (version_of (history_of log) old) (edit_of (history_of log) plan) id moment ∷ [])

-- the put of a first manifest is not refused: there is one version, with no database
abbrev pub FirstHasVersions : Type 0
FirstHasVersions =
    (log : List Entry) (block retention : ℕ) (id writer : Id16) (moment : ℕ) (own : Bool) (bytes : List ℕ) (etag : ℕ)
    → HasVersions log [] → last_of (history_of log) ≡ None → is_block_size block ≡ true → retention < 2 ^ 64 → moment < 2 ^ 64 → IsId id → IsId writer
    → manifest_of bytes ≡ Ok (first_manifest block retention id writer moment)
    → HasVersions (log ++ entry.Put own object.Manifest bytes etag ∷ []) (created id moment ∷ [])

-- a plan fills itself
abbrev pub FillsItself : Type 0
FillsItself = (plan : EditPlan) → Fills plan plan

-- a first manifest meets the rules and the limits, and is short
abbrev pub FirstMeetsRules : Type 0
FirstMeetsRules =
    (block retention : ℕ) (id writer : Id16) (moment : ℕ) → is_block_size block ≡ true → retention < 2 ^ 64 → moment < 2 ^ 64 → IsId id → IsId writer
    → MeetsRules (first_manifest block retention id writer moment) × MeetsLimits (first_manifest block retention id writer moment) × IsShort (first_manifest block retention id writer moment)

-- what is applied meets the rules
abbrev pub AppliedMeetsRules : Type 0
AppliedMeetsRules =
    (m : Manifest) (plan : EditPlan) (id writer : Id16) (moment : ℕ) → MeetsRules m → FitsPlan m.block plan → checked m plan writer ≡ None
    → moment < 2 ^ 64 → IsId id → IsId writer → MeetsRules (applied m plan id writer moment)

-- what passes with zeros passes with any ids in their place, and what is applied then keeps within the limits and is short
abbrev pub AppliedMeetsLimits : Type 0
AppliedMeetsLimits =
    (m : Manifest) (asked plan : EditPlan) (id writer : Id16) (moment : ℕ) → MeetsRules m → MeetsLimits m → FitsPlan m.block plan
    → checked m asked writer ≡ None → Fills asked plan → (checked m plan writer ≡ None) × MeetsLimits (applied m plan id writer moment) × IsShort (applied m plan id writer moment)

-- ---- sound histories

abbrev pub EmptyIsSound : Type 0
EmptyIsSound = Sound []

abbrev pub LawfulKeepsSound : Type 0
LawfulKeepsSound = (mine : List Id16) (past : List Item) (x : Item) → Sound past → IsLawful mine past x → Sound (x ∷ past)

abbrev pub OthersKeepSound : Type 0
OthersKeepSound = (mine : List Id16) (log others : List Entry) → IsSoundLog log → AreLawful mine (history_of log) others → IsSoundLog (log ++ others)

-- versions are never taken back
abbrev pub VersionsStay : Type 0
VersionsStay = (log others : List Entry) → (more : List Version) × (versions_of (history_of (log ++ others)) ≡ versions_of (history_of log) ++ more)

-- others leave what is mine as it was
abbrev pub OthersLeaveMine : Type 0
OthersLeaveMine =
    (mine : List Id16) (log others : List Entry) → IsSoundLog log → AreLawful mine (history_of log) others
    → IsUntouched mine (history_of log) (history_of (log ++ others))

-- a publication of one's own that passes, over the last manifest, with a fresh id and new blocks, is lawful to every other
-- client that shares no name
abbrev pub PublishedIsLawful : Type 0
PublishedIsLawful =
    (theirs : List Id16) (past : List Item) (old : Manifest) (asked plan : EditPlan) (id writer : Id16) (moment : ℕ)
    → Sound past → last_of past ≡ Some old → checked old asked writer ≡ None → Fills asked plan → FitsPlan old.block plan
    → moment < 2 ^ 64 → IsId id → IsId writer
    → has_version past id ≡ false → has_id id theirs ≡ false → has_id writer theirs ≡ false
    → ((i : Id16) → lists (applied old plan id writer moment).dbs i ≡ true → lists old.dbs i ≡ false → IsNewBlock theirs past old.block i)
    → ((i : Id16) → has_id i (swept_ids plan) ≡ true → was_deleted past i ≡ true)
    → IsLawful theirs past (Published (applied old plan id writer moment))

-- ---- deleted blocks

-- where a listed block was deleted later, some version between does not list it and lies the retention back
abbrev pub DeletedIsOutlived : Type 0
DeletedIsOutlived =
    (later before : List Item) (m : Manifest) (i : Id16) (at : ℕ) → Sound (later ++ Published m ∷ before) → lists m.dbs i ≡ true → IsDeletedIn later i at
    → IsOutlived later i at

-- where a block of an entry of some version was deleted, a later version, the retention back then, has no entry with its tag
abbrev pub GoneIsOutlived : Type 0
GoneIsOutlived =
    (later before : List Item) (m : Manifest) (d : DbEntry) (i : Id16) → Sound (later ++ Published m ∷ before) → IsAmong d m.dbs → has_id i d.blocks ≡ true
    → was_deleted (later ++ Published m ∷ before) i ≡ true → IsGone later d i
