-- Why a block of a base is gone, in the machine's words.
use Rattle.std.specs.Prelude.{◌≡◌, ℕ, true, List, ◌∷◌, ◌++◌}
use Rattle.bcv_base.specs.declared.id.Id16.{Id16}
use Rattle.bcv_base.specs.declared.manifest.DbEntry.{DbEntry}
use Rattle.bcv_base.specs.declared.manifest.Manifest.{Manifest}
use Rattle.bcv_base.specs.History.{Item, Published}
use Rattle.bcv_base.specs.Ids.{has_id}
use Rattle.bcv_dbmap.specs.Outlived.{IsGone}
use Rattle.bcv_dbmap.specs.Past.{IsAmong}
use Rattle.bcv_dbmap.specs.Sound.{Sound}
use Rattle.bcv_machine.specs.Gone.{MayBeGone}
use Rattle.bcv_clientstate.specs.SeenContainer.{HasBase, container_of}

-- of each version's entry that lists the block, a later version has no entry with its tag, and lay the retention back when the
-- block was deleted
abbrev pub IsOutlived : List Item → Id16 → Type 0
IsOutlived past i =
    (later before : List Item) (m : Manifest) (d : DbEntry) → past ≡ later ++ Published m ∷ before → IsAmong d m.dbs → has_id i d.blocks ≡ true → IsGone later d i

-- a block of a base that was outlived may be gone
abbrev pub OutlivedMayBeGone : Type 0
OutlivedMayBeGone =
    (moment : ℕ) (past : List Item) (number block : ℕ) (e : DbEntry) (i : Id16) → Sound past → HasBase past number block e → has_id i e.blocks ≡ true → IsOutlived past i
    → MayBeGone (container_of moment past) e.name number
