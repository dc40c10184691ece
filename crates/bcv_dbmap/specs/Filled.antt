-- A plan that was checked before its blocks had ids.
use Rattle.std.specs.Prelude.{◌≡◌, true}
use Rattle.bcv_base.specs.declared.id.Id16.{Id16}
use Rattle.bcv_base.specs.declared.manifest.DbEntry.{DbEntry}
use Rattle.bcv_base.specs.Ids.{has_id}
use Rattle.bcv_dbmap.specs.declared.plan.EditPlan.{EditPlan}
use Rattle.bcv_dbmap.specs.declared.plan.EditPlan.TheVariants as plan
use Rattle.bcv_dbmap.specs.Checked.{without_zeros}

-- the entry is the one that was asked for, with any ids where there were zeros or nothing
pub record FillsEntry (asked entry : DbEntry) : Type 0 where
  pub name : entry.name ≡ asked.name
  pub page_size : entry.page_size ≡ asked.page_size
  pub pages : entry.pages ≡ asked.pages
  pub blocks : (i : Id16) → has_id i (without_zeros asked).blocks ≡ true → has_id i entry.blocks ≡ true

-- the plan is the one that was asked for, with its blocks filled in
abbrev pub Fills : EditPlan → EditPlan → Type 0
Fills (plan.New asked) p = (e : DbEntry) × (p ≡ plan.New e) × FillsEntry asked e
Fills (plan.Upload from asked) p = (e : DbEntry) × (p ≡ plan.Upload from e) × FillsEntry asked e
Fills (plan.Copy from to) p = p ≡ plan.Copy from to
Fills (plan.Remove name) p = p ≡ plan.Remove name
Fills (plan.Sweep ids) p = p ≡ plan.Sweep ids
