-- The files of a folder in memory, one by one.
use Rattle.std.proofs.Common.{◌≡◌, ◌∙◌, ℕ, Bool, List, Option, if◌then◌else◌, refl, ap}
use Rattle.std.specs.BTreeMap.{BTreeMap, get, Updates}
use Rattle.std.proofs.lemmas.Map.Text.{is_eq-slice_cmp}
use Rattle.bcv_base.specs.declared.id.Id16.{Id16}
use Rattle.bcv_base.specs.declared.object.ObjName.{ObjName}
use Rattle.bcv_base.specs.declared.object.ObjName.TheVariants as object
use Rattle.bcv_base.specs.Log.{name_eq}
use Rattle.bcv_dirstore.specs.Index.{id_cmp}
use Rattle.bcv_dirstore.specs.MemFiles.{files_in}

-- a change of the map at an id is one of the file of that block
pub file_changed : (manifest : Option (List ℕ)) (blocks later : BTreeMap Id16 (List ℕ)) (id : Id16) (w : Option (List ℕ)) → Updates id_cmp blocks later id w
    → (other : ObjName) → files_in manifest later.entries other
    ≡ (if name_eq (object.Block id) other then w else files_in manifest blocks.entries other)
file_changed manifest blocks later id w updates object.Manifest = refl
file_changed manifest blocks later id w updates (object.Block j) =
    updates.0 j ∙ ap (λ (b : Bool). if b then w else get id_cmp blocks j) (is_eq-slice_cmp id.0 j.0)
