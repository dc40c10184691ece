-- What a store in a folder tells and shows as a store: nothing but how many requests have failed.
use Rattle.std.specs.Prelude.{◌≡◌, ℕ, []}
use Rattle.bcv_base.specs.Plan.{one_more}
use Rattle.bcv_store.specs.StoreShown.{StoreTold, StoreShown}
use Rattle.bcv_dirstore.specs.declared.dir_store.DirStore.{DirStore}

-- it tells no log, and is not alone
abbrev pub tells_nothing : StoreTold
tells_nothing = record { tells = ⊥; alone = ⊥; plans = ⊥ }

-- it shows how many requests have failed
abbrev pub untold : ℕ → StoreShown
untold faults = record { log = []; plan = []; faults = faults }

-- how many requests have failed
abbrev pub faults_of : {F : Type 0} → DirStore F → ℕ
faults_of store = store.faults

-- the folder that it stands on
abbrev pub folder_of : {F : Type 0} → DirStore F → F
folder_of store = store.folder

-- a request that fails is counted, in a count that stands still at the end of its type, and no other one is
pub record CountsFault (failed : Type 0) (before now : ℕ) : Type 0 where
  pub rises : failed → now ≡ one_more before
  pub stays : (failed → ⊥) → now ≡ before
