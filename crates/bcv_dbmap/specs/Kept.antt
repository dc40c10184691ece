-- A manifest that is kept with its etag.
use Rattle.std.specs.Prelude.{◌≡◌, ◌<◌, ◌⊎◌, ℕ, Bool, List, ◌∷◌, ◌++◌, Option, Some, Ok}
use Rattle.bcv_base.specs.declared.log.Entry.{Entry}
use Rattle.bcv_base.specs.declared.log.Entry.TheVariants as entry
use Rattle.bcv_base.specs.declared.manifest.Manifest.{Manifest}
use Rattle.bcv_base.specs.declared.object.ObjName.TheVariants as object
use Rattle.bcv_base.specs.declared.seen.Latest.{Latest}
use Rattle.bcv_base.specs.Log.{Object}
use Rattle.bcv_base.specs.ManifestGrammar.{manifest_of}

-- the manifest is one that the log has under this etag
pub record IsKept (log : List Entry) (l : Latest) : Type 0 where
  pub own : Bool
  pub bytes : List ℕ
  pub front : List Entry
  pub rest : List Entry
  pub put : log ≡ front ++ entry.Put own object.Manifest bytes l.etag ∷ rest
  pub read : manifest_of bytes ≡ Ok l.manifest

-- a manifest that is kept is the last one of a log, and the object of the manifest has its etag
pub record IsStill (kept : Latest) (o : Option Object) (last : Option Manifest) : Type 0 where
  pub there : Object
  pub is : o ≡ Some there
  pub etag : there.etag ≡ kept.etag
  pub same : last ≡ Some kept.manifest

-- a later manifest came: etag and number have risen
pub record IsBehind (kept : Latest) (o : Option Object) (last : Option Manifest) : Type 0 where
  pub there : Object
  pub is : o ≡ Some there
  pub etag : kept.etag < there.etag
  pub manifest : Manifest
  pub last_is : last ≡ Some manifest
  pub number : kept.manifest.number < manifest.number

-- so the object has the etag exactly where what is kept is still the last one
abbrev pub Stays : Latest → Option Object → Option Manifest → Type 0
Stays kept o last = IsStill kept o last ⊎ IsBehind kept o last
