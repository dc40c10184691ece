-- When a dead block died: its stamp is the moment of a published manifest. Where a cleanup takes it, the retention since that
-- version has passed, as the machine asks.
use Rattle.std.specs.Prelude.{◌≡◌, List, Some}
use Rattle.bcv_base.specs.declared.id.Id16.{Id16}
use Rattle.bcv_base.specs.declared.manifest.Dead.{Dead}
use Rattle.bcv_base.specs.declared.manifest.Manifest.{Manifest}
use Rattle.bcv_base.specs.History.{Item, last_of}
use Rattle.bcv_base.specs.Keyed.{keyed}
use Rattle.bcv_base.specs.ManifestRules.{dead_id}
use Rattle.bcv_dbmap.specs.Outlived.{IsPublished}
use Rattle.bcv_dbmap.specs.Sound.{Sound}

abbrev pub StampsAreMoments : Type 0
StampsAreMoments =
    (past : List Item) (m : Manifest) (i : Id16) (e : Dead) → Sound past → last_of past ≡ Some m → keyed dead_id i.0 m.dead ≡ Some e
    → (k : Manifest) × IsPublished k past × (k.moment ≡ e.stamp)
