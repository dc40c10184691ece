-- Where a client stands as it comes up, so that a talk with it may begin.
use Rattle.std.specs.Prelude.{◌≡◌, ◌+◌, ◌≤◌, ℕ, true, List, None}
use Rattle.bcv_base.specs.declared.id.Id16.{Id16}
use Rattle.bcv_base.specs.Ids.{has_id}
use Rattle.bcv_client.specs.CallNames.{LeavesFit}
use Rattle.bcv_client.specs.ClientUp.{IsBack, IsNewlyUp, StartsEmpty}
use Rattle.bcv_client.specs.Talk.{Point}
use Rattle.bcv_client.specs.declared.client.Client.{Client}
use Rattle.bcv_clientlaws.specs.OtherParts.{Includes}
use Rattle.bcv_clientstate.specs.Journaled.{most_of}
use Rattle.bcv_clientstate.specs.SeenClient.{Free}
use Rattle.bcv_clientstate.specs.UpSides.{risen_free}
use Rattle.bcv_dbmap.specs.Sound.{IsSoundLog}
use Rattle.bcv_disk.specs.DiskShown.{DiskShown}
use Rattle.bcv_model.specs.declared.kept.Kept.{Kept}
use Rattle.bcv_worldlaws.specs.Places.{DownPlace, place_names}
use Rattle.bcv_talks.specs.TalkRuns.{PointStands}

-- a client stands over the log, which what a crash may leave of its disk fits
pub record TalkBegins {D : Type 0} {g : _} (shown : D → DiskShown) (mine : List Id16)
    (a : Point D g) (f : Free) : Type 0 where
  pub stands : PointStands shown mine a f
  pub left : LeavesFit shown a.client a.store.log

-- so does one that was down over the log and is back, with no names but those that it had
abbrev pub BackBegins : {D : Type 0} {g : _} → (D → DiskShown) → Client D g → Type 0
BackBegins shown client =
    (a : Point _ _) (mine : List Id16) (slots : ℕ) (id : Id16) (k : Kept) (f : Free)
    → a.client ≡ client → StartsEmpty slots client → IsBack shown a.store.log id k f client
    → Includes mine (place_names (DownPlace id k f)) → TalkBegins shown mine a (risen_free f)

-- and so does a new one over each sound log, with its id alone
abbrev pub NewBegins : {D : Type 0} {g : _} → (D → DiskShown) → Client D g → Type 0
NewBegins shown client =
    (a : Point _ _) (mine : List Id16) (slots most : ℕ) (f : Free)
    → a.client ≡ client → StartsEmpty slots client → IsNewlyUp shown slots most client
    → has_id client.id mine ≡ true → IsSoundLog a.store.log → f.slots ≡ slots → f.flight ≡ None
    → most + 44 ≤ most_of f → TalkBegins shown mine a f
