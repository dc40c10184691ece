-- What the lines of a script give: sizes that the first line fixes, clients that there are, and images that a crash may leave.
use Rattle.std.specs.Prelude.{◌≡◌, ℕ, ◌^◌, ◌<◌, ◌≤◌, true, List, length}
use Rattle.std.specs.List.{AllByRecursion}
use Rattle.bcv_base.specs.Image.{Page}
use Rattle.bcv_base.specs.ManifestRules.{is_block_size, is_page_size}
use Rattle.bcv_client.specs.AskCalls.{AskInForm}
use Rattle.bcv_model.specs.declared.ask.Ask.{Ask}
use Rattle.bcv_model.specs.declared.ask.Ask.TheVariants as ask
use Rattle.bcv_model.specs.declared.event.Act.{Act}
use Rattle.bcv_model.specs.declared.event.Act.TheVariants as act
use Rattle.bcv_model.specs.declared.event.Event.{Event}
use Rattle.bcv_model.specs.declared.event.Event.TheVariants as event
use Rattle.bcv_model.specs.declared.spec.WorldSpec.{WorldSpec}

-- ---- the first line

-- sizes within the limits
pub record IsSpec (spec : WorldSpec) : Type 0 where
  pub block : is_block_size spec.block ≡ true
  pub page : is_page_size spec.block spec.page ≡ true
  pub retention : spec.retention < 2 ^ 64

-- ---- the other lines

-- the pages of a new database have the world's page size, and are fewer than 2^31
pub record KeepsPages (spec : WorldSpec) (page_size : ℕ) (pages : List Page) : Type 0 where
  pub same_size : page_size ≡ spec.page
  pub each : AllByRecursion (λ (p : Page). length p ≡ page_size) pages
  pub few : length pages < 2 ^ 31

-- a create and a new database have the world's sizes
abbrev pub KeepsAsk : WorldSpec → Ask → Type 0
KeepsAsk spec (ask.Create block retention) = (block ≡ spec.block) × (retention ≡ spec.retention)
KeepsAsk spec (ask.NewDb db page_size pages) = KeepsPages spec page_size pages
KeepsAsk spec _ = Unit {0}

-- a crash leaves one of five images
abbrev pub KeepsAct : WorldSpec → Act → Type 0
KeepsAct spec (act.Ask q o) = KeepsAsk spec q
KeepsAct spec act.Up = Unit {0}
KeepsAct spec (act.Crash image) = image < 5
KeepsAct spec (act.Fuse calls image) = image < 5
KeepsAct spec (act.FailAt calls) = Unit {0}

-- the event is one of a line of this world
abbrev pub Keeps : WorldSpec → Event → Type 0
Keeps spec (event.Tick n) = Unit {0}
Keeps spec (event.Of client what) = (1 ≤ client) × (client ≤ spec.clients) × KeepsAct spec what

-- ---- what may happen to a client that was given so many commits

abbrev pub ActInForm : ℕ → Act → Type 0
ActInForm taken (act.Ask q o) = AskInForm taken q
ActInForm taken act.Up = Unit {0}
ActInForm taken (act.Crash image) = image < 5
ActInForm taken (act.Fuse calls image) = image < 5
ActInForm taken (act.FailAt calls) = Unit {0}
