-- Versions only grow, each by one edit of the one before.
use Rattle.std.specs.Prelude.{◌≡◌, ℕ, ◌+◌, List, [], ◌∷◌, ◌++◌, Option, Some, None}
use Rattle.bcv_base.specs.declared.id.Id16.{Id16}
use Rattle.bcv_base.specs.Edits as edits
use Rattle.bcv_base.specs.Version.{Version}
use Rattle.bcv_model.specs.declared.event.Event.{Event}
use Rattle.bcv_model.specs.declared.reply.Said.{Said}
use Rattle.bcv_machine.specs.Run.{Run}
use Rattle.bcv_machine.specs.State.{State, Container, version_count, last_version}
use Rattle.bcv_machine.specs.Step.{Choice, Next}

-- a version is the first one, or an edit of the one before it
abbrev pub Follows : Option Version → Version → Type 0
Follows None v = (id : Id16) × (now : ℕ) × (v ≡ edits.created id now)
Follows (Some before) v = (id : Id16) × (now : ℕ) × (e : edits.Edit) × (v ≡ edits.edited before e id now)

-- where a number is published the container has one version more, of that number; else it has the same versions
abbrev pub GrowsBy : Option ℕ → Container → Container → Type 0
GrowsBy None before after = after.versions ≡ before.versions
GrowsBy (Some n) before after = (n ≡ version_count before + 1) × ((v : Version) × Follows (last_version before) v × (after.versions ≡ before.versions ++ v ∷ []))

-- an event publishes one version, or none
abbrev pub VersionsGrow : Type 0
VersionsGrow = (a b : State) (e : Event) (s : Said) (c : Choice) → Next a e s c b → GrowsBy s.published a.container b.container

-- no run takes a version away or changes it
abbrev pub VersionsStay : Type 0
VersionsStay =
    (a b : State) (es : List Event) (ss : List Said) (cs : List Choice) → Run a es ss cs b → (added : List Version) × (b.container.versions ≡ a.container.versions ++ added)
