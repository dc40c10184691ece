-- The worlds that a replay goes through, one after each event.
use Rattle.std.specs.Prelude.{◌≡◌, List, [], ◌∷◌}
use Rattle.bcv_world.specs.declared.world.World.{World}
use Rattle.bcv_world.specs.EventCaching.{EventCaches}
use Rattle.bcv_world.specs.SetTroubles.{SetsAsTold}
use Rattle.bcv_world.specs.Standing.{TakesEvent}
use Rattle.bcv_model.specs.declared.event.Event.{Event}
use Rattle.bcv_model.specs.declared.reply.Said.{Said}

-- one event takes a world to another one: the machine takes it, its request, its client's transactions and their cache are as told,
-- and so is a trouble that it sets
pub record WorldTakes (old new : World) (e : Event) (s : Said) : Type 0 where
  pub takes : TakesEvent old new e s
  pub caches : EventCaches old new e s.reply
  pub sets : SetsAsTold old new e

-- these events took the one world to the other, one after the other, with this said of them
abbrev pub Course : World → List Event → List Said → World → Type 0
Course w [] [] last = last ≡ w
Course w (e ∷ es) (s ∷ ss) last = (next : World) × WorldTakes w next e s × Course next es ss last
Course w _ _ last = ⊥
