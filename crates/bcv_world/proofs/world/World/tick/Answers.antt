use Rattle.std.proofs.Common.{◌≡◌, ◌∙◌, ℕ, Option, Some, None, sym, ap, subst, refl}
use Rattle.bcv_model.specs.declared.event.Event.TheVariants as event
use Rattle.bcv_model.specs.declared.reply.Reply.TheVariants as reply
use Rattle.bcv_model.specs.declared.reply.Said.{Said}
use Rattle.bcv_world.specs.declared.tally.Tally.{Tally}
use Rattle.bcv_world.specs.declared.world.World.{World}
use Rattle.bcv_world.specs.EventCaching.{EventCaches}
use Rattle.bcv_world.specs.Standing.{TakesEvent}
use Rattle.bcv_world.specs.Tallies.{IsTally, tallied}
use Rattle.bcv_world.specs.WorldForm.{IsWorld}
use Rattle.bcv_world.proofs.EventsTaken.{said_with, ticked_takes, ticked_world}
use Rattle.bcv_world.proofs.world.World.tick.Goals as goal

pub say-requires-clause-few : goal.say-requires-clause-few
say-requires-clause-few c = c.requires.few

pub say-requires-clause-tally : goal.say-requires-clause-tally
say-requires-clause-tally c = c.requires.world.tally_is

pub returns-clause-world : goal.returns-clause-world
returns-clause-world c =
    subst IsWorld (sym c.say.ensures.only)
    (ticked_world c.args.self.now _ c.args.seconds c.requires.world refl refl refl refl c.saturating_add-self.ensures (ap (λ k. k.moment) c.set.ensures)
    (ap (λ (s : Said). tallied c.args.self.now.tally s) c.say.ensures.said) (subst (λ (w : World). IsTally w.tally) c.say.ensures.only c.say.ensures.tally))

pub returns-clause-spec : goal.returns-clause-spec
returns-clause-spec c = ap (λ (w : World). w.spec) c.say.ensures.only

pub returns-clause-tally : goal.returns-clause-tally
returns-clause-tally c = ap (λ (w : World). w.tally) c.say.ensures.only

pub returns-clause-takes : goal.returns-clause-takes
returns-clause-takes c =
    subst (λ (s : Said). TakesEvent c.args.self.now c.say.new.self (event.Tick c.args.seconds) s) (sym c.say.ensures.said)
    (subst (λ (w : World). TakesEvent c.args.self.now w (event.Tick c.args.seconds) (said_with None reply.Fine)) (sym c.say.ensures.only)
    (ticked_takes c.args.self.now _ c.args.seconds c.requires.world refl refl refl refl c.saturating_add-self.ensures (ap (λ k. k.moment) c.set.ensures)))

pub returns-clause-caches : goal.returns-clause-caches
returns-clause-caches c =
    subst (λ (w : World). EventCaches c.args.self.now w (event.Tick c.args.seconds) c.say.result.reply) (sym c.say.ensures.only) (refl, refl)
