use Rattle.std.proofs.Common.{◌∙◌, sym}
use Rattle.bcv_world.proofs.AskedStores.{asked_burnt}
use Rattle.bcv_world.proofs.AskedPlaces.{asked_falls_down, asked_stays_up}
use Rattle.bcv_world.proofs.place.ask_up.Goals as goal

pub returns-then-burnt-clause-acts : goal.returns-then-burnt-clause-acts
returns-then-burnt-clause-acts g c slots =
    asked_falls_down _ _ _ _ _ _ _ _ _ _ c.ask_once-reply.ensures.once (sym c.burnt-burnt.ensures ∙ c.if-burnt.true) c.down.result c.down.ensures.disk c.down.ensures.down slots

pub returns-clause-acts : goal.returns-clause-acts
returns-clause-acts g c slots = asked_stays_up _ _ _ _ _ _ _ _ _ _ c.ask_once-reply.ensures.once (sym c.burnt-burnt.ensures ∙ c.if-burnt.false) slots

pub returns-then-burnt-clause-caches : goal.returns-then-burnt-clause-caches
returns-then-burnt-clause-caches g c = asked_burnt _ _ _ _ _ _ _ _ c.ask_once-reply.ensures.caches

pub returns-clause-caches : goal.returns-clause-caches
returns-clause-caches g c = c.ask_once-reply.ensures.caches
