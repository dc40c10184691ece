use Rattle.std.proofs.Common.{◌≡◌, ℕ, List, Some, ap, arith, refl, subst, sym}
use Rattle.bcv_base.specs.Numbered.{Counter}
use Rattle.bcv_base.specs.declared.log.Entry.{Entry}
use Rattle.bcv_memstore.specs.Told.{log_of}
use Rattle.bcv_model.specs.declared.event.Act.{Act}
use Rattle.bcv_model.specs.declared.reply.Reply.{Reply}
use Rattle.bcv_model.specs.declared.reply.Reply.TheVariants as reply
use Rattle.bcv_transaction.specs.Open.{Open}
use Rattle.bcv_world.specs.declared.place.Place.{Place}
use Rattle.bcv_world.specs.declared.place.Place.TheVariants as place
use Rattle.bcv_world.specs.Standing.{PlaceActs}
use Rattle.bcv_world.proofs.QuietPlaces.{failing_up, fused_up, planned_within, told_up}
use Rattle.bcv_world.proofs.place.act_up.Goals as goal

pub ask_up-requires-clause-form : goal.ask_up-requires-clause-form
ask_up-requires-clause-form g c = c.requires.form

pub ask_up-requires-clause-ask : goal.ask_up-requires-clause-ask
ask_up-requires-clause-ask g c = rw c.in-Ask.is at c.requires.act

pub ask_up-requires-clause-rule : goal.ask_up-requires-clause-rule
ask_up-requires-clause-rule g c = c.requires.rule

pub crash-requires : goal.crash-requires
crash-requires g c = record { image = rw c.in-Crash.is at c.requires.act }

pub fuse-requires-clause-image : goal.fuse-requires-clause-image
fuse-requires-clause-image g c = rw c.in-Fuse.is at c.requires.act

pub fuse-requires-clause-form : goal.fuse-requires-clause-form
fuse-requires-clause-form g c = c.requires.form.form

pub fail-requires : goal.fail-requires
fail-requires g c = record { form = c.requires.form.form }

-- what acts by the act of an arm acts by the one that was given
as_given : (before after : List Entry) (names later : Counter) (moment : ℕ) (old new : Place) (a b : Act) (r : Reply) → a ≡ b
    → ((slots : ℕ) → PlaceActs before after names later moment slots old new b r) → (slots : ℕ) → PlaceActs before after names later moment slots old new a r
as_given before after names later moment old new a b r is acts slots = subst (λ (x : Act). PlaceActs before after names later moment slots old new x r) (sym is) (acts slots)

pub returns-in-Ask-clause-within : goal.returns-in-Ask-clause-within
returns-in-Ask-clause-within g c = c.ask_up.ensures.within

pub returns-in-Ask-clause-acts : goal.returns-in-Ask-clause-acts
returns-in-Ask-clause-acts g c =
    as_given (log_of c.args.around.now.store) (log_of c.ask_up.new.around.store) c.args.around.now.names c.ask_up.new.around.names c.args.around.now.clock.moment (place.Up c.args.client)
    c.ask_up.result.0 c.args.act _ c.ask_up.result.1 c.in-Ask.is c.ask_up.ensures.acts

pub returns-in-Up-clause-within : goal.returns-in-Up-clause-within
returns-in-Up-clause-within g c = record { form = c.requires.form; taken = omega arith }

pub returns-in-Up-clause-acts : goal.returns-in-Up-clause-acts
returns-in-Up-clause-acts g c =
    let log : List Entry = log_of c.args.around.now.store in
    as_given log log c.args.around.now.names c.args.around.now.names c.args.around.now.clock.moment (place.Up c.args.client) (place.Up c.args.client) c.args.act _ reply.IsUp c.in-Up.is
    (λ slots. told_up log c.args.around.now.names c.args.around.now.clock.moment slots c.args.client)

pub returns-in-Crash-clause-within : goal.returns-in-Crash-clause-within
returns-in-Crash-clause-within g c = record { form = c.crash.ensures.within.form; taken = omega (arith, c.crash.ensures.within.taken) }

pub returns-in-Crash-clause-acts : goal.returns-in-Crash-clause-acts
returns-in-Crash-clause-acts g c =
    let log : List Entry = log_of c.args.around.now.store in
    as_given log log c.args.around.now.names c.args.around.now.names c.args.around.now.clock.moment (place.Up c.args.client) c.crash.result.0 c.args.act _ c.crash.result.1 c.in-Crash.is
    (λ slots. c.crash.ensures.acts log c.args.around.now.names c.args.around.now.clock.moment slots)

pub returns-in-Fuse-clause-within : goal.returns-in-Fuse-clause-within
returns-in-Fuse-clause-within g c = planned_within c.args.client c.fuse.new.self _ c.fuse.ensures.only c.requires.form c.fuse.ensures.form

pub returns-in-Fuse-clause-acts : goal.returns-in-Fuse-clause-acts
returns-in-Fuse-clause-acts g c =
    let log : List Entry = log_of c.args.around.now.store in
    as_given log log c.args.around.now.names c.args.around.now.names c.args.around.now.clock.moment (place.Up c.args.client) (place.Up c.fuse.new.self) c.args.act _ reply.Fine c.in-Fuse.is
    (λ slots. fused_up log c.args.around.now.names c.args.around.now.clock.moment slots c.in-Fuse.calls c.in-Fuse.image c.args.client c.fuse.new.self c.fuse.ensures.only c.fuse.ensures.sets)

pub returns-in-FailAt-clause-within : goal.returns-in-FailAt-clause-within
returns-in-FailAt-clause-within g c = planned_within c.args.client c.fail.new.self _ c.fail.ensures.only c.requires.form c.fail.ensures.form

pub returns-in-FailAt-clause-acts : goal.returns-in-FailAt-clause-acts
returns-in-FailAt-clause-acts g c =
    let log : List Entry = log_of c.args.around.now.store in
    as_given log log c.args.around.now.names c.args.around.now.names c.args.around.now.clock.moment (place.Up c.args.client) (place.Up c.fail.new.self) c.args.act _ reply.Fine c.in-FailAt.is
    (λ slots. failing_up log c.args.around.now.names c.args.around.now.clock.moment slots c.in-FailAt.calls c.args.client c.fail.new.self c.fail.ensures.only c.fail.ensures.sets)

pub returns-in-Ask-clause-sets : goal.returns-in-Ask-clause-sets
returns-in-Ask-clause-sets g c = rw c.in-Ask.is tt

pub returns-in-Up-clause-sets : goal.returns-in-Up-clause-sets
returns-in-Up-clause-sets g c = rw c.in-Up.is tt

pub returns-in-Crash-clause-sets : goal.returns-in-Crash-clause-sets
returns-in-Crash-clause-sets g c = rw c.in-Crash.is c.crash.ensures.left

pub returns-in-Fuse-clause-sets : goal.returns-in-Fuse-clause-sets
returns-in-Fuse-clause-sets g c = rw c.in-Fuse.is c.fuse.ensures.only.log.disk.trouble

pub returns-in-FailAt-clause-sets : goal.returns-in-FailAt-clause-sets
returns-in-FailAt-clause-sets g c = rw c.in-FailAt.is c.fail.ensures.only.log.disk.trouble

pub returns-in-Ask-clause-caches : goal.returns-in-Ask-clause-caches
returns-in-Ask-clause-caches g c = rw c.in-Ask.is c.ask_up.ensures.caches

pub returns-in-Up-clause-caches : goal.returns-in-Up-clause-caches
returns-in-Up-clause-caches g c = rw c.in-Up.is (refl, refl)

pub returns-in-Crash-clause-caches : goal.returns-in-Crash-clause-caches
returns-in-Crash-clause-caches g c = rw c.in-Crash.is (refl, c.crash.ensures.caches)

pub returns-in-Fuse-clause-caches : goal.returns-in-Fuse-clause-caches
returns-in-Fuse-clause-caches g c = rw c.in-Fuse.is (refl, ap (λ (o : Open). Some o) c.fuse.ensures.only.txns)

pub returns-in-FailAt-clause-caches : goal.returns-in-FailAt-clause-caches
returns-in-FailAt-clause-caches g c = rw c.in-FailAt.is (refl, ap (λ (o : Open). Some o) c.fail.ensures.only.txns)
