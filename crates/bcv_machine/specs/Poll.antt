-- The step of a poll.
use Rattle.std.specs.Prelude.{◌≡◌, Option, Some, None}
use Rattle.bcv_base.specs.declared.outcome.Outcome.{Outcome}
use Rattle.bcv_base.specs.declared.outcome.Outcome.TheVariants as outcome
use Rattle.bcv_base.specs.Version.{Version}
use Rattle.bcv_model.specs.declared.reply.Reply.{Reply}
use Rattle.bcv_model.specs.declared.reply.Reply.TheVariants as reply
use Rattle.bcv_machine.specs.State.{Up, Side, version_count, last_version, known_at, with_up}

-- the databases of the last version that have no commits here are known, at its number
abbrev pub PollsLast : Side → Up → Option Version → Reply → Side → Type 0
PollsLast s u None reply.NoContainer t = t ≡ with_up s u
PollsLast s u None _ t = ⊥
PollsLast s u (Some v) (reply.Polled n) t = (n ≡ version_count s.container) × (t ≡ with_up s (record u { known = known_at s.client.kept n v.dbs }))
PollsLast s u (Some v) _ t = ⊥

-- the store answers with the last version, or it fails
abbrev pub Polls : Side → Up → Outcome → Reply → Side → Type 0
Polls s u outcome.Ok r t = PollsLast s u (last_version s.container) r t
Polls s u outcome.Fail r t = (r ≡ reply.StoreFault) × (t ≡ with_up s u)
Polls s u outcome.Lost r t = (r ≡ reply.StoreFault) × (t ≡ with_up s u)
