-- The step of a resolve: whether the pending publication was made.
use Rattle.std.specs.Prelude.{◌≡◌, ℕ, ◌+◌, List, [], ◌∷◌, Option, Some, None, if◌then◌else◌}
use Rattle.bcv_base.specs.declared.id.Id16.{Id16}
use Rattle.bcv_base.specs.declared.outcome.Outcome.{Outcome}
use Rattle.bcv_base.specs.declared.outcome.Outcome.TheVariants as outcome
use Rattle.bcv_base.specs.Ids.{id_eq}
use Rattle.bcv_base.specs.Version.{Version}
use Rattle.bcv_model.specs.declared.reply.Reply.{Reply}
use Rattle.bcv_model.specs.declared.reply.Reply.TheVariants as reply
use Rattle.bcv_machine.specs.LocalWriting.{with_known}
use Rattle.bcv_machine.specs.Noting.{kept_after, noted, NoteFails}
use Rattle.bcv_machine.specs.Refusals.{has_commits}
use Rattle.bcv_machine.specs.State.{KeptState, Pending, Taken, Finishing, Voiding, Up, Side, with_client, with_up}

-- the number of the version with an id, counted from this one on
abbrev pub number_from : ℕ → Id16 → List Version → Option ℕ
number_from n id [] = None
number_from n id (v ∷ vs) = if id_eq v.id id then Some n else number_from (n + 1) id vs

-- an uploaded database that has no commits left is known at the version's number; nothing else moves
abbrev pub resolved_up : Option Taken → ℕ → KeptState → Up → Up
resolved_up None n k u = u
resolved_up (Some x) n k u = if has_commits k x.db then u else with_known u x.db n

-- the version of the pending publication, where there is one, is noted and answered; else void is
abbrev pub ResolvesAs : Side → Up → Pending → Option ℕ → Reply → Side → Type 0
ResolvesAs s u p (Some n) (reply.Resolved k) t = (k ≡ n) × (t ≡ with_client s (noted s (resolved_up p.upload n (kept_after s.client.kept (Finishing n)) u) (Finishing n)))
ResolvesAs s u p (Some n) r t = NoteFails s u (Finishing n) r t
ResolvesAs s u p None reply.Voided t = t ≡ with_client s (noted s u Voiding)
ResolvesAs s u p None r t = NoteFails s u Voiding r t

abbrev pub ResolvesPending : Side → Up → Option Pending → Reply → Side → Type 0
ResolvesPending s u None r t = ⊥
ResolvesPending s u (Some p) r t = ResolvesAs s u p (number_from 1 p.id s.container.versions) r t

-- where the store fails all stays pending
abbrev pub Resolves : Side → Up → Outcome → Reply → Side → Type 0
Resolves s u outcome.Ok r t = ResolvesPending s u s.client.kept.pending r t
Resolves s u outcome.Fail r t = (r ≡ reply.StoreFault) × (t ≡ with_up s u)
Resolves s u outcome.Lost r t = (r ≡ reply.StoreFault) × (t ≡ with_up s u)
