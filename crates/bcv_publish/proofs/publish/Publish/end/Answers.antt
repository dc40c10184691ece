use Rattle.std.proofs.Common.{◌≡◌, ◌+◌, MatchOption, sym, subst}
use Rattle.bcv_publish.specs.State.{State}
use Rattle.bcv_publish.proofs.Rising.{next_rises}
use Rattle.bcv_publish.proofs.publish.Publish.end.Goals as goal

pub invariant_of-self : goal.invariant_of-self
invariant_of-self c =
    next_rises c.self.inside.refused c.self.inside.latest c.args.manifest.number c.self.invariant
    (subst (λ (p : State). MatchOption p.latest ⊥ (λ read. c.args.manifest.number ≡ read.manifest.number + 1)) (sym c.self.view_is) c.requires.next)
