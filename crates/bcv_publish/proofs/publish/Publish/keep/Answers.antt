use Rattle.std.proofs.Common.{◌≡◌, None, sym, subst}
use Rattle.bcv_publish.specs.ManifestRead.{unlike}
use Rattle.bcv_publish.specs.State.{State}
use Rattle.bcv_publish.proofs.Rising.{seen_rises, rises_before}
use Rattle.bcv_publish.proofs.publish.Publish.keep.Goals as goal

pub invariant_of-self : goal.invariant_of-self
invariant_of-self c =
    seen_rises (record { writer = c.self.inside.writer; id = c.self.inside.id; latest = c.self.inside.latest; refused = c.self.inside.refused; block = c.self.inside.block })
    c.requires.follows.0 c.args.latest.manifest (rises_before c.self.inside.refused c.self.inside.latest c.self.invariant)
    (subst (λ (p : State). unlike p c.requires.follows.0 c.args.latest.manifest ≡ None) (sym c.self.view_is) c.requires.follows.1.like)
