-- Behind a get that keeps a manifest the edit may be put.
use Rattle.std.proofs.Common.{ℕ, MatchOption, sym, subst}
use Rattle.bcv_base.specs.declared.seen.Seen.{Seen}
use Rattle.bcv_dbmap.specs.declared.plan.EditPlan.{EditPlan}
use Rattle.bcv_dbmap.specs.Applied.{FitsPlan}
use Rattle.bcv_publish.specs.declared.work.Work.TheVariants as work
use Rattle.bcv_publish.specs.ManifestGet.{GetLeaves}
use Rattle.bcv_publish.specs.ManifestPut.{IsReady}
use Rattle.bcv_publish.specs.State.{State}

pub ready_behind : (seen : Seen) (plan : EditPlan) (old new : State) → GetLeaves seen plan old work.More new → ((block : ℕ) → FitsPlan block plan) → MatchOption new.latest ⊥ (λ read. IsReady read.manifest plan new.writer)
ready_behind seen plan old new l fits =
    subst (λ (p : State). MatchOption p.latest ⊥ (λ read. IsReady read.manifest plan p.writer)) (sym l.5)
    (record { rules = l.1; limits = l.2; passes = l.4; fits = fits l.0.manifest.block })
