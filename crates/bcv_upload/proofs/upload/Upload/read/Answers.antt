use Rattle.std.proofs.Common.{◌≡◌, Some, sym, subst}
use Rattle.bcv_upload.specs.State.{State}
use Rattle.bcv_upload.proofs.Tasks.{upload_read}
use Rattle.bcv_upload.proofs.Viewed.{viewed}
use Rattle.bcv_upload.proofs.upload.Upload.read.Goals as goal

pub invariant_of-self : goal.invariant_of-self
invariant_of-self g c =
    upload_read c.args.seen.now (viewed c.self.inside) c.self.inside.asked c.self.inside.plan c.get.result c.get.new.self c.self.invariant
    (subst (λ (s : State). c.args.seen.now.block ≡ Some s.base.block) (sym c.self.view_is) c.requires.seen) c.get.ensures.leaves

pub returns-clause-task : goal.returns-clause-task
returns-clause-task g c = (invariant_of-self g c).task
