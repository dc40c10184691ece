use Rattle.std.proofs.Common.{arith}
use Rattle.bcv_upload.proofs.BlockNumbers.{touched_few}
use Rattle.bcv_upload.proofs.upload.Upload.left.Goals as goal

pub overflow_cast-blocks : goal.overflow_cast-blocks
overflow_cast-blocks c = omega (arith, touched_few _ c.self.invariant.task)

pub overflow_mul-result : goal.overflow_mul-result
overflow_mul-result c = omega (arith, touched_few _ c.self.invariant.task)

pub overflow_add-result : goal.overflow_add-result
overflow_add-result c = omega (arith, touched_few _ c.self.invariant.task)
