use Rattle.std.proofs.Common.{◌+◌, ◌-◌, ◌*◌, ◌/◌, ◌^◌, ◌≤◌, arith}
use Rattle.std.proofs.Math.Nat.{mul-le-mul_right, mul-le-mul}
use Rattle.bcv_base.proofs.sizes.blocks_needed.Goals as goal

pub returns-clause-small : goal.returns-clause-small
returns-clause-small c = λ large.
    let few : c.args.pages ≤ 2 ^ 32 - 1 = omega arith in
    let small : c.args.page_size ≤ 2 ^ 32 - 1 = omega arith in
    omega (arith, mul-le-mul_right ((c.args.pages * c.args.page_size + (c.args.block - 1)) / c.args.block) large, mul-le-mul few small)
