use Rattle.std.proofs.Common.{arith, ◌^◌, ◌+◌, ◌*◌, ◌≡◌, refl, add-one, pow-suc, vec_capacity}
use Rattle.bcv_pages.proofs.size_minima.SizeMinima.reserve.Goals as goal

pub invariant_of-self-2 : goal.invariant_of-self-2
invariant_of-self-2 c =
    let double : 2 ^ (c.ilog2.result + 1) ≡ 2 ^ c.ilog2.result * 2 = rw (add-one, pow-suc) refl in
    let levels : vec_capacity c.in_ok-next.next ≡ c.ilog2.result + 1 = c.in_ok-next.ensures.exact in
    record {
      columns_are = rw c.reserve.ensures.items c.self.invariant.columns_are;
      room = record {
        empty = c.in_ok-next.ensures.items;
        place = omega (arith, c.in_ok-reserve.ensures.ok);
        levels = rw levels (omega (arith, c.ilog2.ensures.next_power_gt, c.reserve.ensures.len));
      };
    }
