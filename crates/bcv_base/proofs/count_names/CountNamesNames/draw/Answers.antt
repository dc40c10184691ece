use Rattle.std.proofs.Common.{◌≡◌, ◌+◌, arith, ap}
use Rattle.std.proofs.lemmas.List.FromFn.{map-range_with_len_more}
use Rattle.bcv_base.specs.Numbered.{numbered}
use Rattle.bcv_base.specs.Numbered.{Counter}
use Rattle.bcv_base.proofs.count_names.CountNamesNames.draw.Goals as goal

pub returns-clause-draws : goal.returns-clause-draws
returns-clause-draws c =
    let e : c.self.inside.count ≡ c.args.self.now.count = ap (λ (v : Counter). v.count) c.self.view_is in
    record {
      names = rw (← e, c.to_be_bytes.ensures) (map-range_with_len_more numbered 1 c.self.inside.count (c.self.inside.count + 1) (omega arith));
      cause = ap (λ (v : Counter). v.faults) c.self.view_is;
    }
