use Rattle.std.proofs.Common.{arith}
use Rattle.std.proofs.lemmas.List.{at_drop_all}
use Rattle.bcv_base.specs.ManifestRules.{total_length}
use Rattle.bcv_base.proofs.layout.entries_len.Goals as goal

pub returns : goal.returns
returns c =
    let none = at_drop_all total_length c.args.entries.now c.loop-entry.entry-index c.loop-entry-test.false in
    omega (arith, none, c.loop-entry.invariant.within, c.loop-entry.invariant.sum)
