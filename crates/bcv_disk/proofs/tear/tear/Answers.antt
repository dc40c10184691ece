use Rattle.std.proofs.Common.{◌≡◌, ◌<◌, ℕ, length, arith, sym, ◌∙◌}
use Rattle.std.proofs.lemmas.List.{ext_get_or}
use Rattle.bcv_disk.specs.Record.{torn_bytes}
use Rattle.bcv_disk.specs.Told.{length-torn_bytes}
use Rattle.bcv_disk.proofs.Torn.{get_or-torn_bytes}
use Rattle.bcv_disk.proofs.tear.tear.Goals as goal

pub returns : goal.returns
returns c =
    let long = length-torn_bytes c.args.image c.args.old.now c.args.at c.args.part.now in
    ext_get_or 0 c.loop-i.part (torn_bytes c.args.image c.args.old.now c.args.at c.args.part.now) (omega (arith, c.loop-i.invariant.0, long)) (λ k lt.
    c.loop-i.invariant.1 k (omega (arith, lt, c.loop-i.invariant.0, c.loop-i-test.false)) ∙ sym (get_or-torn_bytes c.args.image c.args.old.now c.args.at c.args.part.now k (omega (arith, lt, c.loop-i.invariant.0))))
