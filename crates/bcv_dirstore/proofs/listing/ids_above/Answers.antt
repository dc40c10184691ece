use Rattle.std.proofs.Common.{◌++◌, ◌∙◌, List, sym, ap, arith}
use Rattle.std.specs.Option.{option_copied}
use Rattle.std.specs.Map.{keys_of}
use Rattle.bcv_base.specs.declared.id.Id16.{Id16}
use Rattle.bcv_dirstore.specs.Index.{ids_past}
use Rattle.bcv_dirstore.proofs.FirstIds.{more_listed, end_listed}
use Rattle.bcv_dirstore.proofs.listing.ids_above.Goals as goal

pub returns-then-len-eq-MOST-clause-listed : goal.returns-then-len-eq-MOST-clause-listed
returns-then-len-eq-MOST-clause-listed c =
    let is = ap (λ (rest : List (Id16 × Unit)). c.loop-id.into.items ++ keys_of rest) (sym c.in-Some-2.ensures.steps) ∙ c.loop-id.invariant.0 in
    more_listed c.loop-id.into.items (ids_past (option_copied c.args.after) c.args.sorted.now) (keys_of c.next.new.self) c.in-Some-2.id.now is (omega arith)

pub returns-clause-listed : goal.returns-clause-listed
returns-clause-listed c =
    let is = ap (λ (rest : List (Id16 × Unit)). c.loop-id.into.items ++ keys_of rest) (sym c.in-None-2.ensures.steps.0) ∙ c.loop-id.invariant.0 in
    end_listed c.loop-id.into.items (ids_past (option_copied c.args.after) c.args.sorted.now) is c.loop-id.invariant.1
