use Rattle.std.proofs.Common.{List, ℕ, ◌∙◌, ap, arith}
use Rattle.std.specs.Int.{w32, from_be_bytes}
use Rattle.bcv_journal.proofs.Reader.{has_item}
use Rattle.bcv_journal.proofs.layout.front_item.Goals as goal

pub returns : goal.returns
returns c =
    let chunk = c.in_ok-size.ensures.cases in
    let parts = c.split_at.ensures in
    has_item c.args.after.now c.in_ok-size.rest.now c.split_at.result.0.now c.split_at.result.1.now c.from_be_bytes-size.result (λ k. omega (arith, c.type_inv.after k)) chunk.2 chunk.1
    (c.from_be_bytes-size.ensures ∙ ap (λ (l : List ℕ). from_be_bytes w32 l) chunk.0) c.if-size-eq0.false c.from_be_bytes-size.type_inv c.if-rest-size.false parts.front_len parts.back_len parts.by_index.0
