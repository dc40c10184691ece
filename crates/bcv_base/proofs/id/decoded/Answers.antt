use Rattle.std.proofs.Common.{ℕ, List, Some, sym, ap}
use Rattle.bcv_base.proofs.HexText.{IsId-decoded, decoded-bytes, decoded-no_error}
use Rattle.bcv_base.specs.declared.id.Id16.{Id16}
use Rattle.bcv_base.proofs.id.decoded.Goals as goal

pub returns-in-Ok-clause-reads : goal.returns-in-Ok-clause-reads
returns-in-Ok-clause-reads c =
    λ i id same. ap (λ (bytes : List ℕ). let read : Id16 = record { 0 = bytes } in Some read)
    (decoded-bytes c.args.text.now c.in-Ok.bytes i c.in-Ok.ensures id same)

pub returns-in-Ok-clause-id : goal.returns-in-Ok-clause-id
returns-in-Ok-clause-id c = IsId-decoded c.args.text.now c.in-Ok.bytes (sym c.in-Ok.ensures)

pub returns-in-Err-clause-reads : goal.returns-in-Err-clause-reads
returns-in-Err-clause-reads c =
    λ i id same. absurd (decoded-no_error c.args.text.now c.in-Err.field-0 i c.in-Err.ensures id same)
