use Rattle.std.proofs.Common.{◌∙◌, rules}
use Rattle.bcv_base.proofs.HexText.{encode_lower-hex_of}
use Rattle.bcv_base.proofs.id.hex_text.Goals as goal

pub returns : goal.returns
returns c =
    let text = rw c.unwrap.ensures at c.encode_to_slice.ensures.written in
    text ∙ encode_lower-hex_of c.args.bytes.now (search rules)
