use Rattle.bcv_script.proofs.Hex.{decoded}
use Rattle.bcv_script.proofs.page.decode.Goals as goal

pub returns : goal.returns
returns c = rw c.ok.ensures.value (decoded c.args.word.now c.decode_to_slice.new.out _ c.decode_to_slice.result c.requires.length c.requires.lower c.decode_to_slice.ensures.value)
