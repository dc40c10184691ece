use Rattle.std.proofs.Common.{arith}
use Rattle.bcv_dbcopy.proofs.BlockTexts.{few_fit}
use Rattle.bcv_dbcopy.proofs.blocks.block_bytes.Goals as goal

pub filled-requires-clause-fits : goal.filled-requires-clause-fits
filled-requires-clause-fits c =
    few_fit c.args.block c.args.page_size _ c.min-from.result c.args.pages.now c.requires.pages (omega (arith, c.min-from.ensures, c.min-to.ensures))
