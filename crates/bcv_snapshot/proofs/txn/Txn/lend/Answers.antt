use Rattle.std.proofs.Common.{◌∙◌}
use Rattle.bcv_snapshot.proofs.CacheLaws.{block_whole}
use Rattle.bcv_snapshot.proofs.txn.Txn.lend.Goals as goal

pub page_bytes-requires : goal.page_bytes-requires
page_bytes-requires c = record { whole = block_whole c.args.cache.now c.args.slot c.lend.result.now c.lend.ensures.cache c.lend.ensures.bytes ∙ c.requires.block }
