use Rattle.std.proofs.Common.{◌∙◌}
use Rattle.bcv_manifest.proofs.Marked.{listed_dead}
use Rattle.bcv_manifest.proofs.blocks.lists_dead.Goals as goal

pub returns : goal.returns
returns c = c.any_lists_dead.ensures ∙ listed_dead c.args.dbs.now c.args.dead.now
