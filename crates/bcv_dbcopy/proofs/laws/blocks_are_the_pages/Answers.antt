use Rattle.bcv_dbcopy.proofs.PagesLaws.{blocks_are_the_pages}
use Rattle.bcv_dbcopy.proofs.laws.blocks_are_the_pages.Goals as goal

pub returns : goal.returns
returns c = blocks_are_the_pages
