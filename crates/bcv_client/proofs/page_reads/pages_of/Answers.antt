use Rattle.std.proofs.Common.{◌∙◌, sym}
use Rattle.bcv_client.proofs.PagesFound.{none_found, pages_found}
use Rattle.bcv_client.proofs.page_reads.pages_of.Goals as goal

pub returns-in-None : goal.returns-in-None
returns-in-None c = none_found c.args.txn c.args.txns.now (sym c.set_of.ensures ∙ c.in-None.is)

pub returns-in-Some : goal.returns-in-Some
returns-in-Some c = pages_found c.args.databases.now c.args.txns.now c.args.txn c.in-Some.set _ c.requires (sym c.set_of.ensures ∙ c.in-Some.is) c.pages.ensures
