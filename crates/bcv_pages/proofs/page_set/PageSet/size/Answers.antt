use Rattle.std.proofs.Common.{◌∙◌, ap, List}
use Rattle.bcv_base.specs.Image.{Writes}
use Rattle.bcv_base.specs.Views.{view_size}
use Rattle.bcv_pages.specs.Held.{view_of}
use Rattle.bcv_pages.proofs.Finding.{size-image}
use Rattle.bcv_pages.proofs.page_set.PageSet.size.Goals as goal

pub returns-clause-image : goal.returns-clause-image
returns-clause-image c = size-image c.args.self.now.page_size c.args.base_pages (view_of c.args.self.now c.args.from c.args.to) c.size_of.result (c.size_of.ensures ∙ ap (λ (cs : List Writes). view_size c.args.base_pages cs) c.commits_of.ensures.view)
