use Rattle.std.proofs.Common.{map, sym, ◌∙◌, ap}
use Rattle.bcv_base.specs.Views.{view_size}
use Rattle.bcv_model.specs.Commits.{writes_of}
use Rattle.bcv_pages.proofs.Origins.{view_size-push}
use Rattle.bcv_pages.proofs.search.size_of.Goals as goal

pub returns-in-Some : goal.returns-in-Some
returns-in-Some c =
    sym (ap (λ cs. view_size c.args.base_pages (map writes_of cs)) c.in-Some.ensures.cases.0
    ∙ view_size-push c.args.base_pages c.in-Some.field-0-1.now c.in-Some.commit.now)
