use Rattle.std.proofs.Common.{◌∙◌, List, sym, ap, subst}
use Rattle.bcv_base.specs.Image.{Page}
use Rattle.bcv_model.specs.declared.ask.Ask.{Ask}
use Rattle.bcv_client.specs.AskCalls.{AskInForm, are_pages_of}
use Rattle.bcv_client.proofs.AskPages.{fits, only}
use Rattle.bcv_client.proofs.client.Client.may_ask.Goals as goal

pub returns-in-NewDb-clause-fits : goal.returns-in-NewDb-clause-fits
returns-in-NewDb-clause-fits g c = λ is.
    subst (λ (q : Ask). AskInForm c.args.self.now.taken q) (sym c.in-NewDb.is)
    (fits c.in-NewDb.db c.in-NewDb.page_size c.in-NewDb.pages (sym (c.are_pages.ensures ∙ ap (λ (ps : List Page). are_pages_of c.in-NewDb.page_size ps) c.items.ensures) ∙ is))

pub returns-in-NewDb-clause-only : goal.returns-in-NewDb-clause-only
returns-in-NewDb-clause-only g c = λ form.
    c.are_pages.ensures ∙ ap (λ (ps : List Page). are_pages_of c.in-NewDb.page_size ps) c.items.ensures
    ∙ only c.in-NewDb.db c.in-NewDb.page_size c.in-NewDb.pages (subst (λ (q : Ask). AskInForm c.args.self.now.taken q) c.in-NewDb.is form)
