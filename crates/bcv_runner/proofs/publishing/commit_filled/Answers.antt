use Rattle.std.proofs.Common.{◌∙◌, ℕ, Option, ap}
use Rattle.bcv_runner.specs.CommandAsks.{filled_pages}
use Rattle.bcv_runner.proofs.TalkJoins.{commits}
use Rattle.bcv_runner.proofs.publishing.commit_filled.Goals as goal

pub returns-clause-talk : goal.returns-clause-talk
returns-clause-talk g c =
    commits g.D.Disk.told g.D.Disk.shown g.S.Store.told c.args.db c.args.size c.args.pages c.in-Ok.pages c.ask_client-reply.result c.ended-2.result _ _ c.ask_client-reply.ensures.exchanged
    (c.in-Ok.ensures ∙ ap (λ (o : Option ℕ). filled_pages o c.args.pages) c.page_size-page_size.ensures) c.ended-2.ensures.ending
