use Rattle.std.proofs.Common.{subst, sym}
use Rattle.bcv_model.specs.declared.reply.Reply.{Reply}
use Rattle.bcv_client.specs.Steps.{EndsJob}
use Rattle.bcv_client.specs.declared.job.Job.TheVariants.{Fetch}
use Rattle.bcv_client.proofs.client.Client.fetch.Goals as goal

pub fetch_page-requires-clause-form : goal.fetch_page-requires-clause-form
fetch_page-requires-clause-form g c = c.requires.form

pub fetch_page-requires-clause-page : goal.fetch_page-requires-clause-page
fetch_page-requires-clause-page g c = c.requires.page

pub returns-clause-form : goal.returns-clause-form
returns-clause-form g c = c.fetch_page.ensures.form

pub returns-clause-fetches : goal.returns-clause-fetches
returns-clause-fetches g c = record { how = c.fetch_page.result; answers = c.stepped_reply.ensures; fetches = c.fetch_page.ensures.fetches }

pub returns-clause-ends : goal.returns-clause-ends
returns-clause-ends g c =
    subst (λ (r : Reply). EndsJob g.D.Disk.told g.D.Disk.shown g.S.Store.told (g.S.Store.shown c.args.store.now) (g.S.Store.shown c.fetch_page.new.store) c.args.self.now c.fetch_page.new.self
    (Fetch c.args.access c.args.txn c.args.page) r) (sym c.stepped_reply.ensures) c.fetch_page.ensures.ends

pub returns-clause-falls : goal.returns-clause-falls
returns-clause-falls g c = c.fetch_page.ensures.falls

pub returns-clause-reached : goal.returns-clause-reached
returns-clause-reached g c = c.fetch_page.ensures.reached
