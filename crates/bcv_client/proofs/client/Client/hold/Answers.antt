use Rattle.bcv_client.specs.declared.job.Access.TheVariants as access
use Rattle.bcv_client.proofs.PagesAsked.{asked_only, asks_locally, asks_page}
use Rattle.bcv_client.proofs.client.Client.hold.Goals as goal

pub hold_now-came-requires : goal.hold_now-came-requires
hold_now-came-requires g c = c.requires

pub answer-requires-clause-form : goal.answer-requires-clause-form
answer-requires-clause-form g c = c.hold_now-came.ensures.form

pub answer-requires-clause-fetch : goal.answer-requires-clause-fetch
answer-requires-clause-fetch g c = c.hold_now-came.ensures.fetch

pub returns-clause-form : goal.returns-clause-form
returns-clause-form g c = c.answer.ensures.form

pub returns-clause-machine : goal.returns-clause-machine
returns-clause-machine g c =
    asks_locally g.D.Disk.shown c.args.self.now c.hold_now-came.new.self c.answer.new.self access.ToHold c.args.txn c.args.page c.hold_now-came.result c.answer.result
    c.hold_now-came.ensures.comes c.answer.ensures.only c.answer.ensures.answers

pub returns-clause-only : goal.returns-clause-only
returns-clause-only g c = asked_only c.args.self.now c.hold_now-came.new.self c.answer.new.self c.hold_now-came.ensures.only c.answer.ensures.only

pub returns-clause-asks : goal.returns-clause-asks
returns-clause-asks g c =
    asks_page c.args.self.now c.hold_now-came.new.self c.answer.new.self access.ToHold c.args.txn c.args.page c.hold_now-came.result c.answer.result
    c.hold_now-came.ensures.only c.answer.ensures.only c.hold_now-came.ensures.calls c.answer.ensures.answers
