use Rattle.bcv_client.proofs.PagesAsked.{answers_absent, fetch_single}
use Rattle.bcv_client.proofs.client.Client.answer.Goals as goal

pub start-requires-clause-form : goal.start-requires-clause-form
start-requires-clause-form g c = c.requires.form

pub start-requires-clause-job : goal.start-requires-clause-job
start-requires-clause-job g c = rw c.in-Absent.is at c.requires.fetch

pub start-requires-clause-single : goal.start-requires-clause-single
start-requires-clause-single g c = fetch_single c.args.self.now c.args.access c.args.txn c.args.page c.requires.form

pub returns-in-Absent-clause-form : goal.returns-in-Absent-clause-form
returns-in-Absent-clause-form g c = c.start.ensures.form

pub returns-in-Absent-clause-only : goal.returns-in-Absent-clause-only
returns-in-Absent-clause-only g c = c.start.ensures.starts.only

pub returns-in-Absent-clause-answers : goal.returns-in-Absent-clause-answers
returns-in-Absent-clause-answers g c = answers_absent _ _ _ _ _ _ c.in-Absent.is c.start.ensures.starts.tasks
