use Rattle.std.proofs.Common.{Bool, List, Option, refl, subst, ℕ}
use Rattle.bcv_slots.specs.declared.Slot.{Slot}
use Rattle.bcv_tasks.specs.State.{latest_of}
use Rattle.bcv_client.specs.LocalWrites.{TrimsWhere}
use Rattle.bcv_client.specs.PublicationPut.{SeesWhere, set_uploaded}
use Rattle.bcv_client.specs.declared.job.Job.{Job}
use Rattle.bcv_client.proofs.client.Client.put_at.Goals as goal

pub put_step-reply-requires-clause-running : goal.put_step-reply-requires-clause-running
put_step-reply-requires-clause-running g c = c.requires.running

pub put_step-reply-requires-clause-ready : goal.put_step-reply-requires-clause-ready
put_step-reply-requires-clause-ready g c = c.requires.ready

pub put_step-reply-requires-clause-waits : goal.put_step-reply-requires-clause-waits
put_step-reply-requires-clause-waits g c = c.requires.waits

pub put_step-reply-requires-clause-upload : goal.put_step-reply-requires-clause-upload
put_step-reply-requires-clause-upload g c = c.requires.upload

pub put_step-reply-requires-clause-is_open : goal.put_step-reply-requires-clause-is_open
put_step-reply-requires-clause-is_open g c = c.requires.is_open

pub returns-clause-puts : goal.returns-clause-puts
returns-clause-puts g c = record {
  only = record { id = refl; latest = refl; txns = refl; tasks = refl; taken = refl };
  mid = c.put_step-reply.new.ledger;
  puts = c.put_step-reply.ensures.puts;
  notes = c.put_step-reply.ensures.notes;
  sees =
      subst (λ (b : Bool). SeesWhere b c.args.self.now.seen c.see_where.new.seen (latest_of c.put_step-reply.new.task)) c.says_made-made.ensures c.see_where.ensures;
  trims =
      subst (λ (b : Bool). TrimsWhere b (set_uploaded c.args.set c.put_step-reply.new.task) c.put_step-reply.new.ledger c.trim_where.new.ledger c.args.self.now.txns c.args.self.now.tasks.items) c.says_made-made.ensures
      (subst (λ (o : Option ℕ). TrimsWhere c.says_made-made.result o c.put_step-reply.new.ledger c.trim_where.new.ledger c.args.self.now.txns c.args.self.now.tasks.items) c.set_uploaded.ensures
      (subst (λ (ss : List (Slot Job)). TrimsWhere c.says_made-made.result c.set_uploaded.result c.put_step-reply.new.ledger c.trim_where.new.ledger c.args.self.now.txns ss) c.deref.ensures.value c.trim_where.ensures.trims));
  views = c.trim_where.ensures.views;
}

pub returns-clause-reached : goal.returns-clause-reached
returns-clause-reached g c = c.put_step-reply.ensures.reached
