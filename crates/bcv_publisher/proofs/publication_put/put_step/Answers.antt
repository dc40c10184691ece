use Rattle.std.proofs.Common.{Option, subst}
use Rattle.bcv_ledger.specs.Begins.{Begins}
use Rattle.bcv_model.specs.declared.kept.PendingPub.{PendingPub}
use Rattle.bcv_model.specs.declared.reply.Reply.{Reply}
use Rattle.bcv_tasks.specs.State.{pending_of}
use Rattle.bcv_publisher.proofs.PutAnswers.{not_begun, out_of_memory, settled}
use Rattle.bcv_publisher.proofs.PutNoted.{intent_not_noted, nothing_noted, settled_notes}
use Rattle.bcv_publisher.proofs.publication_put.put_step.Goals as goal

pub returns-in-Some-clause-puts : goal.returns-in-Some-clause-puts
returns-in-Some-clause-puts g c =
    not_begun g.D.Disk.told g.D.Disk.shown g.S.Store.told (g.S.Store.shown c.args.store.now) c.args.ledger.now c.args.seen.now c.args.taken c.args.task.now c.args.moment c.requires.running c.requires.ready c.requires.is_open
    c.begin.new.self c.in-Some.fault
    (subst (λ (o : Option Reply). Begins g.D.Disk.told g.D.Disk.shown c.args.ledger.now c.begin.new.self (pending_of c.args.taken c.args.task.now) o) c.in-Some.is
    (subst (λ (y : PendingPub). Begins g.D.Disk.told g.D.Disk.shown c.args.ledger.now c.begin.new.self y c.begin.result) c.in-Ok.ensures c.begin.ensures))

pub returns-clause-puts : goal.returns-clause-puts
returns-clause-puts g c =
    settled g.D.Disk.told g.D.Disk.shown g.S.Store.told (g.S.Store.shown c.args.store.now) c.args.ledger.now c.args.seen.now c.args.taken c.args.task.now c.args.moment c.requires.running c.requires.ready c.requires.is_open
    c.begin.new.self
    (subst (λ (o : Option Reply). Begins g.D.Disk.told g.D.Disk.shown c.args.ledger.now c.begin.new.self (pending_of c.args.taken c.args.task.now) o) c.in_default-begin.is
    (subst (λ (y : PendingPub). Begins g.D.Disk.told g.D.Disk.shown c.args.ledger.now c.begin.new.self y c.begin.result) c.in-Ok.ensures c.begin.ensures))
    (g.S.Store.shown c.put-answer.new.store) c.put-answer.new.self c.settle-reply.new.ledger c.put-answer.result c.settle-reply.result c.put-answer.ensures.puts c.put-answer.ensures.left c.put-answer.ensures.running c.settle-reply.ensures

pub returns-in-Some-clause-notes : goal.returns-in-Some-clause-notes
returns-in-Some-clause-notes g c =
    intent_not_noted g.D.Disk.told g.D.Disk.shown g.S.Store.told (g.S.Store.shown c.args.store.now) c.args.ledger.now c.args.seen.now c.args.taken c.args.task.now c.args.moment c.requires.ready c.requires.is_open
    g.met.D.Disk.only_now c.begin.new.self c.in-Some.fault
    (subst (λ (o : Option Reply). Begins g.D.Disk.told g.D.Disk.shown c.args.ledger.now c.begin.new.self (pending_of c.args.taken c.args.task.now) o) c.in-Some.is
    (subst (λ (y : PendingPub). Begins g.D.Disk.told g.D.Disk.shown c.args.ledger.now c.begin.new.self y c.begin.result) c.in-Ok.ensures c.begin.ensures))

pub returns-clause-notes : goal.returns-clause-notes
returns-clause-notes g c =
    settled_notes g.D.Disk.told g.D.Disk.shown g.S.Store.told (g.S.Store.shown c.args.store.now) c.args.ledger.now c.args.seen.now c.args.taken c.args.task.now c.args.moment c.requires.ready c.requires.is_open
    g.met.D.Disk.only_now c.begin.new.self
    (subst (λ (o : Option Reply). Begins g.D.Disk.told g.D.Disk.shown c.args.ledger.now c.begin.new.self (pending_of c.args.taken c.args.task.now) o) c.in_default-begin.is
    (subst (λ (y : PendingPub). Begins g.D.Disk.told g.D.Disk.shown c.args.ledger.now c.begin.new.self y c.begin.result) c.in-Ok.ensures c.begin.ensures))
    (g.S.Store.shown c.put-answer.new.store) c.put-answer.new.self c.settle-reply.new.ledger c.put-answer.result c.settle-reply.result c.kept.ensures.sound c.put-answer.ensures.puts c.put-answer.ensures.running
    c.settle-reply.ensures

pub returns-in_default-clause-notes : goal.returns-in_default-clause-notes
returns-in_default-clause-notes g c =
    nothing_noted g.D.Disk.told g.D.Disk.shown g.S.Store.told (g.S.Store.shown c.args.store.now) c.args.ledger.now c.args.seen.now c.args.taken c.args.task.now c.args.moment c.requires.ready c.requires.is_open
    g.met.D.Disk.only_now

pub returns-in_default-clause-puts : goal.returns-in_default-clause-puts
returns-in_default-clause-puts g c =
    out_of_memory g.D.Disk.told g.D.Disk.shown g.S.Store.told (g.S.Store.shown c.args.store.now) c.args.ledger.now c.args.seen.now c.args.taken c.args.task.now c.args.moment c.requires.running c.requires.ready c.requires.is_open
