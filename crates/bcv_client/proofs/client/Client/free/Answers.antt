use Rattle.std.proofs.Common.{refl, subst, sym}
use Rattle.bcv_machine.specs.Reading.{Frees}
use Rattle.bcv_model.specs.declared.reply.Reply.{Reply}
use Rattle.bcv_client.specs.Events.{Locally}
use Rattle.bcv_client.proofs.TxnCalls.{frees_stay}
use Rattle.bcv_client.proofs.TxnForms.{form_stays}
use Rattle.bcv_client.proofs.TxnLocals.{frees_locally}
use Rattle.bcv_client.proofs.client.Client.free.Goals as goal

pub returns-clause-form : goal.returns-clause-form
returns-clause-form g c =
    let old = c.args.self.now in
    form_stays old.seen old.ledger.databases old.txns c.free.new.self old.tasks.items
    (frees_stay old.txns c.free.new.self c.args.txn c.args.page c.free.result c.is_full.ensures.are_open c.free.ensures.frees) c.requires.form

pub returns-clause-machine : goal.returns-clause-machine
returns-clause-machine g c =
    let old = c.args.self.now in
    let new = record old { txns = c.free.new.self } in
    subst (λ (r : Reply). Locally g.D.Disk.shown (λ s u t. Frees s u c.args.txn c.args.page r t) old new r) (sym c.freed_reply.ensures)
    (frees_locally g.D.Disk.shown old new c.args.txn c.args.page c.free.result c.requires.form
    (record { reading = record { id = refl; ledger = refl; seen = refl; latest = refl; taken = refl }; tasks = refl })
    c.is_full.ensures.are_open c.free.ensures.are_open c.free.ensures.frees c.free.ensures.machine)

pub returns-clause-only : goal.returns-clause-only
returns-clause-only g c = record { reading = record { id = refl; ledger = refl; seen = refl; latest = refl; taken = refl }; tasks = refl }

pub returns-clause-frees : goal.returns-clause-frees
returns-clause-frees g c = record { how = c.free.result; answers = c.freed_reply.ensures; frees = c.free.ensures.frees }
