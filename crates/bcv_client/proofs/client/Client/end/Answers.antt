use Rattle.std.proofs.Common.{◌≡◌, ◌∙◌, ℕ, Option, Some, refl, subst, sym}
use Rattle.bcv_model.specs.declared.reply.Reply.TheVariants as reply
use Rattle.bcv_transaction.specs.Open.{set_in}
use Rattle.bcv_client.specs.Transactions.{EndsTxn}
use Rattle.bcv_client.proofs.TxnEnded.{EndsWhole, OnlyEnds, ends_from, keeps_all, none_ends, set_missing}
use Rattle.bcv_client.proofs.client.Client.end.Goals as goal

pub returns-in-Some-clause-form : goal.returns-in-Some-clause-form
returns-in-Some-clause-form g c =
    let old = c.args.self.now in
    let new = record old { ledger = c.trim.new.self; txns = c.end.new.self; tasks = c.drop_fetches.new.tasks } in
    let found : set_in c.args.txn old.txns.txns ≡ Some c.in-Some.set = sym c.set_of.ensures ∙ c.in-Some.is in
    let only : OnlyEnds old new = record { id = refl; log = c.trim.ensures.log; seen_is = refl; latest = refl; taken = refl } in
    let whole : EndsWhole g.D.Disk.shown old new c.args.txn c.in-Some.set =
    ends_from g.D.Disk.shown old new c.args.txn c.in-Some.set c.needed-oldest.result c.deref.result.now c.end.result only c.requires.form c.is_full.ensures.are_open
    found c.end.ensures.ends c.drop_fetches.ensures c.needed-oldest.ensures c.deref.ensures.value c.trim.ensures.trims c.trim.ensures.views in
    whole.form

pub returns-in-Some-clause-machine : goal.returns-in-Some-clause-machine
returns-in-Some-clause-machine g c =
    let old = c.args.self.now in
    let new = record old { ledger = c.trim.new.self; txns = c.end.new.self; tasks = c.drop_fetches.new.tasks } in
    let found : set_in c.args.txn old.txns.txns ≡ Some c.in-Some.set = sym c.set_of.ensures ∙ c.in-Some.is in
    let only : OnlyEnds old new = record { id = refl; log = c.trim.ensures.log; seen_is = refl; latest = refl; taken = refl } in
    let whole : EndsWhole g.D.Disk.shown old new c.args.txn c.in-Some.set =
    ends_from g.D.Disk.shown old new c.args.txn c.in-Some.set c.needed-oldest.result c.deref.result.now c.end.result only c.requires.form c.is_full.ensures.are_open
    found c.end.ensures.ends c.drop_fetches.ensures c.needed-oldest.ensures c.deref.ensures.value c.trim.ensures.trims c.trim.ensures.views in
    whole.machine

pub returns-in-Some-clause-ledger : goal.returns-in-Some-clause-ledger
returns-in-Some-clause-ledger g c =
    let old = c.args.self.now in
    let new = record old { ledger = c.trim.new.self; txns = c.end.new.self; tasks = c.drop_fetches.new.tasks } in
    let found : set_in c.args.txn old.txns.txns ≡ Some c.in-Some.set = sym c.set_of.ensures ∙ c.in-Some.is in
    let only : OnlyEnds old new = record { id = refl; log = c.trim.ensures.log; seen_is = refl; latest = refl; taken = refl } in
    let whole : EndsWhole g.D.Disk.shown old new c.args.txn c.in-Some.set =
    ends_from g.D.Disk.shown old new c.args.txn c.in-Some.set c.needed-oldest.result c.deref.result.now c.end.result only c.requires.form c.is_full.ensures.are_open
    found c.end.ensures.ends c.drop_fetches.ensures c.needed-oldest.ensures c.deref.ensures.value c.trim.ensures.trims c.trim.ensures.views in
    whole.ledger

pub returns-in-Some-clause-ends : goal.returns-in-Some-clause-ends
returns-in-Some-clause-ends g c =
    let old = c.args.self.now in
    let new = record old { ledger = c.trim.new.self; txns = c.end.new.self; tasks = c.drop_fetches.new.tasks } in
    let found : set_in c.args.txn old.txns.txns ≡ Some c.in-Some.set = sym c.set_of.ensures ∙ c.in-Some.is in
    let only : OnlyEnds old new = record { id = refl; log = c.trim.ensures.log; seen_is = refl; latest = refl; taken = refl } in
    let whole : EndsWhole g.D.Disk.shown old new c.args.txn c.in-Some.set =
    ends_from g.D.Disk.shown old new c.args.txn c.in-Some.set c.needed-oldest.result c.deref.result.now c.end.result only c.requires.form c.is_full.ensures.are_open
    found c.end.ensures.ends c.drop_fetches.ensures c.needed-oldest.ensures c.deref.ensures.value c.trim.ensures.trims c.trim.ensures.views in
    subst (λ (x : Option ℕ). EndsTxn old new c.args.txn x reply.Fine) (sym found) whole.ends

pub returns-in-None-clause-form : goal.returns-in-None-clause-form
returns-in-None-clause-form g c = c.requires.form

pub returns-in-None-clause-machine : goal.returns-in-None-clause-machine
returns-in-None-clause-machine g c =
    let old = c.args.self.now in
    none_ends g.D.Disk.shown old c.args.txn c.requires.form (set_missing c.args.txn old.txns (sym c.set_of.ensures ∙ c.in-None.is))

pub returns-in-None-clause-ledger : goal.returns-in-None-clause-ledger
returns-in-None-clause-ledger g c = keeps_all c.args.self.now c.requires.form

pub returns-in-None-clause-ends : goal.returns-in-None-clause-ends
returns-in-None-clause-ends g c =
    let old = c.args.self.now in
    subst (λ (x : Option ℕ). EndsTxn old old c.args.txn x reply.NoTxn) (sym (sym c.set_of.ensures ∙ c.in-None.is))
    (record { answers = refl; only = record { reading = record { id = refl; ledger = refl; seen = refl; latest = refl; taken = refl }; tasks = refl }; same = refl })
