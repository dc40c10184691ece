use Rattle.std.proofs.Common.{◌≡◌, None, refl, subst, sym}
use Rattle.bcv_machine.specs.State.{ToHold}
use Rattle.bcv_pages.specs.Held.{Held}
use Rattle.bcv_transaction.specs.Open.{txn_at}
use Rattle.bcv_transaction.specs.StepCalls.{PageCalls}
use Rattle.bcv_client.specs.PagesFound.{IsPagesOf}
use Rattle.bcv_client.specs.Transactions.{pages_for}
use Rattle.bcv_client.proofs.PagesCome.{comes_over, none_over}
use Rattle.bcv_client.proofs.PagesFound.{can_read, fetch_form, none_comes, pages_are}
use Rattle.bcv_client.proofs.TxnCalls.{comes_stay}
use Rattle.bcv_client.proofs.TxnForms.{form_stays}
use Rattle.bcv_client.proofs.client.Client.hold_now.Goals as goal

pub pages_of-requires : goal.pages_of-requires
pages_of-requires g c = c.requires.form.txns

pub hold-requires : goal.hold-requires
hold-requires g c =
    let old = c.args.self.now in
    let found : IsPagesOf old.ledger.databases old.txns c.args.txn c.in-Some.pages.now = rw c.in-Some.is at c.pages_of.ensures in
    can_read old.ledger.databases old.txns c.args.txn c.in-Some.pages.now found

pub returns-in-Some-clause-form : goal.returns-in-Some-clause-form
returns-in-Some-clause-form g c =
    let old = c.args.self.now in
    form_stays old.seen old.ledger.databases old.txns c.hold.new.self old.tasks.items
    (comes_stay ToHold c.in-Some.pages.now old.txns c.hold.new.self c.args.txn c.args.page c.hold.result c.is_full.ensures.are_open c.hold.ensures.holds)
    c.requires.form

pub returns-in-Some-clause-only : goal.returns-in-Some-clause-only
returns-in-Some-clause-only g c = record { reading = record { id = refl; ledger = refl; seen = refl; latest = refl; taken = refl }; tasks = refl }

pub returns-in-Some-clause-calls : goal.returns-in-Some-clause-calls
returns-in-Some-clause-calls g c =
    let old = c.args.self.now in
    let found : IsPagesOf old.ledger.databases old.txns c.args.txn c.in-Some.pages.now = rw c.in-Some.is at c.pages_of.ensures in
    subst (λ (h : Held). PageCalls ToHold h old.txns c.args.txn c.args.page c.hold.result c.hold.new.self)
    (sym (pages_are old.ledger.databases old.txns c.args.txn c.in-Some.pages.now found)) c.hold.ensures.holds

pub returns-in-Some-clause-fetch : goal.returns-in-Some-clause-fetch
returns-in-Some-clause-fetch g c =
    let old = c.args.self.now in
    let found : IsPagesOf old.ledger.databases old.txns c.args.txn c.in-Some.pages.now = rw c.in-Some.is at c.pages_of.ensures in
    fetch_form ToHold old.ledger.databases old.txns c.hold.new.self c.args.txn c.args.page c.in-Some.pages.now c.hold.result c.is_full.ensures.are_open found
    c.hold.ensures.holds

pub returns-in-Some-clause-comes : goal.returns-in-Some-clause-comes
returns-in-Some-clause-comes g c =
    let old = c.args.self.now in
    let found : IsPagesOf old.ledger.databases old.txns c.args.txn c.in-Some.pages.now = rw c.in-Some.is at c.pages_of.ensures in
    comes_over ToHold g.D.Disk.shown old _ c.args.txn c.args.page c.in-Some.pages.now c.hold.result c.requires.form
    (record { reading = record { id = refl; ledger = refl; seen = refl; latest = refl; taken = refl }; tasks = refl })
    c.is_full.ensures.are_open c.hold.ensures.are_open found c.hold.ensures.holds c.hold.ensures.machine

pub returns-in-None-clause-form : goal.returns-in-None-clause-form
returns-in-None-clause-form g c = c.requires.form

pub returns-in-None-clause-only : goal.returns-in-None-clause-only
returns-in-None-clause-only g c = record { reading = record { id = refl; ledger = refl; seen = refl; latest = refl; taken = refl }; tasks = refl }

pub returns-in-None-clause-calls : goal.returns-in-None-clause-calls
returns-in-None-clause-calls g c =
    let old = c.args.self.now in
    let none : txn_at c.args.txn old.txns.txns ≡ None = rw c.in-None.is at c.pages_of.ensures in
    none_comes ToHold (pages_for old.ledger.databases c.args.txn old.txns) old.txns c.args.txn c.args.page none

pub returns-in-None-clause-fetch : goal.returns-in-None-clause-fetch
returns-in-None-clause-fetch g c = tt

pub returns-in-None-clause-comes : goal.returns-in-None-clause-comes
returns-in-None-clause-comes g c =
    let old = c.args.self.now in
    let none : txn_at c.args.txn old.txns.txns ≡ None = rw c.in-None.is at c.pages_of.ensures in
    none_over ToHold g.D.Disk.shown old c.args.txn c.args.page c.requires.form none
