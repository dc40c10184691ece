use Rattle.std.proofs.Common.{◌≡◌, ◌∙◌, None, Some, ap, sym}
use Rattle.bcv_transaction.specs.Open.{base_in, txn_at}
use Rattle.bcv_client.specs.PagesFound.{IsPagesOf}
use Rattle.bcv_client.proofs.PagesFound.{base_there, can_view, not_opened, opened_so}
use Rattle.bcv_client.proofs.client.Client.opened.Goals as goal

pub pages_of-requires : goal.pages_of-requires
pages_of-requires g c = c.requires.form.txns

pub numbers_of-requires : goal.numbers_of-requires
numbers_of-requires g c =
    let old = c.args.self.now in
    let found : IsPagesOf old.ledger.databases old.txns c.args.txn c.in-Some.pages.now = rw c.in-Some.is at c.pages_of.ensures in
    let there : Some c.in-Some-opened.base.now ≡ base_in c.args.txn old.txns.txns = rw c.in-Some-opened.is at c.opened.ensures in
    let base : base_in c.args.txn old.txns.txns ≡ Some c.in-Some-opened.base.now = sym there in
    can_view old.ledger.databases old.txns c.args.txn c.in-Some.pages.now c.in-Some-opened.base.now found base

pub returns-in-Some-opened : goal.returns-in-Some-opened
returns-in-Some-opened g c =
    let old = c.args.self.now in
    let found : IsPagesOf old.ledger.databases old.txns c.args.txn c.in-Some.pages.now = rw c.in-Some.is at c.pages_of.ensures in
    let there : Some c.in-Some-opened.base.now ≡ base_in c.args.txn old.txns.txns = rw c.in-Some-opened.is at c.opened.ensures in
    let base : base_in c.args.txn old.txns.txns ≡ Some c.in-Some-opened.base.now = sym there in
    ap Some c.numbers_of.ensures ∙ opened_so old.ledger.databases old.txns c.args.txn c.in-Some.pages.now c.in-Some-opened.base.now found base

pub returns-in-None-opened : goal.returns-in-None-opened
returns-in-None-opened g c =
    let old = c.args.self.now in
    let found : IsPagesOf old.ledger.databases old.txns c.args.txn c.in-Some.pages.now = rw c.in-Some.is at c.pages_of.ensures in
    let away : None ≡ base_in c.args.txn old.txns.txns = rw c.in-None-opened.is at c.opened.ensures in
    let none : base_in c.args.txn old.txns.txns ≡ None = sym away in
    absurd (base_there old.ledger.databases old.txns c.args.txn c.in-Some.pages.now found none)

pub returns-in-None : goal.returns-in-None
returns-in-None g c =
    let old = c.args.self.now in
    let none : txn_at c.args.txn old.txns.txns ≡ None = rw c.in-None.is at c.pages_of.ensures in
    sym (not_opened c.args.txn old.txns none)
