use Rattle.std.proofs.Common.{◌≡◌, None}
use Rattle.bcv_transaction.specs.Open.{txn_at}
use Rattle.bcv_client.specs.PagesFound.{IsPagesOf}
use Rattle.bcv_client.proofs.PagesCome.{looks_over, none_looks}
use Rattle.bcv_client.proofs.PagesFound.{can_read}
use Rattle.bcv_client.proofs.client.Client.look.Goals as goal

pub pages_of-requires : goal.pages_of-requires
pages_of-requires g c = c.requires.form.txns

pub look-requires : goal.look-requires
look-requires g c =
    let old = c.args.self.now in
    let found : IsPagesOf old.ledger.databases old.txns c.args.txn c.in-Some.pages.now = rw c.in-Some.is at c.pages_of.ensures in
    can_read old.ledger.databases old.txns c.args.txn c.in-Some.pages.now found

pub returns-in-Some : goal.returns-in-Some
returns-in-Some g c =
    let old = c.args.self.now in
    let found : IsPagesOf old.ledger.databases old.txns c.args.txn c.in-Some.pages.now = rw c.in-Some.is at c.pages_of.ensures in
    looks_over g.D.Disk.shown old c.args.txn c.args.page c.in-Some.pages.now c.look.result c.requires.form found c.look.ensures.machine

pub returns-in-None : goal.returns-in-None
returns-in-None g c =
    let old = c.args.self.now in
    let none : txn_at c.args.txn old.txns.txns ≡ None = rw c.in-None.is at c.pages_of.ensures in
    none_looks g.D.Disk.shown old c.args.txn c.args.page c.requires.form none
