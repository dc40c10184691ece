use Rattle.std.proofs.Common.{◌≡◌, ◌∙◌, None, Some, sym}
use Rattle.bcv_databases.specs.Catalog.{found_at, shown_view}
use Rattle.bcv_client.specs.TxnBegins.{base_over}
use Rattle.bcv_client.proofs.TxnBegins.{base_named, begins_locally, begins_only, full_begins, named_locally, unknown_begins, with_commits, without_commits}
use Rattle.bcv_client.proofs.client.Client.begin.Goals as goal

pub returns-in_default-clause-machine : goal.returns-in_default-clause-machine
returns-in_default-clause-machine g c =
    let old = c.args.self.now in
    let none : None ≡ found_at old.ledger.databases c.args.db.now = rw c.in_default.is at c.find.ensures.found in
    unknown_begins g.D.Disk.shown old c.args.db.now (sym none)

pub returns-then-full-clause-machine : goal.returns-then-full-clause-machine
returns-then-full-clause-machine g c =
    let old = c.args.self.now in
    let there : Some (shown_view c.in-Some.view) ≡ found_at old.ledger.databases c.args.db.now = rw c.in-Some.is at c.find.ensures.found in
    full_begins g.D.Disk.shown old c.args.db.now (shown_view c.in-Some.view) (sym there) (sym c.is_full-full.ensures.full ∙ c.if-full.true)

pub begin_over-requires-clause-has : goal.begin_over-requires-clause-has
begin_over-requires-clause-has g c =
    let old = c.args.self.now in
    let there : Some (shown_view c.in-Some.view) ≡ found_at old.ledger.databases c.args.db.now = rw c.in-Some.is at c.find.ensures.found in
    let is : c.in-Ok.base ≡ base_over (shown_view c.in-Some.view) = rw c.in-Ok.is at c.view_base.ensures in
    with_commits old.ledger.databases c.args.db.now (shown_view c.in-Some.view) c.find.ensures.sound c.in-Some-commits.at (sym there) c.in-Some-commits.is c.in-Ok.base is

pub begin_alone-requires-clause-alone : goal.begin_alone-requires-clause-alone
begin_alone-requires-clause-alone g c =
    let old = c.args.self.now in
    let there : Some (shown_view c.in-Some.view) ≡ found_at old.ledger.databases c.args.db.now = rw c.in-Some.is at c.find.ensures.found in
    let is : c.in-Ok.base ≡ base_over (shown_view c.in-Some.view) = rw c.in-Ok.is at c.view_base.ensures in
    without_commits old.ledger.databases c.args.db.now (shown_view c.in-Some.view) c.find.ensures.sound (sym there) c.in-None.is c.in-Ok.base is

pub returns-in-Some-commits-clause-machine : goal.returns-in-Some-commits-clause-machine
returns-in-Some-commits-clause-machine g c =
    let old = c.args.self.now in
    let there : Some (shown_view c.in-Some.view) ≡ found_at old.ledger.databases c.args.db.now = rw c.in-Some.is at c.find.ensures.found in
    let is : c.in-Ok.base ≡ base_over (shown_view c.in-Some.view) = rw c.in-Ok.is at c.view_base.ensures in
    let named = base_named old.ledger.databases c.args.db.now (shown_view c.in-Some.view) c.find.ensures.sound (sym there) c.in-Ok.base is in
    begins_locally g.D.Disk.shown old c.begin_over.new.self c.in-Ok.base.entry.name c.args.db.now c.begin_over.result c.begun_reply.result named c.begun_reply.ensures c.begin_over.ensures.machine

pub returns-in-Some-commits-clause-only : goal.returns-in-Some-commits-clause-only
returns-in-Some-commits-clause-only g c = begins_only c.args.self.now c.begin_over.new.self c.begin_over.ensures.only

pub returns-in-None-clause-machine : goal.returns-in-None-clause-machine
returns-in-None-clause-machine g c =
    let old = c.args.self.now in
    let there : Some (shown_view c.in-Some.view) ≡ found_at old.ledger.databases c.args.db.now = rw c.in-Some.is at c.find.ensures.found in
    let is : c.in-Ok.base ≡ base_over (shown_view c.in-Some.view) = rw c.in-Ok.is at c.view_base.ensures in
    let named = base_named old.ledger.databases c.args.db.now (shown_view c.in-Some.view) c.find.ensures.sound (sym there) c.in-Ok.base is in
    named_locally g.D.Disk.shown old c.begin_alone.new.self c.in-Ok.base.entry.name c.args.db.now c.begin_alone.result named c.begin_alone.ensures.machine
