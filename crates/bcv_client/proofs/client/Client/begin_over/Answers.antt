use Rattle.std.proofs.Common.{◌≡◌, Some, refl, rules}
use Rattle.bcv_databases.specs.Catalog.{set_at}
use Rattle.bcv_client.proofs.TxnBegins.{base_is_block, base_rules, begun_of, form_of_begun, same_block}
use Rattle.bcv_client.proofs.client.Client.begin_over.Goals as goal

pub begin-requires-clause-entry : goal.begin-requires-clause-entry
begin-requires-clause-entry g c = base_rules c.args.self.now c.args.base c.requires.has.known c.requires.form

pub begin-requires-clause-block : goal.begin-requires-clause-block
begin-requires-clause-block g c = base_is_block c.args.self.now c.args.base c.requires.has.known c.requires.form

pub begin-requires-clause-same_block : goal.begin-requires-clause-same_block
begin-requires-clause-same_block g c = same_block c.args.self.now c.args.base c.requires.has.known c.requires.form

pub returns-clause-form : goal.returns-clause-form
returns-clause-form g c =
    let old = c.args.self.now in
    let at : set_at old.ledger.databases.sets c.args.set ≡ Some c.in-Some.pages.now = (search rules) in
    form_of_begun old (record old { txns = c.begin.new.self }) c.args.base c.args.set c.begin.result c.requires.form c.requires.has
    (record { reading = record { id = refl; ledger = refl; seen = refl; latest = refl; taken = refl }; tasks = refl }) c.in-Some.pages.now at c.begin.ensures.begins

pub returns-clause-machine : goal.returns-clause-machine
returns-clause-machine g c =
    let old = c.args.self.now in
    let at : set_at old.ledger.databases.sets c.args.set ≡ Some c.in-Some.pages.now = (search rules) in
    begun_of old (record old { txns = c.begin.new.self }) c.args.base c.args.set c.begin.result c.requires.form c.requires.has
    (record { reading = record { id = refl; ledger = refl; seen = refl; latest = refl; taken = refl }; tasks = refl }) c.in-Some.pages.now at c.begin.ensures.begins
    g.D.Disk.shown c.begin.ensures.are_open c.commits_fit.ensures c.begin.ensures.machine
