use Rattle.std.proofs.Common.{refl, sym, ap}
use Rattle.bcv_databases.specs.Slots.{OpensSet}
use Rattle.bcv_model.specs.declared.reply.Reply.TheVariants as reply
use Rattle.bcv_transaction.specs.OpenCalls.{Begins}
use Rattle.bcv_transaction.specs.declared.answers.Begun.TheVariants as begun
use Rattle.bcv_client.specs.ClientParts.{sets_in}
use Rattle.bcv_client.specs.TxnBegins.{begun_reply}
use Rattle.bcv_client.proofs.TxnBegins.{back_still, begins_locally, begun_from, form_back, form_mid, mid_still, none_back, only_back, opened_has, with_databases}
use Rattle.bcv_client.proofs.client.Client.begin_alone.Goals as goal

pub returns-in_default-clause-form : goal.returns-in_default-clause-form
returns-in_default-clause-form g c =
    let old = c.args.self.now in
    form_mid old (with_databases old.ledger c.open_set.new.self c.open_set.ensures.same.kept) refl c.open_set.ensures.same c.requires.form

pub returns-in_default-clause-machine : goal.returns-in_default-clause-machine
returns-in_default-clause-machine g c =
    let old = c.args.self.now in
    mid_still old _ refl c.open_set.ensures.same c.requires.form g.D.Disk.shown _

pub begin_over-requires-clause-form : goal.begin_over-requires-clause-form
begin_over-requires-clause-form g c =
    let old = c.args.self.now in
    form_mid old (with_databases old.ledger c.open_set.new.self c.open_set.ensures.same.kept) refl c.open_set.ensures.same c.requires.form

pub begin_over-requires-clause-has : goal.begin_over-requires-clause-has
begin_over-requires-clause-has g c =
    let d = c.args.self.now.ledger.databases in
    let opens : OpensSet d c.open_set.new.self c.args.base.entry.page_size c.in-Ok.set = rw c.in-Ok.is at c.open_set.ensures.set in
    opened_has d c.open_set.new.self c.args.base c.in-Ok.set c.open_set.ensures.same opens c.requires.alone

pub returns-in-Number-clause-machine : goal.returns-in-Number-clause-machine
returns-in-Number-clause-machine g c =
    let old = c.args.self.now in
    let name = c.args.base.entry.name in
    begins_locally g.D.Disk.shown old c.begin_over.new.self name name c.begin_over.result (reply.Txn c.in-Number.number) refl (sym (ap begun_reply c.in-Number.is))
    (begun_from old _ refl c.open_set.ensures.same c.requires.form g.D.Disk.shown c.begin_over.new.self name c.begin_over.result c.begin_over.ensures.machine)

pub returns-in-NoMemory-clause-form : goal.returns-in-NoMemory-clause-form
returns-in-NoMemory-clause-form g c =
    let old = c.args.self.now in
    let opens : OpensSet old.ledger.databases c.open_set.new.self c.args.base.entry.page_size c.in-Ok.set = rw c.in-Ok.is at c.open_set.ensures.set in
    let none : Begins old.txns c.args.base c.in-Ok.set (sets_in c.open_set.new.self c.in-Ok.set) begun.NoMemory c.begin_over.new.self.txns = rw c.in-NoMemory.is at c.begin_over.ensures.begins in
    form_back old c.begin_over.new.self _ c.trim.new.self c.args.base c.in-Ok.set c.requires.form c.kept.ensures.sound refl c.open_set.ensures.same c.open_set.ensures.uses opens
    c.begin_over.ensures.only c.begin_over.ensures.form none c.trim.ensures.log c.trim.ensures.trims

pub returns-in-NoMemory-clause-machine : goal.returns-in-NoMemory-clause-machine
returns-in-NoMemory-clause-machine g c =
    let old = c.args.self.now in
    let opens : OpensSet old.ledger.databases c.open_set.new.self c.args.base.entry.page_size c.in-Ok.set = rw c.in-Ok.is at c.open_set.ensures.set in
    let none : Begins old.txns c.args.base c.in-Ok.set (sets_in c.open_set.new.self c.in-Ok.set) begun.NoMemory c.begin_over.new.self.txns = rw c.in-NoMemory.is at c.begin_over.ensures.begins in
    back_still old c.begin_over.new.self _ c.trim.new.self c.args.base c.in-Ok.set c.requires.form c.kept.ensures.sound refl c.open_set.ensures.same c.open_set.ensures.uses opens
    c.begin_over.ensures.only c.begin_over.ensures.form none c.trim.ensures.log c.trim.ensures.trims g.D.Disk.shown _ c.args.base.entry.name c.begin_over.result c.begin_over.ensures.machine

pub returns-in-NoMemory-clause-only : goal.returns-in-NoMemory-clause-only
returns-in-NoMemory-clause-only g c =
    let old = c.args.self.now in
    let opens : OpensSet old.ledger.databases c.open_set.new.self c.args.base.entry.page_size c.in-Ok.set = rw c.in-Ok.is at c.open_set.ensures.set in
    let none : Begins old.txns c.args.base c.in-Ok.set (sets_in c.open_set.new.self c.in-Ok.set) begun.NoMemory c.begin_over.new.self.txns = rw c.in-NoMemory.is at c.begin_over.ensures.begins in
    only_back old c.begin_over.new.self _ c.trim.new.self c.args.base c.in-Ok.set c.requires.form c.kept.ensures.sound refl c.open_set.ensures.same c.open_set.ensures.uses opens
    c.begin_over.ensures.only c.begin_over.ensures.form none c.trim.ensures.log c.trim.ensures.trims

pub returns-in-NoMemory-clause-begins : goal.returns-in-NoMemory-clause-begins
returns-in-NoMemory-clause-begins g c =
    let old = c.args.self.now in
    let opens : OpensSet old.ledger.databases c.open_set.new.self c.args.base.entry.page_size c.in-Ok.set = rw c.in-Ok.is at c.open_set.ensures.set in
    let none : Begins old.txns c.args.base c.in-Ok.set (sets_in c.open_set.new.self c.in-Ok.set) begun.NoMemory c.begin_over.new.self.txns = rw c.in-NoMemory.is at c.begin_over.ensures.begins in
    none_back old c.begin_over.new.self _ c.trim.new.self c.args.base c.in-Ok.set c.requires.form c.kept.ensures.sound refl c.open_set.ensures.same c.open_set.ensures.uses opens
    c.begin_over.ensures.only c.begin_over.ensures.form none c.trim.ensures.log c.trim.ensures.trims c.requires.few
