use Rattle.std.proofs.Common.{◌∙◌, Some, sym}
use Rattle.std.proofs.lemmas.Option.{same_Some}
use Rattle.bcv_publish.specs.declared.work.Work.TheVariants as work
use Rattle.bcv_transaction.proofs.FitLaws.{upload_leaves_fit}
use Rattle.bcv_transaction.proofs.Uploads.{is_made, never_none, none_made, over_cache, size_made, still_over, uploads}
use Rattle.bcv_transaction.proofs.transactions.Transactions.upload.Goals as goal
use Rattle.bcv_upload.specs.State.{view_in}

pub returns-then-is_err-clause-uploads : goal.returns-then-is_err-clause-uploads
returns-then-is_err-clause-uploads g c =
    none_made g.S.Store.told c.args.seen.now (view_in c.args.pages.now c.args.task.now.base) c.args.self.now c.open_cache.new.self
    (record { store = g.S.Store.shown c.args.store.now; names = g.N.Names.shown c.args.names.now; upload = c.args.task.now })
    c.in-Some.block c.open_cache.result c.open_cache.ensures.made (sym c.is_err.ensures.value ∙ c.if-is_err.true)

pub upload_in-requires-clause-are_open : goal.upload_in-requires-clause-are_open
upload_in-requires-clause-are_open g c =
    over_cache c.self.inside.slots c.self.inside.cache c.self.inside.txns.items c.deref.result.now c.in-Some-cache.cache c.self.invariant c.in-Some-cache.is c.deref.ensures.value

pub upload_in-requires-clause-block : goal.upload_in-requires-clause-block
upload_in-requires-clause-block g c =
    size_made c.args.self.now (record { slots = c.self.inside.slots; cache = c.self.inside.cache; txns = c.self.inside.txns.items }) c.in-Some.block c.args.task.now.base.block c.in-Some-cache.cache
    (is_made c.args.self.now c.open_cache.new.self (record { slots = c.self.inside.slots; cache = c.self.inside.cache; txns = c.self.inside.txns.items }) c.in-Some.block c.open_cache.result c.in-Some-cache.cache c.open_cache.ensures.made (sym c.is_err.ensures.value ∙ c.if-is_err.false) c.self.view_is c.in-Some-cache.is)
    (same_Some c.in-Some.block c.args.task.now.base.block (sym c.in-Some.is ∙ c.requires.seen)) c.requires.same_block

pub unreachable-requires-in-None-cache : goal.unreachable-requires-in-None-cache
unreachable-requires-in-None-cache g c =
    never_none c.args.self.now c.open_cache.new.self (record { slots = c.self.inside.slots; cache = c.self.inside.cache; txns = c.self.inside.txns.items }) c.in-Some.block c.open_cache.result c.open_cache.ensures.made (sym c.is_err.ensures.value ∙ c.if-is_err.false) c.self.view_is c.in-None-cache.is

pub invariant_of-self : goal.invariant_of-self
invariant_of-self g c =
    still_over c.self.inside.slots c.self.inside.cache c.self.inside.txns.items c.deref.result.now c.in-Some-cache.cache c.upload_in.new.cache c.self.invariant c.in-Some-cache.is c.deref.ensures.value
    c.upload_in.ensures.are_open c.upload_in.ensures.size

pub returns-clause-are_open : goal.returns-clause-are_open
returns-clause-are_open g c =
    still_over c.self.inside.slots c.self.inside.cache c.self.inside.txns.items c.deref.result.now c.in-Some-cache.cache c.upload_in.new.cache c.self.invariant c.in-Some-cache.is c.deref.ensures.value
    c.upload_in.ensures.are_open c.upload_in.ensures.size

pub returns-clause-uploads : goal.returns-clause-uploads
returns-clause-uploads g c =
    uploads g.S.Store.told c.args.seen.now (view_in c.args.pages.now c.args.task.now.base) c.args.self.now (record { slots = c.self.inside.slots; cache = c.self.inside.cache; txns = c.self.inside.txns.items })
    (record { store = g.S.Store.shown c.args.store.now; names = g.N.Names.shown c.args.names.now; upload = c.args.task.now })
    (record { store = g.S.Store.shown c.upload_in.new.store; names = g.N.Names.shown c.upload_in.new.names; upload = c.upload_in.new.task })
    c.upload_in.result c.in-Some.block c.in-Some-cache.cache c.upload_in.new.cache
    (is_made c.args.self.now c.open_cache.new.self (record { slots = c.self.inside.slots; cache = c.self.inside.cache; txns = c.self.inside.txns.items }) c.in-Some.block c.open_cache.result c.in-Some-cache.cache c.open_cache.ensures.made (sym c.is_err.ensures.value ∙ c.if-is_err.false) c.self.view_is c.in-Some-cache.is)
    (same_Some c.in-Some.block c.args.task.now.base.block (sym c.in-Some.is ∙ c.requires.seen)) c.upload_in.ensures.works

pub returns-then-is_err-clause-fit : goal.returns-then-is_err-clause-fit
returns-then-is_err-clause-fit g c =
    upload_leaves_fit g.S.Store.told c.args.seen.now (view_in c.args.pages.now c.args.task.now.base) c.args.self.now c.open_cache.new.self
    (record { store = g.S.Store.shown c.args.store.now; names = g.N.Names.shown c.args.names.now; upload = c.args.task.now })
    (record { store = g.S.Store.shown c.args.store.now; names = g.N.Names.shown c.args.names.now; upload = c.args.task.now })
    work.NoMemory (returns-then-is_err-clause-uploads g c)

pub returns-clause-fit : goal.returns-clause-fit
returns-clause-fit g c =
    upload_leaves_fit g.S.Store.told c.args.seen.now (view_in c.args.pages.now c.args.task.now.base) c.args.self.now (record { slots = c.self.inside.slots; cache = Some c.upload_in.new.cache; txns = c.self.inside.txns.items })
    (record { store = g.S.Store.shown c.args.store.now; names = g.N.Names.shown c.args.names.now; upload = c.args.task.now })
    (record { store = g.S.Store.shown c.upload_in.new.store; names = g.N.Names.shown c.upload_in.new.names; upload = c.upload_in.new.task })
    c.upload_in.result (returns-clause-uploads g c)
