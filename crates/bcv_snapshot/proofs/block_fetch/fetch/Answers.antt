use Rattle.std.proofs.Common.{◌≡◌, ◌∙◌, ℕ, None, sym, ap, subst}
use Rattle.bcv_base.specs.declared.object.ObjName.TheVariants as object
use Rattle.bcv_cache.specs.Entry.{Blocks}
use Rattle.bcv_store.specs.Requests.{StoreGets}
use Rattle.bcv_snapshot.specs.declared.fetched.Fetched.TheVariants as fetched
use Rattle.bcv_snapshot.proofs.FetchLaws.{block_gets, none_got, fetches_get}
use Rattle.bcv_snapshot.proofs.block_fetch.fetch.Goals as goal

pub returns-in-Err-clause-fetches : goal.returns-in-Err-clause-fetches
returns-in-Err-clause-fetches g c =
    fetches_get g.S.Store.told (g.S.Store.shown c.args.store.now) (g.S.Store.shown c.args.store.now) c.args.id c.args.cache.now c.find.new.self fetched.NoMemory c.find.new.self
    c.in_default.ensures.same (sym c.in_default.ensures.slot) (sym c.if-not-room.ensures.room) (none_got g.S.Store.told (g.S.Store.shown c.args.store.now) c.args.id c.find.new.self)

pub returns-clause-fetches : goal.returns-clause-fetches
returns-clause-fetches g c =
    let block : c.args.block ≡ c.find.new.self.block = sym (ap (λ (x : Blocks). x.block) c.in_default.ensures.same ∙ c.requires.block) in
    let gets = subst (λ (n : ℕ). StoreGets g.S.Store.told (g.S.Store.shown c.args.store.now) (g.S.Store.shown c.get-got.new.self) (object.Block c.args.id) None n c.get-got.new.into.items c.get-got.result) block c.get-got.ensures.gets in
    fetches_get g.S.Store.told (g.S.Store.shown c.args.store.now) (g.S.Store.shown c.get-got.new.self) c.args.id c.args.cache.now c.find.new.self c.take_answer.result c.take_answer.new.cache
    c.in_default.ensures.same (sym c.in_default.ensures.slot) (sym c.if-not-room.ensures.room)
    (block_gets g.S.Store.told (g.S.Store.shown c.args.store.now) (g.S.Store.shown c.get-got.new.self) c.get-got.result c.get-got.new.into.items c.args.id c.find.new.self c.take_answer.result c.take_answer.new.cache gets c.take_answer.ensures.answered)
