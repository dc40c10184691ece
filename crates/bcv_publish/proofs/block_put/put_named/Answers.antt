use Rattle.std.proofs.Common.{◌≡◌, List, ℕ, sym, subst}
use Rattle.bcv_base.specs.declared.id.Id16.{Id16}
use Rattle.bcv_publish.specs.declared.work.BlockEnd.TheVariants as block
use Rattle.bcv_publish.specs.BlockPut.{BlockPuts}
use Rattle.bcv_publish.proofs.BlockPutLaws.{block_puts, none_puts, undrawn_puts}
use Rattle.bcv_publish.proofs.block_put.put_named.Goals as goal

pub returns-then-is_err-clause-puts : goal.returns-then-is_err-clause-puts
returns-then-is_err-clause-puts g c =
    subst (λ (ids : List Id16). BlockPuts g.S.Store.told (g.S.Store.shown c.args.store.now) (g.S.Store.shown c.args.store.now) (g.N.Names.shown c.args.names.now) (g.N.Names.shown c.args.names.now) c.args.bytes.now c.args.ids.now.items block.NoMemory ids)
    (sym c.reserve.ensures.items) (none_puts g.S.Store.told (g.S.Store.shown c.args.store.now) (g.N.Names.shown c.args.names.now) c.args.bytes.now c.args.ids.now.items)

pub returns-in-Failed-clause-puts : goal.returns-in-Failed-clause-puts
returns-in-Failed-clause-puts g c =
    subst (λ (ids : List Id16). BlockPuts g.S.Store.told (g.S.Store.shown c.args.store.now) (g.S.Store.shown c.args.store.now) (g.N.Names.shown c.args.names.now) (g.N.Names.shown c.draw.new.self) c.args.bytes.now c.args.ids.now.items block.NamesFault ids)
    (sym c.reserve.ensures.items)
    (undrawn_puts g.S.Store.told (g.S.Store.shown c.args.store.now) (g.N.Names.shown c.args.names.now) (g.N.Names.shown c.draw.new.self) c.args.bytes.now c.args.ids.now.items c.in-Failed.ensures.draws.names c.in-Failed.ensures.draws.cause)

pub returns-clause-puts : goal.returns-clause-puts
returns-clause-puts g c =
    subst (λ (ids : List Id16). BlockPuts g.S.Store.told (g.S.Store.shown c.args.store.now) (g.S.Store.shown c.put-answer.new.self) (g.N.Names.shown c.args.names.now) (g.N.Names.shown c.draw.new.self) c.args.bytes.now ids c.named.result c.named.new.ids.items)
    c.reserve.ensures.items
    (block_puts g.S.Store.told (g.S.Store.shown c.args.store.now) (g.S.Store.shown c.put-answer.new.self) (g.N.Names.shown c.args.names.now) (g.N.Names.shown c.draw.new.self) c.in-Drawn.id c.args.bytes.now c.put-answer.result
    c.reserve.new.self.items c.named.result c.named.new.ids.items c.in-Drawn.ensures.draws.names c.in-Drawn.ensures.draws.cause c.put-answer.ensures.puts c.named.ensures.answered)
