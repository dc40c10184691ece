use Rattle.bcv_transaction.proofs.FetchMoves.{open_fetched, size_fetched}
use Rattle.bcv_transaction.proofs.txn_list.fetch_in.Goals as goal

pub returns-clause-are_open : goal.returns-clause-are_open
returns-clause-are_open g c =
    open_fetched c.args.txns.now g.S.Store.told (g.S.Store.shown c.args.store.now) (g.S.Store.shown c.fetch.new.store) c.args.id c.args.cache.now c.fetch.new.cache c.fetch.result c.requires.are_open c.fetch.ensures.pinned_stay c.fetch.ensures.fetches

pub returns-clause-size : goal.returns-clause-size
returns-clause-size g c =
    size_fetched c.args.txns.now g.S.Store.told (g.S.Store.shown c.args.store.now) (g.S.Store.shown c.fetch.new.store) c.args.id c.args.cache.now c.fetch.new.cache c.fetch.result c.requires.are_open c.fetch.ensures.fetches
