use Rattle.std.proofs.Common.{◌≡◌, ◌∙◌, Some, option_map, sym, ℕ}
use Rattle.bcv_client.specs.RangeReads.{span_of}
use Rattle.bcv_client.specs.Transactions.{opened_as}
use Rattle.bcv_client.proofs.RangeJoins.{range_ends, range_none}
use Rattle.bcv_client.proofs.RangeSteps.{opened_there}
use Rattle.bcv_client.proofs.client.Client.read_at.Goals as goal

pub span_of-requires : goal.span_of-requires
span_of-requires g c = record { form = c.requires.client.form }

pub pieces_are_the_range-requires : goal.pieces_are_the_range-requires
pieces_are_the_range-requires g c = rw c.in-Some.is at c.span_of.ensures.size

pub read_pieces-tried-requires-clause-client : goal.read_pieces-tried-requires-clause-client
read_pieces-tried-requires-clause-client g c = c.requires.client

pub read_pieces-tried-requires-clause-is_open : goal.read_pieces-tried-requires-clause-is_open
read_pieces-tried-requires-clause-is_open g c = opened_there c.args.self.now.txns c.args.txn c.args.off c.args.len c.in-Some.span (sym c.in-Some.is ∙ c.span_of.ensures.span)

pub read_pieces-tried-requires-clause-size : goal.read_pieces-tried-requires-clause-size
read_pieces-tried-requires-clause-size g c = rw c.in-Some.is at c.span_of.ensures.size

pub read_pieces-tried-requires-clause-empty : goal.read_pieces-tried-requires-clause-empty
read_pieces-tried-requires-clause-empty g c = c.clear.ensures.items

pub returns-in-Some-clause-client : goal.returns-in-Some-clause-client
returns-in-Some-clause-client g c = c.read_pieces-tried.ensures.client

pub returns-in-Some-clause-reads : goal.returns-in-Some-clause-reads
returns-in-Some-clause-reads g c =
    let found : option_map (λ (x : ℕ × ℕ × ℕ). span_of x c.args.off c.args.len) (opened_as c.args.txn c.args.self.now.txns) ≡ Some c.in-Some.span = sym c.span_of.ensures.span ∙ c.in-Some.is in
    range_ends g.D.Disk.told g.D.Disk.shown g.S.Store.told (g.S.Store.shown c.args.store.now) (g.S.Store.shown c.read_pieces-tried.new.store) c.args.self.now c.read_pieces-tried.new.self c.args.txn c.args.off c.args.len
    c.in-Some.span c.read_pieces-tried.new.into.items c.ends.new.into.items found c.read_pieces-tried.result c.ends.result c.pieces_are_the_range.ensures.whole c.read_pieces-tried.ensures.tried c.ends.ensures

pub returns-in-None-clause-client : goal.returns-in-None-clause-client
returns-in-None-clause-client g c = c.requires.client

pub returns-in-None-clause-reads : goal.returns-in-None-clause-reads
returns-in-None-clause-reads g c =
    range_none g.D.Disk.told g.D.Disk.shown g.S.Store.told (g.S.Store.shown c.args.store.now) c.args.self.now c.args.txn c.args.off c.args.len c.clear.new.self.items (sym c.in-None.is ∙ c.span_of.ensures.span) c.clear.ensures.items

pub returns-in-Some-clause-reached : goal.returns-in-Some-clause-reached
returns-in-Some-clause-reached g c = c.read_pieces-tried.ensures.reached

pub returns-in-None-clause-reached : goal.returns-in-None-clause-reached
returns-in-None-clause-reached g c = g.met.S.Store.same c.args.store.now
