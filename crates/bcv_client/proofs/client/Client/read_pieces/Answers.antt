use Rattle.std.proofs.Common.{◌≡◌, ◌∙◌, ◌≤◌, Some, length, slice_get, sym, arith}
use Rattle.bcv_vfs.specs.Pieces.{pieces_of}
use Rattle.bcv_client.proofs.RangeJoins.{none_at, pieces_all, pieces_more, pieces_none, pieces_refused}
use Rattle.bcv_client.proofs.client.Client.read_pieces.Goals as goal

pub pieces_are_the_range-requires : goal.pieces_are_the_range-requires
pieces_are_the_range-requires g c = c.requires.size

pub loop-i-init : goal.loop-i-init
loop-i-init g c = record {
  reached = g.met.S.Store.same c.args.store.now;
  client = c.requires.client;
  read = pieces_none g.D.Disk.told g.D.Disk.shown g.S.Store.told (g.S.Store.shown c.args.store.now) c.args.self.now c.args.txn c.args.into.now.items c.requires.empty;
}

pub piece-requires : goal.piece-requires
piece-requires g c = c.requires.size

pub returns-in_default-clause-client : goal.returns-in_default-clause-client
returns-in_default-clause-client g c = c.loop-i.invariant.client

pub returns-in_default-clause-tried : goal.returns-in_default-clause-tried
returns-in_default-clause-tried g c =
    pieces_all g.D.Disk.told g.D.Disk.shown g.S.Store.told (g.S.Store.shown c.args.store.now) (g.S.Store.shown c.loop-i.store) c.args.self.now c.loop-i.self c.args.txn c.loop-i.i (pieces_of c.args.span.now)
    c.loop-i.into.items (none_at (pieces_of c.args.span.now) c.loop-i.i (sym c.piece.ensures.exact ∙ c.in_default.is)) c.loop-i.invariant.read

pub read_piece-requires : goal.read_piece-requires
read_piece-requires g c = record { client = c.loop-i.invariant.client }

pub returns-in-Err-clause-client : goal.returns-in-Err-clause-client
returns-in-Err-clause-client g c = c.read_piece.ensures.client

pub returns-in-Err-clause-tried : goal.returns-in-Err-clause-tried
returns-in-Err-clause-tried g c =
    let at : slice_get (pieces_of c.args.span.now) c.loop-i.i ≡ Some c.in-Some.piece = sym c.piece.ensures.exact ∙ c.in-Some.is in
    pieces_refused g.D.Disk.told g.D.Disk.shown g.S.Store.told (g.S.Store.shown c.args.store.now) (g.S.Store.shown c.loop-i.store) (g.S.Store.shown c.read_piece.new.store) c.args.self.now c.loop-i.self
    c.read_piece.new.self c.args.txn c.loop-i.i c.args.span.now c.in-Some.piece c.loop-i.into.items c.read_piece.new.into.items c.in-Err.reply at c.requires.is_open c.loop-i.invariant.read
    (rw c.in-Err.is at c.read_piece.ensures.reads)

pub loop-i-preserved : goal.loop-i-preserved
loop-i-preserved g c =
    let at : slice_get (pieces_of c.args.span.now) c.loop-i.i ≡ Some c.in-Some.piece = sym c.piece.ensures.exact ∙ c.in-Some.is in
    record {
      reached = g.met.S.Store.through c.args.store.now c.loop-i.store c.read_piece.new.store c.loop-i.invariant.reached c.read_piece.ensures.reached;
      client = c.read_piece.ensures.client;
      read =
          pieces_more g.D.Disk.told g.D.Disk.shown g.S.Store.told (g.S.Store.shown c.args.store.now) (g.S.Store.shown c.loop-i.store) (g.S.Store.shown c.read_piece.new.store) c.args.self.now c.loop-i.self
          c.read_piece.new.self c.args.txn c.loop-i.i (pieces_of c.args.span.now) c.in-Some.piece c.loop-i.into.items c.read_piece.new.into.items c.in-Ok.field-0 at c.loop-i.invariant.read
          (rw c.in-Ok.is at c.read_piece.ensures.reads);
    }

pub returns-clause-client : goal.returns-clause-client
returns-clause-client g c = c.loop-i.invariant.client

pub returns-clause-tried : goal.returns-clause-tried
returns-clause-tried g c =
    let few : length (pieces_of c.args.span.now) ≤ c.args.span.now.pages = c.pieces_are_the_range.ensures.few in
    let past : c.args.span.now.pages ≤ c.loop-i.i = c.loop-i-test.false in
    let all : length (pieces_of c.args.span.now) ≤ c.loop-i.i = omega (arith, few, past) in
    pieces_all g.D.Disk.told g.D.Disk.shown g.S.Store.told (g.S.Store.shown c.args.store.now) (g.S.Store.shown c.loop-i.store) c.args.self.now c.loop-i.self c.args.txn c.loop-i.i (pieces_of c.args.span.now)
    c.loop-i.into.items all c.loop-i.invariant.read

pub returns-in_default-clause-reached : goal.returns-in_default-clause-reached
returns-in_default-clause-reached g c = c.loop-i.invariant.reached

pub returns-in-Err-clause-reached : goal.returns-in-Err-clause-reached
returns-in-Err-clause-reached g c = g.met.S.Store.through c.args.store.now c.loop-i.store c.read_piece.new.store c.loop-i.invariant.reached c.read_piece.ensures.reached

pub returns-clause-reached : goal.returns-clause-reached
returns-clause-reached g c = c.loop-i.invariant.reached
