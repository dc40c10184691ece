use Rattle.std.proofs.Common.{take}
use Rattle.bcv_vfs.specs.Pieces.{pieces_of}
use Rattle.bcv_client.specs.InForm.{IsClient}
use Rattle.bcv_client.specs.RangeReads.{PiecesRead}
use Rattle.bcv_client.proofs.client.Client.read_pieces.Given as goal

abbrev pub invariant-loop-i : goal.invariant-loop-i
invariant-loop-i g l = record {
  reached : g.S.Store.reaches l.initial.store l.store;
  client : IsClient l.self;
  read : PiecesRead g.D.Disk.told g.D.Disk.shown g.S.Store.told (g.S.Store.shown l.initial.store) (g.S.Store.shown l.store) l.initial.self l.self l.txn (take l.i (pieces_of l.span)) l.into.items;
}
