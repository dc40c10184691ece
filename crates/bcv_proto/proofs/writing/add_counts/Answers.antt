use Rattle.std.proofs.Common.{◌++◌}
use Rattle.std.specs.Int.{w32, w64, to_be_bytes}
use Rattle.bcv_proto.proofs.Writers.{adds_more}
use Rattle.bcv_proto.proofs.writing.add_counts.Goals as goal

pub returns : goal.returns
returns c =
    let r = c.args.row.now in
    let new = c.add_u64-2.new.into.items in
    adds_more c.add_u64-2.result c.args.into.now.items c.add_u64.new.into.items new (to_be_bytes w64 r.number) (to_be_bytes w32 r.pages ++ to_be_bytes w64 r.commits) c.in_ok-add_u64.ensures
    (adds_more c.add_u64-2.result c.add_u64.new.into.items c.add_u32.new.into.items new (to_be_bytes w32 r.pages) (to_be_bytes w64 r.commits) c.in_ok-add_u32.ensures c.add_u64-2.ensures)
