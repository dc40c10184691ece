use Rattle.std.proofs.Common.{◌++◌}
use Rattle.std.specs.Int.{w32, w64, to_be_bytes}
use Rattle.bcv_proto.proofs.Writers.{adds_more}
use Rattle.bcv_proto.proofs.writing.add_begun.Goals as goal

pub returns : goal.returns
returns c =
    let new = c.add_u32-2.new.into.items in
    adds_more c.add_u32-2.result c.args.into.now.items c.add_u64.new.into.items new (to_be_bytes w64 c.args.number) (to_be_bytes w32 c.args.page_size ++ to_be_bytes w32 c.args.pages) c.in_ok-add_u64.ensures
    (adds_more c.add_u32-2.result c.add_u64.new.into.items c.add_u32.new.into.items new (to_be_bytes w32 c.args.page_size) (to_be_bytes w32 c.args.pages) c.in_ok-add_u32.ensures c.add_u32-2.ensures)
