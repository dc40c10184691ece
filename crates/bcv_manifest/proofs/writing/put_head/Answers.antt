use Rattle.std.specs.Int.{w32, w64, to_be_bytes}
use Rattle.bcv_base.specs.ManifestText.{magic}
use Rattle.bcv_manifest.proofs.Joined.{joined6, on_ok}
use Rattle.bcv_manifest.proofs.writing.put_head.Goals as goal

pub returns : goal.returns
returns c =
    let m = c.args.manifest.now in
    on_ok c.put_id.result
    (joined6 c.args.out.now.items magic (to_be_bytes w64 m.number) (to_be_bytes w64 m.moment) (to_be_bytes w32 m.block) (to_be_bytes w64 m.retention) m.id.0
    c.in_ok-extend_from_slice.ensures.items c.in_ok-put_u64.ensures c.in_ok-put_u64-2.ensures c.in_ok-put_u32.ensures c.in_ok-put_u64-3.ensures)
    c.put_id.ensures
