use Rattle.std.proofs.Common.{◌<◌, ◌∙◌, ◌++◌, [], length, take, get_or, slice_set, arith, ap}
use Rattle.std.proofs.lemmas.List.FromFn.{length-map-range_with_len}
use Rattle.bcv_dbmap.specs.Checked.{zero_id}
use Rattle.bcv_upload.specs.State.{block_id}
use Rattle.bcv_upload.proofs.BlockIds.{zeroed_more, zeroed_none}
use Rattle.bcv_upload.proofs.BlockNumbers.{all_at}
use Rattle.bcv_upload.proofs.view_entry.kept_ids.Goals as goal

pub loop-number-init : goal.loop-number-init
loop-number-init c =
    zeroed_none c.args.base.now c.min-kept.result c.args.needed _ _ _ c.min-kept.ensures (c.in_ok-extend_from_slice.ensures.items ∙ ap (λ xs. xs ++ take c.min-kept.result c.args.base.now) c.in_ok-ids.ensures.items) c.extend_from_slice.new.self.ok.0 c.in_ok-resize.ensures.items

pub index_mut-requires : goal.index_mut-requires
index_mut-requires c =
    omega (
      arith,
      c.loop-number.ids.ok.0,
      ap length c.loop-number.invariant,
      length-map-range_with_len (block_id c.args.base.now (take c.loop-number.number-index c.args.touched.now) []) 0 c.args.needed,
      all_at (λ n. n < c.args.needed) c.args.touched.now c.loop-number.number-index c.requires.within c.loop-number-test.true,
    )

pub loop-number-preserved : goal.loop-number-preserved
loop-number-preserved c =
    ap (λ xs. slice_set xs (get_or c.args.touched.now c.loop-number.number-index 0) zero_id) c.loop-number.invariant
    ∙ zeroed_more c.args.base.now c.args.touched.now c.loop-number.number-index c.args.needed c.loop-number-test.true
    (all_at (λ n. n < c.args.needed) c.args.touched.now c.loop-number.number-index c.requires.within c.loop-number-test.true)
