use Rattle.std.proofs.Common.{◌≡◌, ◌∙◌, ◌<◌, length, sym, subst}
use Rattle.bcv_upload.specs.State.{State, needed}
use Rattle.bcv_upload.proofs.Tasks.{has_place, last_at, next_within, number_read, upload_block}
use Rattle.bcv_upload.proofs.Viewed.{viewed}
use Rattle.bcv_upload.proofs.upload.Upload.put_block.Goals as goal

pub list_block-requires : goal.list_block-requires
list_block-requires g c =
    let more : length (viewed c.self.inside).ids < length (viewed c.self.inside).touched = subst (λ (s : State). length s.ids < length s.touched) (sym c.self.view_is) c.requires.more in
    let number = number_read c.self.inside.touched.items c.index-number.result.now c.len.result (length c.self.inside.ids.items) c.index-number.ensures (c.len.ensures ∙ c.self.inside.ids.ok.0) more in
    has_place (viewed c.self.inside) c.self.inside.plan c.index-number.result.now c.self.invariant.plan_is
    (subst (λ n. n < needed c.self.inside.base c.self.inside.size) (sym number) (next_within (viewed c.self.inside) c.self.invariant.task more))

pub invariant_of-self : goal.invariant_of-self
invariant_of-self g c =
    let more : length (viewed c.self.inside).ids < length (viewed c.self.inside).touched = subst (λ (s : State). length s.ids < length s.touched) (sym c.self.view_is) c.requires.more in
    let leaves = c.in-Stored.ensures.puts.leaves in
    let last : c.index-id.result.now ≡ leaves.0 =
    last_at c.self.inside.ids.items c.put_named-end.new.ids.items leaves.0 c.index-id.result.now c.len-in-Stored.result _ c.index-id.ensures c.len-in-Stored.ensures c.put_named-end.new.ids.ok.0 leaves.2
    in
    upload_block (viewed c.self.inside) c.self.inside.asked c.self.inside.plan c.list_block.new.plan leaves.0 c.index-id.result.now c.put_named-end.new.ids.items c.index-number.result.now c.self.invariant more
    (number_read c.self.inside.touched.items c.index-number.result.now c.len.result (length c.self.inside.ids.items) c.index-number.ensures (c.len.ensures ∙ c.self.inside.ids.ok.0) more)
    leaves.2 last c.list_block.ensures (c.put_named-end.ensures.ids c.self.invariant.task.ids)
