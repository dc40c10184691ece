use Rattle.std.proofs.Common.{sym, ◌∙◌}
use Rattle.bcv_cache.proofs.Found.{turned, last_is_unpinned, last_is_pinned}
use Rattle.bcv_cache.proofs.fill.last_unpinned.Goals as goal

pub returns-then-slots-index-eq0 : goal.returns-then-slots-index-eq0
returns-then-slots-index-eq0 c =
    let slots = c.args.slots.now in
    let t = turned slots c.loop-id.rest c.next_back.new.self (c.in-Some.id.now, c.in-Some.slot.now) c.in-Some.ensures.steps c.loop-id.invariant.in_range in
    sym (c.loop-id.invariant.same ∙ rw c.in-Some.ensures.steps (last_is_unpinned slots c.next_back.new.self (c.in-Some.id.now, c.in-Some.slot.now) c.index.result _ c.index.ensures t.1 c.if-slots-index-eq0.true))

pub loop-id-preserved : goal.loop-id-preserved
loop-id-preserved c =
    let slots = c.args.slots.now in
    let t = turned slots c.loop-id.rest c.next_back.new.self (c.in-Some.id.now, c.in-Some.slot.now) c.in-Some.ensures.steps c.loop-id.invariant.in_range in
    record {
      same = c.loop-id.invariant.same ∙ rw c.in-Some.ensures.steps (last_is_pinned slots c.next_back.new.self (c.in-Some.id.now, c.in-Some.slot.now) c.index.result _ c.index.ensures t.1 c.if-slots-index-eq0.false);
      in_range = t.0;
    }
