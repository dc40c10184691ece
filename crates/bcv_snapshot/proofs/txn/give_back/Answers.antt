use Rattle.std.proofs.Common.{◌∙◌, List, [], ◌∷◌, ◌++◌, map, append-nil, append_assoc, ap, sym, subst}
use Rattle.bcv_cache.specs.Entry.{Entry, Blocks}
use Rattle.bcv_cache.specs.Cache.{counted_down, IsHeld}
use Rattle.bcv_snapshot.specs.declared.held_block.HeldBlock.{HeldBlock}
use Rattle.bcv_snapshot.specs.Pins.{HasPins}
use Rattle.bcv_snapshot.proofs.PinLaws.{none_back, more_back, next_held}
use Rattle.bcv_snapshot.proofs.txn.give_back.Goals as goal

pub loop-pin-init : goal.loop-pin-init
loop-pin-init c = record { gone = []; split = sym (append-nil c.args.held.items); cache = ap (λ (es : List Entry). record c.args.cache.now { entries = es }) (sym (none_back c.args.cache.now.entries)) }

pub unpin-requires : goal.unpin-requires
unpin-requires c =
    let gone = c.loop-pin.invariant.gone in
    let split = c.loop-pin.invariant.split ∙ ap (λ (hs : List HeldBlock). hs ++ gone) c.in-Some.ensures.items in
    let held = next_held c.pop.new.self.items gone c.in-Some.field-0 c.args.cache.now.entries (subst (λ (hs : List HeldBlock). HasPins hs c.args.cache.now.entries) split c.requires) in
    subst (λ (x : Blocks). IsHeld c.in-Some.field-0.pin x.entries) (sym c.loop-pin.invariant.cache) held

pub loop-pin-preserved : goal.loop-pin-preserved
loop-pin-preserved c =
    let gone = c.loop-pin.invariant.gone in
    let h = c.in-Some.field-0 in
    record {
      gone = h ∷ gone;
      split = c.loop-pin.invariant.split ∙ ap (λ (hs : List HeldBlock). hs ++ gone) c.in-Some.ensures.items ∙ append_assoc c.pop.new.self.items (h ∷ []) gone;
      cache = c.unpin.ensures.entries ∙ ap (λ (x : Blocks). record x { entries = map (counted_down h.pin.slot) x.entries }) c.loop-pin.invariant.cache
          ∙ ap (λ (es : List Entry). record c.args.cache.now { entries = es }) (more_back h gone c.args.cache.now.entries);
    }
