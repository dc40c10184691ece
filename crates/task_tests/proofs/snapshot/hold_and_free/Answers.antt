use Rattle.std.proofs.Common.{List, [], sym, subst, arith}
use Rattle.bcv_cache.specs.Entry.{Entry}
use Rattle.bcv_snapshot.specs.declared.held_block.HeldBlock.{HeldBlock}
use Rattle.bcv_snapshot.specs.Pins.{HasPins}
use Rattle.bcv_snapshot.proofs.PinLaws.{own_pins, pins_filled}
use Rattle.task_tests.proofs.snapshot.hold_and_free.Goals as goal

no_pins : (es : List Entry) → HasPins [] es
no_pins es = record { ids = tt; counts = λ k. omega arith }

pub look-requires-2-clause-pins : goal.look-requires-2-clause-pins
look-requires-2-clause-pins g c =
    pins_filled c.hold-held.new.self.held c.hold-held.new.cache.entries c.fetch-full.new.cache.entries c.fetch-full.ensures.pinned_stay
    (own_pins c.args.txn.held c.hold-held.new.self.held c.args.cache.now.entries c.hold-held.new.cache.entries c.hold-held.ensures.pins
    (subst (λ (hs : List HeldBlock). HasPins hs c.args.cache.now.entries) (sym c.requires.none) (no_pins c.args.cache.now.entries)))

pub free-requires-clause-pins : goal.free-requires-clause-pins
free-requires-clause-pins g c =
    pins_filled c.hold-held.new.self.held c.hold-held.new.cache.entries c.fetch-full.new.cache.entries c.fetch-full.ensures.pinned_stay
    (own_pins c.args.txn.held c.hold-held.new.self.held c.args.cache.now.entries c.hold-held.new.cache.entries c.hold-held.ensures.pins
    (subst (λ (hs : List HeldBlock). HasPins hs c.args.cache.now.entries) (sym c.requires.none) (no_pins c.args.cache.now.entries)))
