use Rattle.std.proofs.Common.{◌≡◌, List, [], ◌++◌, sym, subst, arith}
use Rattle.bcv_cache.specs.Entry.{Entry}
use Rattle.bcv_cache.specs.Cache.{KeepsPinned}
use Rattle.bcv_snapshot.specs.declared.held_block.HeldBlock.{HeldBlock}
use Rattle.bcv_snapshot.specs.Pins.{HasPins, KeepsPins}
use Rattle.bcv_snapshot.proofs.PinLaws.{own_pins, pins_filled, pins_some, pins_swap}
use Rattle.task_tests.proofs.shared.share.Goals as goal

no_pins : (es : List Entry) → HasPins [] es
no_pins es = record { ids = tt; counts = λ k. omega arith }

-- the first one holds twice, and then the second one holds
after_holds : (a0 a1 a2 b0 b1 : List HeldBlock) (e0 e1 e2 e3 : List Entry) → a0 ≡ [] → b0 ≡ [] → KeepsPins a0 e0 a1 e1 → KeepsPins a1 e1 a2 e2
    → KeepsPins b0 e2 b1 e3 → HasPins (a2 ++ b1) e3
after_holds a0 a1 a2 b0 b1 e0 e1 e2 e3 none other one two three =
    let first : HasPins a2 e2 = own_pins a1 a2 e1 e2 two (own_pins a0 a1 e0 e1 one (subst (λ (hs : List HeldBlock). HasPins hs e0) (sym none) (no_pins e0))) in
    pins_swap b1 a2 e3 (three a2 (subst (λ (hs : List HeldBlock). HasPins (hs ++ a2) e2) (sym other) first))

-- the first one frees twice, and then a fetch is made
after_frees : (a2 a3 a4 b1 : List HeldBlock) (e3 e4 e5 e6 : List Entry) → KeepsPins a2 e3 a3 e4 → KeepsPins a3 e4 a4 e5 → KeepsPinned e5 e6 → HasPins (a2 ++ b1) e3
    → HasPins (a4 ++ b1) e6
after_frees a2 a3 a4 b1 e3 e4 e5 e6 one two stay has = pins_filled (a4 ++ b1) e5 e6 stay (two b1 (one b1 has))

pub free-requires-clause-pins : goal.free-requires-clause-pins
free-requires-clause-pins g c =
    pins_some c.hold-2.new.txn.held c.hold-3.new.txn.held c.hold-3.new.cache.entries
    (after_holds c.args.first.held c.hold.new.txn.held c.hold-2.new.txn.held c.args.second.held c.hold-3.new.txn.held
    c.args.cache.now.entries c.hold.new.cache.entries c.hold-2.new.cache.entries c.hold-3.new.cache.entries
    c.requires.first_none c.requires.second_none c.hold.ensures.pins c.hold-2.ensures.pins c.hold-3.ensures.pins)

pub free-requires-2-clause-pins : goal.free-requires-2-clause-pins
free-requires-2-clause-pins g c =
    pins_some c.free.new.self.held c.hold-3.new.txn.held c.free.new.cache.entries (c.free.ensures.pins c.hold-3.new.txn.held
    (after_holds c.args.first.held c.hold.new.txn.held c.hold-2.new.txn.held c.args.second.held c.hold-3.new.txn.held
    c.args.cache.now.entries c.hold.new.cache.entries c.hold-2.new.cache.entries c.hold-3.new.cache.entries
    c.requires.first_none c.requires.second_none c.hold.ensures.pins c.hold-2.ensures.pins c.hold-3.ensures.pins))

pub look-requires-clause-pins : goal.look-requires-clause-pins
look-requires-clause-pins g c =
    pins_some c.hold-3.new.txn.held c.free-2.new.self.held c.fetch-full.new.cache.entries
    (pins_swap c.free-2.new.self.held c.hold-3.new.txn.held c.fetch-full.new.cache.entries
    (after_frees c.hold-2.new.txn.held c.free.new.self.held c.free-2.new.self.held c.hold-3.new.txn.held
    c.hold-3.new.cache.entries c.free.new.cache.entries c.free-2.new.cache.entries c.fetch-full.new.cache.entries
    c.free.ensures.pins c.free-2.ensures.pins c.fetch-full.ensures.pinned_stay
    (after_holds c.args.first.held c.hold.new.txn.held c.hold-2.new.txn.held c.args.second.held c.hold-3.new.txn.held
    c.args.cache.now.entries c.hold.new.cache.entries c.hold-2.new.cache.entries c.hold-3.new.cache.entries
    c.requires.first_none c.requires.second_none c.hold.ensures.pins c.hold-2.ensures.pins c.hold-3.ensures.pins)))

pub end-requires-clause-pins : goal.end-requires-clause-pins
end-requires-clause-pins g c =
    pins_some c.hold-3.new.txn.held c.free-2.new.self.held c.fetch-full.new.cache.entries
    (pins_swap c.free-2.new.self.held c.hold-3.new.txn.held c.fetch-full.new.cache.entries
    (after_frees c.hold-2.new.txn.held c.free.new.self.held c.free-2.new.self.held c.hold-3.new.txn.held
    c.hold-3.new.cache.entries c.free.new.cache.entries c.free-2.new.cache.entries c.fetch-full.new.cache.entries
    c.free.ensures.pins c.free-2.ensures.pins c.fetch-full.ensures.pinned_stay
    (after_holds c.args.first.held c.hold.new.txn.held c.hold-2.new.txn.held c.args.second.held c.hold-3.new.txn.held
    c.args.cache.now.entries c.hold.new.cache.entries c.hold-2.new.cache.entries c.hold-3.new.cache.entries
    c.requires.first_none c.requires.second_none c.hold.ensures.pins c.hold-2.ensures.pins c.hold-3.ensures.pins)))

pub end-requires-2-clause-pins : goal.end-requires-2-clause-pins
end-requires-2-clause-pins g c =
    pins_filled c.free-2.new.self.held c.end.new.cache.entries c.fetch-gone.new.cache.entries c.fetch-gone.ensures.pinned_stay
    (c.end.ensures.pins c.free-2.new.self.held
    (pins_swap c.free-2.new.self.held c.hold-3.new.txn.held c.fetch-full.new.cache.entries
    (after_frees c.hold-2.new.txn.held c.free.new.self.held c.free-2.new.self.held c.hold-3.new.txn.held
    c.hold-3.new.cache.entries c.free.new.cache.entries c.free-2.new.cache.entries c.fetch-full.new.cache.entries
    c.free.ensures.pins c.free-2.ensures.pins c.fetch-full.ensures.pinned_stay
    (after_holds c.args.first.held c.hold.new.txn.held c.hold-2.new.txn.held c.args.second.held c.hold-3.new.txn.held
    c.args.cache.now.entries c.hold.new.cache.entries c.hold-2.new.cache.entries c.hold-3.new.cache.entries
    c.requires.first_none c.requires.second_none c.hold.ensures.pins c.hold-2.ensures.pins c.hold-3.ensures.pins))))
