use Rattle.std.proofs.Common.{◌≡◌, ◌∙◌, List, [], ◌∷◌, ◌++◌, false, true, is_some, Ok, ap, sym, subst}
use Rattle.std.specs.declared.alloc.AllocError.{AllocError}
use Rattle.bcv_snapshot.specs.declared.held_block.HeldBlock.{HeldBlock}
use Rattle.bcv_snapshot.specs.Opened.{Opened, IsTxn, number_of, pin_of, is_held}
use Rattle.bcv_snapshot.specs.Pins.{KeepsPins}
use Rattle.bcv_snapshot.specs.TxnCalls.{TxnHolds}
use Rattle.bcv_snapshot.proofs.TxnLaws.{HeldOneMore, held_is, pin_free, holds_already, holds_not, one_more_held}
use Rattle.bcv_snapshot.proofs.txn.Txn.hold.Goals as goal

pub returns-then-is_some-clause-holds : goal.returns-then-is_some-clause-holds
returns-then-is_some-clause-holds c =
    let list : c.deref.result.now ≡ c.args.self.now.held = c.deref.ensures.value ∙ ap (λ (t : Opened). t.held) c.self.view_is in
    let held : is_held c.args.self.now c.args.page ≡ true =
    held_is c.args.self.now c.args.page c.block_of-number.result c.deref.result.now c.place_of.result true c.place_of.ensures c.block_of-number.ensures.number list c.requires.first (sym c.is_some.ensures ∙ c.if-is_some.true)
    in
    holds_already (is_held c.args.self.now c.args.page) c.args.self.now c.args.cache.now c.args.page c.args.slot held

pub returns-in_err-reserve-clause-holds : goal.returns-in_err-reserve-clause-holds
returns-in_err-reserve-clause-holds c =
    let list : c.deref.result.now ≡ c.args.self.now.held = c.deref.ensures.value ∙ ap (λ (t : Opened). t.held) c.self.view_is in
    let held : is_held c.args.self.now c.args.page ≡ false =
    held_is c.args.self.now c.args.page c.block_of-number.result c.deref.result.now c.place_of.result false c.place_of.ensures c.block_of-number.ensures.number list c.requires.first (sym c.is_some.ensures ∙ c.if-is_some.false)
    in
    let made : List HeldBlock → Opened = λ hs. record { base = c.self.inside.base; size = c.self.inside.size; held = hs } in
    holds_not (is_held c.args.self.now c.args.page) c.from_residual.result c.args.self.now (made c.reserve.new.self.items) c.args.cache.now c.args.page c.args.slot held c.from_residual.ensures.0
    (ap made c.in_err-reserve.ensures.items ∙ c.self.view_is)

-- one block more
more : (c : goal.After-push_held) → HeldOneMore c.args.self.now c.args.cache.now c.args.page c.args.slot (record { number = c.block_of-number.result; pin = c.pin-pin.result }) c.pin-pin.new.self
more c =
    let list : c.deref.result.now ≡ c.args.self.now.held = c.deref.ensures.value ∙ ap (λ (t : Opened). t.held) c.self.view_is in
    let not : is_some c.place_of.result ≡ false = sym c.is_some.ensures ∙ c.if-is_some.false in
    let held : is_held c.args.self.now c.args.page ≡ false =
    held_is c.args.self.now c.args.page c.block_of-number.result c.deref.result.now c.place_of.result false c.place_of.ensures c.block_of-number.ensures.number list c.requires.first not
    in
    let free : is_some (pin_of (number_of c.args.self.now.base c.args.page) c.args.self.now.held) ≡ false =
    pin_free (number_of c.args.self.now.base c.args.page) c.args.self.now.held c.block_of-number.result c.deref.result.now c.place_of.result c.place_of.ensures c.block_of-number.ensures.number list not
    in
    one_more_held c.args.self.now c.args.cache.now c.pin-pin.new.self c.args.page c.args.slot (record { number = c.block_of-number.result; pin = c.pin-pin.result })
    (subst IsTxn c.self.view_is c.self.invariant) held free c.block_of-number.ensures.number c.requires.entry c.pin-pin.ensures.pin c.pin-pin.ensures.entries c.pin-pin.ensures.slots

-- the transaction afterwards
same : (c : goal.After-push_held) → (let made : List HeldBlock → Opened = λ hs. record { base = c.self.inside.base; size = c.self.inside.size; held = hs } in
    record c.args.self.now { held = c.args.self.now.held ++ record { number = c.block_of-number.result; pin = c.pin-pin.result } ∷ [] } ≡ made c.push_held.new.held.items)
same c =
    let made : List HeldBlock → Opened = λ hs. record { base = c.self.inside.base; size = c.self.inside.size; held = hs } in
    let block : HeldBlock = record { number = c.block_of-number.result; pin = c.pin-pin.result } in
    sym (ap made (c.push_held.ensures ∙ ap (λ (hs : List HeldBlock). hs ++ block ∷ []) c.in_ok-reserve.ensures.items) ∙ ap (λ (t : Opened). record t { held = t.held ++ block ∷ [] }) c.self.view_is)

pub invariant_of-self-2 : goal.invariant_of-self-2
invariant_of-self-2 c = subst IsTxn (same c) (more c).txn

pub returns-clause-txn : goal.returns-clause-txn
returns-clause-txn c = subst IsTxn (same c) (more c).txn

pub returns-clause-pins : goal.returns-clause-pins
returns-clause-pins c = subst (λ (t : Opened). KeepsPins c.args.self.now.held c.args.cache.now.entries t.held c.pin-pin.new.self.entries) (same c) (more c).pins

pub returns-clause-holds : goal.returns-clause-holds
returns-clause-holds c =
    subst (λ (t : Opened). TxnHolds {E = AllocError} (is_held c.args.self.now c.args.page) c.args.self.now c.args.cache.now c.args.page c.args.slot (Ok tt) t c.pin-pin.new.self) (same c) (more c).holds
