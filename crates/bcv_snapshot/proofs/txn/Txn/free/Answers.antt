use Rattle.std.proofs.Common.{◌≡◌, ◌∙◌, List, true, false, is_some, Some, refl, ap, sym, subst, arith}
use Rattle.bcv_snapshot.specs.declared.held_block.HeldBlock.{HeldBlock}
use Rattle.bcv_snapshot.specs.Opened.{Opened, number_of}
use Rattle.bcv_snapshot.specs.Pins.{KeepsPins}
use Rattle.bcv_snapshot.specs.TxnCalls.{TxnFrees}
use Rattle.bcv_snapshot.proofs.HeldBlocks.{position_at}
use Rattle.bcv_snapshot.proofs.TxnLaws.{FreedOne, held_is, one_freed}
use Rattle.bcv_snapshot.proofs.txn.Txn.free.Goals as goal

pub returns-in-None-clause-frees : goal.returns-in-None-clause-frees
returns-in-None-clause-frees c =
    let list : c.deref.result.now ≡ c.args.self.now.held = c.deref.ensures.value ∙ ap (λ (t : Opened). t.held) c.self.view_is in
    let none : is_some c.place_of.result ≡ false = ap is_some c.in-None.is in
    (held_is c.args.self.now c.args.page c.block_of-number.result c.deref.result.now c.place_of.result false c.place_of.ensures c.block_of-number.ensures.number list (omega (arith, c.if-page-eq0.false)) none, refl, refl)

-- the transaction with other held blocks
abbrev made : (c : goal.After-unpin) → List HeldBlock → Opened
made c hs = record { base = c.self.inside.base; size = c.self.inside.size; held = hs }

-- one block less, as the fields have it
less : (c : goal.After-unpin) → FreedOne (made c c.self.inside.held.items) c.args.cache.now c.args.page c.remove-pin.new.self.items c.unpin.new.self
less c =
    let number : c.block_of-number.result ≡ number_of c.self.inside.base c.args.page = c.block_of-number.ensures.number ∙ ap (λ (t : Opened). number_of t.base c.args.page) (sym c.self.view_is) in
    let some : is_some c.place_of.result ≡ true = ap is_some c.in-Some.is in
    one_freed (made c c.self.inside.held.items) c.args.cache.now c.unpin.new.self c.args.page c.in-Some.at c.remove-pin.result c.remove-pin.new.self.items c.self.invariant
    (held_is (made c c.self.inside.held.items) c.args.page c.block_of-number.result c.deref.result.now c.place_of.result true c.place_of.ensures number c.deref.ensures.value (omega (arith, c.if-page-eq0.false)) some)
    (position_at c.block_of-number.result (number_of c.self.inside.base c.args.page) c.deref.result.now c.self.inside.held.items c.place_of.result (Some c.in-Some.at) c.place_of.ensures number c.deref.ensures.value c.in-Some.is)
    c.remove-pin.ensures.value c.remove-pin.ensures.items c.unpin.ensures.entries c.unpin.ensures.slots

pub invariant_of-self : goal.invariant_of-self
invariant_of-self c = (less c).txn

pub returns-in-Some-clause-txn : goal.returns-in-Some-clause-txn
returns-in-Some-clause-txn c = (less c).txn

pub returns-in-Some-clause-pins : goal.returns-in-Some-clause-pins
returns-in-Some-clause-pins c = subst (λ (t : Opened). KeepsPins t.held c.args.cache.now.entries c.remove-pin.new.self.items c.unpin.new.self.entries) c.self.view_is (less c).pins

pub returns-in-Some-clause-frees : goal.returns-in-Some-clause-frees
returns-in-Some-clause-frees c = subst (λ (t : Opened). TxnFrees t c.args.cache.now c.args.page true (made c c.remove-pin.new.self.items) c.unpin.new.self) c.self.view_is (less c).frees
