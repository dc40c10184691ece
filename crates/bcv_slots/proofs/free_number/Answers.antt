use Rattle.std.proofs.Common.{◌≡◌, ◌∙◌, ◌+◌, ℕ, length, Some, sym, ap, subst, arith}
use Rattle.std.proofs.lemmas.List.{length-map}
use Rattle.bcv_slots.specs.declared.Slot.{Slot}
use Rattle.bcv_slots.specs.Numbered.{numbers_of}
use Rattle.bcv_slots.proofs.FreeNumbers.{AreTaken, is_last, is_least, none_below, taken_more}
use Rattle.bcv_slots.proofs.free_number.Goals as goal

pub loop-number-init : goal.loop-number-init
loop-number-init g c = none_below (numbers_of c.args.slots.now)

pub loop-number-preserved : goal.loop-number-preserved
loop-number-preserved g c = taken_more (numbers_of c.args.slots.now) c.loop-number.number c.loop-number.invariant (sym c.has_number.ensures ∙ c.if-not-has_number.false)

pub returns-then-not-has_number : goal.returns-then-not-has_number
returns-then-not-has_number g c =
    let n : ℕ = c.loop-number.number in
    let long : length (numbers_of c.args.slots.now) ≡ length c.args.slots.now = length-map c.args.slots.now (λ (s : Slot g.row.T.Denot). s.number) in
    is_least (numbers_of c.args.slots.now) n c.loop-number.auto.number (omega (arith, long, c.loop-number-test.true)) c.loop-number.invariant (sym c.has_number.ensures ∙ c.if-not-has_number.true)

pub returns : goal.returns
returns g c =
    let long : length (numbers_of c.args.slots.now) ≡ length c.args.slots.now = length-map c.args.slots.now (λ (s : Slot g.row.T.Denot). s.number) in
    let end : c.loop-number.number ≡ length (numbers_of c.args.slots.now) + 1 = omega (arith, long, c.loop-number-test.false, c.loop-number.auto.number-end) in
    is_last (numbers_of c.args.slots.now) (subst (AreTaken (numbers_of c.args.slots.now)) end c.loop-number.invariant)
    ∙ ap (λ (k : ℕ). Some (k + 1)) long
