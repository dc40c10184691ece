-- Sets at their places, and what a change of one leaves.
use Rattle.std.proofs.Common.{◌≡◌, ◌≢◌, ◌∙◌, ℕ, zero, suc, ◌<◌, Bool, true, false, cond, List, [], ◌∷◌, length, get_or, set, refl, sym, ap, arith, Option, Some}
use Rattle.std.specs.Option.{option_map}
use Rattle.std.proofs.lemmas.List.{set-set}
use Rattle.bcv_base.specs.Image.{Writes}
use Rattle.bcv_pages.specs.Held.{Held, KeepsView, with_room}
use Rattle.bcv_databases.specs.Catalog.{set_at}
use Rattle.bcv_databases.specs.Slots.{changed}
use Rattle.bcv_databases.specs.Sound.{KeepsViews}

-- ---- reading and writing

pub slot_read : (sets : List (Option Held)) (i : ℕ) (o : Option Held) → i < length sets → o ≡ get_or sets i o → set_at sets i ≡ o
slot_read [] i o lt is = absurd (omega (arith, lt))
slot_read (x ∷ xs) zero o lt is = sym is
slot_read (x ∷ xs) (suc i) o lt is = slot_read xs i o (omega (arith, lt)) is

pub at_same : (sets : List (Option Held)) (i : ℕ) (o : Option Held) → i < length sets → set_at (set sets i o) i ≡ o
at_same [] i o lt = absurd (omega (arith, lt))
at_same (x ∷ xs) zero o lt = refl
at_same (x ∷ xs) (suc i) o lt = at_same xs i o (omega (arith, lt))

pub at_other : (sets : List (Option Held)) (i j : ℕ) (o : Option Held) → j ≢ i → set_at (set sets i o) j ≡ set_at sets j
at_other [] i j o other = refl
at_other (x ∷ xs) zero zero o other = absurd (other refl)
at_other (x ∷ xs) zero (suc j) o other = refl
at_other (x ∷ xs) (suc i) zero o other = refl
at_other (x ∷ xs) (suc i) (suc j) o other = at_other xs i j o (λ e. other (ap suc e))

-- a set that was taken out of its place, changed and put back
pub put_back : (f : Held → Held) (sets : List (Option Held)) (i : ℕ) (o mid : Option Held) (h g : Held)
    → i < length sets → o ≡ get_or sets i o → o ≡ Some h → g ≡ f h → set (set sets i mid) i (Some g) ≡ changed f i sets
put_back f sets i o mid h g lt read is made =
    set-set sets i mid (Some g)
    ∙ ap (λ (z : Option Held). set sets i z) (ap Some made ∙ sym (ap (option_map f) (slot_read sets i o lt read ∙ is)))

set_read : (sets : List (Option Held)) (i : ℕ) (o : Option Held) → i < length sets → o ≡ get_or sets i o → set sets i o ≡ sets
set_read [] i o lt is = refl
set_read (x ∷ xs) zero o lt is = ap (λ (z : Option Held). z ∷ xs) is
set_read (x ∷ xs) (suc i) o lt is = ap (λ (z : List (Option Held)). x ∷ z) (set_read xs i o (omega (arith, lt)) is)

-- the same, where the change may not have been made
pub put_back_or : (b : Bool) (f : Held → Held) (sets : List (Option Held)) (i : ℕ) (o mid : Option Held) (h g : Held)
    → i < length sets → o ≡ get_or sets i o → o ≡ Some h → g ≡ cond b (f h) h → set (set sets i mid) i (Some g) ≡ cond b (changed f i sets) sets
put_back_or true f sets i o mid h g lt read is made = put_back f sets i o mid h g lt read is made
put_back_or false f sets i o mid h g lt read is made =
    set-set sets i mid (Some g) ∙ ap (λ (z : Option Held). set sets i z) (ap Some made ∙ sym is) ∙ set_read sets i o lt read

-- ---- views

pub keeps_all : (sets : List (Option Held)) → KeepsViews sets sets
keeps_all sets place h at = (h, at, (λ from to can. (can, refl)), refl)

pub room_keeps : (c : Writes) (h : Held) (from to : ℕ) → KeepsView h (with_room c h) from to
room_keeps c h from to can = (record { kept = can.kept; order = can.order; there = can.there }, refl)
