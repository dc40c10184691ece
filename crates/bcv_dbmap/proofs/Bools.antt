-- Tests joined by or.
use Rattle.std.proofs.Common.{◌≡◌, Bool, true, false, ◌||◌, ◌⊎◌, inl, inr, refl}

pub or_cases : (a b : Bool) → (a || b) ≡ true → (a ≡ true) ⊎ (b ≡ true)
or_cases true b h = inl refl
or_cases false b h = inr h

pub or_neither : (a b : Bool) → (a || b) ≡ false → (a ≡ false) × (b ≡ false)
or_neither true b h = absurd cc
or_neither false b h = (refl, h)

pub neither_or : (a b : Bool) → a ≡ false → b ≡ false → (a || b) ≡ false
neither_or true b h g = absurd cc
neither_or false b h g = g

pub or_left : (a b : Bool) → a ≡ true → (a || b) ≡ true
or_left true b h = refl
or_left false b h = absurd cc

pub or_right : (a b : Bool) → b ≡ true → (a || b) ≡ true
or_right true b h = refl
or_right false b h = h

-- a test that can't be passed fails
pub not_passed : (a : Bool) → (a ≡ true → ⊥) → a ≡ false
not_passed true h = absurd (h refl)
not_passed false h = refl

pub not_both : {G : Type 0} (a : Bool) → a ≡ true → a ≡ false → G
not_both true h g = absurd cc
not_both false h g = absurd cc
