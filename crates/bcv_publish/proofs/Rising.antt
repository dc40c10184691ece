-- Numbers that rise: one more at the end, or one less.
use Rattle.std.proofs.Common.{◌≡◌, ℕ, ◌+◌, ◌≤◌, Bool, true, false, List, [], ◌∷◌, ◌++◌, Option, Some, None, MatchOption, nat_lt, ◌||◌, if◌then◌else◌, refl, arith}
use Rattle.bcv_base.specs.declared.manifest.Manifest.{Manifest}
use Rattle.bcv_base.specs.declared.seen.Latest.{Latest}
use Rattle.bcv_base.specs.declared.seen.Seen.{Seen}
use Rattle.bcv_publish.specs.ManifestRead.{is_past, is_other, unlike}
use Rattle.bcv_publish.specs.State.{State, last_number, Rise, RisesTo}

-- without the last one
pub rise_front : (ns : List ℕ) (n : ℕ) → Rise (ns ++ n ∷ []) → Rise ns
rise_front [] n r = tt
rise_front (a ∷ []) n r = tt
rise_front (a ∷ b ∷ ns) n r = (r.0, rise_front (b ∷ ns) n r.1)

-- with a greater last one
pub rise_above : (ns : List ℕ) (n k : ℕ) → n ≤ k → Rise (ns ++ n ∷ []) → Rise (ns ++ k ∷ [])
rise_above [] n k h r = tt
rise_above (a ∷ []) n k h r = (omega (arith, r.0), tt)
rise_above (a ∷ b ∷ ns) n k h r = (r.0, rise_above (b ∷ ns) n k h r.1)

-- with one more, above the last one
pub rise_more : (ns : List ℕ) (n : ℕ) → Rise ns → is_past (last_number ns) n ≡ false → Rise (ns ++ n ∷ [])
rise_more [] n r h = tt
rise_more (a ∷ []) n r h = (grind (arith, h), tt)
rise_more (a ∷ b ∷ ns) n r h = (r.0, rise_more (b ∷ ns) n r.1 h)

-- what was read before refused puts rises, whether or not a manifest is kept
pub rises_before : (ns : List ℕ) (o : Option Latest) → RisesTo ns o → Rise ns
rises_before ns None r = r
rises_before ns (Some l) r = rise_front ns l.manifest.number r

-- up to the number behind that of the manifest that is kept
pub next_rises : (ns : List ℕ) (o : Option Latest) (n : ℕ) → RisesTo ns o → MatchOption o ⊥ (λ l. n ≡ l.manifest.number + 1) → Rise (ns ++ n ∷ [])
next_rises ns None n r next = absurd next
next_rises ns (Some l) n r next = rise_above ns l.manifest.number n (omega arith) r

not_past : (a b c : Bool) → ◌≡◌ {A = Option ℕ} (if a || b then Some 8 else (if c then Some 24 else None)) None → b ≡ false
not_past true b c h = absurd (cc)
not_past false true c h = absurd (cc)
not_past false false c h = refl

-- up to the number of a manifest that follows what was seen
pub seen_rises : (p : State) (seen : Seen) (m : Manifest) → Rise p.refused → unlike p seen m ≡ None → Rise (p.refused ++ m.number ∷ [])
seen_rises p seen m r h =
    rise_more p.refused m.number r (not_past (nat_lt m.number seen.number) (is_past (last_number p.refused) m.number) (is_other seen.block m.block || is_other p.block m.block) h)
