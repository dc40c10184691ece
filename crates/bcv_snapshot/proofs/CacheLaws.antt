-- Blocks in a cache.
use Rattle.std.proofs.Common.{◌≡◌, ◌∙◌, ℕ, Bool, List, [], ◌∷◌, length, Option, Some, None, option_map, refl, sym, ap, subst, inl, inr}
use Rattle.std.specs.List.{All, AllByRecursion, find}
use Rattle.std.proofs.lemmas.Bool.{cases_Bool}
use Rattle.std.proofs.lemmas.List.Elements.{All-head, All-tail}
use Rattle.bcv_cache.specs.Entry.{Entry, Blocks}
use Rattle.bcv_cache.specs.Cache.{entry_in, has_slot, IsCache}

-- what holds of each entry holds of one that is found
pub found_in : (P : Entry → Type 0) (test : Entry → Bool) (es : List Entry) (e : Entry) → AllByRecursion P es → find test es ≡ Some e → P e
found_in P test [] e all found = absurd (cc)
found_in P test (x ∷ xs) e all found = elim (cases_Bool (test x)) [
  | inl t ↦ let same : x ≡ e = (let some = rw t at found in cc) in subst P same all.0
  | inr t ↦ found_in P test xs e all.1 (rw t at found)
]

each : (P : Entry → Type 0) (es : List Entry) → All P es → AllByRecursion P es
each P [] all = tt
each P (x ∷ xs) all = (All-head P x xs all, each P xs (All-tail P x xs all))

-- the bytes in a slot are a block
pub block_whole : (c : Blocks) (slot : ℕ) (bytes : List ℕ) → IsCache c → option_map (λ e. e.bytes) (entry_in slot c.entries) ≡ Some bytes → length bytes ≡ c.block
block_whole c slot bytes is there = by (entry_in slot c.entries) refl there
  where
    by : (o : Option Entry) → entry_in slot c.entries ≡ o → option_map (λ (e : Entry). e.bytes) o ≡ Some bytes → length bytes ≡ c.block
    by None found some = absurd (cc)
    by (Some e) found some =
        let same : e.bytes ≡ bytes = cc in
        ap (λ (l : List ℕ). length l) (sym same) ∙ found_in (λ (x : Entry). length x.bytes ≡ c.block) (has_slot slot) c.entries e (each (λ (x : Entry). length x.bytes ≡ c.block) c.entries is.whole) found
