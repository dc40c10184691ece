-- Ids that are marked, and tests of each item of a list against each of another.
use Rattle.std.proofs.Common.{◌≡◌, ℕ, zero, suc, ◌+◌, ◌%◌, ◌^◌, ◌<◌, Bool, true, false, true≢false, List, [], ◌∷◌, length, get_or, take, set, refl, sym, ap, ◌∙◌, arith}
use Rattle.std.specs.Prelude.{◌||◌}
use Rattle.std.specs.Cmp.Lexicographic.{nat_list_eq_equiv}
use Rattle.std.specs.Int.{w128, from_be_bytes}
use Rattle.std.specs.List.{list_any}
use Rattle.std.specs.Str.{bytes_eq}
use Rattle.std.proofs.lemmas.List.{get_or-set_same}
use Rattle.std.proofs.lemmas.List.Folds.{list_any_none, list_any_more}
use Rattle.std.proofs.lemmas.Slice.Eq.{bytes_eq-Decides}
use Rattle.bcv_base.specs.declared.id.Id16.{Id16}
use Rattle.bcv_base.specs.declared.manifest.DbEntry.{DbEntry}
use Rattle.bcv_base.specs.declared.manifest.Dead.{Dead}
use Rattle.bcv_base.specs.Ids.{id_eq}
use Rattle.bcv_base.specs.ManifestRules.{lists}
use Rattle.bcv_manifest.specs.Marks.{is_dead_id, place_of_mark}

-- ---- tests of each against each

any_or : {Y : Type 0} (p q : Y → Bool) (ys : List Y) → list_any (λ y. p y || q y) ys ≡ (list_any p ys || list_any q ys)
any_or p q [] = refl
any_or p q (y ∷ ys) = ap (λ b. (p y || q y) || b) (any_or p q ys) ∙ mixed (p y) (q y) (list_any p ys) (list_any q ys)
  where
    mixed : (a b c d : Bool) → ((a || b) || (c || d)) ≡ ((a || c) || (b || d))
    mixed true b c d = refl
    mixed false true true d = refl
    mixed false true false d = refl
    mixed false false c d = refl

-- which list is gone through first makes no difference
pub any_swap : {X Y : Type 0} (test : X → Y → Bool) (xs : List X) (ys : List Y) → list_any (λ x. list_any (test x) ys) xs ≡ list_any (λ y. list_any (λ x. test x y) xs) ys
any_swap test [] ys = sym (list_any_none (λ y. false) ys (λ k d lt. refl))
any_swap test (x ∷ xs) ys = ap (λ b. list_any (test x) ys || b) (any_swap test xs ys) ∙ sym (any_or (test x) (λ y. list_any (λ z. test z y) xs) ys)

-- ---- dead blocks

id_eq-sym : (a b : Id16) → id_eq a b ≡ id_eq b a
id_eq-sym a b = nat_list_eq_equiv.symm a.0 b.0

pub is_dead_found : (dead : List Dead) (i : Id16) → list_any (λ e. bytes_eq e.id.0 i.0) dead ≡ is_dead_id dead i
is_dead_found dead i =
    let each : (λ (e : Dead). bytes_eq e.id.0 i.0) ≡ (λ (e : Dead). id_eq i e.id) = λ j e. id_eq-sym e.id i j in
    ap (λ (p : Dead → Bool). list_any p dead) each

-- a dead block is listed where a listed block is dead
pub listed_dead : (dbs : List DbEntry) (dead : List Dead) → list_any (λ d. list_any (is_dead_id dead) d.blocks) dbs ≡ list_any (λ e. lists dbs e.id) dead
listed_dead dbs dead =
    let each : (d : DbEntry) → list_any (is_dead_id dead) d.blocks ≡ list_any (λ e. list_any (λ i. id_eq i e.id) d.blocks) dead = λ d. any_swap (λ i e. id_eq i e.id) d.blocks dead in
    let all : (λ (d : DbEntry). list_any (is_dead_id dead) d.blocks) ≡ (λ (d : DbEntry). list_any (λ (e : Dead). list_any (λ i. id_eq i e.id) d.blocks) dead) = λ j d. each d j in
    ap (λ (p : DbEntry → Bool). list_any p dbs) all
    ∙ any_swap (λ (d : DbEntry) (e : Dead). list_any (λ i. id_eq i e.id) d.blocks) dbs dead

-- ---- marks

-- a mark that is set stays
set_keeps : (marks : List Bool) (at place : ℕ) → get_or marks place false ≡ true → get_or (set marks at true) place false ≡ true
set_keeps [] at place h = absurd (true≢false (sym h))
set_keeps (m ∷ ms) zero zero h = refl
set_keeps (m ∷ ms) zero (suc place) h = h
set_keeps (m ∷ ms) (suc at) zero h = h
set_keeps (m ∷ ms) (suc at) (suc place) h = set_keeps ms at place h

or_left : (a b : Bool) → b ≡ false → (a || b) ≡ true → a ≡ true
or_left true b e h = refl
or_left false b e h = absurd (true≢false (sym h ∙ e))

-- one more dead block's mark
pub marked_more : (d : Dead) (dead : List Dead) (marks : List Bool) (count n at : ℕ) → n < length dead → length marks ≡ count → at ≡ place_of_mark count (get_or dead n d).id → at < count
    → ((i : Id16) → is_dead_id (take n dead) i ≡ true → get_or marks (place_of_mark count i) false ≡ true)
    → (i : Id16) → is_dead_id (take (n + 1) dead) i ≡ true → get_or (set marks at true) (place_of_mark count i) false ≡ true
marked_more d dead marks count n at lt len is_at within h i is = by_last (id_eq i (get_or dead n d).id) refl
  where
    split : (is_dead_id (take n dead) i || id_eq i (get_or dead n d).id) ≡ true
    split = sym (list_any_more (λ e. id_eq i e.id) dead n d lt) ∙ is

    by_last : (b : Bool) → id_eq i (get_or dead n d).id ≡ b → get_or (set marks at true) (place_of_mark count i) false ≡ true
    by_last true same =
        let bytes : i.0 ≡ (get_or dead n d).id.0 = (bytes_eq-Decides i.0 (get_or dead n d).id.0).0 same in
        let place : place_of_mark count i ≡ at = ap (λ (b : List ℕ). (from_be_bytes w128 b % 2 ^ 64) % count) bytes ∙ sym is_at in
        ap (λ (p : ℕ). get_or (set marks at true) p false) place ∙ get_or-set_same marks at true false (omega (arith, within, len))
    by_last false other = set_keeps marks at (place_of_mark count i) (h i (or_left (is_dead_id (take n dead) i) (id_eq i (get_or dead n d).id) other split))
