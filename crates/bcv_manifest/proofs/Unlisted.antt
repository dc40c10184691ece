-- Dead blocks that were read with no block listed, and that no database lists.
use Rattle.std.proofs.Common.{◌≡◌, ℕ, zero, suc, ◌+◌, ◌<◌, Bool, true, false, true≢false, List, [], ◌∷◌, length, get_or, None, Ok, refl, sym, ap, ◌∙◌, arith}
use Rattle.std.specs.Prelude.{IsSorted, ◌||◌}
use Rattle.std.specs.List.{list_any, flat_map, AllByRecursion}
use Rattle.std.specs.Ordering.{is_lt, nat_cmp, ordering_reverse}
use Rattle.std.specs.Cmp.Lexicographic.{slice_cmp, nat_list_cmp_total}
use Rattle.std.specs.declared.cmp.Ordering.{Ordering}
use Rattle.std.specs.declared.cmp.Ordering.TheVariants.{Less, Equal, Greater}
use Rattle.bcv_base.specs.declared.manifest.DbEntry.{DbEntry}
use Rattle.bcv_base.specs.declared.manifest.Dead.{Dead}
use Rattle.bcv_base.specs.Keyed.{comes_before}
use Rattle.bcv_base.specs.ManifestGrammar.{items_at, dead_at}
use Rattle.bcv_base.specs.ManifestRules.{dead_id, lists, Ascends, MeetsDeadRules}
use Rattle.bcv_base.specs.ManifestText.{dead_text}
use Rattle.bcv_manifest.proofs.Laws.{dead_reader}
use Rattle.bcv_manifest.proofs.Lists.{Chain, Rising, items_reader, ascends_of, chain_of}
use Rattle.bcv_manifest.proofs.Readers.{IsBytes, IsReader}

dead_reader_of : (dbs : List DbEntry) (n : ℕ) → IsReader (items_at dead_id (dead_at (lists dbs)) n None) (flat_map dead_text) (λ es. (length es ≡ n) × Chain dead_id (Rising dead_id (MeetsDeadRules dbs)) None es)
dead_reader_of dbs n = items_reader dead_id (dead_at (lists dbs)) dead_text (Rising dead_id (MeetsDeadRules dbs)) (dead_reader dbs) n None

neither : (a b : Bool) → (a || b) ≡ false → (a ≡ false) × (b ≡ false)
neither true b h = absurd (true≢false h)
neither false b h = (refl, h)

unlisted : (dbs : List DbEntry) (dead : List Dead) → AllByRecursion (MeetsDeadRules []) dead → list_any (λ e. lists dbs e.id) dead ≡ false → AllByRecursion (MeetsDeadRules dbs) dead
unlisted dbs [] all none = tt
unlisted dbs (e ∷ es) all none =
    let parts = neither (lists dbs e.id) (list_any (λ (x : Dead). lists dbs x.id) es) none in
    (record { id = all.0.id; unlisted = parts.0; stamp = all.0.stamp }, unlisted dbs es all.1 parts.1)

-- what is read where no block is listed is read where others are
pub read_alike : (dbs : List DbEntry) (n : ℕ) (bytes rest : List ℕ) (dead : List Dead) → IsBytes bytes → items_at dead_id (dead_at (lists [])) n None bytes ≡ Ok (dead, rest)
    → false ≡ list_any (λ e. lists dbs e.id) dead → items_at dead_id (dead_at (lists dbs)) n None bytes ≡ Ok (dead, rest)
read_alike dbs n bytes rest dead fits e none =
    let t = (dead_reader_of [] n).takes bytes (dead, rest) fits e in
    let a = ascends_of dead_id (MeetsDeadRules []) dead t.1.1 in
    let chain = chain_of dead_id (MeetsDeadRules dbs) dead a.0 (unlisted dbs dead a.1 (sym none)) in
    ap (items_at dead_id (dead_at (lists dbs)) n None) t.0.parts ∙ (dead_reader_of dbs n).again dead rest (t.1.0, chain)

-- ---- in order

not_before : (a b : List ℕ) → comes_before a b ≡ true → is_lt (slice_cmp nat_cmp b a) ≡ false
not_before a b h = ap is_lt (nat_list_cmp_total.antisymm b a) ∙ turned (slice_cmp nat_cmp a b) h
  where
    turned : (o : Ordering) → is_lt o ≡ true → is_lt (ordering_reverse o) ≡ false
    turned Less e = refl
    turned Equal e = refl
    turned Greater e = absurd (true≢false (sym e))

next_is_above : {A : Type 0} (key : A → List ℕ) (xs : List A) → Ascends key xs → (k : ℕ) (d : A) → suc k < length xs → comes_before (key (get_or xs k d)) (key (get_or xs (suc k) d)) ≡ true
next_is_above key [] asc k d lt = absurd (omega arith)
next_is_above key (x ∷ []) asc k d lt = absurd (omega arith)
next_is_above key (x ∷ y ∷ ys) asc zero d lt = asc.0.0
next_is_above key (x ∷ y ∷ ys) asc (suc k) d lt = next_is_above key (y ∷ ys) asc.1 k d (omega arith)

sorted_of : {A : Type 0} (key : A → List ℕ) (xs : List A) → Ascends key xs → IsSorted (λ a b. slice_cmp nat_cmp (key a) (key b)) xs
sorted_of key xs asc k d least lt =
    let next : k + 1 ≡ suc k = omega arith in
    rw next (not_before (key (get_or xs k d)) (key (get_or xs (suc k) d)) (next_is_above key xs asc k d (omega arith)))

pub dead_sorted : (n : ℕ) (bytes rest : List ℕ) (dead : List Dead) → IsBytes bytes → items_at dead_id (dead_at (lists [])) n None bytes ≡ Ok (dead, rest) → IsSorted (λ a b. slice_cmp nat_cmp a.id.0 b.id.0) dead
dead_sorted n bytes rest dead fits e = sorted_of dead_id dead (ascends_of dead_id (MeetsDeadRules []) dead ((dead_reader_of [] n).takes bytes (dead, rest) fits e).1.1).0
