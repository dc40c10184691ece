-- One merge of two ascending lists into the rows of a table.
use Rattle.std.proofs.Common.{◌≡◌, ◌∙◌, ℕ, zero, suc, ◌+◌, ◌<◌, ◌≤◌, true, false, List, [], ◌∷◌, ◌++◌, length, map, drop, get_or, refl, sym, ap, subst, append_assoc, arith, Some, None}
use Rattle.std.specs.Cmp.Lexicographic.{slice_cmp}
use Rattle.std.specs.Ordering.{nat_cmp, is_lt, is_ge}
use Rattle.std.specs.Str.{bytes_eq}
use Rattle.std.specs.declared.cmp.Ordering.{Ordering}
use Rattle.std.specs.declared.cmp.Ordering.TheVariants.{Less, Equal, Greater}
use Rattle.std.proofs.lemmas.List.{drop_all, drop_more}
use Rattle.bcv_base.specs.Keyed.{comes_before, keyed, with_keyed}
use Rattle.bcv_base.specs.ManifestRules.{Ascends, IsAbove}
use Rattle.bcv_dbmap.proofs.Keys.{above_all, above_with, before_back, before_other, before_total, before_trans, behind_other, by_test, keyed_here, keyed_there, with_front, with_later}
use Rattle.bcv_model.specs.declared.kept.Local.{Local}
use Rattle.bcv_model.specs.declared.reply.Row.{Row}
use Rattle.bcv_model.specs.Notes.{kept_name}
use Rattle.bcv_databases.specs.Catalog.{known_name}
use Rattle.bcv_databases.specs.Table.{Merges, known_row, local_row, merged_rows, row_name}
use Rattle.bcv_databases.specs.declared.known.Known.{Known}

-- ---- what a comparison says

not_less : (o : Ordering) → is_ge o ≡ true → is_lt o ≡ false
not_less Less e = absurd cc
not_less Equal e = refl
not_less Greater e = refl

is_less : (o : Ordering) → is_ge o ≡ false → is_lt o ≡ true
is_less Less e = refl
is_less Equal e = absurd cc
is_less Greater e = absurd cc

pub not_before : (a b : List ℕ) (o : Ordering) → o ≡ slice_cmp nat_cmp a b → is_ge o ≡ true → comes_before a b ≡ false
not_before a b o is e = ap is_lt (sym is) ∙ not_less o e

pub is_before : (a b : List ℕ) (o : Ordering) → o ≡ slice_cmp nat_cmp a b → is_ge o ≡ false → comes_before a b ≡ true
is_before a b o is e = ap is_lt (sym is) ∙ is_less o e

-- ---- rows at their places

-- a row that stands before all is the first
with_first : (a : Row) (rows : List Row) → IsAbove row_name (row_name a) rows → with_keyed row_name a rows ≡ a ∷ rows
with_first a [] above = refl
with_first a (x ∷ xs) above = with_front row_name a x xs (behind_other (row_name a) (row_name x) above.0) above.0

above_merged : (a : List ℕ) (ks : List Known) (rows : List Row) → IsAbove known_name a ks → IsAbove row_name a rows → IsAbove row_name a (merged_rows ks rows)
above_merged a [] rows known above = above
above_merged a (k ∷ ks) rows known above = above_with row_name a (known_row k) (merged_rows ks rows) known.0 (above_merged a ks rows known.1 above)

above_rows : (a : List ℕ) (ls : List Local) → IsAbove kept_name a ls → IsAbove row_name a (map local_row ls)
above_rows a [] above = tt
above_rows a (l ∷ ls) above = (above.0, above_rows a ls above.1)

-- a known database that stands before those with commits
known_first : (k : Known) (ks : List Known) (ls : List Local) → Ascends known_name (k ∷ ks) → IsAbove kept_name (known_name k) ls
    → merged_rows (k ∷ ks) (map local_row ls) ≡ known_row k ∷ merged_rows ks (map local_row ls)
known_first k ks ls asc above = with_first (known_row k) (merged_rows ks (map local_row ls)) (above_merged (known_name k) ks (map local_row ls) asc.0 (above_rows (known_name k) ls above))

-- a row that stands before all known databases stays the first
before_all : (a name : List ℕ) (ks : List Known) → comes_before a name ≡ true → IsAbove known_name name ks → IsAbove known_name a ks
before_all a name [] before above = tt
before_all a name (k ∷ ks) before above = (before_trans a name (known_name k) before above.0, before_all a name ks before above.1)

front_stays : (x : Row) (ks : List Known) (rows : List Row) → IsAbove known_name (row_name x) ks → merged_rows ks (x ∷ rows) ≡ x ∷ merged_rows ks rows
front_stays x [] rows above = refl
front_stays x (k ∷ ks) rows above =
    ap (with_keyed row_name (known_row k)) (front_stays x ks rows above.1)
    ∙ with_later row_name (known_row k) x (merged_rows ks rows) (before_other (row_name x) (known_name k) above.0) (before_back (row_name x) (known_name k) above.0)

-- ---- the walk over those with commits

above_drop : (name : List ℕ) (ls : List Local) (i : ℕ) (x : Local) → i < length ls → x ≡ get_or ls i x → Ascends kept_name ls → keyed kept_name name ls ≡ None
    → comes_before (kept_name x) name ≡ false → IsAbove kept_name name (drop i ls)
above_drop name [] i x lt is asc none behind = absurd (omega (arith, lt))
above_drop name (y ∷ ys) zero x lt is asc none behind =
    by_test (bytes_eq (kept_name y) name)
    (λ e. let both : Some y ≡ None = sym (keyed_here kept_name name y ys e) ∙ none in absurd cc)
    (λ e.
    let h : comes_before name (kept_name y) ≡ true = before_total (kept_name y) name e (ap (λ (z : Local). comes_before (kept_name z) name) (sym is) ∙ behind) in
    (h, above_all kept_name name y ys h asc.0))
above_drop name (y ∷ ys) (suc i) x lt is asc none behind =
    by_test (bytes_eq (kept_name y) name)
    (λ e. let both : Some y ≡ None = sym (keyed_here kept_name name y ys e) ∙ none in absurd cc)
    (λ e. above_drop name ys i x (omega (arith, lt)) is asc.1 (sym (keyed_there kept_name name y ys e) ∙ none) behind)

-- what is left to merge, at a place of those with commits
abbrev pub GoesOn : List Local → ℕ → List ℕ → List Row → List Row → ℕ → Type 0
GoesOn ls from name old rows place =
    (k : Known) (ks : List Known) → known_name k ≡ name → Ascends known_name (k ∷ ks)
    → old ++ merged_rows (k ∷ ks) (map local_row (drop from ls)) ≡ rows ++ merged_rows (k ∷ ks) (map local_row (drop place ls))

module _ (ls : List Local) (from : ℕ) (name : List ℕ) (old rows : List Row) (place : ℕ) (goes : GoesOn ls from name old rows place) where
  pub goes_more : (x : Local) (more : List Row) → place < length ls → x ≡ get_or ls place x → comes_before (kept_name x) name ≡ true → more ≡ rows ++ local_row x ∷ [] → GoesOn ls from name old more (place + 1)
  goes_more x more lt is before more_is k ks at asc =
      let rest : List Row = map local_row (drop (place + 1) ls) in
      let above : IsAbove known_name (kept_name x) (k ∷ ks) =
      (ap (comes_before (kept_name x)) at ∙ before, before_all (kept_name x) (known_name k) ks (ap (comes_before (kept_name x)) at ∙ before) asc.0) in
      goes k ks at asc
      ∙ ap (λ (zs : List Local). rows ++ merged_rows (k ∷ ks) (map local_row zs)) (drop_more ls place x lt)
      ∙ ap (λ (z : Local). rows ++ merged_rows (k ∷ ks) (local_row z ∷ rest)) (sym is)
      ∙ ap (λ (zs : List Row). rows ++ zs) (front_stays (local_row x) (k ∷ ks) rest above)
      ∙ sym (append_assoc rows (local_row x ∷ []) (merged_rows (k ∷ ks) rest))
      ∙ ap (λ (zs : List Row). zs ++ merged_rows (k ∷ ks) rest) (sym more_is)

  pub goes_first : IsAbove kept_name name (drop place ls) → place ≤ length ls → Merges ls from name old rows place
  goes_first above le =
      (le, λ k ks at asc. goes k ks at asc ∙ ap (λ (zs : List Row). rows ++ zs) (known_first k ks (drop place ls) asc (subst (λ (n : List ℕ). IsAbove kept_name n (drop place ls)) (sym at) above)))

  pub goes_at : (x : Local) → place < length ls → x ≡ get_or ls place x → Ascends kept_name ls → keyed kept_name name ls ≡ None → comes_before (kept_name x) name ≡ false → Merges ls from name old rows place
  goes_at x lt is asc none behind = goes_first (above_drop name ls place x lt is asc none behind) (omega (arith, lt))

  pub goes_end : length ls ≤ place → place ≤ length ls → Merges ls from name old rows place
  goes_end all le = goes_first (subst (IsAbove kept_name name) (sym (drop_all place ls all)) tt) le

-- ---- the walk over the known ones

ascends_drop : (ks : List Known) (i : ℕ) → Ascends known_name ks → Ascends known_name (drop i ks)
ascends_drop ks zero asc = asc
ascends_drop [] (suc i) asc = tt
ascends_drop (k ∷ ks) (suc i) asc = ascends_drop ks i asc.1

pub table_more : (ls : List Local) (known : List Known) (i : ℕ) (k : Known) (from next : ℕ) (old rows more all : List Row) → i < length known → k ≡ get_or known i k → Ascends known_name known
    → Merges ls from (known_name k) old rows next → more ≡ rows ++ known_row k ∷ [] → old ++ merged_rows (drop i known) (map local_row (drop from ls)) ≡ all
    → more ++ merged_rows (drop (i + 1) known) (map local_row (drop next ls)) ≡ all
table_more ls known i k from next old rows more all lt is asc merges more_is goes =
    let ks : List Known = drop (i + 1) known in
    let rest : List Row = merged_rows ks (map local_row (drop next ls)) in
    let at : drop i known ≡ k ∷ ks = drop_more known i k lt ∙ ap (λ (x : Known). x ∷ ks) (sym is) in
    ap (λ (zs : List Row). zs ++ rest) more_is
    ∙ append_assoc rows (known_row k ∷ []) rest
    ∙ sym (merges.1 k ks refl (subst (Ascends known_name) at (ascends_drop known i asc)))
    ∙ ap (λ (zs : List Known). old ++ merged_rows zs (map local_row (drop from ls))) (sym at)
    ∙ goes

pub table_end : (ls : List Local) (known : List Known) (i next : ℕ) (rows more all : List Row) → length known ≤ i → more ≡ rows ++ map local_row (drop next ls)
    → rows ++ merged_rows (drop i known) (map local_row (drop next ls)) ≡ all → more ≡ all
table_end ls known i next rows more all past more_is goes =
    more_is ∙ ap (λ (zs : List Known). rows ++ merged_rows zs (map local_row (drop next ls))) (sym (drop_all i known past)) ∙ goes
