-- Marks beside ascending ids: one more mark, one more list of ids, and the ids that are left without one.
use Rattle.std.proofs.Common.{◌≡◌, ◌∙◌, ℕ, ◌+◌, ◌<◌, ◌≤◌, zero, suc, Bool, true, false, cond, List, [], ◌∷◌, ◌++◌, length, get_or, take, drop, set, replicate, refl, sym, ap, subst, append_assoc, arith}
use Rattle.std.specs.Prelude.{◌||◌, ◌&&◌, not}
use Rattle.std.specs.List.{filter, list_any}
use Rattle.std.specs.Str.{bytes_eq}
use Rattle.std.proofs.lemmas.Bool.{or_parts}
use Rattle.std.proofs.lemmas.List.{drop_more, take_all}
use Rattle.std.proofs.lemmas.List.Folds.{list_any_more}
use Rattle.bcv_base.specs.declared.id.Id16.{Id16}
use Rattle.bcv_base.specs.declared.manifest.DbEntry.{DbEntry}
use Rattle.bcv_base.specs.Ids.{id_eq, has_id}
use Rattle.bcv_base.specs.Keyed.{comes_before}
use Rattle.bcv_base.specs.ManifestRules.{IsAbove, Ascends, lists}
use Rattle.bcv_dbmap.specs.Merged.{own_key, marked, unmarked}
use Rattle.bcv_dbmap.proofs.Keys.{by_test, same_key, key_turned, before_other, behind_other}

-- ---- no mark

left_as_is : (test : Id16 → Bool) (i : Id16) (is : List Id16) (b : Bool) → list_any test (i ∷ is) ≡ false → (b || test i) ≡ b
left_as_is test i is true h = refl
left_as_is test i is false h = (or_parts (test i) (list_any test is) h).0

pub marked_none : (test : Id16 → Bool) (ids : List Id16) (marks : List Bool) → length marks ≡ length ids → list_any test ids ≡ false → marked test ids marks ≡ marks
marked_none test [] [] len h = refl
marked_none test [] (b ∷ bs) len h = absurd (omega arith)
marked_none test (i ∷ is) [] len h = absurd (omega arith)
marked_none test (i ∷ is) (b ∷ bs) len h =
    let rest : length bs ≡ length is = omega arith in
    ap (λ (t : Bool). t ∷ marked test is bs) (left_as_is test i is b h)
    ∙ ap (λ (l : List Bool). b ∷ l) (marked_none test is bs rest (or_parts (test i) (list_any test is) h).1)

none_passes : (ids : List Id16) → list_any (λ _. false) ids ≡ false
none_passes [] = refl
none_passes (i ∷ is) = none_passes is

pub marked_nothing : (ids : List Id16) (marks : List Bool) → length marks ≡ length ids → marked (λ _. false) ids marks ≡ marks
marked_nothing ids marks len = marked_none (λ _. false) ids marks len (none_passes ids)

-- ---- one mark

others_above : (k : List ℕ) (ids : List Id16) → IsAbove own_key k ids → list_any (λ i. bytes_eq k i.0) ids ≡ false
others_above k [] above = refl
others_above k (i ∷ is) above = ap (λ (b : Bool). b || list_any (λ (i : Id16). bytes_eq k i.0) is) (before_other k i.0 above.0) ∙ others_above k is above.1

marked_true : (b t : Bool) → t ≡ true → (b || t) ≡ true
marked_true true t e = refl
marked_true false t e = e

marked_false : (b t : Bool) → t ≡ false → (b || t) ≡ b
marked_false true t e = refl
marked_false false t e = e

found_above : (k : List ℕ) (ids : List Id16) (n : ℕ) (d : Id16) → n < length ids → IsAbove own_key k ids → comes_before k (get_or ids n d).0 ≡ true
found_above k [] n d lt above = absurd (omega arith)
found_above k (x ∷ xs) zero d lt above = above.0
found_above k (x ∷ xs) (suc n) d lt above = found_above k xs n d (omega arith) above.1

-- the id that was found is the only one of its bytes
pub marked_at : (id : Id16) (ids : List Id16) (marks : List Bool) (n : ℕ) (d : Id16) → Ascends own_key ids → length marks ≡ length ids → n < length ids → id_eq id (get_or ids n d) ≡ true
    → set marks n true ≡ marked (id_eq id) ids marks
marked_at id [] marks n d asc len lt e = absurd (omega arith)
marked_at id (i ∷ is) [] n d asc len lt e = absurd (omega arith)
marked_at id (i ∷ is) (b ∷ bs) zero d asc len lt e =
    let rest : length bs ≡ length is = omega arith in
    let above : IsAbove own_key id.0 is = subst (λ (k : List ℕ). IsAbove own_key k is) (sym (same_key id.0 i.0 e)) asc.0 in
    ap (λ (l : List Bool). true ∷ l) (sym (marked_none (id_eq id) is bs rest (others_above id.0 is above)))
    ∙ ap (λ (t : Bool). t ∷ marked (id_eq id) is bs) (sym (marked_true b (id_eq id i) e))
marked_at id (i ∷ is) (b ∷ bs) (suc n) d asc len lt e =
    let rest : length bs ≡ length is = omega arith in
    let within : n < length is = omega arith in
    let at : id.0 ≡ (get_or is n d).0 = same_key id.0 (get_or is n d).0 e in
    let other : bytes_eq id.0 i.0 ≡ false = ap (λ (k : List ℕ). bytes_eq k i.0) at ∙ behind_other i.0 (get_or is n d).0 (found_above i.0 is n d within asc.0) in
    ap (λ (l : List Bool). b ∷ l) (marked_at id is bs n d asc.1 rest within e)
    ∙ ap (λ (t : Bool). t ∷ marked (id_eq id) is bs) (sym (marked_false b (id_eq id i) other))

turned : (id : Id16) (ids : List Id16) → list_any (id_eq id) ids ≡ has_id id ids
turned id [] = refl
turned id (i ∷ is) = ap (λ (b : Bool). b || list_any (id_eq id) is) (key_turned id.0 i.0) ∙ ap (λ (b : Bool). id_eq i id || b) (turned id is)

pub marked_missing : (id : Id16) (ids : List Id16) (marks : List Bool) → length marks ≡ length ids → has_id id ids ≡ false → marks ≡ marked (id_eq id) ids marks
marked_missing id ids marks len none = sym (marked_none (id_eq id) ids marks len (turned id ids ∙ none))

-- ---- more marks

either : (a b c : Bool) → ((a || b) || c) ≡ (a || (b || c))
either true b c = refl
either false b c = refl

pub marked_twice : (f g : Id16 → Bool) (ids : List Id16) (marks : List Bool) → marked g ids (marked f ids marks) ≡ marked (λ i. f i || g i) ids marks
marked_twice f g [] marks = refl
marked_twice f g (i ∷ is) [] = refl
marked_twice f g (i ∷ is) (b ∷ bs) =
    ap (λ (t : Bool). t ∷ marked g is (marked f is bs)) (either b (f i) (g i)) ∙ ap (λ (l : List Bool). (b || (f i || g i)) ∷ l) (marked_twice f g is bs)

pub marked_alike : (f g : Id16 → Bool) (ids : List Id16) (marks : List Bool) → ((i : Id16) → f i ≡ g i) → marked f ids marks ≡ marked g ids marks
marked_alike f g ids marks same =
    let alike : f ≡ g = λ j i. same i j in
    ap (λ (h : Id16 → Bool). marked h ids marks) alike

pub length_marked : (test : Id16 → Bool) (ids : List Id16) (marks : List Bool) → length marks ≡ length ids → length (marked test ids marks) ≡ length ids
length_marked test [] marks len = refl
length_marked test (i ∷ is) [] len = absurd (omega arith)
length_marked test (i ∷ is) (b ∷ bs) len = let rest : length bs ≡ length is = omega arith in ap suc (length_marked test is bs rest)

-- one more item of any kind, whose ids are held against them
pub each_more : {A : Type 0} (has : A → Id16 → Bool) (ids : List Id16) (first marks more : List Bool) (xs : List A) (n : ℕ) (d : A) → n < length xs
    → marks ≡ marked (λ i. list_any (λ x. has x i) (take n xs)) ids first → more ≡ marked (has (get_or xs n d)) ids marks
    → more ≡ marked (λ i. list_any (λ x. has x i) (take (n + 1) xs)) ids first
each_more has ids first marks more xs n d lt so_far e =
    e ∙ ap (marked (has (get_or xs n d)) ids) so_far
    ∙ marked_twice (λ i. list_any (λ x. has x i) (take n xs)) (has (get_or xs n d)) ids first
    ∙ marked_alike (λ i. list_any (λ x. has x i) (take n xs) || has (get_or xs n d) i) (λ i. list_any (λ x. has x i) (take (n + 1) xs)) ids first
    (λ i. sym (list_any_more (λ x. has x i) xs n d lt))

-- a test that is shut marks none
pub marked_shut : (b : Bool) (test : Id16 → Bool) (ids : List Id16) (marks : List Bool) → length marks ≡ length ids → b ≡ false → marks ≡ marked (λ i. b && test i) ids marks
marked_shut b test ids marks len e = sym (ap (λ (t : Bool). marked (λ i. t && test i) ids marks) e ∙ marked_nothing ids marks len)

pub marked_all : (ids : List Id16) (first marks : List Bool) (others : List Id16) (n : ℕ) → length others ≤ n → marks ≡ marked (λ i. has_id i (take n others)) ids first
    → marks ≡ marked (λ i. has_id i others) ids first
marked_all ids first marks others n le so_far = so_far ∙ ap (λ (l : List Id16). marked (λ i. has_id i l) ids first) (take_all n others le)

pub listed_all : (ids : List Id16) (first marks : List Bool) (dbs : List DbEntry) (n : ℕ) → length dbs ≤ n → marks ≡ marked (lists (take n dbs)) ids first → marks ≡ marked (lists dbs) ids first
listed_all ids first marks dbs n le so_far = so_far ∙ ap (λ (l : List DbEntry). marked (lists l) ids first) (take_all n dbs le)

-- ---- the ids without a mark

pub unmarked_is : (test : Id16 → Bool) (ids : List Id16) → unmarked ids (marked test ids (replicate (length ids) false)) ≡ filter (λ i. not (test i)) ids
unmarked_is test [] = refl
unmarked_is test (i ∷ is) =
    by_test (test i)
    (λ t. ap (λ (b : Bool). cond b (unmarked is (marked test is (replicate (length is) false))) (i ∷ unmarked is (marked test is (replicate (length is) false)))) t
    ∙ unmarked_is test is
    ∙ sym (ap (λ (b : Bool). cond (not b) (i ∷ filter (λ i. not (test i)) is) (filter (λ i. not (test i)) is)) t))
    (λ t. ap (λ (b : Bool). cond b (unmarked is (marked test is (replicate (length is) false))) (i ∷ unmarked is (marked test is (replicate (length is) false)))) t
    ∙ ap (λ (l : List Id16). i ∷ l) (unmarked_is test is)
    ∙ sym (ap (λ (b : Bool). cond (not b) (i ∷ filter (λ i. not (test i)) is) (filter (λ i. not (test i)) is)) t))

drop_bools : (marks : List Bool) (n : ℕ) → n < length marks → drop n marks ≡ get_or marks n false ∷ drop (n + 1) marks
drop_bools marks n lt = drop_more marks n false lt

module _ (ids : List Id16) (marks : List Bool) (n : ℕ) (d : Id16) (kept : List Id16) (lt : n < length ids) (len : length marks ≡ length ids)
    (so_far : kept ++ unmarked (drop n ids) (drop n marks) ≡ unmarked ids marks) where
  at : (b : Bool) → get_or marks n false ≡ b
      → kept ++ cond b (unmarked (drop (n + 1) ids) (drop (n + 1) marks)) (get_or ids n d ∷ unmarked (drop (n + 1) ids) (drop (n + 1) marks)) ≡ unmarked ids marks
  at b e =
      let within : n < length marks = omega arith in
      sym (ap (λ (l : List Id16). kept ++ l)
      (ap (λ (l : List Id16). unmarked l (drop n marks)) (drop_more ids n d lt)
      ∙ ap (unmarked (get_or ids n d ∷ drop (n + 1) ids)) (drop_bools marks n within)
      ∙ ap (λ (t : Bool). cond t (unmarked (drop (n + 1) ids) (drop (n + 1) marks)) (get_or ids n d ∷ unmarked (drop (n + 1) ids) (drop (n + 1) marks))) e))
      ∙ so_far

  pub unmarked_skips : get_or marks n false ≡ true → kept ++ unmarked (drop (n + 1) ids) (drop (n + 1) marks) ≡ unmarked ids marks
  unmarked_skips e = at true e

  pub unmarked_keeps : get_or marks n false ≡ false → (kept ++ get_or ids n d ∷ []) ++ unmarked (drop (n + 1) ids) (drop (n + 1) marks) ≡ unmarked ids marks
  unmarked_keeps e = append_assoc kept (get_or ids n d ∷ []) (unmarked (drop (n + 1) ids) (drop (n + 1) marks)) ∙ at false e
