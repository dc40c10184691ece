-- A transaction by its place in the list of those that are open.
use Rattle.std.proofs.Common.{◌≡◌, ◌∙◌, ℕ, zero, suc, ◌<◌, ◌≤◌, Bool, true, false, not, cond, nat_eq, List, [], ◌∷◌, ◌++◌, length, find, slice_get, slice_set, get_or, Option, Some, None, rules, refl, sym, ap, subst, arith, inl, inr}
use Rattle.std.specs.List.{AllByRecursion, IsDistinct, position, position_or_len, remove}
use Rattle.std.proofs.lemmas.Bool.{cases_Bool, eqb-true}
use Rattle.std.proofs.lemmas.Grind.{common_steps}
use Rattle.std.proofs.lemmas.List.Folds.{find_at}
use Rattle.std.proofs.lemmas.Option.{slice_get_past, slice_get_read}
use Rattle.bcv_snapshot.specs.Opened.{Opened}
use Rattle.bcv_transaction.specs.declared.open_txn.OpenTxn.{OpenTxn}
use Rattle.bcv_transaction.specs.Open.{is_numbered, numbers_of, txn_at, with_txn, without_txn}

-- none of these has the number
abbrev pub HaveNot : ℕ → List OpenTxn → Type 0
HaveNot n ts = AllByRecursion (λ (t : OpenTxn). is_numbered n t ≡ false) ts

-- ---- the list around a transaction

-- the transaction of a number stands at this place, and no other one has the number
pub record IsAt (n : ℕ) (ts : List OpenTxn) (at : ℕ) (x : OpenTxn) : Type 0 where
  pub front : List OpenTxn
  pub back : List OpenTxn
  pub split : ts ≡ front ++ x ∷ back
  pub place : at ≡ length front
  pub number : x.number ≡ n
  pub before : HaveNot n front
  pub after : HaveNot n back

pub turned : (a b : ℕ) → nat_eq a b ≡ false → nat_eq b a ≡ false
turned a b differs = elim (cases_Bool (nat_eq b a)) [
  | inl t ↦ (let same : b ≡ a = eqb-true b a t in subst (λ (k : ℕ). nat_eq b k ≡ false) same (subst (λ (k : ℕ). nat_eq k b ≡ false) (sym same) differs))
  | inr t ↦ t
]

pub others_differ : (n m : ℕ) (ts : List OpenTxn) → m ≡ n → AllByRecursion (λ (k : ℕ). nat_eq m k ≡ false) (numbers_of ts) → HaveNot n ts
others_differ n m [] same all = tt
others_differ n m (t ∷ ts) same all = (subst (λ (k : ℕ). nat_eq t.number k ≡ false) same (turned m t.number all.0), others_differ n m ts same all.1)

first_is : (n : ℕ) (t : OpenTxn) (ts : List OpenTxn) → is_numbered n t ≡ true → position_or_len (is_numbered n) (t ∷ ts) ≡ 0
first_is n t ts is = rw is refl

first_is_not : (n : ℕ) (t : OpenTxn) (ts : List OpenTxn) → is_numbered n t ≡ false → position_or_len (is_numbered n) (t ∷ ts) ≡ suc (position_or_len (is_numbered n) ts)
first_is_not n t ts is = rw is (omega arith)

split_at : (n : ℕ) (ts : List OpenTxn) (at : ℕ) (x : OpenTxn) → slice_get ts at ≡ Some x → position_or_len (is_numbered n) ts ≡ at → IsDistinct nat_eq (numbers_of ts) → IsAt n ts at x
unfolding IsDistinct
split_at n [] at x get e d = absurd (cc)
split_at n (t ∷ ts) zero x get e d = elim (cases_Bool (is_numbered n t)) [
  | inl is ↦ (let same : t ≡ x = cc in record {
    front = [];
    back = ts;
    split = ap (λ (y : OpenTxn). y ∷ ts) same;
    place = refl;
    number = ap (λ (y : OpenTxn). y.number) (sym same) ∙ eqb-true t.number n is;
    before = tt;
    after = others_differ n t.number ts (eqb-true t.number n is) d.0;
  })
  | inr is ↦ (let more = first_is_not n t ts is in absurd (omega (arith, more, e)))
]
split_at n (t ∷ ts) (suc k) x get e d = elim (cases_Bool (is_numbered n t)) [
  | inl is ↦ (let none = first_is n t ts is in absurd (omega (arith, none, e)))
  | inr is ↦ (let more = first_is_not n t ts is in
      let rest = split_at n ts k x get (omega (arith, more, e)) d.1 in
      record {
        front = t ∷ rest.front;
        back = rest.back;
        split = ap (λ (ys : List OpenTxn). t ∷ ys) rest.split;
        place = ap suc rest.place;
        number = rest.number;
        before = (is, rest.before);
        after = rest.after;
      })
]

first_at : (test : OpenTxn → Bool) (ts : List OpenTxn) (at : ℕ) → position test ts ≡ Some at → (position_or_len test ts ≡ at) × (at < length ts)
first_at test ts at e = (grind (arith, common_steps), grind (arith, common_steps))

-- the transaction that was read at the place that was found
pub is_at : (n : ℕ) (ts : List OpenTxn) (at : ℕ) (x : OpenTxn) → position (is_numbered n) ts ≡ Some at → x ≡ get_or ts at x → IsDistinct nat_eq (numbers_of ts) → IsAt n ts at x
is_at n ts at x e read d =
    let first = first_at (is_numbered n) ts at e in
    split_at n ts at x (slice_get_read ts (length ts) at x refl first.1 read) first.0 d

-- the same, by the number alone
pub read_at : (n : ℕ) (ts : List OpenTxn) (o : Option ℕ) (at : ℕ) (r : OpenTxn) → o ≡ position (is_numbered n) ts → o ≡ Some at → r ≡ get_or ts at r → txn_at n ts ≡ Some (get_or ts at r)
read_at n ts o at r place some read =
    let first = first_at (is_numbered n) ts at (sym place ∙ some) in
    find_at (is_numbered n) ts ∙ ap (slice_get ts) first.0
    ∙ slice_get_read ts (length ts) at (get_or ts at r) refl first.1 (subst (λ (y : OpenTxn). y ≡ get_or ts at y) read read)

none_first : (test : OpenTxn → Bool) (ts : List OpenTxn) → position test ts ≡ None → length ts ≤ position_or_len test ts
none_first test ts e = grind (arith, common_steps)

-- no place was found
pub is_nowhere : (n : ℕ) (ts : List OpenTxn) → position (is_numbered n) ts ≡ None → txn_at n ts ≡ None
is_nowhere n ts e = find_at (is_numbered n) ts ∙ slice_get_past ts (position_or_len (is_numbered n) ts) (none_first (is_numbered n) ts e)

-- ---- what is at the place

found_between : (n : ℕ) (a : List OpenTxn) (x : OpenTxn) (b : List OpenTxn) → HaveNot n a → is_numbered n x ≡ true → find (is_numbered n) (a ++ x ∷ b) ≡ Some x
found_between n [] x b none is = rw is refl
found_between n (t ∷ a) x b none is = ap (λ (c : Bool). cond c (Some t) (find (is_numbered n) (a ++ x ∷ b))) none.0 ∙ found_between n a x b none.1 is

pub with_none : (n : ℕ) (u : Opened) (ts : List OpenTxn) → HaveNot n ts → with_txn n u ts ≡ ts
with_none n u [] none = refl
with_none n u (t ∷ ts) none =
    ap (λ (c : Bool). cond c (record t { txn = u }) t ∷ with_txn n u ts) none.0 ∙ ap (λ (ys : List OpenTxn). t ∷ ys) (with_none n u ts none.1)

with_between : (n : ℕ) (u : Opened) (a : List OpenTxn) (x : OpenTxn) (b : List OpenTxn) → HaveNot n a → is_numbered n x ≡ true → HaveNot n b
    → with_txn n u (a ++ x ∷ b) ≡ a ++ record x { txn = u } ∷ b
with_between n u [] x b none is after =
    ap (λ (c : Bool). cond c (record x { txn = u }) x ∷ with_txn n u b) is ∙ ap (λ (ys : List OpenTxn). record x { txn = u } ∷ ys) (with_none n u b after)
with_between n u (t ∷ a) x b none is after =
    ap (λ (c : Bool). cond c (record t { txn = u }) t ∷ with_txn n u (a ++ x ∷ b)) none.0 ∙ ap (λ (ys : List OpenTxn). t ∷ ys) (with_between n u a x b none.1 is after)

without_none : (n : ℕ) (ts : List OpenTxn) → HaveNot n ts → without_txn n ts ≡ ts
without_none n [] none = refl
without_none n (t ∷ ts) none =
    ap (λ (c : Bool). cond (not c) (t ∷ without_txn n ts) (without_txn n ts)) none.0 ∙ ap (λ (ys : List OpenTxn). t ∷ ys) (without_none n ts none.1)

without_between : (n : ℕ) (a : List OpenTxn) (x : OpenTxn) (b : List OpenTxn) → HaveNot n a → is_numbered n x ≡ true → HaveNot n b → without_txn n (a ++ x ∷ b) ≡ a ++ b
without_between n [] x b none is after = ap (λ (c : Bool). cond (not c) (x ∷ without_txn n b) (without_txn n b)) is ∙ without_none n b after
without_between n (t ∷ a) x b none is after =
    ap (λ (c : Bool). cond (not c) (t ∷ without_txn n (a ++ x ∷ b)) (without_txn n (a ++ x ∷ b))) none.0 ∙ ap (λ (ys : List OpenTxn). t ∷ ys) (without_between n a x b none.1 is after)

set_between : (a : List OpenTxn) (x y : OpenTxn) (b : List OpenTxn) → slice_set (a ++ x ∷ b) (length a) y ≡ a ++ y ∷ b
set_between [] x y b = refl
set_between (t ∷ a) x y b = ap (λ (ys : List OpenTxn). t ∷ ys) (set_between a x y b)

remove_between : (a : List OpenTxn) (x : OpenTxn) (b : List OpenTxn) → remove (a ++ x ∷ b) (length a) ≡ a ++ b
remove_between [] x b = refl
remove_between (t ∷ a) x b = ap (λ (ys : List OpenTxn). t ∷ ys) (remove_between a x b)

is_its : (x : OpenTxn) (n : ℕ) → x.number ≡ n → is_numbered n x ≡ true
is_its x n is = subst (λ (k : ℕ). nat_eq x.number k ≡ true) is (itself x.number)
  where
    itself : (k : ℕ) → nat_eq k k ≡ true
    itself k = search rules

pub found : (n : ℕ) (ts : List OpenTxn) (at : ℕ) (x : OpenTxn) → IsAt n ts at x → txn_at n ts ≡ Some x
found n ts at x i = ap (txn_at n) i.split ∙ found_between n i.front x i.back i.before (is_its x n i.number)

pub changed : (n : ℕ) (ts : List OpenTxn) (at : ℕ) (x : OpenTxn) (u : Opened) (i : IsAt n ts at x) → with_txn n u ts ≡ i.front ++ record x { txn = u } ∷ i.back
changed n ts at x u i = ap (with_txn n u) i.split ∙ with_between n u i.front x i.back i.before (is_its x n i.number) i.after

-- the write at the place
pub written : (n : ℕ) (ts : List OpenTxn) (at : ℕ) (x : OpenTxn) (u : Opened) → IsAt n ts at x → slice_set ts at (record x { txn = u }) ≡ with_txn n u ts
written n ts at x u i =
    ap (λ (ys : List OpenTxn). slice_set ys at (record x { txn = u })) i.split ∙ ap (λ (k : ℕ). slice_set (i.front ++ x ∷ i.back) k (record x { txn = u })) i.place
    ∙ set_between i.front x (record x { txn = u }) i.back ∙ sym (changed n ts at x u i)

pub left : (n : ℕ) (ts : List OpenTxn) (at : ℕ) (x : OpenTxn) (i : IsAt n ts at x) → without_txn n ts ≡ i.front ++ i.back
left n ts at x i = ap (without_txn n) i.split ∙ without_between n i.front x i.back i.before (is_its x n i.number) i.after

pub removed : (n : ℕ) (ts : List OpenTxn) (at : ℕ) (x : OpenTxn) → IsAt n ts at x → remove ts at ≡ without_txn n ts
removed n ts at x i =
    ap (λ (ys : List OpenTxn). remove ys at) i.split ∙ ap (remove (i.front ++ x ∷ i.back)) i.place ∙ remove_between i.front x i.back ∙ sym (left n ts at x i)
