-- Where a walk over the databases stops, and what stands there after a change.
use Rattle.std.proofs.Common.{◌≡◌, ◌∙◌, ℕ, suc, ◌+◌, ◌<◌, ◌≤◌, Bool, true, false, cond, List, [], ◌∷◌, ◌++◌, length, get_or, set, take, drop, refl, sym, ap, append_assoc, append-nil, arith}
use Rattle.std.specs.Cmp.Lexicographic.{slice_cmp, nat_list_cmp_total, texts_ties}
use Rattle.std.specs.Ordering.{nat_cmp, is_lt, is_gt, is_eq, ordering_reverse}
use Rattle.std.specs.Str.{bytes_eq}
use Rattle.std.specs.declared.cmp.Ordering.{Ordering}
use Rattle.std.specs.declared.cmp.Ordering.TheVariants.{Less, Equal, Greater}
use Rattle.std.proofs.lemmas.List.{drop_more, drop_all, take_more, take_all, take_at, drop_at, length-take, set_split}
use Rattle.std.specs.Prelude.{not}
use Rattle.std.specs.List.{filter, insert, remove}
use Rattle.bcv_base.specs.Keyed.{comes_before, with_keyed, without_keyed}
use Rattle.bcv_model.specs.declared.kept.Local.{Local}
use Rattle.bcv_model.specs.declared.ask.Commit.{Commit}
use Rattle.bcv_model.specs.declared.kept.Uploading.{Uploading}
use Rattle.bcv_model.specs.Notes.{kept_name, replaced_local, rebased, with_uploaded}

-- ---- the first of a name

abbrev pub Change : Type 0
Change = Local → List Local

-- none of the first so many has the name
abbrev pub IsPastName : List ℕ → List Local → ℕ → Type 0
IsPastName db ls i = (change : Change) → replaced_local change db ls ≡ take i ls ++ replaced_local change db (drop i ls)

module _ (db : List ℕ) (ls : List Local) (i : ℕ) (x : Local) where
  pub named_here : i < length ls → IsPastName db ls i → bytes_eq (kept_name (get_or ls i x)) db ≡ true
      → (change : Change) (l : Local) → l ≡ get_or ls i x → replaced_local change db ls ≡ take i ls ++ (change l ++ drop (i + 1) ls)
  named_here lt past same change l is =
      past change
      ∙ ap (λ (z : List Local). take i ls ++ replaced_local change db z) (drop_more ls i x lt)
      ∙ ap (λ (b : Bool). take i ls ++ cond b (change (get_or ls i x) ++ drop (i + 1) ls) (get_or ls i x ∷ replaced_local change db (drop (i + 1) ls))) same
      ∙ ap (λ (y : Local). take i ls ++ (change y ++ drop (i + 1) ls)) (sym is)

  pub named_later : i < length ls → IsPastName db ls i → bytes_eq (kept_name (get_or ls i x)) db ≡ false → IsPastName db ls (i + 1)
  named_later lt past other change =
      past change
      ∙ ap (λ (z : List Local). take i ls ++ replaced_local change db z) (drop_more ls i x lt)
      ∙ ap (λ (b : Bool). take i ls ++ cond b (change (get_or ls i x) ++ drop (i + 1) ls) (get_or ls i x ∷ replaced_local change db (drop (i + 1) ls))) other
      ∙ sym (append_assoc (take i ls) (get_or ls i x ∷ []) (replaced_local change db (drop (i + 1) ls)))
      ∙ ap (λ (z : List Local). z ++ replaced_local change db (drop (i + 1) ls)) (sym (take_more ls i x lt))

pub named_nowhere : (db : List ℕ) (ls : List Local) (i : ℕ) → length ls ≤ i → IsPastName db ls i → (change : Change) → replaced_local change db ls ≡ ls
named_nowhere db ls i le past change =
    past change
    ∙ ap (λ (z : List Local). take i ls ++ replaced_local change db z) (drop_all i ls le)
    ∙ append-nil (take i ls)
    ∙ take_all i ls le

-- ---- the databases of other names

pub without_is : (db : List ℕ) (ls : List Local) → filter (λ (l : Local). not (bytes_eq (kept_name l) db)) ls ≡ without_keyed kept_name db ls
without_is db [] = refl
without_is db (l ∷ ls) = step (without_is db ls) (bytes_eq (kept_name l) db)
  where
    step : filter (λ (l : Local). not (bytes_eq (kept_name l) db)) ls ≡ without_keyed kept_name db ls → (b : Bool) → cond (not b) (l ∷ filter (λ (l : Local). not (bytes_eq (kept_name l) db)) ls) (filter (λ (l : Local). not (bytes_eq (kept_name l) db)) ls) ≡ cond b (without_keyed kept_name db ls) (l ∷ without_keyed kept_name db ls)
    step rest true = rest
    step rest false = ap (λ (z : List Local). l ∷ z) rest

-- ---- a database at its place

before_greater : (o : Ordering) → is_gt o ≡ true → is_lt (ordering_reverse o) ≡ true
before_greater Less e = absurd cc
before_greater Equal e = absurd cc
before_greater Greater e = refl

other_greater : (o : Ordering) → is_gt o ≡ true → is_eq o ≡ false
other_greater Less e = refl
other_greater Equal e = absurd cc
other_greater Greater e = refl

behind_less : (o : Ordering) → is_gt o ≡ false → is_lt (ordering_reverse o) ≡ false
behind_less Less e = refl
behind_less Equal e = refl
behind_less Greater e = absurd cc

-- the order of two names, the other way round
turned : (a b : List ℕ) → comes_before a b ≡ is_lt (ordering_reverse (slice_cmp nat_cmp b a))
turned a b = ap is_lt (nat_list_cmp_total.antisymm a b)

module _ (a : Local) (xs : List Local) where
  -- what a test says of the name that was read
  pub ordered : (test : Ordering → Bool) (i : ℕ) (x : Local) (k : List ℕ) (o : Ordering) (t b : Bool)
      → kept_name a ≡ k → o ≡ slice_cmp nat_cmp (kept_name (get_or xs i x)) k → t ≡ test o → t ≡ b
      → test (slice_cmp nat_cmp (kept_name (get_or xs i x)) (kept_name a)) ≡ b
  ordered test i x k o t b at cmp answer value =
      ap (λ (z : List ℕ). test (slice_cmp nat_cmp (kept_name (get_or xs i x)) z)) at ∙ ap test (sym cmp) ∙ sym answer ∙ value

  -- the first so many names come before
  abbrev pub IsPast : ℕ → Type 0
  IsPast i = take i xs ++ with_keyed kept_name a (drop i xs) ≡ with_keyed kept_name a xs

  step : (i : ℕ) (x : Local) (l : List Local) → i < length xs → IsPast i → with_keyed kept_name a (get_or xs i x ∷ drop (i + 1) xs) ≡ l → with_keyed kept_name a xs ≡ take i xs ++ l
  step i x l lt past e = sym past ∙ ap (λ (z : List Local). take i xs ++ z) (ap (with_keyed kept_name a) (drop_more xs i x lt) ∙ e)

  -- one step of the walk, by its two tests
  abbrev chosen : Bool → Bool → Local → List Local → List Local
  chosen same before x ys = cond same (a ∷ ys) (cond before (a ∷ x ∷ ys) (x ∷ with_keyed kept_name a ys))

  pub put_over : (i : ℕ) (x : Local) → i < length xs → IsPast i → is_eq (slice_cmp nat_cmp (kept_name (get_or xs i x)) (kept_name a)) ≡ true → with_keyed kept_name a xs ≡ take i xs ++ a ∷ drop (i + 1) xs
  put_over i x lt past e =
      let y : Local = get_or xs i x in
      step i x (a ∷ drop (i + 1) xs) lt past (ap (λ (b : Bool). chosen b (comes_before (kept_name a) (kept_name y)) y (drop (i + 1) xs)) (texts_ties (kept_name y) (kept_name a) ∙ e))

  pub put_before : (i : ℕ) (x : Local) → i < length xs → IsPast i → is_gt (slice_cmp nat_cmp (kept_name (get_or xs i x)) (kept_name a)) ≡ true → with_keyed kept_name a xs ≡ take i xs ++ a ∷ drop i xs
  put_before i x lt past e =
      let y : Local = get_or xs i x in
      let o : Ordering = slice_cmp nat_cmp (kept_name y) (kept_name a) in
      step i x (a ∷ y ∷ drop (i + 1) xs) lt past
      (ap (λ (b : Bool). chosen b (comes_before (kept_name a) (kept_name y)) y (drop (i + 1) xs)) (texts_ties (kept_name y) (kept_name a) ∙ other_greater o e)
      ∙ ap (λ (b : Bool). chosen false b y (drop (i + 1) xs)) (turned (kept_name a) (kept_name y) ∙ before_greater o e))
      ∙ ap (λ (z : List Local). take i xs ++ a ∷ z) (sym (drop_more xs i x lt))

  pub put_later : (i : ℕ) (x : Local) → i < length xs → IsPast i → is_eq (slice_cmp nat_cmp (kept_name (get_or xs i x)) (kept_name a)) ≡ false → is_gt (slice_cmp nat_cmp (kept_name (get_or xs i x)) (kept_name a)) ≡ false → IsPast (i + 1)
  put_later i x lt past other e =
      let y : Local = get_or xs i x in
      let o : Ordering = slice_cmp nat_cmp (kept_name y) (kept_name a) in
      ap (λ (z : List Local). z ++ with_keyed kept_name a (drop (i + 1) xs)) (take_more xs i x lt)
      ∙ append_assoc (take i xs) (y ∷ []) (with_keyed kept_name a (drop (i + 1) xs))
      ∙ sym (step i x (y ∷ with_keyed kept_name a (drop (i + 1) xs)) lt past
      (ap (λ (b : Bool). chosen b (comes_before (kept_name a) (kept_name y)) y (drop (i + 1) xs)) (texts_ties (kept_name y) (kept_name a) ∙ other)
      ∙ ap (λ (b : Bool). chosen false b y (drop (i + 1) xs)) (turned (kept_name a) (kept_name y) ∙ behind_less o e)))

  pub put_last : (i : ℕ) → length xs ≤ i → IsPast i → with_keyed kept_name a xs ≡ take i xs ++ a ∷ drop i xs
  put_last i le past =
      sym past ∙ ap (λ (z : List Local). take i xs ++ with_keyed kept_name a z) (drop_all i xs le) ∙ ap (λ (z : List Local). take i xs ++ a ∷ z) (sym (drop_all i xs le))

-- ---- lists with one item changed

pub set_at : {A : Type 0} (xs : List A) (i : ℕ) (a : A) → i < length xs → set xs i a ≡ take i xs ++ a ∷ drop (i + 1) xs
set_at xs i a lt = set_split xs i a lt ∙ (let same : suc i ≡ i + 1 = omega arith in ap (λ (n : ℕ). take i xs ++ a ∷ drop n xs) same)

-- the first of the name stands there, and what a change of it leaves
abbrev pub IsFirstNamed : List ℕ → List Local → ℕ → Type 0
IsFirstNamed db ls i = (i < length ls) × ((change : Change) (l : Local) → l ≡ get_or ls i l → replaced_local change db ls ≡ take i ls ++ (change l ++ drop (i + 1) ls))

-- one of the name stands there, and what a put over it leaves
abbrev pub IsThere : List ℕ → List Local → ℕ → Type 0
IsThere db ls i = (i < length ls) × ((l : Local) → kept_name l ≡ db → with_keyed kept_name l ls ≡ take i ls ++ l ∷ drop (i + 1) ls)

removed_at : (ls : List Local) (i : ℕ) → remove ls i ≡ take i ls ++ drop (i + 1) ls
removed_at ls i = let same : suc i ≡ i + 1 = omega arith in ap (λ (n : ℕ). take i ls ++ drop n ls) same

put_again : (ls : List Local) (i : ℕ) (x : Local) → i < length ls → insert (remove ls i) i x ≡ take i ls ++ x ∷ drop (i + 1) ls
put_again ls i x lt =
    let len : length (take i ls) ≡ i = omega (arith, length-take i ls, lt) in
    ap (λ (l : List Local). insert l i x) (removed_at ls i)
    ∙ ap (λ (l : List Local). l ++ x ∷ drop i (take i ls ++ drop (i + 1) ls)) (take_at (take i ls) (drop (i + 1) ls) i len)
    ∙ ap (λ (l : List Local). take i ls ++ x ∷ l) (drop_at (take i ls) (drop (i + 1) ls) i len)

-- ---- a database after an upload that was published

module _ (number : ℕ) (u : Uploading) (ls : List Local) (i : ℕ) (l : Local) (first : IsFirstNamed u.entry.name ls i) (is : l ≡ get_or ls i l) where
  taken : (later : List Commit) → later ≡ drop u.count l.commits → with_uploaded number u ls ≡ take i ls ++ (rebased number u later ++ drop (i + 1) ls)
  taken later e =
      first.1 (λ (x : Local). rebased number u (drop u.count x.commits)) l is
      ∙ ap (λ (cs : List Commit). take i ls ++ (rebased number u cs ++ drop (i + 1) ls)) (sym e)

  pub uploaded_all : (later : List Commit) → later ≡ drop u.count l.commits → length later ≡ 0 → remove ls i ≡ with_uploaded number u ls
  uploaded_all [] e none = removed_at ls i ∙ sym (taken [] e)
  uploaded_all (c ∷ cs) e none = absurd (omega (arith, none))

  pub uploaded_some : (later : List Commit) → later ≡ drop u.count l.commits → (length later ≡ 0 → ⊥)
      → insert (remove ls i) i (record { entry = u.entry; number = number; block = u.block; commits = later }) ≡ with_uploaded number u ls
  uploaded_some [] e some = absurd (some refl)
  uploaded_some (c ∷ cs) e some =
      put_again ls i (record { entry = u.entry; number = number; block = u.block; commits = c ∷ cs }) first.0 ∙ sym (taken (c ∷ cs) e)
