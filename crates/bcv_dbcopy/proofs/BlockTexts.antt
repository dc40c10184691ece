-- The bytes of a block that holds pages, and the pages that it holds.
use Rattle.std.proofs.Common.{◌≡◌, ℕ, zero, suc, ◌+◌, ◌-◌, ◌*◌, ◌/◌, ◌≤◌, List, [], ◌∷◌, ◌++◌, length, take, drop, replicate, refl, sym, ap, ◌∙◌, arith, append_assoc, append-nil, length-append, take-append-drop}
use Rattle.std.proofs.lemmas.List.{length-replicate}
use Rattle.std.proofs.Math.Nat.{mul-le-mul_right, div-mul-le_self}
use Rattle.std.proofs.Math.Seq.{take-append_seam, drop-append_seam}
use Rattle.std.proofs.Math.ListN.{drop_of_length-le}
use Rattle.std.specs.List.{AllByRecursion}
use Rattle.bcv_base.specs.Image.{Page}
use Rattle.bcv_base.specs.Joined.{pages_of}
use Rattle.bcv_dbcopy.specs.State.{pages_text, padded}

-- each of these pages has a size
abbrev pub Sized : ℕ → List Page → Type 0
Sized size pages = AllByRecursion (λ (p : Page). length p ≡ size) pages

pub take_all : {A : Type 0} (n : ℕ) (xs : List A) → length xs ≤ n → take n xs ≡ xs
take_all n xs le = sym (append-nil (take n xs)) ∙ ap (λ l. take n xs ++ l) (sym (drop_of_length-le xs le)) ∙ take-append-drop n xs

pub length_text : (size : ℕ) (pages : List Page) → Sized size pages → length (pages_text pages) ≡ length pages * size
length_text size [] e = omega arith
length_text size (p ∷ ps) e =
    length-append p (pages_text ps) ∙ ap (λ n. n + length (pages_text ps)) e.0 ∙ ap (λ n. size + n) (length_text size ps e.1) ∙ one_more (length ps) size
  where
    one_more : (n size : ℕ) → size + n * size ≡ suc n * size
    one_more n size = omega arith

pub text-append : (a b : List Page) → pages_text (a ++ b) ≡ pages_text a ++ pages_text b
text-append [] b = refl
text-append (p ∷ ps) b = ap (λ l. p ++ l) (text-append ps b) ∙ sym (append_assoc p (pages_text ps) (pages_text b))

-- bytes that were filled up with zeros
pub filled_up : (pages : List Page) (block k more : ℕ) (items now : List ℕ) → length (pages_text pages) ≤ block
    → items ≡ pages_text (take k pages) → length pages ≤ k → now ≡ take block items ++ replicate more 0 → length now ≡ block → now ≡ padded block (pages_text pages)
filled_up pages block k more items now fits text all is len =
    let whole : items ≡ pages_text pages = text ∙ ap pages_text (take_all k pages all) in
    let short : length items ≤ block = omega (arith, ap length whole) in
    let shown : now ≡ pages_text pages ++ replicate more 0 = is ∙ ap (λ l. l ++ replicate more 0) (take_all block items short ∙ whole) in
    let sum : length now ≡ length (pages_text pages) + more = ap length shown ∙ length-append (pages_text pages) (replicate more 0) ∙ ap (λ n. length (pages_text pages) + n) (length-replicate more 0) in
    let same : more ≡ block - length (pages_text pages) = omega arith in
    shown ∙ ap (λ n. pages_text pages ++ replicate n 0) same

-- the pages in front of some bytes
pub pages_held : (size : ℕ) (pages : List Page) (n : ℕ) (more : List ℕ) → Sized size pages → pages_of (length pages + n) size (pages_text pages ++ more) ≡ pages ++ pages_of n size more
pages_held size [] n more e = ap (λ (k : ℕ). pages_of k size more) (none_more n)
  where
    none_more : (n : ℕ) → 0 + n ≡ n
    none_more n = omega arith
pages_held size (p ∷ ps) n more e =
    let front : take size ((p ++ pages_text ps) ++ more) ≡ p = ap (λ l. take size l) (append_assoc p (pages_text ps) more) ∙ ap (λ n. take n (p ++ (pages_text ps ++ more))) (sym e.0) ∙ take-append_seam p (pages_text ps ++ more) in
    let rest : drop size ((p ++ pages_text ps) ++ more) ≡ pages_text ps ++ more = ap (λ l. drop size l) (append_assoc p (pages_text ps) more) ∙ ap (λ n. drop n (p ++ (pages_text ps ++ more))) (sym e.0) ∙ drop-append_seam p (pages_text ps ++ more) in
    ap (λ (k : ℕ). pages_of k size ((p ++ pages_text ps) ++ more)) (one_more (length ps) n)
    ∙ ap (λ x. x ∷ pages_of (length ps + n) size (drop size ((p ++ pages_text ps) ++ more))) front
    ∙ ap (λ l. p ∷ pages_of (length ps + n) size l) rest
    ∙ ap (λ l. p ∷ l) (pages_held size ps n more e.1)
  where
    one_more : (k n : ℕ) → suc k + n ≡ suc (k + n)
    one_more k n = omega arith

-- some of these pages
pub sized_take : (size n : ℕ) (pages : List Page) → Sized size pages → Sized size (take n pages)
sized_take size zero pages e = tt
sized_take size (suc n) [] e = tt
sized_take size (suc n) (p ∷ ps) e = (e.0, sized_take size n ps e.1)

pub sized_drop : (size n : ℕ) (pages : List Page) → Sized size pages → Sized size (drop n pages)
sized_drop size zero pages e = e
sized_drop size (suc n) [] e = tt
sized_drop size (suc n) (p ∷ ps) e = sized_drop size n ps e.1

pub take_few : {A : Type 0} (n : ℕ) (xs : List A) → length (take n xs) ≤ n
take_few zero xs = omega arith
take_few (suc n) [] = omega arith
take_few (suc n) (x ∷ xs) = omega (arith, take_few n xs)

-- as many pages as a block holds fit it
pub few_fit : (block size n from : ℕ) (pages : List Page) → Sized size pages → n ≤ block / size → length (pages_text (take n (drop from pages))) ≤ block
few_fit block size n from pages e few =
    let text : length (pages_text (take n (drop from pages))) ≡ length (take n (drop from pages)) * size = length_text size (take n (drop from pages)) (sized_take size n (drop from pages) (sized_drop size from pages e)) in
    let below : length (take n (drop from pages)) * size ≤ block / size * size = mul-le-mul_right size (omega (arith, take_few n (drop from pages))) in
    let whole : block / size * size ≤ block = div-mul-le_self block size in
    omega arith
