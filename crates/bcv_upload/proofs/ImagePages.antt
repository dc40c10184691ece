-- The page of an image lies in the block of its number, after the pages before it there.
use Rattle.std.proofs.Common.{◌≡◌, ◌∙◌, ℕ, zero, suc, ◌+◌, ◌-◌, ◌*◌, ◌/◌, ◌%◌, ◌<◌, ◌≤◌, Bool, true, cond, List, [], ◌∷◌, ◌++◌, length, take, drop, slice_get, Option, Some, None, unwrap_or, add_comm, refl, sym, ap, arith}
use Rattle.std.proofs.lemmas.Bool.{ne_eqb}
use Rattle.std.proofs.lemmas.List.{drop-drop, length-drop, take-append-le, drop-append-le}
use Rattle.std.proofs.Math.Nat.{zero-mul, suc-mul, add-mul, mul_comm, mul_assoc, mul-le-mul_right, div-add-mod, mod-lt}
use Rattle.std.proofs.Math.Seq.{drop-append-add}
use Rattle.bcv_base.specs.declared.id.Id16.{Id16}
use Rattle.bcv_base.specs.declared.seen.TxnBase.{TxnBase}
use Rattle.bcv_base.specs.History.{Item, HasBlock, first_put}
use Rattle.bcv_base.specs.HistoryLaws.{has_id-first, has_id-later}
use Rattle.bcv_base.specs.Ids.{has_id}
use Rattle.bcv_base.specs.Image.{Page, page_of}
use Rattle.bcv_base.specs.Joined.{image_of, joined, pages_of}
use Rattle.bcv_upload.specs.BlockText.{page_at, per_block}
use Rattle.bcv_upload.proofs.BlockNumbers.{IsFull}

-- ---- images with the same pages

pub length_pages : (n size : ℕ) (bytes : List ℕ) → length (pages_of n size bytes) ≡ n
length_pages zero size bytes = refl
length_pages (suc n) size bytes = ap suc (length_pages n size (drop size bytes))

pub page_next : (image : List Page) (k : ℕ) → page_of image (suc k) ≡ slice_get image k
page_next image k = ap (λ (t : Bool). cond t None (slice_get image (suc k - 1))) (ne_eqb (suc k) 0 (λ e. absurd (omega (arith, e)))) ∙ ap (slice_get image) (at k)
  where
    at : (k : ℕ) → suc k - 1 ≡ k
    at k = omega arith

pub same_pages : (a b : List Page) → length a ≡ length b → ((k : ℕ) → k < length a → slice_get a k ≡ slice_get b k) → a ≡ b
same_pages [] [] long same = refl
same_pages [] (y ∷ ys) long same = absurd (omega (arith, long))
same_pages (x ∷ xs) [] long same = absurd (omega (arith, long))
same_pages (x ∷ xs) (y ∷ ys) long same =
    let first : Some x ≡ Some y = same 0 (omega arith) in
    let here : x ≡ y = cc in
    ap (λ (z : Page). z ∷ xs) here ∙ ap (λ (zs : List Page). y ∷ zs) (same_pages xs ys (omega (arith, long)) (λ k within. same (suc k) (omega (arith, within))))

-- ---- pages of bytes

-- a page of pages that lie one after the other
page_get : (n size : ℕ) (bytes : List ℕ) (k : ℕ) → k < n → slice_get (pages_of n size bytes) k ≡ Some (take size (drop (k * size) bytes))
page_get zero size bytes k lt = absurd (omega (arith, lt))
page_get (suc n) size bytes zero lt = ap (λ j. Some (take size (drop j bytes))) (sym (zero-mul size))
page_get (suc n) size bytes (suc k) lt =
    page_get n size (drop size bytes) k (omega (arith, lt))
    ∙ ap (λ l. Some (take size l)) (drop-drop (k * size) size bytes ∙ ap (λ j. drop j bytes) (add_comm size (k * size) ∙ sym (suc-mul k size)))

-- a part that ends inside the bytes in front
pub part : (n from : ℕ) (bytes more : List ℕ) → from + n ≤ length bytes → take n (drop from (bytes ++ more)) ≡ take n (drop from bytes)
part n from bytes more le =
    let inside : n ≤ length (drop from bytes) = omega (arith, le, length-drop from bytes) in
    ap (take n) (drop-append-le from bytes more (omega (arith, le))) ∙ take-append-le n (drop from bytes) more inside

-- ---- bytes of blocks

-- the bytes from the front of a block on: its own, and others after them
record Behind (bytes rest : List ℕ) : Type 0 where
  more : List ℕ
  is : rest ≡ bytes ++ more

behind : (past : List Item) (size : ℕ) (blocks : List Id16) (k : ℕ) (i : Id16) (bytes : List ℕ) → ((j : Id16) → has_id j blocks ≡ true → HasBlock past j size)
    → slice_get blocks k ≡ Some i → first_put past i ≡ Some bytes → Behind bytes (drop (k * size) (joined past blocks))
behind past size [] k i bytes there at first = absurd (let none : ◌≡◌ {A = Option Id16} None (Some i) = at in cc)
behind past size (j ∷ js) zero i bytes there at first =
    let same : j ≡ i = some_is j i at in
    record {
      more = joined past js;
      is = ap (λ (n : ℕ). drop n (unwrap_or (first_put past j) [] ++ joined past js)) (zero-mul size)
          ∙ ap (λ (x : Id16). unwrap_or (first_put past x) [] ++ joined past js) same ∙ ap (λ (o : Option (List ℕ)). unwrap_or o [] ++ joined past js) first;
    }
  where
    some_is : (x y : Id16) → Some x ≡ Some y → x ≡ y
    some_is x y e = cc
behind past size (j ∷ js) (suc k) i bytes there at first =
    let block : HasBlock past j size = there j (has_id-first j js) in
    let later = behind past size js k i bytes (λ x h. there x (has_id-later x j js h)) at first in
    let far : suc k * size ≡ length block.0 + k * size = suc-mul k size ∙ add_comm (k * size) size ∙ ap (λ (n : ℕ). n + k * size) (sym block.2) in
    record {
      more = later.more;
      is = ap (λ (o : Option (List ℕ)). drop (suc k * size) (unwrap_or o [] ++ joined past js)) block.1
          ∙ ap (λ (n : ℕ). drop n (block.0 ++ joined past js)) far ∙ drop-append-add block.0 (joined past js) (k * size) ∙ later.is;
    }

-- ---- the page

-- where the page begins among the bytes of all blocks
begins : (base : TxnBase) (k : ℕ) → IsFull base → k * base.entry.page_size ≡ (k / per_block base) * base.block + (k % per_block base) * base.entry.page_size
begins base k f =
    let per : ℕ = per_block base in
    let size : ℕ = base.entry.page_size in
    let parts : k ≡ (k / per) * per + k % per = omega (arith, div-add-mod k per, mul_comm per (k / per)) in
    ap (λ (n : ℕ). n * size) parts ∙ add-mul ((k / per) * per) (k % per) size
    ∙ ap (λ (n : ℕ). n + (k % per) * size) (mul_assoc (k / per) per size ∙ ap (λ (n : ℕ). (k / per) * n) f.whole)

-- a page of a block ends inside it
pub page_ends : (base : TxnBase) (r : ℕ) → IsFull base → r < per_block base → r * base.entry.page_size + base.entry.page_size ≤ base.block
page_ends base r f below =
    let product : suc r * base.entry.page_size ≤ per_block base * base.entry.page_size = mul-le-mul_right base.entry.page_size below in
    omega (arith, product, f.whole, suc-mul r base.entry.page_size)

-- a page of the image of some blocks, by its number from 0, lies in the block of its number
pub page_read : (past : List Item) (base : TxnBase) (pages k : ℕ) (blocks : List Id16) (i : Id16) (bytes : List ℕ) → IsFull base → ((j : Id16) → has_id j blocks ≡ true → HasBlock past j base.block)
    → k < pages → slice_get blocks (k / per_block base) ≡ Some i → first_put past i ≡ Some bytes → length bytes ≡ base.block
    → slice_get (image_of past pages base.entry.page_size blocks) k ≡ Some (page_at base.entry.page_size bytes (k % per_block base))
page_read past base pages k blocks i bytes f there within at first whole =
    let size : ℕ = base.entry.page_size in
    let q : ℕ = k / per_block base in
    let r : ℕ = k % per_block base in
    let b = behind past base.block blocks q i bytes there at first in
    let inside : r * size + size ≤ length bytes = omega (arith, page_ends base r f (mod-lt k f.per), whole) in
    let far : drop (k * size) (joined past blocks) ≡ drop (r * size) (bytes ++ b.more) =
    ap (λ (n : ℕ). drop n (joined past blocks)) (begins base k f) ∙ sym (drop-drop (r * size) (q * base.block) (joined past blocks)) ∙ ap (λ (l : List ℕ). drop (r * size) l) b.is
    in
    page_get pages size (joined past blocks) k within ∙ ap (λ (l : List ℕ). Some (take size l)) far ∙ ap (λ (l : List ℕ). Some l) (part size (r * size) bytes b.more inside)
