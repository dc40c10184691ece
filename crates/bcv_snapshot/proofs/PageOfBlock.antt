-- The page of an image lies in the block of its number, behind the pages before it there.
use Rattle.std.proofs.Common.{◌≡◌, ◌∙◌, ℕ, zero, suc, ◌+◌, ◌-◌, ◌*◌, ◌/◌, ◌%◌, ◌<◌, ◌≤◌, Bool, true, cond, List, [], ◌∷◌, ◌++◌, length, take, drop, slice_get, Option, Some, None, unwrap_or, add_comm, refl, sym, ap, arith}
use Rattle.std.proofs.lemmas.Bool.{ne_eqb}
use Rattle.std.proofs.lemmas.List.{drop-drop, length-drop, take-append-le, drop-append-le}
use Rattle.std.proofs.Math.Nat.{zero-mul, suc-mul, add-mul, mul_comm, mul_assoc, mul-le-mul_right, div-lt_iff_lt-mul, div-add-mod, mod-lt}
use Rattle.std.proofs.Math.Seq.{drop-append-add}
use Rattle.bcv_base.specs.declared.id.Id16.{Id16}
use Rattle.bcv_base.specs.History.{Item, HasBlock, first_put}
use Rattle.bcv_base.specs.HistoryLaws.{has_id-first, has_id-later}
use Rattle.bcv_base.specs.Ids.{has_id}
use Rattle.bcv_base.specs.Image.{page_of}
use Rattle.bcv_base.specs.Joined.{image_of, joined, pages_of}
use Rattle.bcv_base.specs.ManifestRules.{is_block_size, is_page_size, blocks_needed}
use Rattle.bcv_snapshot.specs.Opened.{IsFull}
use Rattle.bcv_dbcopy.proofs.Powers.{whole, page_some, block_some, enough}

-- ---- pages of bytes

pub length_pages : (n ps : ℕ) (bytes : List ℕ) → length (pages_of n ps bytes) ≡ n
length_pages zero ps bytes = refl
length_pages (suc n) ps bytes = ap suc (length_pages n ps (drop ps bytes))

-- a page of pages that lie one after the other
page_get : (n ps : ℕ) (bytes : List ℕ) (k : ℕ) → k < n → slice_get (pages_of n ps bytes) k ≡ Some (take ps (drop (k * ps) bytes))
page_get zero ps bytes k lt = absurd (omega arith)
page_get (suc n) ps bytes zero lt = ap (λ j. Some (take ps (drop j bytes))) (sym (zero-mul ps))
page_get (suc n) ps bytes (suc k) lt =
    page_get n ps (drop ps bytes) k (omega arith)
    ∙ ap (λ l. Some (take ps l)) (drop-drop (k * ps) ps bytes ∙ ap (λ j. drop j bytes) (add_comm ps (k * ps) ∙ sym (suc-mul k ps)))

-- ---- bytes of blocks

-- the bytes from the front of a block on: its own, and others behind them
record Behind (bytes rest : List ℕ) : Type 0 where
  more : List ℕ
  is : rest ≡ bytes ++ more

behind : (past : List Item) (size : ℕ) (blocks : List Id16) (k : ℕ) (i : Id16) (bytes : List ℕ) → ((j : Id16) → has_id j blocks ≡ true → HasBlock past j size)
    → slice_get blocks k ≡ Some i → first_put past i ≡ Some bytes → Behind bytes (drop (k * size) (joined past blocks))
behind past size [] k i bytes there at first = absurd (cc (at))
behind past size (j ∷ js) zero i bytes there at first =
    let same : j ≡ i = some_is j i at in
    record {
      more = joined past js;
      is = ap (λ (n : ℕ). drop n (unwrap_or (first_put past j) [] ++ joined past js)) (zero-mul size)
          ∙ ap (λ (x : Id16). unwrap_or (first_put past x) [] ++ joined past js) same ∙ ap (λ (o : Option (List ℕ)). unwrap_or o [] ++ joined past js) first;
    }
  where
    some_is : (x y : Id16) → Some x ≡ Some y → x ≡ y
    some_is x y e = cc
behind past size (j ∷ js) (suc k) i bytes there at first =
    let block : HasBlock past j size = there j (has_id-first j js) in
    let later = behind past size js k i bytes (λ x h. there x (has_id-later x j js h)) at first in
    let far : suc k * size ≡ length block.0 + k * size = suc-mul k size ∙ add_comm (k * size) size ∙ ap (λ (n : ℕ). n + k * size) (sym block.2) in
    record {
      more = later.more;
      is = ap (λ (o : Option (List ℕ)). drop (suc k * size) (unwrap_or o [] ++ joined past js)) block.1
          ∙ ap (λ (n : ℕ). drop n (block.0 ++ joined past js)) far ∙ drop-append-add block.0 (joined past js) (k * size) ∙ later.is;
    }

-- a part that ends inside the block
part : (n from : ℕ) (bytes more : List ℕ) → from + n ≤ length bytes → take n (drop from (bytes ++ more)) ≡ take n (drop from bytes)
part n from bytes more le =
    let inside : n ≤ length (drop from bytes) = omega (arith, length-drop from bytes) in
    ap (take n) (drop-append-le from bytes more (omega arith)) ∙ take-append-le n (drop from bytes) more inside

-- ---- the page

pub sizes_full : (block size : ℕ) → is_block_size block ≡ true → is_page_size block size ≡ true → IsFull block size
sizes_full block size is_block is_page =
    let full : block / size * size ≡ block = whole block size is_block is_page in
    record { some = page_some block size is_page; many = above (block / size) full (block_some block is_block); full = full }
  where
    above : (many : ℕ) → many * size ≡ block → 0 < block → 1 ≤ many
    above zero e lt = absurd (omega (arith, e, zero-mul size))
    above (suc k) e lt = omega arith

-- the number of a page's block is one of those that the pages need
pub block_inside : (block size pages p count : ℕ) → IsFull block size → 0 < block → 1 ≤ p → p ≤ pages → count ≡ blocks_needed block size pages → (p - 1) / (block / size) < count
block_inside block size pages p count f some one le is =
    (div-lt_iff_lt-mul {k = block / size} {x = p - 1} {y = count} f.many).1
    (omega (arith, enough pages size block (block / size) f.some some f.full, ap (λ (n : ℕ). n * (block / size)) is))

-- a page of a block ends inside it
pub page_ends : (block size p : ℕ) → IsFull block size → ((p - 1) % (block / size) + 1) * size ≤ block
page_ends block size p f =
    let below : (p - 1) % (block / size) < block / size = mod-lt (p - 1) f.many in
    let product : ((p - 1) % (block / size) + 1) * size ≤ block / size * size = mul-le-mul_right size (omega (arith, below)) in
    omega (arith, product, f.full)

-- where the page begins among the bytes of all blocks
begins : (block size k : ℕ) → IsFull block size → k * size ≡ (k / (block / size)) * block + (k % (block / size)) * size
begins block size k f =
    let many : ℕ = block / size in
    let parts : k ≡ (k / many) * many + k % many = omega (arith, div-add-mod k many, mul_comm many (k / many)) in
    ap (λ (n : ℕ). n * size) parts ∙ add-mul ((k / many) * many) (k % many) size
    ∙ ap (λ (n : ℕ). n + (k % many) * size) (mul_assoc (k / many) many size ∙ ap (λ (n : ℕ). (k / many) * n) f.full)

-- page p of the image of some blocks lies in the block of its number
pub page_read : (past : List Item) (block size pages p : ℕ) (blocks : List Id16) (i : Id16) (bytes : List ℕ) → IsFull block size → ((j : Id16) → has_id j blocks ≡ true → HasBlock past j block)
    → 1 ≤ p → p ≤ pages → slice_get blocks ((p - 1) / (block / size)) ≡ Some i → first_put past i ≡ Some bytes → length bytes ≡ block
    → page_of (image_of past pages size blocks) p ≡ Some (take size (drop ((p - 1) % (block / size) * size) bytes))
page_read past block size pages p blocks i bytes f there one le at first whole =
    let q : ℕ = (p - 1) / (block / size) in
    let r : ℕ = (p - 1) % (block / size) in
    let b = behind past block blocks q i bytes there at first in
    let inside : r * size + size ≤ length bytes = omega (arith, page_ends block size p f, suc-mul r size, whole) in
    let far : drop ((p - 1) * size) (joined past blocks) ≡ drop (r * size) (bytes ++ b.more) =
    ap (λ (n : ℕ). drop n (joined past blocks)) (begins block size (p - 1) f) ∙ sym (drop-drop (r * size) (q * block) (joined past blocks)) ∙ ap (λ (l : List ℕ). drop (r * size) l) b.is
    in
    ap (λ (t : Bool). cond t None (slice_get (image_of past pages size blocks) (p - 1))) (ne_eqb p 0 (λ e. absurd (omega arith)))
    ∙ page_get pages size (joined past blocks) (p - 1) (omega arith)
    ∙ ap (λ (l : List ℕ). Some (take size l)) far ∙ ap (λ (l : List ℕ). Some l) (part size (r * size) bytes b.more inside)
