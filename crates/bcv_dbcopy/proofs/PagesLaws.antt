-- The blocks of a task that has put them all hold exactly its pages.
use Rattle.std.proofs.Common.{◌≡◌, ◌∙◌, ℕ, zero, suc, ◌+◌, ◌-◌, ◌*◌, ◌/◌, ◌<◌, ◌≤◌, true, List, [], ◌∷◌, ◌++◌, length, take, drop, replicate, length-take, length-drop, take-append-drop, append_assoc, Option, Some, unwrap_or, is_some, ◌==◌, refl, sym, ap, subst, arith}
use Rattle.std.specs.Cmp.{first_so}
use Rattle.std.proofs.Math.Nat.{suc-mul}
use Rattle.bcv_base.specs.declared.id.Id16.{Id16}
use Rattle.bcv_base.specs.declared.manifest.DbEntry.{DbEntry}
use Rattle.bcv_base.specs.Edits as edits
use Rattle.bcv_base.specs.History.{Item, history_of}
use Rattle.bcv_base.specs.Image.{Page}
use Rattle.bcv_base.specs.Joined.{pages_of, joined}
use Rattle.bcv_base.specs.ManifestRules.{is_block_size, blocks_needed}
use Rattle.bcv_dbmap.specs.declared.plan.EditPlan.{EditPlan}
use Rattle.bcv_dbmap.specs.declared.plan.EditPlan.TheVariants as edit
use Rattle.bcv_dbmap.specs.Applied.{edit_of}
use Rattle.bcv_dbcopy.specs.TaskPut.{BlocksAreThePages, edit_made}
use Rattle.bcv_dbcopy.specs.State.{IsNew, IsEdit, FitsBlock, block_text, pages_text, padded, put_ids, needed, left_of}
use Rattle.bcv_dbcopy.specs.TaskWork.{AreOwnBlocks, HasBlocks}
use Rattle.bcv_dbcopy.proofs.BlockTexts.{Sized, sized_take, sized_drop, length_text, pages_held}
use Rattle.bcv_dbcopy.proofs.Powers.{whole, page_some, block_some, enough}
use Rattle.bcv_dbcopy.proofs.Tasks.{ready_of, some_kept}

-- ---- the bytes of the blocks

-- the bytes of so many blocks, from the one of a number on
abbrev texts : ℕ → ℕ → List Page → ℕ → ℕ → List ℕ
texts block size pages n zero = []
texts block size pages n (suc k) = block_text block size pages n ++ texts block size pages (suc n) k

joined_texts : (mine : List Id16) (past : List Item) (block size : ℕ) (pages : List Page) (n : ℕ) (ids : List Id16) → AreOwnBlocks mine past block size pages n ids → joined past ids ≡ texts block size pages n (length ids)
joined_texts mine past block size pages n [] own = refl
joined_texts mine past block size pages n (i ∷ is) own =
    ap (λ (o : Option (List ℕ)). unwrap_or o [] ++ joined past is) own.1 ∙ ap (λ (l : List ℕ). block_text block size pages n ++ l) (joined_texts mine past block size pages (suc n) is own.2)

-- ---- back to the pages

no_pages : (size : ℕ) (pages : List Page) (more : List ℕ) → length pages ≤ 0 → pages_of (length pages) size more ≡ pages
no_pages size [] more none = refl
no_pages size (p ∷ ps) more none = absurd (omega arith)

-- zeros stand only behind the last page
behind_zeros : (size z : ℕ) (pages : List Page) (more : List ℕ) → (0 < length pages → z ≡ 0) → pages_of (length pages) size more ≡ pages → pages_of (length pages) size (replicate z 0 ++ more) ≡ pages
behind_zeros size z [] more none is = refl
behind_zeros size z (p ∷ ps) more none is = ap (λ (k : ℕ). pages_of (length (p ∷ ps)) size (replicate k 0 ++ more)) (none (omega arith)) ∙ is

drop_more : {A : Type 0} (n k : ℕ) (xs : List A) → drop n (drop k xs) ≡ drop (k + n) xs
drop_more n zero xs = ap (λ (j : ℕ). drop j xs) (none_more n)
  where
    none_more : (n : ℕ) → n ≡ 0 + n
    none_more n = omega arith
drop_more n (suc k) [] = drop_nil n ∙ ap (λ (j : ℕ). drop j []) (one_more k n)
  where
    drop_nil : {A : Type 0} (n : ℕ) → drop {A = A} n [] ≡ []
    drop_nil zero = refl
    drop_nil (suc n) = refl

    one_more : (k n : ℕ) → suc (k + n) ≡ suc k + n
    one_more k n = omega arith
drop_more n (suc k) (x ∷ xs) = drop_more n k xs ∙ ap (λ (j : ℕ). drop j (x ∷ xs)) (one_more k n)
  where
    one_more : (k n : ℕ) → suc (k + n) ≡ suc k + n
    one_more k n = omega arith

pages_back : (block size many : ℕ) (pages : List Page) (n k : ℕ) → many ≡ block / size → Sized size pages → many * size ≡ block
    → length (drop (n * many) pages) ≤ k * many → pages_of (length (drop (n * many) pages)) size (texts block size pages n k) ≡ drop (n * many) pages
pages_back block size many pages n zero is sized full few = no_pages size (drop (n * many) pages) [] (omega arith)
pages_back block size many pages n (suc k) is sized full few =
    let rest : List Page = drop (n * many) pages in
    let a : List Page = take many rest in
    let b : List Page = drop many rest in
    let z : ℕ = block - length (pages_text a) in
    let more : List ℕ = texts block size pages (suc n) k in
    let parts : a ++ b ≡ rest = take-append-drop many rest in
    let next : b ≡ drop (suc n * many) pages = drop_more many (n * many) pages ∙ ap (λ (j : ℕ). drop j pages) (sym (suc-mul n many)) in
    let long : length rest ≡ length a + length b = omega (arith, length-take many rest, length-drop many rest) in
    let product : suc k * many ≡ k * many + many = suc-mul k many in
    let short : length b ≤ k * many = omega (arith, length-drop many rest) in
    let sized_a : Sized size a = sized_take size many rest (sized_drop size (n * many) pages sized) in
    let text : length (pages_text a) ≡ length a * size = length_text size a sized_a in
    let behind : pages_of (length b) size more ≡ b =
    ap (λ (x : List Page). pages_of (length x) size more) next
    ∙ pages_back block size many pages (suc n) k is sized full (omega (arith, short, ap (λ (x : List Page). length x) next)) ∙ sym next
    in
    let full_a : 0 < length b → length a ≡ many = λ some. omega (arith, some, length-take many rest, length-drop many rest) in
    let none : 0 < length b → z ≡ 0 = λ some. omega (arith, text, full, ap (λ (x : ℕ). x * size) (full_a some)) in
    ap (λ (m : ℕ). pages_of (length rest) size (padded block (pages_text (take m (drop (n * m) pages))) ++ more)) (sym is)
    ∙ ap (λ (l : List ℕ). pages_of (length rest) size l) (append_assoc (pages_text a) (replicate z 0) more)
    ∙ ap (λ (j : ℕ). pages_of j size (pages_text a ++ (replicate z 0 ++ more))) long
    ∙ pages_held size a (length b) (replicate z 0 ++ more) sized_a
    ∙ ap (λ (x : List Page). a ++ x) (behind_zeros size z b more none behind)
    ∙ parts

-- ---- the whole

new_made : (mine : List Id16) (past : List Item) (block : ℕ) (pages : List Page) (e : DbEntry) → IsNew e pages → is_block_size block ≡ true → FitsBlock block (edit.New e) → length e.blocks ≡ blocks_needed block e.page_size e.pages
    → AreOwnBlocks mine past block e.page_size pages 0 e.blocks → pages_of e.pages e.page_size (joined past e.blocks) ≡ pages
new_made mine past block pages e new is_block fits all_put own =
    let size : ℕ = e.page_size in
    let many : ℕ = block / size in
    let full : many * size ≡ block = whole block size is_block fits.0 in
    let some : 0 < size = page_some block size fits.0 in
    let some_block : 0 < block = block_some block is_block in
    let holds : e.pages ≤ blocks_needed block size e.pages * many = enough e.pages size block many some some_block full in
    let first : drop (0 * many) pages ≡ pages = ap (λ (j : ℕ). drop j pages) (none_times many) in
    let few : length (drop (0 * many) pages) ≤ length e.blocks * many =
    omega (arith, ap (λ (x : List Page). length x) first, new.count, holds, ap (λ (x : ℕ). x * many) all_put)
    in
    ap (λ (l : List ℕ). pages_of e.pages size l) (joined_texts mine past block size pages 0 e.blocks own)
    ∙ ap (λ (n : ℕ). pages_of n size (texts block size pages 0 (length e.blocks))) (new.count ∙ ap (λ (x : List Page). length x) (sym first))
    ∙ pages_back block size many pages 0 (length e.blocks) refl new.each full few
    ∙ first
  where
    none_times : (n : ℕ) → 0 * n ≡ 0
    none_times n = omega arith

edit_is : (mine : List Id16) (past : List Item) (block : ℕ) (pages : List Page) (e : EditPlan) → IsEdit e pages → is_block_size block ≡ true → FitsBlock block e → length (put_ids e) ≡ needed block e → HasBlocks mine past pages e (Some block)
    → edit_of past e ≡ edit_made e pages
edit_is mine past block pages (edit.New e) is is_block fits all_put has = ap (λ (image : List Page). edits.New e.name e.page_size image) (new_made mine past block pages e is is_block fits all_put has)
edit_is mine past block pages (edit.Copy from to) is is_block fits all_put has = refl
edit_is mine past block pages (edit.Remove name) is is_block fits all_put has = refl
edit_is mine past block pages (edit.Upload from e) is is_block fits all_put has = absurd is
edit_is mine past block pages (edit.Sweep ids) is is_block fits all_put has = absurd is

pub blocks_are_the_pages : BlocksAreThePages
blocks_are_the_pages mine log s t ready own =
    let k = some_kept s.publish.latest (first_so (is_some s.publish.latest) (left_of s == 1) ready) in
    let r = ready_of s k.0 t ready k.1 in
    edit_is mine (history_of log) r.block s.pages s.edit t.edit r.under_way.size r.under_way.fits r.all_put (subst (HasBlocks mine (history_of log) s.pages s.edit) r.block_is own)
