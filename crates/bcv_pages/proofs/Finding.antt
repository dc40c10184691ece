-- What is found at a page, from where it comes.
use Rattle.std.proofs.Common.{◌≡◌, ℕ, ◌≤◌, true, nat_le, List, length, Option, Some, unwrap_or, sym, ◌∙◌, ap, arith}
use Rattle.std.specs.List.{list_all}
use Rattle.std.proofs.lemmas.Bool.{and_parts}
use Rattle.std.proofs.lemmas.Bool.Decides.{nat_tests}
use Rattle.bcv_base.specs.Image.{Page, Writes, zeros, page_of, view_image, leaves_page, is_base}
use Rattle.bcv_base.specs.Views.{Origin, FromBase, Added, Wrote, origin, is_from_base, page_from, view_size, is_commit}
use Rattle.bcv_base.proofs.Views.{is_base-origin, page_of-view_image, page_of-inside, origin-length, length-view_image}
use Rattle.bcv_pages.specs.declared.search.PageAt.{PageAt}
use Rattle.bcv_pages.specs.declared.search.PageAt.TheVariants.{Local, Zeros, Base}
use Rattle.bcv_pages.specs.Found.{shown, Finds}

-- a page of each image of the view, by its origin
image-page : (page_size base_pages : ℕ) (cs : List Writes) (p : ℕ) (o : Origin) → origin base_pages cs p ≡ o → 1 ≤ p → p ≤ view_size base_pages cs
    → (base : List Page) → length base ≡ base_pages
    → page_of (view_image page_size base cs) p ≡ Some (page_from (unwrap_or (page_of base p) (zeros page_size)) (zeros page_size) o)
image-page page_size base_pages cs p o same low high base len =
    let z = zeros page_size in
    page_of-view_image page_size base cs p low (rw len high)
    ∙ ap (λ (x : Origin). Some (page_from (unwrap_or (page_of base p) z) z x)) (ap (λ n. origin n cs p) len ∙ same)

within-base : (base_pages : ℕ) (cs : List Writes) (p : ℕ) → is_base base_pages cs p ≡ true → p ≤ base_pages
within-base base_pages cs p is =
    let test : nat_le p base_pages ≡ true = (and_parts (nat_le p base_pages) (list_all (leaves_page p) cs) is).0 in
    grind (arith, nat_tests)

-- a page that the base has is the page there
there : (base : List Page) (p : ℕ) (z : Page) → 1 ≤ p → p ≤ length base → Some (unwrap_or (page_of base p) z) ≡ page_of base p
there base p z low high =
    let at = page_of-inside base p z low high in
    ap (λ (o : Option Page). Some (unwrap_or o z)) at ∙ sym at

pub finds : (page_size base_pages : ℕ) (cs : List Writes) (p : ℕ) (r : PageAt) → list_all (is_commit page_size) cs ≡ true → shown r ≡ origin base_pages cs p
    → 1 ≤ p → p ≤ view_size base_pages cs → Finds page_size base_pages cs p r
finds page_size base_pages cs p Base well same low high =
    let is : is_base base_pages cs p ≡ true = is_base-origin base_pages cs p ∙ sym (ap is_from_base same) in
    (is, λ base len. image-page page_size base_pages cs p FromBase (sym same) low high base len ∙ there base p (zeros page_size) low (rw len (within-base base_pages cs p is)))
finds page_size base_pages cs p Zeros well same low high =
    (is_base-origin base_pages cs p ∙ sym (ap is_from_base same), image-page page_size base_pages cs p Added (sym same) low high)
finds page_size base_pages cs p (Local bytes) well same low high = (
  is_base-origin base_pages cs p ∙ sym (ap is_from_base same),
  image-page page_size base_pages cs p (Wrote bytes.now) (sym same) low high,
  origin-length page_size base_pages cs p bytes.now well (sym same),
)

pub size-image : (page_size base_pages : ℕ) (cs : List Writes) (n : ℕ) → n ≡ view_size base_pages cs
    → (base : List Page) → length base ≡ base_pages → length (view_image page_size base cs) ≡ n
size-image page_size base_pages cs n same base len = length-view_image page_size base cs ∙ ap (λ m. view_size m cs) len ∙ sym same
