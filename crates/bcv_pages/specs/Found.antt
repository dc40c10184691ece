-- What is found at a page of a view.
use Rattle.std.specs.Prelude.{◌≡◌, ℕ, true, false, List, length, Some}
use Rattle.bcv_base.specs.Image.{Page, Writes, zeros, page_of, view_image, is_base}
use Rattle.bcv_base.specs.Views.{Origin, FromBase, Added, Wrote}
use Rattle.bcv_pages.specs.declared.search.PageAt.{PageAt}
use Rattle.bcv_pages.specs.declared.search.PageAt.TheVariants.{Local, Zeros, Base}

-- where the answer says that the page comes from
abbrev pub shown : PageAt → Origin
shown (Local bytes) = Wrote bytes.now
shown Zeros = Added
shown Base = FromBase

-- Base at a base page, which is then the base's in every image of the view; else the page of each of these images, as zeros or as the bytes
abbrev pub Finds : ℕ → ℕ → List Writes → ℕ → PageAt → Type 0
Finds page_size base_pages cs p Base =
    (is_base base_pages cs p ≡ true) × ((base : List Page) → length base ≡ base_pages → page_of (view_image page_size base cs) p ≡ page_of base p)
Finds page_size base_pages cs p Zeros =
    (is_base base_pages cs p ≡ false) × ((base : List Page) → length base ≡ base_pages → page_of (view_image page_size base cs) p ≡ Some (zeros page_size))
Finds page_size base_pages cs p (Local bytes) =
    (is_base base_pages cs p ≡ false) × ((base : List Page) → length base ≡ base_pages → page_of (view_image page_size base cs) p ≡ Some bytes.now) × (length bytes.now ≡ page_size)
