-- The image of a database whose pages lie in blocks.
use Rattle.std.specs.Prelude.{ℕ, zero, suc, List, [], ◌∷◌, ◌++◌, take, drop, unwrap_or}
use Rattle.bcv_base.specs.declared.id.Id16.{Id16}
use Rattle.bcv_base.specs.declared.manifest.DbEntry.{DbEntry}
use Rattle.bcv_base.specs.History.{Item, first_put}
use Rattle.bcv_base.specs.Image.{Page}
use Rattle.bcv_base.specs.Version.{Database}

-- so many pages of one size, from the front of some bytes
abbrev pub pages_of : ℕ → ℕ → List ℕ → List Page
pages_of zero page_size bytes = []
pages_of (suc n) page_size bytes = take page_size bytes ∷ pages_of n page_size (drop page_size bytes)

-- the first bytes put under each of these ids, one after the other
abbrev pub joined : List Item → List Id16 → List ℕ
joined past [] = []
joined past (i ∷ is) = unwrap_or (first_put past i) [] ++ joined past is

-- the image that an entry's blocks make
abbrev pub image_of : List Item → ℕ → ℕ → List Id16 → List Page
image_of past pages page_size blocks = pages_of pages page_size (joined past blocks)

-- the database of an entry, with its whole image
abbrev pub database_of : List Item → DbEntry → Database
database_of past d = record { name = d.name; tag = d.tag; page_size = d.page_size; image = image_of past d.pages d.page_size d.blocks }
