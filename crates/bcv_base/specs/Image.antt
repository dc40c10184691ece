-- Images, and the images that commits make of them.
use Rattle.std.specs.Prelude.{ℕ, ◌-◌, Bool, ◌&&◌, ◌==◌, List, [], ◌∷◌, map, replicate, Option, Some, None, unwrap_or, is_none, nat_le, if◌then◌else◌, slice_get}
use Rattle.std.specs.List.{list_all, range_with_len}

-- a page's bytes; an image is the list of its pages, all of one size, and page i is the i-th, from 1
abbrev pub Page : Type 0
Page = List ℕ

-- what a commit does: the size after it, in pages, and the pages that it writes
pub record Writes : Type 0 where
  pub size : ℕ
  pub pages : List (ℕ × Page)

-- a page of zeros
abbrev pub zeros : ℕ → Page
zeros page_size = replicate page_size 0

-- page p of an image, where it has one
abbrev pub page_of : List Page → ℕ → Option Page
page_of image p = if p == 0 then None else slice_get image (p - 1)

-- the page that is written under a number, where there is one
abbrev pub written : List (ℕ × Page) → ℕ → Option Page
written [] p = None
written (w ∷ ws) p = if w.0 == p then Some w.1 else written ws p

-- the first of two that is there
abbrev pub or_else : {A : Type 0} → Option A → Option A → Option A
or_else None o = o
or_else (Some a) o = Some a

-- page p after a commit: the commit's where it has one, else the image's where there is one, else zeros
abbrev pub overlaid : ℕ → List Page → Writes → ℕ → Page
overlaid page_size image c p = unwrap_or (or_else (written c.pages p) (page_of image p)) (zeros page_size)

-- the image after a commit
abbrev pub overlay : ℕ → List Page → Writes → List Page
overlay page_size image c = map (overlaid page_size image c) (range_with_len 1 c.size)

-- the image of a view: a base image with these commits over it, in order
abbrev pub view_image : ℕ → List Page → List Writes → List Page
view_image page_size base [] = base
view_image page_size base (c ∷ cs) = view_image page_size (overlay page_size base c) cs

-- a commit leaves page p as the base has it: it doesn't write it, and its size isn't below it
abbrev pub leaves_page : ℕ → Writes → Bool
leaves_page p c = is_none (written c.pages p) && nat_le p c.size

-- a page of a view is a base page where each commit leaves it and the base has it; every other page is local
abbrev pub is_base : ℕ → List Writes → ℕ → Bool
is_base base_pages cs p = nat_le p base_pages && list_all (leaves_page p) cs
