-- Where a page stands among pages that ascend by their numbers.
use Rattle.std.specs.Prelude.{◌≡◌, ℕ, Bool, ◌+◌, ◌<◌, ◌≤◌, List, [], length, take, drop, slice_index_or, nat_lt}
use Rattle.std.specs.List.{filter, list_all}
use Rattle.bcv_base.specs.Image.{Page, Writes}
use Rattle.bcv_base.specs.Views.{ascends}

-- the pages with numbers below p, and those with numbers above it
abbrev pub below : ℕ → List (ℕ × Page) → List (ℕ × Page)
below p ws = filter (λ w. nat_lt w.0 p) ws

abbrev pub above : ℕ → List (ℕ × Page) → List (ℕ × Page)
above p ws = filter (λ w. nat_lt p w.0) ws

-- the number of the page at place i
abbrev pub number_at : List (ℕ × Page) → ℕ → ℕ
number_at ws i = let w = slice_index_or ws i (0, []) in w.0

-- each number is below those after it
abbrev pub IsAscending : List (ℕ × Page) → Type 0
IsAscending ws = (i j : ℕ) → i < j → j < length ws → number_at ws i < number_at ws j

-- page p stands at place i, between the pages below it and those above it
pub record IsAt (ws : List (ℕ × Page)) (p i : ℕ) : Type 0 where
  pub inside : i < length ws
  pub number : number_at ws i ≡ p
  pub front : take i ws ≡ below p ws
  pub back : drop (i + 1) ws ≡ above p ws

-- page p isn't there, and would stand at place i
pub record IsGap (ws : List (ℕ × Page)) (p i : ℕ) : Type 0 where
  pub inside : i ≤ length ws
  pub front : take i ws ≡ below p ws
  pub back : drop i ws ≡ above p ws

-- the pages of each commit ascend
abbrev pub all_ascend : List Writes → Bool
all_ascend cs = list_all (λ c. ascends 0 c.size c.pages) cs
