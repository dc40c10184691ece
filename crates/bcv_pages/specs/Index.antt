-- The numbers of the commits that wrote each page.
use Rattle.std.specs.Prelude.{◌≡◌, ◌≢◌, ℕ, Bool, false, nat_eq, ◌+◌, ◌<◌, ◌≤◌, ◌^◌, List, [], ◌∷◌, length, slice_index, nat_lt, nat_le, MatchOption, Option, is_some, unwrap_or, vec_len, vec_capacity, if◌then◌else◌}
use Rattle.std.specs.List.{filter, list_any}
use Rattle.std.specs.Global.{Vec}
use Rattle.std.specs.Option.{option_map, IsSomeAnd}
use Rattle.std.specs.Ordering.{nat_cmp}
use Rattle.std.specs.BTreeMap.{BTreeMap, get}
use Rattle.bcv_base.specs.Image.{Writes, written}

-- the numbers of the commits that write a page, ascending, where the first of the commits has this number
abbrev pub writing : ℕ → List Writes → ℕ → List ℕ
writing first [] p = []
writing first (c ∷ cs) p = if is_some (written c.pages p) then first ∷ writing (first + 1) cs p else writing (first + 1) cs p

-- the numbers under a page, none where the page isn't there
abbrev pub listed : BTreeMap ℕ (Vec ℕ) → ℕ → List ℕ
listed lists p = unwrap_or (option_map (λ numbers. numbers.items) (get nat_cmp lists p)) []

-- there is room for one more number under a page
abbrev pub has_room : BTreeMap ℕ (Vec ℕ) → ℕ → Type 0
has_room lists p = IsSomeAnd (get nat_cmp lists p) (λ numbers. vec_len numbers < vec_capacity numbers)

-- each number is below those after it
abbrev pub are_rising : List ℕ → Type 0
are_rising ns = (i j : ℕ) → i < j → j < length ns → slice_index ns i < slice_index ns j

-- those of the numbers that are above `from` and up to `to`
abbrev pub numbers_within : ℕ → ℕ → List ℕ → List ℕ
numbers_within from to ns = filter (λ n. nat_le n to) (filter (nat_lt from) ns)

-- the first page from `page` on under which a number is above `from` and up to `to`
pub record IsNextWritten (lists : BTreeMap ℕ (Vec ℕ)) (from to page next : ℕ) : Type 0 where
  pub start : page ≤ next
  pub found : numbers_within from to (listed lists next) ≢ []
  pub before : (p : ℕ) → page ≤ p → p < next → numbers_within from to (listed lists p) ≡ []

-- the first such page, and none where there is no such page
abbrev pub FindsWritten : BTreeMap ℕ (Vec ℕ) → ℕ → ℕ → ℕ → Option ℕ → Type 0
FindsWritten lists from to page found =
    MatchOption found ((p : ℕ) → page ≤ p → p < 2 ^ 32 → numbers_within from to (listed lists p) ≡ []) (IsNextWritten lists from to page)

-- what is left under a page: the numbers past one, in their room; what is dropped is empty, and is no page to be kept
pub record Leaves (upto : ℕ) (ready : List ℕ) (page : ℕ) (old : Vec ℕ) (kept : Bool) (new : Vec ℕ) : Type 0 where
  pub numbers : are_rising old.items → new.items ≡ filter (nat_lt upto) old.items
  pub room : vec_len old < vec_capacity old → vec_len new < vec_capacity new
  pub empty : kept ≡ false → new.items ≡ []
  pub other : kept ≡ false → list_any (λ n. nat_eq n page) ready ≡ false
