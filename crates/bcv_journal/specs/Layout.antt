-- What the bytes of a journal's file load as.
use Rattle.std.specs.Prelude.{◌≡◌, ◌≢◌, ◌⊎◌, ℕ, ◌+◌, ◌^◌, ◌==◌, ◌<◌, ◌≤◌, Bool, List, [], ◌∷◌, ◌++◌, length, get_or, take, drop, nat_le, Result, Ok, Err, if◌then◌else◌}
use Rattle.std.specs.Int.{w32, from_be_bytes, to_be_bytes}
use Rattle.std.specs.List.{flat_map, AllByRecursion}

-- BCVJRN02
abbrev pub magic : List ℕ
magic = 66 ∷ 67 ∷ 86 ∷ 74 ∷ 82 ∷ 78 ∷ 48 ∷ 50 ∷ []

-- an item has at least one byte, and its length fits the length field
abbrev pub IsItem : List ℕ → Type 0
IsItem item = (0 < length item) × (length item < 2 ^ 32)

-- an item as it stands in the file: an open gate, the length, the bytes
abbrev pub open_item : List ℕ → List ℕ
open_item item = 1 ∷ (to_be_bytes w32 (length item) ++ item)

-- the items as they stand in the file
abbrev pub area_of : List (List ℕ) → List ℕ
area_of items = flat_map open_item items

-- the place of the gate of item i, from 0, or of the closed gate after them, in an area from this start on
abbrev pub place_of : ℕ → List (List ℕ) → ℕ → ℕ
place_of start items i = start + length (area_of (take i items))

-- the tail of an area from this start on: the place of the closed gate after the items
abbrev pub tail_of : ℕ → List (List ℕ) → ℕ
tail_of start items = start + length (area_of items)

-- whether start 1 is chosen
abbrev pub is_second : List ℕ → Bool
is_second bytes = get_or bytes 8 0 == 1

-- the place of the start that is chosen
abbrev pub field_of : Bool → ℕ
field_of second = if second then 13 else 9

-- the start that is chosen
abbrev pub start_in : List ℕ → Bool → ℕ
start_in bytes second = from_be_bytes w32 (take 4 (drop (field_of second) bytes))

-- an empty journal: selector 0, the starts 17 and 0, a closed gate
abbrev pub empty : List ℕ
empty = magic ++ 0 ∷ 0 ∷ 0 ∷ 0 ∷ 17 ∷ 0 ∷ 0 ∷ 0 ∷ 0 ∷ 0 ∷ []

-- the bytes after a load of these: a file of at most 18 bytes becomes an empty journal
abbrev pub found : List ℕ → List ℕ
found bytes = if nat_le (length bytes) 18 then empty else bytes

-- what stands before the items: it begins with the magic and ends at the start that it chooses
pub record IsFront (front : List ℕ) : Type 0 where
  pub magic_is : take 8 front ≡ magic
  pub long : 17 ≤ length front
  pub starts : start_in front (is_second front) ≡ length front

-- the file up to the closed gate after these items
abbrev pub written : List ℕ → List (List ℕ) → List ℕ
written front items = front ++ area_of items

-- the file is a front, then these items, a gate that is closed, and anything
pub record IsSpelled (bytes : List ℕ) (items : List (List ℕ)) : Type 0 where
  pub front : List ℕ
  pub gate : ℕ
  pub rest : List ℕ
  pub is_front : IsFront front
  pub closed : gate ≢ 1
  pub each : AllByRecursion IsItem items
  pub whole : bytes ≡ written front items ++ gate ∷ rest

-- after an open gate stand a whole item and then at least a gate
pub record HasItem (after item next : List ℕ) : Type 0 where
  pub item_is : IsItem item
  pub next_is : 0 < length next
  pub whole : after ≡ to_be_bytes w32 (length item) ++ item ++ next

-- a front and whole items lead to an open gate at this place, after which there is no whole item
pub record BreaksAt (bytes : List ℕ) (place : ℕ) : Type 0 where
  pub front : List ℕ
  pub items : List (List ℕ)
  pub after : List ℕ
  pub is_front : IsFront front
  pub each : AllByRecursion IsItem items
  pub whole : bytes ≡ written front items ++ 1 ∷ after
  pub is_place : place ≡ tail_of (length front) items
  pub broken : (item next : List ℕ) → HasItem after item next → ⊥

-- the chosen start lies in the head or past the end, and this is its place
abbrev pub HasNoStart : List ℕ → ℕ → Type 0
HasNoStart bytes place =
    (take 8 bytes ≡ magic) × ((start_in bytes (is_second bytes) < 17) ⊎ (length bytes ≤ start_in bytes (is_second bytes))) × (place ≡ field_of (is_second bytes))

-- the file is too long, or has another magic, or no start, or breaks at an open gate
abbrev pub IsNoJournal : List ℕ → ℕ → Type 0
IsNoJournal bytes place = ((2 ^ 31 < length bytes) × (place ≡ 2 ^ 31))
    ⊎ ((18 < length bytes) × (length bytes ≤ 2 ^ 31) × (((take 8 bytes ≢ magic) × (place ≡ 0)) ⊎ (HasNoStart bytes place ⊎ BreaksAt bytes place)))

-- what a file loads as: its items, or the place for which it is no journal; a file of at most 18 bytes is an empty
-- journal
abbrev pub Loads : List ℕ → Result (List (List ℕ)) ℕ → Type 0
Loads bytes (Ok items) = ((length bytes ≤ 18) × (items ≡ [])) ⊎ ((length bytes ≤ 2 ^ 31) × IsSpelled bytes items)
Loads bytes (Err place) = IsNoJournal bytes place

-- the file loads as these items, and this is the place of the closed gate after them; in a new file it is 17
abbrev pub EndsAt : List ℕ → List (List ℕ) → ℕ → Type 0
EndsAt bytes items tail =
    ((length bytes ≤ 18) × (items ≡ []) × (tail ≡ 17)) ⊎ ((length bytes ≤ 2 ^ 31) × (s : IsSpelled bytes items) × (tail ≡ tail_of (length s.front) items))
