-- What holds of the answers of every store, whether it tells its log or not.
use Rattle.std.specs.Prelude.{◌≡◌, ℕ, ◌<◌, ◌≤◌, true, List, [], length, Option, IsSome}
use Rattle.std.specs.List.{list_all}
use Rattle.bcv_base.specs.declared.id.Id16.{Id16}
use Rattle.bcv_store.specs.declared.store.Got.{Got}
use Rattle.bcv_store.specs.declared.store.Got.TheVariants as got
use Rattle.bcv_store.specs.declared.store.Listed.{Listed}
use Rattle.bcv_store.specs.declared.store.Listed.TheVariants as listed
use Rattle.bcv_store.specs.Asked.{list_most, is_past, are_ascending}

-- a get keeps to what was asked for: Found leaves at most `most` bytes, TooLong is above it, Same needs an etag to compare, and only Found leaves bytes
abbrev pub IsGotWithin : Option ℕ → ℕ → List ℕ → Got → Type 0
IsGotWithin unless most into (got.Found etag) = length into ≤ most
IsGotWithin unless most into got.Same = IsSome unless × (into ≡ [])
IsGotWithin unless most into got.Missing = into ≡ []
IsGotWithin unless most into (got.TooLong len) = (most < len) × (into ≡ [])
IsGotWithin unless most into got.Failed = into ≡ []
IsGotWithin unless most into got.NoMemory = into ≡ []

-- ids that a list may give: ascending, and above the one from which it goes on
pub record AreListed (from : Option Id16) (ids : List Id16) : Type 0 where
  pub ascending : are_ascending ids ≡ true
  pub past : list_all (is_past from) ids ≡ true

-- a list keeps to what was asked for: 1,024 ids at More, at most 1,024 at End, none else
abbrev pub IsListedWithin : Option Id16 → List Id16 → Listed → Type 0
IsListedWithin from into listed.More = AreListed from into × (length into ≡ list_most)
IsListedWithin from into listed.End = AreListed from into × (length into ≤ list_most)
IsListedWithin from into listed.Failed = into ≡ []
IsListedWithin from into listed.NoMemory = into ≡ []
