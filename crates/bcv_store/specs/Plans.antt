-- Planned outcomes of requests, and the entries that others append.
use Rattle.std.specs.Prelude.{◌≡◌, false, List, [], ◌∷◌}
use Rattle.std.specs.List.{All}
use Rattle.bcv_base.specs.declared.outcome.Outcome.{Outcome}
use Rattle.bcv_base.specs.declared.outcome.Outcome.TheVariants as outcome
use Rattle.bcv_base.specs.declared.log.Entry.{Entry}
use Rattle.bcv_base.specs.Log.{is_own}

-- the outcome of the next request: the first one planned, and Ok past the last one
abbrev pub next_of : List Outcome → Outcome
next_of [] = outcome.Ok
next_of (o ∷ os) = o

-- what is planned behind the next request
abbrev pub rest_of : List Outcome → List Outcome
rest_of [] = []
rest_of (o ∷ os) = os

-- no call on this store made the entry
abbrev pub IsForeign : Entry → Type 0
IsForeign e = is_own e ≡ false

-- entries that others may have appended: foreign ones, and none where the store is alone
pub record AreOthers (alone : Type 0) (others : List Entry) : Type 0 where
  pub foreign : All IsForeign others
  pub none : alone → others ≡ []
