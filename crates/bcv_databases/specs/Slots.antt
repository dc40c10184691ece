-- Changes of a set at its place.
use Rattle.std.specs.Prelude.{◌≡◌, ◌≢◌, ℕ, ◌+◌, Bool, true, false, List, [], ◌∷◌, Option, Some, None, slice_set}
use Rattle.std.specs.Option.{option_map}
use Rattle.bcv_pages.specs.Held.{Held}
use Rattle.bcv_base.specs.Keyed.{keyed, with_keyed, without_keyed}
use Rattle.bcv_model.specs.declared.kept.Local.{Local}
use Rattle.bcv_model.specs.Notes.{kept_name}
use Rattle.bcv_databases.specs.Catalog.{Catalog, set_at, use_name, writes_in}
use Rattle.bcv_databases.specs.declared.set_use.SetUse.{SetUse}

-- the sets with another one at a place
abbrev pub with_set : Option Held → ℕ → List (Option Held) → List (Option Held)
with_set h place sets = slice_set sets place h

-- the sets with the one at a place changed
abbrev pub changed : (Held → Held) → ℕ → List (Option Held) → List (Option Held)
changed f place sets = with_set (option_map f (set_at sets place)) place sets

-- ---- sets without commits

-- a set without commits, for pages of a size
abbrev pub empty_set : ℕ → Held
empty_set page_size = record { page_size = page_size; forgotten = 0; kept = []; ready = None }

-- such a set stands at a place that had none, and no other place has changed
pub record OpensSet (old new : Catalog) (page_size place : ℕ) : Type 0 where
  pub free : set_at old.sets place ≡ None
  pub there : set_at new.sets place ≡ Some (empty_set page_size)
  pub others : (p : ℕ) → p ≢ place → set_at new.sets p ≡ set_at old.sets p

-- ---- loaded databases

-- a set of the commits of a loaded database
abbrev pub loaded_set : Local → Option Held
loaded_set l = Some (record { page_size = l.entry.page_size; forgotten = 0; kept = writes_in l; ready = None })

-- each of the databases uses the set of its place, from this one on
abbrev pub uses_from : ℕ → List Local → List SetUse
uses_from place [] = []
uses_from place (l ∷ ls) = record { name = kept_name l; set = place; from = 0 } ∷ uses_from (place + 1) ls

-- ---- uses after an upload

-- a database's commits begin so many later in its set
abbrev pub use_moved : ℕ → Option SetUse → List SetUse → List SetUse
use_moved count None uses = uses
use_moved count (Some u) uses = with_keyed use_name (record u { from = u.from + count }) uses

-- the database uses no set any more, or its commits begin later
abbrev pub uses_after : Bool → List ℕ → ℕ → List SetUse → List SetUse
uses_after true db count uses = without_keyed use_name db uses
uses_after false db count uses = use_moved count (keyed use_name db uses) uses
