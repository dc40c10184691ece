-- What a store gives of its odd objects.
use Rattle.std.specs.Prelude.{◌≡◌, ◌<◌, ◌≤◌, ℕ, Bool, true, false, List, length, find, Option, option_map}
use Rattle.bcv_base.specs.declared.object.ObjName.{ObjName}
use Rattle.bcv_base.specs.declared.object.ObjName.TheVariants as object
use Rattle.bcv_base.specs.Log.{name_eq}
use Rattle.bcv_store.specs.declared.store.Cond.{Cond}
use Rattle.bcv_store.specs.declared.store.Cond.TheVariants as cond
use Rattle.bcv_store.specs.declared.store.Got.{Got}
use Rattle.bcv_store.specs.declared.store.Got.TheVariants as got
use Rattle.bcv_memstore.specs.declared.odd_store.Oddity.{Oddity}
use Rattle.bcv_memstore.specs.declared.odd_store.Oddity.TheVariants as oddity
use Rattle.bcv_memstore.specs.declared.odd_store.OddObject.{OddObject}

-- what is odd about the object of a name: the newest change of it stands first
abbrev pub oddity_in : List OddObject → ObjName → Option Oddity
oddity_in odd name = option_map (λ x. x.oddity) (find (λ x. name_eq x.name name) odd)

-- what a get answers of a swapped object: the bytes in its place with the etag 0, or that they are too many
abbrev pub GivesSwapped : List ℕ → ℕ → List ℕ → Got → Type 0
GivesSwapped bytes most into (got.Found etag) = (etag ≡ 0) × (into ≡ bytes) × (length bytes ≤ most)
GivesSwapped bytes most into (got.TooLong len) = (len ≡ length bytes) × (most < length bytes)
GivesSwapped bytes most into got.NoMemory = Unit {0}
GivesSwapped bytes most into got.Same = ⊥
GivesSwapped bytes most into got.Missing = ⊥
GivesSwapped bytes most into got.Failed = ⊥

-- what a get answers of an odd object
abbrev pub GivesOdd : Oddity → ℕ → List ℕ → Got → Type 0
GivesOdd (oddity.Swapped bytes) most into g = GivesSwapped bytes.items most into g
GivesOdd oddity.Hidden most into g = g ≡ got.Missing

-- the put is one of a new block
abbrev pub is_new_block : ObjName → Cond → Bool
is_new_block (object.Block id) cond.Absent = true
is_new_block (object.Block id) (cond.Match etag) = false
is_new_block object.Manifest c = false
