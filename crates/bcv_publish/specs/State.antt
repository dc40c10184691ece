-- What a publication keeps.
use Rattle.std.specs.Prelude.{ℕ, ◌<◌, List, [], ◌∷◌, ◌++◌, Option, Some, None}
use Rattle.bcv_base.specs.declared.id.Id16.{Id16}
use Rattle.bcv_base.specs.declared.seen.Latest.{Latest}

-- a publication of a writer, under an id: the manifest that was read last, or, after a publication, the one that was put;
-- the numbers of what was read before refused puts; and the block size of those manifests
pub record State : Type 0 where
  pub writer : Id16
  pub id : Id16
  pub latest : Option Latest
  pub refused : List ℕ
  pub block : Option ℕ

-- a publication of which nothing was read yet
abbrev pub new_publish : Id16 → Id16 → State
new_publish writer id = record { writer = writer; id = id; latest = None; refused = []; block = None }

-- a publication with the manifest that was read
abbrev pub with_latest : State → Latest → State
with_latest p l = record p { latest = Some l }

-- the number that was read last before a refused put
abbrev pub last_number : List ℕ → Option ℕ
last_number [] = None
last_number (n ∷ []) = Some n
last_number (n ∷ k ∷ ns) = last_number (k ∷ ns)

-- numbers that rise
abbrev pub Rise : List ℕ → Type 0
Rise [] = Unit {0}
Rise (n ∷ []) = Unit {0}
Rise (n ∷ k ∷ ns) = (n < k) × Rise (k ∷ ns)

-- what was read before refused puts rises, up to the manifest that is kept
abbrev pub RisesTo : List ℕ → Option Latest → Type 0
RisesTo refused None = Rise refused
RisesTo refused (Some l) = Rise (refused ++ l.manifest.number ∷ [])
