-- The manifest that a create makes, and three changed forms of its bytes: what the grammar says of them, by computation.
use lib.Count.{ones}
use Rattle.std.proofs.Common.{◌≡◌, ℕ, [], ◌∷◌, ◌++◌, take, Ok, Err, refl}
use Rattle.bcv_base.specs.declared.id.Id16.{Id16}
use Rattle.bcv_base.specs.declared.manifest.Manifest.{Manifest}
use Rattle.bcv_base.specs.ManifestGrammar.{manifest_of, whole_at, manifest_at, head_at, lists_at, counted_at, items_at, writer_at}
use Rattle.bcv_base.specs.ManifestText.{manifest_text}

-- an id of fifteen zeros and a number
pub id_of : ℕ → Id16
id_of n = record { 0 = 0 ∷ 0 ∷ 0 ∷ 0 ∷ 0 ∷ 0 ∷ 0 ∷ 0 ∷ 0 ∷ 0 ∷ 0 ∷ 0 ∷ 0 ∷ 0 ∷ 0 ∷ n ∷ [] }

pub first : Manifest
first = record { number = 1; moment = 0; block = 1024; retention = 100; id = id_of 3; writers = record { id = id_of 1; last = id_of 3; number = 1 } ∷ []; dbs = []; dead = [] }

pub first_is_read : manifest_of (manifest_text first) ≡ Ok first
unfolding id_of first manifest_of whole_at manifest_at head_at lists_at counted_at items_at writer_at ones
first_is_read = refl

pub one_more_byte : manifest_of (manifest_text first ++ 0 ∷ []) ≡ Err 104
unfolding id_of first manifest_of whole_at manifest_at head_at lists_at counted_at items_at writer_at ones
one_more_byte = refl

pub one_byte_less : manifest_of (take 103 (manifest_text first)) ≡ Err 100
unfolding id_of first manifest_of whole_at manifest_at head_at lists_at counted_at items_at writer_at ones
one_byte_less = refl

pub number_zero : manifest_of (manifest_text (record first { number = 0 })) ≡ Err 8
unfolding id_of first manifest_of whole_at manifest_at head_at lists_at counted_at items_at writer_at ones
number_zero = refl
