-- What is put into a file is what is found there.
use Rattle.std.proofs.Common.{ℕ, List, ap}
use Rattle.std.proofs.lemmas.Nat.{from_be_bytes-to_be_bytes_8}
use Rattle.bcv_dirstore.specs.ObjectFile.{StoredIsFound}

pub stored_is_found : (etag : ℕ) (bytes : List ℕ) → StoredIsFound etag bytes
stored_is_found etag bytes below = ap (λ (e : ℕ). record { bytes = bytes; etag = e }) (from_be_bytes-to_be_bytes_8 etag below)
