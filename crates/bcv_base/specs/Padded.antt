-- A list whose end is filled up with zeros.
use Rattle.std.specs.Prelude.{◌≡◌, ℕ, ◌-◌, List, ◌++◌, length, take, drop, replicate}
use Rattle.std.proofs.Common.{sym, ap, ◌∙◌, take-append-drop}

-- bytes up to a size, with zeros after them
abbrev pub padded : ℕ → List ℕ → List ℕ
padded size bytes = bytes ++ replicate (size - length bytes) 0

-- the front of a list and as many zeros as stood after it are the list
pub take-append-replicate : (len : ℕ) (bytes : List ℕ) → drop len bytes ≡ replicate (64 - len) 0 → length (take len bytes) ≡ len
    → padded 64 (take len bytes) ≡ bytes
take-append-replicate len bytes zeros fits =
    ap (λ n. take len bytes ++ replicate (64 - n) 0) fits ∙ ap (λ l. take len bytes ++ l) (sym zeros) ∙ take-append-drop len bytes
