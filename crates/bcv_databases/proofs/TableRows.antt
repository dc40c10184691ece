-- Rows of the table.
use Rattle.std.proofs.Common.{◌≡◌, ◌∙◌, ℕ, suc, ◌-◌, List, [], ◌∷◌, length, map, sym, ap, arith, Some}
use Rattle.std.specs.Prelude.{slice_get}
use Rattle.std.proofs.lemmas.Option.{same_Some}
use Rattle.bcv_base.specs.Views.{view_size}
use Rattle.bcv_model.specs.declared.ask.Commit.{Commit}
use Rattle.bcv_model.specs.Commits.{writes_of}

-- the size of a view is that of its last commit
pub size_last : (pages : ℕ) (cs : List Commit) (c : Commit) → slice_get cs (length cs - 1) ≡ Some c → view_size pages (map writes_of cs) ≡ c.size
size_last pages [] c is = absurd cc
size_last pages (x ∷ []) c is = ap (λ (z : Commit). z.size) (same_Some x c is)
size_last pages (x ∷ (y ∷ ys)) c is =
    let n : suc (length (y ∷ ys)) - 1 ≡ suc (length (y ∷ ys) - 1) = omega arith in
    size_last x.size (y ∷ ys) c (sym (ap (slice_get (x ∷ (y ∷ ys))) n) ∙ is)
