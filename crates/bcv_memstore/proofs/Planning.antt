-- A plan in which an outcome is set.
use Rattle.std.proofs.Common.{◌≡◌, ◌∙◌, ℕ, zero, suc, ◌+◌, ◌-◌, true, false, List, [], ◌∷◌, ◌++◌, length, replicate, slice_set, Option, Some, None, is_some, refl, ap, sym, arith}
use Rattle.std.specs.Option.{option_to_list}
use Rattle.std.proofs.lemmas.List.{append-nil}
use Rattle.bcv_base.specs.declared.outcome.Outcome.{Outcome}
use Rattle.bcv_base.specs.declared.outcome.Outcome.TheVariants as outcome
use Rattle.bcv_memstore.specs.Planned.{planned_at}

-- the outcome set at a place of the plan that has so many further ones that it has the place
pub set_padded : (place n : ℕ) (o : Outcome) (os : List Outcome) → n ≡ place + 1 - length os → slice_set (os ++ replicate n outcome.Ok) place o ≡ planned_at place o os
set_padded zero n o [] is =
    let one : n ≡ 1 = omega (arith, is) in
    ap (λ (k : ℕ). slice_set (replicate k outcome.Ok) zero o) one
set_padded zero n o (first ∷ os) is =
    let none : n ≡ 0 = omega (arith, is) in
    ap (λ (k : ℕ). slice_set (first ∷ (os ++ replicate k outcome.Ok)) zero o) none ∙ ap (λ (rest : List Outcome). o ∷ rest) (append-nil os)
set_padded (suc place) n o [] is =
    let more : n ≡ suc (suc place) = omega (arith, is) in
    ap (λ (k : ℕ). slice_set (replicate k outcome.Ok) (suc place) o) more ∙ ap (λ (rest : List Outcome). outcome.Ok ∷ rest) (set_padded place (suc place) o [] (omega arith))
set_padded (suc place) n o (first ∷ os) is = ap (λ (rest : List Outcome). first ∷ rest) (set_padded place n o os (omega (arith, is)))

-- an outcome set after the next request, of a plan of nothing and of one that has a next outcome
module _ (calls place : ℕ) (o : Outcome) (later new plan : List Outcome) (number : calls ≡ suc place) (made : new ≡ planned_at place o later) where
  pub set_none : (next : Option Outcome) → option_to_list next ++ later ≡ plan → (next ≡ None → later ≡ []) → is_some next ≡ false → outcome.Ok ∷ new ≡ planned_at calls o plan
  set_none None is nothing none =
      let empty : later ≡ [] = nothing refl in
      ap (λ (rest : List Outcome). outcome.Ok ∷ rest) (made ∙ ap (planned_at place o) empty) ∙ ap (planned_at (suc place) o) (sym empty ∙ is) ∙ ap (λ (k : ℕ). planned_at k o plan) (sym number)
  set_none (Some first) is nothing none = absurd (cc none)

  pub set_some : (next : Option Outcome) → option_to_list next ++ later ≡ plan → is_some next ≡ true → option_to_list next ++ new ≡ planned_at calls o plan
  set_some None is some = absurd (cc some)
  set_some (Some first) is some =
      ap (λ (rest : List Outcome). first ∷ rest) made ∙ ap (planned_at (suc place) o) is ∙ ap (λ (k : ℕ). planned_at k o plan) (sym number)
