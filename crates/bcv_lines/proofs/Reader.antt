-- What a reader has taken while it looks for the end of a line.
use Rattle.std.proofs.Common.{◌≡◌, ℕ, ◌≤◌, List, [], ◌++◌, refl, sym, ap, ◌∙◌, subst, append_assoc, append-nil, arith}
use Rattle.std.specs.Prelude.{Option}
use Rattle.std.specs.Io.KnownBytes.{Keeps, Consumes, IsAtEnd}
use Rattle.std.proofs.KnownBytes.{Consumes-nil, Consumes-trans, Consumes-kept}
use Rattle.bcv_lines.specs.Lines.{most_of_script}
use Rattle.bcv_lines.specs.Reading.{FitsFront, GivesLine, Leaves, PassesLimit}
use Rattle.bcv_lines.specs.declared.lines.Next.{Next}
use Rattle.bcv_lines.specs.declared.lines.Next.TheVariants as next

-- the bytes that the reader had, and those that it took, are the line so far and the chunk
pub record Took (a b : Option (List ℕ)) (had line chunk : List ℕ) : Type 0 where
  pub taken : List ℕ
  pub consumes : Consumes a b taken
  pub joined : had ++ taken ≡ line ++ chunk

pub took_none : (a : Option (List ℕ)) (had line : List ℕ) → line ≡ [] → Took a a had line had
took_none a had line e = record { taken = []; consumes = Consumes-nil a; joined = append-nil had ∙ ap (λ (l : List ℕ). l ++ had) (sym e) }

pub took_more : (a b c : Option (List ℕ)) (had line chunk next more : List ℕ) → Took a b had line chunk → line ++ chunk ≡ next → Consumes b c more → Took a c had next more
took_more a b c had line chunk next more t e q = record {
  taken = t.taken ++ more;
  consumes = Consumes-trans a b c t.taken more t.consumes q;
  joined = sym (append_assoc had t.taken more) ∙ ap (λ (l : List ℕ). l ++ more) (t.joined ∙ e);
}

pub fits_nothing : (used : ℕ) (line : List ℕ) → line ≡ [] → used ≤ most_of_script → FitsFront used line
fits_nothing used line e h =
    let none : FitsFront used [] = record { is_line = record { whole = refl; short = omega arith }; fits = omega arith } in
    subst (FitsFront used) (sym e) none

abbrev pub Given : (a b : Option (List ℕ)) → ℕ → List ℕ → List ℕ → List ℕ → Next → Type 0
Given a b used had line rest result = (taken : List ℕ) × Consumes a b taken × GivesLine result used (had ++ taken) (IsAtEnd b) line rest

pub gave_limit : (a b : Option (List ℕ)) (used : ℕ) (had line chunk line' rest : List ℕ) → Took a b had line chunk → PassesLimit used (line ++ chunk) → Given a b used had line' rest next.TooLong
gave_limit a b used had line chunk line' rest t p = (t.taken, t.consumes, subst (PassesLimit used) (sym t.joined) p)

pub gave_fault : (a b c : Option (List ℕ)) (used : ℕ) (had line chunk line' rest : List ℕ) → Took a b had line chunk → line ++ chunk ≡ line' → FitsFront used line' → Keeps b c → Given a c used had line' rest next.ReadFault
gave_fault a b c used had line chunk line' rest t e f k = (t.taken, Consumes-kept a b c t.taken t.consumes k, subst (FitsFront used) (sym (t.joined ∙ e)) f)

pub gave_left : (a b c : Option (List ℕ)) (used : ℕ) (had line chunk line' rest : List ℕ) (result : Next) → Took a b had line chunk → line ++ chunk ≡ line' → FitsFront used line' → Keeps b c → IsAtEnd c → Leaves result line'
    → Given a c used had line' rest result
gave_left a b c used had line chunk line' rest next.End t e f k end l = (t.taken, Consumes-kept a b c t.taken t.consumes k, (end, t.joined ∙ e ∙ l))
gave_left a b c used had line chunk line' rest next.Last t e f k end l = (t.taken, Consumes-kept a b c t.taken t.consumes k, (end, t.joined ∙ e, l, f))
gave_left a b c used had line chunk line' rest next.Line t e f k end l = absurd l
gave_left a b c used had line chunk line' rest next.TooLong t e f k end l = absurd l
gave_left a b c used had line chunk line' rest next.ReadFault t e f k end l = absurd l
gave_left a b c used had line chunk line' rest next.NoMemory t e f k end l = absurd l
