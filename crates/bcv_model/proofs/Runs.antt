-- A run goes on by one step, and so do the ids that it drew.
use Rattle.std.proofs.Common.{◌≡◌, ◌≢◌, ℕ, Bool, true, false, ◌||◌, List, [], ◌∷◌, ◌++◌, length, refl, sym, ap, ◌∙◌, subst, arith, append_assoc, append-nil}
use Rattle.std.proofs.lemmas.Slice.Eq.{bytes_eq-Decides}
use Rattle.std.proofs.lemmas.Bool.{false≢true}
use Rattle.bcv_base.specs.declared.id.Id16.{Id16}
use Rattle.bcv_base.specs.Ids.{id_eq, has_id}
use Rattle.bcv_model.specs.declared.event.Event.{Event}
use Rattle.bcv_model.specs.declared.reply.Said.{Said}
use Rattle.bcv_model.specs.MachineState.{State}
use Rattle.bcv_model.specs.Machine.{Next, Run, Choice, drawn, drawn_by, AllDiffer}

pub run_then : (a m b : State) (es : List Event) (ss : List Said) (cs : List Choice) (e : Event) (s : Said) (c : Choice)
    → Run a es ss cs m → Next m e s c b → Run a (es ++ e ∷ []) (ss ++ s ∷ []) (cs ++ c ∷ []) b
run_then a m b [] [] [] e s c r n = (b, subst (λ x. Next x e s c b) r n, refl)
run_then a m b [] [] (d ∷ cs) e s c r n = absurd r
run_then a m b [] (t ∷ ss) cs e s c r n = absurd r
run_then a m b (f ∷ es) [] cs e s c r n = absurd r
run_then a m b (f ∷ es) (t ∷ ss) [] e s c r n = absurd r
run_then a m b (f ∷ es) (t ∷ ss) (d ∷ cs) e s c r n = (r.0, r.1, run_then r.0 m b es ss cs e s c r.2 n)

pub drawn_then : (es : List Event) (ss : List Said) (cs : List Choice) (e : Event) (s : Said) (c : Choice) → length ss ≡ length es → length cs ≡ length es
    → drawn (es ++ e ∷ []) (ss ++ s ∷ []) (cs ++ c ∷ []) ≡ drawn es ss cs ++ drawn_by e s c
drawn_then [] [] [] e s c p q = append-nil (drawn_by e s c)
drawn_then [] [] (d ∷ cs) e s c p q = absurd (omega (arith, q))
drawn_then [] (t ∷ ss) cs e s c p q = absurd (omega (arith, p))
drawn_then (f ∷ es) [] cs e s c p q = absurd (omega (arith, p))
drawn_then (f ∷ es) (t ∷ ss) [] e s c p q = absurd (omega (arith, q))
drawn_then (f ∷ es) (t ∷ ss) (d ∷ cs) e s c p q =
    ap (λ l. drawn_by f t d ++ l) (drawn_then es ss cs e s c (omega (arith, p)) (omega (arith, q))) ∙ sym (append_assoc (drawn_by f t d) (drawn es ss cs) (drawn_by e s c))

-- the id is none of these
abbrev pub IsOther : Id16 → List Id16 → Type 0
IsOther i [] = Unit {0}
IsOther i (x ∷ xs) = (x ≢ i) × IsOther i xs

pub id_eq-other : (a b : Id16) → a ≢ b → id_eq a b ≡ false
id_eq-other a b ne = elim (id_eq a b) as (λ (t : Bool). id_eq a b ≡ t → t ≡ false) [
  | true ↦ λ e. absurd (ne (ap (λ (x : List ℕ). let i : Id16 = record { 0 = x } in i) ((bytes_eq-Decides a.0 b.0).0 e)))
  | false ↦ λ e. refl
] refl

pub or_parts : (a b : Bool) → (a || b) ≡ false → (a ≡ false) × (b ≡ false)
or_parts false b p = (refl, p)
or_parts true b p = absurd (false≢true (sym p))

has_id_then : (i j : Id16) (ids : List Id16) → has_id i ids ≡ false → j ≢ i → has_id i (ids ++ j ∷ []) ≡ false
has_id_then i j [] p ne = rw (id_eq-other j i ne) refl
has_id_then i j (x ∷ xs) p ne =
    let q = or_parts (id_eq x i) (has_id i xs) p in
    ap (λ (t : Bool). t || has_id i (xs ++ j ∷ [])) q.0 ∙ has_id_then i j xs q.1 ne

-- one more id that is none of them
pub differ_then : (ids : List Id16) (i : Id16) → AllDiffer ids → IsOther i ids → AllDiffer (ids ++ i ∷ [])
differ_then [] i d o = (refl, tt)
differ_then (x ∷ xs) i d o = (has_id_then x i xs d.0 (λ e. o.0 (sym e)), differ_then xs i d.1 o.1)
