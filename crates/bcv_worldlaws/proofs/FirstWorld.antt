-- A world begins, and its time goes on.
use Rattle.std.proofs.Common.{◌≡◌, ◌∙◌, ◌⊎◌, inl, inr, ℕ, true, false, List, [], ◌∷◌, length, map, replicate, refl, sym, ap, subst}
use Rattle.bcv_base.specs.declared.id.Id16.{Id16}
use Rattle.bcv_base.specs.HistoryLaws.{id_eq-is}
use Rattle.bcv_base.specs.Ids.{has_id, id_eq}
use Rattle.bcv_dbmap.specs.Honest.{AreApart}
use Rattle.bcv_dbmap.proofs.Bools.{neither_or, or_cases, or_neither}
use Rattle.bcv_machine.specs.State as m
use Rattle.bcv_worldlaws.specs.Places.{ClientPlace, ArePlacesApart, AwayFrom, seen_place, world_seen}
use Rattle.bcv_worldlaws.specs.WorldLaws.{AreNewPlaces, DifferentIds, FirstState, NewPlace, TickIsNext}

pub new_place : NewPlace
new_place slots id seen = record { seen = refl; names = refl }

all_new : (slots : ℕ) (ids : List Id16) (places : List ClientPlace) → AreNewPlaces slots ids places → map (seen_place []) places ≡ replicate (length places) (m.new_client slots)
all_new slots [] [] are = refl
all_new slots [] (p ∷ ps) are = absurd are
all_new slots (i ∷ is) [] are = absurd are
all_new slots (i ∷ is) (p ∷ ps) are =
    ap (λ (c : m.Client). c ∷ map (seen_place []) ps) are.0.seen ∙ ap (λ (cs : List m.Client). m.new_client slots ∷ cs) (all_new slots is ps are.1)

ids_apart : (i j : Id16) → id_eq j i ≡ false → AreApart (i ∷ []) (j ∷ [])
ids_apart i j other x h = by (or_cases (id_eq i x) false h)
  where
    by : (id_eq i x ≡ true) ⊎ (false ≡ true) → has_id x (j ∷ []) ≡ false
    by (inl same) = subst (λ (y : Id16). has_id y (j ∷ []) ≡ false) (id_eq-is i x same) (neither_or (id_eq j i) false other refl)
    by (inr never) = absurd (let no_one : false ≡ true = never in cc)

new_away : (slots : ℕ) (i : Id16) (ids : List Id16) (places : List ClientPlace) → AreNewPlaces slots ids places → has_id i ids ≡ false → AwayFrom (i ∷ []) places
new_away slots i [] [] are none = tt
new_away slots i [] (p ∷ ps) are none = absurd are
new_away slots i (j ∷ js) [] are none = absurd are
new_away slots i (j ∷ js) (p ∷ ps) are none =
    let neither = or_neither (id_eq j i) (has_id i js) none in
    (subst (AreApart (i ∷ [])) (sym are.0.names) (ids_apart i j neither.0), new_away slots i js ps are.1 neither.1)

new_apart : (slots : ℕ) (ids : List Id16) (places : List ClientPlace) → AreNewPlaces slots ids places → DifferentIds ids → ArePlacesApart places
new_apart slots [] [] are differ = tt
new_apart slots [] (p ∷ ps) are differ = absurd are
new_apart slots (i ∷ is) [] are differ = absurd are
new_apart slots (i ∷ is) (p ∷ ps) are differ =
    (subst (λ (names : List Id16). AwayFrom names ps) (sym are.0.names) (new_away slots i is ps are.1 differ.0), new_apart slots is ps are.1 differ.1)

pub first_state : FirstState
first_state slots ids places are differ = record {
  state = ap (λ (cs : List m.Client). record (world_seen 0 [] places) { clients = cs }) (all_new slots ids places are);
  apart = new_apart slots ids places are differ;
}

pub tick_is_next : TickIsNext
tick_is_next moment n past places choice = ((refl, refl), refl)
