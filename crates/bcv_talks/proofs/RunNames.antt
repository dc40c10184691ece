-- The names that are drawn in a run differ.
use Rattle.std.proofs.Common.{◌≡◌, ◌∙◌, ◌≤◌, true, List, [], ◌∷◌, ◌++◌, length, refl, arith}
use Rattle.std.proofs.lemmas.List.Folds.{list_any-append}
use Rattle.bcv_base.specs.declared.id.Id16.{Id16}
use Rattle.bcv_base.specs.HistoryLaws.{has_id-first}
use Rattle.bcv_base.specs.Ids.{has_id, id_eq}
use Rattle.bcv_dbmap.specs.Honest.{AreApart}
use Rattle.bcv_dbmap.proofs.Bools.{neither_or, or_left, or_right}
use Rattle.bcv_machine.specs.Run.{AllDiffer}
use Rattle.bcv_store.specs.StoreShown.{StoreTold}
use Rattle.bcv_talks.specs.RunNames.{NamesDiffer, RunNamesDiffer, run_names}
use Rattle.bcv_worldlaws.proofs.Names.{both_mine, none_mine}

-- ---- names in two lists

pub in_first : (i : Id16) (xs ys : List Id16) → has_id i xs ≡ true → has_id i (xs ++ ys) ≡ true
in_first i xs ys h = list_any-append (λ x. id_eq x i) xs ys ∙ or_left (has_id i xs) (has_id i ys) h

pub in_second : (i : Id16) (xs ys : List Id16) → has_id i ys ≡ true → has_id i (xs ++ ys) ≡ true
in_second i xs ys h = list_any-append (λ x. id_eq x i) xs ys ∙ or_right (has_id i xs) (has_id i ys) h

-- at most one name before others, which is none of them
differ_with : (ids names : List Id16) → length ids ≤ 1 → AreApart ids names → AllDiffer names → AllDiffer (ids ++ names)
differ_with [] names few apart differ = differ
differ_with (i ∷ []) names few apart differ = (apart i (has_id-first i []), differ)
differ_with (i ∷ j ∷ is) names few apart differ = absurd (omega (arith, few))

-- ---- runs

pub run_names_differ : (store : StoreTold) → RunNamesDiffer store
run_names_differ store mine used a b [] run = record { own = none_mine mine; apart = λ i h. refl; differ = tt }
run_names_differ store mine used a b (e ∷ es) run =
    let ids : List Id16 = run.1.ids in
    let names : List Id16 = run_names store mine (used ++ ids) run.0 es b run.2 in
    let rest : NamesDiffer mine (used ++ ids) names = run_names_differ store mine (used ++ ids) run.0 b es run.2 in
    record {
      own = both_mine mine ids names run.1.fresh.own rest.own;
      apart = λ i h.
          list_any-append (λ x. id_eq x i) ids names ∙ neither_or (has_id i ids) (has_id i names) (run.1.fresh.apart i h) (rest.apart i (in_first i used ids h));
      differ = differ_with ids names run.1.few (λ i h. rest.apart i (in_second i used ids h)) rest.differ;
    }
