-- A world goes on: its names were drawn, and its places fit.
use Rattle.std.proofs.Common.{◌≡◌, ◌∙◌, ◌⊎◌, inl, inr, ◌+◌, ◌-◌, ◌^◌, ◌<◌, ◌≤◌, ◌==◌, ℕ, zero, suc, true, false, List, [], ◌∷◌, ◌++◌, map, append-nil, slice_get, slice_set, Some, refl, sym, subst, arith}
use Rattle.std.proofs.lemmas.List.Folds.{list_any-append}
use Rattle.std.proofs.lemmas.Option.{same_Some}
use Rattle.std.specs.List.{range_with_len}
use Rattle.bcv_base.specs.declared.id.Id16.{Id16}
use Rattle.bcv_base.specs.declared.log.Entry.{Entry}
use Rattle.bcv_base.specs.History.{history_of}
use Rattle.bcv_base.specs.HistoryLaws.{has_id-first, id_eq-is}
use Rattle.bcv_base.specs.Ids.{has_id, id_eq}
use Rattle.bcv_base.specs.Numbered.{numbered}
use Rattle.bcv_base.proofs.NumberedNames.{numbered-injective}
use Rattle.bcv_clientlaws.specs.OtherParts.{Includes}
use Rattle.bcv_clientlaws.proofs.OtherParts.{behind_one, includes_all, the_first}
use Rattle.bcv_dbmap.specs.Growth.{AreLawful}
use Rattle.bcv_dbmap.specs.Honest.{AreApart}
use Rattle.bcv_dbmap.specs.RequestGrowth.{RequestGrowth}
use Rattle.bcv_dbmap.specs.Sound.{IsSoundLog}
use Rattle.bcv_dbmap.proofs.Bools.{neither_or, not_both, not_passed, or_cases, or_left, or_neither, or_right}
use Rattle.bcv_dbmap.proofs.OthersLaws.{others_leave_mine}
use Rattle.bcv_dbmap.proofs.SoundLaws.{empty_is_sound}
use Rattle.bcv_machine.specs.Step.{Acts, Choice, drawn_by_act}
use Rattle.bcv_model.specs.declared.event.Act.{Act}
use Rattle.bcv_model.specs.declared.reply.Said.{Said}
use Rattle.bcv_worldlaws.specs.Places.{ClientPlace, AwayFrom, IsUnknown, NamedWithin, UsesOnly, place_names, WorldFits, with_place, FitsPlace, place_at, place_side, seen_place}
use Rattle.bcv_worldlaws.specs.WorldLaws.{ActGoesOn, AreNewPlaces, DifferentIds, FirstWorldFits, NewNamesAreAway, NothingGrows, NumbersAreNew, PlaceMoves, WorldGoesOn, WorldStep}
use Rattle.bcv_worldlaws.proofs.Acting.{act_is_next, acts_in_place, alone_grew, found_at, grew_alone, none_between, own_lawful, stay_apart}
use Rattle.bcv_worldlaws.proofs.FirstWorld.{first_state}
use Rattle.bcv_worldlaws.proofs.Names.{apart_turned, none_mine, not_among, of_either, one_mine}

-- ---- more names

left_mine : (mine more : List Id16) → Includes (mine ++ more) mine
left_mine mine more i h = list_any-append (λ x. id_eq x i) mine more ∙ or_left (has_id i mine) (has_id i more) h

right_mine : (mine more : List Id16) → Includes (mine ++ more) more
right_mine mine more i h = list_any-append (λ x. id_eq x i) mine more ∙ or_right (has_id i mine) (has_id i more) h

-- what is none of many names is none of the first, and of the others
neither_has : (a b : List Id16) (i : Id16) → has_id i (a ++ b) ≡ false → (has_id i a ≡ false) × (has_id i b ≡ false)
neither_has a b i h = or_neither (has_id i a) (has_id i b) (sym (list_any-append (λ x. id_eq x i) a b) ∙ h)

none_of_both : (a b : List Id16) (i : Id16) → has_id i a ≡ false → has_id i b ≡ false → has_id i (a ++ b) ≡ false
none_of_both a b i h g = list_any-append (λ x. id_eq x i) a b ∙ neither_or (has_id i a) (has_id i b) h g

-- ---- places within names

named_there : (names : List Id16) (places : List ClientPlace) (k : ℕ) (x : ClientPlace) → NamedWithin names places → slice_get places k ≡ Some x → Includes names (place_names x)
named_there names [] k x named at = absurd (cc (at))
named_there names (p ∷ ps) zero x named at = subst (λ (y : ClientPlace). Includes names (place_names y)) (same_Some p x at) named.0
named_there names (p ∷ ps) (suc k) x named at = named_there names ps k x named.1 at

module _ (names drawn : List Id16) where
  named_more : (ps : List ClientPlace) → NamedWithin names ps → NamedWithin (names ++ drawn) ps
  named_more [] named = tt
  named_more (p ∷ ps) named = (λ i h. left_mine names drawn i (named.0 i h), named_more ps named.1)

  named_set : (new : ClientPlace) → Includes (names ++ drawn) (place_names new) → (places : List ClientPlace) (k : ℕ) → NamedWithin names places
      → NamedWithin (names ++ drawn) (slice_set places k new)
  named_set new is [] k named = tt
  named_set new is (p ∷ ps) zero named = (is, named_more ps named.1)
  named_set new is (p ∷ ps) (suc k) named = (λ i h. left_mine names drawn i (named.0 i h), named_set new is ps k named.1)

  new_named : (old new : ClientPlace) → Includes names (place_names old) → Includes (place_names old ++ drawn) (place_names new) → Includes (names ++ drawn) (place_names new)
  new_named old new within all i h = by (of_either (place_names old) drawn i (all i h))
    where
      by : (has_id i (place_names old) ≡ true) ⊎ (has_id i drawn ≡ true) → has_id i (names ++ drawn) ≡ true
      by (inl g) = left_mine names drawn i (within i g)
      by (inr g) = right_mine names drawn i g

-- ---- what a log uses

-- a name that is not mine is apart from mine
one_apart : (mine : List Id16) (i : Id16) → has_id i mine ≡ false → AreApart mine (i ∷ [])
one_apart mine i none x h = not_passed (has_id x (i ∷ [])) (λ g. by (or_cases (id_eq i x) false g))
  where
    by : (id_eq i x ≡ true) ⊎ (false ≡ true) → ⊥
    by (inl same) = not_both (has_id x mine) h (subst (λ (y : Id16). has_id y mine ≡ false) (id_eq-is i x same) none)
    by (inr never) = absurd (cc (never))

still_unknown : (log own : List Entry) (i : Id16) → IsSoundLog log → AreLawful (i ∷ []) (history_of log) own → IsUnknown (history_of log) i → IsUnknown (history_of (log ++ own)) i
still_unknown log own i sound lawful unknown =
    let untouched = others_leave_mine (i ∷ []) log own sound lawful in
    let first : has_id i (i ∷ []) ≡ true = has_id-first i [] in
    record {
      unput = untouched.bytes i first ∙ unknown.unput;
      unlisted = untouched.unlisted i first unknown.unlisted;
      unpublished = untouched.unpublished i first unknown.unpublished;
    }

uses_more : (names drawn : List Id16) (before after : List Entry) (old : ClientPlace) → IsSoundLog before → UsesOnly names (history_of before) → Includes names (place_names old)
    → RequestGrowth (Unit {0}) (place_names old ++ drawn) before after → UsesOnly (names ++ drawn) (history_of after)
uses_more names drawn before after old sound uses within growth i none =
    let mine : List Id16 = place_names old ++ drawn in
    let neither = neither_has names drawn i none in
    let not_mine : has_id i mine ≡ false = none_of_both (place_names old) drawn i (not_among names (place_names old) i within neither.0) neither.1 in
    subst (λ (log : List Entry). IsUnknown (history_of log) i) (sym (grew_alone mine before after growth))
    (still_unknown before growth.own i sound (own_lawful mine before after growth (i ∷ []) (one_apart mine i not_mine)) (uses i neither.0))

-- ---- new names

-- new names are apart from those that were drawn
places_away : (names drawn : List Id16) (places : List ClientPlace) → AreApart names drawn → NamedWithin names places → AwayFrom drawn places
places_away names drawn [] apart named = tt
places_away names drawn (p ∷ ps) apart named =
    (λ i h. not_among names (place_names p) i named.0 (apart_turned names drawn apart i h), places_away names drawn ps apart named.1)

pub new_names_are_away : NewNamesAreAway
new_names_are_away names drawn log places fits apart = record {
  away = places_away names drawn places apart fits.named;
  unknown = λ i h. fits.uses i (apart_turned names drawn apart i h);
}

-- later numbers are none of an earlier one
above : (j k n : ℕ) → j < k → k + n ≤ 2 ^ 128 → has_id (numbered j) (map numbered (range_with_len k n)) ≡ false
above j k zero lt le = refl
above j k (suc n) lt le =
    neither_or (id_eq (numbered k) (numbered j)) (has_id (numbered j) (map numbered (range_with_len (k + 1) n)))
    (not_passed (id_eq (numbered k) (numbered j)) differ)
    (above j (k + 1) n (omega (arith, lt)) (omega (arith, le)))
  where
    differ : id_eq (numbered k) (numbered j) ≡ true → ⊥
    differ h =
        let same : k ≡ j = numbered-injective k j (omega (arith, le)) (omega (arith, lt, le)) (id_eq-is (numbered k) (numbered j) h) in
        omega (arith, same, lt)

numbers_differ : (k n : ℕ) → k + n ≤ 2 ^ 128 → DifferentIds (map numbered (range_with_len k n))
numbers_differ k zero le = tt
numbers_differ k (suc n) le = (above k (k + 1) n (omega arith) (omega (arith, le)), numbers_differ (k + 1) n (omega (arith, le)))

parts_differ : (a b : List Id16) → DifferentIds (a ++ b) → AreApart a b
parts_differ [] b differ i h = absurd (cc (h))
parts_differ (j ∷ js) b differ i h = by (or_cases (id_eq j i) (has_id i js) h) (λ later. parts_differ js b differ.1 i later)
  where
    first : has_id j b ≡ false
    first = (neither_has js b j differ.0).1

    by : (id_eq j i ≡ true) ⊎ (has_id i js ≡ true) → (has_id i js ≡ true → has_id i b ≡ false) → has_id i b ≡ false
    by (inl same) rest = subst (λ (x : Id16). has_id x b ≡ false) (id_eq-is j i same) first
    by (inr later) rest = rest later

pub numbers_are_new : NumbersAreNew
numbers_are_new count later drawn small grown =
    parts_differ (map numbered (range_with_len 1 count)) drawn (subst DifferentIds grown (numbers_differ 1 later (omega (arith, small))))

-- ---- the world

pub nothing_grows : NothingGrows
nothing_grows mine log sound = record {
  others = [];
  none = λ u. refl;
  lawful = tt;
  own = [];
  one = omega arith;
  grown = sym (append-nil (log ++ []) ∙ append-nil log);
  own_lawful = λ theirs apart. tt;
  sound = sound;
}

pub world_goes_on : WorldGoesOn
world_goes_on names drawn before after places n old new fits apart at growth is all =
    let there : slice_get places (n - 1) ≡ Some old = found_at (n == 0) (slice_get places (n - 1)) old at in
    let within : Includes names (place_names old) = named_there names places (n - 1) old fits.named there in
    let away : AwayFrom drawn places = places_away names drawn places apart fits.named in
    record {
      sound = growth.sound;
      fit = (acts_in_place 0 before after places n old new drawn fits.sound fits.fit fits.apart away at growth is).fit;
      apart = stay_apart places n old new drawn fits.apart away at all;
      named = named_set names drawn new (new_named names drawn old new within all) places (n - 1) fits.named;
      uses = uses_more names drawn before after old fits.sound fits.uses within growth;
    }

pub act_goes_on : ActGoesOn
act_goes_on moment names drawn before after places n old new what said choice fits apart at growth is all draws acts =
    let away : AwayFrom drawn places = places_away names drawn places apart fits.named in
    record {
      fits = world_goes_on names drawn before after places n old new fits apart at growth is all;
      next =
          act_is_next moment before after places n old new drawn what said choice at away draws
          (acts_in_place moment before after places n old new drawn fits.sound fits.fit fits.apart away at growth is) acts;
    }

-- over a store that is alone: the event goes from the side over what others appended, which is nothing
pub act_goes_on_alone : {A : Type 0} (alone : A) (moment : ℕ) (names drawn : List Id16) (before after : List Entry) (places : List ClientPlace) (n : ℕ) (old new : ClientPlace) (what : Act) (said : Said) (choice : Choice)
    → WorldFits names before places → AreApart names drawn → place_at n places ≡ Some old
    → (growth : RequestGrowth A (place_names old ++ drawn) before after) → FitsPlace after new
    → Includes (place_names old ++ drawn) (place_names new) → Includes drawn (drawn_by_act what said.reply choice.name)
    → Acts (place_side moment (history_of (before ++ growth.others)) old) (seen_place (history_of (before ++ growth.others)) old).up what said choice (place_side moment (history_of after) new)
    → WorldStep moment before after places (with_place n new places) n what said choice (names ++ drawn)
act_goes_on_alone alone moment names drawn before after places n old new what said choice fits apart at growth is all draws acts =
    let mine : List Id16 = place_names old ++ drawn in
    act_goes_on moment names drawn before after places n old new what said choice fits apart at (alone_grew alone mine before after growth) is all draws
    (subst (λ (log : List Entry). Acts (place_side moment (history_of log) old) (seen_place (history_of log) old).up what said choice (place_side moment (history_of after) new))
    (none_between alone mine before after growth) acts)

pub place_moves : PlaceMoves
place_moves moment names log places n old new fits at moves =
    let nothing_away : AwayFrom [] places = places_away names [] places (λ i h. refl) fits.named in
    let growth : RequestGrowth (Unit {0}) (place_names old ++ []) log log = nothing_grows (place_names old ++ []) log fits.sound in
    let on : WorldFits (names ++ []) log (with_place n new places) =
    world_goes_on names [] log log places n old new fits (λ i h. refl) at growth moves.fits (λ i h. left_mine (place_names old) [] i (moves.names i h)) in (
      subst (λ (all : List Id16). WorldFits all log (with_place n new places)) (append-nil names) on,
      acts_in_place moment log log places n old new [] fits.sound fits.fit fits.apart nothing_away at growth moves.fits,
    )

-- ---- the first world

new_within : (slots : ℕ) (mine ids : List Id16) (places : List ClientPlace) → AreNewPlaces slots ids places → Includes mine ids → NamedWithin mine places
new_within slots mine [] [] are all = tt
new_within slots mine [] (p ∷ ps) are all = absurd are
new_within slots mine (i ∷ is) [] are all = absurd are
new_within slots mine (i ∷ is) (p ∷ ps) are all =
    (subst (Includes mine) (sym are.0.names) (one_mine mine i [] (the_first mine i is all) (none_mine mine)), new_within slots mine is ps are.1 (behind_one mine i is all))

pub first_world_fits : FirstWorldFits
first_world_fits slots ids places are differ fit = record {
  sound = empty_is_sound;
  fit = fit;
  apart = (first_state slots ids places are differ).apart;
  named = new_within slots ids ids places are (includes_all ids);
  uses = λ i none. record { unput = refl; unlisted = refl; unpublished = refl };
}
