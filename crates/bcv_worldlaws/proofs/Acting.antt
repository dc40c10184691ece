-- One client acts among others.
use Rattle.std.proofs.Common.{◌≡◌, ◌∙◌, ◌-◌, ◌==◌, ℕ, zero, suc, Bool, true, false, if◌then◌else◌, List, [], ◌∷◌, ◌++◌, map, append-nil, slice_get, slice_set, Option, Some, None, refl, sym, ap, subst}
use Rattle.std.proofs.lemmas.List.Folds.{list_any-append}
use Rattle.std.proofs.lemmas.Option.{same_Some, slice_get-map}
use Rattle.std.specs.List.{flat_map}
use Rattle.std.specs.Option.{option_map}
use Rattle.bcv_base.specs.declared.id.Id16.{Id16}
use Rattle.bcv_base.specs.declared.log.Entry.{Entry}
use Rattle.bcv_base.specs.History.{Item, history_of}
use Rattle.bcv_base.specs.Ids.{has_id, id_eq}
use Rattle.bcv_clientlaws.specs.OtherParts.{Includes}
use Rattle.bcv_clientlaws.proofs.OtherParts.{behind_one, in_front, in_rest, includes_all, the_first}
use Rattle.bcv_clientstate.specs.Parts.{Cleaning, Copying, Creating, Fetching, Job, Polling, Resolving, Task, Uploading, mine_of, names_of_job, names_of_pending}
use Rattle.bcv_clientstate.specs.SeenClient.{seen_job, seen_task}
use Rattle.bcv_clientstate.specs.SeenKept.{seen_pending}
use Rattle.bcv_dbcopy.specs.State as copy
use Rattle.bcv_dbmap.specs.Growth.{AreLawful}
use Rattle.bcv_dbmap.specs.Honest.{AreApart}
use Rattle.bcv_dbmap.specs.RequestGrowth.{RequestGrowth}
use Rattle.bcv_dbmap.specs.Sound.{IsSoundLog}
use Rattle.bcv_dbmap.proofs.Bools.{neither_or}
use Rattle.bcv_machine.specs.State as m
use Rattle.bcv_machine.specs.State.{client_at, client_ids, job_ids, pending_ids}
use Rattle.bcv_machine.specs.Step.{NextOf, drawn_by_act}
use Rattle.bcv_model.specs.declared.kept.PendingPub.{PendingPub}
use Rattle.bcv_worldlaws.specs.Places.{ClientPlace, DownPlace, UpPlace, ArePlacesApart, AwayFrom, FitsPlace, PlacesFit, flight_names, place_names, place_side, seen_place, with_place, world_seen}
use Rattle.bcv_worldlaws.specs.WorldLaws.{ActIsNext, ActedInPlace, ActsInPlace, DrawnAreApart, PlaceIsClient, StayApart, StaysPlace}
use Rattle.bcv_worldlaws.proofs.Names.{apart_turned, both_apart, both_mine, first_apart, less_apart, none_mine, not_among, one_mine, rest_apart}
use Rattle.bcv_worldlaws.proofs.PlacesStay.{others_stay, pending_same}

-- ---- the place of a number

pub found_at : (b : Bool) (o : Option ClientPlace) (x : ClientPlace) → (if b then None else o) ≡ Some x → o ≡ Some x
found_at true o x h = absurd (let none_is : None ≡ Some x = h in cc)
found_at false o x h = h

seen_at : (b : Bool) (past : List Item) (places : List ClientPlace) (k : ℕ)
    → (if b then None else slice_get (map (seen_place past) places) k) ≡ option_map (seen_place past) (if b then None else slice_get places k)
seen_at true past places k = refl
seen_at false past places k = slice_get-map (seen_place past) places k

pub place_is_client : PlaceIsClient
place_is_client moment past places n = seen_at (n == 0) past places (n - 1)

-- ---- the other places

-- no place but that at k, from 0, has one of these names
abbrev OthersAway : List Id16 → ℕ → List ClientPlace → Type 0
OthersAway names k [] = Unit {0}
OthersAway names zero (p ∷ ps) = AwayFrom names ps
OthersAway names (suc k) (p ∷ ps) = AreApart names (place_names p) × OthersAway names k ps

away_there : (names : List Id16) (ps : List ClientPlace) (k : ℕ) (x : ClientPlace) → AwayFrom names ps → slice_get ps k ≡ Some x → AreApart names (place_names x)
away_there names [] k x away at = absurd (let none_is : None ≡ Some x = at in cc)
away_there names (p ∷ ps) zero x away at = subst (λ (y : ClientPlace). AreApart names (place_names y)) (same_Some p x at) away.0
away_there names (p ∷ ps) (suc k) x away at = away_there names ps k x away.1 at

own_away : (places : List ClientPlace) (k : ℕ) (x : ClientPlace) → ArePlacesApart places → slice_get places k ≡ Some x → OthersAway (place_names x) k places
own_away [] k x apart at = tt
own_away (p ∷ ps) zero x apart at = subst (λ (y : ClientPlace). AwayFrom (place_names y) ps) (same_Some p x at) apart.0
own_away (p ∷ ps) (suc k) x apart at =
    (apart_turned (place_names p) (place_names x) (away_there (place_names p) ps k x apart.0 at), own_away ps k x apart.1 at)

all_away : (a b : List Id16) (ps : List ClientPlace) → AwayFrom a ps → AwayFrom b ps → AwayFrom (a ++ b) ps
all_away a b [] here there = tt
all_away a b (p ∷ ps) here there = (both_apart a b (place_names p) here.0 there.0, all_away a b ps here.1 there.1)

both_away : (a b : List Id16) (k : ℕ) (places : List ClientPlace) → OthersAway a k places → AwayFrom b places → OthersAway (a ++ b) k places
both_away a b k [] here there = tt
both_away a b zero (p ∷ ps) here there = all_away a b ps here there.1
both_away a b (suc k) (p ∷ ps) here there = (both_apart a b (place_names p) here.0 there.0, both_away a b k ps here.1 there.1)

fewer_away : (a less : List Id16) (ps : List ClientPlace) → Includes a less → AwayFrom a ps → AwayFrom less ps
fewer_away a less [] all away = tt
fewer_away a less (p ∷ ps) all away = (less_apart a less (place_names p) all away.0, fewer_away a less ps all away.1)

less_away : (a less : List Id16) (k : ℕ) (places : List ClientPlace) → Includes a less → OthersAway a k places → OthersAway less k places
less_away a less k [] all away = tt
less_away a less zero (p ∷ ps) all away = fewer_away a less ps all away
less_away a less (suc k) (p ∷ ps) all away = (less_apart a less (place_names p) all away.0, less_away a less k ps all away.1)

-- ---- places stay apart

away_set : (names : List Id16) (ps : List ClientPlace) (k : ℕ) (new : ClientPlace) → AwayFrom names ps → AreApart names (place_names new) → AwayFrom names (slice_set ps k new)
away_set names [] k new away apart = tt
away_set names (p ∷ ps) zero new away apart = (apart, away.1)
away_set names (p ∷ ps) (suc k) new away apart = (away.0, away_set names ps k new away.1 apart)

set_apart : (places : List ClientPlace) (k : ℕ) (new : ClientPlace) → ArePlacesApart places → OthersAway (place_names new) k places → ArePlacesApart (slice_set places k new)
set_apart [] k new apart away = tt
set_apart (p ∷ ps) zero new apart away = (away, apart.1)
set_apart (p ∷ ps) (suc k) new apart away =
    (away_set (place_names p) ps k new apart.0 (apart_turned (place_names new) (place_names p) away.0), set_apart ps k new apart.1 away.1)

pub stay_apart : StayApart
stay_apart places n old new drawn apart away at names =
    let there = found_at (n == 0) (slice_get places (n - 1)) old at in
    let from_old : OthersAway (place_names old ++ drawn) (n - 1) places = both_away (place_names old) drawn (n - 1) places (own_away places (n - 1) old apart there) away in
    set_apart places (n - 1) new apart (less_away (place_names old ++ drawn) (place_names new) (n - 1) places names from_old)

-- ---- the log grows

module _ (log own : List Entry) (sound : IsSoundLog log) (mine : List Id16) (lawful : (theirs : List Id16) → AreApart mine theirs → AreLawful theirs (history_of log) own) where
  abbrev earlier : List Item
  earlier = history_of log

  abbrev later : List Item
  later = history_of (log ++ own)

  stays : (p : ClientPlace) → AreApart mine (place_names p) → FitsPlace log p → StaysPlace log own p
  stays p apart fits = others_stay log own p sound (lawful (place_names p) apart) fits

  all_seen : (ps : List ClientPlace) → AwayFrom mine ps → PlacesFit log ps → map (seen_place later) ps ≡ map (seen_place earlier) ps
  all_seen [] away fits = refl
  all_seen (p ∷ ps) away fits =
      ap (λ (c : m.Client). c ∷ map (seen_place later) ps) (stays p away.0 fits.0).seen ∙ ap (λ (cs : List m.Client). seen_place earlier p ∷ cs) (all_seen ps away.1 fits.1)

  all_fit : (ps : List ClientPlace) → AwayFrom mine ps → PlacesFit log ps → PlacesFit (log ++ own) ps
  all_fit [] away fits = tt
  all_fit (p ∷ ps) away fits = ((stays p away.0 fits.0).fits, all_fit ps away.1 fits.1)

  set_seen : (new : ClientPlace) (places : List ClientPlace) (k : ℕ) → OthersAway mine k places → PlacesFit log places
      → map (seen_place later) (slice_set places k new) ≡ slice_set (map (seen_place earlier) places) k (seen_place later new)
  set_seen new [] k away fits = refl
  set_seen new (p ∷ ps) zero away fits = ap (λ (cs : List m.Client). seen_place later new ∷ cs) (all_seen ps away fits.1)
  set_seen new (p ∷ ps) (suc k) away fits =
      ap (λ (c : m.Client). c ∷ map (seen_place later) (slice_set ps k new)) (stays p away.0 fits.0).seen
      ∙ ap (λ (cs : List m.Client). seen_place earlier p ∷ cs) (set_seen new ps k away.1 fits.1)

  set_fit : (new : ClientPlace) (places : List ClientPlace) (k : ℕ) → OthersAway mine k places → PlacesFit log places → FitsPlace (log ++ own) new → PlacesFit (log ++ own) (slice_set places k new)
  set_fit new [] k away fits is = tt
  set_fit new (p ∷ ps) zero away fits is = (is, all_fit ps away fits.1)
  set_fit new (p ∷ ps) (suc k) away fits is = ((stays p away.0 fits.0).fits, set_fit new ps k away.1 fits.1 is)

  acted : (moment : ℕ) (places : List ClientPlace) (n : ℕ) (new : ClientPlace) → OthersAway mine (n - 1) places → PlacesFit log places → FitsPlace (log ++ own) new
      → ActedInPlace moment log (log ++ own) places n new
  acted moment places n new away fits is = record {
    state = ap (λ (cs : List m.Client). record (world_seen moment later places) { clients = cs }) (set_seen new places (n - 1) away fits);
    fit = set_fit new places (n - 1) away fits is;
  }

-- others appended nothing
pub grew_alone : (mine : List Id16) (before after : List Entry) (growth : RequestGrowth (Unit {0}) mine before after) → after ≡ before ++ growth.own
grew_alone mine before after growth =
    growth.grown ∙ ap (λ (others : List Entry). (before ++ others) ++ growth.own) (growth.none tt) ∙ ap (λ (log : List Entry). log ++ growth.own) (append-nil before)

pub own_lawful : (mine : List Id16) (before after : List Entry) (growth : RequestGrowth (Unit {0}) mine before after) (theirs : List Id16) → AreApart mine theirs
    → AreLawful theirs (history_of before) growth.own
own_lawful mine before after growth theirs apart =
    subst (λ (log : List Entry). AreLawful theirs (history_of log) growth.own)
    (ap (λ (others : List Entry). before ++ others) (growth.none tt) ∙ append-nil before) (growth.own_lawful theirs apart)

pub acts_in_place : ActsInPlace
acts_in_place moment before after places n old new drawn sound fit apart away at growth fits =
    let mine : List Id16 = place_names old ++ drawn in
    let there = found_at (n == 0) (slice_get places (n - 1)) old at in
    let others : OthersAway mine (n - 1) places = both_away (place_names old) drawn (n - 1) places (own_away places (n - 1) old apart there) away in
    let same : after ≡ before ++ growth.own = grew_alone mine before after growth in
    subst (λ (log : List Entry). ActedInPlace moment before log places n new) (sym same)
    (acted before growth.own sound mine (own_lawful mine before after growth) moment places n new others fit (subst (λ (log : List Entry). FitsPlace log new) same fits))

-- the store is alone, and so nobody else appends
pub alone_grew : {A : Type 0} (alone : A) (mine : List Id16) (before after : List Entry) → RequestGrowth A mine before after → RequestGrowth (Unit {0}) mine before after
alone_grew alone mine before after growth = record {
  others = growth.others;
  none = λ u. growth.none alone;
  lawful = growth.lawful;
  own = growth.own;
  one = growth.one;
  grown = growth.grown;
  own_lawful = growth.own_lawful;
  sound = growth.sound;
}

-- and so a side over what others appended is one over the log before
pub none_between : {A : Type 0} (alone : A) (mine : List Id16) (before after : List Entry) (growth : RequestGrowth A mine before after) → before ++ growth.others ≡ before
none_between alone mine before after growth = ap (λ (others : List Entry). before ++ others) (growth.none alone) ∙ append-nil before

-- ---- the machine's ids

module _ (mine : List Id16) (waiting : Option PendingPub) where
  pub job_among : (j : Job) → Includes mine (names_of_job j) → Includes mine (job_ids (seen_job waiting j))
  job_among (Fetching access txn page) all = none_mine mine
  job_among Polling all = none_mine mine
  job_among (Creating block retention id) all = all
  job_among (Copying s) all = one_mine mine s.publish.id [] (the_first mine s.publish.id (copy.put_ids s.edit) all) (none_mine mine)
  job_among (Uploading s view) all = one_mine mine s.publish.id [] (the_first mine s.publish.id s.ids all) (none_mine mine)
  job_among (Cleaning s) all = all
  job_among Resolving all = none_mine mine

  pub tasks_among : (ts : List Task) → Includes mine (flat_map (λ (t : Task). names_of_job t.job) ts)
      → Includes mine (flat_map (λ (t : m.Task). job_ids t.job) (map (seen_task waiting) ts))
  tasks_among [] all = none_mine mine
  tasks_among (t ∷ ts) all =
      let rest : List Id16 = flat_map (λ (x : Task). names_of_job x.job) ts in
      both_mine mine (job_ids (seen_job waiting t.job)) (flat_map (λ (x : m.Task). job_ids x.job) (map (seen_task waiting) ts))
      (job_among t.job (in_front mine (names_of_job t.job) rest all)) (tasks_among ts (in_rest mine (names_of_job t.job) rest all))

pending_among : (mine : List Id16) (o : Option PendingPub) → Includes mine (names_of_pending o) → Includes mine (pending_ids (option_map seen_pending o))
pending_among mine o all = subst (Includes mine) (sym (pending_same o)) all

-- the ids of a client's publications are among its names
pub ids_among : (past : List Item) (p : ClientPlace) → Includes (place_names p) (client_ids (seen_place past p))
ids_among past (UpPlace p entries f) =
    let names : List Id16 = place_names (UpPlace p entries f) in
    let pending : List Id16 = names_of_pending p.kept.pending in
    let running : List Id16 = flat_map (λ (t : Task). names_of_job t.job) p.tasks in
    let own : Includes names (mine_of p) = in_front names (mine_of p) (flight_names f.flight) (includes_all names) in
    let rest : Includes names (pending ++ running) = behind_one names p.id (pending ++ running) own in
    both_mine names (pending_ids (option_map seen_pending p.kept.pending)) (flat_map (λ (t : m.Task). job_ids t.job) (map (seen_task p.kept.pending) p.tasks))
    (pending_among names p.kept.pending (in_front names pending running rest)) (tasks_among names p.kept.pending p.tasks (in_rest names pending running rest))
ids_among past (DownPlace id k f) =
    let names : List Id16 = place_names (DownPlace id k f) in
    let pending : List Id16 = names_of_pending k.pending in
    let rest : Includes names (pending ++ flight_names f.flight) = behind_one names id (pending ++ flight_names f.flight) (includes_all names) in
    both_mine names (pending_ids (option_map seen_pending k.pending)) [] (pending_among names k.pending (in_front names pending (flight_names f.flight) rest)) (none_mine names)

none_has : (past : List Item) (i : Id16) (is : List Id16) (places : List ClientPlace) → AwayFrom (i ∷ is) places → has_id i (flat_map client_ids (map (seen_place past) places)) ≡ false
none_has past i is [] away = refl
none_has past i is (p ∷ ps) away =
    list_any-append (λ x. id_eq x i) (client_ids (seen_place past p)) (flat_map client_ids (map (seen_place past) ps))
    ∙ neither_or (has_id i (client_ids (seen_place past p))) (has_id i (flat_map client_ids (map (seen_place past) ps)))
    (not_among (place_names p) (client_ids (seen_place past p)) i (ids_among past p) (first_apart i is (place_names p) away.0)) (none_has past i is ps away.1)

rest_away : (i : Id16) (is : List Id16) (places : List ClientPlace) → AwayFrom (i ∷ is) places → AwayFrom is places
rest_away i is [] away = tt
rest_away i is (p ∷ ps) away = (rest_apart i is (place_names p) away.0, rest_away i is ps away.1)

pub drawn_are_apart : DrawnAreApart
drawn_are_apart moment past places [] away = tt
drawn_are_apart moment past places (i ∷ is) away = (none_has past i is places away, drawn_are_apart moment past places is (rest_away i is places away))

-- ---- the event

pub act_is_next : ActIsNext
act_is_next moment before after places n old new drawn what said choice at away draws acted acts =
    let a : m.State = world_seen moment (history_of before) places in
    let b : m.State = world_seen moment (history_of after) (with_place n new places) in
    let here : client_at a n ≡ Some (seen_place (history_of before) old) =
    place_is_client moment (history_of before) places n ∙ ap (option_map (seen_place (history_of before))) at in
    let ids : List Id16 = drawn_by_act what said.reply choice.name in
    let next : NextOf a n (Some (seen_place (history_of before) old)) what said choice b =
    (drawn_are_apart moment (history_of before) places ids (fewer_away drawn ids places draws away), (place_side moment (history_of after) new, acts, acted.state)) in
    subst (λ (o : Option m.Client). NextOf a n o what said choice b) (sym here) next
