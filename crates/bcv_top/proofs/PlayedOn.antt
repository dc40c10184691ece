-- One more event is played in a world: the machine's run goes on, its drawn ids differ, and the tally counts its reply.
use Rattle.std.proofs.Common.{◌≡◌, ◌≢◌, ◌⊎◌, inl, inr, ℕ, ◌+◌, ◌^◌, ◌<◌, ◌≤◌, Bool, true, false, ◌&&◌, if◌then◌else◌, List, [], ◌∷◌, ◌++◌, length, map, None, refl, sym, ap, ◌∙◌, subst, append_assoc, append-nil, arith}
use Rattle.std.specs.Prelude.{is_some}
use Rattle.std.specs.List.{fold}
use Rattle.std.proofs.lemmas.List.Folds.{list_any-append}
use Rattle.std.proofs.lemmas.List.Sums.{fold-append}
use Rattle.bcv_base.specs.declared.id.Id16.{Id16}
use Rattle.bcv_base.specs.History.{history_of}
use Rattle.bcv_base.specs.HistoryLaws.{has_id-first}
use Rattle.bcv_base.specs.Ids.{has_id, id_eq}
use Rattle.bcv_base.specs.Numbered.{numbered_names}
use Rattle.bcv_base.specs.Version.{Version}
use Rattle.bcv_base.specs.Versions.{HasVersions, versions_of}
use Rattle.bcv_clientlaws.specs.OtherParts.{Includes}
use Rattle.bcv_dbmap.specs.Honest.{AreApart}
use Rattle.bcv_dbmap.proofs.Bools.{neither_or, not_passed, not_both, or_cases, or_left, or_neither, or_right}
use Rattle.bcv_world.specs.declared.tally.Tally.{Tally}
use Rattle.bcv_world.specs.declared.world.World.{World}
use Rattle.bcv_world.specs.Standing.{EventTaken, IsFirst, Stands, names_of, state_at}
use Rattle.bcv_world.specs.Tallies.{IsGoingOn, IsOther, IsPage, IsTally, ReplyKind, kind_of_reply, tallied, with_reply}
use Rattle.bcv_world.specs.WorldForm.{IsWorld}
use Rattle.bcv_machine.specs.Run.{Accepts, AllDiffer, Run, Transcript, drawn, empty_transcript, then_said}
use Rattle.bcv_machine.specs.State.{State, first_state}
use Rattle.bcv_machine.specs.Step.{Choice, Next, drawn_by, drawn_by_act, is_task, publishes}
use Rattle.bcv_memstore.specs.Told.{log_of}
use Rattle.bcv_model.specs.declared.ask.Ask.{Ask}
use Rattle.bcv_model.specs.declared.event.Act.{Act}
use Rattle.bcv_model.specs.declared.event.Act.TheVariants as act
use Rattle.bcv_model.specs.declared.event.Event.{Event}
use Rattle.bcv_model.specs.declared.event.Event.TheVariants as event
use Rattle.bcv_model.specs.declared.reply.Reply.{Reply}
use Rattle.bcv_model.specs.declared.reply.Reply.TheVariants as reply
use Rattle.bcv_model.specs.declared.reply.Said.{Said}
use Rattle.bcv_model.specs.declared.spec.WorldSpec.{WorldSpec}
use Rattle.bcv_worldlaws.specs.Places.{ClientPlace}
use Rattle.bcv_worldlaws.proofs.WorldOn.{numbers_are_new}
use Rattle.bcv_top.specs.Course.{Course, WorldTakes}
use Rattle.bcv_top.specs.Led.{PlaysOn, is_no_memory}
use Rattle.bcv_top.specs.Replay.{Plays, StandsFor, tally_of}

-- ---- runs

run_more : (a : State) (es : List Event) (ss : List Said) (cs : List Choice) (b : State) (e : Event) (s : Said) (c : Choice) (d : State) → Run a es ss cs b → Next b e s c d
    → Run a (es ++ e ∷ []) (ss ++ s ∷ []) (cs ++ c ∷ []) d
run_more a [] [] [] b e s c d r n = (d, subst (λ (x : State). Next x e s c d) r n, refl)
run_more a [] [] (x ∷ xs) b e s c d r n = absurd r
run_more a [] (y ∷ ys) cs b e s c d r n = absurd r
run_more a (z ∷ zs) [] cs b e s c d r n = absurd r
run_more a (z ∷ zs) (y ∷ ys) [] b e s c d r n = absurd r
run_more a (z ∷ zs) (y ∷ ys) (x ∷ xs) b e s c d r n = (r.0, r.1, run_more r.0 zs ys xs b e s c d r.2 n)

drawn_more : (a : State) (es : List Event) (ss : List Said) (cs : List Choice) (b : State) (e : Event) (s : Said) (c : Choice) → Run a es ss cs b
    → drawn (es ++ e ∷ []) (ss ++ s ∷ []) (cs ++ c ∷ []) ≡ drawn es ss cs ++ drawn_by e s c
drawn_more a [] [] [] b e s c r = append-nil (drawn_by e s c)
drawn_more a [] [] (x ∷ xs) b e s c r = absurd r
drawn_more a [] (y ∷ ys) cs b e s c r = absurd r
drawn_more a (z ∷ zs) [] cs b e s c r = absurd r
drawn_more a (z ∷ zs) (y ∷ ys) [] b e s c r = absurd r
drawn_more a (z ∷ zs) (y ∷ ys) (x ∷ xs) b e s c r =
    ap (λ (l : List Id16). drawn_by z y x ++ l) (drawn_more r.0 zs ys xs b e s c r.2) ∙ sym (append_assoc (drawn_by z y x) (drawn zs ys xs) (drawn_by e s c))

-- ---- the worlds

course_more : (w : World) (es : List Event) (ss : List Said) (last : World) (e : Event) (s : Said) (new : World) → Course w es ss last → WorldTakes last new e s
    → Course w (es ++ e ∷ []) (ss ++ s ∷ []) new
course_more w [] [] last e s new c t = (new, subst (λ (x : World). WorldTakes x new e s) c t, refl)
course_more w [] (y ∷ ys) last e s new c t = absurd c
course_more w (z ∷ zs) [] last e s new c t = absurd c
course_more w (z ∷ zs) (y ∷ ys) last e s new c t = (c.0, c.1, course_more c.0 zs ys last e s new c.2 t)

-- ---- drawn ids

in_both : (a b : List Id16) (i : Id16) → has_id i (a ++ b) ≡ true → (has_id i a ≡ true) ⊎ (has_id i b ≡ true)
in_both a b i h = or_cases (has_id i a) (has_id i b) (sym (list_any-append (λ x. id_eq x i) a b) ∙ h)

in_left : (a b : List Id16) (i : Id16) → has_id i a ≡ true → has_id i (a ++ b) ≡ true
in_left a b i h = list_any-append (λ x. id_eq x i) a b ∙ or_left (has_id i a) (has_id i b) h

in_right : (a b : List Id16) (i : Id16) → has_id i b ≡ true → has_id i (a ++ b) ≡ true
in_right a b i h = list_any-append (λ x. id_eq x i) a b ∙ or_right (has_id i a) (has_id i b) h

in_neither : (a b : List Id16) (i : Id16) → has_id i a ≡ false → has_id i b ≡ false → has_id i (a ++ b) ≡ false
in_neither a b i h g = list_any-append (λ x. id_eq x i) a b ∙ neither_or (has_id i a) (has_id i b) h g

differ_both : (a b : List Id16) → AllDiffer a → AllDiffer b → AreApart a b → AllDiffer (a ++ b)
differ_both [] b da db apart = db
differ_both (i ∷ a) b da db apart =
    (in_neither a b i da.0 (apart i (has_id-first i a)), differ_both a b da.1 db (λ j h. apart j (or_right (id_eq i j) (has_id j a) h)))

-- one event draws one id at most
differ_alone : (e : Event) (s : Said) (c : Choice) → AllDiffer (drawn_by e s c)
differ_alone (event.Tick n) s c = tt
differ_alone (event.Of n (act.Ask q o)) s c =
    elim (publishes q && is_task s.reply) as (λ (b : Bool). AllDiffer (if b then c.name ∷ [] else [])) [
      | true ↦ (refl, tt)
      | false ↦ tt
    ]
differ_alone (event.Of n act.Up) s c = tt
differ_alone (event.Of n (act.Crash image)) s c = tt
differ_alone (event.Of n (act.Fuse calls image)) s c = tt
differ_alone (event.Of n (act.FailAt calls)) s c = tt

-- ids that were drawn before, and some of the new names
apart_drawn : (names ids old new : List Id16) → Includes names old → Includes ids new → AreApart names ids → AreApart old new
apart_drawn names ids old new within some apart i h =
    not_passed (has_id i new) (λ g. not_both (has_id i ids) (some i g) (apart i (within i h)))

-- ---- the tally

tallied_events : (t : Tally) (s : Said) → (tallied t s).events ≡ t.events + 1
tallied_events t s = by (kind_of_reply s.reply) (record t { events = t.events + 1; versions = if is_some s.published then t.versions + 1 else t.versions })
  where
    by : (k : ReplyKind) (u : Tally) → (with_reply k u).events ≡ u.events
    by IsPage u = refl
    by IsGoingOn u = refl
    by IsOther u = refl

-- ---- one more event

pub no_memory : (r : Reply) → is_no_memory r ≡ false → r ≢ reply.NoMemory
no_memory r ran e = let t : is_no_memory r ≡ true = ap is_no_memory e in cc

-- what a world stands for, in the words of its log
plays_of : (w : World) (h : Transcript) (places : List ClientPlace) → Stands w places → Accepts w.spec h (state_at w places) → w.tally ≡ tally_of h.saids
    → (first : World) → IsFirst first → Course first h.events h.saids w → Plays w h (state_at w places)
plays_of w h places stands accepts tally first is_first course = record {
  accepts = accepts;
  stands = (places, stands, refl);
  versions = record { read = stands.fits.sound.reads; are = refl };
  sound = stands.fits.sound;
  deletions = stands.fits.sound.safe;
  tally = tally;
  first = first;
  is_first = is_first;
  course = course;
}

-- the world after one more event, and what it stands for
pub record OneMore (new : World) (h : Transcript) (e : Event) (s : Said) (events : ℕ) : Type 0 where
  pub choice : Choice
  pub state : State
  pub on : PlaysOn new (then_said h e s choice) state (events + 1)

module _ (old new : World) (h : Transcript) (a : State) (events : ℕ) (e : Event) (s : Said) (on : PlaysOn old h a events) (world : IsWorld new)
    (spec : new.spec ≡ old.spec) (tally : new.tally ≡ tallied old.tally s) (goes : WorldTakes old new e s) (few : events < 2 ^ 63)
    (ran : s.reply ≢ reply.NoMemory) where
  abbrev places : List ClientPlace
  places = on.plays.stands.0

  abbrev taken : EventTaken old new e s places
  taken = goes.takes places on.plays.stands.1

  abbrev choice : Choice
  choice = (taken.next ran).0

  abbrev later_state : State
  later_state = state_at new taken.later

  step : Next a e s choice later_state
  step = subst (λ (x : State). Next x e s choice later_state) on.plays.stands.2 (taken.next ran).2

  run : Run (first_state old.spec.clients old.spec.slots) (h.events ++ e ∷ []) (h.saids ++ s ∷ []) (h.choices ++ choice ∷ []) later_state
  run = run_more (first_state old.spec.clients old.spec.slots) h.events h.saids h.choices a e s choice later_state on.plays.accepts.run step

  ids : drawn (h.events ++ e ∷ []) (h.saids ++ s ∷ []) (h.choices ++ choice ∷ []) ≡ drawn h.events h.saids h.choices ++ drawn_by e s choice
  ids = drawn_more (first_state old.spec.clients old.spec.slots) h.events h.saids h.choices a e s choice on.plays.accepts.run

  counted : new.tally.events ≡ events + 1
  counted = ap (λ (t : Tally). t.events) tally ∙ tallied_events old.tally s ∙ ap (λ (n : ℕ). n + 1) on.events_are

  names_few : new.around.names.count < 2 ^ 128
  names_few = omega (arith, world.names, world.clients, counted, few)

  apart : AreApart (drawn h.events h.saids h.choices) (drawn_by e s choice)
  apart = apart_drawn (names_of old) taken.ids (drawn h.events h.saids h.choices) (drawn_by e s choice) on.named (taken.next ran).1
      (numbers_are_new old.around.names.count new.around.names.count taken.ids names_few taken.drawn)

  differ : AllDiffer (drawn (h.events ++ e ∷ []) (h.saids ++ s ∷ []) (h.choices ++ choice ∷ []))
  differ = subst AllDiffer (sym ids) (differ_both (drawn h.events h.saids h.choices) (drawn_by e s choice) on.plays.accepts.differ (differ_alone e s choice) apart)

  accepts : Accepts new.spec (then_said h e s choice) later_state
  accepts = subst (λ (x : WorldSpec). Accepts x (then_said h e s choice) later_state) (sym spec) (record { run = run; differ = differ })

  named : Includes (names_of new) (drawn (h.events ++ e ∷ []) (h.saids ++ s ∷ []) (h.choices ++ choice ∷ []))
  named i is = subst (λ (ns : List Id16). has_id i ns ≡ true) (sym taken.drawn) (by (in_both (drawn h.events h.saids h.choices) (drawn_by e s choice) i (subst (λ (ns : List Id16). has_id i ns ≡ true) ids is)))
    where
      by : (has_id i (drawn h.events h.saids h.choices) ≡ true) ⊎ (has_id i (drawn_by e s choice) ≡ true) → has_id i (names_of old ++ taken.ids) ≡ true
      by (inl before) = in_left (names_of old) taken.ids i (on.named i before)
      by (inr now) = in_right (names_of old) taken.ids i ((taken.next ran).1 i now)

  tallies : new.tally ≡ tally_of (h.saids ++ s ∷ [])
  tallies = tally ∙ ap (λ (t : Tally). tallied t s) on.plays.tally ∙ sym (fold-append tallied (record { events = 0; versions = 0; pages = 0; working = 0; other = 0 }) h.saids (s ∷ []))

  course : Course on.plays.first (h.events ++ e ∷ []) (h.saids ++ s ∷ []) new
  course = course_more on.plays.first h.events h.saids old e s new on.plays.course goes

  pub one_more : OneMore new h e s events
  one_more = record {
    choice = choice;
    state = later_state;
    on = record {
      world = world;
      plays = plays_of new (then_said h e s choice) taken.later taken.stands accepts tallies on.plays.first on.plays.is_first course;
      events_are = counted;
      named = named;
    };
  }

-- ---- the first state

abbrev tally_with : ℕ → ℕ → ℕ → ℕ → ℕ → Tally
tally_with events versions pages working other = record { events = events; versions = versions; pages = pages; working = working; other = other }

no_events : (t : Tally) → IsTally t → t.events ≡ 0 → t ≡ tally_of []
no_events t is none =
    let versions : t.versions ≡ 0 = omega (arith, is.published, none) in
    let pages : t.pages ≡ 0 = omega (arith, is.replies, none) in
    let working : t.working ≡ 0 = omega (arith, is.replies, none) in
    let other : t.other ≡ 0 = omega (arith, is.replies, none) in
    ap (λ (n : ℕ). tally_with n t.versions t.pages t.working t.other) none
    ∙ ap (λ (n : ℕ). tally_with 0 n t.pages t.working t.other) versions
    ∙ ap (λ (n : ℕ). tally_with 0 0 n t.working t.other) pages
    ∙ ap (λ (n : ℕ). tally_with 0 0 0 n t.other) working
    ∙ ap (λ (n : ℕ). tally_with 0 0 0 0 n) other

pub new_plays : (w : World) → IsWorld w → w.tally.events ≡ 0 → (first : IsFirst w) → PlaysOn w empty_transcript (state_at w first.places) 0
new_plays w world none first = record {
  world = world;
  plays = plays_of w empty_transcript first.places first.stands (record { run = first.state; differ = tt }) (no_events w.tally world.tally_is none) w first refl;
  events_are = none;
  named = λ i h. absurd (let never : false ≡ true = h in cc);
}
