-- Talks over a store that nobody else writes.
use Rattle.std.proofs.Common.{◌≡◌, ◌∙◌, ◌⊎◌, inl, inr, true, false, ℕ, List, [], ◌∷◌, ◌++◌, append-nil, refl, sym, ap, subst}
use Rattle.bcv_base.specs.declared.id.Id16.{Id16}
use Rattle.bcv_base.specs.declared.log.Entry.{Entry}
use Rattle.bcv_base.specs.History.{Item, history_of}
use Rattle.bcv_base.specs.HistoryLaws.{id_eq-is}
use Rattle.bcv_base.specs.Ids.{has_id, id_eq}
use Rattle.bcv_base.specs.Drawn.{NamesShown}
use Rattle.bcv_base.specs.Moments.{ClockShown}
use Rattle.bcv_dbmap.proofs.Bools.{or_cases}
use Rattle.bcv_model.specs.declared.reply.Reply.{Reply}
use Rattle.bcv_client.specs.Talk.{Exchange, Exchanged, Point, Talks}
use Rattle.bcv_client.specs.TaskCalls.{AreNew}
use Rattle.bcv_clientlaws.proofs.OtherParts.{in_front, in_rest}
use Rattle.bcv_clientstate.specs.SeenClient.{Free}
use Rattle.bcv_dbmap.specs.Growth.{AreLawful, IsUntouched}
use Rattle.bcv_dbmap.specs.Honest.{AreApart}
use Rattle.bcv_dbmap.specs.RequestGrowth.{RequestGrowth}
use Rattle.bcv_dbmap.proofs.OthersLaws.{others_leave_mine}
use Rattle.bcv_disk.specs.DiskShown.{DiskShown, DiskTold}
use Rattle.bcv_machine.specs.Run.{AllDiffer}
use Rattle.bcv_publisher.specs.WorkStep.{IsEvent}
use Rattle.bcv_store.specs.StoreShown.{StoreTold}
use Rattle.bcv_talks.specs.Runs.{DrawsNew, RunState, RunsOver}
use Rattle.bcv_talks.specs.SideRuns.{AreEvents}
use Rattle.bcv_talks.specs.TalkAlone.{AloneRun, DrawsFresh, TalkEvents}
use Rattle.bcv_talks.specs.TalkRuns.{FollowsTalk, NamesAreNew, PointStands, TalkRun, point_seen}
use Rattle.bcv_talks.specs.TalkTotals.{talk_names}
use Rattle.bcv_talks.proofs.RunNames.{in_first, in_second}
use Rattle.bcv_talks.proofs.SideRuns.{alone_runs}
use Rattle.bcv_talks.proofs.TalkGrowth.{honest_alone}
use Rattle.bcv_talks.proofs.TalkRuns.{stands_on, taken, talk_run}
use Rattle.bcv_worldlaws.proofs.Names.{both_apart, not_among}

-- ---- names

-- what is apart from names is apart from fewer
apart_front : (used a b : List Id16) → AreApart used (a ++ b) → AreApart used a
apart_front used a b apart i h = not_among (a ++ b) a i (λ j g. in_first j a b g) (apart i h)

apart_rest : (used a b : List Id16) → AreApart used (a ++ b) → AreApart used b
apart_rest used a b apart i h = not_among (a ++ b) b i (λ j g. in_second j a b g) (apart i h)

new_front : (past : List Item) (a b : List Id16) → AreNew past (a ++ b) → AreNew past a
new_front past a b new = (λ i h. new.0 i (in_first i a b h), λ i h. new.1 i (in_first i a b h))

new_rest : (past : List Item) (a b : List Id16) → AreNew past (a ++ b) → AreNew past b
new_rest past a b new = (λ i h. new.0 i (in_second i a b h), λ i h. new.1 i (in_second i a b h))

-- of names that differ the first ones are apart from the others, which differ
one_apart : (j : Id16) (js b : List Id16) → has_id j (js ++ b) ≡ false → AreApart js b → (i : Id16) → (id_eq j i ≡ true) ⊎ (has_id i js ≡ true)
    → has_id i b ≡ false
one_apart j js b first others i (inl same) =
    subst (λ (x : Id16). has_id x b ≡ false) (id_eq-is j i same) (not_among (js ++ b) b j (λ k g. in_second k js b g) first)
one_apart j js b first others i (inr h) = others i h

first_apart : (a b : List Id16) → AllDiffer (a ++ b) → AreApart a b
first_apart [] b differ i h = absurd (let no_one : false ≡ true = h in cc)
first_apart (j ∷ js) b differ i h = one_apart j js b differ.0 (first_apart js b differ.1) i (or_cases (id_eq j i) (has_id i js) h)

differ_rest : (a b : List Id16) → AllDiffer (a ++ b) → AllDiffer b
differ_rest [] b differ = differ
differ_rest (j ∷ js) b differ = differ_rest js b differ.1

-- ---- events

same_event : (n n2 m m2 : NamesShown) (c c2 d d2 : ClockShown) (r : Reply) → n ≡ n2 → m ≡ m2 → c ≡ c2 → d ≡ d2 → IsEvent n2 m2 c2 d2 r
    → IsEvent n m c d r
same_event n n2 m m2 c c2 d d2 r same_n same_m same_c same_d is =
    subst (λ (v : NamesShown). IsEvent v m c d r) (sym same_n)
    (subst (λ (v : NamesShown). IsEvent n2 v c d r) (sym same_m)
    (subst (λ (v : ClockShown). IsEvent n2 m2 v d r) (sym same_c) (subst (λ (v : ClockShown). IsEvent n2 m2 c2 v r) (sym same_d) is)))

module _ {D : Type 0} {g : _} (told : DiskTold) (shown : D → DiskShown) (store : StoreTold) where
  run_events : (a b : Point D g) (es : List Exchange) (talk : Talks told shown store a es b) (mine used : List Id16) (x y : RunState)
      (run : RunsOver store mine used x es y) → FollowsTalk told shown store mine used a es b talk x y run → x.names ≡ a.names → x.clock ≡ a.clock
      → TalkEvents told shown store a es b talk → AreEvents store mine used x es y run
  run_events a b [] talk mine used x y run follows names clock events = tt
  run_events a b (e ∷ es) talk mine used x y run follows names clock events =
      let later_names : run.0.names ≡ talk.0.names = ap (λ (s : RunState). s.names) follows.1.same in
      let later_clock : run.0.clock ≡ talk.0.clock = ap (λ (s : RunState). s.clock) follows.1.same in (
        same_event x.names a.names run.0.names talk.0.names x.clock a.clock run.0.clock talk.0.clock e.reply names later_names clock later_clock events.0,
        run_events talk.0 b es talk.2 mine (used ++ run.1.ids) run.0 y run.2 follows.2 later_names later_clock events.1,
      )

  -- ---- one call

  module _ (mine used : List Id16) (a b : Point D g) (e : Exchange) (call : Exchanged told shown store a e b) (f : Free) (tells : store.tells)
      (disk_tells : told.tells) (is_alone : store.alone) (stands : PointStands shown used a f) (rest : List Id16)
      (fresh : DrawsNew mine used a.store.log (call.asks.calls.ids ++ rest)) (differ : AllDiffer (call.asks.calls.ids ++ rest)) where
    abbrev ids : List Id16
    ids = call.asks.calls.ids

    -- with the drawn name among those used
    with_drawn : PointStands shown (used ++ ids) a f
    with_drawn =
        record { over = stands.over; names = λ i h. in_first i used ids (stands.names i h); flight = λ i h. in_first i used ids (stands.flight i h) }

    drawn : DrawsNew (used ++ ids) [] a.store.log ids
    drawn = record {
      own = λ i h. in_second i used ids h;
      apart = λ i h. absurd (let no_one : false ≡ true = h in cc);
      unused = new_front (history_of a.store.log) ids rest fresh.unused;
    }

    abbrev free : Free
    free = (taken told shown store (used ++ ids) [] a b e call 0 f tells disk_tells with_drawn (inl is_alone) drawn).free

    stands_later : PointStands shown (used ++ ids) b free
    stands_later = stands_on told shown store (used ++ ids) [] a b e call 0 f tells disk_tells with_drawn (inl is_alone) drawn

    growth : RequestGrowth store.alone (used ++ ids) a.store.log b.store.log
    growth = (taken told shown store (used ++ ids) [] a b e call 0 f tells disk_tells with_drawn (inl is_alone) drawn).growth

    used_apart : AreApart (used ++ ids) rest
    used_apart = both_apart used ids rest (apart_rest used ids rest fresh.apart) (first_apart ids rest differ)

    -- nobody else appended, and what the client appended has none of the names to come
    no_others : a.store.log ++ growth.others ≡ a.store.log
    no_others = ap (λ (l : List Entry). a.store.log ++ l) (growth.none is_alone) ∙ append-nil a.store.log

    own_lawful : AreLawful rest (history_of a.store.log) growth.own
    own_lawful = subst (λ (l : List Entry). AreLawful rest (history_of l) growth.own) no_others (growth.own_lawful rest used_apart)

    grown : b.store.log ≡ a.store.log ++ growth.own
    grown = growth.grown ∙ ap (λ (l : List Entry). l ++ growth.own) no_others

    untouched : IsUntouched rest (history_of a.store.log) (history_of b.store.log)
    untouched =
        subst (λ (l : List Entry). IsUntouched rest (history_of a.store.log) (history_of l)) (sym grown)
        (others_leave_mine rest a.store.log growth.own stands.over.sound own_lawful)

    still_new : AreNew (history_of a.store.log) rest → AreNew (history_of b.store.log) rest
    still_new new =
        (λ i h. (untouched.unlisted i h (new.0 i h).0, untouched.bytes i h ∙ (new.0 i h).1), λ i h. untouched.unpublished i h (new.1 i h))

    fresh_here : DrawsNew mine used a.store.log ids
    fresh_here = record {
      own = in_front mine ids rest fresh.own;
      apart = apart_front used ids rest fresh.apart;
      unused = new_front (history_of a.store.log) ids rest fresh.unused;
    }

    fresh_later : DrawsNew mine (used ++ ids) b.store.log rest
    fresh_later = record {
      own = in_rest mine ids rest fresh.own;
      apart = used_apart;
      unused = still_new (new_rest (history_of a.store.log) ids rest fresh.unused);
    }

  -- ---- the talk

  names_new : (a b : Point D g) (es : List Exchange) (talk : Talks told shown store a es b) (mine used : List Id16) (f : Free) → store.tells → told.tells
      → store.alone → PointStands shown used a f → DrawsNew mine used a.store.log (talk_names told shown store a es b talk)
      → AllDiffer (talk_names told shown store a es b talk) → NamesAreNew told shown store mine used a es b talk
  names_new a b [] talk mine used f tells disk_tells is_alone stands fresh differ = tt
  names_new a b (e ∷ es) talk mine used f tells disk_tells is_alone stands fresh differ =
      let rest : List Id16 = talk_names told shown store talk.0 es b talk.2 in (
        fresh_here mine used a talk.0 e talk.1 f tells disk_tells is_alone stands rest fresh differ,
        names_new talk.0 b es talk.2 mine (used ++ talk.1.asks.calls.ids) (free mine used a talk.0 e talk.1 f tells disk_tells is_alone stands rest fresh differ)
            tells disk_tells is_alone (stands_later mine used a talk.0 e talk.1 f tells disk_tells is_alone stands rest fresh differ)
            (fresh_later mine used a talk.0 e talk.1 f tells disk_tells is_alone stands rest fresh differ) (differ_rest talk.1.asks.calls.ids rest differ),
      )

  pub names_new_alone : (a b : Point D g) (es : List Exchange) (talk : Talks told shown store a es b) (mine used : List Id16) (f : Free) → store.tells
      → told.tells → store.alone → PointStands shown used a f → DrawsFresh told shown store mine used a es b talk
      → NamesAreNew told shown store mine used a es b talk
  names_new_alone a b es talk mine used f tells disk_tells is_alone stands draws =
      names_new a b es talk mine used f tells disk_tells is_alone stands draws.fresh draws.differ

  pub talk_alone_is_run : (a b : Point D g) (es : List Exchange) (talk : Talks told shown store a es b) (mine used : List Id16) (moment : ℕ) (f : Free)
      → store.tells → told.tells → store.alone → PointStands shown mine a f → PointStands shown used a f → DrawsFresh told shown store mine used a es b talk
      → AloneRun told shown store mine used a es b talk moment f
  talk_alone_is_run a b es talk mine used moment f tells disk_tells is_alone stands stood draws =
      let run : TalkRun told shown store mine used a es b talk moment f =
      talk_run told shown store a b es talk mine used moment f tells disk_tells stands (honest_alone told shown store a b es talk mine is_alone)
      (names_new_alone a b es talk mine used f tells disk_tells is_alone stood draws) in
      record {
        run = run;
        sides =
            λ events.
            alone_runs store mine used (point_seen shown a moment f) (point_seen shown b run.later run.free) es run.run is_alone
            (run_events a b es talk mine used (point_seen shown a moment f) (point_seen shown b run.later run.free) run.run run.follows refl refl events);
      }
