-- What a step that reads the manifest says, from what the clock and the publication's get say.
use Rattle.std.proofs.Common.{◌≡◌, ◌∙◌, ◌⊎◌, inl, inr, ℕ, ◌≤◌, Bool, true, false, List, [], ◌∷◌, ◌++◌, take, length, append-nil, Option, Some, None, refl, sym, ap, subst, arith}
use Rattle.bcv_base.specs.declared.clock.Now.TheVariants as now
use Rattle.bcv_base.specs.declared.id.Id16.{Id16}
use Rattle.bcv_base.specs.declared.log.Entry.{Entry}
use Rattle.bcv_base.specs.declared.outcome.Outcome.{Outcome}
use Rattle.bcv_base.specs.declared.seen.Latest.{Latest}
use Rattle.bcv_base.specs.declared.seen.Seen.{Seen}
use Rattle.bcv_base.specs.History.{Item, history_of}
use Rattle.bcv_base.specs.Ids.{has_id}
use Rattle.bcv_base.specs.Moments.{ClockShown, Tells}
use Rattle.bcv_dbmap.specs.Kept.{IsKept}
use Rattle.bcv_dbmap.specs.Sound.{Sound}
use Rattle.bcv_dbmap.proofs.KeptLaws.{kept_published}
use Rattle.bcv_publish.specs.declared.work.Work.{Work}
use Rattle.bcv_publish.specs.declared.work.Work.TheVariants as work
use Rattle.bcv_publish.specs.ManifestGet.{GetLeaves, ManifestGets, ManifestGetSound, ManifestGetTold, SoundGetEnds}
use Rattle.bcv_publish.specs.Request.{TakesOutcome}
use Rattle.bcv_publish.specs.State as publish
use Rattle.bcv_publish.proofs.Growth.{growth_of, later_of, no_others}
use Rattle.bcv_store.specs.Plans.{next_of}
use Rattle.bcv_store.specs.StoreShown.{StoreTold, StoreShown}
use Rattle.bcv_cleanup.specs.CleanupWork.{AsksClock, GetMade, ReadTold, GetsAt, HasTaken, IsExpired, IsMoment, KeepsRead, ReadLeaves, ReadsClock, SoundReadEnds, SoundWorkEnds, TaskWorks, WorkClockCause, WorkTakes, WorkTold, get_answer, with_moment, with_taken}
use Rattle.bcv_cleanup.specs.Released.{RuleAnswers, TakesDead}
use Rattle.bcv_cleanup.specs.State.{State, IsTask, taken_ids}
use Rattle.bcv_cleanup.proofs.Taken.{found_expired, taken_stays}

-- ---- by the answer

-- what holds of every answer but that of a clock that failed
record Usual (store : StoreTold) (old new : StoreShown) (clock later : ClockShown) (seen : Seen) (s t : State) (result : Work) : Type 0 where
  asks : ((moment : ℕ) × Tells clock later (now.At moment) × (t.moment ≡ Some moment)) → AsksClock None clock later result t.moment
  told : ManifestGetTold store old new seen s.edit s.publish (get_answer result) t.publish → ReadTold store old new seen s result t
  reads : (o : Outcome) (log : List Entry) → SoundGetEnds o log seen s.edit s.publish (get_answer result) t.publish → SoundReadEnds o log seen s result t
  takes : TakesOutcome store old new → WorkTakes store old new result
  cause : (count : ℕ) → WorkClockCause count count result
  fault : result ≡ work.StoreFault → get_answer result ≡ work.StoreFault

module _ (store : StoreTold) (old new : StoreShown) (clock later : ClockShown) (seen : Seen) (s t : State) where
  usual : (result : Work) → (result ≡ work.ClockFault → ⊥) → Usual store old new clock later seen s t result
  usual work.More other = record { asks = λ x. x; told = λ x. x; reads = λ o log x. x; takes = λ x. x; cause = λ n. refl; fault = λ x. x }
  usual work.Nothing other = record { asks = λ x. x; told = λ x. x; reads = λ o log x. x; takes = λ x. x; cause = λ n. refl; fault = λ x. absurd cc }
  usual (work.Fault f) other = record { asks = λ x. x; told = λ x. x; reads = λ o log x. x; takes = λ x. x; cause = λ n. refl; fault = λ x. x }
  usual work.NoContainer other = record { asks = λ x. x; told = λ x. x; reads = λ o log x. x; takes = λ x. x; cause = λ n. refl; fault = λ x. x }
  usual (work.BadManifest at) other = record { asks = λ x. x; told = λ x. x; reads = λ o log x. x; takes = λ x. x; cause = λ n. refl; fault = λ x. x }
  usual work.Gone other = record { asks = λ x. x; told = λ x. x; reads = λ o log x. x; takes = λ x. x; cause = λ n. refl; fault = λ x. x }
  usual (work.BadBlock len) other = record { asks = λ x. x; told = λ x. x; reads = λ o log x. x; takes = λ x. x; cause = λ n. refl; fault = λ x. x }
  usual work.NameTaken other = record { asks = λ x. x; told = λ x. x; reads = λ o log x. x; takes = λ x. x; cause = λ n. refl; fault = λ x. x }
  usual work.StoreFault other = record { asks = λ x. x; told = λ x. x; reads = λ o log x. x; takes = λ x. x; cause = λ n. refl; fault = λ x. x }
  usual work.NamesFault other = record { asks = λ x. x; told = λ x. x; reads = λ o log x. x; takes = λ x. x; cause = λ n. refl; fault = λ x. x }
  usual work.NoMemory other = record { asks = λ x. x; told = λ d. (d.others, d.by_others, d.grown); reads = λ o log x. x; takes = λ x. inl x; cause = λ n. refl; fault = λ x. x }
  usual work.ClockFault other = absurd (other refl)

-- which cleanup a get leaves: one with what it took of a manifest, or as before but for the moment
record WasRead (answers : RuleAnswers) (moment : ℕ) (s : State) (p : publish.State) (result : Work) (t : State) : Type 0 where
  timed : t.moment ≡ Some moment
  published : t.publish ≡ p
  is : (t ≡ with_moment s p moment) ⊎ ((ids : List Id16) × (more : Bool) × (get_answer result ≡ work.More) × KeepsRead answers moment s p ids more t)

module _ (answers : RuleAnswers) (moment : ℕ) (s : State) (p : publish.State) (t : State) where
  as_before : (result : Work) → t ≡ with_moment s p moment → WasRead answers moment s p result t
  as_before result is = record { timed = ap (λ (x : State). x.moment) is; published = ap (λ (x : State). x.publish) is; is = inl is }

  with_ids : (result : Work) (ids : List Id16) (more : Bool) → get_answer result ≡ work.More → KeepsRead answers moment s p ids more t → WasRead answers moment s p result t
  with_ids result ids more asked k = record { timed = ap (λ (x : State). x.moment) k.becomes; published = ap (λ (x : State). x.publish) k.becomes; is = inr (ids, more, asked, k) }

  was_read : (result : Work) → ReadLeaves answers moment s p result t → WasRead answers moment s p result t
  was_read work.More keeps = with_ids work.More keeps.0 keeps.1 refl keeps.3
  was_read work.Nothing keeps = with_ids work.Nothing [] false refl keeps.1
  was_read (work.Fault f) keeps = as_before (work.Fault f) keeps
  was_read work.NoContainer keeps = as_before work.NoContainer keeps
  was_read (work.BadManifest at) keeps = as_before (work.BadManifest at) keeps
  was_read work.Gone keeps = as_before work.Gone keeps
  was_read (work.BadBlock len) keeps = as_before (work.BadBlock len) keeps
  was_read work.NameTaken keeps = as_before work.NameTaken keeps
  was_read work.StoreFault keeps = as_before work.StoreFault keeps
  was_read work.NamesFault keeps = as_before work.NamesFault keeps
  was_read work.NoMemory keeps = as_before work.NoMemory keeps
  was_read work.ClockFault keeps = as_before work.ClockFault keeps

-- ---- what was taken

-- the moment is read once, so what was expired is expired
expired_at : (past : List Item) (i : Id16) (known : Option ℕ) (moment : ℕ) → IsMoment known moment → IsExpired past i known → IsExpired past i (Some moment)
expired_at past i None moment is h = absurd h
expired_at past i (Some earlier) moment is h = subst (λ (at : ℕ). IsExpired past i (Some at)) (sym is) h

none_among : (i : Id16) (n : ℕ) (ids : List Id16) → n ≤ 0 → has_id i (take n ids) ≡ true → ⊥
none_among i n ids few h = let zero_of : n ≡ 0 = omega arith in let none : has_id i (take 0 ids) ≡ true = sym (ap (λ (k : ℕ). has_id i (take k ids)) zero_of) ∙ h in cc

module _ (answers : RuleAnswers) (moment : ℕ) (s : State) (p : publish.State) (t : State) (log : List Entry) (task : IsTask s) (known : IsMoment s.moment moment) (has : HasTaken log s) where
  has_before : t ≡ with_moment s p moment → HasTaken log t
  has_before is =
      subst (HasTaken log) (sym is) (record { expired = λ i h. expired_at (history_of log) i s.moment moment known (has.expired i h); deleted = has.deleted })

  has_read : (ids : List Id16) (more : Bool) (k : KeepsRead answers moment s p ids more t) → Sound (history_of log) → IsKept log k.read → HasTaken log t
  has_read ids more k sound kept = subst (HasTaken log) (sym k.becomes) (by_taken (taken_ids s) refl k.finds.takes)
    where
      by_taken : (before : List Id16) → taken_ids s ≡ before → TakesDead answers moment k.read.manifest before ids → HasTaken log (with_taken s p moment ids more)
      by_taken [] first takes =
          let few : length (taken_ids s) ≡ 0 = ap (λ (l : List Id16). length l) first in
          record {
            expired = λ i h. found_expired (history_of log) k.read.manifest i moment sound (kept_published log k.read kept) (takes.expired i h);
            deleted = λ i h. absurd (none_among i s.deleted ids (omega (arith, task.few_deleted, few)) h);
          }
      by_taken (j ∷ js) before takes =
          let same : taken_ids s ≡ ids = before ∙ sym takes in
          record {
            expired = λ i h. expired_at (history_of log) i s.moment moment known (has.expired i (ap (has_id i) same ∙ h));
            deleted = λ i h. has.deleted i (ap (λ (l : List Id16). has_id i (take s.deleted l)) same ∙ h);
          }

-- the manifest that was kept is the one that the log has
kept_of : (o : Outcome) (log : List Entry) (seen : Seen) (s : State) (p : publish.State) (read : Latest) → SoundGetEnds o log seen s.edit s.publish work.More p → p.latest ≡ Some read → IsKept log read
kept_of o log seen s p read ends there =
    let both : Some ends.0 ≡ Some read = sym (ap (λ (q : publish.State). q.latest) ends.5.1) ∙ there in
    let same : ends.0 ≡ read = cc in
    subst (IsKept log) same ends.3

-- ---- the clock

-- what it was asked for
record Asked (known : Option ℕ) (clock later : ClockShown) (moment : ℕ) (after : Option ℕ) : Type 0 where
  is : after ≡ Some moment
  once : IsMoment known moment
  still : later.faults ≡ clock.faults

asked_of : (known : Option ℕ) (clock later : ClockShown) (moment : ℕ) (after : Option ℕ) → ReadsClock known clock later (Some moment) after → Asked known clock later moment after
asked_of None clock later moment after r = record { is = r.1; once = tt; still = r.0.cause }
asked_of (Some earlier) clock later moment after r =
    let both : Some earlier ≡ Some moment = sym r.2 in
    let same : moment ≡ earlier = cc in
    record { is = r.1 ∙ sym r.2; once = same; still = ap (λ (c : ClockShown). c.faults) r.0 }

pub known_moment : (known : Option ℕ) (clock later : ClockShown) (moment : ℕ) (after : Option ℕ) → ReadsClock known clock later (Some moment) after → after ≡ Some moment
known_moment known clock later moment after r = (asked_of known clock later moment after r).is

asks_of : (store : StoreTold) (old new : StoreShown) (known : Option ℕ) (clock later : ClockShown) (seen : Seen) (s t : State) (moment : ℕ) (after : Option ℕ) (result : Work) → ReadsClock known clock later (Some moment) after
    → t.moment ≡ Some moment → Usual store old new clock later seen s t result → AsksClock known clock later result t.moment
asks_of store old new None clock later seen s t moment after result r timed u = u.asks (moment, r.0, timed)
asks_of store old new (Some earlier) clock later seen s t moment after result r timed u = (r.0, timed ∙ r.2)

-- ---- the whole

module _ (answers : RuleAnswers) (store : StoreTold) (old : StoreShown) (clock later : ClockShown) (seen : Seen) (s : State) (moment : ℕ) (after : Option ℕ) (t : State) (task : IsTask s) (none : s.publish.latest ≡ None)
    (clocked : ReadsClock s.moment clock later (Some moment) after) where
  known : Asked s.moment clock later moment after
  known = asked_of s.moment clock later moment after clocked

  -- the get was made
  module _ (new : StoreShown) (result : Work) (p : publish.State) (u : Usual store old new clock later seen s t result) (r : WasRead answers moment s p result t)
      (gets : ManifestGets store old new seen s.edit s.publish (get_answer result) p) where
    has_new : (mine : List Id16) → Sound (history_of new.log) → HasTaken new.log s → ManifestGetSound store mine old new seen s.edit s.publish (get_answer result) p → HasTaken new.log t
    has_new mine sound has g = by_read r.is
      where
        by_read : (t ≡ with_moment s p moment) ⊎ ((ids : List Id16) × (more : Bool) × (get_answer result ≡ work.More) × KeepsRead answers moment s p ids more t) → HasTaken new.log t
        by_read (inl before) = has_before answers moment s p t new.log task known.once has before
        by_read (inr k) =
            let ends = subst (λ (w : Work). SoundGetEnds g.outcome new.log seen s.edit s.publish w p) k.2 g.ends in
            has_read answers moment s p t new.log task known.once has k.0 k.1 k.3 sound (kept_of g.outcome new.log seen s p k.3.read ends k.3.kept)

    made_works : TaskWorks store old new clock later seen s result t
    made_works = record {
      asked = asks_of store old new s.moment clock later seen s t moment after result clocked r.timed u;
      told = λ tells.
          subst (λ (o : Option Latest). WorkTold store old new o seen s result t) (sym none)
          (u.told (subst (λ (q : publish.State). ManifestGetTold store old new seen s.edit s.publish (get_answer result) q) (sym r.published) (gets.told tells)));
      sound = λ tells mine sound honest has.
          let g = gets.sound tells mine sound honest in
          record {
            growth = g.growth;
            outcome = g.outcome;
            next = g.next;
            ends =
                subst (λ (o : Option Latest). SoundWorkEnds g.outcome new.log g.growth.own o seen s result t) (sym none)
                (g.no_own, u.reads g.outcome new.log (subst (λ (q : publish.State). SoundGetEnds g.outcome new.log seen s.edit s.publish (get_answer result) q) (sym r.published) g.ends));
            taken =
                has_new mine g.growth.sound
                (subst (λ (l : List Entry). HasTaken l s) (sym g.growth.grown) (taken_stays (old.log ++ g.growth.others) g.growth.own s (taken_stays old.log g.growth.others s has))) g;
          };
      taken = u.takes gets.taken;
      later = gets.later;
      failed = λ is. gets.failed (u.fault is);
      clock_failed = subst (λ (n : ℕ). WorkClockCause clock.faults n result) (sym known.still) (u.cause clock.faults);
    }

  -- memory ran out before it
  none_made : (p : publish.State) → GetLeaves seen s.edit s.publish work.NoMemory p → t ≡ with_moment s p moment → TaskWorks store old old clock later seen s work.NoMemory t
  none_made p leaves is =
      let r = as_before answers moment s p t work.NoMemory is in
      record {
        asked = asks_of store old old s.moment clock later seen s t moment after work.NoMemory clocked r.timed (usual store old old clock later seen s t work.NoMemory (λ e. absurd cc));
        told = λ tells. subst (λ (o : Option Latest). WorkTold store old old o seen s work.NoMemory t) (sym none) ([], no_others store.alone, sym (append-nil old.log));
        sound = λ tells mine sound honest has.
            let whole : old.log ≡ (old.log ++ []) ++ [] = sym (append-nil old.log) ∙ sym (append-nil (old.log ++ [])) in
            let later_log = later_of store.alone mine old.log [] [] old.log (no_others store.alone) whole sound honest in
            record {
              growth = growth_of store.alone mine old.log [] [] old.log (no_others store.alone) later_log whole (omega arith) (λ theirs apart. tt);
              outcome = next_of old.plan;
              next = λ _. refl;
              ends = subst (λ (o : Option Latest). SoundWorkEnds (next_of old.plan) old.log [] o seen s work.NoMemory t) (sym none) (refl, r.published ∙ leaves);
              taken = has_before answers moment s p t old.log task known.once has is;
            };
        taken = inr refl;
        later = omega arith;
        failed = λ e. absurd cc;
        clock_failed = known.still;
      }

  pub get_works : (new : StoreShown) (result : Work) → GetsAt answers store old new moment seen (record s { moment = Some moment }) result t → TaskWorks store old new clock later seen s result t
  get_works new result g = by_made g.made
    where
      at_moment : WasRead answers moment (record s { moment = Some moment }) g.publication result t → WasRead answers moment s g.publication result t
      at_moment r = record { timed = r.timed; published = r.published; is = by_kind r.is }
        where
          by_kind : (t ≡ with_moment s g.publication moment) ⊎ ((ids : List Id16) × (more : Bool) × (get_answer result ≡ work.More) × KeepsRead answers moment (record s { moment = Some moment }) g.publication ids more t)
              → (t ≡ with_moment s g.publication moment) ⊎ ((ids : List Id16) × (more : Bool) × (get_answer result ≡ work.More) × KeepsRead answers moment s g.publication ids more t)
          by_kind (inl before) = inl before
          by_kind (inr k) = inr (k.0, k.1, k.2, record { read = k.3.read; kept = k.3.kept; finds = k.3.finds; becomes = k.3.becomes })

      by_made : GetMade store old new seen s result g.publication → TaskWorks store old new clock later seen s result t
      by_made (inl gets) =
          let other : result ≡ work.ClockFault → ⊥ = λ e. subst (λ (w : Work). GetLeaves seen s.edit s.publish (get_answer w) g.publication) e g.leaves in
          made_works new result g.publication (usual store old new clock later seen s t result other) (at_moment (was_read answers moment (record s { moment = Some moment }) g.publication t result g.keeps)) gets
      by_made (inr unmade) =
          subst (λ (w : Work). TaskWorks store old new clock later seen s w t) (sym unmade.0)
          (subst (λ (x : StoreShown). TaskWorks store old x clock later seen s work.NoMemory t) (sym unmade.1)
          (none_made g.publication (subst (λ (w : Work). GetLeaves seen s.edit s.publish (get_answer w) g.publication) unmade.0 g.leaves) (subst (λ (w : Work). ReadLeaves answers moment (record s { moment = Some moment }) g.publication w t) unmade.0 g.keeps)))

-- the clock failed
pub fault_works : (store : StoreTold) (old : StoreShown) (clock later : ClockShown) (seen : Seen) (s : State) (after : Option ℕ) → s.publish.latest ≡ None → ReadsClock s.moment clock later None after
    → TaskWorks store old old clock later seen s work.ClockFault (record s { moment = after })
fault_works store old clock later seen s after none r = by_known s.moment refl r
  where
    by_known : (o : Option ℕ) → s.moment ≡ o → ReadsClock o clock later None after → TaskWorks store old old clock later seen s work.ClockFault (record s { moment = after })
    by_known (Some earlier) is r = let both : ◌≡◌ {A = Option ℕ} None (Some earlier) = r.2 in absurd cc
    by_known None is r =
        let same : record s { moment = after } ≡ s = ap (λ (m : Option ℕ). record s { moment = m }) (r.1 ∙ sym is) in
        record {
          asked = subst (λ (o : Option ℕ). AsksClock o clock later work.ClockFault after) (sym is) r;
          told = λ tells. subst (λ (o : Option Latest). WorkTold store old old o seen s work.ClockFault (record s { moment = after })) (sym none) refl;
          sound = λ tells mine sound honest has.
              let whole : old.log ≡ (old.log ++ []) ++ [] = sym (append-nil old.log) ∙ sym (append-nil (old.log ++ [])) in
              let later_log = later_of store.alone mine old.log [] [] old.log (no_others store.alone) whole sound honest in
              record {
                growth = growth_of store.alone mine old.log [] [] old.log (no_others store.alone) later_log whole (omega arith) (λ theirs apart. tt);
                outcome = next_of old.plan;
                next = λ _. refl;
                ends = subst (λ (o : Option Latest). SoundWorkEnds (next_of old.plan) old.log [] o seen s work.ClockFault (record s { moment = after })) (sym none) (refl, same);
                taken = subst (HasTaken old.log) (sym same) has;
              };
          taken = refl;
          later = omega arith;
          failed = λ e. absurd cc;
          clock_failed = r.0.cause;
        }
