-- What the deletion of a block says, from what the store says of it.
use Rattle.std.proofs.Common.{◌≡◌, ◌∙◌, ◌⊎◌, inl, inr, ℕ, zero, suc, ◌+◌, ◌≤◌, Bool, true, false, ◌||◌, List, [], ◌∷◌, ◌++◌, take, length, append-nil, Option, Some, slice_get, refl, sym, ap, subst, arith}
use Rattle.std.proofs.lemmas.List.{take_more}
use Rattle.std.proofs.lemmas.Option.{get_or_from_slice_get, slice_get_within}
use Rattle.bcv_base.specs.declared.id.Id16.{Id16}
use Rattle.bcv_base.specs.declared.log.Entry.{Entry}
use Rattle.bcv_base.specs.declared.log.Entry.TheVariants as entry
use Rattle.bcv_base.specs.declared.object.ObjName.TheVariants as object
use Rattle.bcv_base.specs.declared.outcome.Outcome.{Outcome}
use Rattle.bcv_base.specs.declared.outcome.Outcome.TheVariants as outcome
use Rattle.bcv_base.specs.declared.seen.Latest.{Latest}
use Rattle.bcv_base.specs.declared.seen.Seen.{Seen}
use Rattle.bcv_base.specs.History.{Item, history_of}
use Rattle.bcv_base.specs.HistoryLaws.{has_id-first, has_id-later, history_of-more}
use Rattle.bcv_base.specs.Ids.{id_eq, has_id}
use Rattle.bcv_base.specs.Moments.{ClockShown}
use Rattle.bcv_dbmap.specs.Deletions.{IsDeletable}
use Rattle.bcv_dbmap.specs.Growth.{AreLawful}
use Rattle.bcv_dbmap.specs.Honest.{GrewHonestly}
use Rattle.bcv_dbmap.specs.Past.{was_deleted}
use Rattle.bcv_dbmap.specs.Sound.{Sound}
use Rattle.bcv_publish.specs.declared.work.Work.{Work}
use Rattle.bcv_publish.specs.declared.work.Work.TheVariants as work
use Rattle.bcv_publish.specs.Request.{TakesOutcome}
use Rattle.bcv_publish.proofs.Growth.{later_of, growth_of}
use Rattle.bcv_store.specs.declared.store.Del.{Del}
use Rattle.bcv_store.specs.declared.store.Del.TheVariants as del
use Rattle.bcv_store.specs.Asked.{DeleteAnswers, DeleteFails, DeleteTold}
use Rattle.bcv_store.specs.Requests.{StoreDeletes}
use Rattle.bcv_store.specs.StoreShown.{StoreTold, StoreShown}
use Rattle.bcv_cleanup.specs.CleanupWork.{AsksClock, DeleteEnds, DeleteLeaves, DeletesBlock, DeletesNext, HasTaken, IsDeletion, IsExpired, IsNextBlock, SoundDeleteEnds, SoundWorkEnds, TaskWorks, WorkClockCause, WorkSound, WorkTakes, WorkTold, delete_work}
use Rattle.bcv_cleanup.specs.State.{State, taken_ids}
use Rattle.bcv_cleanup.proofs.Taken.{expired_is_deletable, taken_stays}

-- ---- what was taken, behind a deletion

-- an id of a longer list is one of the shorter one, or the last
of_longer : (i j : Id16) (ids : List Id16) → has_id i (ids ++ j ∷ []) ≡ true → (has_id i ids ≡ true) ⊎ (id_eq j i ≡ true)
of_longer i j [] h = by_one (id_eq j i) h
  where
    by_one : (b : Bool) → (b || false) ≡ true → (false ≡ true) ⊎ (b ≡ true)
    by_one true h = inr refl
    by_one false h = inl h
of_longer i j (k ∷ ks) h = by_first (id_eq k i) (has_id i ks) (of_longer i j ks) h
  where
    by_first : (b rest : Bool) → (has_id i (ks ++ j ∷ []) ≡ true → (rest ≡ true) ⊎ (id_eq j i ≡ true)) → (b || has_id i (ks ++ j ∷ [])) ≡ true → ((b || rest) ≡ true) ⊎ (id_eq j i ≡ true)
    by_first true rest later h = inl refl
    by_first false rest later h = later h

-- an id that stands in a list is one of it
among : (i : Id16) (ids : List Id16) (n : ℕ) → slice_get ids n ≡ Some i → has_id i ids ≡ true
among i [] n h = absurd cc
among i (j ∷ js) zero h = let same : j ≡ i = cc in subst (λ (k : Id16). has_id i (k ∷ js) ≡ true) (sym same) (has_id-first i js)
among i (j ∷ js) (suc n) h = has_id-later i j js (among i js n h)

-- one more was deleted
deleted_one : (log : List Entry) (s : State) (i : Id16) (at : ℕ) → slice_get (taken_ids s) s.deleted ≡ Some i → HasTaken log s → HasTaken (log ++ entry.Deleted true (object.Block i) at ∷ []) (record s { deleted = s.deleted + 1 })
deleted_one log s i at next has =
    let more = taken_stays log (entry.Deleted true (object.Block i) at ∷ []) s has in
    record { expired = more.expired; deleted = λ j h. by_place j (of_longer j i (take s.deleted (taken_ids s)) (subst (λ (l : List Id16). has_id j l ≡ true) longer h)) (more.deleted j) }
  where
    longer : take (s.deleted + 1) (taken_ids s) ≡ take s.deleted (taken_ids s) ++ i ∷ []
    longer =
        take_more (taken_ids s) s.deleted i (slice_get_within (taken_ids s) s.deleted i next)
        ∙ ap (λ (k : Id16). take s.deleted (taken_ids s) ++ k ∷ []) (get_or_from_slice_get (taken_ids s) s.deleted i i next)

    by_place : (j : Id16) → (has_id j (take s.deleted (taken_ids s)) ≡ true) ⊎ (id_eq i j ≡ true)
        → (has_id j (take s.deleted (taken_ids s)) ≡ true → was_deleted (history_of (log ++ entry.Deleted true (object.Block i) at ∷ [])) j ≡ true)
        → was_deleted (history_of (log ++ entry.Deleted true (object.Block i) at ∷ [])) j ≡ true
    by_place j (inl before) all = all before
    by_place j (inr same) all =
        ap (λ (past : List Item). was_deleted past j) (history_of-more log (entry.Deleted true (object.Block i) at)) ∙ ap (λ (b : Bool). b || was_deleted (history_of log) j) same

-- ---- the own entries

-- none, or the deletion of the block
record Own (o : Outcome) (log after : List Entry) (i : Id16) (at : ℕ) (answer : Del) : Type 0 where
  own : List Entry
  one : length own ≤ 1
  grown : after ≡ log ++ own
  is : (own ≡ []) ⊎ IsDeletion own i at
  ends : SoundDeleteEnds o own i at (delete_work answer)
  -- at Done the block was deleted
  done : answer ≡ del.Done → IsDeletion own i at

none_own : (o : Outcome) (log after : List Entry) (i : Id16) (at : ℕ) (answer : Del) → after ≡ log → SoundDeleteEnds o [] i at (delete_work answer) → (answer ≡ del.Done → IsDeletion [] i at) → Own o log after i at answer
none_own o log after i at answer same ends done = record { own = []; one = omega arith; grown = same ∙ sym (append-nil log); is = inl refl; ends = ends; done = done }

one_own : (o : Outcome) (log after : List Entry) (i : Id16) (at : ℕ) (answer : Del) → after ≡ log ++ entry.Deleted true (object.Block i) at ∷ [] → SoundDeleteEnds o (entry.Deleted true (object.Block i) at ∷ []) i at (delete_work answer)
    → Own o log after i at answer
one_own o log after i at answer more ends = record { own = entry.Deleted true (object.Block i) at ∷ []; one = omega arith; grown = more; is = inr refl; ends = ends; done = λ _. refl }

fails_own : (o : Outcome) (log after : List Entry) (i : Id16) (at : ℕ) → DeleteFails o log after (object.Block i) at → Own o log after i at del.Failed
fails_own outcome.Ok log after i at f = absurd f
fails_own outcome.Fail log after i at f = none_own outcome.Fail log after i at del.Failed f refl (λ is. absurd cc)
fails_own outcome.Lost log after i at f = one_own outcome.Lost log after i at del.Failed f refl

own_of : (o : Outcome) (log after : List Entry) (i : Id16) (at : ℕ) (answer : Del) → DeleteAnswers o log after (object.Block i) at answer → Own o log after i at answer
own_of o log after i at del.Done a = one_own o log after i at del.Done a.1 (a.0, refl)
own_of o log after i at del.Failed a = fails_own o log after i at a
own_of o log after i at del.NoMemory a = none_own o log after i at del.NoMemory a refl (λ is. absurd cc)

lawful_own : (theirs : List Id16) (past : List Item) (own : List Entry) (i : Id16) (at : ℕ) → IsDeletable past i at → (own ≡ []) ⊎ IsDeletion own i at → AreLawful theirs past own
lawful_own theirs past own i at may (inl none) = subst (AreLawful theirs past) (sym none) tt
lawful_own theirs past own i at may (inr one) = subst (AreLawful theirs past) (sym one) (may, tt)

-- ---- by the answer

delete_ends : (o : Outcome) (log after : List Entry) (i : Id16) (at : ℕ) (answer : Del) → DeleteAnswers o log after (object.Block i) at answer → DeleteEnds o log after i at (delete_work answer)
delete_ends o log after i at del.Done a = a
delete_ends o log after i at del.Failed a = a
delete_ends o log after i at del.NoMemory a = a

delete_takes : (store : StoreTold) (old new : StoreShown) (answer : Del) → TakesOutcome store old new → WorkTakes store old new (delete_work answer)
delete_takes store old new del.Done taken = taken
delete_takes store old new del.Failed taken = taken
delete_takes store old new del.NoMemory taken = inl taken

delete_fault : (answer : Del) → delete_work answer ≡ work.StoreFault → answer ≡ del.Failed
delete_fault del.Done is = absurd cc
delete_fault del.Failed is = refl
delete_fault del.NoMemory is = absurd cc

clock_still : (count : ℕ) (answer : Del) → WorkClockCause count count (delete_work answer)
clock_still count del.Done = refl
clock_still count del.Failed = refl
clock_still count del.NoMemory = refl

-- which cleanup there is then
record After (s t : State) (answer : Del) : Type 0 where
  moment : t.moment ≡ s.moment
  is : ((answer ≡ del.Done) × (t ≡ record s { deleted = s.deleted + 1 })) ⊎ (t ≡ s)

after_of : (s t : State) (answer : Del) → DeleteLeaves s (delete_work answer) t → After s t answer
after_of s t del.Done leaves = record { moment = ap (λ (x : State). x.moment) leaves; is = inl (refl, leaves) }
after_of s t del.Failed leaves = record { moment = ap (λ (x : State). x.moment) leaves; is = inr leaves }
after_of s t del.NoMemory leaves = record { moment = ap (λ (x : State). x.moment) leaves; is = inr leaves }

-- ---- the whole

module _ (store : StoreTold) (old new : StoreShown) (s : State) (t : State) (id : Id16) (at : ℕ) (next : IsNextBlock s id at) (answer : Del) (deletes : StoreDeletes store old new (object.Block id) at answer)
    (leaves : DeleteLeaves s (delete_work answer) t) where
  told_of : DeleteTold store old new (object.Block id) at answer → DeletesBlock store old new s (delete_work answer)
  told_of d = record {
    others = d.others;
    by_others = d.by_others;
    outcome = d.outcome;
    next = d.planned;
    id = id;
    at = at;
    is_next = next;
    ends = delete_ends d.outcome (old.log ++ d.others) new.log id at answer d.answers;
  }

  -- what was taken, behind the deletion
  has_after : (log own : List Entry) → HasTaken log s → (answer ≡ del.Done → IsDeletion own id at) → ((answer ≡ del.Done) × (t ≡ record s { deleted = s.deleted + 1 })) ⊎ (t ≡ s) → HasTaken (log ++ own) t
  has_after log own has done (inl more) =
      subst (λ (x : State). HasTaken (log ++ own) x) (sym more.1)
      (subst (λ (l : List Entry). HasTaken (log ++ l) (record s { deleted = s.deleted + 1 })) (sym (done more.0)) (deleted_one log s id at next.id has))
  has_after log own has done (inr same) = subst (λ (x : State). HasTaken (log ++ own) x) (sym same) (taken_stays log own s has)

  sound_of : (mine : List Id16) (seen : Seen) (l : Latest) → Sound (history_of old.log) → GrewHonestly store.alone mine old.log new.log → HasTaken old.log s → s.publish.latest ≡ Some l
      → DeleteTold store old new (object.Block id) at answer → WorkSound store mine old new seen s (delete_work answer) t
  sound_of mine seen l sound honest has kept d =
      let log : List Entry = old.log ++ d.others in
      let own = own_of d.outcome log new.log id at answer d.answers in
      let later = later_of store.alone mine old.log d.others own.own new.log d.by_others own.grown sound honest in
      let still = taken_stays old.log d.others s has in
      let expired : IsExpired (history_of log) id (Some at) = subst (IsExpired (history_of log) id) next.moment (still.expired id (among id (taken_ids s) s.deleted next.id)) in
      let may : IsDeletable (history_of log) id at = expired_is_deletable (history_of log) id at later.sound expired in
      record {
        growth = growth_of store.alone mine old.log d.others own.own new.log d.by_others later own.grown own.one (λ theirs apart. lawful_own theirs (history_of log) own.own id at may own.is);
        outcome = d.outcome;
        next = d.planned;
        ends = subst (λ (o : Option Latest). SoundWorkEnds d.outcome new.log own.own o seen s (delete_work answer) t) (sym kept) (id, at, next, own.ends);
        taken = subst (λ (l : List Entry). HasTaken l t) (sym own.grown) (has_after log own.own still own.done (after_of s t answer leaves).is);
      }

  pub answer_works : (clock : ClockShown) (seen : Seen) (l : Latest) → s.publish.latest ≡ Some l → TaskWorks store old new clock clock seen s (delete_work answer) t
  answer_works clock seen l kept = record {
    asked = subst (λ (o : Option ℕ). AsksClock o clock clock (delete_work answer) t.moment) (sym next.moment) (refl, (after_of s t answer leaves).moment ∙ next.moment);
    told = λ tells. subst (λ (o : Option Latest). WorkTold store old new o seen s (delete_work answer) t) (sym kept) (told_of (deletes.told tells));
    sound = λ tells mine sound honest has. sound_of mine seen l sound honest has kept (deletes.told tells);
    taken = delete_takes store old new answer deletes.taken;
    later = deletes.later;
    failed = λ is. deletes.failed (delete_fault answer is);
    clock_failed = clock_still clock.faults answer;
  }

pub deletion_works : (store : StoreTold) (old new : StoreShown) (clock : ClockShown) (seen : Seen) (s : State) (result : Work) (t : State) (l : Latest) → s.publish.latest ≡ Some l → DeletesNext store old new s result t
    → TaskWorks store old new clock clock seen s result t
deletion_works store old new clock seen s result t l kept d =
    subst (λ (w : Work). TaskWorks store old new clock clock seen s w t) (sym d.is)
    (answer_works store old new s t d.id d.at d.is_next d.answer d.deletes (subst (λ (w : Work). DeleteLeaves s w t) d.is d.leaves) clock seen l kept)
