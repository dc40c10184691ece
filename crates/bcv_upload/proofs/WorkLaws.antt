-- What a step of work says, from what the manifest's get, the get of old bytes or the put of a block says.
use Rattle.std.proofs.Common.{◌≡◌, ◌∙◌, ◌⊎◌, inl, inr, ℕ, Bool, true, false, ◌&&◌, List, [], ◌++◌, length, append-nil, Option, Some, None, is_none, unwrap_or, refl, sym, ap, subst, arith}
use Rattle.std.specs.Cmp.{first_so}
use Rattle.std.proofs.lemmas.Option.{slice_get-get_or}
use Rattle.bcv_base.specs.declared.id.Id16.{Id16}
use Rattle.bcv_base.specs.declared.log.Entry.{Entry}
use Rattle.bcv_base.specs.declared.object.ObjName.TheVariants as object
use Rattle.bcv_base.specs.declared.outcome.Outcome.{Outcome}
use Rattle.bcv_base.specs.declared.seen.Latest.{Latest}
use Rattle.bcv_base.specs.declared.seen.Seen.{Seen}
use Rattle.bcv_base.specs.declared.seen.TxnBase.{TxnBase}
use Rattle.bcv_base.specs.Drawn.{NamesShown, AddsNames}
use Rattle.bcv_base.specs.History.{Item, history_of, first_put}
use Rattle.bcv_base.specs.Ids.{has_id}
use Rattle.bcv_base.specs.Image.{Writes}
use Rattle.bcv_base.specs.Log.{Object, object_of}
use Rattle.bcv_cache.specs.Cache.{slot_of}
use Rattle.bcv_cache.specs.Entry.{Blocks}
use Rattle.bcv_dbmap.specs.declared.plan.EditPlan.{EditPlan}
use Rattle.bcv_dbmap.specs.BlockLaws.{IsObjectOf}
use Rattle.bcv_dbmap.specs.Checked.{zero_id}
use Rattle.bcv_dbmap.specs.Honest.{GrewHonestly}
use Rattle.bcv_dbmap.specs.Past.{was_deleted}
use Rattle.bcv_dbmap.specs.Sound.{Sound}
use Rattle.bcv_dbmap.proofs.BlockLaws.{block_is_first_put}
use Rattle.bcv_dbmap.proofs.Gone.{gone_is_outlived}
use Rattle.bcv_publish.specs.declared.work.Work.{Work}
use Rattle.bcv_publish.specs.declared.work.Work.TheVariants as work
use Rattle.bcv_publish.specs.ManifestGet.{GetLeaves, ManifestGets}
use Rattle.bcv_publish.specs.Request.{TakesOutcome}
use Rattle.bcv_publish.specs.State as publish
use Rattle.bcv_publish.proofs.Growth.{growth_of, later_of}
use Rattle.bcv_store.specs.StoreShown.{StoreTold, StoreShown}
use Rattle.bcv_upload.specs.Inside.{BlockGets}
use Rattle.bcv_upload.specs.BlockText.{has_base}
use Rattle.bcv_upload.specs.State.{State, IsBase, IsTask, asked_plan, base_id, next_block, old_id}
use Rattle.bcv_upload.specs.UploadWork.{BlockLeaves, DrawsFor, FetchEnds, FetchLeaves, FetchTold, IsOutlivedBase, OwnsBlocks, SoundFetchEnds, SoundWorkEnds, TaskWorks, WasListed, WorkLeaves, WorkNamesCause, WorkSound, WorkTakes, WorkTold, cache_after, cache_asked, is_fetch, next_text, with_publish}
use Rattle.bcv_upload.proofs.NextTexts.{base_block}
use Rattle.bcv_upload.proofs.Owned.{base_put, blocks_stay_others, has_at}

-- ---- which step it is

pub made_leaves : (s : State) (l : Latest) (fetch : Bool) (seen : Seen) (result : Work) (t : State) → s.publish.latest ≡ Some l → fetch ≡ false → BlockLeaves s result t → WorkLeaves s.publish.latest fetch seen s result t
made_leaves s l fetch seen result t there is leaves =
    subst (λ (o : Option Latest). WorkLeaves o fetch seen s result t) (sym there) (subst (λ (b : Bool). WorkLeaves (Some l) b seen s result t) (sym is) leaves)

pub fetch_leaves : (s : State) (l : Latest) (fetch : Bool) (seen : Seen) (result : Work) (t : State) → s.publish.latest ≡ Some l → fetch ≡ true → FetchLeaves s result t → WorkLeaves s.publish.latest fetch seen s result t
fetch_leaves s l fetch seen result t there is leaves =
    subst (λ (o : Option Latest). WorkLeaves o fetch seen s result t) (sym there) (subst (λ (b : Bool). WorkLeaves (Some l) b seen s result t) (sym is) leaves)

pub cache_is : (s : State) (l : Latest) (view : List Writes) (c new : Blocks) → s.publish.latest ≡ Some l → new ≡ cache_asked s.base view (next_block s) s.fetched c → new ≡ cache_after s.publish.latest view s c
cache_is s l view c new there is = is ∙ sym (ap (λ (o : Option Latest). cache_after o view s c) there)

adds_none : (x : Option (List Id16)) → AddsNames x x []
adds_none None = tt
adds_none (Some l) = sym (append-nil l)

-- nothing of one's own came
none_more : (P : List Entry → Type 0) (after log own : List Entry) → after ≡ log ++ own → own ≡ [] → P log → P after
none_more P after log own grown none p = subst P (sym (grown ∙ ap (λ (l : List Entry). log ++ l) none ∙ append-nil log)) p

-- ---- the manifest's get

-- which causes a get has among those of a step
record Causes (store : StoreTold) (old new : StoreShown) (count : ℕ) (result : Work) : Type 0 where
  takes : TakesOutcome store old new → WorkTakes store old new result
  names : WorkNamesCause count count result

get_causes : (store : StoreTold) (old new : StoreShown) (count : ℕ) (seen : Seen) (plan : EditPlan) (p : publish.State) (result : Work) (q : publish.State) → GetLeaves seen plan p result q → Causes store old new count result
get_causes store old new count seen plan p work.More q leaves = record { takes = λ t. t; names = refl }
get_causes store old new count seen plan p (work.Fault f) q leaves = record { takes = λ t. t; names = refl }
get_causes store old new count seen plan p work.NoContainer q leaves = record { takes = λ t. t; names = refl }
get_causes store old new count seen plan p (work.BadManifest at) q leaves = record { takes = λ t. t; names = refl }
get_causes store old new count seen plan p work.StoreFault q leaves = record { takes = λ t. t; names = refl }
get_causes store old new count seen plan p work.NoMemory q leaves = record { takes = λ t. inl t; names = refl }
get_causes store old new count seen plan p work.Nothing q leaves = absurd leaves
get_causes store old new count seen plan p work.Gone q leaves = absurd leaves
get_causes store old new count seen plan p (work.BadBlock len) q leaves = absurd leaves
get_causes store old new count seen plan p work.NameTaken q leaves = absurd leaves
get_causes store old new count seen plan p work.NamesFault q leaves = absurd leaves
get_causes store old new count seen plan p work.ClockFault q leaves = absurd leaves

-- what was put, whatever the publication has read
owns_publish : (mine : List Id16) (log : List Entry) (view : List Writes) (s t : State) → t ≡ with_publish s t.publish → OwnsBlocks mine log view s → OwnsBlocks mine log view t
owns_publish mine log view s t is has = subst (OwnsBlocks mine log view) (sym is) (record { listed = has.listed; blocks = has.blocks; fetched = has.fetched })

pub read_works : (store : StoreTold) (old new : StoreShown) (names : NamesShown) (seen : Seen) (view : List Writes) (c : Blocks) (s : State) (result : Work) (t : State) → s.publish.latest ≡ None
    → GetLeaves seen (asked_plan s) s.publish result t.publish → t ≡ with_publish s t.publish → ManifestGets store old new seen (asked_plan s) s.publish result t.publish
    → TaskWorks store old new names names seen view c s result t
read_works store old new names seen view c s result t none leaves rest gets =
    let causes = get_causes store old new names.faults seen (asked_plan s) s.publish result t.publish leaves in
    record {
      ids = [];
      drawn = adds_none names.drawn;
      draws = subst (λ (o : Option Latest). DrawsFor o (is_fetch view c s) s result t []) (sym none) refl;
      told = λ tells. subst (λ (o : Option Latest). WorkTold store old new [] o (is_fetch view c s) seen (next_text view c s) s result t) (sym none) (gets.told tells);
      sound = λ tells mine sound honest has cached fresh.
          let g = gets.sound tells mine sound honest in
          record {
            growth = g.growth;
            outcome = g.outcome;
            next = g.next;
            ends = subst (λ (o : Option Latest). SoundWorkEnds g.outcome old.log new.log g.growth.own [] o (is_fetch view c s) seen (next_text view c s) s result t) (sym none) (g.no_own, g.ends);
            blocks =
                none_more (λ (log : List Entry). OwnsBlocks mine log view t) new.log (old.log ++ g.growth.others) g.growth.own g.growth.grown g.no_own
                (owns_publish mine (old.log ++ g.growth.others) view s t rest (blocks_stay_others mine old.log g.growth.others view s sound g.growth.lawful has));
          };
      taken = causes.takes gets.taken;
      later = gets.later;
      failed = gets.failed;
      names_failed = causes.names;
    }

-- ---- the get of old bytes

fetch_causes : (store : StoreTold) (old new : StoreShown) (count : ℕ) (s : State) (result : Work) (t : State) → FetchLeaves s result t → Causes store old new count result
fetch_causes store old new count s work.More t leaves = record { takes = λ t. t; names = refl }
fetch_causes store old new count s work.Gone t leaves = record { takes = λ t. t; names = refl }
fetch_causes store old new count s (work.BadBlock len) t leaves = record { takes = λ t. t; names = refl }
fetch_causes store old new count s work.StoreFault t leaves = record { takes = λ t. t; names = refl }
fetch_causes store old new count s work.NoMemory t leaves = record { takes = λ t. inl t; names = refl }
fetch_causes store old new count s work.Nothing t leaves = absurd leaves
fetch_causes store old new count s (work.Fault f) t leaves = absurd leaves
fetch_causes store old new count s work.NoContainer t leaves = absurd leaves
fetch_causes store old new count s (work.BadManifest at) t leaves = absurd leaves
fetch_causes store old new count s work.NameTaken t leaves = absurd leaves
fetch_causes store old new count s work.NamesFault t leaves = absurd leaves
fetch_causes store old new count s work.ClockFault t leaves = absurd leaves

-- the base's block is there, or it was deleted
module _ (past : List Item) (base : TxnBase) (i : Id16) (sound : Sound past) (w : WasListed past base) (has : has_id i base.entry.blocks ≡ true) where
  outlived : was_deleted past i ≡ true → IsOutlivedBase past base i
  outlived deleted =
      λ later before m is among. gone_is_outlived later before m base.entry i (subst Sound is sound) among has (subst (λ (l : List Item). was_deleted l i ≡ true) is deleted)

  found_first : (x : Option Object) (there : Object) → IsObjectOf past i x → x ≡ Some there → first_put past i ≡ Some there.bytes
  found_first x there is found = (subst (IsObjectOf past i) found is).0

  not_unput : first_put past i ≡ None → ⊥
  not_unput none = let b = base_put past base i sound w has in let both : ◌≡◌ {A = Option (List ℕ)} None (Some b.0) = sym none ∙ b.1 in absurd (cc)

  was_gone : (x : Option Object) → IsObjectOf past i x → x ≡ None → was_deleted past i ≡ true
  was_gone x is none = by_case (subst (IsObjectOf past i) none is)
    where
      by_case : (first_put past i ≡ None) ⊎ (was_deleted past i ≡ true) → was_deleted past i ≡ true
      by_case (inl unput) = absurd (not_unput unput)
      by_case (inr deleted) = deleted

  whole : (bytes : List ℕ) → first_put past i ≡ Some bytes → length bytes ≡ base.block
  whole bytes is =
      let b = base_put past base i sound w has in
      let both : Some b.0 ≡ Some bytes = sym b.1 ∙ is in
      let same : b.0 ≡ bytes = cc in
      sym (ap length same) ∙ b.2

  fetch_ends : (o : Outcome) (x : Option Object) (result : Work) (kept : Option (List ℕ)) → IsObjectOf past i x → FetchEnds o x base.block result kept → SoundFetchEnds o past base i result kept
  fetch_ends o x work.More kept is ends = (ends.0.bytes, ends.1, found_first x ends.0 is ends.2, ends.4)
  fetch_ends o x work.Gone kept is ends = (ends.0, outlived (was_gone x is ends.1))
  fetch_ends o x (work.BadBlock len) kept is ends = absurd (ends.4 (sym ends.3 ∙ whole ends.0.bytes (found_first x ends.0 is ends.2)))
  fetch_ends o x work.StoreFault kept is ends = ends
  fetch_ends o x work.NoMemory kept is ends = tt
  fetch_ends o x work.Nothing kept is ends = absurd ends
  fetch_ends o x (work.Fault f) kept is ends = absurd ends
  fetch_ends o x work.NoContainer kept is ends = absurd ends
  fetch_ends o x (work.BadManifest at) kept is ends = absurd ends
  fetch_ends o x work.NameTaken kept is ends = absurd ends
  fetch_ends o x work.NamesFault kept is ends = absurd ends
  fetch_ends o x work.ClockFault kept is ends = absurd ends

-- with the old bytes
owns_fetched : (o : Outcome) (mine : List Id16) (log : List Entry) (view : List Writes) (s : State) (result : Work) (t : State) → FetchLeaves s result t
    → SoundFetchEnds o (history_of log) s.base (old_id s) result t.fetched → OwnsBlocks mine log view s → OwnsBlocks mine log view t
owns_fetched o mine log view s work.More t leaves ends has =
    let kept : Some leaves.0 ≡ Some ends.0 = sym (ap (λ (x : State). x.fetched) leaves.3) ∙ ends.3 in
    let same : ends.0 ≡ leaves.0 = cc in
    subst (OwnsBlocks mine log view) (sym leaves.3) (record { listed = has.listed; blocks = has.blocks; fetched = ends.2 ∙ ap (λ (b : List ℕ). Some b) same })
owns_fetched o mine log view s work.Gone t leaves ends has = subst (OwnsBlocks mine log view) (sym leaves) has
owns_fetched o mine log view s (work.BadBlock len) t leaves ends has = absurd ends
owns_fetched o mine log view s work.StoreFault t leaves ends has = subst (OwnsBlocks mine log view) (sym leaves) has
owns_fetched o mine log view s work.NoMemory t leaves ends has = subst (OwnsBlocks mine log view) (sym leaves) has
owns_fetched o mine log view s work.Nothing t leaves ends has = absurd leaves
owns_fetched o mine log view s (work.Fault f) t leaves ends has = absurd leaves
owns_fetched o mine log view s work.NoContainer t leaves ends has = absurd leaves
owns_fetched o mine log view s (work.BadManifest at) t leaves ends has = absurd leaves
owns_fetched o mine log view s work.NameTaken t leaves ends has = absurd leaves
owns_fetched o mine log view s work.NamesFault t leaves ends has = absurd leaves
owns_fetched o mine log view s work.ClockFault t leaves ends has = absurd leaves

-- the old id is one of the base's
pub old_listed : (s : State) (view : List Writes) → IsBase s.base → has_base s.base view (next_block s) ≡ true → has_id (old_id s) s.base.entry.blocks ≡ true
old_listed s view is has =
    let there = slice_get-get_or s.base.entry.blocks (next_block s) zero_id (base_block s.base view (next_block s) is has) in
    has_at s.base.entry.blocks (next_block s) (old_id s) (there ∙ sym (ap (λ (o : Option Id16). Some (unwrap_or o zero_id)) there))

fetch_needs : (view : List Writes) (c : Blocks) (s : State) → is_fetch view c s ≡ true → has_base s.base view (next_block s) ≡ true
fetch_needs view c s is =
    first_so (has_base s.base view (next_block s)) (is_none s.fetched) (first_so (has_base s.base view (next_block s) && is_none s.fetched) (is_none (slot_of (base_id s.base (next_block s)) c.entries)) is)

fetch_sound : (store : StoreTold) (mine : List Id16) (old new : StoreShown) (seen : Seen) (view : List Writes) (c : Blocks) (s : State) (l : Latest) (result : Work) (t : State) → IsTask s → is_fetch view c s ≡ true
    → FetchLeaves s result t → Sound (history_of old.log) → GrewHonestly store.alone mine old.log new.log → OwnsBlocks mine old.log view s
    → FetchTold store old new (old_id s) s.base.block result t.fetched → s.publish.latest ≡ Some l → WorkSound store mine old new [] (is_fetch view c s) seen view (next_text view c s) s result t
fetch_sound store mine old new seen view c s l result t task is leaves sound honest has told there =
    let grown : new.log ≡ (old.log ++ told.others) ++ [] = told.grown ∙ sym (append-nil (old.log ++ told.others)) in
    let later = later_of store.alone mine old.log told.others [] new.log told.by_others grown sound honest in
    let now : Sound (history_of new.log) = subst (λ (log : List Entry). Sound (history_of log)) (sym told.grown) later.sound in
    let owned : OwnsBlocks mine new.log view s = subst (λ (log : List Entry). OwnsBlocks mine log view s) (sym told.grown) (blocks_stay_others mine old.log told.others view s sound later.lawful has) in
    let listed = old_listed s view task.base (fetch_needs view c s is) in
    let ends = fetch_ends (history_of new.log) s.base (old_id s) now owned.listed listed told.outcome (object_of (object.Block (old_id s)) new.log) result t.fetched (block_is_first_put new.log (old_id s) now) told.ends in
    record {
      growth = growth_of store.alone mine old.log told.others [] new.log told.by_others later grown (omega arith) (λ theirs apart. tt);
      outcome = told.outcome;
      next = told.next;
      ends =
          subst (λ (o : Option Latest). SoundWorkEnds told.outcome old.log new.log [] [] o (is_fetch view c s) seen (next_text view c s) s result t) (sym there)
          (subst (λ (b : Bool). SoundWorkEnds told.outcome old.log new.log [] [] (Some l) b seen (next_text view c s) s result t) (sym is) (refl, ends));
      blocks = owns_fetched told.outcome mine new.log view s result t leaves ends owned;
    }

pub fetch_works : (store : StoreTold) (old new : StoreShown) (names : NamesShown) (seen : Seen) (view : List Writes) (c : Blocks) (s : State) (l : Latest) (result : Work) (t : State) → IsTask s → s.publish.latest ≡ Some l
    → is_fetch view c s ≡ true → FetchLeaves s result t → BlockGets store old new (old_id s) s.base.block result t.fetched → TaskWorks store old new names names seen view c s result t
fetch_works store old new names seen view c s l result t task there is leaves gets =
    let causes = fetch_causes store old new names.faults s result t leaves in
    record {
      ids = [];
      drawn = adds_none names.drawn;
      draws = subst (λ (o : Option Latest). DrawsFor o (is_fetch view c s) s result t []) (sym there) (subst (λ (b : Bool). DrawsFor (Some l) b s result t []) (sym is) refl);
      told = λ tells. subst (λ (o : Option Latest). WorkTold store old new [] o (is_fetch view c s) seen (next_text view c s) s result t) (sym there)
          (subst (λ (b : Bool). WorkTold store old new [] (Some l) b seen (next_text view c s) s result t) (sym is) (gets.told tells));
      sound = λ tells mine sound honest has cached fresh. fetch_sound store mine old new seen view c s l result t task is leaves sound honest has (gets.told tells) there;
      taken = causes.takes gets.taken;
      later = gets.later;
      failed = gets.failed;
      names_failed = causes.names;
    }
