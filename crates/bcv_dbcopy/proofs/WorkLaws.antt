-- What a step of work says, from what the put of a block or the manifest's get says.
use Rattle.std.proofs.Common.{◌≡◌, ◌∙◌, ℕ, ◌≤◌, Bool, true, false, List, [], ◌∷◌, ◌++◌, length, append-nil, ◌⊎◌, inl, inr, Option, Some, None, is_none, refl, sym, ap, subst, arith}
use Rattle.bcv_base.specs.declared.id.Id16.{Id16}
use Rattle.bcv_base.specs.declared.log.Entry.{Entry}
use Rattle.bcv_base.specs.declared.log.Entry.TheVariants as entry
use Rattle.bcv_base.specs.declared.manifest.DbEntry.{DbEntry}
use Rattle.bcv_base.specs.declared.object.ObjName.TheVariants as object
use Rattle.bcv_base.specs.declared.outcome.Outcome.{Outcome}
use Rattle.bcv_base.specs.declared.outcome.Outcome.TheVariants as outcome
use Rattle.bcv_base.specs.declared.seen.Latest.{Latest}
use Rattle.bcv_base.specs.declared.seen.Seen.{Seen}
use Rattle.bcv_base.specs.Drawn.{NamesShown, AddsNames}
use Rattle.bcv_base.specs.Faults.{Rose}
use Rattle.bcv_base.specs.History.{Item, BlockPut, history_of, first_put}
use Rattle.bcv_base.specs.HistoryLaws.{has_id-first, history_of-more}
use Rattle.bcv_base.specs.Ids.{has_id}
use Rattle.bcv_dbmap.specs.declared.plan.EditPlan.{EditPlan}
use Rattle.bcv_dbmap.specs.declared.plan.EditPlan.TheVariants as edit
use Rattle.bcv_base.specs.Image.{Page}
use Rattle.bcv_dbmap.specs.Past.{was_listed}
use Rattle.bcv_dbmap.specs.RequestGrowth.{RequestGrowth}
use Rattle.bcv_dbmap.specs.Sound.{Sound}
use Rattle.bcv_dbmap.proofs.BlockLaws.{unput_is_fresh}
use Rattle.bcv_dbmap.proofs.OthersLaws.{others_keep_sound, others_leave_mine}
use Rattle.bcv_publish.specs.declared.work.BlockEnd.{BlockEnd}
use Rattle.bcv_publish.specs.declared.work.BlockEnd.TheVariants as end
use Rattle.bcv_publish.specs.declared.work.Work.{Work}
use Rattle.bcv_publish.specs.declared.work.Work.TheVariants as work
use Rattle.bcv_publish.specs.BlockPut.{AreFresh, BlockAsked, BlockFails, BlockNamesCause, BlockPutEnds, BlockPutLeaves, BlockPutSound, BlockPutTold, BlockPuts, BlockTakes, IsBlockAppended, SoundBlockEnds, block_work}
use Rattle.bcv_publish.specs.ManifestGet.{GetLeaves, ManifestGets}
use Rattle.bcv_publish.specs.Request.{TakesOutcome}
use Rattle.bcv_publish.specs.State as publish
use Rattle.bcv_store.specs.StoreShown.{StoreTold, StoreShown}
use Rattle.bcv_dbcopy.specs.State.{State, IsTask, block_text, put_ids}
use Rattle.bcv_dbcopy.specs.TaskWork.{AreOwnBlocks, BlockEnds, BlockStep, DrawsFor, HasBlocks, OwnsBlocks, PutsBlock, SoundBlockWork, SoundWorkEnds, TaskWorks, WorkLeaves, WorkNamesCause, WorkSound, WorkTakes, WorkTold, block_known, with_publish}
use Rattle.bcv_dbcopy.proofs.BlockTexts.{Sized}
use Rattle.bcv_dbcopy.proofs.Owned.{blocks_later, blocks_more, blocks_stay}
use Rattle.bcv_dbcopy.proofs.Parts.{with_parts, parts_same}
use Rattle.bcv_dbcopy.proofs.Tasks.{fresh_of}

-- ---- where a log has grown

-- by nothing of one's own
none_more : (P : List Entry → Type 0) (after log own : List Entry) → after ≡ log ++ own → own ≡ [] → P log → P after
none_more P after log own grown none p = subst P (sym (grown ∙ ap (λ (l : List Entry). log ++ l) none ∙ append-nil log)) p

-- by one own block
one_more : (P : List Item → Type 0) (after log own : List Entry) (i : Id16) (bytes : List ℕ) (etag : ℕ) → after ≡ log ++ own → own ≡ entry.Put true (object.Block i) bytes etag ∷ [] → P (BlockPut i bytes ∷ history_of log) → P (history_of after)
one_more P after log own i bytes etag grown put p =
    subst P (sym (ap history_of (grown ∙ ap (λ (l : List Entry). log ++ l) put) ∙ history_of-more log (entry.Put true (object.Block i) bytes etag))) p

by_fails : (o : Outcome) (first : Option (List ℕ)) (own : List Entry) (i : Id16) (bytes : List ℕ) (P : Type 0) → BlockFails o first own i bytes → (own ≡ [] → P) → (IsBlockAppended own i bytes → P) → P
by_fails outcome.Ok first own i bytes P f none put = absurd f
by_fails outcome.Fail first own i bytes P f none put = none f
by_fails outcome.Lost None own i bytes P f none put = put f
by_fails outcome.Lost (Some b) own i bytes P f none put = none f

-- ---- a block

module _ (s : State) (e : DbEntry) (l : Latest) (block : ℕ) where
  -- the task before, the bytes that are put, and the task with these ids
  abbrev task : State
  task = with_parts s (edit.New e) (Some l) (Some block)

  abbrev text : List ℕ
  text = block_text block e.page_size s.pages (length e.blocks)

  abbrev with_ids : List Id16 → State
  with_ids ids = record task { edit = edit.New (record e { blocks = ids }) }

  same_first : (i j : Id16) (ids : List Id16) → ids ≡ i ∷ [] → ids ≡ j ∷ [] → i ≡ j
  same_first i j ids a b = let both : i ∷ [] ≡ j ∷ [] = sym a ∙ b in cc

  block_names : (ids : List Id16) (r : BlockEnd) (now : List Id16) → BlockPutLeaves ids e.blocks r now → DrawsFor (Some l) task (block_work r) (with_ids now) ids
  block_names ids end.Stored now leaves = (leaves.0, leaves.1, ap with_ids leaves.2)
  block_names ids end.NameTaken now leaves = leaves.0
  block_names ids end.StoreFault now leaves = leaves.0
  block_names ids end.NamesFault now leaves = leaves.0
  block_names ids end.NoMemory now leaves = leaves.0

  block_ends : (o : Outcome) (log after : List Entry) (i : Id16) (ids : List Id16) (r : BlockEnd) (now : List Id16) → ids ≡ i ∷ [] → BlockPutLeaves ids e.blocks r now
      → BlockPutEnds o log after i text r → BlockEnds o log after i text task (block_work r) (with_ids now)
  block_ends o log after i ids end.Stored now drawn leaves ends =
      let same : leaves.0 ≡ i = same_first leaves.0 i ids leaves.1 drawn in
      (ends.0, ends.1, ends.2, ends.3, ap with_ids (leaves.2 ∙ ap (λ (j : Id16). e.blocks ++ j ∷ []) same))
  block_ends o log after i ids end.NameTaken now drawn leaves ends = ends
  block_ends o log after i ids end.StoreFault now drawn leaves ends = ends
  block_ends o log after i ids end.NamesFault now drawn leaves ends = absurd ends
  block_ends o log after i ids end.NoMemory now drawn leaves ends = ends

  puts_block : (store : StoreTold) (old new : StoreShown) (ids : List Id16) (r : BlockEnd) (now : List Id16) → BlockPutLeaves ids e.blocks r now → BlockAsked store old new ids text r
      → PutsBlock store old new ids block task (block_work r) (with_ids now)
  puts_block store old new ids r now leaves told = record {
    others = told.others;
    by_others = told.by_others;
    outcome = told.outcome;
    next = told.next;
    id = told.id;
    drawn = told.is_drawn;
    ends = block_ends told.outcome (old.log ++ told.others) new.log told.id ids r now told.is_drawn leaves told.ends;
  }

  block_told : (store : StoreTold) (old new : StoreShown) (ids : List Id16) (r : BlockEnd) (now : List Id16) → BlockPutLeaves ids e.blocks r now → BlockPutTold store old new ids text r
      → BlockStep store old new ids block task (block_work r) (with_ids now)
  block_told store old new ids end.Stored now leaves told = puts_block store old new ids end.Stored now leaves told
  block_told store old new ids end.NameTaken now leaves told = puts_block store old new ids end.NameTaken now leaves told
  block_told store old new ids end.StoreFault now leaves told = puts_block store old new ids end.StoreFault now leaves told
  block_told store old new ids end.NamesFault now leaves told = told
  block_told store old new ids end.NoMemory now leaves told = told

  -- ---- over a sound log

  block_work_ends : (o : Outcome) (past : List Item) (own : List Entry) (ids : List Id16) (bytes : List ℕ) (r : BlockEnd) → SoundBlockEnds o past own ids bytes r → SoundBlockWork o past own ids bytes (block_work r)
  block_work_ends o past own ids bytes end.Stored ends = ends
  block_work_ends o past own ids bytes end.NameTaken ends = ends
  block_work_ends o past own ids bytes end.StoreFault ends = ends
  block_work_ends o past own ids bytes end.NamesFault ends = ends
  block_work_ends o past own ids bytes end.NoMemory ends = ends

  -- the blocks of the task with no id more
  same_blocks : (mine : List Id16) (log : List Entry) (now : List Id16) → now ≡ e.blocks → OwnsBlocks mine log task → OwnsBlocks mine log (with_ids now)
  same_blocks mine log now same has = subst (λ (x : List Id16). OwnsBlocks mine log (with_ids x)) (sym same) has

  -- the log with what others appended
  record Before (mine : List Id16) (before others : List Entry) (ids : List Id16) : Type 0 where
    has : OwnsBlocks mine (before ++ others) task
    sound : Sound (history_of (before ++ others))
    bytes : (i : Id16) → has_id i mine ≡ true → first_put (history_of (before ++ others)) i ≡ first_put (history_of before) i
    fresh : (i : Id16) → ids ≡ i ∷ [] → (has_id i mine ≡ true) × (was_listed (history_of (before ++ others)) i ≡ false)

  before_of : (alone : Type 0) (mine : List Id16) (before after : List Entry) (ids : List Id16) (g : RequestGrowth alone mine before after) → Sound (history_of before) → OwnsBlocks mine before task → AreFresh mine before ids
      → Before mine before g.others ids
  before_of alone mine before after ids g sound has fresh =
      let u = others_leave_mine mine before g.others sound g.lawful in
      record {
        has = blocks_later mine before g.others s.pages (edit.New e) (Some block) sound g.lawful has;
        sound = others_keep_sound mine before g.others sound g.lawful;
        bytes = u.bytes;
        fresh = λ i drawn. let f = fresh i (ap (λ (x : List Id16). has_id i x) drawn ∙ has_id-first i []) in (f.0, u.unlisted i f.0 f.1);
      }

  -- an own block with one id more, or with none where its answer was lost
  put_more : (mine : List Id16) (before others after own : List Entry) (ids : List Id16) (i : Id16) (etag : ℕ) (now : List Id16) → Sized e.page_size s.pages → Before mine before others ids → after ≡ (before ++ others) ++ own
      → ids ≡ i ∷ [] → first_put (history_of before) i ≡ None → own ≡ entry.Put true (object.Block i) text etag ∷ [] → now ≡ e.blocks ++ i ∷ [] → OwnsBlocks mine after (with_ids now)
  put_more mine before others after own ids i etag now sized b grown drawn unput put more =
      let log : List Entry = before ++ others in
      let f = b.fresh i drawn in
      let none : first_put (history_of log) i ≡ None = b.bytes i f.0 ∙ unput in
      one_more (λ (past : List Item). HasBlocks mine past s.pages (edit.New (record e { blocks = now })) (Some block)) after log own i text etag grown put
      (subst (λ (x : List Id16). AreOwnBlocks mine (BlockPut i text ∷ history_of log) block e.page_size s.pages 0 x) (sym more)
      (blocks_more mine (history_of log) block e.page_size s.pages e.blocks i sized f.0 none f.1 (unput_is_fresh mine (history_of log) i b.sound f.0 none).not_dead b.has))

  put_lost : (mine : List Id16) (before others after own : List Entry) (ids : List Id16) (i : Id16) (etag : ℕ) (now : List Id16) → Before mine before others ids → after ≡ (before ++ others) ++ own
      → own ≡ entry.Put true (object.Block i) text etag ∷ [] → now ≡ e.blocks → OwnsBlocks mine after (with_ids now)
  put_lost mine before others after own ids i etag now b grown put same =
      one_more (λ (past : List Item). HasBlocks mine past s.pages (edit.New (record e { blocks = now })) (Some block)) after (before ++ others) own i text etag grown put
      (blocks_stay mine (history_of (before ++ others)) s.pages (edit.New (record e { blocks = now })) (Some block) i text (same_blocks mine (before ++ others) now same b.has))

  put_none : (mine : List Id16) (before others after own : List Entry) (ids : List Id16) (now : List Id16) → Before mine before others ids → after ≡ (before ++ others) ++ own → own ≡ [] → now ≡ e.blocks → OwnsBlocks mine after (with_ids now)
  put_none mine before others after own ids now b grown none same =
      none_more (λ (log : List Entry). OwnsBlocks mine log (with_ids now)) after (before ++ others) own grown none (same_blocks mine (before ++ others) now same b.has)

  block_blocks : (o : Outcome) (mine : List Id16) (before others after own : List Entry) (ids : List Id16) (r : BlockEnd) (now : List Id16) → Sized e.page_size s.pages → Before mine before others ids → after ≡ (before ++ others) ++ own
      → BlockPutLeaves ids e.blocks r now → SoundBlockEnds o (history_of before) own ids text r → OwnsBlocks mine after (with_ids now)
  block_blocks o mine before others after own ids end.Stored now sized b grown leaves ends =
      let same : leaves.0 ≡ ends.0 = same_first leaves.0 ends.0 ids leaves.1 ends.1 in
      put_more mine before others after own ids ends.0 ends.4.0 now sized b grown ends.1 ends.3 ends.4.1 (leaves.2 ∙ ap (λ (j : Id16). e.blocks ++ j ∷ []) same)
  block_blocks o mine before others after own ids end.NameTaken now sized b grown leaves ends = put_none mine before others after own ids now b grown ends.4 leaves.1
  block_blocks o mine before others after own ids end.StoreFault now sized b grown leaves ends =
      by_fails o (first_put (history_of before) ends.0) own ends.0 text (OwnsBlocks mine after (with_ids now)) ends.2 (λ none. put_none mine before others after own ids now b grown none leaves.1)
      (λ put. put_lost mine before others after own ids ends.0 put.0 now b grown put.1 leaves.1)
  block_blocks o mine before others after own ids end.NamesFault now sized b grown leaves ends = put_none mine before others after own ids now b grown ends.1 leaves.1
  block_blocks o mine before others after own ids end.NoMemory now sized b grown leaves ends = put_none mine before others after own ids now b grown ends leaves.1

  block_sound : (store : StoreTold) (mine : List Id16) (old new : StoreShown) (ids : List Id16) (seen : Seen) (r : BlockEnd) (now : List Id16) → Sized e.page_size s.pages → l.manifest.block ≡ block → BlockPutLeaves ids e.blocks r now
      → Sound (history_of old.log) → OwnsBlocks mine old.log task → AreFresh mine old.log ids → BlockPutSound store mine old new ids text r → WorkSound store mine old new ids seen task (block_work r) (with_ids now)
  block_sound store mine old new ids seen r now sized same leaves sound has fresh put = record {
    growth = put.growth;
    outcome = put.outcome;
    next = put.next;
    ends =
        subst (λ (b : ℕ). SoundBlockWork put.outcome (history_of old.log) put.growth.own ids (block_text b e.page_size s.pages (length e.blocks)) (block_work r)) (sym same)
        (block_work_ends put.outcome (history_of old.log) put.growth.own ids text r put.ends);
    blocks =
        block_blocks put.outcome mine old.log put.growth.others new.log put.growth.own ids r now sized (before_of store.alone mine old.log new.log ids put.growth sound has fresh) put.growth.grown leaves put.ends;
  }

  -- ---- the whole

  block_takes : (store : StoreTold) (old new : StoreShown) (r : BlockEnd) → BlockTakes store old new r → WorkTakes store old new (block_work r)
  block_takes store old new end.Stored takes = takes
  block_takes store old new end.NameTaken takes = takes
  block_takes store old new end.StoreFault takes = takes
  block_takes store old new end.NamesFault takes = takes
  block_takes store old new end.NoMemory takes = takes

  block_cause : (before now : ℕ) (r : BlockEnd) → BlockNamesCause before now r → WorkNamesCause before now (block_work r)
  block_cause before now end.Stored cause = cause
  block_cause before now end.NameTaken cause = cause
  block_cause before now end.StoreFault cause = cause
  block_cause before now end.NamesFault cause = cause
  block_cause before now end.NoMemory cause = cause

  block_fault : (r : BlockEnd) → block_work r ≡ work.StoreFault → r ≡ end.StoreFault
  block_fault end.Stored is = absurd (cc)
  block_fault end.NameTaken is = absurd (cc)
  block_fault end.StoreFault is = refl
  block_fault end.NamesFault is = absurd (cc)
  block_fault end.NoMemory is = absurd (cc)

  works_at : (store : StoreTold) (old new : StoreShown) (names later_names : NamesShown) (seen : Seen) (r : BlockEnd) (now : List Id16) → Sized e.page_size s.pages → l.manifest.block ≡ block
      → BlockPuts store old new names later_names text e.blocks r now → TaskWorks store old new names later_names seen task (block_work r) (with_ids now)
  works_at store old new names later_names seen r now sized same puts = record {
    ids = puts.drawn;
    drawn = puts.adds;
    draws = block_names puts.drawn r now puts.leaves;
    told = λ tells. subst (λ (b : ℕ). BlockStep store old new puts.drawn b task (block_work r) (with_ids now)) (sym same) (block_told store old new puts.drawn r now puts.leaves (puts.told tells));
    sound = λ tells mine sound honest has fresh. block_sound store mine old new puts.drawn seen r now sized same puts.leaves sound has fresh (puts.sound tells mine sound honest fresh);
    taken = block_takes store old new r puts.taken;
    later = puts.later;
    failed = λ is. puts.failed (block_fault r is);
    names_failed = block_cause names.faults later_names.faults r puts.names_failed;
  }

-- the step of a task that puts a block
pub block_works : (store : StoreTold) (old new : StoreShown) (names later_names : NamesShown) (seen : Seen) (s : State) (e : DbEntry) (l : Latest) (block : ℕ) (r : BlockEnd) (made : DbEntry)
    → s.edit ≡ edit.New e → s.publish.latest ≡ Some l → s.block ≡ Some block → l.manifest.block ≡ block → Sized e.page_size s.pages → made ≡ record e { blocks = made.blocks }
    → BlockPuts store old new names later_names (block_text block e.page_size s.pages (length e.blocks)) e.blocks r made.blocks
    → TaskWorks store old new names later_names seen s (block_work r) (record s { edit = edit.New made })
block_works store old new names later_names seen s e l block r made edit_is latest_is block_is same sized made_is puts =
    subst (λ (d : DbEntry). TaskWorks store old new names later_names seen s (block_work r) (record s { edit = edit.New d })) (sym made_is)
    (subst (λ (x : State). TaskWorks store old new names later_names seen x (block_work r) (record x { edit = edit.New (record e { blocks = made.blocks }) }))
    (parts_same s (edit.New e) (Some l) (Some block) edit_is latest_is block_is)
    (works_at s e l block store old new names later_names seen r made.blocks sized same puts))

-- ---- the manifest's get

-- no block was put before the first get, whatever block size it tells
no_blocks : (mine : List Id16) (past : List Item) (pages : List Page) (e : EditPlan) (block : Option ℕ) → put_ids e ≡ [] → HasBlocks mine past pages e block
no_blocks mine past pages (edit.New e) None none = tt
no_blocks mine past pages (edit.New e) (Some block) none = subst (λ (ids : List Id16). AreOwnBlocks mine past block e.page_size pages 0 ids) (sym none) tt
no_blocks mine past pages (edit.Upload from e) block none = tt
no_blocks mine past pages (edit.Copy from to) block none = tt
no_blocks mine past pages (edit.Remove name) block none = tt
no_blocks mine past pages (edit.Sweep ids) block none = tt

blocks_known : (mine : List Id16) (past : List Item) (pages : List Page) (e : EditPlan) (block : Option ℕ) (o : Option Latest) → (block ≡ None → put_ids e ≡ []) → HasBlocks mine past pages e block
    → HasBlocks mine past pages e (block_known block o)
blocks_known mine past pages e None o none has = no_blocks mine past pages e (block_known None o) (none refl)
blocks_known mine past pages e (Some block) o none has = has

-- which causes a get has among those of a step
record Causes (store : StoreTold) (old new : StoreShown) (count : ℕ) (result : Work) : Type 0 where
  takes : TakesOutcome store old new → WorkTakes store old new result
  names : WorkNamesCause count count result

causes_of : (store : StoreTold) (old new : StoreShown) (count : ℕ) (seen : Seen) (plan : EditPlan) (p : publish.State) (result : Work) (q : publish.State) → GetLeaves seen plan p result q → Causes store old new count result
causes_of store old new count seen plan p work.More q leaves = record { takes = λ t. t; names = refl }
causes_of store old new count seen plan p (work.Fault f) q leaves = record { takes = λ t. t; names = refl }
causes_of store old new count seen plan p work.NoContainer q leaves = record { takes = λ t. t; names = refl }
causes_of store old new count seen plan p (work.BadManifest at) q leaves = record { takes = λ t. t; names = refl }
causes_of store old new count seen plan p work.StoreFault q leaves = record { takes = λ t. t; names = refl }
causes_of store old new count seen plan p work.NoMemory q leaves = record { takes = λ t. inl t; names = refl }
causes_of store old new count seen plan p work.Nothing q leaves = absurd leaves
causes_of store old new count seen plan p work.Gone q leaves = absurd leaves
causes_of store old new count seen plan p (work.BadBlock len) q leaves = absurd leaves
causes_of store old new count seen plan p work.NameTaken q leaves = absurd leaves
causes_of store old new count seen plan p work.NamesFault q leaves = absurd leaves
causes_of store old new count seen plan p work.ClockFault q leaves = absurd leaves

adds_none : (x : Option (List Id16)) → AddsNames x x []
adds_none None = tt
adds_none (Some l) = sym (append-nil l)

-- the step of a task that reads the manifest
pub read_works : (store : StoreTold) (old new : StoreShown) (names : NamesShown) (seen : Seen) (s : State) (result : Work) (t : State) → IsTask s → s.published ≡ false → s.publish.latest ≡ None
    → WorkLeaves s.publish.latest seen s result t → ManifestGets store old new seen s.edit s.publish result t.publish → TaskWorks store old new names names seen s result t
read_works store old new names seen s result t task running none leaves gets =
    let left = subst (λ (o : Option Latest). WorkLeaves o seen s result t) none leaves in
    let causes = causes_of store old new names.faults seen s.edit s.publish result left.0 left.1 in
    record {
      ids = [];
      drawn = adds_none names.drawn;
      draws = subst (λ (o : Option Latest). DrawsFor o s result t []) (sym none) refl;
      told = λ tells. subst (λ (o : Option Latest). WorkTold store old new [] o seen s result t) (sym none) (gets.told tells);
      sound = λ tells mine sound honest has fresh.
          let g = gets.sound tells mine sound honest in
          let later = blocks_later mine old.log g.growth.others s.pages s.edit s.block sound g.growth.lawful has in
          record {
            growth = g.growth;
            outcome = g.outcome;
            next = g.next;
            ends = subst (λ (o : Option Latest). SoundWorkEnds g.outcome old.log new.log g.growth.own [] o seen s result t) (sym none) (g.no_own, g.ends);
            blocks =
                subst (λ (x : State). OwnsBlocks mine new.log x) (sym left.2)
                (blocks_known mine (history_of new.log) s.pages s.edit s.block left.0.latest (λ unknown. (fresh_of s task running unknown).ids)
                (none_more (λ (log : List Entry). HasBlocks mine (history_of log) s.pages s.edit s.block) new.log (old.log ++ g.growth.others) g.growth.own g.growth.grown g.no_own later));
          };
      taken = causes.takes gets.taken;
      later = gets.later;
      failed = gets.failed;
      names_failed = causes.names;
    }
