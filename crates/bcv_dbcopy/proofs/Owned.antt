-- The blocks that a task has put stay its own: under what others append, and under one more of its own.
use Rattle.std.proofs.Common.{◌≡◌, ◌∙◌, ℕ, suc, ◌+◌, ◌-◌, ◌≤◌, ◌/◌, ◌*◌, Bool, true, false, cond, List, [], ◌∷◌, ◌++◌, length, take, drop, replicate, Option, Some, None, sym, ap, subst, arith, length-append}
use Rattle.std.proofs.lemmas.List.{length-replicate}
use Rattle.bcv_base.specs.declared.id.Id16.{Id16}
use Rattle.bcv_base.specs.declared.log.Entry.{Entry}
use Rattle.bcv_base.specs.declared.log.Entry.TheVariants as entry
use Rattle.bcv_base.specs.declared.object.ObjName.TheVariants as object
use Rattle.bcv_base.specs.History.{Item, BlockPut, history_of, first_put}
use Rattle.bcv_base.specs.HistoryLaws.{id_eq-self, first_put-stays, has_block-stays, history_of-more}
use Rattle.bcv_base.specs.Ids.{id_eq, has_id}
use Rattle.bcv_base.specs.Image.{Page, or_else}
use Rattle.bcv_dbmap.specs.declared.plan.EditPlan.{EditPlan}
use Rattle.bcv_dbmap.specs.declared.plan.EditPlan.TheVariants as edit
use Rattle.bcv_dbmap.specs.Growth.{AreLawful}
use Rattle.bcv_dbmap.specs.Past.{was_listed, was_dead}
use Rattle.bcv_dbmap.specs.Sound.{Sound}
use Rattle.bcv_dbmap.specs.OwnBlock.{IsOwnBlock}
use Rattle.bcv_dbmap.proofs.BlockLaws.{own_block_stays}
use Rattle.bcv_dbmap.proofs.OthersLaws.{others_leave_mine}
use Rattle.bcv_dbcopy.specs.State.{block_text, pages_text, padded}
use Rattle.bcv_dbcopy.specs.TaskPut.{BlocksStay, BlocksStayAfterPut}
use Rattle.bcv_dbcopy.specs.TaskWork.{AreOwnBlocks, HasBlocks, OwnsBlocks}
use Rattle.bcv_dbcopy.proofs.BlockTexts.{Sized, few_fit}

-- ---- under entries of others

owned_later : (mine : List Id16) (log others : List Entry) (block size : ℕ) (pages : List Page) (n : ℕ) (ids : List Id16) → Sound (history_of log) → AreLawful mine (history_of log) others
    → AreOwnBlocks mine (history_of log) block size pages n ids → AreOwnBlocks mine (history_of (log ++ others)) block size pages n ids
owned_later mine log others block size pages n [] s lawful own = tt
owned_later mine log others block size pages n (i ∷ is) s lawful own =
    (own_block_stays mine log others block i s lawful own.0, (others_leave_mine mine log others s lawful).bytes i own.0.is_mine ∙ own.1, owned_later mine log others block size pages (suc n) is s lawful own.2)

pub blocks_later : (mine : List Id16) (log others : List Entry) (pages : List Page) (e : EditPlan) (block : Option ℕ) → Sound (history_of log) → AreLawful mine (history_of log) others → HasBlocks mine (history_of log) pages e block
    → HasBlocks mine (history_of (log ++ others)) pages e block
blocks_later mine log others pages (edit.New e) (Some block) s lawful has = owned_later mine log others block e.page_size pages 0 e.blocks s lawful has
blocks_later mine log others pages (edit.New e) None s lawful has = tt
blocks_later mine log others pages (edit.Upload from e) block s lawful has = tt
blocks_later mine log others pages (edit.Copy from to) block s lawful has = tt
blocks_later mine log others pages (edit.Remove name) block s lawful has = tt
blocks_later mine log others pages (edit.Sweep ids) block s lawful has = tt

pub blocks_stay_others : BlocksStay
blocks_stay_others mine log others s sound lawful has = blocks_later mine log others s.pages s.edit s.block sound lawful has

-- ---- under an own block

own_stays : (mine : List Id16) (past : List Item) (block size : ℕ) (pages : List Page) (n : ℕ) (ids : List Id16) (j : Id16) (bytes : List ℕ) → AreOwnBlocks mine past block size pages n ids
    → AreOwnBlocks mine (BlockPut j bytes ∷ past) block size pages n ids
own_stays mine past block size pages n [] j bytes own = tt
own_stays mine past block size pages n (i ∷ is) j bytes own =
    let one : IsOwnBlock mine (BlockPut j bytes ∷ past) block i =
    record { is_mine = own.0.is_mine; there = has_block-stays (BlockPut j bytes) past i block own.0.there; unlisted = own.0.unlisted; not_dead = own.0.not_dead }
    in
    (one, first_put-stays (BlockPut j bytes) past i (block_text block size pages n) own.1, own_stays mine past block size pages (suc n) is j bytes own.2)

owned_with : (mine : List Id16) (past : List Item) (block size : ℕ) (pages : List Page) (n : ℕ) (ids : List Id16) (i : Id16) → AreOwnBlocks mine past block size pages n ids
    → IsOwnBlock mine past block i → first_put past i ≡ Some (block_text block size pages (n + length ids)) → AreOwnBlocks mine past block size pages n (ids ++ i ∷ [])
owned_with mine past block size pages n [] i own one put = (one, put ∙ ap (λ (k : ℕ). Some (block_text block size pages k)) none_more, tt)
  where
    none_more : n + 0 ≡ n
    none_more = omega arith
owned_with mine past block size pages n (j ∷ js) i own one put =
    (own.0, own.1, owned_with mine past block size pages (suc n) js i own.2 one (put ∙ ap (λ (k : ℕ). Some (block_text block size pages k)) (one_more (length js))))
  where
    one_more : (k : ℕ) → n + suc k ≡ suc n + k
    one_more k = omega arith

-- a block has the block size
pub length_block : (block size : ℕ) (pages : List Page) (n : ℕ) → Sized size pages → length (block_text block size pages n) ≡ block
length_block block size pages n sized =
    let text : List ℕ = pages_text (take (block / size) (drop (n * (block / size)) pages)) in
    let fits : length text ≤ block = few_fit block size (block / size) (n * (block / size)) pages sized (omega arith) in
    let sum : length (padded block text) ≡ length text + (block - length text) =
    length-append text (replicate (block - length text) 0) ∙ ap (λ (k : ℕ). length text + k) (length-replicate (block - length text) 0)
    in omega arith

first_here : (past : List Item) (i : Id16) (bytes : List ℕ) → first_put past i ≡ None → first_put (BlockPut i bytes ∷ past) i ≡ Some bytes
first_here past i bytes unput = ap (λ (o : Option (List ℕ)). or_else o (cond (id_eq i i) (Some bytes) None)) unput ∙ ap (λ (b : Bool). cond b (Some bytes) None) (id_eq-self i)

-- with the next block, which was just put
pub blocks_more : (mine : List Id16) (past : List Item) (block size : ℕ) (pages : List Page) (ids : List Id16) (i : Id16) → Sized size pages → has_id i mine ≡ true → first_put past i ≡ None → was_listed past i ≡ false → was_dead past i ≡ false
    → AreOwnBlocks mine past block size pages 0 ids → AreOwnBlocks mine (BlockPut i (block_text block size pages (length ids)) ∷ past) block size pages 0 (ids ++ i ∷ [])
blocks_more mine past block size pages ids i sized is_mine unput unlisted not_dead own =
    let bytes : List ℕ = block_text block size pages (length ids) in
    let put = first_here past i bytes unput in
    let one : IsOwnBlock mine (BlockPut i bytes ∷ past) block i = record { is_mine = is_mine; there = (bytes, put, length_block block size pages (length ids) sized); unlisted = unlisted; not_dead = not_dead } in
    owned_with mine (BlockPut i bytes ∷ past) block size pages 0 ids i (own_stays mine past block size pages 0 ids i bytes own) one
    (put ∙ ap (λ (k : ℕ). Some (block_text block size pages k)) (from_none (length ids)))
  where
    from_none : (k : ℕ) → k ≡ 0 + k
    from_none k = omega arith

-- where the put's answer was lost
pub blocks_stay : (mine : List Id16) (past : List Item) (pages : List Page) (e : EditPlan) (block : Option ℕ) (j : Id16) (bytes : List ℕ) → HasBlocks mine past pages e block → HasBlocks mine (BlockPut j bytes ∷ past) pages e block
blocks_stay mine past pages (edit.New e) (Some block) j bytes has = own_stays mine past block e.page_size pages 0 e.blocks j bytes has
blocks_stay mine past pages (edit.New e) None j bytes has = tt
blocks_stay mine past pages (edit.Upload from e) block j bytes has = tt
blocks_stay mine past pages (edit.Copy from to) block j bytes has = tt
blocks_stay mine past pages (edit.Remove name) block j bytes has = tt
blocks_stay mine past pages (edit.Sweep ids) block j bytes has = tt

pub blocks_stay_put : BlocksStayAfterPut
blocks_stay_put mine log s i bytes etag has =
    subst (λ (past : List Item). HasBlocks mine past s.pages s.edit s.block) (sym (history_of-more log (entry.Put true (object.Block i) bytes etag)))
    (blocks_stay mine (history_of log) s.pages s.edit s.block i bytes has)
