-- What an upload stands on and has put stays: under what others append, and under one more own block.
use Rattle.std.proofs.Common.{◌≡◌, ◌∙◌, inr, ℕ, zero, suc, true, List, [], ◌∷◌, ◌++◌, slice_get, Option, Some, None, IfSome, unwrap_or, refl, sym, ap, subst}
use Rattle.std.specs.Option.{option_map_or}
use Rattle.bcv_base.specs.declared.id.Id16.{Id16}
use Rattle.bcv_base.specs.declared.log.Entry.{Entry}
use Rattle.bcv_base.specs.declared.log.Entry.TheVariants as entry
use Rattle.bcv_base.specs.declared.manifest.Manifest.{Manifest}
use Rattle.bcv_base.specs.declared.object.ObjName.TheVariants as object
use Rattle.bcv_base.specs.declared.seen.TxnBase.{TxnBase}
use Rattle.bcv_base.specs.History.{Item, BlockPut, Published, Always, HasBlock, history_of, history_after, item_of, first_put}
use Rattle.bcv_base.specs.HistoryLaws.{first_put-stays, has_block-stays, has_id-first, has_id-later, history_after-append}
use Rattle.bcv_base.specs.Ids.{has_id}
use Rattle.bcv_base.specs.Image.{Writes}
use Rattle.bcv_base.specs.ManifestRules.{lists}
use Rattle.bcv_base.specs.Versions.{Reads}
use Rattle.bcv_dbmap.specs.Outlived.{IsPublished}
use Rattle.bcv_dbmap.specs.OwnBlock.{IsOwnBlock}
use Rattle.bcv_dbmap.specs.Sound.{Sound}
use Rattle.bcv_dbmap.proofs.BlockLaws.{own_block_stays}
use Rattle.bcv_dbmap.proofs.Entries.{lists_among}
use Rattle.bcv_dbmap.proofs.ManifestLaws.{by_published}
use Rattle.bcv_upload.specs.BlockText.{view_block}
use Rattle.bcv_upload.specs.State.{State, old_id}
use Rattle.bcv_upload.specs.UploadPut.{BlocksStay, BlocksStayAfterPut}
use Rattle.bcv_upload.specs.UploadWork.{AreOwnBlocks, OwnsBlocks, WasListed, first_text, old_text}

-- ---- the base

listed_block : (past : List Item) (m : Manifest) (i : Id16) → Always Reads past → IsPublished m past → lists m.dbs i ≡ true → HasBlock past i m.block
listed_block past m i reads p listed =
    by_published (λ (l : List Item). Always Reads l → HasBlock l i m.block) m (λ before r. has_block-stays (Published m) before i m.block (r.1.blocks i listed))
    (λ x before is r. has_block-stays x before i m.block (is r.0)) past p reads

-- each block of the base was put, with the block size
pub base_put : (past : List Item) (base : TxnBase) (i : Id16) → Sound past → WasListed past base → has_id i base.entry.blocks ≡ true → HasBlock past i base.block
base_put past base i sound w has =
    subst (HasBlock past i) w.block (listed_block past w.manifest i sound.reads w.published (lists_among w.manifest.dbs base.entry i w.among has))

pub has_at : (blocks : List Id16) (n : ℕ) (i : Id16) → slice_get blocks n ≡ Some i → has_id i blocks ≡ true
has_at [] n i is = absurd (let both : ◌≡◌ {A = Option Id16} None (Some i) = is in cc)
has_at (j ∷ js) zero i is = let both : ◌≡◌ {A = Option Id16} (Some j) (Some i) = is in subst (λ (x : Id16). has_id i (x ∷ js) ≡ true) (let same : i ≡ j = cc in same) (has_id-first i js)
has_at (j ∷ js) (suc n) i is = has_id-later i j js (has_at js n i is)

-- ---- what stays under further entries

published_after : (m : Manifest) (past : List Item) (log : List Entry) → IsPublished m past → IsPublished m (history_after past log)
published_after m past [] p = p
published_after m past (e ∷ es) p = published_after m (item_of e ∷ past) es (inr p)

pub first_after : (past : List Item) (log : List Entry) (i : Id16) (bytes : List ℕ) → first_put past i ≡ Some bytes → first_put (history_after past log) i ≡ Some bytes
first_after past [] i bytes is = is
first_after past (e ∷ es) i bytes is = first_after (item_of e ∷ past) es i bytes (first_put-stays (item_of e) past i bytes is)

listed_after : (past : List Item) (log : List Entry) (base : TxnBase) → WasListed past base → WasListed (history_after past log) base
listed_after past log base w = record { manifest = w.manifest; published = published_after w.manifest past log w.published; among = w.among; block = w.block }

pub text_after : (past : List Item) (log : List Entry) (base : TxnBase) (n : ℕ) → Sound past → WasListed past base → old_text (history_after past log) base n ≡ old_text past base n
text_after past log base n sound w = by_place (slice_get base.entry.blocks n) refl
  where
    by_place : (o : Option Id16) → slice_get base.entry.blocks n ≡ o → option_map_or (first_text (history_after past log)) o [] ≡ option_map_or (first_text past) o []
    by_place None is = refl
    by_place (Some i) is =
        let b = base_put past base i sound w (has_at base.entry.blocks n i is) in
        ap (λ (o : Option (List ℕ)). unwrap_or o []) (first_after past log i b.0 b.1 ∙ sym b.1)

fetched_after : (past : List Item) (log : List Entry) (i : Id16) (o : Option (List ℕ)) → IfSome o (λ bytes. first_put past i ≡ Some bytes) → IfSome o (λ bytes. first_put (history_after past log) i ≡ Some bytes)
fetched_after past log i None f = tt
fetched_after past log i (Some bytes) f = first_after past log i bytes f

-- the blocks that were put, where each own block stays one
blocks_after : (mine : List Id16) (past : List Item) (log : List Entry) (base : TxnBase) (view : List Writes) (ids : List Id16) (ns : List ℕ) → Sound past → WasListed past base
    → ((i : Id16) → IsOwnBlock mine past base.block i → IsOwnBlock mine (history_after past log) base.block i)
    → AreOwnBlocks mine past base view ids ns → AreOwnBlocks mine (history_after past log) base view ids ns
blocks_after mine past log base view [] ns sound w stays own = tt
blocks_after mine past log base view (i ∷ is) [] sound w stays own = absurd own
blocks_after mine past log base view (i ∷ is) (n ∷ ns) sound w stays own = (
  stays i own.0,
  first_after past log i (view_block base view (old_text past base n) n) own.1 ∙ ap (λ (old : List ℕ). Some (view_block base view old n)) (sym (text_after past log base n sound w)),
  blocks_after mine past log base view is ns sound w stays own.2,
)

owns_after : (mine : List Id16) (log more : List Entry) (view : List Writes) (s : State) → Sound (history_of log)
    → ((i : Id16) → IsOwnBlock mine (history_of log) s.base.block i → IsOwnBlock mine (history_after (history_of log) more) s.base.block i)
    → OwnsBlocks mine log view s → OwnsBlocks mine (log ++ more) view s
owns_after mine log more view s sound stays has =
    let past : List Item = history_of log in
    let same : history_after past more ≡ history_of (log ++ more) = sym (history_after-append [] log more) in
    record {
      listed = subst (λ (l : List Item). WasListed l s.base) same (listed_after past more s.base has.listed);
      blocks = subst (λ (l : List Item). AreOwnBlocks mine l s.base view s.ids s.touched) same (blocks_after mine past more s.base view s.ids s.touched sound has.listed stays has.blocks);
      fetched = subst (λ (l : List Item). IfSome s.fetched (λ bytes. first_put l (old_id s) ≡ Some bytes)) same (fetched_after past more (old_id s) s.fetched has.fetched);
    }

pub blocks_stay_others : BlocksStay
blocks_stay_others mine log others view s sound lawful has =
    owns_after mine log others view s sound
    (λ i own. subst (λ (l : List Item). IsOwnBlock mine l s.base.block i) (history_after-append [] log others) (own_block_stays mine log others s.base.block i sound lawful own)) has

pub blocks_stay_put : BlocksStayAfterPut
blocks_stay_put mine log view s i bytes etag sound has =
    owns_after mine log (entry.Put true (object.Block i) bytes etag ∷ []) view s sound
    (λ j own. record { is_mine = own.is_mine; there = has_block-stays (BlockPut i bytes) (history_of log) j s.base.block own.there; unlisted = own.unlisted; not_dead = own.not_dead }) has
