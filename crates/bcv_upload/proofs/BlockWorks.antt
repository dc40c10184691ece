-- What a step of work says that puts a block.
use Rattle.std.proofs.Common.{◌≡◌, ◌∙◌, ℕ, ◌+◌, ◌-◌, ◌*◌, ◌<◌, Bool, true, false, ◌&&◌, cond, List, [], ◌∷◌, ◌++◌, length, find, get_or, append-nil, Option, Some, None, IfSome, is_none, unwrap_or, option_map, slice_get, min, refl, sym, ap, subst, arith}
use Rattle.std.specs.Option.{option_map_or}
use Rattle.std.proofs.lemmas.Option.{slice_get-get_or}
use Rattle.bcv_base.specs.declared.id.Id16.{Id16}
use Rattle.bcv_base.specs.declared.log.Entry.{Entry}
use Rattle.bcv_base.specs.declared.log.Entry.TheVariants as entry
use Rattle.bcv_base.specs.declared.object.ObjName.TheVariants as object
use Rattle.bcv_base.specs.declared.outcome.Outcome.{Outcome}
use Rattle.bcv_base.specs.declared.outcome.Outcome.TheVariants as outcome
use Rattle.bcv_base.specs.declared.seen.Latest.{Latest}
use Rattle.bcv_base.specs.declared.seen.Seen.{Seen}
use Rattle.bcv_base.specs.declared.seen.TxnBase.{TxnBase}
use Rattle.bcv_base.specs.Drawn.{NamesShown}
use Rattle.bcv_base.specs.History.{Item, BlockPut, history_of, first_put}
use Rattle.bcv_base.specs.HistoryLaws.{has_id-first, history_of-more, history_after-append, id_eq-self}
use Rattle.bcv_base.specs.Ids.{has_id, id_eq}
use Rattle.bcv_base.specs.Image.{Writes, is_base, or_else, zeros}
use Rattle.bcv_base.specs.Padded.{padded}
use Rattle.bcv_base.specs.Views.{Origin, FromBase, Added, Wrote, is_from_base, origin, page_from, view_size}
use Rattle.bcv_base.proofs.Views.{is_base-origin}
use Rattle.bcv_cache.specs.Cache.{slot_of}
use Rattle.bcv_cache.specs.Cache as caches
use Rattle.bcv_cache.specs.Entry.{Blocks}
use Rattle.bcv_cache.specs.Entry as cache
use Rattle.bcv_dbmap.specs.OwnBlock.{IsOwnBlock}
use Rattle.bcv_dbmap.specs.Past.{was_listed}
use Rattle.bcv_dbmap.specs.Sound.{Sound}
use Rattle.bcv_dbmap.specs.Checked.{zero_id}
use Rattle.bcv_dbmap.specs.RequestGrowth.{RequestGrowth}
use Rattle.bcv_dbmap.proofs.BlockLaws.{unput_is_fresh}
use Rattle.bcv_dbmap.proofs.OthersLaws.{others_keep_sound, others_leave_mine}
use Rattle.bcv_publish.specs.declared.work.BlockEnd.{BlockEnd}
use Rattle.bcv_publish.specs.declared.work.BlockEnd.TheVariants as end
use Rattle.bcv_publish.specs.declared.work.Work.{Work}
use Rattle.bcv_publish.specs.declared.work.Work.TheVariants as work
use Rattle.bcv_publish.specs.BlockPut.{AreFresh, BlockFails, BlockNamesCause, BlockPutLeaves, BlockPuts, BlockTakes, IsBlockAppended, SoundBlockEnds, block_work}
use Rattle.bcv_publish.proofs.BlockPutLaws.{none_puts}
use Rattle.bcv_store.specs.StoreShown.{StoreTold, StoreShown}
use Rattle.bcv_upload.specs.Inside.{PutsNext}
use Rattle.bcv_upload.specs.BlockText.{has_base, per_block, view_block, view_page}
use Rattle.bcv_upload.specs.State.{State, IsBase, IsTask, base_id, next_block, with_block}
use Rattle.bcv_upload.specs.UploadWork.{AreFirstPuts, AreOwnBlocks, BlockDraws, BlockLeaves, DrawsFor, OwnsBlocks, SoundWorkEnds, TaskWorks, WorkNamesCause, WorkTakes, WorkTold, asks_store, cached_bytes, first_text, is_fetch, next_text, old_bytes, old_text, text_of}
use Rattle.bcv_upload.proofs.NextTexts.{base_block}
use Rattle.bcv_upload.proofs.Owned.{blocks_stay_others, blocks_stay_put, first_after, text_after}
use Rattle.bcv_upload.proofs.Ranges.{none_there, same_text}
use Rattle.bcv_upload.proofs.Tasks.{last_read, next_is}

-- ---- the old bytes

-- a block with no page of the base does not depend on old bytes
pub same_block : (base : TxnBase) (view : List Writes) (a b : List ℕ) (n : ℕ) → has_base base view n ≡ false → view_block base view a n ≡ view_block base view b n
same_block base view a b n none =
    let first : ℕ = n * per_block base + 1 in
    let count : ℕ = min (per_block base) (view_size base.entry.pages view - n * per_block base) in
    ap (padded base.block) (same_text (view_page base view a n) (view_page base view b n) first count
    (λ k within. not_base (origin base.entry.pages view (first + k)) _ _ (sym (is_base-origin base.entry.pages view (first + k)) ∙ none_there (is_base base.entry.pages view) first count k within none)))
  where
    not_base : (o : Origin) (x y : List ℕ) → is_from_base o ≡ false → page_from x (zeros base.entry.page_size) o ≡ page_from y (zeros base.entry.page_size) o
    not_base FromBase x y h = absurd (cc)
    not_base Added x y h = refl
    not_base (Wrote page) x y h = refl

-- the bytes that were cached, where the block has a slot
cached_some : (i : Id16) (es : List cache.Entry) → is_none (slot_of i es) ≡ false → (bytes : List ℕ) × (cached_bytes i es ≡ Some bytes)
cached_some i es some = by_find (find (caches.has_id i) es) refl some
  where
    by_find : (o : Option cache.Entry) → find (caches.has_id i) es ≡ o → is_none (option_map (λ e. e.slot) (find (caches.has_id i) es)) ≡ false → (bytes : List ℕ) × (cached_bytes i es ≡ Some bytes)
    by_find None is some = absurd (let both : true ≡ false = sym (ap (λ (o : Option cache.Entry). is_none (option_map (λ e. e.slot) o)) is) ∙ some in cc)
    by_find (Some e) is some = (e.bytes, ap (λ (o : Option cache.Entry). option_map (λ e. e.bytes) o) is)

-- over old bytes that are those put first, a block is the view's
pub text_is : (past : List Item) (base : TxnBase) (view : List Writes) (n : ℕ) (fetched : Option (List ℕ)) (es : List cache.Entry) → IsBase base → asks_store base view n fetched es ≡ false
    → IfSome fetched (λ bytes. first_put past (base_id base n) ≡ Some bytes) → AreFirstPuts past es → text_of base view n fetched es ≡ view_block base view (old_text past base n) n
text_is past base view n fetched es is not_asked got cached = by_base (has_base base view n) refl
  where
    by_put : (bytes : List ℕ) → has_base base view n ≡ true → first_put past (base_id base n) ≡ Some bytes → bytes ≡ old_text past base n
    by_put bytes has first =
        let there = slice_get-get_or base.entry.blocks n zero_id (base_block base view n is has) in
        let id : slice_get base.entry.blocks n ≡ Some (base_id base n) = there ∙ sym (ap (λ (o : Option Id16). Some (unwrap_or o zero_id)) there) in
        sym (ap (λ (o : Option Id16). option_map_or (first_text past) o []) id ∙ ap (λ (o : Option (List ℕ)). unwrap_or o []) first)

    by_got : (o : Option (List ℕ)) → has_base base view n ≡ true → ((has_base base view n && is_none o) && is_none (slot_of (base_id base n) es)) ≡ false → IfSome o (λ bytes. first_put past (base_id base n) ≡ Some bytes)
        → unwrap_or (or_else o (cached_bytes (base_id base n) es)) [] ≡ old_text past base n
    by_got (Some bytes) has not_asked got = by_put bytes has got
    by_got None has not_asked got =
        let some : is_none (slot_of (base_id base n) es) ≡ false = sym (ap (λ (b : Bool). (b && true) && is_none (slot_of (base_id base n) es)) has) ∙ not_asked in
        let there = cached_some (base_id base n) es some in
        ap (λ (o : Option (List ℕ)). unwrap_or o []) there.1 ∙ by_put there.0 has (cached (base_id base n) there.0 there.1)

    by_base : (b : Bool) → has_base base view n ≡ b → text_of base view n fetched es ≡ view_block base view (old_text past base n) n
    by_base true has =
        ap (λ (b : Bool). view_block base view (cond b (unwrap_or (or_else fetched (cached_bytes (base_id base n) es)) []) []) n) has
        ∙ ap (λ (old : List ℕ). view_block base view old n) (by_got fetched has not_asked got)
    by_base false has = same_block base view (old_bytes base view n fetched es) (old_text past base n) n has

-- ---- one more own block

own_more : (mine : List Id16) (past : List Item) (base : TxnBase) (view : List Writes) (ids : List Id16) (ks : List ℕ) (i : Id16) → AreOwnBlocks mine past base view ids ks → length ids < length ks → IsOwnBlock mine past base.block i
    → first_put past i ≡ Some (view_block base view (old_text past base (get_or ks (length ids) 0)) (get_or ks (length ids) 0)) → AreOwnBlocks mine past base view (ids ++ i ∷ []) ks
own_more mine past base view [] [] i own more one put = absurd (omega (arith, more))
own_more mine past base view [] (k ∷ ks) i own more one put = (one, put, tt)
own_more mine past base view (j ∷ js) [] i own more one put = absurd own
own_more mine past base view (j ∷ js) (k ∷ ks) i own more one put = (own.0, own.1, own_more mine past base view js ks i own.2 (omega (arith, more)) one put)

first_here : (past : List Item) (i : Id16) (bytes : List ℕ) → first_put past i ≡ None → first_put (BlockPut i bytes ∷ past) i ≡ Some bytes
first_here past i bytes unput = ap (λ (o : Option (List ℕ)). or_else o (cond (id_eq i i) (Some bytes) None)) unput ∙ ap (λ (b : Bool). cond b (Some bytes) None) (id_eq-self i)

-- ---- the put of the next block

module _ (mine : List Id16) (view : List Writes) (c : Blocks) (s : State) (task : IsTask s) (not_asked : is_fetch view c s ≡ false) (more : length s.ids < length s.touched) where
  abbrev text : List ℕ
  text = next_text view c s

  -- the log with what others appended
  record Before (before others : List Entry) (ids : List Id16) : Type 0 where
    has : OwnsBlocks mine (before ++ others) view s
    sound : Sound (history_of (before ++ others))
    cached : AreFirstPuts (history_of (before ++ others)) c.entries
    bytes : (i : Id16) → has_id i mine ≡ true → first_put (history_of (before ++ others)) i ≡ first_put (history_of before) i
    fresh : (i : Id16) → ids ≡ i ∷ [] → (has_id i mine ≡ true) × (was_listed (history_of (before ++ others)) i ≡ false)

  before_of : (alone : Type 0) (before after : List Entry) (ids : List Id16) (g : RequestGrowth alone mine before after) → Sound (history_of before) → OwnsBlocks mine before view s → AreFirstPuts (history_of before) c.entries
      → AreFresh mine before ids → Before before g.others ids
  before_of alone before after ids g sound has cached fresh =
      let u = others_leave_mine mine before g.others sound g.lawful in
      record {
        has = blocks_stay_others mine before g.others view s sound g.lawful has;
        sound = others_keep_sound mine before g.others sound g.lawful;
        cached = λ i bytes is. subst (λ (past : List Item). first_put past i ≡ Some bytes) (sym (history_after-append [] before g.others)) (first_after (history_of before) g.others i bytes (cached i bytes is));
        bytes = u.bytes;
        fresh = λ i drawn. let f = fresh i (ap (λ (x : List Id16). has_id i x) drawn ∙ has_id-first i []) in (f.0, u.unlisted i f.0 f.1);
      }

  -- the log with the block
  with_put : (log after own : List Entry) (i : Id16) (etag : ℕ) (t : State) → Sound (history_of log) → after ≡ log ++ own → own ≡ entry.Put true (object.Block i) text etag ∷ [] → OwnsBlocks mine log view t → OwnsBlocks mine after view t
  with_put log after own i etag t sound grown put has =
      subst (λ (l : List Entry). OwnsBlocks mine l view t) (sym (grown ∙ ap (λ (l : List Entry). log ++ l) put)) (blocks_stay_put mine log view t i text etag sound has)

  with_none : (log after own : List Entry) (t : State) → after ≡ log ++ own → own ≡ [] → OwnsBlocks mine log view t → OwnsBlocks mine after view t
  with_none log after own t grown none has = subst (λ (l : List Entry). OwnsBlocks mine l view t) (sym (grown ∙ ap (λ (l : List Entry). log ++ l) none ∙ append-nil log)) has

  -- the block is one more of the upload's own
  put_more : (before others after own : List Entry) (ids : List Id16) (i : Id16) (etag : ℕ) → length text ≡ s.base.block → Before before others ids → after ≡ (before ++ others) ++ own → ids ≡ i ∷ [] → first_put (history_of before) i ≡ None
      → own ≡ entry.Put true (object.Block i) text etag ∷ [] → OwnsBlocks mine after view (with_block s i)
  put_more before others after own ids i etag whole b grown drawn unput put =
      let log : List Entry = before ++ others in
      let f = b.fresh i drawn in
      let none : first_put (history_of log) i ≡ None = b.bytes i f.0 ∙ unput in
      let past : List Item = BlockPut i text ∷ history_of log in
      let is_past : history_of after ≡ past = ap history_of (grown ∙ ap (λ (l : List Entry). log ++ l) put) ∙ history_of-more log (entry.Put true (object.Block i) text etag) in
      let has = with_put log after own i etag s b.sound grown put b.has in
      let here = first_here (history_of log) i text none in
      let is_text : text ≡ view_block s.base view (old_text (history_of log) s.base (next_block s)) (next_block s) = text_is (history_of log) s.base view (next_block s) s.fetched c.entries task.base not_asked b.has.fetched b.cached in
      let stays : old_text past s.base (next_block s) ≡ old_text (history_of log) s.base (next_block s) = text_after (history_of log) (entry.Put true (object.Block i) text etag ∷ []) s.base (next_block s) b.sound b.has.listed in
      let one : IsOwnBlock mine past s.base.block i = record { is_mine = f.0; there = (text, here, whole); unlisted = f.1; not_dead = (unput_is_fresh mine (history_of log) i b.sound f.0 none).not_dead } in
      let bytes : first_put past i ≡ Some (view_block s.base view (old_text past s.base (next_block s)) (next_block s)) =
      here ∙ ap (λ (x : List ℕ). Some x) is_text ∙ ap (λ (old : List ℕ). Some (view_block s.base view old (next_block s))) (sym stays)
      in
      let at : first_put past i ≡ Some (view_block s.base view (old_text past s.base (get_or s.touched (length s.ids) 0)) (get_or s.touched (length s.ids) 0)) =
      bytes ∙ ap (λ (n : ℕ). Some (view_block s.base view (old_text past s.base n) n)) (next_is s)
      in
      record {
        listed = has.listed;
        blocks =
            subst (λ (l : List Item). AreOwnBlocks mine l s.base view (s.ids ++ i ∷ []) s.touched) (sym is_past)
            (own_more mine past s.base view s.ids s.touched i (subst (λ (l : List Item). AreOwnBlocks mine l s.base view s.ids s.touched) is_past has.blocks) more one at);
        fetched = tt;
      }

  by_fails : (o : Outcome) (first : Option (List ℕ)) (own : List Entry) (i : Id16) (P : Type 0) → BlockFails o first own i text → (own ≡ [] → P) → (IsBlockAppended own i text → P) → P
  by_fails outcome.Ok first own i P f none put = absurd f
  by_fails outcome.Fail first own i P f none put = none f
  by_fails outcome.Lost None own i P f none put = put f
  by_fails outcome.Lost (Some b) own i P f none put = none f

  block_blocks : (o : Outcome) (before others after own : List Entry) (ids : List Id16) (r : BlockEnd) (t : State) → (r ≡ end.Stored → length text ≡ s.base.block) → Before before others ids → after ≡ (before ++ others) ++ own → BlockPutLeaves ids s.ids r t.ids
      → BlockLeaves s (block_work r) t → SoundBlockEnds o (history_of before) own ids text r → OwnsBlocks mine after view t
  block_blocks o before others after own ids end.Stored t whole b grown leaves left ends =
      let same : ends.0 ≡ left.0 =
      sym (last_read s.ids t.ids ends.0 zero_id (leaves.2 ∙ ap (λ (j : Id16). s.ids ++ j ∷ []) (first_same leaves.0 ends.0 ids leaves.1 ends.1))) ∙ last_read s.ids t.ids left.0 zero_id (ap (λ (x : State). x.ids) left.1)
      in
      subst (OwnsBlocks mine after view) (sym (left.1 ∙ ap (with_block s) (sym same))) (put_more before others after own ids ends.0 ends.4.0 (whole refl) b grown ends.1 ends.3 ends.4.1)
    where
      first_same : (i j : Id16) (ids : List Id16) → ids ≡ i ∷ [] → ids ≡ j ∷ [] → i ≡ j
      first_same i j ids a b = let both : i ∷ [] ≡ j ∷ [] = sym a ∙ b in cc
  block_blocks o before others after own ids end.NameTaken t whole b grown leaves left ends = with_none (before ++ others) after own t grown ends.4 (subst (OwnsBlocks mine (before ++ others) view) (sym left) b.has)
  block_blocks o before others after own ids end.StoreFault t whole b grown leaves left ends =
      by_fails o (first_put (history_of before) ends.0) own ends.0 (OwnsBlocks mine after view t) ends.2
      (λ none. with_none (before ++ others) after own t grown none (subst (OwnsBlocks mine (before ++ others) view) (sym left) b.has))
      (λ put. with_put (before ++ others) after own ends.0 put.0 t b.sound grown put.1 (subst (OwnsBlocks mine (before ++ others) view) (sym left) b.has))
  block_blocks o before others after own ids end.NamesFault t whole b grown leaves left ends = with_none (before ++ others) after own t grown ends.1 (subst (OwnsBlocks mine (before ++ others) view) (sym left) b.has)
  block_blocks o before others after own ids end.NoMemory t whole b grown leaves left ends = with_none (before ++ others) after own t grown ends (subst (OwnsBlocks mine (before ++ others) view) (sym left) b.has)

-- ---- the whole

block_takes : (store : StoreTold) (old new : StoreShown) (r : BlockEnd) → BlockTakes store old new r → WorkTakes store old new (block_work r)
block_takes store old new end.Stored takes = takes
block_takes store old new end.NameTaken takes = takes
block_takes store old new end.StoreFault takes = takes
block_takes store old new end.NamesFault takes = takes
block_takes store old new end.NoMemory takes = takes

block_cause : (before now : ℕ) (r : BlockEnd) → BlockNamesCause before now r → WorkNamesCause before now (block_work r)
block_cause before now end.Stored cause = cause
block_cause before now end.NameTaken cause = cause
block_cause before now end.StoreFault cause = cause
block_cause before now end.NamesFault cause = cause
block_cause before now end.NoMemory cause = cause

block_fault : (r : BlockEnd) → block_work r ≡ work.StoreFault → r ≡ end.StoreFault
block_fault end.Stored is = absurd (cc)
block_fault end.NameTaken is = absurd (cc)
block_fault end.StoreFault is = refl
block_fault end.NamesFault is = absurd (cc)
block_fault end.NoMemory is = absurd (cc)

block_names : (s : State) (ids : List Id16) (r : BlockEnd) (t : State) → BlockPutLeaves ids s.ids r t.ids → BlockLeaves s (block_work r) t → BlockDraws s (block_work r) t ids
block_names s ids end.Stored t leaves left =
    let same : leaves.0 ≡ left.0 = sym (last_read s.ids t.ids leaves.0 zero_id leaves.2) ∙ last_read s.ids t.ids left.0 zero_id (ap (λ (x : State). x.ids) left.1) in
    (left.0, leaves.1 ∙ ap (λ (i : Id16). i ∷ []) same, left.1)
block_names s ids end.NameTaken t leaves left = leaves.0
block_names s ids end.StoreFault t leaves left = leaves.0
block_names s ids end.NamesFault t leaves left = leaves.0
block_names s ids end.NoMemory t leaves left = leaves.0

works_at : (store : StoreTold) (old new : StoreShown) (names later_names : NamesShown) (seen : Seen) (view : List Writes) (c : Blocks) (s : State) (l : Latest) (r : BlockEnd) (t : State) → IsTask s → s.publish.latest ≡ Some l
    → is_fetch view c s ≡ false → length s.ids < length s.touched → (r ≡ end.Stored → length (next_text view c s) ≡ s.base.block) → BlockLeaves s (block_work r) t
    → BlockPuts store old new names later_names (next_text view c s) s.ids r t.ids → TaskWorks store old new names later_names seen view c s (block_work r) t
works_at store old new names later_names seen view c s l r t task there not_asked more whole left puts = record {
  ids = puts.drawn;
  drawn = puts.adds;
  draws = subst (λ (o : Option Latest). DrawsFor o (is_fetch view c s) s (block_work r) t puts.drawn) (sym there)
      (subst (λ (b : Bool). DrawsFor (Some l) b s (block_work r) t puts.drawn) (sym not_asked) (block_names s puts.drawn r t puts.leaves left));
  told = λ tells. subst (λ (o : Option Latest). WorkTold store old new puts.drawn o (is_fetch view c s) seen (next_text view c s) s (block_work r) t) (sym there)
      (subst (λ (b : Bool). WorkTold store old new puts.drawn (Some l) b seen (next_text view c s) s (block_work r) t) (sym not_asked) (r, refl, puts.told tells));
  sound = λ tells mine sound honest has cached fresh.
      let put = puts.sound tells mine sound honest fresh in
      record {
        growth = put.growth;
        outcome = put.outcome;
        next = put.next;
        ends = subst (λ (o : Option Latest). SoundWorkEnds put.outcome old.log new.log put.growth.own puts.drawn o (is_fetch view c s) seen (next_text view c s) s (block_work r) t) (sym there)
            (subst (λ (b : Bool). SoundWorkEnds put.outcome old.log new.log put.growth.own puts.drawn (Some l) b seen (next_text view c s) s (block_work r) t) (sym not_asked) (r, refl, put.ends));
        blocks =
            block_blocks mine view c s task not_asked more put.outcome old.log put.growth.others new.log put.growth.own puts.drawn r t whole
            (before_of mine view c s task not_asked more store.alone old.log new.log puts.drawn put.growth sound has cached fresh) put.growth.grown puts.leaves left put.ends;
      };
  taken = block_takes store old new r puts.taken;
  later = puts.later;
  failed = λ is. puts.failed (block_fault r is);
  names_failed = block_cause names.faults later_names.faults r puts.names_failed;
}

-- the step of an upload that puts a block
pub block_works : (store : StoreTold) (old new : StoreShown) (names later_names : NamesShown) (seen : Seen) (view : List Writes) (c : Blocks) (s : State) (l : Latest) (result : Work) (t : State) (text : List ℕ) → IsTask s → s.publish.latest ≡ Some l
    → is_fetch view c s ≡ false → length s.ids < length s.touched → text ≡ next_text view c s → length text ≡ s.base.block → BlockLeaves s result t
    → PutsNext store old new names later_names text s.ids result t.ids → TaskWorks store old new names later_names seen view c s result t
block_works store old new names later_names seen view c s l result t bytes task there not_asked more text_is whole left puts =
    subst (λ (w : Work). TaskWorks store old new names later_names seen view c s w t) (sym puts.1)
    (works_at store old new names later_names seen view c s l puts.0 t task there not_asked more (λ stored. sym (ap length text_is) ∙ whole) (subst (λ (w : Work). BlockLeaves s w t) puts.1 left)
    (subst (λ (x : List ℕ). BlockPuts store old new names later_names x s.ids puts.0 t.ids) text_is puts.2))

-- where memory ran out before the request nothing came of it
pub none_works : (store : StoreTold) (old : StoreShown) (names : NamesShown) (seen : Seen) (view : List Writes) (c : Blocks) (s : State) (l : Latest) → IsTask s → s.publish.latest ≡ Some l → is_fetch view c s ≡ false
    → length s.ids < length s.touched → TaskWorks store old old names names seen view c s work.NoMemory s
none_works store old names seen view c s l task there not_asked more =
    works_at store old old names names seen view c s l end.NoMemory s task there not_asked more (λ stored. absurd (cc)) refl (none_puts store old names (next_text view c s) s.ids)
