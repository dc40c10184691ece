-- The old bytes of a block: which block of the base they are, and what the cache has of it.
use Rattle.std.proofs.Common.{◌≡◌, ◌∙◌, ℕ, ◌+◌, ◌*◌, ◌<◌, ◌≤◌, Bool, true, false, ◌&&◌, cond, List, [], ◌∷◌, length, find, Option, Some, None, is_none, option_map, unwrap_or, nat_eq, nat_le, Result, Ok, Err, IfOk, get_or, refl, sym, ap, subst, arith}
use Rattle.std.specs.Cmp.{first_so}
use Rattle.std.specs.List.{list_all}
use Rattle.std.specs.Option.{option_map_or}
use Rattle.std.specs.Global.{Vec}
use Rattle.std.specs.declared.alloc.AllocError.{AllocError}
use Rattle.std.proofs.lemmas.Bool.{leb-true}
use Rattle.std.proofs.lemmas.Option.{slice_get-get_or}
use Rattle.bcv_base.specs.declared.id.Id16.{Id16}
use Rattle.bcv_base.specs.declared.seen.TxnBase.{TxnBase}
use Rattle.bcv_base.specs.Image.{Writes, is_base, leaves_page, or_else}
use Rattle.bcv_cache.specs.Cache.{entry_in, found_first, has_id, has_slot, slot_of, without, IsCache}
use Rattle.bcv_cache.specs.Entry.{Blocks}
use Rattle.bcv_cache.specs.Entry as cache
use Rattle.bcv_dbmap.specs.Checked.{zero_id}
use Rattle.bcv_upload.specs.Inside.{IsNext, made_text}
use Rattle.bcv_upload.specs.declared.next_text.NextText.{NextText}
use Rattle.bcv_upload.specs.BlockText.{has_base, per_block, view_block}
use Rattle.bcv_upload.specs.State.{IsBase, base_id, id_at}
use Rattle.bcv_upload.specs.UploadWork.{asks_cache, asks_store, cache_asked, cached_bytes, text_of}
use Rattle.bcv_upload.proofs.BlockNumbers.{full_of, inside_needed}
use Rattle.bcv_upload.proofs.Ranges.{any_found}

-- a block that holds a page of the base is one of the base's
pub base_block : (base : TxnBase) (view : List Writes) (n : ℕ) → IsBase base → has_base base view n ≡ true → n < length base.entry.blocks
base_block base view n is has =
    let per : ℕ = per_block base in
    let f = any_found (is_base base.entry.pages view) (n * per + 1) _ has in
    let below : n * per + 1 + f.0 ≤ base.entry.pages =
    leb-true (n * per + 1 + f.0) base.entry.pages (first_so (nat_le (n * per + 1 + f.0) base.entry.pages) (list_all (leaves_page (n * per + 1 + f.0)) view) f.1)
    in
    subst (λ (x : ℕ). n < x) (sym is.entry.blocks) (inside_needed base base.entry.pages n (full_of base is) (omega (arith, below)))

-- ---- a block in the cache

same_slot : (n : ℕ) → nat_eq n n ≡ true
same_slot n = grind arith

-- the entry of a slot that was found, behind the search
pub record IsCached (c : Blocks) (i : Id16) (bytes : List ℕ) : Type 0 where
  pub bytes_are : cached_bytes i c.entries ≡ Some bytes
  pub whole : length bytes ≡ c.block

pub cached : (c new : Blocks) (i : Id16) (slot : ℕ) (bytes : List ℕ) → Some slot ≡ slot_of i c.entries → new ≡ record c { entries = found_first i c.entries } → IsCache new
    → option_map (λ e. e.bytes) (entry_in slot new.entries) ≡ Some bytes → IsCached c i bytes
cached c new i slot bytes slot_is new_is is_cache lent =
    by_find (find (has_id i) c.entries) refl slot_is (sym (ap (λ (x : Blocks). option_map (λ e. e.bytes) (entry_in slot x.entries)) new_is) ∙ lent) (subst IsCache new_is is_cache)
  where
    by_find : (o : Option cache.Entry) → find (has_id i) c.entries ≡ o → Some slot ≡ option_map (λ e. e.slot) (find (has_id i) c.entries)
        → option_map (λ e. e.bytes) (entry_in slot (found_first i c.entries)) ≡ Some bytes → IsCache (record c { entries = found_first i c.entries }) → IsCached c i bytes
    by_find None o_is slot_is lent is_cache = let both : ◌≡◌ {A = Option ℕ} (Some slot) None = slot_is ∙ ap (λ (o : Option cache.Entry). option_map (λ e. e.slot) o) o_is in absurd (cc)
    by_find (Some e) o_is slot_is lent is_cache =
        let same : slot ≡ e.slot = let both : ◌≡◌ {A = Option ℕ} (Some slot) (Some e.slot) = slot_is ∙ ap (λ (o : Option cache.Entry). option_map (λ e. e.slot) o) o_is in cc in
        let order : found_first i c.entries ≡ e ∷ without (has_id i) c.entries = ap (λ (o : Option cache.Entry). option_map_or (λ e. e ∷ without (has_id i) c.entries) o c.entries) o_is in
        let here : nat_eq slot e.slot ≡ true = ap (λ (k : ℕ). nat_eq k e.slot) same ∙ same_slot e.slot in
        let first : Some e.bytes ≡ Some bytes =
        sym (ap (λ (es : List cache.Entry). option_map (λ e. e.bytes) (entry_in slot es)) order
        ∙ ap (λ (b : Bool). option_map (λ e. e.bytes) (cond b (Some e) (find (has_slot slot) (without (has_id i) c.entries)))) here) ∙ lent
        in
        let bytes_is : e.bytes ≡ bytes = cc in
        let ordered : IsCache (record c { entries = e ∷ without (has_id i) c.entries }) = subst (λ (es : List cache.Entry). IsCache (record c { entries = es })) order is_cache in
        record {
          bytes_are = ap (λ (o : Option cache.Entry). option_map (λ e. e.bytes) o) o_is ∙ first;
          whole = sym (ap length bytes_is) ∙ ordered.whole 0 e (omega arith);
        }

-- ---- which way the bytes come

module _ (base : TxnBase) (view : List Writes) (n : ℕ) (has : has_base base view n ≡ true) where
  -- no get brought the old bytes, so the cache is asked
  pub asked : asks_cache base view n None ≡ true
  asked = ap (λ (b : Bool). b && true) has

  pub cache_is : (c new : Blocks) → new ≡ record c { entries = found_first (base_id base n) c.entries } → new ≡ cache_asked base view n None c
  cache_is c new is = is ∙ sym (ap (λ (b : Bool). cond b (record c { entries = found_first (base_id base n) c.entries }) c) asked)

  pub not_fetched : (es : List cache.Entry) (slot : ℕ) → Some slot ≡ slot_of (base_id base n) es → asks_store base view n None es ≡ false
  not_fetched es slot is = ap (λ (b : Bool). b && is_none (slot_of (base_id base n) es)) asked ∙ ap (λ (o : Option ℕ). is_none o) (sym is)

  pub is_fetched : (es : List cache.Entry) → None ≡ slot_of (base_id base n) es → asks_store base view n None es ≡ true
  is_fetched es is = ap (λ (b : Bool). b && is_none (slot_of (base_id base n) es)) asked ∙ ap (λ (o : Option ℕ). is_none o) (sym is)

  pub cached_text : (es : List cache.Entry) (bytes : List ℕ) → cached_bytes (base_id base n) es ≡ Some bytes → view_block base view bytes n ≡ text_of base view n None es
  cached_text es bytes is =
      sym (ap (λ (b : Bool). view_block base view (cond b (unwrap_or (or_else None (cached_bytes (base_id base n) es)) []) []) n) has
      ∙ ap (λ (o : Option (List ℕ)). view_block base view (unwrap_or o []) n) is)

  pub made_next : (es : List cache.Entry) (slot : ℕ) (bytes : List ℕ) (r : Result (Vec ℕ) AllocError) (result : NextText) → result ≡ made_text r → Some slot ≡ slot_of (base_id base n) es
      → cached_bytes (base_id base n) es ≡ Some bytes → IfOk r (λ made. made.items ≡ view_block base view bytes n) → IfOk r (λ made. length made.items ≡ base.block)
      → IsNext base view n None es result
  made_next es slot bytes (Ok made) result is found there text whole =
      subst (IsNext base view n None es) (sym is) (not_fetched es slot found, text ∙ cached_text es bytes there, whole)
  made_next es slot bytes (Err e) result is found there text whole = subst (IsNext base view n None es) (sym is) (not_fetched es slot found)

-- the id that is read at a place
pub id_read : (blocks items : List Id16) (n : ℕ) (d : Id16) → items ≡ blocks → n < length blocks → get_or items n d ≡ id_at blocks n
id_read blocks items n d is within =
    ap (λ (xs : List Id16). get_or xs n d) is ∙ sym (ap (λ (o : Option Id16). unwrap_or o zero_id) (slice_get-get_or blocks n d within))
