-- What a fetch says over a sound log.
use Rattle.std.proofs.Common.{◌≡◌, ◌∙◌, ℕ, Bool, true, false, List, [], ◌∷◌, ◌++◌, length, append-nil, Option, Some, None, IfSome, unwrap_or, inl, inr, refl, sym, ap, subst, arith, is_some}
use Rattle.bcv_base.specs.declared.id.Id16.{Id16}
use Rattle.bcv_base.specs.declared.log.Entry.{Entry}
use Rattle.bcv_base.specs.declared.manifest.Manifest.{Manifest}
use Rattle.bcv_base.specs.declared.object.ObjName.TheVariants as object
use Rattle.bcv_base.specs.declared.outcome.Outcome.{Outcome}
use Rattle.bcv_base.specs.History.{Item, Published, HasBlock, Always, first_put, history_of, last_of}
use Rattle.bcv_base.specs.HistoryLaws.{has_block-stays}
use Rattle.bcv_base.specs.Log.{Object, object_of}
use Rattle.bcv_base.specs.ManifestRules.{lists}
use Rattle.bcv_base.specs.Versions.{Reads}
use Rattle.bcv_cache.specs.Entry.{Blocks}
use Rattle.bcv_dbmap.specs.BlockLaws.{IsObjectOf}
use Rattle.bcv_dbmap.specs.Honest.{GrewHonestly}
use Rattle.bcv_dbmap.specs.Outlived.{IsPublished}
use Rattle.bcv_dbmap.specs.Past.{was_deleted}
use Rattle.bcv_dbmap.specs.Sound.{Sound, ArePresent}
use Rattle.bcv_dbmap.proofs.BlockLaws.{block_is_first_put}
use Rattle.bcv_dbmap.proofs.Entries.{lists_among}
use Rattle.bcv_dbmap.proofs.Gone.{gone_is_outlived}
use Rattle.bcv_dbmap.proofs.ManifestLaws.{by_published}
use Rattle.bcv_publish.proofs.Growth.{later_of, growth_of}
use Rattle.bcv_store.specs.StoreShown.{StoreTold, StoreShown}
use Rattle.bcv_snapshot.specs.declared.fetched.Fetched.{Fetched}
use Rattle.bcv_snapshot.specs.declared.fetched.Fetched.TheVariants as fetched
use Rattle.bcv_snapshot.specs.FixedImage.{VersionsArePut}
use Rattle.bcv_snapshot.specs.BlockFetch.{FetchEnds, BlockGetTold, IsMissing, IsOtherBlock, SoundFetchEnds, BlockGetSound}

-- a block that a published version lists was put, with that version's block size
pub published_has : (m : Manifest) (i : Id16) (past : List Item) → Always Reads past → lists m.dbs i ≡ true → IsPublished m past → HasBlock past i m.block
published_has m i past reads listed p =
    by_published (λ (l : List Item). Always Reads l → HasBlock l i m.block) m (λ before r. has_block-stays (Published m) before i m.block (r.1.blocks i listed))
    (λ x before has r. has_block-stays x before i m.block (has r.0)) past p reads

pub versions_are_put : VersionsArePut
versions_are_put past m base s published among block = λ i has.
    subst (HasBlock past i) (sym block) (published_has m i past s.reads (lists_among m.dbs base.entry i among has) published)

published_at : (later before : List Item) (m : Manifest) → IsPublished m (later ++ Published m ∷ before)
published_at [] before m = inl refl
published_at (x ∷ xs) before m = inr (published_at xs before m)

-- no block is both put and not put
never_none : (past : List Item) (i : Id16) (size : ℕ) → HasBlock past i size → first_put past i ≡ None → ⊥
never_none past i size has none = absurd (let both : Some has.0 ≡ None = sym has.1 ∙ none in cc)

-- what is missing was deleted, where a version lists it
missing_deleted : (past : List Item) (i : Id16) (size : ℕ) → HasBlock past i size → IsObjectOf past i None → was_deleted past i ≡ true
missing_deleted past i size has (inl none) = absurd (never_none past i size has none)
missing_deleted past i size has (inr gone) = gone

-- what is missing is not listed by the last version
missing_unlisted : (past : List Item) (m : Manifest) (i : Id16) (b : Bool) → ArePresent past m → IsObjectOf past i None → lists m.dbs i ≡ b → b ≡ false
missing_unlisted past m i false p gone is = refl
missing_unlisted past m i true p (inl none) is = absurd (let both : true ≡ false = sym (p i is).0 ∙ ap (λ (o : Option (List ℕ)). is_some o) none in cc)
missing_unlisted past m i true p (inr gone) is = absurd (let both : true ≡ false = sym gone ∙ (p i is).1 in cc)

unlisted_last : (past : List Item) (o : Option Manifest) (i : Id16) → IfSome o (ArePresent past) → IsObjectOf past i None → IfSome o (λ m. lists m.dbs i ≡ false)
unlisted_last past None i p gone = tt
unlisted_last past (Some m) i p gone = missing_unlisted past m i (lists m.dbs i) p gone refl

missing : (past : List Item) (i : Id16) → Sound past → IsObjectOf past i None → IsMissing past i
missing past i s gone = record {
  unlisted = unlisted_last past (last_of past) i s.present gone;
  outlived = λ later before m e split among has.
      let published : IsPublished m past = subst (IsPublished m) (sym split) (published_at later before m) in
      let listed : lists m.dbs i ≡ true = lists_among m.dbs e i among has in
      let deleted : was_deleted past i ≡ true = missing_deleted past i m.block (published_has m i past s.reads listed published) gone in
      gone_is_outlived later before m e i (subst Sound split s) among has (subst (λ (l : List Item). was_deleted l i ≡ true) split deleted);
}

-- the length of a listed block is the block size
other_block : (past : List Item) (i : Id16) (bytes : List ℕ) (len : ℕ) → Sound past → first_put past i ≡ Some bytes → length bytes ≡ len → IsOtherBlock past i len
other_block past i bytes len s first long = record {
  bytes = bytes;
  first = first;
  long = long;
  sizes = λ m published listed.
      let has = published_has m i past s.reads listed published in
      let same : ◌≡◌ {A = Option (List ℕ)} (Some has.0) (Some bytes) = sym has.1 ∙ first in
      sym has.2 ∙ ap (λ (o : Option (List ℕ)). length (unwrap_or o [])) same ∙ long;
}

sound_ends : (o : Outcome) (past : List Item) (x : Option Object) (id : Id16) (c : Blocks) (r : Fetched) (d : Blocks) → Sound past → IsObjectOf past id x → FetchEnds o x id c r d → SoundFetchEnds o past id c r d
sound_ends o past x id c (fetched.In slot) d s is ends =
    (ends.0.bytes, ends.1, (subst (IsObjectOf past id) ends.2 is).0, ends.3, ends.4)
sound_ends o past x id c fetched.CacheFull d s is ends = ends
sound_ends o past x id c fetched.Gone d s is ends = (ends.0, missing past id s (subst (IsObjectOf past id) ends.1 is))
sound_ends o past x id c (fetched.BadBlock len) d s is ends =
    (ends.1, other_block past id ends.0.bytes len s (subst (IsObjectOf past id) ends.2 is).0 ends.3, ends.4)
sound_ends o past x id c fetched.StoreFault d s is ends = ends
sound_ends o past x id c fetched.NoMemory d s is ends = tt

pub get_sound : (store : StoreTold) (mine : List Id16) (old new : StoreShown) (id : Id16) (c : Blocks) (r : Fetched) (d : Blocks) → BlockGetTold store old new id c r d → Sound (history_of old.log)
    → GrewHonestly store.alone mine old.log new.log → BlockGetSound store mine old new id c r d
get_sound store mine old new id c r d told s honest =
    let whole : new.log ≡ (old.log ++ told.others) ++ [] = told.grown ∙ sym (append-nil (old.log ++ told.others)) in
    let later = later_of store.alone mine old.log told.others [] new.log told.by_others whole s honest in
    let sound : Sound (history_of new.log) = subst (λ (l : List Entry). Sound (history_of l)) (sym told.grown) later.sound in
    record {
      growth = growth_of store.alone mine old.log told.others [] new.log told.by_others later whole (omega arith) (λ theirs apart. tt);
      no_own = refl;
      outcome = told.outcome;
      next = told.next;
      ends = sound_ends told.outcome (history_of new.log) (object_of (object.Block id) new.log) id c r d sound (block_is_first_put new.log id sound) told.ends;
    }
