-- What a put of the manifest says, from what its append says and what was made of its answer.
use Rattle.std.proofs.Common.{◌≡◌, ◌∙◌, ◌⊎◌, inl, inr, ℕ, ◌<◌, ◌^◌, Bool, true, false, ◌||◌, List, [], ◌∷◌, ◌++◌, Option, Some, None, MatchOption, Result, Ok, Err, refl, sym, ap, subst, arith}
use Rattle.std.proofs.lemmas.Bool.{ne_eqb, eq-eqb}
use Rattle.bcv_base.specs.declared.id.Id16.{Id16}
use Rattle.bcv_base.specs.declared.log.Entry.{Entry}
use Rattle.bcv_base.specs.declared.log.Entry.TheVariants as entry
use Rattle.bcv_base.specs.declared.manifest.Manifest.{Manifest}
use Rattle.bcv_base.specs.declared.object.ObjName.TheVariants as object
use Rattle.bcv_base.specs.declared.outcome.Outcome.{Outcome}
use Rattle.bcv_base.specs.declared.outcome.Outcome.TheVariants as outcome
use Rattle.bcv_base.specs.declared.seen.Latest.{Latest}
use Rattle.bcv_base.specs.History.{Item, BlockPut, Published, BlockDeleted, ManifestDeleted, as_read, history_after, history_of, last_of}
use Rattle.bcv_base.specs.HistoryLaws.{history_after-append}
use Rattle.bcv_base.specs.Ids.{id_eq, IsId}
use Rattle.bcv_base.specs.Log.{Object, object_of, are_rising}
use Rattle.bcv_base.specs.ManifestGrammar.{manifest_of}
use Rattle.bcv_dbmap.specs.declared.plan.EditPlan.{EditPlan}
use Rattle.bcv_dbmap.specs.Growth.{IsLawful, IsNewBlock}
use Rattle.bcv_dbmap.specs.Honest.{AreApart}
use Rattle.bcv_dbmap.specs.OwnBlock.{IsOwnBlock}
use Rattle.bcv_dbmap.specs.Past.{was_deleted}
use Rattle.bcv_dbmap.specs.Sound.{Sound}
use Rattle.bcv_dbmap.specs.Kept.{Stays}
use Rattle.bcv_dbmap.proofs.BlockLaws.{own_block_stays}
use Rattle.bcv_dbmap.proofs.Fills.{fills_itself}
use Rattle.bcv_dbmap.proofs.KeptLaws.{kept_longer, kept_stays}
use Rattle.bcv_dbmap.proofs.Publishes.{published_is_lawful}
use Rattle.bcv_store.specs.declared.store.Cond.TheVariants as cond
use Rattle.bcv_store.specs.declared.store.Put.{Put}
use Rattle.bcv_store.specs.declared.store.Put.TheVariants as answer
use Rattle.bcv_store.specs.Asked.{has_etag}
use Rattle.bcv_store.specs.StoreShown.{StoreTold, StoreShown}
use Rattle.bcv_publish.specs.declared.work.PutEnd.{PutEnd}
use Rattle.bcv_publish.specs.declared.work.PutEnd.TheVariants as put
use Rattle.bcv_publish.specs.ManifestAppend.{AppendEnds, AppendTakes, ManifestAppends, IsAppended}
use Rattle.bcv_publish.specs.ManifestPut.{made, IsReady, MayPublish, PutEnds, SoundPutEnds, FailsSound, PutTakes, ManifestPuts, Refuses, Ended}
use Rattle.bcv_publish.specs.State.{State}
use Rattle.bcv_publish.proofs.AppendLaws.{SoundAppendEnds, SoundFails, IsLawfulWhere, append_sound, none_appends}
use Rattle.bcv_publish.proofs.Growth.{Later}

-- ---- the own publication is lawful

-- what was deleted stays so
deleted_later : (past : List Item) (i : Id16) (es : List Entry) → was_deleted past i ≡ true → was_deleted (history_after past es) i ≡ true
deleted_later past i [] h = h
deleted_later past i (entry.Put own object.Manifest bytes etag ∷ es) h = deleted_later (as_read (manifest_of bytes) ∷ past) i es (over_put (manifest_of bytes) h)
  where
    over_put : (r : Result Manifest ℕ) → was_deleted past i ≡ true → was_deleted (as_read r ∷ past) i ≡ true
    over_put (Ok m) h = h
    over_put (Err at) h = h
deleted_later past i (entry.Put own (object.Block j) bytes etag ∷ es) h = deleted_later (BlockPut j bytes ∷ past) i es h
deleted_later past i (entry.Deleted own object.Manifest at ∷ es) h = deleted_later (ManifestDeleted ∷ past) i es h
deleted_later past i (entry.Deleted own (object.Block j) at ∷ es) h = deleted_later (BlockDeleted j at ∷ past) i es (or_right (id_eq j i) h)
  where
    or_right : (b : Bool) → was_deleted past i ≡ true → (b || was_deleted past i) ≡ true
    or_right true h = refl
    or_right false h = h

-- a block of mine that no manifest listed is a new one to others
own_block : (mine theirs : List Id16) (log others : List Entry) (size : ℕ) (i : Id16) → AreApart mine theirs → Sound (history_of log) → Later mine log others → IsOwnBlock mine (history_of log) size i
    → IsNewBlock theirs (history_of (log ++ others)) size i
own_block mine theirs log others size i apart s later own =
    let stays = own_block_stays mine log others size i s later.lawful own in
    record { there = stays.there; not_mine = apart i own.is_mine; not_listed = stays.unlisted; not_dead = stays.not_dead }

-- the publication of the manifest that was read, where it is still the last one
own_lawful : (mine theirs : List Id16) (log others : List Entry) (p : State) (read : Latest) (plan : EditPlan) (moment : ℕ)
    → Sound (history_of log) → Later mine log others → MayPublish mine log p read plan moment → IsReady read.manifest plan p.writer
    → moment < 2 ^ 64 → IsId p.id → IsId p.writer → last_of (history_of (log ++ others)) ≡ Some read.manifest → AreApart mine theirs
    → IsLawful theirs (history_of (log ++ others)) (Published (made p read plan moment))
own_lawful mine theirs log others p read plan moment s later may ready small id writer last apart =
    let u = later.untouched in
    published_is_lawful theirs (history_of (log ++ others)) read.manifest plan plan p.id p.writer moment later.sound last ready.passes (fills_itself plan) ready.fits small id writer
    (u.unpublished p.id may.id may.fresh) (apart p.id may.id) (apart p.writer may.writer)
    (λ i listed unlisted. own_block mine theirs log others read.manifest.block i apart s later (may.blocks i listed unlisted))
    (λ i swept. subst (λ (past : List Item). was_deleted past i ≡ true) (sym (history_after-append [] log others)) (deleted_later (history_of log) i others (may.swept i swept)))

-- ---- what was read is the last manifest exactly where the object has its etag

-- the last manifest, and whether it is the one that was read
pub record IsHeld (log : List Entry) (read : Latest) (held : Bool) : Type 0 where
  pub last : Manifest
  pub is : last_of (history_of log) ≡ Some last
  pub where_held : held ≡ true → last ≡ read.manifest
  pub where_not : held ≡ false → read.manifest.number < last.number

held_by : (log : List Entry) (read : Latest) → Stays read (object_of object.Manifest log) (last_of (history_of log)) → IsHeld log read (has_etag (object_of object.Manifest log) read.etag)
held_by log read (inl still) =
    let held : has_etag (object_of object.Manifest log) read.etag ≡ true = ap (λ (x : Option Object). has_etag x read.etag) still.is ∙ eq-eqb still.there.etag read.etag still.etag in
    record { last = read.manifest; is = still.same; where_held = λ _. refl; where_not = λ n. absurd (not_both held n) }
  where
    not_both : {b : Bool} → b ≡ true → b ≡ false → ⊥
    not_both t f = cc
held_by log read (inr behind) =
    let not_held : has_etag (object_of object.Manifest log) read.etag ≡ false =
    ap (λ (x : Option Object). has_etag x read.etag) behind.is ∙ ne_eqb behind.there.etag read.etag (λ e. absurd (omega (arith, e, behind.etag)))
    in
    record { last = behind.manifest; is = behind.last_is; where_held = λ h. absurd (not_both h not_held); where_not = λ _. behind.number }
  where
    not_both : {b : Bool} → b ≡ true → b ≡ false → ⊥
    not_both t f = cc

-- ---- over any log

refuses_ends : (o : Outcome) (held : Bool) (log after : List Entry) (m : Manifest) (p : State) (read : Latest) (result : PutEnd) (q : State)
    → o ≡ outcome.Ok → held ≡ false → after ≡ log → Refuses p read result q → PutEnds o held log after m result q.latest
refuses_ends o held log after m p read put.Refused q ok not_held same r = (ok, not_held, same)
refuses_ends o held log after m p read (put.Contended numbers) q ok not_held same r = (ok, not_held, same)
refuses_ends o held log after m p read (put.Published n) q ok not_held same r = absurd r
refuses_ends o held log after m p read put.Unknown q ok not_held same r = absurd r
refuses_ends o held log after m p read put.NoMemory q ok not_held same r = absurd r

put_ends : (o : Outcome) (held : Bool) (log after : List Entry) (m : Manifest) (a : Put) (p : State) (read : Latest) (result : PutEnd) (q : State)
    → AppendEnds o held log after m a → Ended a m p read result q → PutEnds o held log after m result q.latest
put_ends o held log after m (answer.Stored etag) p read result q ends e =
    subst (λ (r : PutEnd). PutEnds o held log after m r q.latest) (sym e.0) (etag, ends.0, ends.1, ends.2, ap (λ (s : State). s.latest) e.1)
put_ends o held log after m answer.Refused p read result q ends e = refuses_ends o held log after m p read result q ends.0 ends.1 ends.2 e
put_ends o held log after m answer.Failed p read result q ends e = subst (λ (r : PutEnd). PutEnds o held log after m r q.latest) (sym e.0) ends
put_ends o held log after m answer.NoMemory p read result q ends e = subst (λ (r : PutEnd). PutEnds o held log after m r q.latest) (sym e.0) ends

-- ---- over a sound log

refuses_sound : (o : Outcome) (own : List Entry) (last : Manifest) (m : Manifest) (p : State) (read : Latest) (result : PutEnd) (q : State)
    → o ≡ outcome.Ok → read.manifest.number < last.number → own ≡ [] → Refuses p read result q → SoundPutEnds o own last read m result q.latest
refuses_sound o own last m p read put.Refused q ok above none r = (ok, above, none)
refuses_sound o own last m p read (put.Contended numbers) q ok above none r = (ok, above, none)
refuses_sound o own last m p read (put.Published n) q ok above none r = absurd r
refuses_sound o own last m p read put.Unknown q ok above none r = absurd r
refuses_sound o own last m p read put.NoMemory q ok above none r = absurd r

fails_sound : (o : Outcome) (held : Bool) (log own : List Entry) (read : Latest) (m : Manifest) (h : IsHeld log read held) → SoundFails o held own m → FailsSound o own h.last read m
fails_sound outcome.Ok held log own read m h f = f
fails_sound outcome.Fail held log own read m h f = f
fails_sound outcome.Lost true log own read m h f = inl (h.where_held refl, f)
fails_sound outcome.Lost false log own read m h f = inr (h.where_not refl, f)

sound_ends : (o : Outcome) (held : Bool) (log own : List Entry) (m : Manifest) (a : Put) (p : State) (read : Latest) (result : PutEnd) (q : State) (h : IsHeld log read held)
    → SoundAppendEnds o held own m a → Ended a m p read result q → SoundPutEnds o own h.last read m result q.latest
sound_ends o held log own m (answer.Stored etag) p read result q h ends e =
    subst (λ (r : PutEnd). SoundPutEnds o own h.last read m r q.latest) (sym e.0) (etag, ends.0, h.where_held ends.1, ends.2, ap (λ (s : State). s.latest) e.1)
sound_ends o held log own m answer.Refused p read result q h ends e = refuses_sound o own h.last m p read result q ends.0 (h.where_not ends.1) ends.2 e
sound_ends o held log own m answer.Failed p read result q h ends e =
    subst (λ (r : PutEnd). SoundPutEnds o own h.last read m r q.latest) (sym e.0) (fails_sound o held log own read m h ends)
sound_ends o held log own m answer.NoMemory p read result q h ends e = subst (λ (r : PutEnd). SoundPutEnds o own h.last read m r q.latest) (sym e.0) ends

-- what is read is the last manifest where the condition holds, and so the publication is lawful then
lawful_where : (mine : List Id16) (before : List Entry) (p : State) (read : Latest) (plan : EditPlan) (moment : ℕ) → Sound (history_of before) → IsReady read.manifest plan p.writer → moment < 2 ^ 64 → IsId p.id → IsId p.writer
    → MayPublish mine before p read plan moment → IsLawfulWhere mine before (cond.Match read.etag) (made p read plan moment)
lawful_where mine before p read plan moment s ready small id writer may others later rising held theirs apart =
    let log : List Entry = before ++ others in
    let h = held_by log read (kept_stays log read later.sound rising (kept_longer before others read may.kept)) in
    own_lawful mine theirs before others p read plan moment s later may ready small id writer (h.is ∙ ap (λ (k : Manifest). Some k) (h.where_held held)) apart

-- ---- the whole

refuses_open : (p : State) (read : Latest) (result : PutEnd) (q : State) → Refuses p read result q → (result ≡ put.Unknown → ⊥)
refuses_open p read put.Refused q r e = cc
refuses_open p read (put.Contended numbers) q r e = cc
refuses_open p read (put.Published n) q r e = absurd r
refuses_open p read put.Unknown q r e = r
refuses_open p read put.NoMemory q r e = absurd r

ended_open : (a : Put) (m : Manifest) (p : State) (read : Latest) (result : PutEnd) (q : State) → Ended a m p read result q → result ≡ put.Unknown → a ≡ answer.Failed
ended_open (answer.Stored etag) m p read result q e open_ = absurd (let both : put.Published m.number ≡ put.Unknown = sym e.0 ∙ open_ in cc)
ended_open answer.Refused m p read result q e open_ = absurd (refuses_open p read result q e open_)
ended_open answer.Failed m p read result q e open_ = refl
ended_open answer.NoMemory m p read result q e open_ = absurd (let both : put.NoMemory ≡ put.Unknown = sym e.0 ∙ open_ in cc)

refuses_takes : (told : StoreTold) (old new : StoreShown) (p : State) (read : Latest) (result : PutEnd) (q : State) → Refuses p read result q → AppendTakes told old new answer.Refused → PutTakes told old new result
refuses_takes told old new p read put.Refused q r takes = takes
refuses_takes told old new p read (put.Contended numbers) q r takes = takes
refuses_takes told old new p read (put.Published n) q r takes = absurd r
refuses_takes told old new p read put.Unknown q r takes = absurd r
refuses_takes told old new p read put.NoMemory q r takes = absurd r

ended_takes : (told : StoreTold) (old new : StoreShown) (a : Put) (m : Manifest) (p : State) (read : Latest) (result : PutEnd) (q : State) → Ended a m p read result q → AppendTakes told old new a → PutTakes told old new result
ended_takes told old new (answer.Stored etag) m p read result q e takes = subst (PutTakes told old new) (sym e.0) takes
ended_takes told old new answer.Refused m p read result q e takes = refuses_takes told old new p read result q e takes
ended_takes told old new answer.Failed m p read result q e takes = subst (PutTakes told old new) (sym e.0) takes
ended_takes told old new answer.NoMemory m p read result q e takes = subst (PutTakes told old new) (sym e.0) takes

pub put_puts : (told : StoreTold) (old new : StoreShown) (p : State) (read : Latest) (plan : EditPlan) (moment : ℕ) (a : Put) (result : PutEnd) (q : State)
    → IsReady read.manifest plan p.writer → moment < 2 ^ 64 → IsId p.id → IsId p.writer → (told.tells → are_rising new.log ≡ true)
    → ManifestAppends told old new (cond.Match read.etag) (made p read plan moment) a → Ended a (made p read plan moment) p read result q → ManifestPuts told old new p read plan moment result q
put_puts told old new p read plan moment a result q ready small id writer rising appends e = record {
  told = λ tells. let t = appends.told tells in
      let log : List Entry = old.log ++ t.others in
      record {
        others = t.others;
        by_others = t.by_others;
        outcome = t.outcome;
        next = t.next;
        ends = put_ends t.outcome (has_etag (object_of object.Manifest log) read.etag) log new.log (made p read plan moment) a p read result q t.ends e;
      };
  sound = λ tells mine s honest may. let x = append_sound told mine old new (cond.Match read.etag) (made p read plan moment) a (rising tells) (appends.told tells) s honest (lawful_where mine old.log p read plan moment s ready small id writer may) in
      let log : List Entry = old.log ++ x.growth.others in
      let h = held_by log read (kept_stays log read x.later.sound x.rising (kept_longer old.log x.growth.others read may.kept)) in
      record {
        growth = x.growth;
        last = h.last;
        is_last = h.is;
        outcome = x.outcome;
        next = x.next;
        ends = sound_ends x.outcome (has_etag (object_of object.Manifest log) read.etag) log x.growth.own (made p read plan moment) a p read result q h x.ends e;
      };
  taken = ended_takes told old new a (made p read plan moment) p read result q e appends.taken;
  later = appends.later;
  failed = λ open_. appends.failed (ended_open a (made p read plan moment) p read result q e open_);
}

-- whatever is kept
pub any_puts : (told : StoreTold) (old new : StoreShown) (p : State) (o : Option Latest) (plan : EditPlan) (moment : ℕ) (etag : ℕ) (m : Manifest) (a : Put) (result : PutEnd) (q : State)
    → MatchOption o ⊥ (λ read. IsReady read.manifest plan p.writer) → moment < 2 ^ 64 → IsId p.id → IsId p.writer → (told.tells → are_rising new.log ≡ true)
    → MatchOption o ⊥ (λ read. etag ≡ read.etag) → MatchOption o ⊥ (λ read. m ≡ made p read plan moment)
    → ManifestAppends told old new (cond.Match etag) m a → MatchOption o ⊥ (λ read. Ended a m p read result q) → MatchOption o ⊥ (λ read. ManifestPuts told old new p read plan moment result q)
any_puts told old new p None plan moment etag m a result q ready small id writer rising same is appends e = absurd ready
any_puts told old new p (Some read) plan moment etag m a result q ready small id writer rising same is appends e =
    put_puts told old new p read plan moment a result q ready small id writer rising
    (subst (λ (n : ℕ). ManifestAppends told old new (cond.Match n) (made p read plan moment) a) same (subst (λ (k : Manifest). ManifestAppends told old new (cond.Match etag) k a) is appends))
    (subst (λ (k : Manifest). Ended a k p read result q) is e)

-- of a put that was not made
pub any_none : (told : StoreTold) (old : StoreShown) (p : State) (o : Option Latest) (plan : EditPlan) (moment : ℕ)
    → MatchOption o ⊥ (λ read. IsReady read.manifest plan p.writer) → moment < 2 ^ 64 → IsId p.id → IsId p.writer → (told.tells → are_rising old.log ≡ true)
    → MatchOption o ⊥ (λ read. ManifestPuts told old old p read plan moment put.NoMemory p)
any_none told old p None plan moment ready small id writer rising = absurd ready
any_none told old p (Some read) plan moment ready small id writer rising =
    put_puts told old old p read plan moment answer.NoMemory put.NoMemory p ready small id writer rising (none_appends told old (cond.Match read.etag) (made p read plan moment)) (refl, refl)
