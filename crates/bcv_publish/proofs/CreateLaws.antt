-- What a create says, from what the append of the first manifest says and what was made of its answer.
use Rattle.std.proofs.Common.{◌≡◌, ◌∙◌, ℕ, ◌<◌, ◌^◌, Bool, true, false, List, [], ◌∷◌, ◌++◌, Option, Some, None, is_none, refl, sym, ap, subst}
use Rattle.bcv_base.specs.declared.id.Id16.{Id16}
use Rattle.bcv_base.specs.declared.log.Entry.{Entry}
use Rattle.bcv_base.specs.declared.manifest.Manifest.{Manifest}
use Rattle.bcv_base.specs.declared.object.ObjName.TheVariants as object
use Rattle.bcv_base.specs.declared.outcome.Outcome.{Outcome}
use Rattle.bcv_base.specs.declared.outcome.Outcome.TheVariants as outcome
use Rattle.bcv_base.specs.declared.seen.Latest.{Latest}
use Rattle.bcv_base.specs.Faults.{Rose}
use Rattle.bcv_base.specs.History.{history_of, last_of}
use Rattle.bcv_base.specs.Ids.{IsId}
use Rattle.bcv_base.specs.Log.{Object, object_of, are_rising}
use Rattle.bcv_base.specs.ManifestRules.{MeetsRules, MeetsLimits, IsShort, is_block_size}
use Rattle.bcv_dbmap.specs.Applied.{first_manifest}
use Rattle.bcv_dbmap.proofs.BlockLaws.{first_is_lawful}
use Rattle.bcv_dbmap.proofs.KeptLaws.{Agrees, log_agrees}
use Rattle.bcv_dbmap.proofs.RulesLaws.{first_meets_rules}
use Rattle.bcv_store.specs.declared.store.Cond.TheVariants as cond
use Rattle.bcv_store.specs.declared.store.Put.{Put}
use Rattle.bcv_store.specs.declared.store.Put.TheVariants as answer
use Rattle.bcv_store.specs.StoreShown.{StoreTold, StoreShown}
use Rattle.bcv_publish.specs.declared.created.Created.{Created}
use Rattle.bcv_publish.specs.declared.created.Created.TheVariants as created
use Rattle.bcv_publish.specs.ManifestAppend.{AppendEnds, AppendTakes, ManifestAppends}
use Rattle.bcv_publish.specs.ManifestCreate.{CreateLeaves, CreateEnds, MayCreate, CreateLost, CreateFails, SoundCreateEnds, CreateTakes, CreateCause, ManifestCreates, CreateAnswered}
use Rattle.bcv_publish.proofs.AppendLaws.{SoundAppendEnds, SoundFails, IsLawfulWhere, append_sound, none_appends}
use Rattle.bcv_publish.proofs.Growth.{Later}

-- ---- whatever the store

pub answered_leaves : (m : Manifest) (a : Put) (result : Created) → CreateAnswered a m result → CreateLeaves m result
answered_leaves m (answer.Stored etag) result is = subst (CreateLeaves m) (sym is) refl
answered_leaves m answer.Refused result is = subst (CreateLeaves m) (sym is) tt
answered_leaves m answer.Failed result is = subst (CreateLeaves m) (sym is) tt
answered_leaves m answer.NoMemory result is = subst (CreateLeaves m) (sym is) tt

-- ---- over any log

create_ends : (o : Outcome) (held : Bool) (log after : List Entry) (m : Manifest) (a : Put) (result : Created) → AppendEnds o held log after m a → CreateAnswered a m result → CreateEnds o held log after m result
create_ends o held log after m (answer.Stored etag) result ends is = subst (CreateEnds o held log after m) (sym is) (ends.0, ends.1, ends.2, refl)
create_ends o held log after m answer.Refused result ends is = subst (CreateEnds o held log after m) (sym is) ends
create_ends o held log after m answer.Failed result ends is = subst (CreateEnds o held log after m) (sym is) ends
create_ends o held log after m answer.NoMemory result ends is = subst (CreateEnds o held log after m) (sym is) ends

-- ---- over a sound log

-- whether there is a manifest, by the log's history
record IsAbsent (absent : Bool) (last : Option Manifest) : Type 0 where
  none : absent ≡ true → last ≡ None
  some : absent ≡ false → is_none last ≡ false

absent_by : (x : Option Object) (last : Option Manifest) → Agrees x last → IsAbsent (is_none x) last
absent_by None None a = record { none = λ h. refl; some = λ h. absurd (cc) }
absent_by None (Some m) a = absurd a
absent_by (Some x) None a = absurd a
absent_by (Some x) (Some m) a = record { none = λ h. absurd (cc); some = λ h. refl }

lost_sound : (absent : Bool) (last : Option Manifest) (own : List Entry) (m : Manifest) → IsAbsent absent last → SoundFails outcome.Lost absent own m → CreateLost last own m
lost_sound true None own m h f = f
lost_sound true (Some k) own m h f = absurd (let both : ◌≡◌ {A = Option Manifest} (Some k) None = h.none refl in cc)
lost_sound false None own m h f = absurd (let both : true ≡ false = h.some refl in cc)
lost_sound false (Some k) own m h f = f

fails_sound : (o : Outcome) (absent : Bool) (last : Option Manifest) (own : List Entry) (m : Manifest) → IsAbsent absent last → SoundFails o absent own m → CreateFails o last own m
fails_sound outcome.Ok absent last own m h f = f
fails_sound outcome.Fail absent last own m h f = f
fails_sound outcome.Lost absent last own m h f = lost_sound absent last own m h f

sound_ends : (o : Outcome) (absent : Bool) (last : Option Manifest) (own : List Entry) (m : Manifest) (a : Put) (result : Created) → IsAbsent absent last → SoundAppendEnds o absent own m a → CreateAnswered a m result
    → SoundCreateEnds o last own m result
sound_ends o absent last own m (answer.Stored etag) result h ends is = subst (SoundCreateEnds o last own m) (sym is) (ends.0, h.none ends.1, ends.2, refl)
sound_ends o absent last own m answer.Refused result h ends is = subst (SoundCreateEnds o last own m) (sym is) (ends.0, h.some ends.1, ends.2)
sound_ends o absent last own m answer.Failed result h ends is = subst (SoundCreateEnds o last own m) (sym is) (fails_sound o absent last own m h ends)
sound_ends o absent last own m answer.NoMemory result h ends is = subst (SoundCreateEnds o last own m) (sym is) ends

-- the first manifest is lawful where there is none
first_lawful : (mine : List Id16) (before : List Entry) (block retention : ℕ) (id writer : Id16) (moment : ℕ) → is_block_size block ≡ true → retention < 2 ^ 64 → moment < 2 ^ 64 → IsId id → IsId writer
    → MayCreate mine before writer id → IsLawfulWhere mine before cond.Absent (first_manifest block retention id writer moment)
first_lawful mine before block retention id writer moment size small short is_id is_writer may others later rising absent theirs apart =
    let log : List Entry = before ++ others in
    let none : last_of (history_of log) ≡ None = (absent_by (object_of object.Manifest log) (last_of (history_of log)) (log_agrees log later.sound)).none absent in
    first_is_lawful theirs (history_of log) block retention id writer moment size small short is_id is_writer none (later.untouched.unpublished id may.id_mine may.fresh) (apart id may.id_mine) (apart writer may.writer_mine)

-- ---- the whole

answered_takes : (told : StoreTold) (old new : StoreShown) (m : Manifest) (a : Put) (result : Created) → CreateAnswered a m result → AppendTakes told old new a → CreateTakes told old new result
answered_takes told old new m (answer.Stored etag) result is takes = subst (CreateTakes told old new) (sym is) takes
answered_takes told old new m answer.Refused result is takes = subst (CreateTakes told old new) (sym is) takes
answered_takes told old new m answer.Failed result is takes = subst (CreateTakes told old new) (sym is) takes
answered_takes told old new m answer.NoMemory result is takes = subst (CreateTakes told old new) (sym is) takes

answered_cause : (before now : ℕ) (m : Manifest) (a : Put) (result : Created) → CreateAnswered a m result → (a ≡ answer.Failed → Rose before now) → CreateCause before now result
answered_cause before now m (answer.Stored etag) result is rose = subst (CreateCause before now) (sym is) tt
answered_cause before now m answer.Refused result is rose = subst (CreateCause before now) (sym is) tt
answered_cause before now m answer.Failed result is rose = subst (CreateCause before now) (sym is) (rose refl)
answered_cause before now m answer.NoMemory result is rose = subst (CreateCause before now) (sym is) tt

pub create_creates : (told : StoreTold) (old new : StoreShown) (block retention : ℕ) (id writer : Id16) (moment : ℕ) (m : Manifest) (a : Put) (result : Created) → is_block_size block ≡ true → retention < 2 ^ 64 → moment < 2 ^ 64
    → IsId id → IsId writer → (told.tells → are_rising new.log ≡ true) → m ≡ first_manifest block retention id writer moment → ManifestAppends told old new cond.Absent m a → CreateAnswered a m result
    → ManifestCreates told old new writer id (first_manifest block retention id writer moment) result
create_creates told old new block retention id writer moment made a result size small short is_id is_writer rising is made_appends made_answered =
    let m : Manifest = first_manifest block retention id writer moment in
    let appends : ManifestAppends told old new cond.Absent m a = subst (λ (k : Manifest). ManifestAppends told old new cond.Absent k a) is made_appends in
    let answered : CreateAnswered a m result = subst (λ (k : Manifest). CreateAnswered a k result) is made_answered in
    record {
      told = λ tells. let t = appends.told tells in
          let log : List Entry = old.log ++ t.others in
          record {
            others = t.others;
            by_others = t.by_others;
            outcome = t.outcome;
            next = t.next;
            ends = create_ends t.outcome (is_none (object_of object.Manifest log)) log new.log m a result t.ends answered;
          };
      sound = λ tells mine s honest may. let x = append_sound told mine old new cond.Absent m a (rising tells) (appends.told tells) s honest (first_lawful mine old.log block retention id writer moment size small short is_id is_writer may) in
          let log : List Entry = old.log ++ x.growth.others in
          record {
            growth = x.growth;
            outcome = x.outcome;
            next = x.next;
            ends = sound_ends x.outcome (is_none (object_of object.Manifest log)) (last_of (history_of log)) x.growth.own m a result
                (absent_by (object_of object.Manifest log) (last_of (history_of log)) (log_agrees log x.later.sound)) x.ends answered;
          };
      taken = answered_takes told old new m a result answered appends.taken;
      later = appends.later;
      failed = answered_cause old.faults new.faults m a result answered appends.failed;
    }

-- the first manifest may be written
pub first_rules : (block retention : ℕ) (id writer : Id16) (moment : ℕ) (m : Manifest) → is_block_size block ≡ true → retention < 2 ^ 64 → moment < 2 ^ 64 → IsId id → IsId writer → m ≡ first_manifest block retention id writer moment
    → MeetsRules m × MeetsLimits m × IsShort m
first_rules block retention id writer moment m size small short is_id is_writer is =
    let meets = first_meets_rules block retention id writer moment size small short is_id is_writer in
    (subst MeetsRules (sym is) meets.0, subst MeetsLimits (sym is) meets.1, subst IsShort (sym is) meets.2)
