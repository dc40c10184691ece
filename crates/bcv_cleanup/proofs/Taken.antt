-- What a cleanup has taken, over a log that grows.
use Rattle.std.proofs.Common.{◌≡◌, inl, inr, ℕ, ◌+◌, ◌≤◌, Bool, true, false, ◌||◌, List, [], ◌∷◌, ◌++◌, Option, Some, None, refl, sym, subst}
use Rattle.std.proofs.lemmas.Bool.{leb-true}
use Rattle.bcv_base.specs.declared.id.Id16.{Id16}
use Rattle.bcv_base.specs.declared.log.Entry.{Entry}
use Rattle.bcv_base.specs.declared.manifest.Dead.{Dead}
use Rattle.bcv_base.specs.declared.manifest.Manifest.{Manifest}
use Rattle.bcv_base.specs.History.{Item, BlockPut, Published, Unreadable, BlockDeleted, ManifestDeleted, item_of, history_after, history_of}
use Rattle.bcv_base.specs.HistoryLaws.{history_after-append}
use Rattle.bcv_base.specs.Ids.{id_eq}
use Rattle.bcv_base.specs.Keyed.{keyed}
use Rattle.bcv_base.specs.ManifestRules.{dead_id}
use Rattle.bcv_dbmap.specs.Deletions.{IsDeletable}
use Rattle.bcv_dbmap.specs.Outlived.{IsPublished}
use Rattle.bcv_dbmap.specs.Past.{some_manifest, was_deleted, was_expired, is_old}
use Rattle.bcv_dbmap.specs.Sound.{Sound}
use Rattle.bcv_dbmap.proofs.BlockLaws.{dead_is_deletable}
use Rattle.bcv_dbmap.proofs.Bools.{or_right}
use Rattle.bcv_cleanup.specs.CleanupPut.{NewHasTaken, TakenStays}
use Rattle.bcv_cleanup.specs.CleanupWork.{IsExpired}

-- ---- what is so stays so

some_more : (test : Manifest → Bool) (x : Item) (past : List Item) → some_manifest test past ≡ true → some_manifest test (x ∷ past) ≡ true
some_more test (BlockPut j bytes) past h = h
some_more test (Published m) past h = or_right (test m) (some_manifest test past) h
some_more test Unreadable past h = h
some_more test (BlockDeleted j at) past h = h
some_more test ManifestDeleted past h = h

deleted_more : (i : Id16) (x : Item) (past : List Item) → was_deleted past i ≡ true → was_deleted (x ∷ past) i ≡ true
deleted_more i (BlockPut j bytes) past h = h
deleted_more i (Published m) past h = h
deleted_more i Unreadable past h = h
deleted_more i (BlockDeleted j at) past h = or_right (id_eq j i) (was_deleted past i) h
deleted_more i ManifestDeleted past h = h

-- what each entry leaves so, all do
after_all : (P : List Item → Type 0) → ((x : Item) (past : List Item) → P past → P (x ∷ past)) → (past : List Item) (more : List Entry) → P past → P (history_after past more)
after_all P one past [] p = p
after_all P one past (e ∷ es) p = after_all P one (item_of e ∷ past) es (one (item_of e) past p)

after_log : (P : List Item → Type 0) → ((x : Item) (past : List Item) → P past → P (x ∷ past)) → (log more : List Entry) → P (history_of log) → P (history_of (log ++ more))
after_log P one log more p = subst P (sym (history_after-append [] log more)) (after_all P one (history_of log) more p)

expired_more : (i : Id16) (moment : Option ℕ) (x : Item) (past : List Item) → IsExpired past i moment → IsExpired (x ∷ past) i moment
expired_more i None x past h = h
expired_more i (Some at) x past h = some_more (λ (m : Manifest). is_old (keyed dead_id i.0 m.dead) m.retention at) x past h

pub taken_stays : TakenStays
taken_stays log more s has = record {
  expired = λ i h. after_log (λ (past : List Item). IsExpired past i s.moment) (expired_more i s.moment) log more (has.expired i h);
  deleted = λ i h. after_log (λ (past : List Item). was_deleted past i ≡ true) (deleted_more i) log more (has.deleted i h);
}

pub new_has_taken : NewHasTaken
new_has_taken log writer id = record { expired = λ i h. absurd cc; deleted = λ i h. absurd cc }

-- ---- a block whose retention has passed may be deleted

record WasDead (past : List Item) (i : Id16) (at : ℕ) : Type 0 where
  manifest : Manifest
  published : IsPublished manifest past
  entry : Dead
  found : keyed dead_id i.0 manifest.dead ≡ Some entry
  passed : entry.stamp + manifest.retention ≤ at

old_entry : (o : Option Dead) (retention at : ℕ) → is_old o retention at ≡ true → (e : Dead) × (o ≡ Some e) × (e.stamp + retention ≤ at)
old_entry None retention at h = absurd (cc)
old_entry (Some e) retention at h = (e, refl, leb-true (e.stamp + retention) at h)

dead_later : (x : Item) (past : List Item) (i : Id16) (at : ℕ) → WasDead past i at → WasDead (x ∷ past) i at
dead_later x past i at d = record { manifest = d.manifest; published = inr d.published; entry = d.entry; found = d.found; passed = d.passed }

was_dead_of : (past : List Item) (i : Id16) (at : ℕ) → was_expired past i at ≡ true → WasDead past i at
was_dead_of [] i at h = absurd (cc)
was_dead_of (BlockPut j bytes ∷ past) i at h = dead_later (BlockPut j bytes) past i at (was_dead_of past i at h)
was_dead_of (Published m ∷ past) i at h = by_first (is_old (keyed dead_id i.0 m.dead) m.retention at) refl h (was_dead_of past i at)
  where
    by_first : (b : Bool) → is_old (keyed dead_id i.0 m.dead) m.retention at ≡ b → (b || was_expired past i at) ≡ true → (was_expired past i at ≡ true → WasDead past i at) → WasDead (Published m ∷ past) i at
    by_first true is h later = let e = old_entry (keyed dead_id i.0 m.dead) m.retention at is in record { manifest = m; published = inl refl; entry = e.0; found = e.1; passed = e.2 }
    by_first false is h later = dead_later (Published m) past i at (later h)
was_dead_of (Unreadable ∷ past) i at h = dead_later Unreadable past i at (was_dead_of past i at h)
was_dead_of (BlockDeleted j k ∷ past) i at h = dead_later (BlockDeleted j k) past i at (was_dead_of past i at h)
was_dead_of (ManifestDeleted ∷ past) i at h = dead_later ManifestDeleted past i at (was_dead_of past i at h)

pub expired_is_deletable : (past : List Item) (i : Id16) (at : ℕ) → Sound past → was_expired past i at ≡ true → IsDeletable past i at
expired_is_deletable past i at s h = let d = was_dead_of past i at h in dead_is_deletable past d.manifest i d.entry at s d.published d.found d.passed

-- an entry of a published manifest whose retention has passed
pub found_expired : (past : List Item) (m : Manifest) (i : Id16) (at : ℕ) → Sound past → IsPublished m past → is_old (keyed dead_id i.0 m.dead) m.retention at ≡ true → was_expired past i at ≡ true
found_expired past m i at s published h = let e = old_entry (keyed dead_id i.0 m.dead) m.retention at h in (dead_is_deletable past m i e.0 at s published e.1 e.2).expired
