-- Why a block that a manifest lists may be gone later: some manifest between does not list it, and lies the retention back.
use Rattle.std.proofs.Common.{◌≡◌, ◌∙◌, ℕ, true, false, inl, inr, List, [], ◌∷◌, ◌++◌, Option, Some, None, refl, sym, ap, subst}
use Rattle.bcv_base.specs.declared.id.Id16.{Id16}
use Rattle.bcv_base.specs.declared.manifest.DbEntry.{DbEntry}
use Rattle.bcv_base.specs.declared.manifest.Manifest.{Manifest}
use Rattle.bcv_base.specs.History.{Item, BlockPut, Published, Unreadable, BlockDeleted, ManifestDeleted, Always, last_of}
use Rattle.bcv_base.specs.HistoryLaws.{id_eq-is}
use Rattle.bcv_base.specs.Ids.{id_eq, has_id}
use Rattle.bcv_base.specs.Keyed.{keyed}
use Rattle.bcv_base.specs.ManifestRules.{dead_id, lists, is_dead, MeetsRules}
use Rattle.bcv_base.specs.Versions.{IsVersion, Reads}
use Rattle.bcv_dbmap.specs.Deletions.{IsDeletable, IsSafe}
use Rattle.bcv_dbmap.specs.Laws.{DeletedIsOutlived, GoneIsOutlived}
use Rattle.bcv_dbmap.specs.Outlived.{IsPublished, IsDeletedIn, IsOutlived}
use Rattle.bcv_dbmap.specs.Past.{IsAmong, WasEntry, is_old, was_dead, was_deleted, was_expired}
use Rattle.bcv_dbmap.specs.Sound.{Follows, IsMade, StaysDead}
use Rattle.bcv_dbmap.proofs.Bools.{or_cases, neither_or, not_both}
use Rattle.bcv_dbmap.proofs.EditLaws.{edit_expired}
use Rattle.bcv_dbmap.proofs.Entries.{lists_among}
use Rattle.bcv_dbmap.proofs.PastLaws.{last_some, apart, expired_dead}

-- ---- histories in two parts

-- what holds of each item of a history holds of those before some of it
always_before : (P : List Item → Item → Type 0) (later before : List Item) → Always P (later ++ before) → Always P before
always_before P [] before all = all
always_before P (x ∷ xs) before all = always_before P xs before all.0

-- where a manifest stands before, there is a last one
last_there : (later before : List Item) (m : Manifest) → last_of (later ++ Published m ∷ before) ≡ None → ⊥
last_there [] before m none = absurd cc
last_there (BlockPut i bytes ∷ xs) before m none = last_there xs before m none
last_there (Published k ∷ xs) before m none = absurd cc
last_there (Unreadable ∷ xs) before m none = last_there xs before m none
last_there (BlockDeleted i at ∷ xs) before m none = last_there xs before m none
last_there (ManifestDeleted ∷ xs) before m none = last_there xs before m none

-- one more entry behind
more_outlived : (x : Item) (later : List Item) (i : Id16) (at : ℕ) → IsOutlived later i at → IsOutlived (x ∷ later) i at
more_outlived x later i at o = record { manifest = o.manifest; published = inr o.published; unlisted = o.unlisted; old = o.old }

-- ---- a block that some manifest lists

module _ (before : List Item) (m : Manifest) (i : Id16) (listed : lists m.dbs i ≡ true) (rules : MeetsRules m) (fresh : was_dead before i ≡ false) where
  -- where it lies the retention back, a later manifest does not list it and lies it back
  expired_outlived : (later : List Item) (at : ℕ) → Always IsMade (later ++ Published m ∷ before) → was_expired (later ++ Published m ∷ before) i at ≡ true → IsOutlived later i at
  expired_outlived [] at made h =
      not_both (was_dead (Published m ∷ before) i) (expired_dead (Published m ∷ before) i at h) (neither_or (is_dead m.dead i) (was_dead before i) (apart m i rules listed) fresh)
  expired_outlived (BlockPut j bytes ∷ xs) at made h = more_outlived (BlockPut j bytes) xs i at (expired_outlived xs at made.0 h)
  expired_outlived (Published k ∷ xs) at made h =
      elim (or_cases (is_old (keyed dead_id i.0 k.dead) k.retention at) (was_expired (xs ++ Published m ∷ before) i at) h) as (λ c. IsOutlived (Published k ∷ xs) i at) [
        | inl here ↦ followed (last_of (xs ++ Published m ∷ before)) refl made.1 here (λ g. expired_outlived xs at made.0 g)
        | inr there ↦ more_outlived (Published k) xs i at (expired_outlived xs at made.0 there)
      ]
    where
      followed : (o : Option Manifest) → last_of (xs ++ Published m ∷ before) ≡ o → Follows o k → is_old (keyed dead_id i.0 k.dead) k.retention at ≡ true
          → (was_expired (xs ++ Published m ∷ before) i at ≡ true → IsOutlived xs i at) → IsOutlived (Published k ∷ xs) i at
      followed None last follows old rest = absurd (last_there xs before m last)
      followed (Some was) last follows old rest = elim (edit_expired was k follows i at old) as (λ c. IsOutlived (Published k ∷ xs) i at) [
        | inl now ↦ record { manifest = k; published = inl refl; unlisted = now.0; old = now.1 }
        | inr then ↦ more_outlived (Published k) xs i at (rest (last_some (λ (n : Manifest). is_old (keyed dead_id i.0 n.dead) n.retention at) (xs ++ Published m ∷ before) was last then))
      ]
  expired_outlived (Unreadable ∷ xs) at made h = more_outlived Unreadable xs i at (expired_outlived xs at made.0 h)
  expired_outlived (BlockDeleted j when ∷ xs) at made h = more_outlived (BlockDeleted j when) xs i at (expired_outlived xs at made.0 h)
  expired_outlived (ManifestDeleted ∷ xs) at made h = more_outlived ManifestDeleted xs i at (expired_outlived xs at made.0 h)

  -- and so it does where it was deleted
  deleted_outlived : (later : List Item) (at : ℕ) → Always IsMade (later ++ Published m ∷ before) → Always IsSafe (later ++ Published m ∷ before) → IsDeletedIn later i at → IsOutlived later i at
  deleted_outlived [] at made safe deleted = absurd deleted
  deleted_outlived (x ∷ xs) at made safe (inl is) =
      let may : IsDeletable (xs ++ Published m ∷ before) i at = subst (IsSafe (xs ++ Published m ∷ before)) is safe.1 in
      more_outlived x xs i at (expired_outlived xs at made.0 may.expired)
  deleted_outlived (x ∷ xs) at made safe (inr deleted) = more_outlived x xs i at (deleted_outlived xs at made.0 safe.0 deleted)

pub deleted_is_outlived : DeletedIsOutlived
deleted_is_outlived later before m i at s listed deleted =
    let is : IsVersion before m = (always_before Reads later (Published m ∷ before) s.reads).1 in
    let stays = always_before StaysDead later (Published m ∷ before) s.stays_dead in
    deleted_outlived before m i listed is.rules (stays.1 i listed) later at s.made s.safe deleted

-- ---- entries

-- an entry of some manifest was one
was_among : (later before : List Item) (m : Manifest) (d : DbEntry) → IsAmong d m.dbs → WasEntry d (later ++ Published m ∷ before)
was_among [] before m d among = inl among
was_among (BlockPut j bytes ∷ xs) before m d among = was_among xs before m d among
was_among (Published k ∷ xs) before m d among = inr (was_among xs before m d among)
was_among (Unreadable ∷ xs) before m d among = was_among xs before m d among
was_among (BlockDeleted j at ∷ xs) before m d among = was_among xs before m d among
was_among (ManifestDeleted ∷ xs) before m d among = was_among xs before m d among

published_entry : (later before : List Item) (k : Manifest) (e : DbEntry) → IsPublished k later → IsAmong e k.dbs → WasEntry e (later ++ before)
published_entry [] before k e published among = absurd published
published_entry (x ∷ xs) before k e (inl is) among = subst (λ (y : Item). WasEntry e (y ∷ (xs ++ before))) (sym is) (inl among)
published_entry (x ∷ xs) before k e (inr published) among = more_entry x (xs ++ before) (published_entry xs before k e published among)
  where
    more_entry : (x : Item) (past : List Item) → WasEntry e past → WasEntry e (x ∷ past)
    more_entry (BlockPut j bytes) past was = was
    more_entry (Published k) past was = inr was
    more_entry Unreadable past was = was
    more_entry (BlockDeleted j at) past was = was
    more_entry ManifestDeleted past was = was

-- what was not deleted before was deleted later
deleted_when : (later before : List Item) (i : Id16) → was_deleted before i ≡ false → was_deleted (later ++ before) i ≡ true → (at : ℕ) × IsDeletedIn later i at
deleted_when [] before i none gone = not_both (was_deleted before i) gone none
deleted_when (BlockPut j bytes ∷ xs) before i none gone = let d = deleted_when xs before i none gone in (d.0, inr d.1)
deleted_when (Published k ∷ xs) before i none gone = let d = deleted_when xs before i none gone in (d.0, inr d.1)
deleted_when (Unreadable ∷ xs) before i none gone = let d = deleted_when xs before i none gone in (d.0, inr d.1)
deleted_when (BlockDeleted j at ∷ xs) before i none gone =
    elim (or_cases (id_eq j i) (was_deleted (xs ++ before) i) gone) as (λ c. (when : ℕ) × IsDeletedIn (BlockDeleted j at ∷ xs) i when) [
      | inl here ↦ (at, inl (ap (λ (k : Id16). BlockDeleted k at) (id_eq-is j i here)))
      | inr there ↦ let d = deleted_when xs before i none there in (d.0, inr d.1)
    ]
deleted_when (ManifestDeleted ∷ xs) before i none gone = let d = deleted_when xs before i none gone in (d.0, inr d.1)

pub gone_is_outlived : GoneIsOutlived
gone_is_outlived later before m d i s among has gone =
    let listed : lists m.dbs i ≡ true = lists_among m.dbs d i among has in
    let safe = always_before IsSafe later (Published m ∷ before) s.safe in
    let deleted = deleted_when later (Published m ∷ before) i (safe.1 i listed) gone in
    let o : IsOutlived later i deleted.0 = deleted_is_outlived later before m i deleted.0 s listed deleted.1 in
    record {
      at = deleted.0;
      manifest = o.manifest;
      deleted = deleted.1;
      published = o.published;
      old = o.old;
      replaced = λ e of_k same.
          let is : e ≡ d = s.tags e d (published_entry later (Published m ∷ before) o.manifest e o.published of_k) (was_among later before m d among) same in
          not_both (lists o.manifest.dbs i) (lists_among o.manifest.dbs e i of_k (ap (λ (x : DbEntry). has_id i x.blocks) is ∙ has)) o.unlisted;
    }
