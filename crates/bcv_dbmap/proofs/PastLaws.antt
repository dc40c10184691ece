-- What a history in which each manifest reads, is made and is safe says of its last manifest, and of dead and deleted blocks.
use Rattle.std.proofs.Common.{◌≡◌, ◌∙◌, ℕ, Bool, true, false, ◌||◌, inl, inr, List, [], ◌∷◌, Option, Some, None, is_some, IfSome, refl, sym, ap, subst}
use Rattle.std.proofs.lemmas.Option.{same_Some}
use Rattle.bcv_base.specs.declared.id.Id16.{Id16}
use Rattle.bcv_base.specs.declared.manifest.DbEntry.{DbEntry}
use Rattle.bcv_base.specs.declared.manifest.Dead.{Dead}
use Rattle.bcv_base.specs.declared.manifest.Manifest.{Manifest}
use Rattle.bcv_base.specs.History.{Item, BlockPut, Published, Unreadable, BlockDeleted, ManifestDeleted, Always, last_of, count_of}
use Rattle.bcv_base.specs.HistoryLaws.{id_eq-is}
use Rattle.bcv_base.specs.Ids.{id_eq}
use Rattle.bcv_base.specs.Keyed.{keyed}
use Rattle.bcv_base.specs.ManifestRules.{dead_id, lists, is_dead, MeetsDeadRules, MeetsRules, MeetsLimits}
use Rattle.bcv_base.specs.Versions.{IsVersion, Reads}
use Rattle.bcv_dbmap.specs.Deletions.{IsDeletable, IsSafe}
use Rattle.bcv_dbmap.specs.Past.{IsAmong, WasEntry, some_manifest, was_listed, was_dead, was_deleted, was_expired, is_old, last_own}
use Rattle.bcv_dbmap.specs.Sound.{IsFirst, Follows, IsMade, StaysDead}
use Rattle.bcv_dbmap.proofs.Bools.{or_cases, or_left, or_right, not_passed, neither_or, not_both}
use Rattle.bcv_dbmap.proofs.EditLaws.{edit_died}
use Rattle.bcv_dbmap.proofs.Keys.{keyed_key, all_found}

-- ---- the last manifest

-- what holds of it holds of some
pub last_some : (test : Manifest → Bool) (past : List Item) (m : Manifest) → last_of past ≡ Some m → test m ≡ true → some_manifest test past ≡ true
last_some test [] m last h = absurd cc
last_some test (BlockPut i bytes ∷ past) m last h = last_some test past m last h
last_some test (Published k ∷ past) m last h = or_left (test k) (some_manifest test past) (ap test (same_Some k m last) ∙ h)
last_some test (Unreadable ∷ past) m last h = last_some test past m last h
last_some test (BlockDeleted i at ∷ past) m last h = last_some test past m last h
last_some test (ManifestDeleted ∷ past) m last h = last_some test past m last h

-- what holds of none does not hold of it
pub last_not : (test : Manifest → Bool) (past : List Item) (m : Manifest) → last_of past ≡ Some m → some_manifest test past ≡ false → test m ≡ false
last_not test past m last none = not_passed (test m) (λ h. not_both (some_manifest test past) (last_some test past m last h) none)

-- where there is none, nothing holds of any
pub no_last : (test : Manifest → Bool) (past : List Item) → last_of past ≡ None → some_manifest test past ≡ false
no_last test [] last = refl
no_last test (BlockPut i bytes ∷ past) last = no_last test past last
no_last test (Published k ∷ past) last = absurd cc
no_last test (Unreadable ∷ past) last = no_last test past last
no_last test (BlockDeleted i at ∷ past) last = no_last test past last
no_last test (ManifestDeleted ∷ past) last = no_last test past last

pub last_entry : (d : DbEntry) (past : List Item) (m : Manifest) → last_of past ≡ Some m → IsAmong d m.dbs → WasEntry d past
last_entry d [] m last among = absurd cc
last_entry d (BlockPut i bytes ∷ past) m last among = last_entry d past m last among
last_entry d (Published k ∷ past) m last among = inl (subst (λ (x : Manifest). IsAmong d x.dbs) (sym (same_Some k m last)) among)
last_entry d (Unreadable ∷ past) m last among = last_entry d past m last among
last_entry d (BlockDeleted i at ∷ past) m last among = last_entry d past m last among
last_entry d (ManifestDeleted ∷ past) m last among = last_entry d past m last among

-- where there is none, no entry was
pub no_entry : (d : DbEntry) (past : List Item) → last_of past ≡ None → WasEntry d past → ⊥
no_entry d [] last was = was
no_entry d (BlockPut i bytes ∷ past) last was = no_entry d past last was
no_entry d (Published k ∷ past) last was = absurd cc
no_entry d (Unreadable ∷ past) last was = no_entry d past last was
no_entry d (BlockDeleted i at ∷ past) last was = no_entry d past last was
no_entry d (ManifestDeleted ∷ past) last was = no_entry d past last was

pub no_count : (past : List Item) → Always Reads past → last_of past ≡ None → count_of past ≡ 0
no_count [] reads last = refl
no_count (BlockPut i bytes ∷ past) reads last = no_count past reads.0 last
no_count (Published k ∷ past) reads last = absurd cc
no_count (Unreadable ∷ past) reads last = absurd reads.1
no_count (BlockDeleted i at ∷ past) reads last = no_count past reads.0 last
no_count (ManifestDeleted ∷ past) reads last = no_count past reads.0 last

-- where there is none, no writer has an own one
pub no_own : (past : List Item) (i : Id16) → last_of past ≡ None → last_own past i ≡ None
no_own [] i last = refl
no_own (BlockPut j bytes ∷ past) i last = no_own past i last
no_own (Published k ∷ past) i last = absurd cc
no_own (Unreadable ∷ past) i last = no_own past i last
no_own (BlockDeleted j at ∷ past) i last = no_own past i last
no_own (ManifestDeleted ∷ past) i last = no_own past i last

-- what is said of the last one, of a given one
pub of_last : (P : Manifest → Type 0) (past : List Item) (m : Manifest) → last_of past ≡ Some m → IfSome (last_of past) P → P m
of_last P past m last h = subst (λ (o : Option Manifest). IfSome o P) last h

-- it meets the rules, and is within the limits
pub last_version : (past : List Item) (m : Manifest) → Always Reads past → last_of past ≡ Some m → MeetsRules m × MeetsLimits m
last_version [] m reads last = absurd cc
last_version (BlockPut i bytes ∷ past) m reads last = last_version past m reads.0 last
last_version (Published k ∷ past) m reads last = let is : IsVersion past k = reads.1 in subst (λ (x : Manifest). MeetsRules x × MeetsLimits x) (same_Some k m last) (is.rules, is.limits)
last_version (Unreadable ∷ past) m reads last = absurd reads.1
last_version (BlockDeleted i at ∷ past) m reads last = last_version past m reads.0 last
last_version (ManifestDeleted ∷ past) m reads last = last_version past m reads.0 last

pub last_rules : (past : List Item) (m : Manifest) → Always Reads past → last_of past ≡ Some m → MeetsRules m
last_rules past m reads last = (last_version past m reads last).0

-- ---- dead blocks

-- what a manifest lists is not in its delete list
pub apart : (m : Manifest) (i : Id16) → MeetsRules m → lists m.dbs i ≡ true → is_dead m.dead i ≡ false
apart m i rules listed = found (keyed dead_id i.0 m.dead) refl
  where
    found : (o : Option Dead) → keyed dead_id i.0 m.dead ≡ o → is_some o ≡ false
    found None e = refl
    found (Some d) e =
        let of_d : MeetsDeadRules m.dbs d = all_found dead_id (MeetsDeadRules m.dbs) i.0 m.dead d rules.each_dead e in
        let same : d.id.0 ≡ i.0 = keyed_key dead_id i.0 m.dead d e in
        not_both (lists m.dbs i) listed (subst (λ (k : List ℕ). let j : Id16 = record { 0 = k } in lists m.dbs j ≡ false) same of_d.unlisted)

-- what the last manifest lists never was dead
pub last_dead : (past : List Item) (m : Manifest) (i : Id16) → Always Reads past → Always StaysDead past → last_of past ≡ Some m → lists m.dbs i ≡ true → was_dead past i ≡ false
last_dead [] m i reads stays last listed = absurd cc
last_dead (BlockPut j bytes ∷ past) m i reads stays last listed = last_dead past m i reads.0 stays.0 last listed
last_dead (Published k ∷ past) m i reads stays last listed =
    let is : IsVersion past k = reads.1 in
    let of_k : lists k.dbs i ≡ true = ap (λ (x : Manifest). lists x.dbs i) (same_Some k m last) ∙ listed in
    neither_or (is_dead k.dead i) (was_dead past i) (apart k i is.rules of_k) (stays.1 i of_k)
last_dead (Unreadable ∷ past) m i reads stays last listed = absurd reads.1
last_dead (BlockDeleted j at ∷ past) m i reads stays last listed = last_dead past m i reads.0 stays.0 last listed
last_dead (ManifestDeleted ∷ past) m i reads stays last listed = last_dead past m i reads.0 stays.0 last listed

-- what some manifest is, it is by a weaker test
some_weaker : (f g : Manifest → Bool) (past : List Item) → ((m : Manifest) → f m ≡ true → g m ≡ true) → some_manifest f past ≡ true → some_manifest g past ≡ true
some_weaker f g [] weaker h = absurd cc
some_weaker f g (BlockPut j bytes ∷ past) weaker h = some_weaker f g past weaker h
some_weaker f g (Published m ∷ past) weaker h = elim (or_cases (f m) (some_manifest f past) h) as (λ c. (g m || some_manifest g past) ≡ true) [
  | inl here ↦ or_left (g m) (some_manifest g past) (weaker m here)
  | inr there ↦ or_right (g m) (some_manifest g past) (some_weaker f g past weaker there)
]
some_weaker f g (Unreadable ∷ past) weaker h = some_weaker f g past weaker h
some_weaker f g (BlockDeleted j at ∷ past) weaker h = some_weaker f g past weaker h
some_weaker f g (ManifestDeleted ∷ past) weaker h = some_weaker f g past weaker h

pub expired_dead : (past : List Item) (i : Id16) (at : ℕ) → was_expired past i at ≡ true → was_dead past i ≡ true
expired_dead past i at =
    some_weaker (λ (m : Manifest). is_old (keyed dead_id i.0 m.dead) m.retention at) (λ (m : Manifest). is_dead m.dead i) past (λ m h. old_is (keyed dead_id i.0 m.dead) m.retention h)
  where
    old_is : (o : Option Dead) (retention : ℕ) → is_old o retention at ≡ true → is_some o ≡ true
    old_is None retention h = h
    old_is (Some e) retention h = refl

-- what was deleted was dead
pub deleted_dead : (past : List Item) (i : Id16) → Always IsSafe past → was_deleted past i ≡ true → was_dead past i ≡ true
deleted_dead [] i safe h = absurd cc
deleted_dead (BlockPut j bytes ∷ past) i safe h = deleted_dead past i safe.0 h
deleted_dead (Published m ∷ past) i safe h = or_right (is_dead m.dead i) (was_dead past i) (deleted_dead past i safe.0 h)
deleted_dead (Unreadable ∷ past) i safe h = deleted_dead past i safe.0 h
deleted_dead (BlockDeleted j at ∷ past) i safe h =
    let may : IsDeletable past j at = safe.1 in
    elim (or_cases (id_eq j i) (was_deleted past i) h) as (λ c. was_dead past i ≡ true) [
      | inl here ↦ subst (λ (k : Id16). was_dead past k ≡ true) (id_eq-is j i here) (expired_dead past j at may.expired)
      | inr there ↦ deleted_dead past i safe.0 there
    ]
deleted_dead (ManifestDeleted ∷ past) i safe h = deleted_dead past i safe.0 h

-- what was dead was listed
pub dead_listed : (past : List Item) (i : Id16) → Always IsMade past → was_dead past i ≡ true → was_listed past i ≡ true
dead_listed [] i made h = absurd cc
dead_listed (BlockPut j bytes ∷ past) i made h = dead_listed past i made.0 h
dead_listed (Published m ∷ past) i made h =
    or_right (lists m.dbs i) (was_listed past i)
    (elim (or_cases (is_dead m.dead i) (was_dead past i) h) as (λ c. was_listed past i ≡ true) [
      | inl here ↦ followed (last_of past) refl made.1 here (dead_listed past i made.0)
      | inr there ↦ dead_listed past i made.0 there
    ])
  where
    followed : (o : Option Manifest) → last_of past ≡ o → Follows o m → is_dead m.dead i ≡ true → (was_dead past i ≡ true → was_listed past i ≡ true) → was_listed past i ≡ true
    followed None last follows dead before =
        let first : IsFirst m = follows in
        let none : is_dead m.dead i ≡ false = ap (λ (k : Manifest). is_dead k.dead i) first.made in
        not_both (is_dead m.dead i) dead none
    followed (Some old) last follows dead before = elim (edit_died old m follows i dead) as (λ c. was_listed past i ≡ true) [
      | inl listed ↦ last_some (λ (k : Manifest). lists k.dbs i) past old last listed
      | inr was ↦ before (last_some (λ (k : Manifest). is_dead k.dead i) past old last was)
    ]
dead_listed (Unreadable ∷ past) i made h = dead_listed past i made.0 h
dead_listed (BlockDeleted j at ∷ past) i made h = dead_listed past i made.0 h
dead_listed (ManifestDeleted ∷ past) i made h = dead_listed past i made.0 h
