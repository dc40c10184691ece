-- Why a block of a base is gone, in the machine's words.
use Rattle.std.proofs.Common.{◌≡◌, ◌∙◌, ◌≤◌, ◌<◌, ℕ, true, not, max, List, [], ◌∷◌, ◌++◌, Option, Some, None, inl, inr, refl, sym, ap, subst, arith}
use Rattle.std.proofs.lemmas.Option.{same_Some}
use Rattle.std.specs.Option.{option_map}
use Rattle.std.specs.Str.{bytes_eq}
use Rattle.bcv_base.specs.declared.id.Id16.{Id16}
use Rattle.bcv_base.specs.declared.manifest.DbEntry.{DbEntry}
use Rattle.bcv_base.specs.declared.manifest.Manifest.{Manifest}
use Rattle.bcv_base.specs.History.{Item, BlockPut, Published, Unreadable, BlockDeleted, ManifestDeleted, Always, count_of}
use Rattle.bcv_base.specs.Ids.{id_eq}
use Rattle.bcv_base.specs.Joined.{database_of}
use Rattle.bcv_base.specs.Keyed.{keyed}
use Rattle.bcv_base.specs.ManifestRules.{db_name}
use Rattle.bcv_base.specs.Version.{the_name}
use Rattle.bcv_base.specs.Versions.{IsVersion, Reads, version_of}
use Rattle.bcv_dbmap.specs.Outlived.{IsDeletedIn, IsGone, IsPublished}
use Rattle.bcv_dbmap.specs.Past.{IsAmong}
use Rattle.bcv_machine.specs.Gone.{is_other}
use Rattle.bcv_machine.specs.MiddleStep.{swept_at}
use Rattle.bcv_clientstate.specs.GoneLaws.{OutlivedMayBeGone}
use Rattle.bcv_clientstate.specs.SeenContainer.{retention_in, swept_of}
use Rattle.bcv_dbmap.proofs.Chosen.{same_id}
use Rattle.bcv_dbmap.proofs.Keys.{by_test, keyed_here, keyed_there}
use Rattle.bcv_dbmap.proofs.ManifestLaws.{published_is_up_to, published_is_version}
use Rattle.bcv_clientstate.proofs.Bases.{base_database, last_there, version_there}
use Rattle.bcv_clientstate.proofs.KeyedMaps.{keyed_map}

-- ---- entries

-- what is found by a name is among the entries
pub found_among : (name : List ℕ) (ds : List DbEntry) (d : DbEntry) → keyed db_name name ds ≡ Some d → IsAmong d ds
found_among name [] d h = absurd (cc)
found_among name (x ∷ xs) d h =
    by_test (bytes_eq (db_name x) name)
    (λ t. inl (sym (same_Some x d (sym (keyed_here db_name name x xs t) ∙ h))))
    (λ t. inr (found_among name xs d (sym (keyed_there db_name name x xs t) ∙ h)))

-- ---- a place in a history

pub record Split (past : List Item) (m : Manifest) : Type 0 where
  pub later : List Item
  pub before : List Item
  pub is : past ≡ later ++ Published m ∷ before

pub split_at : (past : List Item) (m : Manifest) → IsPublished m past → Split past m
split_at [] m there = absurd there
split_at (x ∷ past) m (inl is) = record { later = []; before = past; is = ap (λ (y : Item). y ∷ past) is }
split_at (x ∷ past) m (inr there) = let s = split_at past m there in record { later = x ∷ s.later; before = s.before; is = ap (λ (l : List Item). x ∷ l) s.is }

pub reads_before : (later before : List Item) (m : Manifest) → Always Reads (later ++ Published m ∷ before) → IsVersion before m
reads_before [] before m reads = reads.1
reads_before (x ∷ xs) before m reads = reads_before xs before m reads.0

pub count_more : (x : Item) (past : List Item) → count_of past ≤ count_of (x ∷ past)
count_more (BlockPut i bytes) past = omega arith
count_more (Published k) past = omega arith
count_more Unreadable past = omega arith
count_more (BlockDeleted i at) past = omega arith
count_more ManifestDeleted past = omega arith

pub count_later : (later past : List Item) → count_of past ≤ count_of (later ++ past)
count_later [] past = omega arith
count_later (x ∷ xs) past = let a = count_later xs past in let b = count_more x (xs ++ past) in omega (arith, a, b)

-- what was published later has a greater number
pub number_later : (later before : List Item) (m k : Manifest) → Always Reads (later ++ Published m ∷ before) → IsPublished k later → m.number < k.number
number_later [] before m k reads there = absurd there
number_later (x ∷ xs) before m k reads (inl is) =
    let reads_x : Reads (xs ++ Published m ∷ before) (Published k) = subst (λ (y : Item). Reads (xs ++ Published m ∷ before) y) is reads.1 in
    let a = count_later xs (Published m ∷ before) in
    let b = (reads_before xs before m reads.0).number in
    let c = reads_x.number in
    omega (arith, a, b, c)
number_later (x ∷ xs) before m k reads (inr there) = number_later xs before m k reads.0 there

pub published_in : (later rest : List Item) (k : Manifest) → IsPublished k later → IsPublished k (later ++ rest)
published_in [] rest k there = absurd there
published_in (x ∷ xs) rest k (inl is) = inl is
published_in (x ∷ xs) rest k (inr there) = inr (published_in xs rest k there)

pub deleted_in : (later rest : List Item) (i : Id16) (at : ℕ) → IsDeletedIn later i at → IsDeletedIn (later ++ rest) i at
deleted_in [] rest i at there = absurd there
deleted_in (x ∷ xs) rest i at (inl is) = inl is
deleted_in (x ∷ xs) rest i at (inr there) = inr (deleted_in xs rest i at there)

-- ---- the greatest moment of a deletion

pub record SweptBy (past : List Item) (at : ℕ) : Type 0 where
  pub greatest : ℕ
  pub is : swept_of past ≡ Some greatest
  pub least : at ≤ greatest

pub swept_more : (at moment : ℕ) (o : Option ℕ) (greatest : ℕ) → o ≡ Some greatest → at ≤ greatest → (g : ℕ) × (swept_at moment o ≡ Some g) × (at ≤ g)
swept_more at moment None greatest is le = absurd (cc)
swept_more at moment (Some earlier) greatest is le = let same : earlier ≡ greatest = cc in (max earlier moment, refl, omega (arith, same, le))

pub swept_now : (moment : ℕ) (o : Option ℕ) → (g : ℕ) × (swept_at moment o ≡ Some g) × (moment ≤ g)
swept_now moment None = (moment, refl, omega arith)
swept_now moment (Some earlier) = (max earlier moment, refl, omega arith)

pub swept_by : (past : List Item) (i : Id16) (at : ℕ) → IsDeletedIn past i at → SweptBy past at
swept_by [] i at there = absurd there
swept_by (BlockPut j bytes ∷ past) i at (inl is) = absurd (cc)
swept_by (BlockPut j bytes ∷ past) i at (inr there) = let s = swept_by past i at there in record { greatest = s.greatest; is = s.is; least = s.least }
swept_by (Published k ∷ past) i at (inl is) = absurd (cc)
swept_by (Published k ∷ past) i at (inr there) = let s = swept_by past i at there in record { greatest = s.greatest; is = s.is; least = s.least }
swept_by (Unreadable ∷ past) i at (inl is) = absurd (cc)
swept_by (Unreadable ∷ past) i at (inr there) = let s = swept_by past i at there in record { greatest = s.greatest; is = s.is; least = s.least }
swept_by (BlockDeleted j moment ∷ past) i at (inl is) =
    let same : moment ≡ at = cc in let s = swept_now moment (swept_of past) in record { greatest = s.0; is = s.1; least = let le = s.2 in omega (arith, same, le) }
swept_by (BlockDeleted j moment ∷ past) i at (inr there) =
    let s = swept_by past i at there in let t = swept_more at moment (swept_of past) s.greatest s.is s.least in record { greatest = t.0; is = t.1; least = t.2 }
swept_by (ManifestDeleted ∷ past) i at (inl is) = absurd (cc)
swept_by (ManifestDeleted ∷ past) i at (inr there) = let s = swept_by past i at there in record { greatest = s.greatest; is = s.is; least = s.least }

-- ---- a later version without the entry

-- what is found by the name has another tag
lacking : (past : List Item) (tag : Id16) (o : Option DbEntry) → ((d : DbEntry) → o ≡ Some d → d.tag ≡ tag → ⊥) → is_other tag (option_map (database_of past) o) ≡ true
lacking past tag None other = refl
lacking past tag (Some d) other = by_test (id_eq d.tag tag) (λ t. absurd (other d refl (same_id d.tag tag t))) (λ t. ap not t)

pub outlived_may_be_gone : OutlivedMayBeGone
outlived_may_be_gone moment past number block e i sound has listed outlived =
    let m : Manifest = has.manifest in
    let s : Split past m = split_at past m has.published in
    let g : IsGone s.later e i = outlived s.later s.before m e s.is (found_among e.name m.dbs e has.listed) listed in
    let k : Manifest = g.manifest in
    let there : IsPublished k past = subst (IsPublished k) (sym s.is) (published_in s.later (Published m ∷ s.before) k g.published) in
    let sw : SweptBy past g.at = swept_by past i g.at (subst (λ (l : List Item). IsDeletedIn l i g.at) (sym s.is) (deleted_in s.later (Published m ∷ s.before) i g.at g.deleted)) in
    let last = last_there past k there in
    let retention : k.retention ≡ retention_in (Some last.0) = (published_is_up_to past k last.0 sound last.1 there).retention in
    record {
      later = k.number;
      is_later = subst (λ (n : ℕ). n < k.number) has.number_is (number_later s.later s.before m k (subst (Always Reads) s.is sound.reads) g.published);
      version = version_of past k;
      is_version = version_there moment past k (published_is_version past k sound there);
      old = database_of past e;
      is_old = base_database moment past number block e sound has;
      is_lacking =
          ap (is_other e.tag) (keyed_map db_name the_name (database_of past) (λ d. refl) e.name k.dbs)
          ∙ lacking past e.tag (keyed db_name e.name k.dbs) (λ d found same. g.replaced d (found_among e.name k.dbs d found) same);
      deleted = sw.greatest;
      is_greatest = sw.is;
      is_past = let a = g.old in let b = sw.least in let r = retention ∙ ap retention_in (sym last.1) in omega (arith, a, b, r);
    }
