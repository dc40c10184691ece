-- A block of an upload's base that was outlived may be gone by the machine's rule.
use Rattle.std.proofs.Common.{◌≡◌, ◌∙◌, ◌<◌, ℕ, true, not, List, ◌∷◌, Option, Some, None, refl, sym, ap, subst, arith}
use Rattle.std.specs.Option.{option_map}
use Rattle.bcv_base.specs.declared.id.Id16.{Id16}
use Rattle.bcv_base.specs.declared.manifest.DbEntry.{DbEntry}
use Rattle.bcv_base.specs.declared.manifest.Manifest.{Manifest}
use Rattle.bcv_base.specs.declared.seen.TxnBase.{TxnBase}
use Rattle.bcv_base.specs.History.{Always, Item, Published}
use Rattle.bcv_base.specs.Ids.{id_eq}
use Rattle.bcv_base.specs.Joined.{database_of}
use Rattle.bcv_base.specs.Keyed.{keyed}
use Rattle.bcv_base.specs.ManifestRules.{db_name}
use Rattle.bcv_base.specs.Version.{the_name}
use Rattle.bcv_base.specs.Versions.{Reads, version_of}
use Rattle.bcv_clientstate.specs.SeenContainer.{HasBase, container_of, retention_in}
use Rattle.bcv_clientstate.proofs.Bases.{base_database, last_there, version_there}
use Rattle.bcv_clientstate.proofs.GoneLaws.{Split, SweptBy, deleted_in, found_among, number_later, published_in, split_at, swept_by}
use Rattle.bcv_clientstate.proofs.KeyedMaps.{keyed_map}
use Rattle.bcv_dbmap.specs.Outlived.{IsDeletedIn, IsGone, IsPublished}
use Rattle.bcv_dbmap.specs.Sound.{Sound}
use Rattle.bcv_dbmap.proofs.Chosen.{same_id}
use Rattle.bcv_dbmap.proofs.Keys.{by_test}
use Rattle.bcv_dbmap.proofs.ManifestLaws.{published_is_up_to, published_is_version}
use Rattle.bcv_machine.specs.Gone.{MayBeGone, is_other}
use Rattle.bcv_upload.specs.UploadWork.{IsOutlivedBase}

-- what is found by the name has another tag
lacking : (past : List Item) (tag : Id16) (o : Option DbEntry) → ((d : DbEntry) → o ≡ Some d → d.tag ≡ tag → ⊥) → is_other tag (option_map (database_of past) o) ≡ true
lacking past tag None other = refl
lacking past tag (Some d) other = by_test (id_eq d.tag tag) (λ t. absurd (other d refl (same_id d.tag tag t))) (λ t. ap not t)

pub outlived_base : (moment : ℕ) (past : List Item) (base : TxnBase) (i : Id16) → Sound past → HasBase past base.number base.block base.entry → IsOutlivedBase past base i
    → MayBeGone (container_of moment past) base.entry.name base.number
outlived_base moment past base i sound has outlived =
    let e : DbEntry = base.entry in
    let m : Manifest = has.manifest in
    let s : Split past m = split_at past m has.published in
    let g : IsGone s.later e i = outlived s.later s.before m s.is (found_among e.name m.dbs e has.listed) in
    let k : Manifest = g.manifest in
    let there : IsPublished k past = subst (IsPublished k) (sym s.is) (published_in s.later (Published m ∷ s.before) k g.published) in
    let sw : SweptBy past g.at = swept_by past i g.at (subst (λ (l : List Item). IsDeletedIn l i g.at) (sym s.is) (deleted_in s.later (Published m ∷ s.before) i g.at g.deleted)) in
    let last = last_there past k there in
    let retention : k.retention ≡ retention_in (Some last.0) = (published_is_up_to past k last.0 sound last.1 there).retention in
    record {
      later = k.number;
      is_later = subst (λ (n : ℕ). n < k.number) has.number_is (number_later s.later s.before m k (subst (Always Reads) s.is sound.reads) g.published);
      version = version_of past k;
      is_version = version_there moment past k (published_is_version past k sound there);
      old = database_of past e;
      is_old = base_database moment past base.number base.block e sound has;
      is_lacking =
          ap (is_other e.tag) (keyed_map db_name the_name (database_of past) (λ d. refl) e.name k.dbs)
          ∙ lacking past e.tag (keyed db_name e.name k.dbs) (λ d found same. g.replaced d (found_among e.name k.dbs d found) same);
      deleted = sw.greatest;
      is_greatest = sw.is;
      is_past = let a = g.old in let b = sw.least in let r = retention ∙ ap retention_in (sym last.1) in omega (arith, a, b, r);
    }
