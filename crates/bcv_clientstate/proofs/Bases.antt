-- Bases in the machine's words, and that they stay.
use Rattle.std.proofs.Common.{◌≡◌, ◌∙◌, ℕ, zero, suc, ◌-◌, Bool, cond, List, [], ◌∷◌, length, drop, Some, None, slice_get, inl, inr, refl, sym, ap, subst, arith}
use Rattle.std.proofs.lemmas.Bool.{ne_eqb}
use Rattle.std.specs.Prelude.{option_and_then}
use Rattle.std.specs.Option.{option_map}
use Rattle.bcv_base.specs.declared.log.Entry.{Entry}
use Rattle.bcv_base.specs.declared.manifest.Manifest.{Manifest}
use Rattle.bcv_base.specs.History.{Item, BlockPut, Published, Unreadable, BlockDeleted, ManifestDeleted, item_of, history_after, history_of, last_of}
use Rattle.bcv_base.specs.HistoryLaws.{history_after-append}
use Rattle.bcv_base.specs.Joined.{database_of, pages_of}
use Rattle.bcv_base.specs.Keyed.{keyed}
use Rattle.bcv_base.specs.ManifestRules.{db_name}
use Rattle.bcv_base.specs.Version.{Version, the_name}
use Rattle.bcv_base.specs.Versions.{version_of, versions_of}
use Rattle.bcv_dbmap.specs.ManifestLaws.{IsVersionOf}
use Rattle.bcv_dbmap.specs.Outlived.{IsPublished}
use Rattle.bcv_machine.specs.State.{Container, database_at, version_at}
use Rattle.bcv_clientstate.specs.BaseLaws.{BaseHasBlock, BaseIsDatabase, BaseStays}
use Rattle.bcv_clientstate.specs.SeenContainer.{block_in, container_of}
use Rattle.bcv_dbmap.proofs.ManifestLaws.{published_is_up_to, published_is_version}
use Rattle.bcv_clientstate.proofs.KeyedMaps.{keyed_map}

-- the version of a manifest's number
pub version_there : (moment : ℕ) (past : List Item) (m : Manifest) → IsVersionOf past m → version_at (container_of moment past) m.number ≡ Some (version_of past m)
version_there moment past m is =
    ap (λ (b : Bool). cond b None (slice_get (versions_of past) (m.number - 1))) (ne_eqb m.number 0 (λ e. absurd (omega arith)))
    ∙ is.at

pub base_database : BaseIsDatabase
base_database moment past number block e sound has =
    let c : Container = container_of moment past in
    let m : Manifest = has.manifest in
    ap (λ (n : ℕ). database_at c n e.name) (sym has.number_is)
    ∙ ap (option_and_then (λ (v : Version). keyed the_name e.name v.dbs)) (version_there moment past m (published_is_version past m sound has.published))
    ∙ keyed_map db_name the_name (database_of past) (λ d. refl) e.name m.dbs
    ∙ ap (option_map (database_of past)) has.listed

-- an image has the pages of its entry
pub pages_len : (n page_size : ℕ) (bytes : List ℕ) → length (pages_of n page_size bytes) ≡ n
pages_len zero page_size bytes = refl
pages_len (suc n) page_size bytes = ap suc (pages_len n page_size (drop page_size bytes))

pub published_after : (m : Manifest) (past : List Item) (log : List Entry) → IsPublished m past → IsPublished m (history_after past log)
published_after m past [] there = there
published_after m past (e ∷ es) there = published_after m (item_of e ∷ past) es (inr there)

pub stays : BaseStays
stays log more number block e has =
    record { manifest = has.manifest; number_is = has.number_is; block_is = has.block_is; listed = has.listed; published = subst (IsPublished has.manifest) (sym (history_after-append [] log more)) (published_after has.manifest (history_of log) more has.published) }

-- where a manifest was published there is a last one
pub last_there : (past : List Item) (m : Manifest) → IsPublished m past → (l : Manifest) × (last_of past ≡ Some l)
last_there [] m there = absurd there
last_there (BlockPut i bytes ∷ past) m (inl e) = absurd (cc)
last_there (BlockPut i bytes ∷ past) m (inr there) = last_there past m there
last_there (Published k ∷ past) m there = (k, refl)
last_there (Unreadable ∷ past) m (inl e) = absurd (cc)
last_there (Unreadable ∷ past) m (inr there) = last_there past m there
last_there (BlockDeleted i at ∷ past) m (inl e) = absurd (cc)
last_there (BlockDeleted i at ∷ past) m (inr there) = last_there past m there
last_there (ManifestDeleted ∷ past) m (inl e) = absurd (cc)
last_there (ManifestDeleted ∷ past) m (inr there) = last_there past m there

pub base_block : BaseHasBlock
base_block past number block e sound base =
    let last = last_there past base.manifest base.published in
    ap block_in last.1 ∙ sym (published_is_up_to past base.manifest last.0 sound last.1 base.published).block ∙ base.block_is
