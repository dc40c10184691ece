-- Laws of histories and of their versions: what one more entry changes, and what stays under further ones.
use Rattle.std.proofs.Common.{◌≡◌, ◌∙◌, ℕ, ◌+◌, Bool, true, false, ◌||◌, List, [], ◌∷◌, ◌++◌, length, map, Option, Some, None, unwrap_or, cond, length-append, refl, sym, ap, subst}
use Rattle.std.proofs.lemmas.Slice.Eq.{bytes_eq-Decides}
use Rattle.bcv_base.specs.declared.id.Id16.{Id16}
use Rattle.bcv_base.specs.declared.log.Entry.{Entry}
use Rattle.bcv_base.specs.declared.manifest.DbEntry.{DbEntry}
use Rattle.bcv_base.specs.declared.manifest.Manifest.{Manifest}
use Rattle.bcv_base.specs.History.{Item, BlockPut, Published, Unreadable, BlockDeleted, ManifestDeleted, item_of, history_after, history_of, Always, last_of, count_of, first_put, HasBlock}
use Rattle.bcv_base.specs.Ids.{id_eq, has_id}
use Rattle.bcv_base.specs.Image.{or_else}
use Rattle.bcv_base.specs.Joined.{pages_of, joined, database_of}
use Rattle.bcv_base.specs.ManifestRules.{lists}
use Rattle.bcv_base.specs.Version.{Database, Version}
use Rattle.bcv_base.specs.Versions.{version_of, versions_of, IsVersion, Reads}

-- ---- ids

pub id_eq-self : (i : Id16) → id_eq i i ≡ true
id_eq-self i = (bytes_eq-Decides i.0 i.0).1 refl

pub id_eq-is : (i j : Id16) → id_eq i j ≡ true → i ≡ j
id_eq-is i j e = ap (λ (x : List ℕ). let k : Id16 = record { 0 = x } in k) ((bytes_eq-Decides i.0 j.0).0 e)

or_right : (a b : Bool) → b ≡ true → (a || b) ≡ true
or_right true b h = refl
or_right false b h = h

-- the first of some ids is one of them, and so is each of the others
pub has_id-first : (i : Id16) (is : List Id16) → has_id i (i ∷ is) ≡ true
has_id-first i is = ap (λ (b : Bool). b || has_id i is) (id_eq-self i)

pub has_id-later : (i j : Id16) (is : List Id16) → has_id i is ≡ true → has_id i (j ∷ is) ≡ true
has_id-later i j is h = or_right (id_eq j i) (has_id i is) h

-- the blocks of the first database are listed, and so are those of the others
pub lists-first : (i : Id16) (d : DbEntry) (ds : List DbEntry) → has_id i d.blocks ≡ true → lists (d ∷ ds) i ≡ true
lists-first i d ds h = ap (λ (b : Bool). b || lists ds i) h

pub lists-later : (i : Id16) (d : DbEntry) (ds : List DbEntry) → lists ds i ≡ true → lists (d ∷ ds) i ≡ true
lists-later i d ds h = or_right (has_id i d.blocks) (lists ds i) h

-- ---- logs

-- behind further entries, in two steps
pub history_after-append : (past : List Item) (log more : List Entry) → history_after past (log ++ more) ≡ history_after (history_after past log) more
history_after-append past [] more = refl
history_after-append past (e ∷ es) more = history_after-append (item_of e ∷ past) es more

-- the history of a log with one more entry
pub history_of-more : (log : List Entry) (e : Entry) → history_of (log ++ e ∷ []) ≡ item_of e ∷ history_of log
history_of-more log e = history_after-append [] log (e ∷ [])

-- ---- blocks stay

pub first_put-stays : (x : Item) (past : List Item) (i : Id16) (bytes : List ℕ) → first_put past i ≡ Some bytes → first_put (x ∷ past) i ≡ Some bytes
first_put-stays (BlockPut j more) past i bytes h = ap (λ (o : Option (List ℕ)). or_else o (cond (id_eq j i) (Some more) None)) h
first_put-stays (Published m) past i bytes h = h
first_put-stays Unreadable past i bytes h = h
first_put-stays (BlockDeleted j at) past i bytes h = h
first_put-stays ManifestDeleted past i bytes h = h

pub has_block-stays : (x : Item) (past : List Item) (i : Id16) (size : ℕ) → HasBlock past i size → HasBlock (x ∷ past) i size
has_block-stays x past i size h = (h.0, first_put-stays x past i h.0 h.1, h.2)

-- ---- images stay

pub joined-stays : (x : Item) (past : List Item) (size : ℕ) (is : List Id16) → ((i : Id16) → has_id i is ≡ true → HasBlock past i size) → joined (x ∷ past) is ≡ joined past is
joined-stays x past size [] there = refl
joined-stays x past size (i ∷ is) there =
    let block : HasBlock past i size = there i (has_id-first i is) in
    ap (λ (o : Option (List ℕ)). unwrap_or o [] ++ joined (x ∷ past) is) (first_put-stays x past i block.0 block.1 ∙ sym block.1)
    ∙ ap (λ (others : List ℕ). unwrap_or (first_put past i) [] ++ others) (joined-stays x past size is (λ j h. there j (has_id-later j i is h)))

pub databases-stay : (x : Item) (past : List Item) (size : ℕ) (ds : List DbEntry) → ((i : Id16) → lists ds i ≡ true → HasBlock past i size)
    → map (database_of (x ∷ past)) ds ≡ map (database_of past) ds
databases-stay x past size [] there = refl
databases-stay x past size (d ∷ ds) there =
    ap (λ (bytes : List ℕ). record { name = d.name; tag = d.tag; page_size = d.page_size; image = pages_of d.pages d.page_size bytes } ∷ map (database_of (x ∷ past)) ds)
    (joined-stays x past size d.blocks (λ i h. there i (lists-first i d ds h)))
    ∙ ap (λ (others : List Database). database_of past d ∷ others) (databases-stay x past size ds (λ i h. there i (lists-later i d ds h)))

-- the version of a manifest whose blocks were put stays under one more entry
pub version-stays : (x : Item) (past : List Item) (m : Manifest) → ((i : Id16) → lists m.dbs i ≡ true → HasBlock past i m.block) → version_of (x ∷ past) m ≡ version_of past m
version-stays x past m there = ap (λ (dbs : List Database). record { id = m.id; moment = m.moment; dbs = dbs }) (databases-stay x past m.block m.dbs there)

-- ---- the last version

-- a manifest over what it was put behind, seen from later: its number counts the manifests, its blocks are there, and its
-- version is the last one
pub record IsLast (past : List Item) (m : Manifest) : Type 0 where
  pub number : m.number ≡ count_of past
  pub blocks : (i : Id16) → lists m.dbs i ≡ true → HasBlock past i m.block
  pub older : List Version
  pub versions : versions_of past ≡ older ++ version_of past m ∷ []

-- it stays the last one under an entry that changes neither count nor versions
abbrev later : (x : Item) (past : List Item) (m : Manifest) → count_of (x ∷ past) ≡ count_of past → versions_of (x ∷ past) ≡ versions_of past → IsLast past m → IsLast (x ∷ past) m
later x past m counts same l = record {
  number = l.number ∙ sym counts;
  blocks = λ i h. has_block-stays x past i m.block (l.blocks i h);
  older = l.older;
  versions = same ∙ l.versions ∙ ap (λ (v : Version). l.older ++ v ∷ []) (sym (version-stays x past m l.blocks));
}

-- a manifest that was just published is the last one
just_published : (m : Manifest) (past : List Item) → IsVersion past m → IsLast (Published m ∷ past) m
just_published m past is = record {
  number = is.number;
  blocks = λ i h. has_block-stays (Published m) past i m.block (is.blocks i h);
  older = versions_of past;
  versions = ap (λ (v : Version). versions_of past ++ v ∷ []) (sym (version-stays (Published m) past m is.blocks));
}

-- the last manifest of a history in which nothing is refused
pub last_is : (past : List Item) (m : Manifest) → Always Reads past → last_of past ≡ Some m → IsLast past m
last_is [] m reads last = absurd (cc)
last_is (BlockPut i bytes ∷ past) m reads last = later (BlockPut i bytes) past m refl refl (last_is past m reads.0 last)
last_is (Published k ∷ past) m reads last =
    subst (λ (x : Manifest). IsLast (Published k ∷ past) x) (ap (λ (o : Option Manifest). unwrap_or o k) last) (just_published k past reads.1)
last_is (Unreadable ∷ past) m reads last = absurd reads.1
last_is (BlockDeleted i at ∷ past) m reads last = later (BlockDeleted i at) past m refl refl (last_is past m reads.0 last)
last_is (ManifestDeleted ∷ past) m reads last = later ManifestDeleted past m refl refl (last_is past m reads.0 last)

-- there are as many versions as manifests
pub version-count : (past : List Item) → Always Reads past → length (versions_of past) ≡ count_of past
version-count [] reads = refl
version-count (BlockPut i bytes ∷ past) reads = version-count past reads.0
version-count (Published m ∷ past) reads = length-append (versions_of past) (version_of past m ∷ []) ∙ ap (λ (n : ℕ). n + 1) (version-count past reads.0)
version-count (Unreadable ∷ past) reads = absurd reads.1
version-count (BlockDeleted i at ∷ past) reads = version-count past reads.0
version-count (ManifestDeleted ∷ past) reads = version-count past reads.0

-- where no manifest was published there is no version
pub no_version : (past : List Item) → Always Reads past → last_of past ≡ None → versions_of past ≡ []
no_version [] reads last = refl
no_version (BlockPut i bytes ∷ past) reads last = no_version past reads.0 last
no_version (Published m ∷ past) reads last = absurd (cc)
no_version (Unreadable ∷ past) reads last = absurd reads.1
no_version (BlockDeleted i at ∷ past) reads last = no_version past reads.0 last
no_version (ManifestDeleted ∷ past) reads last = no_version past reads.0 last
