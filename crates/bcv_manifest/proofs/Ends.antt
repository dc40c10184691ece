-- The laws of the calls: what is found meets the rules and the limits, and what meets them is found; lengths of what is spelled.
use Rattle.std.proofs.Common.{◌≡◌, ℕ, ◌*◌, ◌-◌, Bool, true, false, cond, ltb, eqb, List, [], ◌∷◌, ◌++◌, length, None, Result, Ok, Err, refl, sym, ap, subst, ◌∙◌, arith, length-append}
use Rattle.std.specs.Int.{w32, w64, to_be_bytes}
use Rattle.std.specs.List.{flat_map, AllByRecursion}
use Rattle.std.proofs.lemmas.Bool.{eqb-true, le-ltb}
use Rattle.std.proofs.lemmas.List.{append-nil, nil_from_length}
use Rattle.bcv_base.specs.declared.manifest.DbEntry.{DbEntry}
use Rattle.bcv_base.specs.declared.manifest.Dead.{Dead}
use Rattle.bcv_base.specs.declared.manifest.Manifest.{Manifest}
use Rattle.bcv_base.specs.declared.manifest.Writer.{Writer}
use Rattle.bcv_base.specs.Ids.{IsId}
use Rattle.bcv_base.specs.ManifestGrammar.{Read, ◌>>=◌, entry_at, manifest_at, whole_at, placed, manifest_of, entry_of}
use Rattle.bcv_base.specs.ManifestRules.{MeetsWriterRules, MeetsEntryRules, MeetsDeadRules, MeetsRules, MeetsLimits, IsShort, entry_length, total_length, manifest_length}
use Rattle.bcv_base.specs.ManifestText.{id_text, writer_text, entry_text, dead_text, counted, manifest_text}
use Rattle.bcv_base.specs.SizeLimits.{most_bytes}
use Rattle.bcv_manifest.proofs.Readers.{IsBytes, step, goes, ok_is, rule_ok}
use Rattle.bcv_manifest.proofs.Laws.{entry_reader}
use Rattle.bcv_manifest.proofs.Whole.{IsManifest, manifest_reader}

-- ---- lengths

length_flat : {A : Type 0} (text : A → List ℕ) (n : ℕ) (P : A → Type 0) → ((x : A) → P x → length (text x) ≡ n) → (xs : List A) → AllByRecursion P xs → length (flat_map text xs) ≡ n * length xs
length_flat text n P each [] h = omega arith
length_flat text n P each (x ∷ xs) h =
    omega (arith, length-append (text x) (flat_map text xs), each x h.0, length_flat text n P each xs h.1)

length_writer : (most : ℕ) (w : Writer) → MeetsWriterRules most w → length (writer_text w) ≡ 40
length_writer most w h = omega (arith, length-append w.id.0 (w.last.0 ++ to_be_bytes w64 w.number), length-append w.last.0 (to_be_bytes w64 w.number), h.id.len, h.last.len)

length_dead : (dbs : List DbEntry) (e : Dead) → MeetsDeadRules dbs e → length (dead_text e) ≡ 24
length_dead dbs e h = omega (arith, length-append e.id.0 (to_be_bytes w64 e.stamp), h.id.len)

pub length_entry : (block : ℕ) (d : DbEntry) → MeetsEntryRules block d → length (entry_text d) ≡ entry_length d
length_entry block d h =
    let ids : length (flat_map id_text d.blocks) ≡ 16 * length d.blocks = length_flat id_text 16 IsId (λ i k. k.len) d.blocks h.ids in
    let behind : List ℕ = to_be_bytes w32 d.page_size ++ (to_be_bytes w32 d.pages ++ flat_map id_text d.blocks) in
    omega (arith, length-append d.name (d.tag.0 ++ behind), length-append d.tag.0 behind, ids, h.tag.len)

length_entries : (block : ℕ) (ds : List DbEntry) → AllByRecursion (MeetsEntryRules block) ds → length (flat_map entry_text ds) ≡ total_length ds
length_entries block [] h = refl
length_entries block (d ∷ ds) h = omega (arith, length-append (entry_text d) (flat_map entry_text ds), length_entry block d h.0, length_entries block ds h.1)

pub length_text : (m : Manifest) → MeetsRules m → length (manifest_text m) ≡ manifest_length m
length_text m h =
    let ws = length_flat writer_text 40 (MeetsWriterRules m.number) (length_writer m.number) m.writers h.each_writer in
    let ds = length_entries m.block m.dbs h.each_db in
    let es = length_flat dead_text 24 (MeetsDeadRules m.dbs) (length_dead m.dbs) m.dead h.each_dead in
    let behind : List ℕ = counted entry_text m.dbs ++ counted dead_text m.dead in
    omega (arith, length-append m.id.0 (counted writer_text m.writers ++ behind), length-append (flat_map writer_text m.writers) behind, length-append (flat_map entry_text m.dbs) (counted dead_text m.dead), ws, ds, es, h.id.len)

-- ---- the whole

-- bytes that are not too long
short_ok : {A : Type 0} (b : Bool) (d : ℕ) (r : Result A ℕ) (y : A) → cond b (Err d) r ≡ Ok y → (b ≡ false) × (r ≡ Ok y)
short_ok true d r y e = absurd cc
short_ok false d r y e = (refl, e)

placed_ok : {A : Type 0} (n : ℕ) (r : Result A ℕ) (y : A) → placed n r ≡ Ok y → r ≡ Ok y
placed_ok n (Ok x) y e = e
placed_ok n (Err d) y e = absurd cc

abbrev ended : Manifest × List ℕ → Result Manifest ℕ
ended x = cond (eqb (length x.1) 0) (Ok x.0) (Err (length x.1))

pub manifest_found : (bytes : List ℕ) (m : Manifest) → IsBytes bytes → manifest_of bytes ≡ Ok m → MeetsRules m × MeetsLimits m × (bytes ≡ manifest_text m)
unfolding manifest_of whole_at
manifest_found bytes m fits e =
    let g = short_ok (ltb most_bytes (length bytes)) most_bytes (placed (length bytes) (manifest_at bytes >>= ended)) m e in
    let a = step manifest_reader bytes ended m fits (placed_ok (length bytes) (manifest_at bytes >>= ended) m g.1) in
    let k = rule_ok (eqb (length a.x.1) 0) (length a.x.1) a.x.0 m a.then in
    let nothing : a.x.1 ≡ [] = nil_from_length a.x.1 (eqb-true _ _ k.0) in
    let text : bytes ≡ manifest_text a.x.0 = a.taken.parts ∙ ap (λ (r : List ℕ). manifest_text a.x.0 ++ r) nothing ∙ append-nil (manifest_text a.x.0) in
    let limits : MeetsLimits a.x.0 = record { few_writers = a.meets.few_writers; few_dbs = a.meets.few_dbs; few_dead = a.meets.few_dead } in
    subst (λ (z : Manifest). MeetsRules z × MeetsLimits z × (bytes ≡ manifest_text z)) k.1 (a.meets.rules, limits, text)

pub manifest_only : (m : Manifest) → MeetsRules m → MeetsLimits m → IsShort m → manifest_of (manifest_text m) ≡ Ok m
unfolding manifest_of whole_at
manifest_only m rules limits fits =
    let bytes : List ℕ = manifest_text m in
    let len : length bytes ≡ manifest_length m = length_text m rules in
    let short : ltb most_bytes (length bytes) ≡ false = le-ltb most_bytes (length bytes) (omega (arith, len, fits)) in
    let is : IsManifest m = record { rules = rules; few_writers = limits.few_writers; few_dbs = limits.few_dbs; few_dead = limits.few_dead } in
    let at : manifest_at bytes ≡ Ok (m, []) = ap manifest_at (sym (append-nil bytes)) ∙ manifest_reader.again m [] is in
    ap (λ (b : Bool). cond b (Err most_bytes) (placed (length bytes) (manifest_at bytes >>= ended))) short
    ∙ ap (λ (z : Read Manifest). placed (length bytes) (z >>= ended)) at

-- ---- an entry

abbrev measured : List ℕ → DbEntry × List ℕ → Result (DbEntry × ℕ) ℕ
measured bytes d = Ok (d.0, length bytes - length d.1)

pub entry_found : (block : ℕ) (bytes : List ℕ) (x : DbEntry × ℕ) → IsBytes bytes → entry_of block bytes ≡ Ok x → MeetsEntryRules block x.0 × (x.1 ≡ entry_length x.0) × ((rest : List ℕ) × (bytes ≡ entry_text x.0 ++ rest))
unfolding entry_of
entry_found block bytes x fits e =
    let a = step (entry_reader block None) bytes (measured bytes) x fits (placed_ok (length bytes) (entry_at block None bytes >>= measured bytes) x e) in
    let len : length bytes - length a.x.1 ≡ entry_length a.x.0 = omega (arith, ap length a.taken.parts, length-append (entry_text a.x.0) a.x.1, length_entry block a.x.0 a.meets.0) in
    let pair : DbEntry × ℕ = (a.x.0, length bytes - length a.x.1) in
    subst (λ (z : DbEntry × ℕ). MeetsEntryRules block z.0 × (z.1 ≡ entry_length z.0) × ((rest : List ℕ) × (bytes ≡ entry_text z.0 ++ rest))) (ok_is pair x a.then) (a.meets.0, len, (a.x.1, a.taken.parts))

pub entry_only : (block : ℕ) (d : DbEntry) (rest : List ℕ) → MeetsEntryRules block d → entry_of block (entry_text d ++ rest) ≡ Ok (d, entry_length d)
unfolding entry_of
entry_only block d rest h =
    let bytes : List ℕ = entry_text d ++ rest in
    let len : length bytes - length rest ≡ entry_length d = omega (arith, length-append (entry_text d) rest, length_entry block d h) in
    ap (placed (length bytes)) (goes (entry_reader block None) d rest (measured bytes) (h, refl)) ∙ ap (λ (k : ℕ). Ok (d, k)) len
