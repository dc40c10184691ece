-- Notes: what is read may stand and was spelled so, and what may stand and is spelled so is read.
use Rattle.std.proofs.Common.{◌≡◌, ℕ, suc, ◌^◌, ◌<◌, Bool, true, false, cond, List, [], ◌∷◌, ◌++◌, length, Option, Some, None, refl, sym, ap, subst, ◌∙◌, append_assoc, append-nil, arith}
use Rattle.std.specs.Prelude.{◌&&◌, ◌==◌, nat_le, is_some, is_none, IsSome}
use Rattle.std.specs.Cmp.{first_so, second_so}
use Rattle.std.specs.Cmp.Derive.{both_true}
use Rattle.std.specs.Int.{w32, w64, to_be_bytes}
use Rattle.std.specs.List.{list_all, AllByRecursion}
use Rattle.std.proofs.lemmas.Bool.{leb-true, le-leb, eqb-true, eq-eqb}
use Rattle.std.proofs.lemmas.Option.{same_Some}
use Rattle.std.proofs.lemmas.Slice.Eq.{bytes_eq-Decides}
use Rattle.bcv_base.specs.declared.id.Id16.{Id16}
use Rattle.bcv_base.specs.declared.manifest.DbEntry.{DbEntry}
use Rattle.bcv_base.specs.Ids.{IsId}
use Rattle.bcv_base.specs.Keyed.{keyed}
use Rattle.bcv_base.specs.ManifestGrammar.{such, number_at, id_at, entry_at}
use Rattle.bcv_base.specs.ManifestText.{entry_text, id_text}
use Rattle.bcv_model.specs.declared.ask.Commit.{Commit}
use Rattle.bcv_model.specs.declared.kept.Kept.{Kept}
use Rattle.bcv_model.specs.declared.kept.Local.{Local}
use Rattle.bcv_model.specs.declared.kept.PendingPub.{PendingPub}
use Rattle.bcv_model.specs.declared.kept.Uploading.{Uploading}
use Rattle.bcv_model.specs.declared.note.Note.{Note}
use Rattle.bcv_model.specs.declared.note.Note.TheVariants.{Me, First, Committed, Intent, Done, Void, Revert}
use Rattle.bcv_model.specs.Notes.{kept_name, note_text, name_field, commit_text, upload_text}
use Rattle.bcv_model.specs.NoteRules.{MayStand, IsPendingAs, IsVersionNumber, TextsDiffer}
use Rattle.bcv_manifest.proofs.Readers.{IsBytes, Takes, Takes-then, such_reader, number_reader, id_reader, wide64}
use Rattle.bcv_notes.specs.NoteGrammar.{◌>>=◌, front, commit_at, upload_at, ends_at, is_new_local, is_pending_as, me_at, first_at, committed_at, intent_at, done_at, void_at, revert_at, kind_at, note_at}
use Rattle.bcv_notes.proofs.Fronts.{IsFront, of_reader, step_to, found_to, goes}
use Rattle.bcv_notes.proofs.Commits.{name_reader, commit_reader}
use Rattle.bcv_notes.proofs.Uploads.{block_field, block_small, entry_field, upload_reader}

-- ---- fields and ends

id_field : IsFront (λ b. front (id_at b)) id_text IsId
id_field = of_reader id_reader

version_field : IsFront (λ b. front (such (number_at w64) (nat_le 1) b)) (to_be_bytes w64) (λ n. (n < 2 ^ 64) × (nat_le 1 n ≡ true))
version_field = of_reader (such_reader (number_reader wide64) (nat_le 1))

-- a note ended: it passed its test, and nothing follows
pub record Ended (may : Bool) (note : Note) (rest : List ℕ) (x : Note) : Type 0 where
  pub passed : may ≡ true
  pub all : rest ≡ []
  pub is : note ≡ x

some_of : (b : Bool) (note x : Note) → cond b (Some note) None ≡ Some x → (b ≡ true) × (note ≡ x)
some_of true note x e = (refl, same_Some note x e)
some_of false note x e = absurd cc

nothing_left : (rest : List ℕ) → length rest ≡ 0 → rest ≡ []
nothing_left [] h = refl
nothing_left (b ∷ bs) h = absurd (omega (arith, h))

ended : (may : Bool) (note : Note) (rest : List ℕ) (x : Note) → ends_at may note rest ≡ Some x → Ended may note rest x
ended may note rest x e =
    let s = some_of (may && (length rest == 0)) note x e in
    record { passed = first_so may (length rest == 0) s.0; all = nothing_left rest (eqb-true _ _ (second_so may (length rest == 0) s.0)); is = s.1 }

-- what was taken to the end is the text
whole : {bytes text rest : List ℕ} → Takes bytes text rest → rest ≡ [] → bytes ≡ text
whole {text = text} t none = t.parts ∙ ap (λ (l : List ℕ). text ++ l) none ∙ append-nil text

-- a note's fields were read, it may stand, and its bytes are its kind and these
abbrev Reads : ℕ → Kept → List ℕ → Note → Type 0
Reads kind k bytes x = MayStand k x × (kind ∷ bytes ≡ note_text x)

none_is : {A : Type 0} (o : Option A) → is_none o ≡ true → o ≡ None
none_is None h = refl
none_is (Some x) h = absurd cc

pending_is : (o : Option PendingPub) (id : Id16) → is_pending_as o id ≡ true → IsPendingAs o id
pending_is None id h = absurd cc
pending_is (Some p) id h = ap made ((bytes_eq-Decides p.id.0 id.0).0 h)
  where
    made : List ℕ → Id16
    made bytes = record { 0 = bytes }

is_pending : (o : Option PendingPub) (id : Id16) → IsPendingAs o id → is_pending_as o id ≡ true
is_pending None id h = absurd h
is_pending (Some p) id h = (bytes_eq-Decides p.id.0 id.0).1 (ap (λ (i : Id16). i.0) h)

all_alike : (block : ℕ) (ls : List Local) → list_all (λ (l : Local). l.block == block) ls ≡ true → AllByRecursion (λ (l : Local). l.block ≡ block) ls
all_alike block [] h = tt
all_alike block (l ∷ ls) h =
    let rest = list_all (λ (x : Local). x.block == block) ls in
    (eqb-true _ _ (first_so (l.block == block) rest h), all_alike block ls (second_so (l.block == block) rest h))

alike_all : (block : ℕ) (ls : List Local) → AllByRecursion (λ (l : Local). l.block ≡ block) ls → list_all (λ (l : Local). l.block == block) ls ≡ true
alike_all block [] h = refl
alike_all block (l ∷ ls) h = both_true {s = l.block == block} {t = list_all (λ (x : Local). x.block == block) ls} (eq-eqb _ _ h.0) (alike_all block ls h.1)

least_is : (n : ℕ) → (n < 2 ^ 64) × (nat_le 1 n ≡ true) → IsVersionNumber n
least_is n h = record { least = leb-true _ _ h.1; most = h.0 }

is_least : (n : ℕ) → IsVersionNumber n → (n < 2 ^ 64) × (nat_le 1 n ≡ true)
is_least n h = (h.most, le-leb _ _ h.least)

-- the end of a note's text
at_end : {A : Type 0} (text : List ℕ) (f : List ℕ → A) → f text ≡ f (text ++ [])
at_end text f = ap f (sym (append-nil text))

-- ---- me

abbrev me_after : Kept → Id16 × List ℕ → Option Note
me_after k id = ends_at (is_none k.me) (Me id.0) id.1

me_take : (k : Kept) (bytes : List ℕ) (x : Note) → IsBytes bytes → me_at k bytes ≡ Some x → Reads 1 k bytes x
unfolding me_at
me_take k bytes x fits e =
    let G : Type 0 = Reads 1 k bytes x in
    step_to G id_field bytes (me_after k) x fits e (λ id r1 t1 p1 e1.
    let d = ended (is_none k.me) (Me id) r1 x e1 in
    subst (λ (z : Note). Reads 1 k bytes z) d.is ((none_is k.me d.passed, p1), ap (λ (l : List ℕ). 1 ∷ l) (whole t1 d.all)))

me_again : (k : Kept) (id : Id16) → MayStand k (Me id) → me_at k id.0 ≡ Some (Me id)
unfolding me_at
me_again k id h =
    at_end id.0 (me_at k)
    ∙ goes id_field id [] (me_after k) h.1
    ∙ ap (λ (o : Option Id16). ends_at (is_none o) (Me id) []) h.0

-- ---- first

abbrev first_commit_after : Kept → ℕ → ℕ → DbEntry → Commit × List ℕ → Option Note
first_commit_after k block number entry commit = ends_at (is_new_local k entry.name block) (First entry number block commit.0) commit.1

abbrev first_entry_after : Kept → ℕ → ℕ → DbEntry × List ℕ → Option Note
first_entry_after k block number entry = commit_at block entry.0.page_size entry.1 >>= first_commit_after k block number entry.0

abbrev first_number_after : Kept → ℕ → ℕ × List ℕ → Option Note
first_number_after k block number = front (entry_at block None number.1) >>= first_entry_after k block number.0

abbrev first_block_after : Kept → ℕ × List ℕ → Option Note
first_block_after k block = front (such (number_at w64) (nat_le 1) block.1) >>= first_number_after k block.0

first_take : (k : Kept) (bytes : List ℕ) (x : Note) → IsSome k.me → IsBytes bytes → first_at k bytes ≡ Some x → Reads 2 k bytes x
unfolding first_at
first_take k bytes x named fits e =
    let G : Type 0 = Reads 2 k bytes x in
    step_to G block_field bytes (first_block_after k) x fits e (λ block r1 t1 p1 e1.
    step_to G version_field r1 (first_number_after k block) x t1.rest_fits e1 (λ number r2 t2 p2 e2.
    step_to G (entry_field block) r2 (first_entry_after k block number) x t2.rest_fits e2 (λ entry r3 t3 p3 e3.
    step_to G (commit_reader block entry.page_size) r3 (first_commit_after k block number entry) x t3.rest_fits e3 (λ commit r4 t4 p4 e4.
    let d = ended (is_new_local k entry.name block) (First entry number block commit) r4 x e4 in
    let unknown = is_none (keyed kept_name entry.name k.locals) in
    let alike = list_all (λ (l : Local). l.block == block) k.locals in
    let may : MayStand k (First entry number block commit) = record {
      named = named;
      is_block = p1.1;
      is_number = least_is number p2;
      is_entry = p3;
      is_new = none_is (keyed kept_name entry.name k.locals) (first_so unknown alike d.passed);
      alike = all_alike block k.locals (second_so unknown alike d.passed);
      fits = p4;
    } in
    subst (λ (z : Note). Reads 2 k bytes z) d.is (may, ap (λ (l : List ℕ). 2 ∷ l) (whole (Takes-then t1 (Takes-then t2 (Takes-then t3 t4))) d.all))))))

group4 : (a b c d rest : List ℕ) → (a ++ (b ++ (c ++ d))) ++ rest ≡ a ++ (b ++ (c ++ (d ++ rest)))
group4 a b c d rest = simp append_assoc

first_again : (k : Kept) (entry : DbEntry) (number block : ℕ) (commit : Commit) → MayStand k (First entry number block commit)
    → first_at k (to_be_bytes w32 block ++ (to_be_bytes w64 number ++ (entry_text entry ++ commit_text commit))) ≡ Some (First entry number block commit)
unfolding first_at
first_again k entry number block commit h =
    let rest4 : List ℕ = commit_text commit ++ [] in
    let rest3 : List ℕ = entry_text entry ++ rest4 in
    let rest2 : List ℕ = to_be_bytes w64 number ++ rest3 in
    let passes : is_new_local k entry.name block ≡ true = both_true {s = is_none (keyed kept_name entry.name k.locals)} {t = list_all (λ (l : Local). l.block == block) k.locals} (ap (λ (o : Option Local). is_none o) h.is_new) (alike_all block k.locals h.alike) in
    at_end (to_be_bytes w32 block ++ (to_be_bytes w64 number ++ (entry_text entry ++ commit_text commit))) (first_at k)
    ∙ ap (first_at k) (group4 (to_be_bytes w32 block) (to_be_bytes w64 number) (entry_text entry) (commit_text commit) [])
    ∙ goes block_field block rest2 (first_block_after k) (block_small block h.is_block, h.is_block)
    ∙ goes version_field number rest3 (first_number_after k block) (is_least number h.is_number)
    ∙ goes (entry_field block) entry rest4 (first_entry_after k block number) h.is_entry
    ∙ goes (commit_reader block entry.page_size) commit [] (first_commit_after k block number entry) h.fits
    ∙ ap (λ (b : Bool). ends_at b (First entry number block commit) []) passes

-- ---- commit

abbrev commit_after : List ℕ → Commit × List ℕ → Option Note
commit_after db commit = ends_at true (Committed db commit.0) commit.1

abbrev local_after : List ℕ → List ℕ → Local → Option Note
local_after db rest local = commit_at local.block local.entry.page_size rest >>= commit_after db

abbrev db_after : Kept → List ℕ × List ℕ → Option Note
db_after k db = keyed kept_name db.0 k.locals >>= local_after db.0 db.1

committed_take : (k : Kept) (bytes : List ℕ) (x : Note) → IsSome k.me → IsBytes bytes → committed_at k bytes ≡ Some x → Reads 3 k bytes x
unfolding committed_at
committed_take k bytes x named fits e =
    let G : Type 0 = Reads 3 k bytes x in
    step_to G name_reader bytes (db_after k) x fits e (λ db r1 t1 p1 e1.
    found_to G (keyed kept_name db k.locals) (local_after db r1) x e1 (λ local is e2.
    step_to G (commit_reader local.block local.entry.page_size) r1 (commit_after db) x t1.rest_fits e2 (λ commit r2 t2 p2 e3.
    let d = ended true (Committed db commit) r2 x e3 in
    let may : MayStand k (Committed db commit) = record { named = named; is_db = p1; local = local; is_local = is; fits = p2 } in
    subst (λ (z : Note). Reads 3 k bytes z) d.is (may, ap (λ (l : List ℕ). 3 ∷ l) (whole (Takes-then t1 t2) d.all)))))

committed_again : (k : Kept) (db : List ℕ) (commit : Commit) → MayStand k (Committed db commit) → committed_at k (name_field db ++ commit_text commit) ≡ Some (Committed db commit)
unfolding committed_at
committed_again k db commit h =
    let rest : List ℕ = commit_text commit ++ [] in
    at_end (name_field db ++ commit_text commit) (committed_at k)
    ∙ ap (committed_at k) (append_assoc (name_field db) (commit_text commit) [])
    ∙ goes name_reader db rest (db_after k) h.is_db
    ∙ ap (λ (o : Option Local). o >>= local_after db rest) h.is_local
    ∙ goes (commit_reader h.local.block h.local.entry.page_size) commit [] (commit_after db) h.fits

-- ---- intent

abbrev intent_upload_after : Kept → Id16 → Option Uploading × List ℕ → Option Note
intent_upload_after k id upload = ends_at (is_none k.pending) (Intent (record { id = id; upload = upload.0 })) upload.1

abbrev intent_id_after : Kept → Id16 × List ℕ → Option Note
intent_id_after k id = upload_at k id.1 >>= intent_upload_after k id.0

intent_take : (k : Kept) (bytes : List ℕ) (x : Note) → IsSome k.me → IsBytes bytes → intent_at k bytes ≡ Some x → Reads 4 k bytes x
unfolding intent_at
intent_take k bytes x named fits e =
    let G : Type 0 = Reads 4 k bytes x in
    step_to G id_field bytes (intent_id_after k) x fits e (λ id r1 t1 p1 e1.
    step_to G (upload_reader k) r1 (intent_upload_after k id) x t1.rest_fits e1 (λ upload r2 t2 p2 e2.
    let p : PendingPub = record { id = id; upload = upload } in
    let d = ended (is_none k.pending) (Intent p) r2 x e2 in
    let may : MayStand k (Intent p) = record { named = named; is_id = p1; free = none_is k.pending d.passed; upload = p2 } in
    subst (λ (z : Note). Reads 4 k bytes z) d.is (may, ap (λ (l : List ℕ). 4 ∷ l) (whole (Takes-then t1 t2) d.all))))

intent_again : (k : Kept) (p : PendingPub) → MayStand k (Intent p) → intent_at k (p.id.0 ++ upload_text p.upload) ≡ Some (Intent p)
unfolding intent_at
intent_again k p h =
    let rest : List ℕ = upload_text p.upload ++ [] in
    at_end (p.id.0 ++ upload_text p.upload) (intent_at k)
    ∙ ap (intent_at k) (append_assoc p.id.0 (upload_text p.upload) [])
    ∙ goes id_field p.id rest (intent_id_after k) h.is_id
    ∙ goes (upload_reader k) p.upload [] (intent_upload_after k p.id) h.upload
    ∙ ap (λ (o : Option PendingPub). ends_at (is_none o) (Intent p) []) h.free

-- ---- done and void

abbrev done_number_after : Kept → Id16 → ℕ × List ℕ → Option Note
done_number_after k id number = ends_at (is_pending_as k.pending id) (Done id number.0) number.1

abbrev done_id_after : Kept → Id16 × List ℕ → Option Note
done_id_after k id = front (such (number_at w64) (nat_le 1) id.1) >>= done_number_after k id.0

done_take : (k : Kept) (bytes : List ℕ) (x : Note) → IsSome k.me → IsBytes bytes → done_at k bytes ≡ Some x → Reads 5 k bytes x
unfolding done_at
done_take k bytes x named fits e =
    let G : Type 0 = Reads 5 k bytes x in
    step_to G id_field bytes (done_id_after k) x fits e (λ id r1 t1 p1 e1.
    step_to G version_field r1 (done_number_after k id) x t1.rest_fits e1 (λ number r2 t2 p2 e2.
    let d = ended (is_pending_as k.pending id) (Done id number) r2 x e2 in
    let may : MayStand k (Done id number) = (record { named = named; is_id = p1; waits = pending_is k.pending id d.passed }, least_is number p2) in
    subst (λ (z : Note). Reads 5 k bytes z) d.is (may, ap (λ (l : List ℕ). 5 ∷ l) (whole (Takes-then t1 t2) d.all))))

done_again : (k : Kept) (id : Id16) (number : ℕ) → MayStand k (Done id number) → done_at k (id.0 ++ to_be_bytes w64 number) ≡ Some (Done id number)
unfolding done_at
done_again k id number h =
    let rest : List ℕ = to_be_bytes w64 number ++ [] in
    at_end (id.0 ++ to_be_bytes w64 number) (done_at k)
    ∙ ap (done_at k) (append_assoc id.0 (to_be_bytes w64 number) [])
    ∙ goes id_field id rest (done_id_after k) h.0.is_id
    ∙ goes version_field number [] (done_number_after k id) (is_least number h.1)
    ∙ ap (λ (b : Bool). ends_at b (Done id number) []) (is_pending k.pending id h.0.waits)

abbrev void_after : Kept → Id16 × List ℕ → Option Note
void_after k id = ends_at (is_pending_as k.pending id.0) (Void id.0) id.1

void_take : (k : Kept) (bytes : List ℕ) (x : Note) → IsSome k.me → IsBytes bytes → void_at k bytes ≡ Some x → Reads 6 k bytes x
unfolding void_at
void_take k bytes x named fits e =
    let G : Type 0 = Reads 6 k bytes x in
    step_to G id_field bytes (void_after k) x fits e (λ id r1 t1 p1 e1.
    let d = ended (is_pending_as k.pending id) (Void id) r1 x e1 in
    let may : MayStand k (Void id) = record { named = named; is_id = p1; waits = pending_is k.pending id d.passed } in
    subst (λ (z : Note). Reads 6 k bytes z) d.is (may, ap (λ (l : List ℕ). 6 ∷ l) (whole t1 d.all)))

void_again : (k : Kept) (id : Id16) → MayStand k (Void id) → void_at k id.0 ≡ Some (Void id)
unfolding void_at
void_again k id h =
    at_end id.0 (void_at k)
    ∙ goes id_field id [] (void_after k) h.is_id
    ∙ ap (λ (b : Bool). ends_at b (Void id) []) (is_pending k.pending id h.waits)

-- ---- revert

abbrev revert_after : Kept → List ℕ × List ℕ → Option Note
revert_after k db = ends_at (is_some (keyed kept_name db.0 k.locals) && is_none k.pending) (Revert db.0) db.1

revert_take : (k : Kept) (bytes : List ℕ) (x : Note) → IsSome k.me → IsBytes bytes → revert_at k bytes ≡ Some x → Reads 7 k bytes x
unfolding revert_at
revert_take k bytes x named fits e =
    let G : Type 0 = Reads 7 k bytes x in
    step_to G name_reader bytes (revert_after k) x fits e (λ db r1 t1 p1 e1.
    let there = is_some (keyed kept_name db k.locals) in
    let free = is_none k.pending in
    let d = ended (there && free) (Revert db) r1 x e1 in
    let may : MayStand k (Revert db) = record { named = named; is_db = p1; is_local = first_so there free d.passed; free = none_is k.pending (second_so there free d.passed) } in
    subst (λ (z : Note). Reads 7 k bytes z) d.is (may, ap (λ (l : List ℕ). 7 ∷ l) (whole t1 d.all)))

revert_again : (k : Kept) (db : List ℕ) → MayStand k (Revert db) → revert_at k (name_field db) ≡ Some (Revert db)
unfolding revert_at
revert_again k db h =
    let passes = both_true {s = is_some (keyed kept_name db k.locals)} {t = is_none k.pending} h.is_local (ap (λ (o : Option PendingPub). is_none o) h.free) in
    at_end (name_field db) (revert_at k)
    ∙ goes name_reader db [] (revert_after k) h.is_db
    ∙ ap (λ (b : Bool). ends_at b (Revert db) []) passes

-- ---- all kinds

-- the fields after a kind, by the tests of it
abbrev Cases : Kept → List ℕ → Bool → Bool → Bool → Bool → Bool → Bool → Option Note
Cases k bytes b2 b3 b4 b5 b6 b7 =
    cond b2 (first_at k bytes) (cond b3 (committed_at k bytes) (cond b4 (intent_at k bytes) (cond b5 (done_at k bytes) (cond b6 (void_at k bytes) (cond b7 (revert_at k bytes) None)))))

at_kind : (kind n : ℕ) (k : Kept) (bytes : List ℕ) (x : Note) → (kind == n) ≡ true → Reads n k bytes x → Reads kind k bytes x
at_kind kind n k bytes x is r = subst (λ (m : ℕ). Reads m k bytes x) (sym (eqb-true kind n is)) r

kind_take : (kind : ℕ) (k : Kept) (bytes : List ℕ) (x : Note) → IsSome k.me → IsBytes bytes → kind_at kind k bytes ≡ Some x → Reads kind k bytes x
kind_take kind k bytes x named fits e = by_tests (kind == 2) (kind == 3) (kind == 4) (kind == 5) (kind == 6) (kind == 7) refl refl refl refl refl refl e
  where
    by_tests : (b2 b3 b4 b5 b6 b7 : Bool) → (kind == 2) ≡ b2 → (kind == 3) ≡ b3 → (kind == 4) ≡ b4 → (kind == 5) ≡ b5 → (kind == 6) ≡ b6 → (kind == 7) ≡ b7 → Cases k bytes b2 b3 b4 b5 b6 b7 ≡ Some x → Reads kind k bytes x
    by_tests true b3 b4 b5 b6 b7 i2 i3 i4 i5 i6 i7 e = at_kind kind 2 k bytes x i2 (first_take k bytes x named fits e)
    by_tests false true b4 b5 b6 b7 i2 i3 i4 i5 i6 i7 e = at_kind kind 3 k bytes x i3 (committed_take k bytes x named fits e)
    by_tests false false true b5 b6 b7 i2 i3 i4 i5 i6 i7 e = at_kind kind 4 k bytes x i4 (intent_take k bytes x named fits e)
    by_tests false false false true b6 b7 i2 i3 i4 i5 i6 i7 e = at_kind kind 5 k bytes x i5 (done_take k bytes x named fits e)
    by_tests false false false false true b7 i2 i3 i4 i5 i6 i7 e = at_kind kind 6 k bytes x i6 (void_take k bytes x named fits e)
    by_tests false false false false false true i2 i3 i4 i5 i6 i7 e = at_kind kind 7 k bytes x i7 (revert_take k bytes x named fits e)
    by_tests false false false false false false i2 i3 i4 i5 i6 i7 e = absurd cc

-- what is read may stand, and the bytes are its own
pub note_take : (k : Kept) (bytes : List ℕ) (x : Note) → IsBytes bytes → note_at k bytes ≡ Some x → MayStand k x × (bytes ≡ note_text x)
unfolding note_at
note_take k [] x fits e = absurd cc
note_take k (kind ∷ bytes) x fits e = by_tests (kind == 1) (is_some k.me) refl refl e
  where
    by_tests : (me named : Bool) → (kind == 1) ≡ me → is_some k.me ≡ named → cond me (me_at k bytes) (cond named (kind_at kind k bytes) None) ≡ Some x → Reads kind k bytes x
    by_tests true named is e1 e = at_kind kind 1 k bytes x is (me_take k bytes x (λ i. fits (suc i)) e)
    by_tests false true is named e = kind_take kind k bytes x named (λ i. fits (suc i)) e
    by_tests false false is named e = absurd cc

named_cond : {A : Type 0} (o : Option Id16) (x : A) (y : A) → IsSome o → cond (is_some o) x y ≡ x
named_cond o x y h = ap (λ (b : Bool). cond b x y) h

-- what may stand is read from its own bytes
pub note_again : (k : Kept) (x : Note) → MayStand k x → note_at k (note_text x) ≡ Some x
unfolding note_at
note_again k (Me id) h = me_again k id h
note_again k (First entry number block commit) h = named_cond k.me _ None h.named ∙ first_again k entry number block commit h
note_again k (Committed db commit) h = named_cond k.me _ None h.named ∙ committed_again k db commit h
note_again k (Intent p) h = named_cond k.me _ None h.named ∙ intent_again k p h
note_again k (Done id number) h = named_cond k.me _ None h.0.named ∙ done_again k id number h
note_again k (Void id) h = named_cond k.me _ None h.named ∙ void_again k id h
note_again k (Revert db) h = named_cond k.me _ None h.named ∙ revert_again k db h

-- no note that may stand has bytes that are read as none
pub note_never : (k : Kept) (bytes : List ℕ) → note_at k bytes ≡ None → (x : Note) → MayStand k x → bytes ≡ note_text x → ⊥
note_never k bytes none x may is = absurd (cc (sym (note_again k x may) ∙ ap (note_at k) (sym is) ∙ none))

-- of the notes that may stand, no two have the same bytes
pub texts_differ : TextsDiffer
texts_differ k x y may_x may_y same = same_Some x y (sym (note_again k x may_x) ∙ ap (note_at k) same ∙ note_again k y may_y)
