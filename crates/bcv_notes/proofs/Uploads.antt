-- Entries and uploads in notes: each is read in one way.
use Rattle.std.proofs.Common.{◌≡◌, ℕ, ◌^◌, ◌<◌, ◌≤◌, Bool, true, false, cond, List, [], ◌∷◌, ◌++◌, length, Option, Some, None, refl, sym, ap, subst, ◌∙◌, append_assoc, arith}
use Rattle.std.specs.Prelude.{◌&&◌, ◌==◌, nat_le, IfSome}
use Rattle.std.specs.Cmp.{first_so, second_so}
use Rattle.std.specs.Cmp.Derive.{both_true}
use Rattle.std.specs.Int.{w8, w32, w64, to_be_bytes, is_power_of_two}
use Rattle.std.proofs.lemmas.Bool.{leb-true, le-leb, eqb-true, eq-eqb}
use Rattle.std.proofs.lemmas.Option.{same_Some}
use Rattle.bcv_base.specs.declared.manifest.DbEntry.{DbEntry}
use Rattle.bcv_base.specs.Keyed.{keyed}
use Rattle.bcv_base.specs.ManifestGrammar.{such, number_at, entry_at}
use Rattle.bcv_base.specs.ManifestRules.{is_block_size, MeetsEntryRules}
use Rattle.bcv_base.specs.ManifestText.{entry_text}
use Rattle.bcv_model.specs.declared.kept.Kept.{Kept}
use Rattle.bcv_model.specs.declared.kept.Local.{Local}
use Rattle.bcv_model.specs.declared.kept.Uploading.{Uploading}
use Rattle.bcv_model.specs.Notes.{kept_name, upload_text}
use Rattle.bcv_model.specs.NoteRules.{MayUpload, IsLocal}
use Rattle.bcv_manifest.proofs.Laws.{entry_reader}
use Rattle.bcv_manifest.proofs.Readers.{IsBytes, Takes, Takes-then, such_reader, number_reader, wide8, wide32, wide64}
use Rattle.bcv_notes.specs.NoteGrammar.{Front, ◌>>=◌, front, is_upload_of, may_upload, taken_where, uploading_at, flagged, upload_at}
use Rattle.bcv_notes.proofs.Fronts.{IsFront, of_reader, step_to, goes}

-- ---- single fields

pub block_field : IsFront (λ b. front (such (number_at w32) is_block_size b)) (to_be_bytes w32) (λ n. (n < 2 ^ 32) × (is_block_size n ≡ true))
block_field = of_reader (such_reader (number_reader wide32) is_block_size)

pub block_small : (n : ℕ) → is_block_size n ≡ true → n < 2 ^ 32
block_small n h =
    let le : n ≤ 16777216 = leb-true n 16777216 (second_so (nat_le 512 n) (nat_le n 16777216) (first_so (nat_le 512 n && nat_le n 16777216) (is_power_of_two n) h)) in
    omega (arith, le)

count_field : IsFront (λ b. front (number_at w64 b)) (to_be_bytes w64) (λ n. n < 2 ^ 64)
count_field = of_reader (number_reader wide64)

flag_field : IsFront (λ b. front (number_at w8 b)) (to_be_bytes w8) (λ n. n < 256)
flag_field = of_reader (number_reader wide8)

pub entry_field : (block : ℕ) → IsFront (λ b. front (entry_at block None b)) entry_text (MeetsEntryRules block)
entry_field block =
    let r = of_reader (entry_reader block None) in
    record {
      takes = λ bytes y fits e. let t = r.takes bytes y fits e in (t.0, t.1.0);
      again = λ d rest h. r.again d rest (h, refl);
    }

-- ---- an upload

-- what a test of an upload says of the database that was found
abbrev Allows : Kept → Uploading → Type 0
Allows k u = (l : Local) × IsLocal k u.entry.name l × (1 ≤ u.count) × (u.count ≤ length l.commits) × (u.block ≡ l.block) × (u.entry.page_size ≡ l.entry.page_size)

allows : (k : Kept) (u : Uploading) (o : Option Local) → keyed kept_name u.entry.name k.locals ≡ o → is_upload_of o u ≡ true → Allows k u
allows k u None is h = absurd cc
allows k u (Some l) is h =
    let least = nat_le 1 u.count in
    let most = nat_le u.count (length l.commits) in
    let block = u.block == l.block in
    let page = u.entry.page_size == l.entry.page_size in
    let three = first_so (least && most && block) page h in
    let two = first_so (least && most) block three in
    (l, is, leb-true _ _ (first_so least most two), leb-true _ _ (second_so least most two), eqb-true _ _ (second_so (least && most) block three), eqb-true _ _ (second_so (least && most && block) page h))

allowed : (k : Kept) (u : Uploading) (l : Local) → IsLocal k u.entry.name l → 1 ≤ u.count → u.count ≤ length l.commits → u.block ≡ l.block → u.entry.page_size ≡ l.entry.page_size → may_upload k u ≡ true
allowed k u l is least most block page =
    ap (λ (o : Option Local). is_upload_of o u) is
    ∙ both_true {s = nat_le 1 u.count && nat_le u.count (length l.commits) && (u.block == l.block)} {t = u.entry.page_size == l.entry.page_size}
    (both_true {s = nat_le 1 u.count && nat_le u.count (length l.commits)} {t = u.block == l.block} (both_true {s = nat_le 1 u.count} {t = nat_le u.count (length l.commits)} (le-leb _ _ least) (le-leb _ _ most)) (eq-eqb _ _ block))
    (eq-eqb _ _ page)

-- the fields after a flag of 1
abbrev upload_fields : Uploading → List ℕ
upload_fields u = to_be_bytes w64 u.count ++ (to_be_bytes w32 u.block ++ entry_text u.entry)

abbrev entry_after : Kept → ℕ → ℕ → DbEntry × List ℕ → Front (Option Uploading)
entry_after k count block entry = taken_where (may_upload k (record { count = count; block = block; entry = entry.0 })) (record { count = count; block = block; entry = entry.0 }) entry.1

abbrev block_after : Kept → ℕ → ℕ × List ℕ → Front (Option Uploading)
block_after k count block = front (entry_at block.0 None block.1) >>= entry_after k count block.0

abbrev count_after : Kept → ℕ × List ℕ → Front (Option Uploading)
count_after k count = front (such (number_at w32) is_block_size count.1) >>= block_after k count.0

where_taken : (may : Bool) (u : Uploading) (rest : List ℕ) (y : Option Uploading × List ℕ) → taken_where may u rest ≡ Some y → (may ≡ true) × ((Some u, rest) ≡ y)
where_taken true u rest y e = (refl, same_Some (Some u, rest) y e)
where_taken false u rest y e = absurd cc

abbrev IsUploading : Kept → Option Uploading → Type 0
IsUploading k None = ⊥
IsUploading k (Some u) = MayUpload k u

abbrev fields_of : Option Uploading → List ℕ
fields_of None = []
fields_of (Some u) = upload_fields u

group3 : (a b c rest : List ℕ) → (a ++ (b ++ c)) ++ rest ≡ a ++ (b ++ (c ++ rest))
group3 a b c rest = simp append_assoc

uploading_take : (k : Kept) (bytes : List ℕ) (y : Option Uploading × List ℕ) → IsBytes bytes → uploading_at k bytes ≡ Some y → Takes bytes (fields_of y.0) y.1 × IsUploading k y.0
unfolding uploading_at
uploading_take k bytes y fits e =
    let G : Type 0 = Takes bytes (fields_of y.0) y.1 × IsUploading k y.0 in
    step_to G count_field bytes (count_after k) y fits e (λ count r1 t1 p1 e1.
    step_to G block_field r1 (block_after k count) y t1.rest_fits e1 (λ block r2 t2 p2 e2.
    step_to G (entry_field block) r2 (entry_after k count block) y t2.rest_fits e2 (λ entry r3 t3 p3 e3.
    let u : Uploading = record { count = count; block = block; entry = entry } in
    let t = where_taken (may_upload k u) u r3 y e3 in
    let a = allows k u (keyed kept_name u.entry.name k.locals) refl t.0 in
    let may : MayUpload k u = record { is_block = p2.1; is_entry = p3; local = a.0; is_local = a.1; least = a.2; most = a.3; small = p1; same_block = a.4; same_page_size = a.5 } in
    subst (λ (z : Option Uploading × List ℕ). Takes bytes (fields_of z.0) z.1 × IsUploading k z.0) t.1 (Takes-then t1 (Takes-then t2 t3), may))))

uploading_again : (k : Kept) (u : Uploading) (rest : List ℕ) → MayUpload k u → uploading_at k (upload_fields u ++ rest) ≡ Some (Some u, rest)
unfolding uploading_at
uploading_again k u rest h =
    let entry : List ℕ = entry_text u.entry ++ rest in
    let block : List ℕ = to_be_bytes w32 u.block ++ entry in
    ap (uploading_at k) (group3 (to_be_bytes w64 u.count) (to_be_bytes w32 u.block) (entry_text u.entry) rest)
    ∙ goes count_field u.count block (count_after k) h.small
    ∙ goes block_field u.block entry (block_after k u.count) (block_small u.block h.is_block, h.is_block)
    ∙ goes (entry_field u.block) u.entry rest (entry_after k u.count u.block) h.is_entry
    ∙ ap (λ (b : Bool). taken_where b u rest) (allowed k u h.local h.is_local h.least h.most h.same_block h.same_page_size)

abbrev flag_after : Kept → ℕ × List ℕ → Front (Option Uploading)
flag_after k flag = flagged k flag.0 flag.1

-- a flag that was taken, with what follows it
flag_take : (k : Kept) (bytes : List ℕ) (flag : ℕ) (r : List ℕ) (y : Option Uploading × List ℕ) → Takes bytes (to_be_bytes w8 flag) r → flag < 256 → flagged k flag r ≡ Some y
    → (is_none is_one : Bool) → (flag == 0) ≡ is_none → (flag == 1) ≡ is_one → Takes bytes (upload_text y.0) y.1 × IfSome y.0 (MayUpload k)
flag_take k bytes flag r y t small e true is_one zero one =
    let flag_is : flag ≡ 0 = eqb-true _ _ zero in
    let read : flagged k flag r ≡ Some (None, r) = ap (λ (b : Bool). cond b (Some (None, r)) (cond (flag == 1) (uploading_at k r) None)) zero in
    subst (λ (z : Option Uploading × List ℕ). Takes bytes (upload_text z.0) z.1 × IfSome z.0 (MayUpload k)) (same_Some (None, r) y (sym read ∙ e))
    (subst (λ (n : ℕ). Takes bytes (to_be_bytes w8 n) r) flag_is t, tt)
flag_take k bytes flag r y t small e false true zero one =
    let flag_is : flag ≡ 1 = eqb-true _ _ one in
    let read : flagged k flag r ≡ uploading_at k r = ap (λ (b : Bool). cond b (Some (None, r)) (cond (flag == 1) (uploading_at k r) None)) zero ∙ ap (λ (b : Bool). cond b (uploading_at k r) None) one in
    uploaded y (uploading_take k r y t.rest_fits (sym read ∙ e)) (subst (λ (n : ℕ). Takes bytes (to_be_bytes w8 n) r) flag_is t)
  where
    uploaded : (z : Option Uploading × List ℕ) → Takes r (fields_of z.0) z.1 × IsUploading k z.0 → Takes bytes (1 ∷ []) r → Takes bytes (upload_text z.0) z.1 × IfSome z.0 (MayUpload k)
    uploaded (None, rest) h front = absurd h.1
    uploaded (Some u, rest) h front = (Takes-then front h.0, h.1)
flag_take k bytes flag r y t small e false false zero one =
    let read : flagged k flag r ≡ None = ap (λ (b : Bool). cond b (Some (None, r)) (cond (flag == 1) (uploading_at k r) None)) zero ∙ ap (λ (b : Bool). cond b (uploading_at k r) None) one in
    absurd (cc (sym read ∙ e))

pub upload_reader : (k : Kept) → IsFront (upload_at k) upload_text (λ o. IfSome o (MayUpload k))
unfolding upload_at
upload_reader k = record {
  takes = λ bytes y fits e.
      let G : Type 0 = Takes bytes (upload_text y.0) y.1 × IfSome y.0 (MayUpload k) in
      step_to G flag_field bytes (flag_after k) y fits e (λ flag r1 t1 p1 e1. flag_take k bytes flag r1 y t1 p1 e1 (flag == 0) (flag == 1) refl refl);
  again = λ o rest h. again o rest h;
}
  where
    again : (o : Option Uploading) (rest : List ℕ) → IfSome o (MayUpload k) → upload_at k (upload_text o ++ rest) ≡ Some (o, rest)
    again None rest h = goes flag_field 0 rest (flag_after k) (omega arith)
    again (Some u) rest h = goes flag_field 1 (upload_fields u ++ rest) (flag_after k) (omega arith) ∙ uploading_again k u rest h
