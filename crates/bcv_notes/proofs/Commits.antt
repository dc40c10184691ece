-- Names and commits in notes: each is read in one way.
use Rattle.std.proofs.Common.{◌≡◌, ℕ, zero, suc, ◌+◌, ◌^◌, ◌<◌, ◌≤◌, Bool, true, List, [], ◌∷◌, ◌++◌, length, Some, refl, sym, ap, subst, ◌∙◌, append_assoc, arith}
use Rattle.std.specs.Prelude.{◌&&◌, ◌==◌, nat_lt, nat_le}
use Rattle.std.specs.Cmp.{first_so, second_so}
use Rattle.std.specs.Cmp.Derive.{both_true}
use Rattle.std.specs.Int.{w8, w32, to_be_bytes}
use Rattle.std.specs.List.{flat_map, list_all}
use Rattle.std.proofs.lemmas.Bool.{leb-true, le-leb, ltb-true, eqb-true, eq-eqb}
use Rattle.std.proofs.lemmas.Option.{same_Some}
use Rattle.bcv_base.specs.Image.{Page}
use Rattle.bcv_base.specs.ManifestGrammar.{such, bytes_at, number_at}
use Rattle.bcv_base.specs.ManifestRules.{blocks_needed}
use Rattle.bcv_base.specs.Names.{is_name, is_name_byte}
use Rattle.bcv_base.specs.Views.{ascends, have_size}
use Rattle.bcv_model.specs.declared.ask.Commit.{Commit}
use Rattle.bcv_model.specs.Notes.{numbered_page, commit_text, name_field}
use Rattle.bcv_model.specs.NoteRules.{FitsDatabase}
use Rattle.bcv_manifest.proofs.Readers.{IsBytes, Takes, Takes-then, bytes_reader, such_reader, number_reader, wide8, wide32}
use Rattle.bcv_notes.specs.NoteGrammar.{Front, ◌>>=◌, front, name_at, page_at, pages_at, commit_at}
use Rattle.bcv_notes.proofs.Fronts.{IsFront, of_reader, step_to, found_to, goes}

-- ---- a name

abbrev name_text_at : ℕ × List ℕ → Front (List ℕ)
name_text_at len = front (such (bytes_at len.0) is_name len.1)

byte_field : IsFront (λ b. front (number_at w8 b)) (to_be_bytes w8) (λ n. n < 256)
byte_field = of_reader (number_reader wide8)

name_text : (n : ℕ) → IsFront (λ b. front (such (bytes_at n) is_name b)) (λ k. k) (λ k. (length k ≡ n) × (is_name k ≡ true))
name_text n = of_reader (such_reader (bytes_reader n) is_name)

name_short : (k : List ℕ) → is_name k ≡ true → length k < 256
name_short k h =
    let in_range = first_so (nat_le 1 (length k) && nat_le (length k) 64) (list_all is_name_byte k) h in
    let le : length k ≤ 64 = leb-true _ _ (second_so (nat_le 1 (length k)) (nat_le (length k) 64) in_range) in
    omega (arith, le)

pub name_reader : IsFront name_at name_field (λ k. is_name k ≡ true)
name_reader = record {
  takes = λ bytes y fits e.
      let G : Type 0 = Takes bytes (name_field y.0) y.1 × (is_name y.0 ≡ true) in
      step_to G byte_field bytes name_text_at y fits e (λ n r1 t1 p1 e1.
      let t = (name_text n).takes r1 y t1.rest_fits e1 in
      (subst (λ (m : ℕ). Takes bytes (to_be_bytes w8 m ++ y.0) y.1) (sym t.1.0) (Takes-then t1 t.0), t.1.1));
  again = λ k rest h.
      ap name_at (append_assoc (to_be_bytes w8 (length k)) k rest)
      ∙ goes byte_field (length k) (k ++ rest) name_text_at (name_short k h)
      ∙ (name_text (length k)).again k rest (refl, h);
}

-- ---- pages

abbrev is_next : ℕ → ℕ → ℕ → Bool
is_next before most n = nat_lt before n && nat_le n most

abbrev page_after : ℕ → ℕ × List ℕ → Front (ℕ × Page)
page_after page_size number = front (bytes_at page_size number.1) >>= λ page. Some ((number.0, page.0), page.1)

number_field : (before most : ℕ) → IsFront (λ b. front (such (number_at w32) (is_next before most) b)) (to_be_bytes w32) (λ n. (n < 2 ^ 32) × (is_next before most n ≡ true))
number_field before most = of_reader (such_reader (number_reader wide32) (is_next before most))

page_field : (page_size : ℕ) → IsFront (λ b. front (bytes_at page_size b)) (λ k. k) (λ k. length k ≡ page_size)
page_field page_size = of_reader (bytes_reader page_size)

abbrev IsPage : ℕ → ℕ → ℕ → ℕ × Page → Type 0
IsPage page_size most before p = ((p.0 < 2 ^ 32) × (is_next before most p.0 ≡ true)) × (length p.1 ≡ page_size)

page_reader : (page_size most before : ℕ) → IsFront (page_at page_size most before) numbered_page (IsPage page_size most before)
page_reader page_size most before = record {
  takes = λ bytes y fits e.
      let G : Type 0 = Takes bytes (numbered_page y.0) y.1 × IsPage page_size most before y.0 in
      step_to G (number_field before most) bytes (page_after page_size) y fits e (λ n r1 t1 p1 e1.
      step_to G (page_field page_size) r1 (λ page. Some ((n, page.0), page.1)) y t1.rest_fits e1 (λ k r2 t2 p2 e2.
      let made : (ℕ × Page) × List ℕ = ((n, k), r2) in
      subst (λ (z : (ℕ × Page) × List ℕ). Takes bytes (numbered_page z.0) z.1 × IsPage page_size most before z.0) (same_Some made y e2) (Takes-then t1 t2, (p1, p2))));
  again = λ p rest h.
      ap (page_at page_size most before) (append_assoc (to_be_bytes w32 p.0) p.1 rest)
      ∙ goes (number_field before most) p.0 (p.1 ++ rest) (page_after page_size) h.0
      ∙ goes (page_field page_size) p.1 rest (λ page. Some ((p.0, page.0), page.1)) h.1;
}

abbrev ArePages : ℕ → ℕ → ℕ → ℕ → List (ℕ × Page) → Type 0
ArePages page_size most before n ps = (length ps ≡ n) × ((ascends before most ps ≡ true) × (have_size page_size ps ≡ true))

abbrev pages_after : ℕ → ℕ → ℕ → (ℕ × Page) × List ℕ → Front (List (ℕ × Page))
pages_after page_size most n first = pages_at page_size most n first.0.0 first.1 >>= λ others. Some (first.0 ∷ others.0, others.1)

pages_take : (page_size most n before : ℕ) (bytes : List ℕ) (y : List (ℕ × Page) × List ℕ) → IsBytes bytes → pages_at page_size most n before bytes ≡ Some y → Takes bytes (flat_map numbered_page y.0) y.1 × ArePages page_size most before n y.0
unfolding pages_at
pages_take page_size most zero before bytes y fits e =
    let made : List (ℕ × Page) × List ℕ = ([], bytes) in
    subst (λ (z : List (ℕ × Page) × List ℕ). Takes bytes (flat_map numbered_page z.0) z.1 × ArePages page_size most before zero z.0) (same_Some made y e) (record { parts = refl; rest_fits = fits }, (refl, (refl, refl)))
pages_take page_size most (suc n) before bytes y fits e =
    let G : Type 0 = Takes bytes (flat_map numbered_page y.0) y.1 × ArePages page_size most before (suc n) y.0 in
    step_to G (page_reader page_size most before) bytes (pages_after page_size most n) y fits e (λ p r1 t1 p1 e1.
    found_to G (pages_at page_size most n p.0 r1) (λ others. Some (p ∷ others.0, others.1)) y e1 (λ x is e2.
    let t = pages_take page_size most n p.0 r1 x t1.rest_fits is in
    let made : List (ℕ × Page) × List ℕ = (p ∷ x.0, x.1) in
    let ordered : ascends before most (p ∷ x.0) ≡ true = both_true {s = is_next before most p.0} {t = ascends p.0 most x.0} p1.0.1 t.1.1.0 in
    let sized : have_size page_size (p ∷ x.0) ≡ true = both_true {s = length p.1 == page_size} {t = have_size page_size x.0} (eq-eqb _ _ p1.1) t.1.1.1 in
    subst (λ (z : List (ℕ × Page) × List ℕ). Takes bytes (flat_map numbered_page z.0) z.1 × ArePages page_size most before (suc n) z.0) (same_Some made y e2) (Takes-then t1 t.0, (ap suc t.1.0, (ordered, sized)))))

pages_again : (page_size most n before : ℕ) (ps : List (ℕ × Page)) (rest : List ℕ) → most < 2 ^ 32 → ArePages page_size most before n ps → pages_at page_size most n before (flat_map numbered_page ps ++ rest) ≡ Some (ps, rest)
unfolding pages_at
pages_again page_size most zero before [] rest small h = refl
pages_again page_size most (suc n) before [] rest small h = absurd cc
pages_again page_size most zero before (p ∷ ps) rest small h = absurd cc
pages_again page_size most (suc n) before (p ∷ ps) rest small h =
    let next : is_next before most p.0 ≡ true = first_so (is_next before most p.0) (ascends p.0 most ps) h.1.0 in
    let later : ascends p.0 most ps ≡ true = second_so (is_next before most p.0) (ascends p.0 most ps) h.1.0 in
    let size : (length p.1 == page_size) ≡ true = first_so (length p.1 == page_size) (have_size page_size ps) h.1.1 in
    let sizes : have_size page_size ps ≡ true = second_so (length p.1 == page_size) (have_size page_size ps) h.1.1 in
    let within : p.0 ≤ most = leb-true _ _ (second_so (nat_lt before p.0) (nat_le p.0 most) next) in
    let more : List ℕ = flat_map numbered_page ps ++ rest in
    let len : length ps ≡ n = omega (arith, h.0) in
    ap (pages_at page_size most (suc n) before) (append_assoc (numbered_page p) (flat_map numbered_page ps) rest)
    ∙ goes (page_reader page_size most before) p more (pages_after page_size most n) ((omega (arith, within, small), next), eqb-true _ _ size)
    ∙ ap (λ (z : Front (List (ℕ × Page))). z >>= λ others. Some (p ∷ others.0, others.1)) (pages_again page_size most n p.0 ps rest small (len, (later, sizes)))

pages_reader : (page_size most n : ℕ) → most < 2 ^ 32 → IsFront (pages_at page_size most n 0) (flat_map numbered_page) (ArePages page_size most 0 n)
pages_reader page_size most n small = record {
  takes = λ bytes y fits e. pages_take page_size most n 0 bytes y fits e;
  again = λ ps rest h. pages_again page_size most n 0 ps rest small h;
}

-- pages are at most as many as the numbers that they may have
few_pages : (low high : ℕ) (ps : List (ℕ × Page)) → low ≤ high → ascends low high ps ≡ true → length ps + low ≤ high
few_pages low high [] le h = omega (arith, le)
few_pages low high (p ∷ ps) le h =
    let next : is_next low high p.0 ≡ true = first_so (is_next low high p.0) (ascends p.0 high ps) h in
    let above : low < p.0 = ltb-true _ _ (first_so (nat_lt low p.0) (nat_le p.0 high) next) in
    let within : p.0 ≤ high = leb-true _ _ (second_so (nat_lt low p.0) (nat_le p.0 high) next) in
    let more = few_pages p.0 high ps within (second_so (is_next low high p.0) (ascends p.0 high ps) h) in
    omega (arith, above, more)

-- ---- a commit

abbrev is_size : ℕ → ℕ → ℕ → Bool
is_size block page_size n = nat_le (blocks_needed block page_size n) 65536

abbrev made_commit : ℕ → List (ℕ × Page) × List ℕ → Front Commit
made_commit size pages = Some (record { size = size; pages = pages.0 }, pages.1)

abbrev count_after : ℕ → ℕ → ℕ × List ℕ → Front Commit
count_after page_size size count = pages_at page_size size count.0 0 count.1 >>= made_commit size

abbrev size_after : ℕ → ℕ × List ℕ → Front Commit
size_after page_size size = front (number_at w32 size.1) >>= count_after page_size size.0

size_field : (block page_size : ℕ) → IsFront (λ b. front (such (number_at w32) (is_size block page_size) b)) (to_be_bytes w32) (λ n. (n < 2 ^ 32) × (is_size block page_size n ≡ true))
size_field block page_size = of_reader (such_reader (number_reader wide32) (is_size block page_size))

count_field : IsFront (λ b. front (number_at w32 b)) (to_be_bytes w32) (λ n. n < 2 ^ 32)
count_field = of_reader (number_reader wide32)

group3 : (a b c rest : List ℕ) → (a ++ (b ++ c)) ++ rest ≡ a ++ (b ++ (c ++ rest))
group3 a b c rest = simp append_assoc

pub commit_reader : (block page_size : ℕ) → IsFront (commit_at block page_size) commit_text (FitsDatabase block page_size)
unfolding commit_at
commit_reader block page_size = record {
  takes = λ bytes y fits e.
      let G : Type 0 = Takes bytes (commit_text y.0) y.1 × FitsDatabase block page_size y.0 in
      step_to G (size_field block page_size) bytes (size_after page_size) y fits e (λ size r1 t1 p1 e1.
      step_to G count_field r1 (count_after page_size size) y t1.rest_fits e1 (λ count r2 t2 p2 e2.
      step_to G (pages_reader page_size size count p1.0) r2 (made_commit size) y t2.rest_fits e2 (λ ps r3 t3 p3 e3.
      let c : Commit = record { size = size; pages = ps } in
      let made : Commit × List ℕ = (c, r3) in
      let whole : Takes bytes (to_be_bytes w32 size ++ (to_be_bytes w32 count ++ flat_map numbered_page ps)) r3 = Takes-then t1 (Takes-then t2 t3) in
      let text : Takes bytes (commit_text c) r3 = subst (λ (n : ℕ). Takes bytes (to_be_bytes w32 size ++ (to_be_bytes w32 n ++ flat_map numbered_page ps)) r3) (sym p3.0) whole in
      let rules : FitsDatabase block page_size c = record { size = p1.0; blocks = leb-true _ _ p1.1; pages = both_true {s = ascends 0 size ps} {t = have_size page_size ps} p3.1.0 p3.1.1 } in
      subst (λ (z : Commit × List ℕ). Takes bytes (commit_text z.0) z.1 × FitsDatabase block page_size z.0) (same_Some made y e3) (text, rules))));
  again = λ c rest h.
      let ordered : ascends 0 c.size c.pages ≡ true = first_so (ascends 0 c.size c.pages) (have_size page_size c.pages) h.pages in
      let sized : have_size page_size c.pages ≡ true = second_so (ascends 0 c.size c.pages) (have_size page_size c.pages) h.pages in
      let few : length c.pages < 2 ^ 32 = omega (arith, few_pages 0 c.size c.pages (omega arith) ordered, h.size) in
      let pages : List ℕ = flat_map numbered_page c.pages ++ rest in
      let count : List ℕ = to_be_bytes w32 (length c.pages) ++ pages in
      ap (commit_at block page_size) (group3 (to_be_bytes w32 c.size) (to_be_bytes w32 (length c.pages)) (flat_map numbered_page c.pages) rest)
      ∙ goes (size_field block page_size) c.size count (size_after page_size) (h.size, le-leb _ _ h.blocks)
      ∙ goes count_field (length c.pages) pages (count_after page_size c.size) few
      ∙ goes (pages_reader page_size c.size (length c.pages) h.size) c.pages rest (made_commit c.size) (refl, (ordered, sized));
}
