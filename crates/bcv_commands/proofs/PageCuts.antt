-- Pages of one size joined, and cut again.
use Rattle.std.proofs.Common.{◌≡◌, ℕ, zero, suc, ◌+◌, ◌*◌, ◌<◌, ◌≤◌, List, [], ◌∷◌, ◌++◌, length, length-append, take, drop, Ok, Err, refl, sym, ap, ◌∙◌, subst, append_assoc, append-nil, arith}
use Rattle.std.specs.Prelude.{◌/◌, ◌%◌, ◌==◌, Result, Option, Bool, true, false, if◌then◌else◌}
use Rattle.std.specs.Io.KnownBytes.{Consumes, IsAtEnd}
use Rattle.std.proofs.KnownBytes.{Consumes-nil, Consumes-trans}
use Rattle.std.proofs.lemmas.Bool.{ne_eqb}
use Rattle.std.specs.List.{flat_map}
use Rattle.std.proofs.Math.Nat.{zero-mul, suc-mul, mul-mod_left, mul-div_left, add-mul-mod_self_right, mod-eq_of_lt}
use Rattle.std.proofs.Math.Seq.{take-append_seam, drop-append_seam}
use Rattle.std.proofs.lemmas.Grind.{common_steps, flat_map-append}
use Rattle.bcv_base.specs.Image.{Page}
use Rattle.bcv_base.specs.Joined.{pages_of}
use Rattle.bcv_commands.specs.declared.database_file.DatabaseFile.{DatabaseFile}
use Rattle.bcv_commands.specs.declared.database_file.FileFault.{FileFault}
use Rattle.bcv_commands.specs.declared.database_file.FileFault.TheVariants as fault
use Rattle.bcv_commands.specs.DatabaseFiles.{cut_into, most_of_file}
use Rattle.bcv_commands.specs.Filling.{CutsFile}

no_length : (xs : List ℕ) → 0 ≡ length xs → xs ≡ []
no_length [] e = refl
no_length (x ∷ xs) e = absurd (omega (arith, e))

pub not_none : (n : ℕ) → (n ≡ 0 → ⊥) → 0 < n
not_none zero h = absurd (h refl)
not_none (suc n) h = omega arith

suc_times : (n k : ℕ) → (n + 1) * k ≡ n * k + k
suc_times n k = let e : n + 1 ≡ suc n = omega arith in ap (λ (m : ℕ). m * k) e ∙ suc-mul n k

abbrev pub joined_pages : List (List ℕ) → List ℕ
joined_pages pages = flat_map (λ (p : List ℕ). p) pages

abbrev pub AllOfSize : ℕ → List (List ℕ) → Type 0
AllOfSize size [] = Unit {0}
AllOfSize size (p ∷ ps) = (length p ≡ size) × AllOfSize size ps

pub all_more : (size : ℕ) (ps : List (List ℕ)) (p : List ℕ) → AllOfSize size ps → length p ≡ size → AllOfSize size (ps ++ p ∷ [])
all_more size [] p a e = (e, tt)
all_more size (q ∷ ps) p a e = (a.0, all_more size ps p a.1 e)

pub joined_more : (ps : List (List ℕ)) (p : List ℕ) → joined_pages (ps ++ p ∷ []) ≡ joined_pages ps ++ p
joined_more ps p = flat_map-append (λ (q : List ℕ). q) ps (p ∷ []) ∙ ap (λ (l : List ℕ). joined_pages ps ++ l) (append-nil p)

pub joined_length : (size : ℕ) (ps : List (List ℕ)) → AllOfSize size ps → length (joined_pages ps) ≡ length ps * size
joined_length size [] a = sym (zero-mul size)
joined_length size (p ∷ ps) a =
    let more : suc (length ps) * size ≡ length ps * size + size = suc-mul (length ps) size in
    let count : length (p ∷ ps) * size ≡ suc (length ps) * size = ap (λ (n : ℕ). n * size) (omega arith) in
    omega (arith, length-append p (joined_pages ps), a.0, joined_length size ps a.1, count, more)

cut_first : (size : ℕ) (p rest : List ℕ) → length p ≡ size → (take size (p ++ rest) ≡ p) × (drop size (p ++ rest) ≡ rest)
cut_first size p rest e =
    subst (λ (n : ℕ). (take n (p ++ rest) ≡ p) × (drop n (p ++ rest) ≡ rest)) e (take-append_seam p rest, drop-append_seam p rest)

cut_again : (size : ℕ) (ps : List (List ℕ)) → AllOfSize size ps → pages_of (length ps) size (joined_pages ps) ≡ ps
cut_again size [] a = refl
cut_again size (p ∷ ps) a =
    let c = cut_first size p (joined_pages ps) a.0 in
    ap (λ (q : List ℕ). q ∷ pages_of (length ps) size (drop size (p ++ joined_pages ps))) c.0
    ∙ ap (λ (q : List ℕ). p ∷ pages_of (length ps) size q) c.1 ∙ ap (λ (qs : List (List ℕ)). p ∷ qs) (cut_again size ps a.1)

-- ---- the cut of bytes, by the rest of their length and by the number of pages

abbrev cut_with : Bool → ℕ → ℕ → List ℕ → Result DatabaseFile ℕ
cut_with whole n size bytes = if whole then Ok (record { page_size = size; pages = pages_of n size bytes }) else Err (length bytes)

rest_none : (a b : ℕ) → a ≡ b → b ≡ 0 → (a == 0) ≡ true
rest_none a b e f = grind (arith, common_steps)

abbrev pub file_with : ℕ → List Page → DatabaseFile
file_with size pages = record { page_size = size; pages = pages }

-- pages joined are cut into those pages
pub cut_whole : (size : ℕ) (ps : List (List ℕ)) → 0 < size → AllOfSize size ps → cut_into size (joined_pages ps) ≡ Ok (file_with size ps)
cut_whole size ps h a =
    let len = joined_length size ps a in
    let rest : (length (joined_pages ps) % size == 0) ≡ true = rest_none (length (joined_pages ps) % size) (length ps * size % size) (ap (λ (n : ℕ). n % size) len) (mul-mod_left (length ps) size) in
    let count : length (joined_pages ps) / size ≡ length ps = ap (λ (n : ℕ). n / size) len ∙ mul-div_left (length ps) h in
    ap (λ (t : Bool). cut_with t (length (joined_pages ps) / size) size (joined_pages ps)) rest
    ∙ ap (λ (n : ℕ). cut_with true n size (joined_pages ps)) count
    ∙ ap (λ (qs : List Page). let r : Result DatabaseFile ℕ = Ok (file_with size qs) in r) (cut_again size ps a)

rest_some : (r n size : ℕ) → r ≡ n % size → 0 < n → n < size → (r == 0) ≡ false
rest_some r n size e h k = ne_eqb r 0 (λ z. omega (arith, e, mod-eq_of_lt {n = n} {m = size} k, z))

-- pages joined, and a part of one after them
pub cut_rest : (size : ℕ) (ps : List (List ℕ)) (rest : List ℕ) → AllOfSize size ps → 0 < length rest → length rest < size → cut_into size (joined_pages ps ++ rest) ≡ Err (length (joined_pages ps ++ rest))
cut_rest size ps rest a h k =
    let bytes = joined_pages ps ++ rest in
    let len : length bytes ≡ length rest + length ps * size = omega (arith, length-append (joined_pages ps) rest, joined_length size ps a) in
    let left : length bytes % size ≡ length rest % size = ap (λ (n : ℕ). n % size) len ∙ add-mul-mod_self_right (length rest) (length ps) size in
    ap (λ (t : Bool). cut_with t (length bytes / size) size bytes) (rest_some (length bytes % size) (length rest) size left h k)

-- ---- how far the reading of pages has come

pub record PagesTaken (ib im : Option (List ℕ)) (header front : List ℕ) (size before : ℕ) (pages : List (List ℕ)) : Type 0 where
  pub taken : List ℕ
  pub consumes : Consumes ib im taken
  pub joined : header ++ taken ≡ joined_pages pages ++ front
  pub all : AllOfSize size pages
  pub before_is : before ≡ length pages * size
  pub within : before + length front ≤ most_of_file
  pub short : length front ≤ size

abbrev pub FileEnded : (ib ie : Option (List ℕ)) → List ℕ → ℕ → Result DatabaseFile FileFault → Type 0
FileEnded ib ie header size result = (taken : List ℕ) × Consumes ib ie taken × CutsFile result size (header ++ taken) (IsAtEnd ie)

pub no_page_taken : (i : Option (List ℕ)) (header : List ℕ) (size : ℕ) (pages : List (List ℕ)) → pages ≡ [] → length header ≤ size → length header ≤ most_of_file → PagesTaken i i header header size 0 pages
no_page_taken i header size pages z h k = subst (PagesTaken i i header header size 0) (sym z) (record {
  taken = [];
  consumes = Consumes-nil i;
  joined = append-nil header;
  all = tt;
  before_is = sym (zero-mul size);
  within = omega arith;
  short = h;
})

module _ (ib im : Option (List ℕ)) (header front : List ℕ) (size before : ℕ) (pages : List (List ℕ)) (p : PagesTaken ib im header front size before pages) (ie : Option (List ℕ)) (t : List ℕ) (c : Consumes im ie t) where
  all_taken : Consumes ib ie (p.taken ++ t)
  all_taken = Consumes-trans ib im ie p.taken t p.consumes c

  all_joined : header ++ (p.taken ++ t) ≡ joined_pages pages ++ (front ++ t)
  all_joined = sym (append_assoc header p.taken t) ∙ ap (λ (l : List ℕ). l ++ t) p.joined ∙ append_assoc (joined_pages pages) front t

  all_length : length (header ++ (p.taken ++ t)) ≡ before + length (front ++ t)
  all_length = omega (arith, ap length all_joined, length-append (joined_pages pages) (front ++ t), joined_length size pages p.all, p.before_is)

  page_added : (page : List ℕ) → page ≡ front ++ t → length page ≡ size → before + size ≤ most_of_file → PagesTaken ib ie header [] size (before + size) (pages ++ page ∷ [])
  page_added page e len h =
      let more : length (pages ++ page ∷ []) * size ≡ length pages * size + size = ap (λ (n : ℕ). n * size) (length-append pages (page ∷ [])) ∙ suc_times (length pages) size in
      record {
        taken = p.taken ++ t;
        consumes = all_taken;
        joined = all_joined ∙ ap (λ (l : List ℕ). joined_pages pages ++ l) (sym e) ∙ sym (joined_more pages page) ∙ sym (append-nil (joined_pages (pages ++ page ∷ [])));
        all = all_more size pages page p.all len;
        before_is = omega (arith, p.before_is, more);
        within = omega arith;
        short = omega arith;
      }

  pub page_goes_on : (page next : List ℕ) (new : List (List ℕ)) → (page ≡ front ++ t) × (length page ≡ size) × (before + size ≤ most_of_file) → next ≡ [] → new ≡ pages ++ page ∷ []
      → PagesTaken ib ie header next size (before + size) new
  page_goes_on page next new h e n =
      subst (λ (x : List ℕ). PagesTaken ib ie header x size (before + size) new) (sym e)
      (subst (PagesTaken ib ie header [] size (before + size)) (sym n) (page_added page h.0 h.1 h.2))

  pub page_ends_none : 0 < size → IsAtEnd ie → 0 ≡ length (front ++ t) → FileEnded ib ie header size (Ok (file_with size pages))
  page_ends_none h end e =
      let none : front ++ t ≡ [] = no_length (front ++ t) e in
      let bytes : header ++ (p.taken ++ t) ≡ joined_pages pages = all_joined ∙ ap (λ (l : List ℕ). joined_pages pages ++ l) none ∙ append-nil (joined_pages pages) in
      (p.taken ++ t, all_taken, (end, omega (arith, all_length, p.within, e), ap (cut_into size) bytes ∙ cut_whole size pages h p.all))

  pub page_ends_part : (n : ℕ) → IsAtEnd ie → n ≡ length (front ++ t) → 0 < n → n < size → before + n ≤ most_of_file → FileEnded ib ie header size (Err (fault.BadImage (before + n)))
  page_ends_part n end e h k w =
      let place : length (joined_pages pages ++ (front ++ t)) ≡ before + n = omega (arith, all_length, ap length all_joined, e) in
      let cut = cut_rest size pages (front ++ t) p.all (omega arith) (omega arith) in
      (p.taken ++ t, all_taken, (end, omega (arith, all_length, e), ap (cut_into size) all_joined ∙ cut ∙ ap (λ (m : ℕ). let r : Result DatabaseFile ℕ = Err m in r) place))

  pub page_ends_limit : most_of_file < before + length (front ++ t) → FileEnded ib ie header size (Err fault.TooLong)
  page_ends_limit h = (p.taken ++ t, all_taken, omega (arith, all_length))

  pub page_ends_fault : before + length (front ++ t) ≤ most_of_file → FileEnded ib ie header size (Err fault.ReadFault)
  page_ends_fault h = (p.taken ++ t, all_taken, omega (arith, all_length))

  pub page_ends_memory : FileEnded ib ie header size (Err fault.NoMemory)
  page_ends_memory = (p.taken ++ t, all_taken, tt)
