-- A database file's pages are as the publication of a new database wants them.
use lib.Count.{ones}
use Rattle.std.proofs.Common.{◌≡◌, ◌∙◌, ◌+◌, ◌*◌, ◌<◌, ◌≤◌, ◌/◌, ◌%◌, ◌^◌, ◌&&◌, ◌==◌, ℕ, zero, suc, nat_le, Bool, true, false, cond, List, [], ◌∷◌, length, take, drop, Option, Some, None, Result, Ok, Err, refl, sym, ap, subst, arith}
use Rattle.std.specs.Int.{is_power_of_two}
use Rattle.std.specs.Prelude.{slice_index}
use Rattle.std.specs.Str.{bytes_eq}
use Rattle.std.specs.List.{AllByRecursion}
use Rattle.std.proofs.lemmas.Bool.{le-leb, leb-true}
use Rattle.std.proofs.lemmas.Grind.{common_steps}
use Rattle.std.proofs.Math.Nat.{suc-mul, div-mul-le_self, div-le_self}
use Rattle.bcv_base.specs.DatabaseHeader.{header_page_size, header_text, said_page_size}
use Rattle.bcv_base.specs.Image.{Page}
use Rattle.bcv_base.specs.Joined.{pages_of}
use Rattle.bcv_base.specs.ManifestRules.{is_page_size}
use Rattle.bcv_commands.specs.DatabaseFiles.{cut_by, file_of, most_of_file}
use Rattle.bcv_commands.specs.declared.database_file.DatabaseFile.{DatabaseFile}
use Rattle.bcv_dbcopy.specs.State.{FitsPages}
use Rattle.bcv_dbcopy.specs.declared.plan.CopyPlan.TheVariants as plan

-- ---- the size

both : (a b : Bool) → (a && b) ≡ true → (a ≡ true) × (b ≡ true)
both true b is = (refl, is)
both false b is = absurd (let no : false ≡ true = is in cc)

and : (a b : Bool) → a ≡ true → b ≡ true → (a && b) ≡ true
and true b one two = two
and false b one two = absurd (let no : false ≡ true = one in cc)

greatest : is_page_size 16777216 65536 ≡ true
unfolding ones
greatest = refl

other : (n size : ℕ) (power : Bool) → power ≡ is_power_of_two n → (fits : Bool) → fits ≡ (power && nat_le 512 n && nat_le n 32768)
    → cond fits (Some n) None ≡ Some size → is_page_size 16777216 size ≡ true
other n size power is true fits e =
    let x : n ≡ size = cc in
    let one = both (power && nat_le 512 n) (nat_le n 32768) (sym fits) in
    let two = both power (nat_le 512 n) one.0 in
    subst (λ (k : ℕ). is_page_size 16777216 k ≡ true) x
    (and (nat_le 512 n && nat_le n 65536 && is_power_of_two n) (nat_le n 16777216)
    (and (nat_le 512 n && nat_le n 65536) (is_power_of_two n)
    (and (nat_le 512 n) (nat_le n 65536) two.1 (le-leb n 65536 (omega (arith, leb-true n 32768 one.1)))) (sym is ∙ two.0))
    (le-leb n 16777216 (omega (arith, leb-true n 32768 one.1))))
other n size power is false fits e = cc

said_size : (n size : ℕ) (one : Bool) → one ≡ (n == 1)
    → cond one (Some 65536) (cond (is_power_of_two n && nat_le 512 n && nat_le n 32768) (Some n) None) ≡ Some size → is_page_size 16777216 size ≡ true
said_size n size true one e = let x : 65536 ≡ size = cc in subst (λ (k : ℕ). is_page_size 16777216 k ≡ true) x greatest
said_size n size false one e = other n size (is_power_of_two n) refl (is_power_of_two n && nat_le 512 n && nat_le n 32768) refl e

pub said_fits : (n size : ℕ) → said_page_size n ≡ Some size → is_page_size 16777216 size ≡ true
said_fits n size e = said_size n size (n == 1) refl e

-- ---- the pages

pub many_pages : (n size : ℕ) (bytes : List ℕ) → length (pages_of n size bytes) ≡ n
many_pages zero size bytes = refl
many_pages (suc n) size bytes = ap suc (many_pages n size (drop size bytes))

pub pages_sized : (n size : ℕ) (bytes : List ℕ) → n * size ≤ length bytes → AllByRecursion (λ (p : Page). length p ≡ size) (pages_of n size bytes)
pages_sized zero size bytes h = tt
pages_sized (suc n) size bytes h =
    let more : suc n * size ≡ n * size + size = suc-mul n size in
    let first : size ≤ length bytes = omega (arith, more, h) in
    (grind (arith, common_steps), pages_sized n size (drop size bytes) (grind (arith, common_steps)))

-- ---- the file

least : is_page_size 16777216 4096 ≡ true
unfolding ones
least = refl

-- bytes cut into pages, as a database file would be
pub record Cut (size : ℕ) (pages : List Page) : Type 0 where
  pub size_fits : is_page_size 16777216 size ≡ true
  pub sized : AllByRecursion (λ (p : Page). length p ≡ size) pages
  pub few : length pages < 2 ^ 31

pub cut_whole : (size : ℕ) (bytes : List ℕ) → is_page_size 16777216 size ≡ true → length bytes ≤ 268435456 → Cut size (pages_of (length bytes / size) size bytes)
cut_whole size bytes fits most = record {
  size_fits = fits;
  sized = pages_sized (length bytes / size) size bytes (div-mul-le_self (length bytes) size);
  few = let many = many_pages (length bytes / size) size bytes in omega (arith, many, div-le_self (length bytes) size, most);
}

pub cut_none : Cut 4096 []
cut_none = record { size_fits = least; sized = tt; few = omega arith }

-- the size that a header says
pub header_fits : (long text : Bool) (n size : ℕ) → cond (long && text) (said_page_size n) None ≡ Some size → is_page_size 16777216 size ≡ true
header_fits true true n size e = said_fits n size e
header_fits true false n size e = cc
header_fits false text n size e = cc

as_file : (size : ℕ) (bytes : List ℕ) (f : DatabaseFile) (whole : Bool) → Cut size (pages_of (length bytes / size) size bytes)
    → (let r : Result DatabaseFile ℕ = cond whole (Ok (record { page_size = size; pages = pages_of (length bytes / size) size bytes })) (Err (length bytes)) in r) ≡ Ok f
    → Cut f.page_size f.pages
as_file size bytes f true cut is =
    let x : (let y : DatabaseFile = record { page_size = size; pages = pages_of (length bytes / size) size bytes } in y) ≡ f = cc in
    subst (λ (h : DatabaseFile). Cut h.page_size h.pages) x cut
as_file size bytes f false cut is = cc

cut_fits : (o : Option ℕ) (bytes : List ℕ) (f : DatabaseFile) → ((size : ℕ) → o ≡ Some size → is_page_size 16777216 size ≡ true)
    → length bytes ≤ 268435456 → cut_by o bytes ≡ Ok f → Cut f.page_size f.pages
cut_fits None bytes f sizes most is = cc
cut_fits (Some size) bytes f sizes most is = as_file size bytes f (length bytes % size == 0) (cut_whole size bytes (sizes size refl) most) is

texted : (text : Bool) (o : Option ℕ) (bytes : List ℕ) (f : DatabaseFile) → ((size : ℕ) → o ≡ Some size → is_page_size 16777216 size ≡ true)
    → length bytes ≤ 268435456 → cond text (cut_by o bytes) (Err 0) ≡ Ok f → Cut f.page_size f.pages
texted true o bytes f sizes most is = cut_fits o bytes f sizes most is
texted false o bytes f sizes most is = cc

file_cut : (taken : List ℕ) (f : DatabaseFile) → length taken ≤ most_of_file → file_of taken ≡ Ok f → Cut f.page_size f.pages
file_cut [] f most is =
    let x : (let y : DatabaseFile = record { page_size = 4096; pages = [] } in y) ≡ f = cc in
    subst (λ (h : DatabaseFile). Cut h.page_size h.pages) x cut_none
file_cut (b ∷ bs) f most is =
    texted (bytes_eq (take 16 (b ∷ bs)) header_text) (header_page_size (b ∷ bs)) (b ∷ bs) f
    (λ size e. header_fits (nat_le 18 (length (b ∷ bs))) (bytes_eq (take 16 (b ∷ bs)) header_text) (slice_index (b ∷ bs) 16 * 256 + slice_index (b ∷ bs) 17) size e)
    most is

-- the pages of a database file that was read
pub file_fits : (db : List ℕ) (taken : List ℕ) (f : DatabaseFile) → length taken ≤ most_of_file → file_of taken ≡ Ok f → FitsPages (plan.New db f.page_size f.pages)
file_fits db taken f most is = let cut = file_cut taken f most is in (cut.size_fits, cut.sized, cut.few)
