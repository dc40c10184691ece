-- What the front of a file says of the whole of it.
use Rattle.std.proofs.Common.{◌≡◌, ℕ, ◌+◌, ◌*◌, ◌<◌, ◌≤◌, List, [], ◌∷◌, ◌++◌, length, length-append, take, Some, None, Ok, Err, refl, sym, ap, ◌∙◌, subst, arith}
use Rattle.std.specs.Prelude.{Result, Option, Bool, true, false, ◌&&◌, nat_le, slice_index, if◌then◌else◌}
use Rattle.std.specs.Str.{bytes_eq}
use Rattle.std.specs.Io.KnownBytes.{Consumes, IsAtEnd}
use Rattle.std.proofs.KnownBytes.{Consumes-trans}
use Rattle.std.proofs.lemmas.Grind.{common_steps}
use Rattle.std.proofs.lemmas.Bool.{le-leb, lt-leb}
use Rattle.std.proofs.lemmas.List.{take-append-le, get_or_append_left}
use Rattle.bcv_base.specs.DatabaseHeader.{header_text, header_page_size, said_page_size}
use Rattle.bcv_commands.specs.declared.database_file.DatabaseFile.{DatabaseFile}
use Rattle.bcv_commands.specs.declared.database_file.FileFault.{FileFault}
use Rattle.bcv_commands.specs.declared.database_file.FileFault.TheVariants as fault
use Rattle.bcv_commands.specs.DatabaseFiles.{cut_by, cut_into, file_of, header_fault, most_of_file, ReadsFile}
use Rattle.bcv_commands.specs.declared.filling.Drained.TheVariants as drained
use Rattle.bcv_commands.specs.Filling.{CutsFile, Drains}

-- the header's parts: whether it is long enough, whether it has the text, and two bytes
abbrev said_by : Bool → Bool → ℕ → ℕ → Option ℕ
said_by long text a b = if long && text then said_page_size (a * 256 + b) else None

abbrev has_text : List ℕ → Bool
has_text bytes = bytes_eq (take 16 bytes) header_text

said_some : (long text : Bool) (a b size : ℕ) → said_by long text a b ≡ Some size → (text ≡ true) × (said_page_size (a * 256 + b) ≡ Some size)
said_some true true a b size e = (refl, e)
said_some true false a b size e = cc
said_some false true a b size e = cc
said_some false false a b size e = cc

is_long : (n : ℕ) → 18 ≤ n → nat_le 18 n ≡ true
is_long n h = le-leb 18 n h

is_short : (n : ℕ) → n ≤ 17 → nat_le 18 n ≡ false
is_short n h = lt-leb 18 n (omega (arith, h))

same_text : (header t : List ℕ) → 16 ≤ length header → has_text (header ++ t) ≡ has_text header
same_text header t h = ap (λ (l : List ℕ). bytes_eq l header_text) (take-append-le 16 header t h)

index_in_front : (header t : List ℕ) (n : ℕ) → n < length header → slice_index (header ++ t) n ≡ slice_index header n
index_in_front header t n h = get_or_append_left header t 0 n h

pub same_size : (header t : List ℕ) → length header ≡ 18 → header_page_size (header ++ t) ≡ header_page_size header
same_size header t h =
    let long : nat_le 18 (length (header ++ t)) ≡ nat_le 18 (length header) = is_long (length (header ++ t)) (omega (arith, h, length-append header t)) ∙ sym (is_long (length header) (omega (arith, h))) in
    ap (λ (x : Bool). said_by x (has_text (header ++ t)) (slice_index (header ++ t) 16) (slice_index (header ++ t) 17)) long
    ∙ ap (λ (x : Bool). said_by (nat_le 18 (length header)) x (slice_index (header ++ t) 16) (slice_index (header ++ t) 17)) (same_text header t (omega (arith, h)))
    ∙ ap (λ (x : ℕ). said_by (nat_le 18 (length header)) (has_text header) x (slice_index (header ++ t) 17)) (index_in_front header t 16 (omega (arith, h)))
    ∙ ap (λ (x : ℕ). said_by (nat_le 18 (length header)) (has_text header) (slice_index header 16) x) (index_in_front header t 17 (omega (arith, h)))

short_has_none : (bytes : List ℕ) → length bytes ≤ 17 → header_page_size bytes ≡ None
short_has_none bytes h = ap (λ (x : Bool). said_by x (has_text bytes) (slice_index bytes 16) (slice_index bytes 17)) (is_short (length bytes) h)

-- ---- the form of a file that isn't empty

abbrev formed : Bool → Option ℕ → List ℕ → Result DatabaseFile ℕ
formed text size bytes = if text then cut_by size bytes else Err 0

formed_is : (bytes : List ℕ) → 0 < length bytes → file_of bytes ≡ formed (has_text bytes) (header_page_size bytes) bytes
formed_is [] h = absurd (omega (arith, h))
formed_is (b ∷ bs) h = refl

pub sized_file : (header t : List ℕ) (size : ℕ) → length header ≡ 18 → header_page_size header ≡ Some size → file_of (header ++ t) ≡ cut_into size (header ++ t)
sized_file header t size h e =
    let text = said_some (nat_le 18 (length header)) (has_text header) (slice_index header 16) (slice_index header 17) size e in
    formed_is (header ++ t) (omega (arith, h, length-append header t))
    ∙ ap (λ (x : Bool). formed x (header_page_size (header ++ t)) (header ++ t)) (same_text header t (omega (arith, h)) ∙ text.0)
    ∙ ap (λ (x : Option ℕ). formed true x (header ++ t)) (same_size header t h ∙ e)

place_of : (text : Bool) (bytes : List ℕ) → formed text None bytes ≡ Err (if text then 16 else 0)
place_of true bytes = refl
place_of false bytes = refl

sizeless : (bytes : List ℕ) → 0 < length bytes → header_page_size bytes ≡ None → file_of bytes ≡ Err (header_fault bytes)
sizeless bytes h e = formed_is bytes h ∙ ap (λ (x : Option ℕ). formed (has_text bytes) x bytes) e ∙ place_of (has_text bytes) bytes

pub sizeless_file : (header t : List ℕ) → length header ≡ 18 → header_page_size header ≡ None → file_of (header ++ t) ≡ Err (header_fault header)
sizeless_file header t h e =
    sizeless (header ++ t) (omega (arith, h, length-append header t)) (same_size header t h ∙ e)
    ∙ ap (λ (x : Bool). let r : Result DatabaseFile ℕ = Err (if x then 16 else 0) in r) (same_text header t (omega (arith, h)))

pub short_file_of : (bytes : List ℕ) → 0 < length bytes → length bytes ≤ 17 → file_of bytes ≡ Err (header_fault bytes)
short_file_of bytes h k = sizeless bytes h (short_has_none bytes k)

-- a page size that a header says
said_range : (n size : ℕ) → said_page_size n ≡ Some size → (512 ≤ size) × (size ≤ 65536)
said_range n size e = grind (arith, common_steps)

pub size_range : (header : List ℕ) (size : ℕ) → header_page_size header ≡ Some size → (512 ≤ size) × (size ≤ 65536)
size_range header size e =
    let said = said_some (nat_le 18 (length header)) (has_text header) (slice_index header 16) (slice_index header 17) size e in
    said_range (slice_index header 16 * 256 + slice_index header 17) size said.1

-- ---- what a cut says of the file

pub cut_is_file : (r : Result DatabaseFile FileFault) (size : ℕ) (header t : List ℕ) (ended : Type 0) → length header ≡ 18 → header_page_size header ≡ Some size
    → CutsFile r size (header ++ t) ended → ReadsFile r (header ++ t) ended
cut_is_file (Ok file) size header t ended h e c = (c.0, c.1, sized_file header t size h e ∙ c.2)
cut_is_file (Err (fault.BadImage at)) size header t ended h e c = (c.0, c.1, sized_file header t size h e ∙ c.2)
cut_is_file (Err fault.TooLong) size header t ended h e c = c
cut_is_file (Err fault.ReadFault) size header t ended h e c = c
cut_is_file (Err fault.NoMemory) size header t ended h e c = tt

abbrev pub FileRead : (a b : Option (List ℕ)) → List ℕ → Result DatabaseFile FileFault → Type 0
FileRead a b header r = (taken : List ℕ) × Consumes a b taken × ReadsFile r (header ++ taken) (IsAtEnd b)

pub pages_are_file : (a b : Option (List ℕ)) (r : Result DatabaseFile FileFault) (size : ℕ) (header : List ℕ) → length header ≡ 18 → header_page_size header ≡ Some size
    → (taken : List ℕ) × Consumes a b taken × CutsFile r size (header ++ taken) (IsAtEnd b) → FileRead a b header r
pages_are_file a b r size header h e f = (f.0, f.1, cut_is_file r size header f.0 (IsAtEnd b) h e f.2)

-- ---- a header that says no page size

module _ (a b : Option (List ℕ)) (header : List ℕ) (h : length header ≡ 18) where
  pub refused_end : (at : ℕ) → header_page_size header ≡ None → at ≡ header_fault header → Drains drained.Ended 18 a b → FileRead a b header (Err (fault.BadImage at))
  refused_end at e f d =
      (d.1.0, d.1.1, (d.0, omega (arith, h, d.1.2, length-append header d.1.0), sizeless_file header d.1.0 h e ∙ ap (λ (n : ℕ). let r : Result DatabaseFile ℕ = Err n in r) (sym f)))

  pub refused_limit : Drains drained.TooLong 18 a b → FileRead a b header (Err fault.TooLong)
  refused_limit d = (d.0, d.1, omega (arith, h, d.2, length-append header d.0))

  pub refused_fault : Drains drained.Failed 18 a b → FileRead a b header (Err fault.ReadFault)
  refused_fault d = (d.0, d.1, omega (arith, h, d.2, length-append header d.0))

-- ---- the whole file

pub file_after : (a b c : Option (List ℕ)) (header : List ℕ) (r : Result DatabaseFile FileFault) → Consumes a b header → FileRead b c header r
    → (taken : List ℕ) × Consumes a c taken × ReadsFile r taken (IsAtEnd c)
file_after a b c header r h f = (header ++ f.0, Consumes-trans a b c header f.0 h f.1, f.2)

pub short_is_file : (r : Result DatabaseFile FileFault) (bytes : List ℕ) (ended : Type 0) → ended → ReadsFile r bytes (Unit {0}) → ReadsFile r bytes ended
short_is_file (Ok file) bytes ended e f = (e, f.1, f.2)
short_is_file (Err (fault.BadImage at)) bytes ended e f = (e, f.1, f.2)
short_is_file (Err fault.TooLong) bytes ended e f = f
short_is_file (Err fault.ReadFault) bytes ended e f = f
short_is_file (Err fault.NoMemory) bytes ended e f = tt
