-- The input of the command `new`: a database file, cut into pages.
use Rattle.std.specs.Prelude.{◌≡◌, ℕ, ◌/◌, ◌%◌, ◌<◌, ◌≤◌, ◌==◌, List, [], ◌∷◌, length, take, Option, Some, None, Result, Ok, Err, if◌then◌else◌}
use Rattle.std.specs.Str.{bytes_eq}
use Rattle.bcv_base.specs.DatabaseHeader.{header_text, header_page_size}
use Rattle.bcv_base.specs.Joined.{pages_of}
use Rattle.bcv_commands.specs.declared.database_file.DatabaseFile.{DatabaseFile}
use Rattle.bcv_commands.specs.declared.database_file.FileFault.{FileFault}
use Rattle.bcv_commands.specs.declared.database_file.FileFault.TheVariants as fault

-- the most bytes of a database file
abbrev pub most_of_file : ℕ
most_of_file = 268435456

-- bytes cut into pages of a size; a fault at their end where a page is not whole
abbrev pub cut_into : ℕ → List ℕ → Result DatabaseFile ℕ
cut_into size bytes =
    if length bytes % size == 0 then Ok (record { page_size = size; pages = pages_of (length bytes / size) size bytes }) else Err (length bytes)

-- by the page size that the header says, which has its place at 16
abbrev pub cut_by : Option ℕ → List ℕ → Result DatabaseFile ℕ
cut_by None bytes = Err 16
cut_by (Some size) bytes = cut_into size bytes

-- the place of the fault in bytes that say no page size: that of the header's text, or that of the page size
abbrev pub header_fault : List ℕ → ℕ
header_fault bytes = if bytes_eq (take 16 bytes) header_text then 16 else 0

-- the database file that bytes are, or the place of the fault; no bytes are a database of no pages
abbrev pub file_of : List ℕ → Result DatabaseFile ℕ
file_of [] = Ok (record { page_size = 4096; pages = [] })
file_of (b ∷ bs) = if bytes_eq (take 16 (b ∷ bs)) header_text then cut_by (header_page_size (b ∷ bs)) (b ∷ bs) else Err 0

-- what the bytes that were taken of an input come to: only of an input that has ended the form is told, and too long is told
-- exactly where the limit is passed
abbrev pub ReadsFile : Result DatabaseFile FileFault → List ℕ → Type 0 → Type 0
ReadsFile (Ok file) taken ended = ended × (length taken ≤ most_of_file) × (file_of taken ≡ Ok file)
ReadsFile (Err (fault.BadImage at)) taken ended = ended × (length taken ≤ most_of_file) × (file_of taken ≡ Err at)
ReadsFile (Err fault.TooLong) taken ended = most_of_file < length taken
ReadsFile (Err fault.ReadFault) taken ended = length taken ≤ most_of_file
ReadsFile (Err fault.NoMemory) taken ended = Unit {0}
