-- What is taken of an input into a slice, and into a page.
use Rattle.std.specs.Prelude.{◌≡◌, ℕ, ◌+◌, ◌<◌, ◌≤◌, List, ◌++◌, length, take, Option, Result, Ok, Err}
use Rattle.std.specs.Io.KnownBytes.{Consumes, IsAtEnd}
use Rattle.bcv_commands.specs.declared.database_file.DatabaseFile.{DatabaseFile}
use Rattle.bcv_commands.specs.declared.database_file.FileFault.{FileFault}
use Rattle.bcv_commands.specs.declared.database_file.FileFault.TheVariants as fault
use Rattle.bcv_commands.specs.declared.filling.Filled.{Filled}
use Rattle.bcv_commands.specs.declared.filling.Filled.TheVariants as filled
use Rattle.bcv_commands.specs.declared.filling.Drained.{Drained}
use Rattle.bcv_commands.specs.declared.filling.Drained.TheVariants as drained
use Rattle.bcv_commands.specs.declared.pages.NextPage.{NextPage}
use Rattle.bcv_commands.specs.declared.pages.NextPage.TheVariants as page
use Rattle.bcv_commands.specs.DatabaseFiles.{most_of_file, cut_into}

-- a slice is filled after so many bytes, or holds in front the last bytes of the input; the limit is passed exactly where it
-- is told
abbrev pub Fills : Filled → ℕ → Option (List ℕ) → Option (List ℕ) → List ℕ → Type 0
Fills filled.Full before old new slice = Consumes old new slice × (before + length slice ≤ most_of_file)
Fills (filled.Ended n) before old new slice =
    IsAtEnd new × Consumes old new (take n slice) × (n < length slice) × (before + n ≤ most_of_file)
Fills filled.TooLong before old new slice = (taken : List ℕ) × Consumes old new taken × (most_of_file < before + length taken)
Fills filled.Failed before old new slice = (taken : List ℕ) × Consumes old new taken × (before + length taken ≤ most_of_file)

-- the rest of an input is taken after so many bytes
abbrev pub Drains : Drained → ℕ → Option (List ℕ) → Option (List ℕ) → Type 0
Drains drained.Ended before old new =
    IsAtEnd new × ((taken : List ℕ) × Consumes old new taken × (before + length taken ≤ most_of_file))
Drains drained.TooLong before old new = (taken : List ℕ) × Consumes old new taken × (most_of_file < before + length taken)
Drains drained.Failed before old new = (taken : List ℕ) × Consumes old new taken × (before + length taken ≤ most_of_file)

-- a page is whole after so many bytes, or the input ended within it
abbrev pub TakesPage : NextPage → ℕ → ℕ → List ℕ → Type 0 → Type 0
TakesPage (page.Whole p) size before taken ended = (p ≡ taken) × (length p ≡ size) × (before + size ≤ most_of_file)
TakesPage (page.Ended n) size before taken ended = ended × (n ≡ length taken) × (n < size) × (before + n ≤ most_of_file)
TakesPage page.TooLong size before taken ended = most_of_file < before + length taken
TakesPage page.Failed size before taken ended = before + length taken ≤ most_of_file
TakesPage page.NoMemory size before taken ended = Unit {0}

-- bytes are cut into pages of a size, once the input has ended
abbrev pub CutsFile : Result DatabaseFile FileFault → ℕ → List ℕ → Type 0 → Type 0
CutsFile (Ok file) size taken ended = ended × (length taken ≤ most_of_file) × (cut_into size taken ≡ Ok file)
CutsFile (Err (fault.BadImage at)) size taken ended = ended × (length taken ≤ most_of_file) × (cut_into size taken ≡ Err at)
CutsFile (Err fault.TooLong) size taken ended = most_of_file < length taken
CutsFile (Err fault.ReadFault) size taken ended = length taken ≤ most_of_file
CutsFile (Err fault.NoMemory) size taken ended = Unit {0}
