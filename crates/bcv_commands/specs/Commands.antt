-- The words of a command, and the command that they say.
use Rattle.std.specs.Prelude.{ℕ, ◌-◌, ◌^◌, Bool, true, not, ◌==◌, List, [], ◌∷◌, ◌++◌, Option, Some, None, codes}
use Rattle.std.specs.List.{list_all, before_first, after_first}
use Rattle.std.specs.Str.{bytes_eq}
use Rattle.bcv_model.specs.Words.{◌>>=◌, given, meaning_in, number_in, name_of, block_size_of}
use Rattle.bcv_commands.specs.declared.command.Command.{Command}
use Rattle.bcv_commands.specs.declared.command.Command.TheVariants as command
use Rattle.bcv_commands.specs.declared.command.CommandWord.{CommandWord}
use Rattle.bcv_commands.specs.declared.command.CommandWord.TheVariants as word

-- ---- the arguments

-- the word after which words are taken as they stand
abbrev pub is_dashes : List ℕ → Bool
is_dashes w = bytes_eq w (codes "--")

-- it doesn't begin with `-`
abbrev pub is_plain : List ℕ → Bool
is_plain [] = true
is_plain (b ∷ bs) = not (b == 45)

-- the words in front of the first `--`, none of which begins with `-`, and those after it
abbrev pub arguments_of : List (List ℕ) → Option (List (List ℕ))
arguments_of words =
    given (list_all is_plain (before_first is_dashes words)) (before_first is_dashes words ++ after_first is_dashes words)

-- exactly so many arguments
abbrev pub none_of : List (List ℕ) → Option (Unit {0})
none_of [] = Some tt
none_of (a ∷ rest) = None

abbrev pub one_of : List (List ℕ) → Option (List ℕ)
one_of [] = None
one_of (a ∷ rest) = none_of rest >>= λ _. Some a

abbrev pub two_of : List (List ℕ) → Option (List ℕ × List ℕ)
two_of [] = None
two_of (a ∷ rest) = one_of rest >>= λ b. Some (a, b)

abbrev pub three_of : List (List ℕ) → Option (List ℕ × List ℕ × List ℕ)
three_of [] = None
three_of (a ∷ rest) = two_of rest >>= λ b. Some (a, b.0, b.1)

-- ---- the commands

-- the first word of a command
abbrev pub command_words : List (List ℕ × CommandWord)
command_words =
    (codes "replay", word.Replay) ∷ (codes "generate", word.Generate) ∷ (codes "create", word.Create) ∷ (codes "new", word.New)
    ∷ (codes "upload", word.Upload) ∷ (codes "copy", word.Copy) ∷ (codes "drop", word.Drop) ∷ (codes "cleanup", word.Cleanup)
    ∷ (codes "poll", word.Poll) ∷ (codes "resolve", word.Resolve) ∷ (codes "list", word.List) ∷ (codes "commit", word.Commit)
    ∷ (codes "read", word.Read) ∷ []

-- a number of 64 bits: a generator's number, seconds, or a place in a file
abbrev pub long_number : List ℕ → Option ℕ
long_number w = number_in 0 (2 ^ 64 - 1) w

-- a database's size in pages
abbrev pub size_of_word : List ℕ → Option ℕ
size_of_word w = number_in 0 (2 ^ 32 - 1) w

-- how many bytes one read asks for
abbrev pub length_of_word : List ℕ → Option ℕ
length_of_word w = number_in 0 16777216 w

-- the command that takes no argument
abbrev pub alone : Command → List (List ℕ) → Option Command
alone c args = none_of args >>= λ _. Some c

-- the one database
abbrev pub database_in : List (List ℕ) → Option (List ℕ)
database_in args = one_of args >>= λ a. name_of a

-- the command of a word with exactly its arguments
abbrev pub command_with : CommandWord → List (List ℕ) → Option Command
command_with word.Replay args = alone command.Replay args
command_with word.Generate args = one_of args >>= λ a. long_number a >>= λ n. Some (command.Generate n)
command_with word.Create args = two_of args >>= λ a. block_size_of a.0 >>= λ block. long_number a.1 >>= λ seconds. Some (command.Create block seconds)
command_with word.New args = database_in args >>= λ db. Some (command.New db)
command_with word.Upload args = database_in args >>= λ db. Some (command.Upload db)
command_with word.Copy args = two_of args >>= λ a. name_of a.0 >>= λ from. name_of a.1 >>= λ to. Some (command.Copy from to)
command_with word.Drop args = database_in args >>= λ db. Some (command.Remove db)
command_with word.Cleanup args = alone command.Cleanup args
command_with word.Poll args = alone command.Poll args
command_with word.Resolve args = alone command.Resolve args
command_with word.List args = alone command.List args
command_with word.Commit args = two_of args >>= λ a. name_of a.0 >>= λ db. size_of_word a.1 >>= λ size. Some (command.Commit db size)
command_with word.Read args =
    three_of args >>= λ a. name_of a.0 >>= λ db. long_number a.1 >>= λ offset. length_of_word a.2 >>= λ len. Some (command.Read db offset len)

-- the command that words say, from its own word on
abbrev pub command_of : List (List ℕ) → Option Command
command_of [] = None
command_of (w ∷ ws) = meaning_in command_words w >>= λ word. arguments_of ws >>= λ args. command_with word args
