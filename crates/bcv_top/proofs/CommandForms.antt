-- A command that words say has a block size that there is, and asks for no more bytes than one read may.
use Rattle.std.proofs.Common.{◌≡◌, ◌≤◌, ◌^◌, ◌&&◌, ℕ, Bool, true, false, cond, nat_le, List, [], ◌∷◌, Some, refl, subst}
use Rattle.std.specs.Prelude.{Option, None, IfSome}
use Rattle.std.proofs.lemmas.Bool.{leb-true}
use Rattle.bcv_base.specs.ManifestRules.{is_block_size}
use Rattle.bcv_commands.specs.Commands.{arguments_of, command_of, command_with, command_words, database_in, long_number, length_of_word, none_of, one_of, size_of_word, three_of, two_of}
use Rattle.bcv_commands.specs.declared.command.Command.{Command}
use Rattle.bcv_commands.specs.declared.command.Command.TheVariants as command
use Rattle.bcv_commands.specs.declared.command.CommandWord.{CommandWord}
use Rattle.bcv_commands.specs.declared.command.CommandWord.TheVariants as word
use Rattle.bcv_model.specs.Words.{◌>>=◌, block_size_of, given, is_number, meaning_in, name_of, number_in, value_of}
use Rattle.bcv_runner.specs.Operations.{RunsOverClient}
use Rattle.bcv_top.specs.ClientCommands.{UsesClient}

-- what is made of a value, where there is one, by what is known of that
found_with : {A B : Type 0} (Q : A → Type 0) (P : B → Type 0) (o : Option A) (f : A → Option B) → IfSome o Q → ((a : A) → Q a → IfSome (f a) P) → IfSome (o >>= f) P
found_with Q P None f known then = tt
found_with Q P (Some a) f known then = then a known

found : {A B : Type 0} (P : B → Type 0) (o : Option A) (f : A → Option B) → ((a : A) → IfSome (f a) P) → IfSome (o >>= f) P
found P None f then = tt
found P (Some a) f then = then a

given_is : (test : Bool) (n : ℕ) → is_block_size n ≡ test → IfSome (given test n) (λ (b : ℕ). is_block_size b ≡ true)
given_is true n is = is
given_is false n is = tt

block_is : (w : List ℕ) → IfSome (block_size_of w) (λ (b : ℕ). is_block_size b ≡ true)
block_is w = found (λ (b : ℕ). is_block_size b ≡ true) (number_in 512 16777216 w) (λ n. given (is_block_size n) n) (λ n. given_is (is_block_size n) n refl)

within : (test : Bool) (n : ℕ) → (test ≡ true → n ≤ 2 ^ 24) → IfSome (cond test (Some n) None) (λ (m : ℕ). m ≤ 2 ^ 24)
within true n is = is refl
within false n is = tt

last_is : (a b : Bool) → (a && b) ≡ true → b ≡ true
last_is true b is = is
last_is false b is = absurd (let no : false ≡ true = is in cc)

length_is : (w : List ℕ) → IfSome (length_of_word w) (λ (n : ℕ). n ≤ 2 ^ 24)
length_is w =
    within (is_number w && nat_le 0 (value_of w) && nat_le (value_of w) 16777216) (value_of w)
    (λ is. leb-true (value_of w) 16777216 (last_is (is_number w && nat_le 0 (value_of w)) (nat_le (value_of w) 16777216) is))

-- a block size is one that there is, and a read asks for 16 MiB at most
abbrev HasSizes : Command → Type 0
HasSizes (command.Create block retention) = is_block_size block ≡ true
HasSizes (command.Read db offset len) = len ≤ 2 ^ 24
HasSizes _ = Unit {0}

on_database : (make : List ℕ → Command) (args : List (List ℕ)) → ((db : List ℕ) → HasSizes (make db)) → IfSome (database_in args >>= λ db. Some (make db)) HasSizes
on_database make args block = found HasSizes (database_in args) (λ db. Some (make db)) block

of_word : (w : CommandWord) (args : List (List ℕ)) → IfSome (command_with w args) HasSizes
of_word word.Replay args = found HasSizes (none_of args) (λ _. Some command.Replay) (λ _. tt)
of_word word.Generate args =
    found HasSizes (one_of args) (λ a. long_number a >>= λ n. Some (command.Generate n))
    (λ a. found HasSizes (long_number a) (λ n. Some (command.Generate n)) (λ _. tt))
of_word word.Create args =
    found HasSizes (two_of args) (λ a. block_size_of a.0 >>= λ block. long_number a.1 >>= λ seconds. Some (command.Create block seconds))
    (λ a. found_with (λ (b : ℕ). is_block_size b ≡ true) HasSizes (block_size_of a.0) (λ block. long_number a.1 >>= λ seconds. Some (command.Create block seconds)) (block_is a.0)
    (λ block is. found HasSizes (long_number a.1) (λ seconds. Some (command.Create block seconds)) (λ _. is)))
of_word word.New args = on_database (λ db. command.New db) args (λ _. tt)
of_word word.Upload args = on_database (λ db. command.Upload db) args (λ _. tt)
of_word word.Drop args = on_database (λ db. command.Remove db) args (λ _. tt)
of_word word.Copy args =
    found HasSizes (two_of args) (λ a. name_of a.0 >>= λ from. name_of a.1 >>= λ to. Some (command.Copy from to))
    (λ a. found HasSizes (name_of a.0) (λ from. name_of a.1 >>= λ to. Some (command.Copy from to))
    (λ from. found HasSizes (name_of a.1) (λ to. Some (command.Copy from to)) (λ _. tt)))
of_word word.Cleanup args = found HasSizes (none_of args) (λ _. Some command.Cleanup) (λ _. tt)
of_word word.Poll args = found HasSizes (none_of args) (λ _. Some command.Poll) (λ _. tt)
of_word word.Resolve args = found HasSizes (none_of args) (λ _. Some command.Resolve) (λ _. tt)
of_word word.List args = found HasSizes (none_of args) (λ _. Some command.List) (λ _. tt)
of_word word.Commit args =
    found HasSizes (two_of args) (λ a. name_of a.0 >>= λ db. size_of_word a.1 >>= λ size. Some (command.Commit db size))
    (λ a. found HasSizes (name_of a.0) (λ db. size_of_word a.1 >>= λ size. Some (command.Commit db size))
    (λ db. found HasSizes (size_of_word a.1) (λ size. Some (command.Commit db size)) (λ _. tt)))
of_word word.Read args =
    found HasSizes (three_of args) (λ a. name_of a.0 >>= λ db. long_number a.1 >>= λ offset. length_of_word a.2 >>= λ len. Some (command.Read db offset len))
    (λ a. found HasSizes (name_of a.0) (λ db. long_number a.1 >>= λ offset. length_of_word a.2 >>= λ len. Some (command.Read db offset len))
    (λ db. found HasSizes (long_number a.1) (λ offset. length_of_word a.2 >>= λ len. Some (command.Read db offset len))
    (λ offset. found_with (λ (n : ℕ). n ≤ 2 ^ 24) HasSizes (length_of_word a.2) (λ len. Some (command.Read db offset len)) (length_is a.2) (λ len is. is))))

block_of : (words : List (List ℕ)) → IfSome (command_of words) HasSizes
block_of [] = tt
block_of (w ∷ ws) =
    found HasSizes (meaning_in command_words w) (λ word. arguments_of ws >>= λ args. command_with word args)
    (λ word. found HasSizes (arguments_of ws) (λ args. command_with word args) (λ args. of_word word args))

over : (c : Command) → HasSizes c → UsesClient c → RunsOverClient c
over command.Replay block uses = uses
over (command.Generate n) block uses = uses
over (command.Create size retention) block uses = block
over (command.Read db offset len) block uses = block
over _ block uses = tt

-- a command that words say, and that uses a client, runs over one
pub runs_over_client : (words : List (List ℕ)) (c : Command) → command_of words ≡ Some c → UsesClient c → RunsOverClient c
runs_over_client words c is uses = over c (subst (λ (o : Option Command). IfSome o HasSizes) is (block_of words)) uses
