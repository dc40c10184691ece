-- Words and the command that they say, computed.
use Rattle.std.specs.Prelude.{◌≡◌, [], ◌∷◌, Some, None, codes, refl}
use Rattle.bcv_commands.specs.declared.command.Command.TheVariants as command
use Rattle.bcv_commands.specs.Commands.{command_of}

replay : command_of (codes "replay" ∷ []) ≡ Some command.Replay
replay = refl

generate : command_of (codes "generate" ∷ codes "18446744073709551615" ∷ []) ≡ Some (command.Generate 18446744073709551615)
generate = refl

create : command_of (codes "create" ∷ codes "1024" ∷ codes "86400" ∷ []) ≡ Some (command.Create 1024 86400)
unfolding lib.Count.ones
create = refl

new : command_of (codes "new" ∷ codes "shop" ∷ []) ≡ Some (command.New (codes "shop"))
new = refl

upload : command_of (codes "upload" ∷ codes "shop" ∷ []) ≡ Some (command.Upload (codes "shop"))
upload = refl

copy : command_of (codes "copy" ∷ codes "shop" ∷ codes "shop-2" ∷ []) ≡ Some (command.Copy (codes "shop") (codes "shop-2"))
copy = refl

remove : command_of (codes "drop" ∷ codes "shop" ∷ []) ≡ Some (command.Remove (codes "shop"))
remove = refl

cleanup : command_of (codes "cleanup" ∷ []) ≡ Some command.Cleanup
cleanup = refl

poll : command_of (codes "poll" ∷ []) ≡ Some command.Poll
poll = refl

resolve : command_of (codes "resolve" ∷ []) ≡ Some command.Resolve
resolve = refl

list : command_of (codes "list" ∷ []) ≡ Some command.List
list = refl

commit : command_of (codes "commit" ∷ codes "shop" ∷ codes "3000" ∷ []) ≡ Some (command.Commit (codes "shop") 3000)
commit = refl

read : command_of (codes "read" ∷ codes "shop" ∷ codes "12287990" ∷ codes "100" ∷ []) ≡ Some (command.Read (codes "shop") 12287990 100)
read = refl

-- ---- the first `--` is dropped, wherever it stands after the command's word; a second one is an argument, and a name

dashes_first : command_of (codes "drop" ∷ codes "--" ∷ codes "-a" ∷ []) ≡ Some (command.Remove (codes "-a"))
dashes_first = refl

dashes_between : command_of (codes "copy" ∷ codes "a" ∷ codes "--" ∷ codes "-b" ∷ []) ≡ Some (command.Copy (codes "a") (codes "-b"))
dashes_between = refl

dashes_last : command_of (codes "poll" ∷ codes "--" ∷ []) ≡ Some command.Poll
dashes_last = refl

dashes_twice : command_of (codes "drop" ∷ codes "--" ∷ codes "--" ∷ []) ≡ Some (command.Remove (codes "--"))
dashes_twice = refl

dashes_thrice : command_of (codes "drop" ∷ codes "--" ∷ codes "--" ∷ codes "--" ∷ []) ≡ None
dashes_thrice = refl

dashes_before_the_command : command_of (codes "--" ∷ codes "poll" ∷ []) ≡ None
dashes_before_the_command = refl

dash_in_front : command_of (codes "drop" ∷ codes "-a" ∷ []) ≡ None
dash_in_front = refl

dash_alone : command_of (codes "drop" ∷ codes "-" ∷ []) ≡ None
dash_alone = refl

dash_before_dashes : command_of (codes "copy" ∷ codes "-a" ∷ codes "--" ∷ codes "b" ∷ []) ≡ None
dash_before_dashes = refl

-- ---- words that are no command

no_word : command_of [] ≡ None
no_word = refl

unknown_word : command_of (codes "frob" ∷ []) ≡ None
unknown_word = refl

word_too_many : command_of (codes "poll" ∷ codes "a" ∷ []) ≡ None
word_too_many = refl

word_too_few : command_of (codes "copy" ∷ codes "a" ∷ []) ≡ None
word_too_few = refl

empty_word : command_of (codes "poll" ∷ [] ∷ []) ≡ None
empty_word = refl

leading_zero : command_of (codes "generate" ∷ codes "07" ∷ []) ≡ None
leading_zero = refl

sign : command_of (codes "generate" ∷ codes "+7" ∷ []) ≡ None
sign = refl

number_too_large : command_of (codes "generate" ∷ codes "18446744073709551616" ∷ []) ≡ None
number_too_large = refl

no_block_size : command_of (codes "create" ∷ codes "1000" ∷ codes "0" ∷ []) ≡ None
unfolding lib.Count.ones
no_block_size = refl

size_too_large : command_of (codes "commit" ∷ codes "a" ∷ codes "4294967296" ∷ []) ≡ None
size_too_large = refl

length_too_large : command_of (codes "read" ∷ codes "a" ∷ codes "0" ∷ codes "16777217" ∷ []) ≡ None
length_too_large = refl
