-- What a command does over a client once its input was read, and the input that it reads.
use Rattle.std.specs.Prelude.{◌≡◌, ◌≢◌, ◌≤◌, ◌^◌, ℕ, true, List, [], Option, Some, None, Result, Ok, Err, MatchOption}
use Rattle.bcv_base.specs.Faults.{Rose}
use Rattle.bcv_base.specs.ManifestRules.{is_block_size}
use Rattle.bcv_client.specs.AskCalls.{AskInForm}
use Rattle.bcv_commands.specs.DatabaseFiles.{ReadsFile}
use Rattle.bcv_commands.specs.Pairs.{ReadsPairs}
use Rattle.bcv_commands.specs.declared.command.Command.{Command}
use Rattle.bcv_commands.specs.declared.command.Command.TheVariants as command
use Rattle.bcv_commands.specs.declared.database_file.DatabaseFile.{DatabaseFile}
use Rattle.bcv_commands.specs.declared.database_file.FileFault.{FileFault}
use Rattle.bcv_commands.specs.declared.database_file.FileFault.TheVariants as file
use Rattle.bcv_commands.specs.declared.pairs.PairsFault.{PairsFault}
use Rattle.bcv_commands.specs.declared.pairs.PairsFault.TheVariants as pairs
use Rattle.bcv_commands.specs.declared.status.Status.TheVariants as status
use Rattle.bcv_model.specs.declared.ask.Ask.TheVariants as ask
use Rattle.bcv_model.specs.declared.reply.Reply.TheVariants as reply
use Rattle.bcv_runner.specs.Endings.{status_of}
use Rattle.bcv_runner.specs.declared.ending.Ending.{Ending}
use Rattle.bcv_runner.specs.declared.ending.Ending.TheVariants as ending
use Rattle.bcv_runner.specs.declared.operation.Operation.{Operation}
use Rattle.bcv_runner.specs.declared.operation.Operation.TheVariants as op

-- ---- the commands

-- it runs over a client; a block size is one that there is, and a read asks for 16 MiB at most
abbrev pub RunsOverClient : Command → Type 0
RunsOverClient command.Replay = ⊥
RunsOverClient (command.Generate n) = ⊥
RunsOverClient (command.Create block retention) = is_block_size block ≡ true
RunsOverClient (command.Read db offset len) = len ≤ 2 ^ 24
RunsOverClient _ = Unit {0}

-- what it asks may be asked of a client that was given no commit
abbrev pub OperationInForm : Operation → Type 0
OperationInForm (op.Publish q) = AskInForm 0 q
OperationInForm (op.Read db offset len) = len ≤ 2 ^ 24
OperationInForm _ = Unit {0}

-- what a command does that has no input
abbrev pub operation_of : Command → Option Operation
operation_of (command.Create block retention) = Some (op.Publish (ask.Create block retention))
operation_of (command.Upload db) = Some (op.Publish (ask.Upload db))
operation_of (command.Copy from to) = Some (op.Publish (ask.Copy from to))
operation_of (command.Remove db) = Some (op.Publish (ask.Remove db))
operation_of command.Cleanup = Some (op.Publish ask.Cleanup)
operation_of command.Poll = Some op.Poll
operation_of command.Resolve = Some op.Resolve
operation_of command.List = Some op.List
operation_of (command.Read db offset len) = Some (op.Read db offset len)
operation_of _ = None

-- ---- the input

-- how an input ends a command that is no database file
abbrev pub file_ending : FileFault → Ending
file_ending (file.BadImage at) = ending.Refused (reply.BadImage at)
file_ending file.TooLong = ending.Stopped status.TooLong
file_ending file.ReadFault = ending.Stopped status.ReadFault
file_ending file.NoMemory = ending.Stopped status.NoMemory

-- and one that is no list of pairs
abbrev pub pairs_ending : PairsFault → Ending
pairs_ending (pairs.BadScript line at) = ending.Stopped (status.BadScript line at)
pairs_ending pairs.TooLong = ending.Stopped status.TooLong
pairs_ending pairs.ReadFault = ending.Stopped status.ReadFault
pairs_ending pairs.NoMemory = ending.Stopped status.NoMemory

-- a database file is read, to publish it under a name
abbrev pub ReadsNew : List ℕ → Result Operation Ending → List ℕ → Type 0 → Type 0
ReadsNew db (Ok o) taken ended =
    (f : DatabaseFile) × (o ≡ op.Publish (ask.NewDb db f.page_size f.pages)) × ReadsFile (Ok f) taken ended
ReadsNew db (Err e) taken ended = (why : FileFault) × (e ≡ file_ending why) × ReadsFile (Err why) taken ended

-- pairs are read, to commit them
abbrev pub ReadsCommit : List ℕ → ℕ → Result Operation Ending → List ℕ → Type 0 → Type 0
ReadsCommit db size (Ok o) taken ended =
    (ps : List (ℕ × List ℕ)) × (o ≡ op.Commit db size ps) × ReadsPairs (Ok ps) taken ended
ReadsCommit db size (Err e) taken ended = (why : PairsFault) × (e ≡ pairs_ending why) × ReadsPairs (Err why) taken ended

-- what a command does, by the bytes that were taken of its input, and whether that has ended; every other one takes none
abbrev pub Prepares : Command → Result Operation Ending → List ℕ → Type 0 → Type 0
Prepares (command.New db) r taken ended = ReadsNew db r taken ended
Prepares (command.Commit db size) r taken ended = ReadsCommit db size r taken ended
Prepares c r taken ended = (taken ≡ []) × MatchOption (operation_of c) ⊥ (λ o. r ≡ Ok o)

-- an input ends a command as a fault only where its count rose, and never as one of the output, the disk or the words
pub record EndsAsInput (before now : ℕ) (e : Ending) : Type 0 where
  pub read : status_of e ≡ status.ReadFault → Rose before now
  pub write : status_of e ≢ status.WriteFault
  pub disk : status_of e ≢ status.DiskFault
  pub words : status_of e ≢ status.BadWords

abbrev pub InputCauses : ℕ → ℕ → Result Operation Ending → Type 0
InputCauses before now (Ok o) = Unit {0}
InputCauses before now (Err e) = EndsAsInput before now e

-- the operation, where there is one, may be asked of a new client
abbrev pub PreparedInForm : Result Operation Ending → Type 0
PreparedInForm (Ok o) = OperationInForm o
PreparedInForm (Err e) = Unit {0}
