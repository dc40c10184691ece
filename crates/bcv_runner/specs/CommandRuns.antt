-- How a command runs over a client, its disk and the world around it.
use Rattle.std.specs.Prelude.{◌≡◌, ◌⊎◌, ◌+◌, ℕ, List, Result, Ok, Err}
use Rattle.bcv_base.specs.Drawn.{NamesShown}
use Rattle.bcv_client.specs.ClientUp.{ComesBack, ComesNew, EmptyIfUp, LeavesDown, risen_of}
use Rattle.bcv_client.specs.declared.client.Client.{Client}
use Rattle.bcv_client.specs.declared.rising.Up.{Up}
use Rattle.bcv_client.specs.declared.rising.Up.TheVariants as up
use Rattle.bcv_clientlog.specs.LogParts.{Holds, LoadsAs, log_area, log_disk, log_tail}
use Rattle.bcv_commands.specs.declared.command.Command.{Command}
use Rattle.bcv_disk.specs.DiskShown.{DiskShown, DiskTold}
use Rattle.bcv_model.specs.declared.kept.Kept.{Kept}
use Rattle.bcv_risen.specs.Rises.{Rises}
use Rattle.bcv_risen.specs.declared.risen.RiseFault.{RiseFault}
use Rattle.bcv_store.specs.StoreShown.{StoreTold}
use Rattle.bcv_runner.specs.CommandAsks.{Around, point_of}
use Rattle.bcv_runner.specs.CommandTalks.{EndsTalk}
use Rattle.bcv_runner.specs.MachineRuns.{IsMachineRun}
use Rattle.bcv_runner.specs.Endings.{Outputs, up_ending}
use Rattle.bcv_runner.specs.Operations.{Prepares}
use Rattle.bcv_runner.specs.declared.ending.Ending.{Ending}
use Rattle.bcv_runner.specs.declared.operation.Operation.{Operation}
use Rattle.bcv_runner.specs.declared.run.Ran.{Ran}

-- all that is said of a client of 64 slots that comes up from a disk, or does not
pub record ClientRises {D : Type 0} {g : _} (told : DiskTold) (shown : D → DiskShown) (disk : D) (names later : NamesShown) (u : Up D g)
    : Type 0 where
  pub rises : Rises told shown disk names later (risen_of u)
  pub empty : EmptyIfUp 64 u
  pub again : ComesBack told shown disk 64 u
  pub first : ComesNew told shown disk 64 u

-- and of one that goes down, and hands its disk back
pub record HandsBack {D : Type 0} {g : _} (shown : D → DiskShown) (c : Client D g) (disk : D) : Type 0 where
  pub is : disk ≡ log_disk c.ledger.log
  pub leaves :
      (k : Kept) → Holds shown c.ledger.log k → (image : List ℕ) → (shown disk).may_leave image
      → LoadsAs image k (log_tail c.ledger.log + log_area c.ledger.log)
  pub down : LeavesDown shown c disk

-- a client is asked what an operation asks, and goes down
pub record AsksThenDown {D : Type 0} {g : _} (told : DiskTold) (shown : D → DiskShown) (store : StoreTold) (o : Operation)
    (start : Client D g) (before after : Around) (e : Ending) (back : D) : Type 0 where
  pub end : Client D g
  pub talk : EndsTalk told shown store o e (point_of start before) (point_of end after)
  pub down : HandsBack shown end back
  pub machine :
      IsMachineRun told shown store (point_of start before) talk.exchanges (point_of end after) talk.talks back

-- a client comes up, is asked, and goes down
pub record AsksClient {D : Type 0} (g : _) (told : DiskTold) (shown : D → DiskShown) (store : StoreTold) (o : Operation) (disk : D)
    (before after : Around) (e : Ending) (back : D) : Type 0 where
  pub start : Client D g
  pub names : NamesShown
  pub up : ClientRises told shown disk before.names names (up.Ready start)
  pub asks : AsksThenDown told shown store o start (record before { names = names }) after e back

-- no client comes up: the disk comes back, and nothing but a name was asked for
pub record StaysDown {D : Type 0} (g : _) (told : DiskTold) (shown : D → DiskShown) (disk : D) (before after : Around) (e : Ending)
    (back : D) : Type 0 where
  pub why : RiseFault
  pub up : ClientRises {g = g} told shown disk before.names after.names (up.Refused back why)
  pub ends : e ≡ up_ending why
  pub store : after.store ≡ before.store
  pub clock : after.clock ≡ before.clock

-- an operation over the client of a disk, where that comes up
pub record OperationRuns {D : Type 0} (g : _) (told : DiskTold) (shown : D → DiskShown) (store : StoreTold) (o : Operation) (disk : D)
    (before after : Around) (e : Ending) (back : D) : Type 0 where
  pub either : AsksClient g told shown store o disk before after e back ⊎ StaysDown g told shown disk before after e back

-- what follows the input: an operation, which runs so; or how the input ended the command, and all stays
abbrev pub AfterInput : {D : Type 0} → (Operation → Ending → D → Type 0) → Result Operation Ending → D → Around → Around → Ending
    → D → Type 0
AfterInput Runs (Ok o) disk before after e back = Runs o e back
AfterInput Runs (Err why) disk before after e back = (e ≡ why) × (after ≡ before) × (back ≡ disk)

-- a command: what was taken of its input, whether that has ended, and what was written
pub record CommandRuns {D : Type 0} (g : _) (told : DiskTold) (shown : D → DiskShown) (store : StoreTold) (disk : D)
    (before after : Around) (c : Command) (ran : Ran D) (taken : List ℕ) (ended : Type 0) (written : List ℕ) : Type 0 where
  pub prepared : Result Operation Ending
  pub input : Prepares c prepared taken ended
  pub ending : Ending
  pub runs :
      AfterInput (λ (o : Operation) (e : Ending) (back : D). OperationRuns g told shown store o disk before after e back) prepared disk
      before after ending ran.disk
  pub output : Outputs ending ran.status written
