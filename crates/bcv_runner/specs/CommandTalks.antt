-- Talks with a client whose asks are of some form.
use Rattle.std.specs.Prelude.{List}
use Rattle.bcv_client.specs.Talk.{Exchange, Point, Talks}
use Rattle.bcv_disk.specs.DiskShown.{DiskShown, DiskTold}
use Rattle.bcv_store.specs.StoreShown.{StoreTold}
use Rattle.bcv_runner.specs.CommandAsks.{OperationAsks}
use Rattle.bcv_runner.specs.declared.ending.Ending.{Ending}
use Rattle.bcv_runner.specs.declared.operation.Operation.{Operation}

-- the asks that are made are these
pub record MakesAsks {D : Type 0} {g : _} (told : DiskTold) (shown : D → DiskShown) (store : StoreTold)
    (Asks : List Exchange → Type 0) (a b : Point D g) : Type 0 where
  pub exchanges : List Exchange
  pub talks : Talks told shown store a exchanges b
  pub asks : Asks exchanges

-- they are those of an operation, which ends so
pub record EndsTalk {D : Type 0} {g : _} (told : DiskTold) (shown : D → DiskShown) (store : StoreTold) (o : Operation) (e : Ending)
    (a b : Point D g) : Type 0 where
  pub exchanges : List Exchange
  pub talks : Talks told shown store a exchanges b
  pub asks : OperationAsks told shown store o a exchanges e b
