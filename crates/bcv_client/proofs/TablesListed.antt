-- The table of a client's databases, in the machine's words.
use Rattle.std.proofs.Common.{Bool, List, refl, subst, sym}
use Rattle.bcv_databases.specs.Table.{table_of}
use Rattle.bcv_disk.specs.DiskShown.{DiskShown}
use Rattle.bcv_ledger.specs.TableLaws.{ListsAreTheMachines}
use Rattle.bcv_machine.specs.LocalWriting.{Lists}
use Rattle.bcv_machine.specs.State as m
use Rattle.bcv_model.specs.declared.reply.Reply.{Reply}
use Rattle.bcv_model.specs.declared.reply.Reply.TheVariants as reply
use Rattle.bcv_model.specs.declared.reply.Row.{Row}
use Rattle.bcv_client.specs.ClientParts.{entries_of, parts_of}
use Rattle.bcv_client.specs.Events.{Locally, client_side, client_up}
use Rattle.bcv_client.specs.NewTasks.{IsUnmoved}
use Rattle.bcv_client.specs.Shown.{ListsTable}
use Rattle.bcv_client.specs.declared.client.Client.{Client}
use Rattle.bcv_client.proofs.SameParts.{locally_still}

itself : {D : Type 0} {g : _} (x : Client D g) → IsUnmoved x x
itself x = record { only = record { id = refl; ledger = refl; seen = refl; latest = refl; txns = refl; taken = refl }; tasks = refl }

pub lists : {D : Type 0} {g : _} (shown : D → DiskShown) (x : Client D g) (r : Reply) → ListsAreTheMachines → ListsTable x.ledger.databases r → Locally shown (λ s u t. Lists s u r t) x x r
lists shown x (reply.Table rows pending) law is moment log f stands =
    let s : m.Side = client_side moment log x f in
    let u : m.Up = client_up log x in
    locally_still shown (λ a b t. Lists a b (reply.Table rows pending) t) x x moment log f (reply.Table rows pending) (itself x) stands
    (λ some.
    subst (λ (z : List Row). Lists s u (reply.Table z pending) s) (sym is.0)
    (subst (λ (z : Bool). Lists s u (reply.Table (table_of x.ledger.databases) z) s) (sym is.1) (law moment log (entries_of x) (parts_of x) f stands.sound stands.fits)))
lists shown x reply.NoMemory law is moment log f stands =
    locally_still shown (λ a b t. Lists a b reply.NoMemory t) x x moment log f reply.NoMemory (itself x) stands (λ some. absurd (some tt))
lists shown x _ law is moment log f stands = absurd is
