-- What the step of a resolve leaves of a client, and when each answer comes.
use Rattle.std.specs.Prelude.{ℕ, Bool, true, false, Option, Some, None}
use Rattle.bcv_databases.specs.Catalog.{Catalog, found_at}
use Rattle.bcv_disk.specs.DiskShown.{DiskShown, DiskTold}
use Rattle.bcv_ledger.specs.declared.ledger.Ledger.{Ledger}
use Rattle.bcv_model.specs.declared.kept.PendingPub.{PendingPub}
use Rattle.bcv_model.specs.declared.kept.Uploading.{Uploading}
use Rattle.bcv_model.specs.declared.reply.Reply.{Reply}
use Rattle.bcv_model.specs.declared.reply.Reply.TheVariants as reply
use Rattle.bcv_publisher.specs.ResolveStep.{ResolveStep}
use Rattle.bcv_store.specs.StoreShown.{StoreShown, StoreTold}
use Rattle.bcv_client.specs.LocalWrites.{TrimsSets, TrimsWhere, set_in_view}
use Rattle.bcv_client.specs.declared.client.Client.{Client}

abbrev pub is_resolved : Reply → Bool
is_resolved (reply.Resolved n) = true
is_resolved _ = false

-- the set with the commits of the database that an upload publishes
abbrev pub set_of_upload : Catalog → Option Uploading → Option ℕ
set_of_upload c None = None
set_of_upload c (Some u) = set_in_view (found_at c u.entry.name)

-- or that the pending publication uploads
abbrev pub uploaded_set : Catalog → Option PendingPub → Option ℕ
uploaded_set c None = None
uploaded_set c (Some p) = set_of_upload c p.upload

-- the ledger takes the step, and of the set with commits that were published it forgets what nobody needs any more
pub record ClientResolves {D : Type 0} {g : _} (told : DiskTold) (shown : D → DiskShown) (store : StoreTold)
    (before after : StoreShown) (old new : Client D g) (r : Reply) : Type 0 where
  pub mid : Ledger D g
  pub resolves : ResolveStep told shown store before after old.ledger mid old.id old.seen r
  pub trims : TrimsWhere (is_resolved r) (uploaded_set old.ledger.databases old.ledger.databases.kept.pending) mid new.ledger old.txns old.tasks.items
  pub views : TrimsSets mid new.ledger old.txns
