-- Commits and reverts of a client.
use Rattle.std.specs.Prelude.{◌≡◌, ℕ, Bool, true, false, List, Option, None, Some}
use Rattle.std.specs.List.{AllByRecursion}
use Rattle.std.specs.Option.{option_map}
use Rattle.bcv_clientstate.specs.PartRefusals.{runs_publication}
use Rattle.bcv_databases.specs.Catalog.{View, found_at}
use Rattle.bcv_databases.specs.Changes.{KeepsFrom, Trims}
use Rattle.bcv_databases.specs.declared.database_view.CommitsAt.{CommitsAt}
use Rattle.bcv_disk.specs.DiskShown.{DiskShown, DiskTold}
use Rattle.bcv_ledger.specs.LocalCalls.{LedgerReverts}
use Rattle.bcv_ledger.specs.declared.ledger.Ledger.{Ledger}
use Rattle.bcv_model.specs.declared.reply.Reply.{Reply}
use Rattle.bcv_model.specs.declared.reply.Reply.TheVariants as reply
use Rattle.bcv_slots.specs.declared.Slot.{Slot}
use Rattle.bcv_transaction.specs.Open.{Open}
use Rattle.bcv_transaction.specs.declared.open_txn.OpenTxn.{OpenTxn}
use Rattle.bcv_client.specs.ClientParts.{parts_of}
use Rattle.bcv_client.specs.Transactions.{needed_in}
use Rattle.bcv_client.specs.declared.client.Client.{Client}
use Rattle.bcv_client.specs.declared.job.Job.{Job}

-- but for the ledger, and how many commits were given, nothing has changed
pub record OnlyWrites {D : Type 0} {g : _} (old new : Client D g) : Type 0 where
  pub id : new.id ≡ old.id
  pub seen : new.seen ≡ old.seen
  pub latest : new.latest ≡ old.latest
  pub txns : new.txns ≡ old.txns
  pub tasks : new.tasks.items ≡ old.tasks.items

-- but for the ledger nothing has changed
pub record OnlyLedger {D : Type 0} {g : _} (old new : Client D g) : Type 0 where
  pub writes : OnlyWrites old new
  pub taken : new.taken ≡ old.taken

-- ---- what is forgotten

abbrev pub is_fine : Reply → Bool
is_fine reply.Fine = true
is_fine _ = false

-- the set that a view's commits are in
abbrev pub set_in_view : Option View → Option ℕ
set_in_view None = None
set_in_view (Some v) = option_map (λ (at : CommitsAt). at.set) v.commits

-- a set is trimmed: the views of the open transactions stay
pub record TrimsSets {D : Type 0} {g : _} (old new : Ledger D g) (o : Open) : Type 0 where
  pub log : new.log ≡ old.log
  pub kept : new.databases.kept ≡ old.databases.kept
  pub known : new.databases.known ≡ old.databases.known
  pub views : AllByRecursion (λ (t : OpenTxn). KeepsFrom old.databases.sets new.databases.sets t.set t.txn.base.from t.txn.base.to) o.txns

-- where commits in it are gone, a set is trimmed by what transactions and uploads need of it
abbrev pub TrimsWhere : {D : Type 0} {g : _} → Bool → Option ℕ → Ledger D g → Ledger D g → Open → List (Slot Job) → Type 0
TrimsWhere false set old new o tasks = new ≡ old
TrimsWhere true None old new o tasks = new ≡ old
TrimsWhere true (Some set) old new o tasks =
    (new.log ≡ old.log) × Trims old.databases new.databases set (needed_in set o tasks)

-- ---- a revert

-- the ledger gives the commits up, and of the set that they were in it forgets what nobody needs any more
pub record ClientReverts {D : Type 0} {g : _} (told : DiskTold) (shown : D → DiskShown) (old new : Client D g) (db : List ℕ) (r : Reply) : Type 0 where
  pub mid : Ledger D g
  pub reverts : LedgerReverts told shown old.ledger mid (runs_publication (parts_of old)) db r
  pub trims : TrimsWhere (is_fine r) (set_in_view (found_at old.ledger.databases db)) mid new.ledger old.txns old.tasks.items
  pub views : TrimsSets mid new.ledger old.txns
