-- Pages that come without a request, for the client's calls.
use Rattle.std.specs.Prelude.{◌≡◌, ℕ, List, Option, Some, None}
use Rattle.bcv_base.specs.declared.log.Entry.{Entry}
use Rattle.bcv_base.specs.Views.{view_size}
use Rattle.bcv_clientstate.specs.SeenClient.{Free}
use Rattle.bcv_databases.specs.Catalog.{Catalog}
use Rattle.bcv_disk.specs.DiskShown.{DiskShown}
use Rattle.bcv_machine.specs.State as m
use Rattle.bcv_pages.specs.Held.{Held}
use Rattle.bcv_transaction.specs.declared.answers.Came.{Came}
use Rattle.bcv_transaction.specs.declared.answers.Came.TheVariants as came
use Rattle.bcv_transaction.specs.declared.open_txn.OpenTxn.{OpenTxn}
use Rattle.bcv_transaction.specs.MachineCalls.{Comes}
use Rattle.bcv_transaction.specs.Open.{CanRead, Open, txn_at, view_in}
use Rattle.bcv_client.specs.ClientParts.{sets_in}
use Rattle.bcv_client.specs.Events.{StandsOver, client_side, client_up}
use Rattle.bcv_client.specs.declared.client.Client.{Client}

-- the set is that of the transaction of a number, and has the commits of its view
pub record IsPagesOf (c : Catalog) (o : Open) (n : ℕ) (h : Held) : Type 0 where
  pub txn : OpenTxn
  pub is_open : txn_at n o.txns ≡ Some txn
  pub set : sets_in c txn.set ≡ h
  pub can : CanRead h txn
  pub size : txn.txn.size ≡ view_size txn.txn.base.entry.pages (view_in h txn)

abbrev pub PagesOf : Catalog → Open → ℕ → Option Held → Type 0
PagesOf c o n None = txn_at n o.txns ≡ None
PagesOf c o n (Some h) = IsPagesOf c o n h

-- a page that has to be fetched is one of the transaction's
abbrev pub WantsFetch : Came → Type 0 → Type 0
WantsFetch (came.Page bytes) Is = Unit {0}
WantsFetch came.Held Is = Unit {0}
WantsFetch (came.Absent id) Is = Is
WantsFetch came.CacheFull Is = Unit {0}
WantsFetch came.BadPage Is = Unit {0}
WantsFetch came.NoTxn Is = Unit {0}
WantsFetch came.NoMemory Is = Unit {0}

-- wherever the client stood it stands, and what came is the machine's
pub record ComesAt {D : Type 0} {g : _} (access : m.Access) (shown : D → DiskShown) (old new : Client D g) (n p : ℕ) (c : Came)
    (moment : ℕ) (log : List Entry) (f : Free) : Type 0 where
  pub stands : StandsOver shown new log f
  pub comes : Comes access (client_side moment log old f) (client_up log old) n p c (client_side moment log new f)

abbrev pub ComesOver : {D : Type 0} {g : _} → m.Access → (D → DiskShown) → Client D g → Client D g → ℕ → ℕ → Came → Type 0
ComesOver access shown old new n p c =
    (moment : ℕ) (log : List Entry) (f : Free) → StandsOver shown old log f → ComesAt access shown old new n p c moment log f
