-- How a transaction begins over a known database.
use Rattle.std.specs.Prelude.{◌≡◌, ℕ, true, false, List, [], length, Option, Some, None, nat_le}
use Rattle.std.specs.Option.{option_map}
use Rattle.bcv_base.specs.declared.log.Entry.{Entry}
use Rattle.bcv_base.specs.declared.seen.TxnBase.{TxnBase}
use Rattle.bcv_base.specs.Image.{or_else}
use Rattle.bcv_base.specs.Keyed.{keyed}
use Rattle.bcv_clientstate.specs.PartRefusals.{PartView, known_part, local_part}
use Rattle.bcv_clientstate.specs.SeenClient.{Free}
use Rattle.bcv_databases.specs.Catalog.{Catalog, View, known_name, set_at}
use Rattle.bcv_databases.specs.Slots.{OpensSet}
use Rattle.bcv_databases.specs.Sound.{IsSame}
use Rattle.bcv_databases.specs.declared.database_view.CommitsAt.{CommitsAt}
use Rattle.bcv_disk.specs.DiskShown.{DiskShown}
use Rattle.bcv_model.specs.declared.reply.Reply.{Reply}
use Rattle.bcv_model.specs.declared.reply.Reply.TheVariants as reply
use Rattle.bcv_model.specs.Notes.{kept_name}
use Rattle.bcv_pages.specs.Held.{CanView, Held}
use Rattle.bcv_transaction.specs.declared.answers.Begun.{Begun}
use Rattle.bcv_transaction.specs.declared.answers.Begun.TheVariants as begun
use Rattle.bcv_transaction.specs.MachineCalls.{BeginsAs}
use Rattle.bcv_transaction.specs.Open.{base_view}
use Rattle.bcv_transaction.specs.OpenCalls.{Begins}
use Rattle.bcv_client.specs.ClientParts.{sets_in}
use Rattle.bcv_client.specs.Events.{StandsOver, client_side, client_up}
use Rattle.bcv_client.specs.declared.client.Client.{Client}

-- ---- what is read

-- what is read of a database with these commits: its base, and the commits as they stand
abbrev pub base_with : View → Option CommitsAt → TxnBase
base_with v None = record { entry = v.entry; number = v.number; block = v.block; from = 0; to = 0 }
base_with v (Some at) = record { entry = v.entry; number = v.number; block = v.block; from = at.from; to = at.to }

abbrev pub base_over : View → TxnBase
base_over v = base_with v v.commits

-- a known database with what its commits write
abbrev pub part_at : Catalog → List ℕ → Option PartView
part_at c db = or_else (option_map local_part (keyed kept_name db c.kept.locals)) (option_map known_part (keyed known_name db c.known))

-- the base is that of a known database
pub record IsKnownEntry (c : Catalog) (base : TxnBase) : Type 0 where
  pub part : PartView
  pub is_part : part_at c base.entry.name ≡ Some part
  pub entry : base.entry ≡ part.entry
  pub number : base.number ≡ part.number
  pub block : base.block ≡ part.block

-- which has no commits
pub record HasNoCommits (c : Catalog) (base : TxnBase) : Type 0 where
  pub known : IsKnownEntry c base
  pub none : known.part.commits ≡ []
  pub from : base.from ≡ 0
  pub to : base.to ≡ 0

-- the set of a place has the commits of a known database, which are read with the base
pub record HasCommits (c : Catalog) (base : TxnBase) (set : ℕ) : Type 0 where
  pub known : IsKnownEntry c base
  pub held : Held
  pub is_held : set_at c.sets set ≡ Some held
  pub page_size : held.page_size ≡ base.entry.page_size
  pub can : CanView held base.from base.to
  pub commits : base_view held base ≡ known.part.commits

-- ---- begin

-- but for the transactions with their cache, and sets that nobody used, nothing has changed
pub record OnlyBegins {D : Type 0} {g : _} (old new : Client D g) : Type 0 where
  pub id : new.id ≡ old.id
  pub log : new.ledger.log ≡ old.ledger.log
  pub databases : IsSame old.ledger.databases new.ledger.databases
  pub seen : new.seen ≡ old.seen
  pub latest : new.latest ≡ old.latest
  pub tasks : new.tasks ≡ old.tasks
  pub taken : new.taken ≡ old.taken

-- the set that the transaction reads: that of the commits, or a new one where there are none
abbrev pub ReadsFrom : Catalog → Catalog → ℕ → Option CommitsAt → ℕ → Type 0
ReadsFrom old new page_size None set = OpensSet old new page_size set
ReadsFrom old new page_size (Some at) set = (set ≡ at.set) × (new ≡ old)

-- a transaction is open over a base, whose commits are in a set
pub record BeginsOver {D : Type 0} {g : _} (old new : Client D g) (base : TxnBase) (commits : Option CommitsAt) (n : ℕ) : Type 0 where
  pub set : ℕ
  pub reads : ReadsFrom old.ledger.databases new.ledger.databases base.entry.page_size commits set
  pub begins : Begins old.txns base set (sets_in new.ledger.databases set) (begun.Number n) new.txns

-- none begins, since memory was missing: the sets are as before, and the cache may have been made
pub record BeginsNone {D : Type 0} {g : _} (old new : Client D g) : Type 0 where
  pub few : nat_le 64 (length old.txns.txns) ≡ false
  pub txns : new.txns.txns ≡ old.txns.txns
  pub slots : new.txns.slots ≡ old.txns.slots
  pub sets : (p : ℕ) → set_at new.ledger.databases.sets p ≡ set_at old.ledger.databases.sets p

-- where fewer than 64 are open
abbrev pub BeginsBase : {D : Type 0} {g : _} → Client D g → Client D g → TxnBase → Option CommitsAt → Reply → Type 0
BeginsBase old new base commits (reply.Txn n) = BeginsOver old new base commits n
BeginsBase old new base commits reply.NoMemory = BeginsNone old new
BeginsBase old new base commits _ = ⊥

abbrev pub BeginsView : {D : Type 0} {g : _} → Client D g → Client D g → View → Reply → Type 0
BeginsView old new v reply.TooMany = (nat_le 64 (length old.txns.txns) ≡ true) × (new ≡ old)
BeginsView old new v r = BeginsBase old new (base_over v) v.commits r

-- a transaction begins over a known database as it stands
abbrev pub BeginsTxn : {D : Type 0} {g : _} → Client D g → Client D g → Option View → Reply → Type 0
BeginsTxn old new None r = (r ≡ reply.NoDatabase) × (new ≡ old)
BeginsTxn old new (Some v) r = BeginsView old new v r

abbrev pub begun_reply : Begun → Reply
begun_reply (begun.Number n) = reply.Txn n
begun_reply begun.TooMany = reply.TooMany
begun_reply begun.NoMemory = reply.NoMemory

-- ---- over a log

-- wherever the client stood it stands, and what began is the machine's
pub record BeginsAt {D : Type 0} {g : _} (shown : D → DiskShown) (old new : Client D g) (db : List ℕ) (b : Begun)
    (moment : ℕ) (log : List Entry) (f : Free) : Type 0 where
  pub stands : StandsOver shown new log f
  pub begins : BeginsAs (client_side moment log old f) (client_up log old) db b (client_side moment log new f)

abbrev pub BegunOver : {D : Type 0} {g : _} → (D → DiskShown) → Client D g → Client D g → List ℕ → Begun → Type 0
BegunOver shown old new db b =
    (moment : ℕ) (log : List Entry) (f : Free) → StandsOver shown old log f → BeginsAt shown old new db b moment log f
