-- Which reads and holds make a request: those of a page whose block is not cached.
use Rattle.std.specs.Prelude.{◌≡◌, ℕ, Bool, true, false, List, [], Option, Some, None}
use Rattle.std.specs.Option.{option_map_or}
use Rattle.bcv_base.specs.declared.id.Id16.{Id16}
use Rattle.bcv_base.specs.Views.{FromBase}
use Rattle.bcv_cache.specs.Cache.{has_room, slot_of}
use Rattle.bcv_cache.specs.Entry.{Blocks, Entry}
use Rattle.bcv_client.specs.Transactions.{AsksPage, pages_for}
use Rattle.bcv_client.specs.declared.client.Client.{Client}
use Rattle.bcv_client.specs.declared.job.Job.{Job}
use Rattle.bcv_machine.specs.State as m
use Rattle.bcv_model.specs.declared.reply.Reply.{Reply}
use Rattle.bcv_model.specs.declared.reply.Reply.TheVariants as reply
use Rattle.bcv_pages.specs.Held.{Held}
use Rattle.bcv_snapshot.specs.Opened.{block_id, source_of}
use Rattle.bcv_transaction.specs.declared.open_txn.OpenTxn.{OpenTxn}
use Rattle.bcv_transaction.specs.Open.{Open, txn_at, view_in}

-- the blocks that are cached, the most recent one first
abbrev pub cached : Open → List Entry
cached o = option_map_or (λ (c : Blocks). c.entries) o.cache []

-- a slot of the cache is free, or holds a block that is not pinned
abbrev pub room_in : Open → Bool
room_in o = option_map_or has_room o.cache false

-- the page of an open transaction lies in this block of its base, and no commit of its view has written it
pub record LiesIn (pages : Held) (o : Open) (txn page : ℕ) (id : Id16) : Type 0 where
  pub opened : OpenTxn
  pub is_open : txn_at txn o.txns ≡ Some opened
  pub from_base : source_of opened.txn.base (view_in pages opened) page ≡ Some FromBase
  pub block : block_id opened.txn.base page ≡ Some id

-- which is not cached, and there is room for it, or none
pub record IsFar (pages : Held) (o : Open) (txn page : ℕ) (room : Bool) : Type 0 where
  pub id : Id16
  pub lies : LiesIn pages o txn page id
  pub away : slot_of id (cached o) ≡ None
  pub has : room_in o ≡ room

-- whether a block has room, by the reply to a read or a hold that wants one: a task that fetches it, or too many of them, or a
-- full cache
abbrev pub room_for : Reply → Option Bool
room_for (reply.Task task left) = Some true
room_for reply.TooMany = Some true
room_for reply.CacheFull = Some false
room_for _ = None

-- such a reply comes only where the page's block is not cached; a cached page is answered at once
abbrev pub FetchesWhatIsFar : {D : Type 0} {g : _} → Client D g → Type 0
FetchesWhatIsFar {D = D} {g = g} old =
    (access : m.Access) (new : Client D g) (txn page : ℕ) (j : Job) (r : Reply) (room : Bool)
    → AsksPage access old new txn page j r → room_for r ≡ Some room
    → IsFar (pages_for old.ledger.databases txn old.txns) old.txns txn page room
