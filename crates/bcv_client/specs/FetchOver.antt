-- What the step of a task that fetches a page leaves of a client, and when each answer comes.
use Rattle.std.specs.Prelude.{◌≡◌, ℕ}
use Rattle.bcv_model.specs.declared.reply.Reply.{Reply}
use Rattle.bcv_model.specs.declared.reply.Reply.TheVariants as reply
use Rattle.bcv_store.specs.StoreShown.{StoreShown, StoreTold}
use Rattle.bcv_transaction.specs.declared.answers.Stepped.{Stepped}
use Rattle.bcv_transaction.specs.declared.answers.Stepped.TheVariants as stepped
use Rattle.bcv_transaction.specs.StepCalls.{StepSays, Steps}
use Rattle.bcv_client.specs.TaskParts.{seen_access}
use Rattle.bcv_client.specs.Transactions.{OnlyTxns, pages_for}
use Rattle.bcv_client.specs.declared.client.Client.{Client}
use Rattle.bcv_client.specs.declared.job.Access.{Access}

-- the reply of a step that reads or holds a page
abbrev pub stepped_reply : Stepped → Reply
stepped_reply (stepped.Page bytes) = reply.Page bytes.items
stepped_reply stepped.Held = reply.Held
stepped_reply stepped.CacheFull = reply.CacheFull
stepped_reply stepped.BadPage = reply.BadPage
stepped_reply stepped.NoTxn = reply.NoTxn
stepped_reply stepped.Gone = reply.Gone
stepped_reply (stepped.BadBlock len) = reply.BadBlock len
stepped_reply stepped.StoreFault = reply.StoreFault
stepped_reply stepped.NoMemory = reply.NoMemory

-- the page is read, or its block is held, and nothing else has changed
pub record FetchesStep {D : Type 0} {g : _} (store : StoreTold) (before after : StoreShown) (old new : Client D g)
    (access : Access) (txn page : ℕ) (s : Stepped) : Type 0 where
  pub only : OnlyTxns old new
  pub steps : Steps (seen_access access) (pages_for old.ledger.databases txn old.txns) store before after old.txns txn page s new.txns
  pub says : StepSays store before after s

-- and so it is answered
pub record ClientFetches {D : Type 0} {g : _} (store : StoreTold) (before after : StoreShown) (old new : Client D g)
    (access : Access) (txn page : ℕ) (r : Reply) : Type 0 where
  pub how : Stepped
  pub answers : r ≡ stepped_reply how
  pub fetches : FetchesStep store before after old new access txn page how
