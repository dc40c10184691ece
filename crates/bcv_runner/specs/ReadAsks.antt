-- What the read of a database's bytes asks a client, by the replies: a transaction, a range of its file, and the end of it.
use Rattle.std.specs.Prelude.{◌≡◌, ℕ, List, [], ◌∷◌, ◌++◌, false, take, Option, Some, None, MatchOption, Result, Ok, Err, option_map}
use Rattle.bcv_client.specs.RangeAsks.{exchange}
use Rattle.bcv_client.specs.RangeReads.{RangeOf, span_of}
use Rattle.bcv_client.specs.Talk.{Exchange, Exchanged, Point, Talks}
use Rattle.bcv_client.specs.Transactions.{opened_as}
use Rattle.bcv_client.specs.declared.byte_ranges.ReadAt.{ReadAt}
use Rattle.bcv_client.specs.declared.byte_ranges.ReadAt.TheVariants as read_at
use Rattle.bcv_disk.specs.DiskShown.{DiskShown, DiskTold}
use Rattle.bcv_model.specs.declared.ask.Ask.TheVariants as ask
use Rattle.bcv_model.specs.declared.reply.Reply.{Reply}
use Rattle.bcv_model.specs.declared.reply.Reply.TheVariants as reply
use Rattle.bcv_store.specs.StoreShown.{StoreTold}
use Rattle.bcv_runner.specs.Endings.{ending_of}
use Rattle.bcv_runner.specs.declared.ending.Ending.{Ending}
use Rattle.bcv_runner.specs.declared.ending.Ending.TheVariants as ending

-- the number of the transaction that has begun
abbrev pub txn_of : Reply → Option ℕ
txn_of (reply.Txn txn) = Some txn
txn_of _ = None

-- the bytes of a range that are there, without the zeros after them; or the reply of the page that did not come
abbrev pub bytes_read : ReadAt → List ℕ → Result (List ℕ) Reply
bytes_read read_at.Full into = Ok into
bytes_read (read_at.Short n) into = Ok (take n into)
bytes_read (read_at.Refused r) into = Err r

-- where the bytes came the transaction is ended, and they are the output; and else the reply is the last one
abbrev pub AfterRange : {D : Type 0} {g : _} → DiskTold → (D → DiskShown) → StoreTold → ℕ → Result (List ℕ) Reply → Point D g
    → List Exchange → Ending → Point D g → Type 0
AfterRange told shown store txn (Ok bytes) mid more e b =
    (r : Reply) × (more ≡ exchange (ask.End txn) r ∷ []) × Exchanged told shown store mid (exchange (ask.End txn) r) b
    × (e ≡ ending.Read bytes)
AfterRange told shown store txn (Err r) mid more e b = (more ≡ []) × (e ≡ ending_of false r) × (b ≡ mid)

-- a range of an open transaction's file is read, and the transaction is ended
pub record RangeIsRead {D : Type 0} {g : _} (told : DiskTold) (shown : D → DiskShown) (store : StoreTold) (off len txn : ℕ)
    (a : Point D g) (es : List Exchange) (e : Ending) (b : Point D g) : Type 0 where
  pub first : List Exchange
  pub more : List Exchange
  pub joined : es ≡ first ++ more
  pub read : ReadAt
  pub into : List ℕ
  pub mid : Point D g
  pub range : RangeOf (option_map (λ (x : ℕ × ℕ × ℕ). span_of x off len) (opened_as txn a.client.txns)) txn first into read
  pub talks : Talks told shown store a first mid
  pub after : AfterRange told shown store txn (bytes_read read into) mid more e b

-- a transaction of a database begins, and a range of its file is read; where it does not begin its reply is the last one
pub record DatabaseIsRead {D : Type 0} {g : _} (told : DiskTold) (shown : D → DiskShown) (store : StoreTold) (db : List ℕ)
    (off len : ℕ) (a : Point D g) (es : List Exchange) (e : Ending) (b : Point D g) : Type 0 where
  pub begun : Reply
  pub more : List Exchange
  pub joined : es ≡ exchange (ask.Begin db) begun ∷ more
  pub mid : Point D g
  pub begins : Exchanged told shown store a (exchange (ask.Begin db) begun) mid
  pub after :
      MatchOption (txn_of begun) ((more ≡ []) × (e ≡ ending_of false begun) × (b ≡ mid))
      (λ txn. RangeIsRead told shown store off len txn mid more e b)
