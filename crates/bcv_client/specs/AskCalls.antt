-- What a client says to an ask.
use Rattle.std.specs.Prelude.{◌≡◌, ◌==◌, ◌<◌, ◌+◌, ◌^◌, ◌&&◌, ℕ, Bool, true, List, [], ◌∷◌, length, nat_lt}
use Rattle.std.specs.List.{list_all}
use Rattle.bcv_base.specs.declared.id.Id16.{Id16}
use Rattle.bcv_base.specs.declared.outcome.Outcome.{Outcome}
use Rattle.bcv_base.specs.Drawn.{NamesShown}
use Rattle.bcv_base.specs.Image.{Page, zeros}
use Rattle.bcv_base.specs.ManifestRules.{is_block_size, is_page_size}
use Rattle.bcv_base.specs.Moments.{ClockShown}
use Rattle.bcv_clientstate.specs.Parts.{mine_of}
use Rattle.bcv_dbcopy.specs.declared.plan.CopyPlan.TheVariants as plan
use Rattle.bcv_dbcopy.specs.State.{FitsPages}
use Rattle.bcv_disk.specs.DiskShown.{DiskShown, DiskTold}
use Rattle.bcv_machine.specs.State as m
use Rattle.bcv_machine.specs.Step.{Asks, is_task, publishes}
use Rattle.bcv_model.specs.declared.ask.Ask.{Ask}
use Rattle.bcv_model.specs.declared.ask.Ask.TheVariants as ask
use Rattle.bcv_model.specs.declared.reply.Reply.{Reply}
use Rattle.bcv_model.specs.declared.reply.Reply.TheVariants as reply
use Rattle.bcv_model.specs.declared.reply.Said.{Said}
use Rattle.bcv_snapshot.specs.declared.look.Look.{Look}
use Rattle.bcv_snapshot.specs.declared.look.Look.TheVariants as look
use Rattle.bcv_store.specs.StoreShown.{StoreShown, StoreTold}
use Rattle.bcv_client.specs.ClientParts.{parts_of}
use Rattle.bcv_client.specs.Events.{StandsOver}
use Rattle.bcv_client.specs.TaskCalls.{CallsOver}
use Rattle.bcv_client.specs.declared.client.Client.{Client}

-- ---- what may be asked

-- a container has blocks of a size that there is, a new database has pages of its page size, and commits are counted in a number
abbrev pub AskInForm : ℕ → Ask → Type 0
AskInForm taken (ask.Commit db commit) = taken < 2 ^ 63
AskInForm taken (ask.Create block retention) = is_block_size block ≡ true
AskInForm taken (ask.NewDb db page_size pages) = FitsPages (plan.New db page_size pages)
AskInForm taken _ = Unit {0}

-- these are pages of this size, which is of the limits, and fewer than 2^31
abbrev pub are_pages_of : ℕ → List Page → Bool
are_pages_of size pages = is_page_size 16777216 size && nat_lt (length pages) 2147483648 && list_all (λ (p : Page). length p == size) pages

-- how many commits were given with an ask
abbrev pub taken_with : Ask → ℕ → ℕ
taken_with (ask.Commit db commit) taken = taken + 1
taken_with _ taken = taken

-- the client is the same one with as many slots, and has counted the commit of an ask
pub record SameWith {D : Type 0} {g : _} (q : Ask) (old new : Client D g) : Type 0 where
  pub id : new.id ≡ old.id
  pub taken : new.taken ≡ taken_with q old.taken
  pub slots : new.txns.slots ≡ old.txns.slots

-- ---- a look

-- the reply to a look at a page of this size: a copy of its bytes, for which memory may be missing
abbrev pub RepliesLook : ℕ → Look → Reply → Type 0
RepliesLook size (look.Page bytes) (reply.Page copy) = copy ≡ bytes.now
RepliesLook size (look.Page bytes) reply.NoMemory = Unit {0}
RepliesLook size look.Zeros (reply.Page copy) = copy ≡ zeros size
RepliesLook size look.Zeros reply.NoMemory = Unit {0}
RepliesLook size look.BadPage r = r ≡ reply.BadPage
RepliesLook size look.NoTxn r = r ≡ reply.NoTxn
RepliesLook size look.NotHeld r = r ≡ reply.NotHeld
RepliesLook size _ _ = ⊥

-- ---- the whole

-- the machine takes the ask, and a publication that starts with it has this name
abbrev pub AsksAs : Id16 → Ask → m.Side → m.Up → Outcome → Said → Bool → m.Side → Type 0
AsksAs name q s u o said second t = Asks s u q o said (record { name = name; second = second }) t

-- the client takes an ask: the name that it drew is that of the publication, where one has started
pub record AsksOver {D : Type 0} {g : _} (told : DiskTold) (shown : D → DiskShown) (store : StoreTold)
    (before after : StoreShown) (names later_names : NamesShown) (clock later_clock : ClockShown) (old new : Client D g)
    (q : Ask) (r : Reply) : Type 0 where
  pub name : Id16
  pub calls :
      CallsOver (StandsOver shown old) (mine_of (parts_of old)) (AsksAs name q) told shown store before after names later_names
      clock later_clock old new r
  pub named : (publishes q && is_task r) ≡ true → calls.ids ≡ name ∷ []
