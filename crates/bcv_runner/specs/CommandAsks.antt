-- What a command asks a client, by the replies.
use Rattle.std.specs.Prelude.{◌≡◌, ◌⊎◌, ℕ, Bool, true, false, List, [], ◌∷◌, ◌++◌, Option, Some, None, MatchOption, map}
use Rattle.std.specs.Option.{option_map}
use Rattle.bcv_base.specs.Drawn.{NamesShown}
use Rattle.bcv_base.specs.Moments.{ClockShown}
use Rattle.bcv_base.specs.Padded.{padded}
use Rattle.bcv_base.specs.declared.id.Id16.{Id16}
use Rattle.bcv_base.specs.declared.outside.Outside.{Outside}
use Rattle.bcv_client.specs.RangeAsks.{exchange}
use Rattle.bcv_client.specs.Talk.{Exchange, Point, Talks}
use Rattle.bcv_client.specs.TaskCalls.{is_working}
use Rattle.bcv_client.specs.declared.client.Client.{Client}
use Rattle.bcv_databases.specs.Catalog.{View, found_at}
use Rattle.bcv_disk.specs.DiskShown.{DiskShown, DiskTold}
use Rattle.bcv_model.specs.declared.ask.Ask.{Ask}
use Rattle.bcv_model.specs.declared.ask.Ask.TheVariants as ask
use Rattle.bcv_model.specs.declared.reply.Reply.{Reply}
use Rattle.bcv_model.specs.declared.reply.Reply.TheVariants as reply
use Rattle.bcv_store.specs.StoreShown.{StoreShown, StoreTold}
use Rattle.bcv_runner.specs.declared.ending.Ending.{Ending}
use Rattle.bcv_runner.specs.declared.operation.Operation.{Operation}
use Rattle.bcv_runner.specs.declared.operation.Operation.TheVariants as op
use Rattle.bcv_runner.specs.Endings.{ending_of}
use Rattle.bcv_runner.specs.ReadAsks.{DatabaseIsRead}

-- ---- where a talk stands

-- what the store, the source of names and the clock around a client show
pub record Around : Type 0 where
  pub store : StoreShown
  pub names : NamesShown
  pub clock : ClockShown

abbrev pub around : {S C N : Type 0} → (S → StoreShown) → (N → NamesShown) → (C → ClockShown) → Outside S C N → Around
around store names clock o = record { store = store o.store; names = names o.names; clock = clock o.clock }

-- a client with what is around it
abbrev pub point_of : {D : Type 0} {g : _} → Client D g → Around → Point D g
point_of c a = record { client = c; store = a.store; names = a.names; clock = a.clock }

-- ---- a task

-- the number of the task that has started
abbrev pub task_of : Reply → Option ℕ
task_of (reply.Task task left) = Some task
task_of _ = None

-- steps of a task after each of which it goes on
abbrev pub StepsOn : ℕ → List Exchange → Type 0
StepsOn task [] = Unit {0}
StepsOn task (e ∷ es) = (e.ask ≡ ask.Step task) × (is_working e.reply ≡ true) × StepsOn task es

-- and one that ends it, with this reply
abbrev pub StepsToEnd : ℕ → List Exchange → Reply → Type 0
StepsToEnd task es r =
    (before : List Exchange) × (es ≡ before ++ exchange (ask.Step task) r ∷ []) × StepsOn task before × (is_working r ≡ false)

-- an ask with the steps of the task that it starts, where it starts one, and the reply at the end
abbrev pub TaskAsks : Ask → List Exchange → Reply → Type 0
TaskAsks q es r =
    (first : Reply) × (more : List Exchange) × (es ≡ exchange q first ∷ more)
    × MatchOption (task_of first) ((more ≡ []) × (r ≡ first)) (λ task. StepsToEnd task more r)

-- ---- a publication

-- the publication of which it is not known whether it was made
abbrev pub unknown_of : Reply → Option Id16
unknown_of (reply.Unknown id) = Some id
unknown_of _ = None

-- what a resolve makes of such a publication: where the store fails again it is still not known
abbrev pub after_resolve : Id16 → Reply → Reply
after_resolve id reply.StoreFault = reply.Unknown id
after_resolve id found = found

-- a publication; where it is not known whether it was made, one resolve follows
abbrev pub PublishAsks : Ask → List Exchange → Reply → Type 0
PublishAsks q es r =
    (first more : List Exchange) × (published : Reply) × (es ≡ first ++ more) × TaskAsks q first published
    × MatchOption (unknown_of published) ((more ≡ []) × (r ≡ published))
    (λ id. (found : Reply) × TaskAsks ask.Resolve more found × (r ≡ after_resolve id found))

-- ---- a poll, and what is asked after it

abbrev pub is_polled : Reply → Bool
is_polled (reply.Polled n) = true
is_polled _ = false

-- where the poll was answered the next asks follow, and else its reply is the last one
abbrev pub AfterPoll : {D : Type 0} {g : _} → (Point D g → List Exchange → Ending → Point D g → Type 0) → Bool → Reply → Point D g
    → List Exchange → Ending → Point D g → Type 0
AfterPoll Next true polled mid more e b = Next mid more e b
AfterPoll Next false polled mid more e b = (more ≡ []) × (e ≡ ending_of false polled) × (b ≡ mid)

-- a poll comes first
pub record PollsFirst {D : Type 0} {g : _} (told : DiskTold) (shown : D → DiskShown) (store : StoreTold)
    (Next : Point D g → List Exchange → Ending → Point D g → Type 0) (a : Point D g) (es : List Exchange) (e : Ending)
    (b : Point D g) : Type 0 where
  pub first : List Exchange
  pub more : List Exchange
  pub joined : es ≡ first ++ more
  pub polled : Reply
  pub mid : Point D g
  pub polls : TaskAsks ask.Poll first polled
  pub talks : Talks told shown store a first mid
  pub after : AfterPoll Next (is_polled polled) polled mid more e b

-- one ask, whose reply is the last one
abbrev pub AsksLast : {D : Type 0} {g : _} → DiskTold → (D → DiskShown) → StoreTold → Ask → Point D g → List Exchange → Ending → Point D g
    → Type 0
AsksLast told shown store q a es e b =
    (r : Reply) × (es ≡ exchange q r ∷ []) × (e ≡ ending_of false r) × Talks told shown store a es b

-- ---- a commit

-- the pages, each filled with zeros up to a page size; where no page size is known they stay as they are
abbrev pub filled_pages : Option ℕ → List (ℕ × List ℕ) → List (ℕ × List ℕ)
filled_pages None pages = pages
filled_pages (Some size) pages = map (λ (p : ℕ × List ℕ). (p.0, padded size p.1)) pages

-- the page size of a database that the client knows
abbrev pub size_known : {D : Type 0} {g : _} → Client D g → List ℕ → Option ℕ
size_known c db = option_map (λ (v : View). v.entry.page_size) (found_at c.ledger.databases db)

-- the commit is asked for, or memory was missing to fill its pages
abbrev pub CommitsFilled : {D : Type 0} {g : _} → DiskTold → (D → DiskShown) → StoreTold → List ℕ → ℕ → List (ℕ × List ℕ) → Point D g
    → List Exchange → Ending → Point D g → Type 0
CommitsFilled told shown store db size pages a es e b =
    AsksLast told shown store (ask.Commit db (record { size = size; pages = filled_pages (size_known a.client db) pages })) a es e b
    ⊎ ((es ≡ []) × (e ≡ ending_of false reply.NoMemory) × (b ≡ a))

-- ---- the whole

-- what an operation asks of a client from one point to another, and how it ends
abbrev pub OperationAsks : {D : Type 0} {g : _} → DiskTold → (D → DiskShown) → StoreTold → Operation → Point D g → List Exchange
    → Ending → Point D g → Type 0
OperationAsks told shown store (op.Publish q) a es e b = (r : Reply) × PublishAsks q es r × (e ≡ ending_of false r)
OperationAsks told shown store op.Poll a es e b = (r : Reply) × TaskAsks ask.Poll es r × (e ≡ ending_of false r)
OperationAsks told shown store op.Resolve a es e b = (r : Reply) × TaskAsks ask.Resolve es r × (e ≡ ending_of true r)
OperationAsks told shown store op.List a es e b = PollsFirst told shown store (AsksLast told shown store ask.List) a es e b
OperationAsks told shown store (op.Commit db size pages) a es e b =
    PollsFirst told shown store (CommitsFilled told shown store db size pages) a es e b
OperationAsks told shown store (op.Read db off len) a es e b =
    PollsFirst told shown store (DatabaseIsRead told shown store db off len) a es e b
