-- What a message asks of the client, and what it is answered.
use Rattle.std.specs.Prelude.{◌≡◌, ◌⊎◌, ◌+◌, ℕ, Bool, true, false, cond, nat_le, List, [], ◌∷◌, ◌++◌, length, take, Option, Some, None, option_map}
use Rattle.bcv_base.specs.Faults.{Rose}
use Rattle.bcv_client.specs.CallFaults.{CallCauses}
use Rattle.bcv_disk.specs.DiskShown.{DiskShown, DiskTold}
use Rattle.bcv_machine.specs.Step.{is_task}
use Rattle.bcv_model.specs.declared.ask.Ask.{Ask}
use Rattle.bcv_model.specs.declared.ask.Ask.TheVariants as ask
use Rattle.bcv_model.specs.declared.reply.Reply.{Reply}
use Rattle.bcv_model.specs.declared.reply.Reply.TheVariants as reply
use Rattle.bcv_proto.specs.Answers.{answer_fields, most_answer}
use Rattle.bcv_proto.specs.declared.answer.Answer.{Answer}
use Rattle.bcv_proto.specs.declared.answer.Answer.TheVariants as answer
use Rattle.bcv_proto.specs.declared.message.Message.{Message}
use Rattle.bcv_proto.specs.declared.message.Message.TheVariants as message
use Rattle.bcv_store.specs.StoreShown.{StoreTold}
use Rattle.bcv_talks.specs.TalkTotals.{disk_faults}
use Rattle.bcv_client.specs.Transactions.{opened_as}
use Rattle.bcv_client.specs.declared.client.Client.{Client}
use Rattle.bcv_client.specs.RangeAsks.{exchange}
use Rattle.bcv_client.specs.RangeReads.{RangeOf, span_of}
use Rattle.bcv_daemon.specs.Sessions.{txn_of, without}
use Rattle.bcv_client.specs.Talk.{Exchange, Point, Talks}
use Rattle.bcv_client.specs.declared.byte_ranges.ReadAt.{ReadAt}
use Rattle.bcv_client.specs.declared.byte_ranges.ReadAt.TheVariants as read_at
use Rattle.bcv_daemon.specs.declared.sessions.Session.{Session}

-- ---- replies as answers

abbrev pub polled_answer : Reply → Answer
polled_answer (reply.Polled number) = answer.Polled number
polled_answer r = answer.Refused r

abbrev pub fine_answer : Reply → Answer
fine_answer reply.Fine = answer.Fine
fine_answer r = answer.Refused r

abbrev pub held_answer : Reply → Answer
held_answer reply.Held = answer.Fine
held_answer r = answer.Refused r

abbrev pub page_answer : Reply → Answer
page_answer (reply.Page bytes) = answer.Bytes bytes
page_answer r = answer.Refused r

abbrev pub rows_answer : Reply → Answer
rows_answer (reply.Table rows pending) = answer.Rows rows
rows_answer r = answer.Refused r

-- the version, page size and pages that an open transaction reads
abbrev pub begun_answer : Option (ℕ × ℕ × ℕ) → Answer
begun_answer None = answer.Refused reply.NoTxn
begun_answer (Some x) = answer.Begun x.0 x.1 x.2

-- the bytes that are there
abbrev pub range_answer : List ℕ → ReadAt → Answer
range_answer into read_at.Full = answer.Bytes into
range_answer into (read_at.Short n) = answer.Bytes (take n into)
range_answer into (read_at.Refused r) = answer.Refused r

-- memory is missing
abbrev pub is_no_memory : Answer → Bool
is_no_memory (answer.Refused reply.NoMemory) = true
is_no_memory a = false

-- ---- asks

abbrev pub AskedOnce : Ask → List Exchange → Reply → Type 0
AskedOnce q es r = es ≡ exchange q r ∷ []

-- the reply to an ask, or where it started a task that to the task's step
abbrev pub AskedToEnd : Ask → List Exchange → Reply → Type 0
AskedToEnd q es r =
    ((is_task r ≡ false) × AskedOnce q es r)
    ⊎ ((n left : ℕ) × (es ≡ exchange q (reply.Task n left) ∷ exchange (ask.Step n) r ∷ []))

-- the answer is what such a reply is
abbrev pub AnsweredBy : (Reply → Answer) → (Reply → Type 0) → Answer → Type 0
AnsweredBy answered Asked a = (r : Reply) × Asked r × (a ≡ answered r)

-- of a session without a transaction nobody is asked
abbrev pub InSession : Option ℕ → List Exchange → (ℕ → Type 0) → Answer → Type 0
InSession None es Asks a = (es ≡ []) × (a ≡ answer.Refused reply.NoTxn)
InSession (Some txn) es Asks a = Asks txn

-- ---- messages

abbrev pub session : ℕ → ℕ → Session
session number txn = record { number = number; txn = txn }

-- a begun transaction is the session's
abbrev pub Begun : {D : Type 0} {g : _} → Client D g → List Session → List Session → ℕ → Reply → Answer → Type 0
Begun new ss later number (reply.Txn txn) a =
    (later ≡ ss ++ session number txn ∷ []) × (a ≡ begun_answer (opened_as txn new.txns))
Begun new ss later number r a = (later ≡ ss) × (a ≡ answer.Refused r)

-- a session that has a transaction is busy
abbrev pub Begins : {D : Type 0} {g : _} → Client D g → List Session → List Session → ℕ → List ℕ → Option ℕ → List Exchange
    → Answer → Type 0
Begins new ss later number db None es a =
    (r : Reply) × AskedOnce (ask.Begin db) es r × Begun new ss later number r a
Begins new ss later number db (Some txn) es a =
    (es ≡ []) × (later ≡ ss) × (a ≡ answer.Refused reply.Busy)

-- the session has no transaction afterwards
abbrev pub Ends : List Session → List Session → ℕ → Option ℕ → List Exchange → Answer → Type 0
Ends ss later number None es a = (es ≡ []) × (later ≡ ss) × (a ≡ answer.Refused reply.NoTxn)
Ends ss later number (Some txn) es a =
    (later ≡ without ss number) × AnsweredBy fine_answer (AskedOnce (ask.End txn) es) a

-- a range of bytes of the transaction's file was read, and its bytes that are there are answered
abbrev pub Reads : {D : Type 0} {g : _} → Client D g → ℕ → ℕ → ℕ → List Exchange → Answer → Type 0
Reads old off len txn es a =
    (into : List ℕ) × (r : ReadAt)
    × RangeOf (option_map (λ (x : ℕ × ℕ × ℕ). span_of x off len) (opened_as txn old.txns)) txn es into r
    × (a ≡ range_answer into r)

-- what a message asks, with these sessions before and after it, and its answer
abbrev pub Responds : {D : Type 0} {g : _} → Client D g → Client D g → List Session → List Session → Message → List Exchange
    → Answer → Type 0
Responds old new ss later (message.Poll n) es a =
    (later ≡ ss) × AnsweredBy polled_answer (AskedToEnd ask.Poll es) a
Responds old new ss later (message.List n) es a =
    (later ≡ ss) × AnsweredBy rows_answer (AskedOnce ask.List es) a
Responds old new ss later (message.Begin n db) es a = Begins new ss later n db (txn_of ss n) es a
Responds old new ss later (message.End n) es a = Ends ss later n (txn_of ss n) es a
Responds old new ss later (message.Read n off len) es a =
    (later ≡ ss) × InSession (txn_of ss n) es (λ txn. Reads old off len txn es a) a
Responds old new ss later (message.Hold n page) es a =
    (later ≡ ss)
    × InSession (txn_of ss n) es (λ txn. AnsweredBy held_answer (AskedToEnd (ask.Hold txn page) es) a) a
Responds old new ss later (message.Look n page) es a =
    (later ≡ ss)
    × InSession (txn_of ss n) es (λ txn. AnsweredBy page_answer (AskedOnce (ask.Look txn page) es) a) a
Responds old new ss later (message.Free n page) es a =
    (later ≡ ss)
    × InSession (txn_of ss n) es (λ txn. AnsweredBy fine_answer (AskedOnce (ask.Free txn page) es) a) a

-- memory was missing before anybody was asked
abbrev pub Unasked : List Session → List Session → List Exchange → Answer → Type 0
Unasked ss later es given = (es ≡ []) × (later ≡ ss) × (is_no_memory given ≡ true)

-- ---- the causes of an answer

-- a reply says a fault of the disk, the store, the names or the clock only where its count rose
pub record ReplyCauses {D : Type 0} {g : _} (shown : D → DiskShown) (a b : Point D g) (r : Reply) : Type 0 where
  pub disk : r ≡ reply.DiskFault → Rose (disk_faults shown a.client) (disk_faults shown b.client)
  pub others : CallCauses a.store b.store a.names b.names a.clock b.clock r

-- so does an answer that refuses with it
abbrev pub IsCaused : {D : Type 0} {g : _} → (D → DiskShown) → Point D g → Point D g → Answer → Type 0
IsCaused shown a b (answer.Refused r) = ReplyCauses shown a b r
IsCaused shown a b _ = Unit {0}

-- the client was asked as a message says, or memory was missing for that; a fault that is answered was counted in these calls
pub record Answered {D : Type 0} {g : _} (told : DiskTold) (shown : D → DiskShown) (store : StoreTold) (a b : Point D g)
    (ss later : List Session) (m : Message) (given : Answer) : Type 0 where
  pub exchanges : List Exchange
  pub talk : Talks told shown store a exchanges b
  pub responds : Responds a.client b.client ss later m exchanges given ⊎ Unasked ss later exchanges given
  pub caused : IsCaused shown a b given

-- ---- what is written

abbrev pub answer_fits : Answer → Bool
answer_fits a = nat_le (5 + length (answer_fields a)) most_answer

-- an answer for which a message has no room is refused
abbrev pub fitted : Answer → Answer
fitted a = cond (answer_fits a) a (answer.Refused reply.TooLarge)
