-- The messages of a connection, one after the other, and how it ends.
use Rattle.std.specs.Prelude.{◌≡◌, ◌≢◌, ◌⊎◌, ◌+◌, ◌^◌, ◌<◌, ◌≤◌, ℕ, false, List, [], ◌∷◌, ◌++◌, length, take, Result, Ok, Err}
use Rattle.std.specs.List.{flat_map}
use Rattle.bcv_disk.specs.DiskShown.{DiskShown, DiskTold}
use Rattle.bcv_model.specs.declared.ask.Ask.{Ask}
use Rattle.bcv_model.specs.declared.ask.Ask.TheVariants as ask
use Rattle.bcv_model.specs.declared.reply.Reply.{Reply}
use Rattle.bcv_proto.specs.Answers.{answer_text}
use Rattle.bcv_proto.specs.Messages.{Begins, IsCut, IsMessage, message_text, session_of}
use Rattle.bcv_proto.specs.declared.answer.Answer.{Answer}
use Rattle.bcv_proto.specs.declared.message.Message.{Message}
use Rattle.bcv_store.specs.StoreShown.{StoreTold}
use Rattle.bcv_client.specs.RangeAsks.{exchange}
use Rattle.bcv_daemon.specs.Responses.{Answered, AskedToEnd, Reads, fitted, is_no_memory}
use Rattle.bcv_client.specs.Talk.{Exchange, Exchanged, Point, Talks}
use Rattle.bcv_daemon.specs.declared.connection.Connection.{Connection}
use Rattle.bcv_daemon.specs.declared.connection.Next.{Next}
use Rattle.bcv_daemon.specs.declared.connection.Next.TheVariants as next
use Rattle.bcv_daemon.specs.declared.connection.ServeEnd.{ServeEnd}
use Rattle.bcv_daemon.specs.declared.connection.ServeEnd.TheVariants as end
use Rattle.bcv_daemon.specs.declared.sessions.Session.{Session}

-- the client was asked, and for the step of the task that this may have started
pub record AskedOver {D : Type 0} {g : _} (told : DiskTold) (shown : D → DiskShown) (store : StoreTold) (a b : Point D g)
    (q : Ask) (r : Reply) : Type 0 where
  pub exchanges : List Exchange
  pub talk : Talks told shown store a exchanges b
  pub asked : AskedToEnd q exchanges r

-- the client was asked for a range of bytes of a transaction's database
pub record ReadsOver {D : Type 0} {g : _} (told : DiskTold) (shown : D → DiskShown) (store : StoreTold) (a b : Point D g)
    (txn off len : ℕ) (given : Answer) : Type 0 where
  pub exchanges : List Exchange
  pub talk : Talks told shown store a exchanges b
  pub reads : Reads a.client off len txn exchanges given

-- ---- messages in order

-- a message with its answer
pub record Turn : Type 0 where
  pub message : Message
  pub given : Answer

abbrev pub IsTurn : Turn → Type 0
IsTurn t = IsMessage t.message × (is_no_memory t.given ≡ false)

-- messages are answered, each from where the one before it ended, with these open sessions before and after them
abbrev pub Turns : {D : Type 0} {g : _} → DiskTold → (D → DiskShown) → StoreTold → Point D g → List Session → List Turn
    → Point D g → List Session → Type 0
Turns told shown store a ss [] b later = (b ≡ a) × (later ≡ ss)
Turns told shown store a ss (t ∷ ts) b later =
    (mid : Point _ _) × (between : List Session) × IsTurn t
    × Answered told shown store a mid ss between t.message t.given × Turns told shown store mid between ts b later

abbrev pub turn_message : Turn → List ℕ
turn_message t = message_text t.message

abbrev pub turn_answer : Turn → List ℕ
turn_answer t = answer_text (session_of t.message) (fitted t.given)

-- the bytes of the messages
abbrev pub messages_of : List Turn → List ℕ
messages_of ts = flat_map turn_message ts

-- the bytes of their answers
abbrev pub answers_of : List Turn → List ℕ
answers_of ts = flat_map turn_answer ts

-- each message is taken where those before it have fewer than 2^63 bytes
abbrev pub AreBelow : ℕ → List Turn → Type 0
AreBelow used [] = Unit {0}
AreBelow used (t ∷ ts) = (used < 2 ^ 63) × AreBelow (used + length (turn_message t)) ts

-- the transactions of sessions are ended, one after the other
abbrev pub EndsAll : {D : Type 0} {g : _} → DiskTold → (D → DiskShown) → StoreTold → Point D g → List Session → Point D g
    → Type 0
EndsAll told shown store a [] b = b ≡ a
EndsAll told shown store a (s ∷ ss) b =
    (mid : Point _ _) × (r : Reply) × Exchanged told shown store a (exchange (ask.End s.txn) r) mid
    × EndsAll told shown store mid ss b

-- ---- a connection

-- no message begins with these bytes, nor do they begin with one
pub record IsNoFront (bytes : List ℕ) : Type 0 where
  pub none : (m : Message) (n : ℕ) → Begins bytes m n → ⊥
  pub uncut : IsCut bytes → ⊥

-- the messages at the front of its bytes and of those that came are answered, and of the answers those bytes are left to write
pub record Serves {D : Type 0} {g : _} (told : DiskTold) (shown : D → DiskShown) (store : StoreTold) (a b : Point D g)
    (old new : Connection) (came written left : List ℕ) : Type 0 where
  pub turns : List Turn
  pub answered : Turns told shown store a old.sessions.items turns b new.sessions.items
  pub taken : old.inbox ++ came ≡ messages_of turns ++ new.inbox
  pub used : new.used ≡ old.used + length (messages_of turns)
  pub below : AreBelow old.used turns
  pub given : old.pending.items ++ answers_of turns ≡ written ++ left

-- the message at the front of these bytes was tried, and memory ran out for its answer
pub record Tries {D : Type 0} {g : _} (told : DiskTold) (shown : D → DiskShown) (store : StoreTold) (a b : Point D g)
    (ss later : List Session) (bytes : List ℕ) : Type 0 where
  pub message : Message
  pub count : ℕ
  pub begins : Begins bytes message count
  pub given : Answer
  pub answered : Answered told shown store a b ss later message given

-- memory ran out, for the next message or else
abbrev pub RunsOut : {D : Type 0} {g : _} → DiskTold → (D → DiskShown) → StoreTold → Point D g → Point D g → List Session
    → List Session → List ℕ → Type 0
RunsOut told shown store a b ss later bytes = ((b ≡ a) × (later ≡ ss)) ⊎ Tries told shown store a b ss later bytes

-- some of the answers are written, and memory ran out
pub record Breaks {D : Type 0} {g : _} (told : DiskTold) (shown : D → DiskShown) (store : StoreTold) (a b : Point D g)
    (old new : Connection) (came written : List ℕ) : Type 0 where
  pub mid : Point D g
  pub between : Connection
  pub left : List ℕ
  pub serves : Serves told shown store a mid old between came written left
  pub tries : RunsOut told shown store mid b between.sessions.items new.sessions.items between.inbox

-- nothing has changed
abbrev pub Stays : {D : Type 0} {g : _} → Point D g → Point D g → Connection → Connection → Type 0
Stays a b old new = (b ≡ a) × (new ≡ old)

-- what the next message comes to
abbrev pub Nexts : {D : Type 0} {g : _} → DiskTold → (D → DiskShown) → StoreTold → Point D g → Point D g → Connection → Connection
    → Next → Type 0
Nexts told shown store a b old new next.Answered =
    Serves told shown store a b old new [] [] new.pending.items × (length new.inbox < length old.inbox)
Nexts told shown store a b old new next.Waits =
    Stays a b old new × (old.used < 2 ^ 63) × IsCut old.inbox
Nexts told shown store a b old new (next.Ends end.Limit) = Stays a b old new × (2 ^ 63 ≤ old.used)
Nexts told shown store a b old new (next.Ends (end.BadMessage at)) =
    Stays a b old new × (old.used < 2 ^ 63) × (at ≡ old.used) × IsNoFront old.inbox
Nexts told shown store a b old new (next.Ends end.NoMemory) =
    Tries told shown store a b old.sessions.items new.sessions.items old.inbox
Nexts told shown store a b old new (next.Ends e) = ⊥

-- the pending answers are written, or some of their bytes
abbrev pub WritesPending : Result (Unit {0}) ServeEnd → List ℕ → List ℕ → List ℕ → Type 0
WritesPending (Ok done) old new written = written ++ new ≡ old
WritesPending (Err end.WriteFault) old new written = (k : ℕ) × (written ≡ take k old)
WritesPending (Err end.NoMemory) old new written = (k : ℕ) × (written ≡ take k old)
WritesPending (Err e) old new written = ⊥

-- how a connection ends before its input does
abbrev pub Stops : {D : Type 0} {g : _} → DiskTold → (D → DiskShown) → StoreTold → Point D g → Point D g → Connection → Connection
    → List ℕ → List ℕ → ServeEnd → Type 0
Stops told shown store a b old new came written end.Limit =
    Serves told shown store a b old new came written [] × (2 ^ 63 ≤ new.used)
Stops told shown store a b old new came written (end.BadMessage at) =
    Serves told shown store a b old new came written [] × (new.used < 2 ^ 63) × (at ≡ new.used)
    × IsNoFront new.inbox
Stops told shown store a b old new came written end.WriteFault =
    (left : List ℕ) × Serves told shown store a b old new came written left
Stops told shown store a b old new came written end.NoMemory =
    Breaks told shown store a b old new came written
Stops told shown store a b old new came written e = ⊥

-- all whole messages that are at hand are answered and the answers written, or the connection ends
abbrev pub AnswersAll : {D : Type 0} {g : _} → DiskTold → (D → DiskShown) → StoreTold → Point D g → Point D g → Connection
    → Connection → List ℕ → Result (Unit {0}) ServeEnd → Type 0
AnswersAll told shown store a b old new written (Ok done) =
    Serves told shown store a b old new [] written [] × (new.pending.items ≡ []) × (new.used < 2 ^ 63)
    × IsCut new.inbox
AnswersAll told shown store a b old new written (Err e) = Stops told shown store a b old new [] written e

-- a connection that has taken nothing yet
pub record IsFresh (c : Connection) : Type 0 where
  pub inbox : c.inbox ≡ []
  pub sessions : c.sessions.items ≡ []
  pub pending : c.pending.items ≡ []
  pub used : c.used ≡ 0

-- but for the pending answers nothing has changed
pub record OnlyPending (old new : Connection) : Type 0 where
  pub inbox : new.inbox ≡ old.inbox
  pub sessions : new.sessions.items ≡ old.sessions.items
  pub used : new.used ≡ old.used

-- the pending answers are written before an end, or some of their bytes, and the connection ends with that fault
abbrev pub WritesLast : ServeEnd → ServeEnd → List ℕ → List ℕ → Type 0
WritesLast end.NoMemory e pending written = (e ≡ end.NoMemory) × (written ≡ [])
WritesLast wanted e pending written =
    ((e ≡ wanted) × (written ≡ pending))
    ⊎ (((e ≡ end.WriteFault) ⊎ (e ≡ end.NoMemory)) × ((k : ℕ) × (written ≡ take k pending)))

-- the end of a connection whose input has ended with these bytes, after so many of messages
abbrev pub ended : List ℕ → ℕ → ServeEnd
ended [] used = end.Closed
ended (x ∷ xs) used = end.BadMessage used

-- how the connection ends, where its input may have ended too
abbrev pub ServesUp : {D : Type 0} {g : _} → DiskTold → (D → DiskShown) → StoreTold → Point D g → Point D g → Connection
    → Connection → List ℕ → List ℕ → Type 0 → ServeEnd → Type 0
ServesUp told shown store a b old new taken written AtEnd end.Closed =
    Serves told shown store a b old new taken written [] × (new.used < 2 ^ 63) × AtEnd × (new.inbox ≡ [])
ServesUp told shown store a b old new taken written AtEnd (end.BadMessage at) =
    Serves told shown store a b old new taken written [] × (new.used < 2 ^ 63) × (at ≡ new.used)
    × (IsNoFront new.inbox ⊎ (AtEnd × (new.inbox ≢ []) × IsCut new.inbox))
ServesUp told shown store a b old new taken written AtEnd end.ReadFault =
    Serves told shown store a b old new taken written [] × (new.used < 2 ^ 63) × IsCut new.inbox
ServesUp told shown store a b old new taken written AtEnd e = Stops told shown store a b old new taken written e
