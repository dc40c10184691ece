-- What the service of a connection reads, writes and asks, and how it ends.
use Rattle.std.specs.Prelude.{◌≡◌, ◌≢◌, ◌⊎◌, ◌^◌, ◌<◌, ◌≤◌, ℕ, zero, suc, List, [], ◌++◌, length, take, Option}
use Rattle.std.specs.Io.KnownBytes.{IsAtEnd}
use Rattle.bcv_base.specs.Faults.{Rose}
use Rattle.bcv_disk.specs.DiskShown.{DiskShown, DiskTold}
use Rattle.bcv_proto.specs.Messages.{IsCut}
use Rattle.bcv_store.specs.StoreShown.{StoreTold}
use Rattle.bcv_daemon.specs.Connections.{AreBelow, EndsAll, IsNoFront, RunsOut, Turn, Turns, answers_of, messages_of}
use Rattle.bcv_client.specs.CallFaults.{CountsOn}
use Rattle.bcv_client.specs.Talk.{Exchange, Point, Talks}
use Rattle.bcv_talks.specs.TalkTotals.{disk_faults}
use Rattle.bcv_daemon.specs.MachineRuns.{IsMachineRun, ends_exchanges, turns_exchanges, untold_exchanges}
use Rattle.bcv_daemon.specs.declared.connection.ServeEnd.{ServeEnd}
use Rattle.bcv_daemon.specs.declared.connection.ServeEnd.TheVariants as end
use Rattle.bcv_daemon.specs.declared.sessions.Session.{Session}

-- how the service ends after answered messages, with these bytes after them; where it fails to write or memory runs out, a
-- front of the answers is written
abbrev pub EndsSo : Type 0 → List Turn → List ℕ → List ℕ → ServeEnd → Type 0
EndsSo AtEnd ts rest written end.Closed = (written ≡ answers_of ts) × AtEnd × (rest ≡ [])
EndsSo AtEnd ts rest written end.Limit = (written ≡ answers_of ts) × (2 ^ 63 ≤ length (messages_of ts))
EndsSo AtEnd ts rest written (end.BadMessage at) =
    (written ≡ answers_of ts) × (at ≡ length (messages_of ts))
    × (IsNoFront rest ⊎ (AtEnd × (rest ≢ []) × IsCut rest))
EndsSo AtEnd ts rest written end.ReadFault = (written ≡ answers_of ts) × IsCut rest
EndsSo AtEnd ts rest written end.WriteFault = (k : ℕ) × (written ≡ take k (answers_of ts))
EndsSo AtEnd ts rest written end.NoMemory = (k : ℕ) × (written ≡ take k (answers_of ts))

-- messages of 2^63 bytes or more are answered only where the service ends for that, or fails
abbrev pub IsWithin : List Turn → ServeEnd → Type 0
IsWithin ts end.Limit = Unit {0}
IsWithin ts end.WriteFault = Unit {0}
IsWithin ts end.NoMemory = Unit {0}
IsWithin ts _ = length (messages_of ts) < 2 ^ 63

-- where memory ran out the message at the front of these bytes may have been tried
abbrev pub TriesLast : {D : Type 0} {g : _} → DiskTold → (D → DiskShown) → StoreTold → Point D g → Point D g → List Session
    → List Session → List ℕ → ServeEnd → Type 0
TriesLast told shown store a b ss later bytes end.NoMemory = RunsOut told shown store a b ss later bytes
TriesLast told shown store a b ss later bytes _ = (b ≡ a) × (later ≡ ss)

-- what the client was asked for that message
abbrev pub tried_exchanges : {D : Type 0} {g : _} (told : DiskTold) (shown : D → DiskShown) (store : StoreTold) (a b : Point D g)
    (ss later : List Session) (bytes : List ℕ) (e : ServeEnd) → TriesLast told shown store a b ss later bytes e → List Exchange
tried_exchanges told shown store a b ss later bytes end.NoMemory tries =
    untold_exchanges told shown store a b ss later bytes tries
tried_exchanges told shown store a b ss later bytes _ tries = []

-- the messages at the front of the bytes that were taken are answered, and then the transactions of all sessions are ended
pub record Served {D : Type 0} {g : _} (told : DiskTold) (shown : D → DiskShown) (store : StoreTold) (a b : Point D g)
    (taken written : List ℕ) (AtEnd : Type 0) (e : ServeEnd) : Type 0 where
  pub turns : List Turn
  pub rest : List ℕ
  pub bytes : taken ≡ messages_of turns ++ rest
  pub below : AreBelow 0 turns
  pub within : IsWithin turns e
  pub ends : EndsSo AtEnd turns rest written e
  pub mid : Point D g
  pub sessions : List Session
  pub answered : Turns told shown store a [] turns mid sessions
  pub last : Point D g
  pub left : List Session
  pub tried : TriesLast told shown store mid last sessions left rest e
  pub closed : EndsAll told shown store last left b
  -- all that the client was asked is one talk, and a run of the machine
  pub exchanges : List Exchange
  pub asked :
      exchanges
      ≡ turns_exchanges told shown store a [] turns mid sessions answered
      ++ (tried_exchanges told shown store mid last sessions left rest e tried
      ++ ends_exchanges told shown store last left b closed)
  pub talk : Talks told shown store a exchanges b
  pub machine : IsMachineRun told shown store a exchanges b talk
  -- no count of faults has fallen
  pub counted : CountsOn a.store b.store a.names b.names a.clock b.clock
  pub disk_counted : disk_faults shown a.client ≤ disk_faults shown b.client

-- a fault is answered only where the count of that side rose
pub record ServeCauses (taken later_taken given later_given : ℕ) (e : ServeEnd) : Type 0 where
  pub read : e ≡ end.ReadFault → Rose taken later_taken
  pub write : e ≡ end.WriteFault → Rose given later_given

-- one connection is served, whatever came and was written
pub record ServedOne {D : Type 0} {g : _} (told : DiskTold) (shown : D → DiskShown) (store : StoreTold) (a b : Point D g) : Type 0 where
  pub taken : List ℕ
  pub written : List ℕ
  pub later : Option (List ℕ)
  pub ended : ServeEnd
  pub served : Served told shown store a b taken written (IsAtEnd later) ended

-- so many connections are served, each from where the one before it left the client
abbrev pub ServedOn : {D : Type 0} {g : _} → DiskTold → (D → DiskShown) → StoreTold → Point D g → ℕ → Point D g → Type 0
ServedOn told shown store a zero b = b ≡ a
ServedOn told shown store a (suc n) b = (mid : Point _ _) × ServedOn told shown store a n mid × ServedOne told shown store mid b
