-- All that the client is asked over a connection is one talk.
use Rattle.std.proofs.Common.{ℕ, List, [], ◌∷◌, ◌++◌, inl, inr, subst}
use Rattle.bcv_client.specs.Talk.{Exchange, Point, Talks}
use Rattle.bcv_disk.specs.DiskShown.{DiskShown, DiskTold}
use Rattle.bcv_store.specs.StoreShown.{StoreTold}
use Rattle.bcv_daemon.specs.Connections.{EndsAll, RunsOut, Turn, Turns}
use Rattle.bcv_daemon.specs.MachineRuns.{ends_exchanges, turns_exchanges, untold_exchanges}
use Rattle.bcv_daemon.specs.Served.{TriesLast, tried_exchanges}
use Rattle.bcv_daemon.specs.declared.connection.ServeEnd.{ServeEnd}
use Rattle.bcv_daemon.specs.declared.connection.ServeEnd.TheVariants as end
use Rattle.bcv_daemon.specs.declared.sessions.Session.{Session}

module _ {D : Type 0} {g : _} (told : DiskTold) (shown : D → DiskShown) (store : StoreTold) where
  pub joined : (es fs : List Exchange) (a b c : Point D g) → Talks told shown store a es b → Talks told shown store b fs c → Talks told shown store a (es ++ fs) c
  joined [] fs a b c one two = subst (λ (p : Point D g). Talks told shown store p fs c) one two
  joined (e ∷ es) fs a b c one two = (one.0, one.1, joined es fs one.0 b c one.2 two)

  pub turns_talk : (a : Point D g) (ss : List Session) (ts : List Turn) (b : Point D g) (later : List Session) (turns : Turns told shown store a ss ts b later)
      → Talks told shown store a (turns_exchanges told shown store a ss ts b later turns) b
  turns_talk a ss [] b later turns = turns.0
  turns_talk a ss (t ∷ ts) b later turns =
      joined turns.3.exchanges (turns_exchanges told shown store turns.0 turns.1 ts b later turns.4) a turns.0 b turns.3.talk (turns_talk turns.0 turns.1 ts b later turns.4)

  untold_talk : (a b : Point D g) (ss later : List Session) (bytes : List ℕ) (out : RunsOut told shown store a b ss later bytes)
      → Talks told shown store a (untold_exchanges told shown store a b ss later bytes out) b
  untold_talk a b ss later bytes (inl none) = none.0
  untold_talk a b ss later bytes (inr tries) = tries.answered.talk

  pub tried_talk : (a b : Point D g) (ss later : List Session) (bytes : List ℕ) (e : ServeEnd) (tries : TriesLast told shown store a b ss later bytes e)
      → Talks told shown store a (tried_exchanges told shown store a b ss later bytes e tries) b
  tried_talk a b ss later bytes end.NoMemory tries = untold_talk a b ss later bytes tries
  tried_talk a b ss later bytes _ tries = tries.0

  pub ends_talk : (a : Point D g) (ss : List Session) (b : Point D g) (ends : EndsAll told shown store a ss b) → Talks told shown store a (ends_exchanges told shown store a ss b ends) b
  ends_talk a [] b ends = ends
  ends_talk a (s ∷ ss) b ends = (ends.0, ends.2, ends_talk ends.0 ss b ends.3)
