-- The talk with the client over a whole connection, and what it is in the machine.
use Rattle.std.proofs.Common.{inl, inr}
use Rattle.std.specs.Prelude.{ℕ, List, [], ◌∷◌, ◌++◌}
use Rattle.bcv_base.specs.declared.id.Id16.{Id16}
use Rattle.bcv_client.specs.RangeAsks.{exchange}
use Rattle.bcv_client.specs.Talk.{Exchange, Point, Talks}
use Rattle.bcv_clientstate.specs.SeenClient.{Free}
use Rattle.bcv_disk.specs.DiskShown.{DiskShown, DiskTold}
use Rattle.bcv_model.specs.declared.ask.Ask.TheVariants as ask
use Rattle.bcv_store.specs.StoreShown.{StoreTold}
use Rattle.bcv_talks.specs.TalkRuns.{NamesAreNew, OthersAreHonest, PointStands, TalkRun}
use Rattle.bcv_daemon.specs.Connections.{EndsAll, RunsOut, Turn, Turns}
use Rattle.bcv_daemon.specs.declared.sessions.Session.{Session}

-- ---- what the client was asked

-- for messages that are answered in order
abbrev pub turns_exchanges : {D : Type 0} {g : _} (told : DiskTold) (shown : D → DiskShown) (store : StoreTold) (a : Point D g)
    (ss : List Session) (ts : List Turn) (b : Point D g) (later : List Session) → Turns told shown store a ss ts b later
    → List Exchange
turns_exchanges told shown store a ss [] b later turns = []
turns_exchanges told shown store a ss (t ∷ ts) b later turns =
    turns.3.exchanges ++ turns_exchanges told shown store turns.0 turns.1 ts b later turns.4

-- for a message for whose answer memory ran out
abbrev pub untold_exchanges : {D : Type 0} {g : _} (told : DiskTold) (shown : D → DiskShown) (store : StoreTold) (a b : Point D g)
    (ss later : List Session) (bytes : List ℕ) → RunsOut told shown store a b ss later bytes → List Exchange
untold_exchanges told shown store a b ss later bytes (inl none) = []
untold_exchanges told shown store a b ss later bytes (inr tries) = tries.answered.exchanges

-- for the ends of the transactions of sessions
abbrev pub ends_exchanges : {D : Type 0} {g : _} (told : DiskTold) (shown : D → DiskShown) (store : StoreTold) (a : Point D g)
    (ss : List Session) (b : Point D g) → EndsAll told shown store a ss b → List Exchange
ends_exchanges told shown store a [] b ends = []
ends_exchanges told shown store a (s ∷ ss) b ends =
    exchange (ask.End s.txn) ends.1 ∷ ends_exchanges told shown store ends.0 ss b ends.3

-- ---- in the machine

-- over a store and a disk that tell: from every state for which the client stands over the log, where others append lawful
-- entries alone and each name that is drawn is new, the talk is a run of the machine, and the client stands after it
abbrev pub IsMachineRun : {D : Type 0} {g : _} (told : DiskTold) (shown : D → DiskShown) (store : StoreTold) (a : Point D g)
    (es : List Exchange) (b : Point D g) → Talks told shown store a es b → Type 0
IsMachineRun told shown store a es b talk =
    (mine used : List Id16) (moment : ℕ) (f : Free)
    → store.tells → told.tells → PointStands shown mine a f
    → OthersAreHonest told shown store mine a es b talk → NamesAreNew told shown store mine used a es b talk
    → TalkRun told shown store mine used a es b talk moment f
