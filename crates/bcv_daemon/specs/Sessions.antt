-- The sessions of a connection that have a transaction, the oldest first.
use Rattle.std.specs.Prelude.{◌==◌, ℕ, not, List, Option, option_map}
use Rattle.std.specs.List.{filter, find}
use Rattle.bcv_daemon.specs.declared.sessions.Session.{Session}

-- the transaction of a session
abbrev pub txn_of : List Session → ℕ → Option ℕ
txn_of ss number = option_map (λ (s : Session). s.txn) (find (λ (s : Session). s.number == number) ss)

-- the sessions but for one
abbrev pub without : List Session → ℕ → List Session
without ss number = filter (λ (s : Session). not (s.number == number)) ss
