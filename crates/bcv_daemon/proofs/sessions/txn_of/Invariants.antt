use Rattle.std.proofs.Common.{◌≡◌, drop}
use Rattle.bcv_daemon.specs.Sessions.{txn_of}
use Rattle.bcv_daemon.proofs.sessions.txn_of.Given as goal

abbrev pub invariant-loop-session : goal.invariant-loop-session
invariant-loop-session l = txn_of (drop l.session-index l.sessions) l.number ≡ txn_of l.sessions l.number
