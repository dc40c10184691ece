use Rattle.bcv_client.specs.InForm.{IsClient}
use Rattle.daemon_tests.proofs.ends.a_thousand_connections.Given as goal

abbrev pub invariant-loop-number : goal.invariant-loop-number
invariant-loop-number g l = IsClient l.served.daemon.client
