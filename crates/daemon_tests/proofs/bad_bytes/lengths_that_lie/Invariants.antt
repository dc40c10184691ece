use Rattle.bcv_client.specs.InForm.{IsClient}
use Rattle.daemon_tests.proofs.bad_bytes.lengths_that_lie.Given as goal

abbrev pub invariant-loop-lie : goal.invariant-loop-lie
invariant-loop-lie g l = IsClient l.served.daemon.client
