use Rattle.bcv_client.specs.InForm.{IsClient}
use Rattle.daemon_tests.proofs.ends.faults_end_a_connection.Given as goal

abbrev pub invariant-rows : goal.invariant-rows
invariant-rows g l = IsClient l.served.daemon.client
