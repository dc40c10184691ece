use Rattle.bcv_client.specs.InForm.{IsClient}
use Rattle.daemon_tests.proofs.bad_bytes.messages_cut_at_each_byte.Given as goal

abbrev pub invariant-loop-count : goal.invariant-loop-count
invariant-loop-count g l = IsClient l.served.daemon.client
