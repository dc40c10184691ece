-- A client's parts as plain data, by what it has in memory.
use Rattle.std.specs.Prelude.{List, map}
use Rattle.bcv_cache.specs.Entry.{Entry}
use Rattle.bcv_clientlog.specs.LogParts.{is_shut}
use Rattle.bcv_clientstate.specs.Parts as parts
use Rattle.bcv_transaction.specs.MachineCalls.{open_part}
use Rattle.bcv_client.specs.declared.client.Client.{Client}
pub use Rattle.bcv_client.specs.TaskParts.{done_by, entries_in, no_set, seen_access, sets_in, task_part, task_view}

abbrev pub parts_of : {D : Type 0} {g : _} → Client D g → parts.Parts
parts_of c = record {
  id = c.id;
  closed = is_shut c.ledger.log;
  seen = c.seen;
  latest = c.latest;
  kept = c.ledger.databases.kept;
  known = c.ledger.databases.known;
  txns = map (open_part (sets_in c.ledger.databases)) c.txns.txns;
  tasks = map (task_part c.ledger.databases) c.tasks.items;
}

abbrev pub entries_of : {D : Type 0} {g : _} → Client D g → List Entry
entries_of c = entries_in c.txns.cache
