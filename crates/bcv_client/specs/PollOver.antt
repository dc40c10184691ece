-- The step of a poll leaves all of a client but what it knows, saw and read.
use Rattle.std.specs.Prelude.{◌≡◌}
use Rattle.bcv_client.specs.declared.client.Client.{Client}

-- but for what is known, seen and read nothing has changed
pub record OnlyReads {D : Type 0} {g : _} (old new : Client D g) : Type 0 where
  pub id : new.id ≡ old.id
  pub txns : new.txns ≡ old.txns
  pub tasks : new.tasks ≡ old.tasks
  pub taken : new.taken ≡ old.taken
