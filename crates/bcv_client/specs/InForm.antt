-- What a client keeps from call to call.
use Rattle.bcv_publisher.specs.PollStep.{IsReadForm}
use Rattle.bcv_client.specs.ClientForm.{IsInForm}
use Rattle.bcv_client.specs.declared.client.Client.{Client}

abbrev pub InForm : {D : Type 0} {g : _} → Client D g → Type 0
InForm c = IsInForm c.seen c.ledger.databases c.txns c.tasks.items

-- and of what it saw and read
pub record IsClient {D : Type 0} {g : _} (c : Client D g) : Type 0 where
  pub form : InForm c
  pub read : IsReadForm c.seen c.latest
