-- A talk with a client: its asks in order, each with the reply, and what each call says.
use Rattle.std.specs.Prelude.{◌≡◌, List, [], ◌∷◌}
use Rattle.bcv_base.specs.Drawn.{NamesShown}
use Rattle.bcv_base.specs.Moments.{ClockShown}
use Rattle.bcv_disk.specs.DiskShown.{DiskShown, DiskTold}
use Rattle.bcv_model.specs.declared.ask.Ask.{Ask}
use Rattle.bcv_model.specs.declared.reply.Reply.{Reply}
use Rattle.bcv_store.specs.StoreShown.{StoreShown, StoreTold}
use Rattle.bcv_client.specs.AskCalls.{AsksOver, SameWith}
use Rattle.bcv_client.specs.Caching.{Caches}
use Rattle.bcv_client.specs.CallFaults.{CallCauses, CountsOn, DiskFailsAs}
use Rattle.bcv_client.specs.Falls.{Falls}
use Rattle.bcv_client.specs.declared.client.Client.{Client}

-- an ask and its reply
pub record Exchange : Type 0 where
  pub ask : Ask
  pub reply : Reply

-- where a talk stands: the client, and what its store, its source of names and its clock show
pub record Point (D : Type 0) (g : _) : Type 0 where
  pub client : Client D g
  pub store : StoreShown
  pub names : NamesShown
  pub clock : ClockShown

-- one call of a client, with all that it says
pub record Exchanged {D : Type 0} {g : _} (told : DiskTold) (shown : D → DiskShown) (store : StoreTold) (a : Point D g)
    (e : Exchange) (b : Point D g) : Type 0 where
  pub same : SameWith e.ask a.client b.client
  pub disk : DiskFailsAs told shown a.client b.client e.reply
  pub causes : CallCauses a.store b.store a.names b.names a.clock b.clock e.reply
  pub asks : AsksOver told shown store a.store b.store a.names b.names a.clock b.clock a.client b.client e.ask e.reply
  pub falls : Falls told shown store a.store b.store a.names b.names a.client b.client
  pub counted : CountsOn a.store b.store a.names b.names a.clock b.clock
  pub caches : Caches store a.store b.store e.ask a.client b.client e.reply

-- calls in order, each from where the one before it ended
abbrev pub Talks : {D : Type 0} {g : _} → DiskTold → (D → DiskShown) → StoreTold → Point D g → List Exchange → Point D g → Type 0
Talks told shown store a [] b = b ≡ a
Talks told shown store a (e ∷ es) b = (mid : Point _ _) × Exchanged told shown store a e mid × Talks told shown store mid es b
