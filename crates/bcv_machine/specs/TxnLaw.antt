-- A transaction's image never changes after its begin.
use Rattle.std.specs.Prelude.{◌≡◌, ℕ, List, [], ◌∷◌, Some}
use Rattle.bcv_model.specs.declared.event.Event.{Event}
use Rattle.bcv_model.specs.declared.reply.Said.{Said}
use Rattle.bcv_machine.specs.Run.{Run}
use Rattle.bcv_machine.specs.State.{State, Client, Up, Txn, client_at, txn_at, txn_image}
use Rattle.bcv_machine.specs.Step.{Choice, Next}

-- the same transaction, but for the blocks that it holds
pub record IsSameTxn (before after : Txn) : Type 0 where
  pub fixed : after ≡ record before { held = after.held }
  pub image : txn_image after ≡ txn_image before

-- the transaction of a number, where it is still open, is the one that it was
abbrev pub TxnsStay : Up → Up → Type 0
TxnsStay u v = (n : ℕ) (before after : Txn) → txn_at u n ≡ Some before → txn_at v n ≡ Some after → IsSameTxn before after

-- whatever happens, to this client or to another one
abbrev pub ImagesStay : Type 0
ImagesStay =
    (a b : State) (e : Event) (s : Said) (c : Choice) → Next a e s c b → (n : ℕ) (before after : Client) → client_at a n ≡ Some before → client_at b n ≡ Some after
    → (u v : Up) → before.up ≡ Some u → after.up ≡ Some v → TxnsStay u v

-- ---- over runs

-- the client of a number is up, and this is its open transaction of a number
pub record IsOpen (a : State) (client number : ℕ) (x : Txn) : Type 0 where
  pub is_client : Client
  pub client_is : client_at a client ≡ Some is_client
  pub is_up : Up
  pub up_is : is_client.up ≡ Some is_up
  pub txn_is : txn_at is_up number ≡ Some x

-- at every state of a run the client has an open transaction of the number
abbrev pub IsOpenAlong : ℕ → ℕ → (a : State) (es : List Event) (ss : List Said) (cs : List Choice) (b : State) → Run a es ss cs b → Type 0
IsOpenAlong client number a [] [] [] b h = (x : Txn) × IsOpen a client number x
IsOpenAlong client number a (e ∷ es) (s ∷ ss) (c ∷ cs) b h = ((x : Txn) × IsOpen a client number x) × IsOpenAlong client number h.0 es ss cs b h.2
IsOpenAlong client number a _ _ _ b h = ⊥

-- a transaction that is open all along a run is at its end the one that it was, whatever all clients do
abbrev pub ImagesStayInRuns : Type 0
ImagesStayInRuns =
    (a b : State) (es : List Event) (ss : List Said) (cs : List Choice) (h : Run a es ss cs b) (client number : ℕ) (before after : Txn)
    → IsOpenAlong client number a es ss cs b h → IsOpen a client number before → IsOpen b client number after → IsSameTxn before after
