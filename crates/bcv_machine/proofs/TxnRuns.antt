-- A transaction that is open all along a run stays the one that it was.
use Rattle.std.proofs.Common.{◌≡◌, ◌∙◌, ℕ, List, [], ◌∷◌, Option, Some, None, refl, sym, ap, subst}
use Rattle.std.proofs.lemmas.Option.{same_Some}
use Rattle.bcv_model.specs.declared.event.Event.{Event}
use Rattle.bcv_model.specs.declared.reply.Said.{Said}
use Rattle.bcv_machine.specs.Run.{Run}
use Rattle.bcv_machine.specs.State.{State, Client, Up, Txn, client_at, txn_at}
use Rattle.bcv_machine.specs.Step.{Choice, Next}
use Rattle.bcv_machine.specs.TxnLaw.{IsSameTxn, IsOpen, IsOpenAlong, ImagesStayInRuns}
use Rattle.bcv_machine.proofs.TxnsStay.{images_stay}

then : (x y z : Txn) → IsSameTxn x y → IsSameTxn y z → IsSameTxn x z
then x y z p q = record { fixed = q.fixed ∙ ap (λ (w : Txn). record w { held = z.held }) p.fixed; image = q.image ∙ p.image }

-- a number has one open transaction
one_open : (a : State) (client number : ℕ) (x y : Txn) → IsOpen a client number x → IsOpen a client number y → x ≡ y
one_open a client number x y p q =
    let clients : p.is_client ≡ q.is_client = same_Some p.is_client q.is_client (sym p.client_is ∙ q.client_is) in
    let ups : p.is_up ≡ q.is_up = same_Some p.is_up q.is_up (sym p.up_is ∙ ap (λ (c : Client). c.up) clients ∙ q.up_is) in
    same_Some x y (sym p.txn_is ∙ ap (λ (u : Up). txn_at u number) ups ∙ q.txn_is)

same_end : (a : State) (client number : ℕ) (x y : Txn) → IsOpen a client number x → IsOpen a client number y → IsSameTxn x y
same_end a client number x y p q = subst (IsSameTxn x) (one_open a client number x y p q) (record { fixed = refl; image = refl })

same_step : (a b : State) (e : Event) (s : Said) (c : Choice) → Next a e s c b → (client number : ℕ) (x y : Txn) → IsOpen a client number x → IsOpen b client number y → IsSameTxn x y
same_step a b e s c h client number x y p q =
    images_stay a b e s c h client p.is_client q.is_client p.client_is q.client_is p.is_up q.is_up p.up_is q.up_is number x y p.txn_is q.txn_is

-- the transaction that is open where a run begins
open_first : (client number : ℕ) (a : State) (es : List Event) (ss : List Said) (cs : List Choice) (b : State) (h : Run a es ss cs b) → IsOpenAlong client number a es ss cs b h
    → (x : Txn) × IsOpen a client number x
open_first client number a [] [] [] b h along = along
open_first client number a [] [] (c ∷ cs) b h along = absurd along
open_first client number a [] (s ∷ ss) cs b h along = absurd along
open_first client number a (e ∷ es) [] cs b h along = absurd along
open_first client number a (e ∷ es) (s ∷ ss) [] b h along = absurd along
open_first client number a (e ∷ es) (s ∷ ss) (c ∷ cs) b h along = along.0

pub images_stay_in_runs : ImagesStayInRuns
images_stay_in_runs a b [] [] [] h client number x y along p q = same_end a client number x y p (subst (λ (z : State). IsOpen z client number y) h q)
images_stay_in_runs a b [] [] (c ∷ cs) h client number x y along p q = absurd h
images_stay_in_runs a b [] (s ∷ ss) cs h client number x y along p q = absurd h
images_stay_in_runs a b (e ∷ es) [] cs h client number x y along p q = absurd h
images_stay_in_runs a b (e ∷ es) (s ∷ ss) [] h client number x y along p q = absurd h
images_stay_in_runs a b (e ∷ es) (s ∷ ss) (c ∷ cs) h client number x y along p q =
    let next = open_first client number h.0 es ss cs b h.2 along.1 in
    then x next.0 y (same_step a h.0 e s c h.1 client number x next.0 p next.1) (images_stay_in_runs h.0 b es ss cs h.2 client number next.0 y along.1 next.1 q)
