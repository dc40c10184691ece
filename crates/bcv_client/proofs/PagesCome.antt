-- A page that comes without a request, or does not, over every log that the client stands over.
use Rattle.std.proofs.Common.{◌≡◌, ◌∙◌, ℕ, List, Option, None, option_map, refl, sym, ap, subst}
use Rattle.bcv_base.specs.declared.log.Entry.{Entry as LogEntry}
use Rattle.bcv_base.specs.History.{Item, history_of}
use Rattle.bcv_clientstate.specs.SeenClient.{Free}
use Rattle.bcv_disk.specs.DiskShown.{DiskShown}
use Rattle.bcv_machine.specs.Reading.{FetchesOf, Shows}
use Rattle.bcv_machine.specs.Refusals.{UnlessRefused, look_reason, page_reason}
use Rattle.bcv_machine.specs.State as m
use Rattle.bcv_machine.specs.State.{Access, Side, Up, with_up}
use Rattle.bcv_model.specs.declared.reply.Reply.TheVariants as reply
use Rattle.bcv_pages.specs.Held.{Held}
use Rattle.bcv_snapshot.specs.declared.look.Look.{Look}
use Rattle.bcv_snapshot.specs.declared.look.Look.TheVariants as look
use Rattle.bcv_transaction.specs.declared.answers.Came.{Came}
use Rattle.bcv_transaction.specs.declared.answers.Came.TheVariants as came
use Rattle.bcv_transaction.specs.MachineCalls.{Comes, IsSetOf, LooksAs, StandsFor, side_with}
use Rattle.bcv_transaction.specs.Open.{AreOpen, txn_at}
use Rattle.bcv_transaction.specs.StepCalls.{PageCalls}
use Rattle.bcv_transaction.proofs.FitLaws.{calls_leave_fit}
use Rattle.bcv_transaction.proofs.MachineLists.{seen, seen_at, side_same}
use Rattle.bcv_client.specs.ClientParts.{sets_in}
use Rattle.bcv_client.specs.InForm.{InForm}
use Rattle.bcv_client.specs.Events.{StandsOver, client_side, client_up}
use Rattle.bcv_client.specs.PagesFound.{ComesOver, IsPagesOf}
use Rattle.bcv_client.specs.Transactions.{OnlyTxns}
use Rattle.bcv_client.specs.declared.client.Client.{Client}
use Rattle.bcv_client.proofs.PagesFound.{is_set_of}
use Rattle.bcv_client.proofs.TxnCalls.{comes_stay}
use Rattle.bcv_client.proofs.TxnStands.{are_fit, side_other, stands_for, stands_other}

-- ---- of no transaction

none_seen : {D : Type 0} {g : _} (shown : D → DiskShown) (c : Client D g) (moment : ℕ) (log : List LogEntry) (f : Free) (n : ℕ) → InForm c → StandsOver shown c log f → txn_at n c.txns.txns ≡ None
    → m.txn_at (client_up log c) n ≡ None
none_seen shown c moment log f n form stands none =
    seen_at (history_of log) (sets_in c.ledger.databases) n c.txns.txns (client_up log c) (stands_for shown c moment log f stands form).txns
    ∙ ap (option_map (seen (history_of log) (sets_in c.ledger.databases))) none

pub none_looks : {D : Type 0} {g : _} (shown : D → DiskShown) (c : Client D g) (n p : ℕ) → InForm c → txn_at n c.txns.txns ≡ None → (moment : ℕ) (log : List LogEntry) (f : Free) → StandsOver shown c log f
    → LooksAs (client_side moment log c f) (client_up log c) n p look.NoTxn (client_side moment log c f)
none_looks shown c n p form none moment log f stands =
    let s : Side = client_side moment log c f in
    let u : Up = client_up log c in
    subst (λ (x : Option m.Txn). UnlessRefused (look_reason s.container p x) (with_up s u) reply.NoTxn s (Shows s u x p reply.NoTxn s)) (sym (none_seen shown c moment log f n form stands none)) (refl, refl)

pub none_over : {D : Type 0} {g : _} (access : Access) (shown : D → DiskShown) (c : Client D g) (n p : ℕ) → InForm c → txn_at n c.txns.txns ≡ None → ComesOver access shown c c n p came.NoTxn
none_over access shown c n p form none = λ moment log f stands.
    let s : Side = client_side moment log c f in
    let u : Up = client_up log c in
    record {
      stands = stands;
      comes = subst (λ (x : Option m.Txn). UnlessRefused (page_reason p x) (with_up s u) reply.NoTxn s (FetchesOf access s u x p reply.NoTxn s)) (sym (none_seen shown c moment log f n form stands none)) (refl, refl);
    }

-- ---- of an open one

-- a look
pub looks_over : {D : Type 0} {g : _} (shown : D → DiskShown) (c : Client D g) (n p : ℕ) (h : Held) (r : Look) → InForm c → IsPagesOf c.ledger.databases c.txns n h
    → ((past : List Item) (sets : ℕ → Held) (s : Side) (u : Up) → StandsFor past sets c.txns s u → IsSetOf h sets n c.txns.txns → LooksAs s u n p r (side_with past sets s u c.txns.txns))
    → (moment : ℕ) (log : List LogEntry) (f : Free) → StandsOver shown c log f → LooksAs (client_side moment log c f) (client_up log c) n p r (client_side moment log c f)
looks_over shown c n p h r form is machine moment log f stands =
    let past : List Item = history_of log in
    let sets : ℕ → Held = sets_in c.ledger.databases in
    let s : Side = client_side moment log c f in
    let u : Up = client_up log c in
    let over : StandsFor past sets c.txns s u = stands_for shown c moment log f stands form in
    subst (λ (t : Side). LooksAs s u n p r t) (side_same past sets s u c.txns.txns over.txns)
    (machine past sets s u over (is_set_of c.ledger.databases c.txns n h is))

-- a read or a hold
pub comes_over : {D : Type 0} {g : _} (access : Access) (shown : D → DiskShown) (old new : Client D g) (n p : ℕ) (h : Held) (r : Came) → InForm old → OnlyTxns old new → AreOpen old.txns → AreOpen new.txns
    → IsPagesOf old.ledger.databases old.txns n h → PageCalls access h old.txns n p r new.txns
    → ((past : List Item) (sets : ℕ → Held) (s : Side) (u : Up) → StandsFor past sets old.txns s u → IsSetOf h sets n old.txns.txns → Comes access s u n p r (side_with past sets s u new.txns.txns))
    → ComesOver access shown old new n p r
comes_over access shown old new n p h r form only opened still is calls machine = λ moment log f stands.
    let past : List Item = history_of log in
    let sets : ℕ → Held = sets_in old.ledger.databases in
    let s : Side = client_side moment log old f in
    let u : Up = client_up log old in
    let fit = calls_leave_fit.comes past sets access h old.txns new.txns n p r (are_fit shown old moment log f stands) opened still calls in
    record {
      stands = stands_other old new only shown log f stands (comes_stay access h old.txns new.txns n p r opened calls).slots fit;
      comes = subst (λ (t : Side). Comes access s u n p r t) (side_other old new only moment log f)
          (machine past sets s u (stands_for shown old moment log f stands form) (is_set_of old.ledger.databases old.txns n h is));
    }
