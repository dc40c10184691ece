-- A look whose page is copied, as the machine's.
use Rattle.std.proofs.Common.{◌≡◌, ◌∙◌, ℕ, List, Option, Some, None, option_map, unwrap_or, refl, sym, ap, subst}
use Rattle.std.proofs.lemmas.Option.{same_Some}
use Rattle.bcv_base.specs.declared.log.Entry.{Entry}
use Rattle.bcv_base.specs.History.{history_of}
use Rattle.bcv_base.specs.Image.{Page, zeros}
use Rattle.bcv_clientstate.specs.SeenClient.{Free}
use Rattle.bcv_disk.specs.DiskShown.{DiskShown}
use Rattle.bcv_machine.specs.Reading.{Looks}
use Rattle.bcv_machine.specs.State as m
use Rattle.bcv_model.specs.declared.reply.Reply.{Reply}
use Rattle.bcv_model.specs.declared.reply.Reply.TheVariants as reply
use Rattle.bcv_snapshot.specs.declared.look.Look.{Look}
use Rattle.bcv_snapshot.specs.declared.look.Look.TheVariants as look
use Rattle.bcv_transaction.specs.declared.open_txn.OpenTxn.{OpenTxn}
use Rattle.bcv_transaction.specs.MachineCalls.{LooksAs}
use Rattle.bcv_transaction.specs.Open.{txn_at}
use Rattle.bcv_transaction.proofs.FitLaws.{parts_are_seen}
use Rattle.bcv_transaction.proofs.MachineLists.{seen, seen_at}
use Rattle.bcv_client.specs.AskCalls.{RepliesLook}
use Rattle.bcv_client.specs.ClientParts.{sets_in}
use Rattle.bcv_client.specs.Events.{IsNoEvent, Locally, LocallyOver, StandsOver, client_side, client_up}
use Rattle.bcv_client.specs.Transactions.{opened_as, opened_by}
use Rattle.bcv_client.specs.declared.client.Client.{Client}

-- the size of the pages of a transaction that is open
abbrev pub size_opened : Option (ℕ × ℕ × ℕ) → ℕ
size_opened x = unwrap_or (option_map (λ (y : ℕ × ℕ × ℕ). y.1) x) 0

module _ {D : Type 0} {g : _} (shown : D → DiskShown) (c : Client D g) (n p : ℕ) (moment : ℕ) (log : List Entry) (f : Free) where
  abbrev side : m.Side
  side = client_side moment log c f

  abbrev up : m.Up
  up = client_up log c

  abbrev Goes : Reply → m.Side → m.Up → m.Side → Type 0
  Goes r s u t = Looks s u n p r t

  -- the machine's transaction has pages of this size
  size_is : (x : m.Txn) → m.txn_at up n ≡ Some x → size_opened (opened_as n c.txns) ≡ x.page_size
  size_is x found = by (txn_at n c.txns.txns) refl
    where
      at : m.txn_at up n ≡ option_map (seen (history_of log) (sets_in c.ledger.databases)) (txn_at n c.txns.txns)
      at = seen_at (history_of log) (sets_in c.ledger.databases) n c.txns.txns up (parts_are_seen.seen (history_of log) (sets_in c.ledger.databases) c.txns.txns)

      by : (o : Option OpenTxn) → txn_at n c.txns.txns ≡ o → size_opened (option_map opened_by (txn_at n c.txns.txns)) ≡ x.page_size
      by None is =
          absurd (let e : ◌≡◌ {A = Option m.Txn} (Some x) None = sym found ∙ at ∙ ap (option_map (seen (history_of log) (sets_in c.ledger.databases))) is in cc)
      by (Some t) is =
          let same : x ≡ seen (history_of log) (sets_in c.ledger.databases) t =
          same_Some x (seen (history_of log) (sets_in c.ledger.databases) t) (sym found ∙ at ∙ ap (option_map (seen (history_of log) (sets_in c.ledger.databases))) is) in
          ap (λ (o : Option OpenTxn). size_opened (option_map opened_by o)) is ∙ sym (ap (λ (y : m.Txn). y.page_size) same)

  over : (r : Reply) → StandsOver shown c log f → (IsNoEvent r → ⊥) → Looks side up n p r side → LocallyOver shown (Goes r) c c moment log f r
  over r stands some goes = record { stands = stands; goes = record { event = λ is. goes; still = λ none. absurd (some none) } }

  still : StandsOver shown c log f → LocallyOver shown (Goes reply.NoMemory) c c moment log f reply.NoMemory
  still stands = record { stands = stands; goes = record { event = λ is. absurd (is tt); still = λ none. refl } }

  copied : (l : Look) (r : Reply) → RepliesLook (size_opened (opened_as n c.txns)) l r → StandsOver shown c log f → LooksAs side up n p l side → LocallyOver shown (Goes r) c c moment log f r
  copied (look.Page bytes) (reply.Page copy) says stands looks =
      over (reply.Page copy) stands (λ none. none) (subst (λ (b : Page). Looks side up n p (reply.Page b) side) (sym says) looks)
  copied (look.Page bytes) reply.NoMemory says stands looks = still stands
  copied look.Zeros (reply.Page copy) says stands looks =
      let same : copy ≡ zeros looks.0.page_size = says ∙ ap zeros (size_is looks.0 looks.1) in
      over (reply.Page copy) stands (λ none. none) (subst (λ (b : Page). Looks side up n p (reply.Page b) side) (sym same) looks.2)
  copied look.Zeros reply.NoMemory says stands looks = still stands
  copied look.BadPage r says stands looks = subst (λ (x : Reply). LocallyOver shown (Goes x) c c moment log f x) (sym says) (over reply.BadPage stands (λ none. none) looks)
  copied look.NoTxn r says stands looks = subst (λ (x : Reply). LocallyOver shown (Goes x) c c moment log f x) (sym says) (over reply.NoTxn stands (λ none. none) looks)
  copied look.NotHeld r says stands looks = subst (λ (x : Reply). LocallyOver shown (Goes x) c c moment log f x) (sym says) (over reply.NotHeld stands (λ none. none) looks)
  copied (look.Page bytes) _ says stands looks = absurd says
  copied look.Zeros _ says stands looks = absurd says

-- the look of a call
pub looks_copied : {D : Type 0} {g : _} (shown : D → DiskShown) (c : Client D g) (n p size : ℕ) (l : Look) (r : Reply) (o : Option (ℕ × ℕ × ℕ)) → size ≡ size_opened o → o ≡ opened_as n c.txns → RepliesLook size l r
    → ((moment : ℕ) (log : List Entry) (f : Free) → StandsOver shown c log f → LooksAs (client_side moment log c f) (client_up log c) n p l (client_side moment log c f))
    → Locally shown (λ s u t. Looks s u n p r t) c c r
looks_copied shown c n p size l r o is opened says looks moment log f stands =
    copied shown c n p moment log f l r (subst (λ (k : ℕ). RepliesLook k l r) (is ∙ ap size_opened opened) says) stands (looks moment log f stands)
