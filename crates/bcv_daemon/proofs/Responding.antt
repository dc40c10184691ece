-- Answers of messages, out of the calls that were made for them.
use Rattle.std.proofs.Common.{◌≡◌, ◌⊎◌, ℕ, List, [], ◌∷◌, inl, inr, refl, sym, subst, ap, ◌∙◌}
use Rattle.std.specs.Prelude.{Option, Some, None}
use Rattle.bcv_disk.specs.DiskShown.{DiskShown, DiskTold}
use Rattle.bcv_model.specs.declared.ask.Ask.{Ask}
use Rattle.bcv_model.specs.declared.ask.Ask.TheVariants as ask
use Rattle.bcv_model.specs.declared.reply.Reply.{Reply}
use Rattle.bcv_model.specs.declared.reply.Reply.TheVariants as reply
use Rattle.bcv_proto.specs.declared.answer.Answer.{Answer}
use Rattle.bcv_proto.specs.declared.answer.Answer.TheVariants as answer
use Rattle.bcv_proto.specs.declared.message.Message.{Message}
use Rattle.bcv_proto.specs.declared.message.Message.TheVariants as message
use Rattle.bcv_store.specs.StoreShown.{StoreShown, StoreTold}
use Rattle.bcv_base.specs.Drawn.{NamesShown}
use Rattle.bcv_base.specs.Moments.{ClockShown}
use Rattle.bcv_client.specs.declared.client.Client.{Client}
use Rattle.bcv_daemon.specs.Connections.{AskedOver, ReadsOver}
use Rattle.bcv_client.specs.RangeAsks.{exchange}
use Rattle.bcv_client.specs.RangeReads.{RangeReads, point}
use Rattle.bcv_daemon.specs.Responses.{Answered, AskedToEnd, Begins, Begun, Ends, InSession, Reads, Responds, Unasked, fine_answer, range_answer}
use Rattle.bcv_daemon.specs.Sessions.{txn_of, without}
use Rattle.bcv_client.specs.Talk.{Exchange, Exchanged, Point, Talks}
use Rattle.bcv_client.specs.declared.byte_ranges.ReadAt.{ReadAt}
use Rattle.bcv_daemon.specs.declared.sessions.Session.{Session}
use Rattle.bcv_daemon.proofs.AnswerCauses.{is_caused}
use Rattle.bcv_daemon.proofs.Asked.{one_call}

pub in_session : (o : Option ℕ) (txn : ℕ) (es : List Exchange) (Asks : ℕ → Type 0) (given : Answer) → o ≡ Some txn → Asks txn → InSession o es Asks given
in_session o txn es Asks given e x = subst (λ (p : Option ℕ). InSession p es Asks given) (sym e) x

pub no_session : (o : Option ℕ) (Asks : ℕ → Type 0) → o ≡ None → InSession o [] Asks (answer.Refused reply.NoTxn)
no_session o Asks e = subst (λ (p : Option ℕ). InSession p [] Asks (answer.Refused reply.NoTxn)) (sym e) (refl, refl)

-- what a look-up says of the sessions
pub found : (items seen : List Session) (n : ℕ) (r o : Option ℕ) → seen ≡ items → r ≡ txn_of seen n → r ≡ o → txn_of items n ≡ o
found items seen n r o e f h = ap (λ (l : List Session). txn_of l n) (sym e) ∙ (sym f ∙ h)

pub busy : {D : Type 0} {g : _} (new : Client D g) (ss : List Session) (n : ℕ) (db : List ℕ) (txn : ℕ) → txn_of ss n ≡ Some txn
    → Begins new ss ss n db (txn_of ss n) [] (answer.Refused reply.Busy)
busy new ss n db txn e = subst (λ (o : Option ℕ). Begins new ss ss n db o [] (answer.Refused reply.Busy)) (sym e) (refl, refl, refl)

pub ends_none : (ss : List Session) (n : ℕ) → txn_of ss n ≡ None → Ends ss ss n (txn_of ss n) [] (answer.Refused reply.NoTxn)
ends_none ss n e = subst (λ (o : Option ℕ). Ends ss ss n o [] (answer.Refused reply.NoTxn)) (sym e) (refl, refl, refl)

pub ends_some : (ss later : List Session) (n txn : ℕ) (r : Reply) (given : Answer) → txn_of ss n ≡ Some txn → later ≡ without ss n → given ≡ fine_answer r
    → Ends ss later n (txn_of ss n) (exchange (ask.End txn) r ∷ []) given
ends_some ss later n txn r given e l f = subst (λ (o : Option ℕ). Ends ss later n o (exchange (ask.End txn) r ∷ []) given) (sym e) (l, (r, refl, f))

pub begun_no : {D : Type 0} {g : _} (new : Client D g) (ss later : List Session) (n : ℕ) (r : Reply) → later ≡ ss → ((txn : ℕ) → r ≡ reply.Txn txn → ⊥)
    → Begun new ss later n r (answer.Refused r)
begun_no new ss later n (reply.Txn txn) e h = absurd (h txn refl)
begun_no new ss later n _ e h = (e, refl)

module _ {D : Type 0} {g : _} (told : DiskTold) (shown : D → DiskShown) (store : StoreTold) where
  answered : (a b : Point D g) (ss later : List Session) (m : Message) (given : Answer) (es : List Exchange) → Talks told shown store a es b
      → Responds a.client b.client ss later m es given ⊎ Unasked ss later es given → Answered told shown store a b ss later m given
  answered a b ss later m given es talk x =
      record { exchanges = es; talk = talk; responds = x; caused = is_caused told shown store m a b ss later es given x talk }

  -- one call was made
  pub called : (a b : Point D g) (ss later : List Session) (m : Message) (given : Answer) (q : Ask) (r : Reply) → Exchanged told shown store a (exchange q r) b
      → Responds a.client b.client ss later m (exchange q r ∷ []) given → Answered told shown store a b ss later m given
  called a b ss later m given q r call x =
      answered a b ss later m given (exchange q r ∷ []) (one_call told shown store a b (exchange q r) call) (inl x)

  -- an ask was made to its end
  pub to_end : (a b : Point D g) (ss later : List Session) (m : Message) (given : Answer) (q : Ask) (r : Reply) → AskedOver told shown store a b q r
      → ((es : List Exchange) → AskedToEnd q es r → Responds a.client b.client ss later m es given) → Answered told shown store a b ss later m given
  to_end a b ss later m given q r x f = answered a b ss later m given x.exchanges x.talk (inl (f x.exchanges x.asked))

  -- nobody was asked
  pub unasked : (a : Point D g) (ss later : List Session) (m : Message) (given : Answer) → Responds a.client a.client ss later m [] given
      → Answered told shown store a a ss later m given
  unasked a ss later m given x = answered a a ss later m given [] refl (inl x)

  -- memory was missing before anybody was asked
  pub begins_without : (a : Point D g) (ss later : List Session) (m : Message) → later ≡ ss → Answered told shown store a a ss later m (answer.Refused reply.NoMemory)
  begins_without a ss later m e = answered a a ss later m (answer.Refused reply.NoMemory) [] refl (inr (refl, e, refl))

  -- a session without a transaction was asked to begin one
  pub begun : (a b : Point D g) (ss later : List Session) (n : ℕ) (db : _) (given : Answer) (r : Reply) → txn_of ss n ≡ None
      → Exchanged told shown store a (exchange (ask.Begin db) r) b → Begun b.client ss later n r given
      → Answered told shown store a b ss later (message.Begin n db) given
  begun a b ss later n db given r none call x =
      called a b ss later (message.Begin n db) given (ask.Begin db) r call
      (subst (λ (o : Option ℕ). Begins b.client ss later n db o (exchange (ask.Begin db) r ∷ []) given) (sym none) (r, refl, x))

  pub reads_over : (before after : StoreShown) (names : NamesShown) (clock : ClockShown) (old new : Client D g) (txn off len : ℕ) (into : List ℕ) (r : ReadAt)
      (given : Answer) → RangeReads told shown store before after old new txn off len into r → given ≡ range_answer into r
      → ReadsOver told shown store (point old before names clock) (point new after names clock) txn off len given
  reads_over before after names clock old new txn off len into r given x e =
      record { exchanges = x.exchanges; talk = x.talk names clock; reads = (into, r, x.answers, e) }

  pub answered_as : (a b : Point D g) (ss later : List Session) (m k : Message) (given : Answer) → m ≡ k → Answered told shown store a b ss later k given
      → Answered told shown store a b ss later m given
  answered_as a b ss later m k given e x = subst (λ (m' : Message). Answered told shown store a b ss later m' given) (sym e) x

  pub read_answered : (a b : Point D g) (ss : List Session) (n off len txn : ℕ) (given : Answer) → txn_of ss n ≡ Some txn
      → ReadsOver told shown store a b txn off len given → Answered told shown store a b ss ss (message.Read n off len) given
  read_answered a b ss n off len txn given e x =
      answered a b ss ss (message.Read n off len) given x.exchanges x.talk
      (inl (refl, in_session (txn_of ss n) txn x.exchanges (λ t. Reads a.client off len t x.exchanges given) given e x.reads))
