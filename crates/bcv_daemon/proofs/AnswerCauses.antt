-- A fault that an answer says was counted in the calls for its message.
use Rattle.std.proofs.Common.{◌≡◌, ◌≤◌, ◌⊎◌, ℕ, false, true, List, [], ◌∷◌, ◌++◌, Option, Some, None, refl, sym, subst, arith, inl, inr}
use Rattle.bcv_base.specs.Drawn.{NamesShown}
use Rattle.bcv_base.specs.Faults.{Rose}
use Rattle.bcv_base.specs.Moments.{ClockShown}
use Rattle.bcv_client.specs.CallFaults.{CallCauses, CountsOn}
use Rattle.bcv_client.specs.RangeAsks.{exchange}
use Rattle.bcv_client.specs.RangeReads.{RangeOf}
use Rattle.bcv_client.specs.Talk.{Exchange, Exchanged, Point, Talks}
use Rattle.bcv_client.specs.declared.byte_ranges.ReadAt.{ReadAt}
use Rattle.bcv_client.specs.declared.byte_ranges.ReadAt.TheVariants as read_at
use Rattle.bcv_disk.specs.DiskShown.{DiskShown, DiskTold}
use Rattle.bcv_model.specs.declared.ask.Ask.{Ask}
use Rattle.bcv_model.specs.declared.ask.Ask.TheVariants as ask
use Rattle.bcv_model.specs.declared.reply.Reply.{Reply}
use Rattle.bcv_model.specs.declared.reply.Reply.TheVariants as reply
use Rattle.bcv_proto.specs.declared.answer.Answer.{Answer}
use Rattle.bcv_proto.specs.declared.answer.Answer.TheVariants as answer
use Rattle.bcv_proto.specs.declared.message.Message.{Message}
use Rattle.bcv_proto.specs.declared.message.Message.TheVariants as message
use Rattle.bcv_store.specs.StoreShown.{StoreShown, StoreTold}
use Rattle.bcv_talks.specs.TalkTotals.{disk_faults}
use Rattle.bcv_daemon.specs.Responses.{AnsweredBy, AskedToEnd, Begins, Begun, Ends, InSession, IsCaused, Reads, ReplyCauses, Responds, Unasked, begun_answer, fine_answer, held_answer, is_no_memory, page_answer, polled_answer, range_answer, rows_answer}
use Rattle.bcv_daemon.specs.Sessions.{txn_of}
use Rattle.bcv_daemon.specs.declared.sessions.Session.{Session}

-- ---- counts

rose_later : (a b c : ℕ) → a ≤ b → Rose b c → Rose a c
rose_later a b c later rose = omega (arith, later, rose)

through : (a b c : ℕ) → a ≤ b → b ≤ c → a ≤ c
through a b c one two = omega (arith, one, two)

same : (a : ℕ) → a ≤ a
same a = omega arith

others_since : (f g h : StoreShown) (n m l : NamesShown) (c d e : ClockShown) (r : Reply) → CountsOn f g n m c d → CallCauses g h m l d e r → CallCauses f h n l c e r
others_since f g h n m l c d e reply.StoreFault later causes = rose_later f.faults g.faults h.faults later.store causes
others_since f g h n m l c d e (reply.Unknown id) later causes = rose_later f.faults g.faults h.faults later.store causes
others_since f g h n m l c d e reply.NamesFault later causes = rose_later n.faults m.faults l.faults later.names causes
others_since f g h n m l c d e reply.ClockFault later causes = rose_later c.faults d.faults e.faults later.clock causes
others_since f g h n m l c d e _ later causes = tt

counts_on : (f g h : StoreShown) (n m l : NamesShown) (c d e : ClockShown) → CountsOn f g n m c d → CountsOn g h m l d e → CountsOn f h n l c e
counts_on f g h n m l c d e one two = record {
  store = through f.faults g.faults h.faults one.store two.store;
  names = through n.faults m.faults l.faults one.names two.names;
  clock = through c.faults d.faults e.faults one.clock two.clock;
}

module _ {D : Type 0} {g : _} (told : DiskTold) (shown : D → DiskShown) (store : StoreTold) where
  -- ---- talks

  counts_same : (a b : Point D g) → b ≡ a → CountsOn a.store b.store a.names b.names a.clock b.clock
  counts_same a b is =
      subst (λ (p : Point D g). CountsOn a.store p.store a.names p.names a.clock p.clock) (sym is)
      (record { store = same a.store.faults; names = same a.names.faults; clock = same a.clock.faults })

  pub talk_counts : (es : List Exchange) (a b : Point D g) → Talks told shown store a es b → CountsOn a.store b.store a.names b.names a.clock b.clock
  talk_counts [] a b talk = counts_same a b talk
  talk_counts (e ∷ es) a b talk =
      counts_on a.store talk.0.store b.store a.names talk.0.names b.names a.clock talk.0.clock b.clock talk.1.counted (talk_counts es talk.0 b talk.2)

  disk_same : (a b : Point D g) → b ≡ a → disk_faults shown a.client ≤ disk_faults shown b.client
  disk_same a b is = subst (λ (p : Point D g). disk_faults shown a.client ≤ disk_faults shown p.client) (sym is) (same (disk_faults shown a.client))

  pub disk_counts : (es : List Exchange) (a b : Point D g) → Talks told shown store a es b → disk_faults shown a.client ≤ disk_faults shown b.client
  disk_counts [] a b talk = disk_same a b talk
  disk_counts (e ∷ es) a b talk =
      through (disk_faults shown a.client) (disk_faults shown talk.0.client) (disk_faults shown b.client) talk.1.disk.later (disk_counts es talk.0 b talk.2)

  split : (es fs : List Exchange) (a b : Point D g) → Talks told shown store a (es ++ fs) b
      → (m : Point D g) × Talks told shown store a es m × Talks told shown store m fs b
  split [] fs a b talk = (a, refl, talk)
  split (e ∷ es) fs a b talk = let rest = split es fs talk.0 b talk.2 in (rest.0, (talk.0, talk.1, rest.1), rest.2)

  call_causes : (a b : Point D g) (e : Exchange) → Exchanged told shown store a e b → ReplyCauses shown a b e.reply
  call_causes a b e call = record { disk = call.disk.rose; others = call.causes }

  since : (es : List Exchange) (a m b : Point D g) (r : Reply) → Talks told shown store a es m → ReplyCauses shown m b r → ReplyCauses shown a b r
  since es a m b r talk causes = record {
    disk = λ is. rose_later (disk_faults shown a.client) (disk_faults shown m.client) (disk_faults shown b.client) (disk_counts es a m talk) (causes.disk is);
    others = others_since a.store m.store b.store a.names m.names b.names a.clock m.clock b.clock r (talk_counts es a m talk) causes.others;
  }

  -- the last call of a talk is answered so
  once : (q : Ask) (r : Reply) (es : List Exchange) (a b : Point D g) → es ≡ exchange q r ∷ [] → Talks told shown store a es b → ReplyCauses shown a b r
  once q r es a b is talk =
      let one = subst (λ (xs : List Exchange). Talks told shown store a xs b) is talk in
      subst (λ (p : Point D g). ReplyCauses shown a p r) (sym one.2) (call_causes a one.0 (exchange q r) one.1)

  to_end : (q : Ask) (r : Reply) (es : List Exchange) (a b : Point D g) → AskedToEnd q es r → Talks told shown store a es b → ReplyCauses shown a b r
  to_end q r es a b asked talk = elim asked [
    | inl one ↦ once q r es a b one.1 talk
    | inr two ↦
        let first = exchange q (reply.Task two.0 two.1) in
        let last = exchange (ask.Step two.0) r in
        let parts = split (first ∷ []) (last ∷ []) a b (subst (λ (xs : List Exchange). Talks told shown store a xs b) two.2 talk) in
        since (first ∷ []) a parts.0 b r parts.1 (once (ask.Step two.0) r (last ∷ []) parts.0 b refl parts.2)
  ]

  -- ---- replies that say no fault

  no_txn : (a b : Point D g) → ReplyCauses shown a b reply.NoTxn
  no_txn a b = record { disk = λ is. absurd (let e : reply.NoTxn ≡ reply.DiskFault = is in cc); others = tt }

  busy : (a b : Point D g) → ReplyCauses shown a b reply.Busy
  busy a b = record { disk = λ is. absurd (let e : reply.Busy ≡ reply.DiskFault = is in cc); others = tt }

  no_memory : (a b : Point D g) → ReplyCauses shown a b reply.NoMemory
  no_memory a b = record { disk = λ is. absurd (let e : reply.NoMemory ≡ reply.DiskFault = is in cc); others = tt }

  -- ---- answers

  polled : (a b : Point D g) (r : Reply) → ReplyCauses shown a b r → IsCaused shown a b (polled_answer r)
  polled a b (reply.Polled n) causes = tt
  polled a b _ causes = causes

  fine : (a b : Point D g) (r : Reply) → ReplyCauses shown a b r → IsCaused shown a b (fine_answer r)
  fine a b reply.Fine causes = tt
  fine a b _ causes = causes

  held : (a b : Point D g) (r : Reply) → ReplyCauses shown a b r → IsCaused shown a b (held_answer r)
  held a b reply.Held causes = tt
  held a b _ causes = causes

  page : (a b : Point D g) (r : Reply) → ReplyCauses shown a b r → IsCaused shown a b (page_answer r)
  page a b (reply.Page bytes) causes = tt
  page a b _ causes = causes

  rows : (a b : Point D g) (r : Reply) → ReplyCauses shown a b r → IsCaused shown a b (rows_answer r)
  rows a b (reply.Table items pending) causes = tt
  rows a b _ causes = causes

  unasked : (a b : Point D g) (given : Answer) → is_no_memory given ≡ true → IsCaused shown a b given
  unasked a b (answer.Refused reply.NoMemory) is = no_memory a b
  unasked a b _ is = absurd (let e : false ≡ true = is in cc)

  opened : (a b : Point D g) (o : Option (ℕ × ℕ × ℕ)) → IsCaused shown a b (begun_answer o)
  opened a b None = no_txn a b
  opened a b (Some x) = tt

  as_given : (a b : Point D g) (given answered : Answer) → given ≡ answered → IsCaused shown a b answered → IsCaused shown a b given
  as_given a b given answered is caused = subst (λ (x : Answer). IsCaused shown a b x) (sym is) caused

  -- ---- a begin, and what is asked in a session

  begun : (a b : Point D g) (ss later : List Session) (n : ℕ) (r : Reply) (given : Answer) → Begun b.client ss later n r given → ReplyCauses shown a b r
      → IsCaused shown a b given
  begun a b ss later n (reply.Txn txn) given begins causes = as_given a b given (begun_answer _) begins.1 (opened a b _)
  begun a b ss later n r given begins causes = as_given a b given (answer.Refused r) begins.1 causes

  begins : (a b : Point D g) (ss later : List Session) (n : ℕ) (db : List ℕ) (o : Option ℕ) (es : List Exchange) (given : Answer)
      → Begins b.client ss later n db o es given → Talks told shown store a es b → IsCaused shown a b given
  begins a b ss later n db None es given x talk = begun a b ss later n x.0 given x.2 (once (ask.Begin db) x.0 es a b x.1 talk)
  begins a b ss later n db (Some txn) es given x talk = as_given a b given (answer.Refused reply.Busy) x.2 (busy a b)

  ends : (a b : Point D g) (ss later : List Session) (n : ℕ) (o : Option ℕ) (es : List Exchange) (given : Answer) → Ends ss later n o es given
      → Talks told shown store a es b → IsCaused shown a b given
  ends a b ss later n None es given x talk = as_given a b given (answer.Refused reply.NoTxn) x.2 (no_txn a b)
  ends a b ss later n (Some txn) es given x talk =
      as_given a b given (fine_answer x.1.0) x.1.2 (fine a b x.1.0 (once (ask.End txn) x.1.0 es a b x.1.1 talk))

  in_session : (a b : Point D g) (o : Option ℕ) (es : List Exchange) (Asks : ℕ → Type 0) (given : Answer) → ((txn : ℕ) → Asks txn → IsCaused shown a b given)
      → InSession o es Asks given → IsCaused shown a b given
  in_session a b None es Asks given caused x = as_given a b given (answer.Refused reply.NoTxn) x.1 (no_txn a b)
  in_session a b (Some txn) es Asks given caused x = caused txn x

  -- ---- a range of bytes

  refused_by : (a b : Point D g) (r x : Reply) → read_at.Refused r ≡ read_at.Refused x → ReplyCauses shown a b x → ReplyCauses shown a b r
  refused_by a b r x is causes = let e : r ≡ x = cc in subst (λ (y : Reply). ReplyCauses shown a b y) (sym e) causes

  range : (o : Option _) (txn : ℕ) (es : List Exchange) (into : List ℕ) (r : ReadAt) (a b : Point D g) → RangeOf o txn es into r
      → Talks told shown store a es b → IsCaused shown a b (range_answer into r)
  range o txn es into read_at.Full a b x talk = tt
  range o txn es into (read_at.Short n) a b x talk = tt
  range None txn es into (read_at.Refused r) a b x talk = refused_by a b r reply.NoTxn x.0 (no_txn a b)
  range (Some span) txn es into (read_at.Refused r) a b x talk = elim x.1 [
    | inl missed ↦
        let parts = split missed.came missed.last a b (subst (λ (xs : List Exchange). Talks told shown store a xs b) missed.exchanges talk) in
        since missed.came a parts.0 b r parts.1 (to_end (ask.Read txn missed.piece.page) r missed.last parts.0 b missed.asked parts.2)
    | inr bytes ↦ subst (λ (y : Reply). ReplyCauses shown a b y) (sym bytes.memory) (no_memory a b)
  ]

  reads : (a b : Point D g) (off len txn : ℕ) (es : List Exchange) (given : Answer) → Reads a.client off len txn es given → Talks told shown store a es b
      → IsCaused shown a b given
  reads a b off len txn es given x talk = as_given a b given (range_answer x.0 x.1) x.3 (range _ txn es x.0 x.1 a b x.2 talk)

  -- ---- a message

  responds : (m : Message) (a b : Point D g) (ss later : List Session) (es : List Exchange) (given : Answer)
      → Responds a.client b.client ss later m es given → Talks told shown store a es b → IsCaused shown a b given
  responds (message.Poll n) a b ss later es given x talk =
      as_given a b given (polled_answer x.1.0) x.1.2 (polled a b x.1.0 (to_end ask.Poll x.1.0 es a b x.1.1 talk))
  responds (message.List n) a b ss later es given x talk = as_given a b given (rows_answer x.1.0) x.1.2 (rows a b x.1.0 (once ask.List x.1.0 es a b x.1.1 talk))
  responds (message.Begin n db) a b ss later es given x talk = begins a b ss later n db (txn_of ss n) es given x talk
  responds (message.End n) a b ss later es given x talk = ends a b ss later n (txn_of ss n) es given x talk
  responds (message.Read n off len) a b ss later es given x talk =
      in_session a b (txn_of ss n) es (λ txn. Reads a.client off len txn es given) given (λ txn y. reads a b off len txn es given y talk) x.1
  responds (message.Hold n p) a b ss later es given x talk =
      in_session a b (txn_of ss n) es (λ txn. AnsweredBy held_answer (AskedToEnd (ask.Hold txn p) es) given) given
      (λ txn y. as_given a b given (held_answer y.0) y.2 (held a b y.0 (to_end (ask.Hold txn p) y.0 es a b y.1 talk))) x.1
  responds (message.Look n p) a b ss later es given x talk =
      in_session a b (txn_of ss n) es (λ txn. AnsweredBy page_answer (λ r. es ≡ exchange (ask.Look txn p) r ∷ []) given) given
      (λ txn y. as_given a b given (page_answer y.0) y.2 (page a b y.0 (once (ask.Look txn p) y.0 es a b y.1 talk))) x.1
  responds (message.Free n p) a b ss later es given x talk =
      in_session a b (txn_of ss n) es (λ txn. AnsweredBy fine_answer (λ r. es ≡ exchange (ask.Free txn p) r ∷ []) given) given
      (λ txn y. as_given a b given (fine_answer y.0) y.2 (fine a b y.0 (once (ask.Free txn p) y.0 es a b y.1 talk))) x.1

  -- whatever the client was asked for a message
  pub is_caused : (m : Message) (a b : Point D g) (ss later : List Session) (es : List Exchange) (given : Answer)
      → Responds a.client b.client ss later m es given ⊎ Unasked ss later es given → Talks told shown store a es b → IsCaused shown a b given
  is_caused m a b ss later es given x talk = elim x [
    | inl asked ↦ responds m a b ss later es given asked talk
    | inr none ↦ unasked a b given none.2
  ]
