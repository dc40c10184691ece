-- A status that says a fault ends a command only where the count of that fault rose over the whole command.
use Rattle.std.proofs.Common.{◌≡◌, ◌∙◌, ℕ, Bool, true, false, List, [], ◌∷◌, ◌++◌, Option, Some, None, MatchOption, Result, Ok, Err, refl, sym, ap, subst, append_assoc, inl, inr}
use Rattle.bcv_base.specs.Faults.{Rose}
use Rattle.bcv_base.specs.declared.id.Id16.{Id16}
use Rattle.bcv_client.specs.RangeAsks.{PageAsked, exchange}
use Rattle.bcv_client.specs.RangeReads.{RangeOf}
use Rattle.bcv_client.specs.Talk.{Exchange, Exchanged, Point, Talks}
use Rattle.bcv_client.specs.declared.byte_ranges.ReadAt.{ReadAt}
use Rattle.bcv_client.specs.declared.byte_ranges.ReadAt.TheVariants as read_at
use Rattle.bcv_clientlog.specs.LogParts.{log_disk}
use Rattle.bcv_commands.specs.declared.command.Command.{Command}
use Rattle.bcv_commands.specs.declared.command.Command.TheVariants as command
use Rattle.bcv_commands.specs.declared.database_file.FileFault.{FileFault}
use Rattle.bcv_commands.specs.declared.database_file.FileFault.TheVariants as file
use Rattle.bcv_commands.specs.declared.pairs.PairsFault.{PairsFault}
use Rattle.bcv_commands.specs.declared.pairs.PairsFault.TheVariants as pairs
use Rattle.bcv_commands.specs.declared.status.Status.{Status}
use Rattle.bcv_commands.specs.declared.status.Status.TheVariants as status
use Rattle.bcv_disk.specs.DiskShown.{DiskShown, DiskTold}
use Rattle.bcv_disk.specs.declared.disk.Disk.{Ghosts}
use Rattle.bcv_model.specs.declared.ask.Ask.{Ask}
use Rattle.bcv_model.specs.declared.ask.Ask.TheVariants as ask
use Rattle.bcv_model.specs.declared.reply.Reply.{Reply}
use Rattle.bcv_model.specs.declared.reply.Reply.TheVariants as reply
use Rattle.bcv_store.specs.StoreShown.{StoreTold}
use Rattle.bcv_vfs.specs.declared.Span.{Span}
use Rattle.bcv_runner.specs.CommandAsks.{AfterPoll, Around, AsksLast, CommitsFilled, OperationAsks, PollsFirst, PublishAsks, StepsToEnd, TaskAsks, is_polled, point_of, after_resolve, task_of, unknown_of}
use Rattle.bcv_runner.specs.CommandRuns.{AfterInput, OperationRuns}
use Rattle.bcv_runner.specs.Endings.{FaultCounted, IsCutOff, Outputs, ending_by, ending_of, is_store_fault, is_success, status_of, stop_of, output_of}
use Rattle.bcv_runner.specs.Operations.{Prepares, file_ending, operation_of, pairs_ending}
use Rattle.bcv_runner.specs.ReadAsks.{AfterRange, DatabaseIsRead, RangeIsRead, bytes_read, txn_of}
use Rattle.bcv_runner.specs.declared.ending.Ending.{Ending}
use Rattle.bcv_runner.specs.declared.operation.Operation.{Operation}
use Rattle.bcv_runner.specs.declared.operation.Operation.TheVariants as op
use Rattle.bcv_runner.proofs.FaultCounts.{FaultCounts, NoFewer, RoseBy, RoseFor, call_later, call_rose, down_later, faults_at, faults_with, later_still, since, stay, stays_down, until, up_later}

-- ---- the last reply

-- a command that ends by a reply has its status, or one that says no fault
ended_by : (f g : FaultCounts) (o : Option Status) (success : Bool) (r : Reply) → MatchOption o (Unit {0}) (RoseFor f g)
    → RoseFor f g (status_of (ending_by o success r))
ended_by f g (Some s) success r rose = rose
ended_by f g None true r rose = tt
ended_by f g None false r rose = tt

ended_so : (f g : FaultCounts) (resolves : Bool) (r : Reply) (e : Ending) → e ≡ ending_of resolves r → RoseBy f g r → RoseFor f g (status_of e)
ended_so f g resolves r e by rose =
    subst (λ (x : Ending). RoseFor f g (status_of x)) (sym by) (ended_by f g (stop_of r) (is_success resolves r) r rose)

-- a resolve's fault is that of the publication
resolved : (f g : FaultCounts) (id : Id16) (found : Reply) → RoseBy f g found → RoseBy f g (after_resolve id found)
resolved f g id reply.StoreFault rose = rose
resolved f g id _ rose = rose

-- a range is refused with this reply
refused_by : (f h : FaultCounts) (r x : Reply) → read_at.Refused r ≡ read_at.Refused x → RoseBy f h x → RoseBy f h r
refused_by f h r x is rose = let same : r ≡ x = cc in subst (λ (y : Reply). RoseBy f h y) (sym same) rose

-- ---- the output and the input

cut_off : (f g : FaultCounts) (s : Status) (text written : List ℕ) → IsCutOff s text written → RoseFor f g s
cut_off f g status.WriteFault text written cut = tt
cut_off f g status.NoMemory text written cut = tt
cut_off f g _ text written cut = absurd cut

as_ended : (f g : FaultCounts) (e : Ending) (s : Status) (written : List ℕ) → Outputs e s written → RoseFor f g (status_of e) → RoseFor f g s
as_ended f g e s written output rose = elim output [
  | inl whole ↦ subst (λ (t : Status). RoseFor f g t) (sym whole.0) rose
  | inr cut ↦ cut_off f g s (output_of e) written cut
]

file_ends : (f g : FaultCounts) (why : FileFault) → RoseFor f g (status_of (file_ending why))
file_ends f g (file.BadImage at) = tt
file_ends f g file.TooLong = tt
file_ends f g file.ReadFault = tt
file_ends f g file.NoMemory = tt

pairs_end : (f g : FaultCounts) (why : PairsFault) → RoseFor f g (status_of (pairs_ending why))
pairs_end f g (pairs.BadScript line at) = tt
pairs_end f g pairs.TooLong = tt
pairs_end f g pairs.ReadFault = tt
pairs_end f g pairs.NoMemory = tt

no_input : (o : Option Operation) (r : Result Operation Ending) (e : Ending) → MatchOption o ⊥ (λ (x : Operation). r ≡ Ok x) → r ≡ Err e → ⊥
no_input None r e ok err = ok
no_input (Some x) r e ok err = cc

input_ends : (f g : FaultCounts) (c : Command) (e : Ending) (taken : List ℕ) (AtEnd : Type 0) → Prepares c (Err e) taken AtEnd → RoseFor f g (status_of e)
input_ends f g (command.New db) e taken AtEnd read = subst (λ (x : Ending). RoseFor f g (status_of x)) (sym read.1) (file_ends f g read.0)
input_ends f g (command.Commit db size) e taken AtEnd read = subst (λ (x : Ending). RoseFor f g (status_of x)) (sym read.1) (pairs_end f g read.0)
input_ends f g c e taken AtEnd read = absurd (no_input (operation_of c) (Err e) e read.1 refl)

-- ---- talks

-- a talk ends with a call that replies so
pub record EndsBy {D : Type 0} {g : _} (told : DiskTold) (shown : D → DiskShown) (store : StoreTold) (r : Reply) (a b : Point D g) : Type 0 where
  pub front : List Exchange
  pub mid : Point D g
  pub q : Ask
  pub before : Talks told shown store a front mid
  pub last : Exchanged told shown store mid (exchange q r) b

module _ {D : Type 0} {g : Ghosts D} (told : DiskTold) (shown : D → DiskShown) (store : StoreTold) where
  -- the same point
  stay_at : (a b : Point D g) → b ≡ a → NoFewer (faults_at shown a) (faults_at shown b)
  stay_at a b is = subst (λ (p : Point D g). NoFewer (faults_at shown a) (faults_at shown p)) (sym is) (stay (faults_at shown a))

  talk_later : (es : List Exchange) (a b : Point D g) → Talks told shown store a es b → NoFewer (faults_at shown a) (faults_at shown b)
  talk_later [] a b talk = stay_at a b talk
  talk_later (e ∷ es) a b talk =
      later_still (faults_at shown a) (faults_at shown talk.0) (faults_at shown b) (call_later told shown store a talk.0 e talk.1) (talk_later es talk.0 b talk.2)

  split : (es fs : List Exchange) (a b : Point D g) → Talks told shown store a (es ++ fs) b
      → (m : Point D g) × Talks told shown store a es m × Talks told shown store m fs b
  split [] fs a b talk = (a, refl, talk)
  split (e ∷ es) fs a b talk = let rest = split es fs talk.0 b talk.2 in (rest.0, (talk.0, talk.1, rest.1), rest.2)

  ends_more : (es : List Exchange) (q : Ask) (r : Reply) (a b : Point D g) → Talks told shown store a (es ++ exchange q r ∷ []) b
      → EndsBy told shown store r a b
  ends_more es q r a b talk =
      let parts = split es (exchange q r ∷ []) a b talk in
      record {
        front = es;
        mid = parts.0;
        q = q;
        before = parts.1;
        last = subst (λ (p : Point D g). Exchanged told shown store parts.0 (exchange q r) p) (sym parts.2.2) parts.2.1;
      }

  by_start : (q : Ask) (first r : Reply) (more : List Exchange) (a b : Point D g) (o : Option ℕ)
      → MatchOption o ((more ≡ []) × (r ≡ first)) (λ task. StepsToEnd task more r)
      → Talks told shown store a (exchange q first ∷ more) b → EndsBy told shown store r a b
  by_start q first r more a b None start talk =
      subst (λ (x : Reply). EndsBy told shown store x a b) (sym start.1)
      (ends_more [] q first a b (subst (λ (xs : List Exchange). Talks told shown store a (exchange q first ∷ xs) b) start.0 talk))
  by_start q first r more a b (Some task) start talk =
      ends_more (exchange q first ∷ start.0) (ask.Step task) r a b (subst (λ (xs : List Exchange). Talks told shown store a (exchange q first ∷ xs) b) start.1 talk)

  task_ends : (q : Ask) (es : List Exchange) (r : Reply) (a b : Point D g) → TaskAsks q es r → Talks told shown store a es b
      → EndsBy told shown store r a b
  task_ends q es r a b asks talk =
      by_start q asks.0 r asks.1 a b (task_of asks.0) asks.3 (subst (λ (xs : List Exchange). Talks told shown store a xs b) asks.2 talk)

  -- what rose in the last part of a talk, or in the first one, rose in the whole of it
  since_reply : (a mid b : Point D g) (r : Reply) (o : Option Status) → NoFewer (faults_at shown a) (faults_at shown mid)
      → MatchOption o (Unit {0}) (RoseFor (faults_at shown mid) (faults_at shown b)) → MatchOption o (Unit {0}) (RoseFor (faults_at shown a) (faults_at shown b))
  since_reply a mid b r None later rose = tt
  since_reply a mid b r (Some s) later rose = since (faults_at shown a) (faults_at shown mid) (faults_at shown b) s later rose

  until_reply : (a mid b : Point D g) (r : Reply) (o : Option Status) → MatchOption o (Unit {0}) (RoseFor (faults_at shown a) (faults_at shown mid))
      → NoFewer (faults_at shown mid) (faults_at shown b) → MatchOption o (Unit {0}) (RoseFor (faults_at shown a) (faults_at shown b))
  until_reply a mid b r None rose later = tt
  until_reply a mid b r (Some s) rose later = until (faults_at shown a) (faults_at shown mid) (faults_at shown b) s rose later

  last_rose : (r : Reply) (a b : Point D g) → EndsBy told shown store r a b → RoseBy (faults_at shown a) (faults_at shown b) r
  last_rose r a b ends =
      since_reply a ends.mid b r (stop_of r) (talk_later ends.front a ends.mid ends.before) (call_rose told shown store ends.mid b (exchange ends.q r) ends.last)

  task_rose : (q : Ask) (es : List Exchange) (r : Reply) (a b : Point D g) → TaskAsks q es r → Talks told shown store a es b
      → RoseBy (faults_at shown a) (faults_at shown b) r
  task_rose q es r a b asks talk = last_rose r a b (task_ends q es r a b asks talk)

  -- ---- a publication

  by_unknown : (published r : Reply) (more : List Exchange) (a m b : Point D g) (o : Option Id16)
      → MatchOption o ((more ≡ []) × (r ≡ published)) (λ id. (found : Reply) × TaskAsks ask.Resolve more found × (r ≡ after_resolve id found))
      → RoseBy (faults_at shown a) (faults_at shown m) published → NoFewer (faults_at shown a) (faults_at shown m) → Talks told shown store m more b
      → RoseBy (faults_at shown a) (faults_at shown b) r
  by_unknown published r more a m b None known rose later talk =
      subst (λ (x : Reply). RoseBy (faults_at shown a) (faults_at shown b) x) (sym known.1)
      (until_reply a m b published (stop_of published) rose (talk_later more m b talk))
  by_unknown published r more a m b (Some id) unknown rose later talk =
      subst (λ (x : Reply). RoseBy (faults_at shown a) (faults_at shown b) x) (sym unknown.2)
      (resolved (faults_at shown a) (faults_at shown b) id unknown.0
      (since_reply a m b unknown.0 (stop_of unknown.0) later (task_rose ask.Resolve more unknown.0 m b unknown.1 talk)))

  publish_rose : (q : Ask) (es : List Exchange) (r : Reply) (a b : Point D g) → PublishAsks q es r → Talks told shown store a es b
      → RoseBy (faults_at shown a) (faults_at shown b) r
  publish_rose q es r a b asks talk =
      let parts = split asks.0 asks.1 a b (subst (λ (xs : List Exchange). Talks told shown store a xs b) asks.3 talk) in
      by_unknown asks.2 r asks.1 a parts.0 b (unknown_of asks.2) asks.5 (task_rose q asks.0 asks.2 a parts.0 asks.4 parts.1) (talk_later asks.0 a parts.0 parts.1)
      parts.2

  -- ---- what follows a poll

  -- the count of a fault with which such a talk ends rose in it
  abbrev pub Counts : (Point D g → List Exchange → Ending → Point D g → Type 0) → Type 0
  Counts Next = (a : Point D g) (es : List Exchange) (e : Ending) (b : Point D g) → Next a es e b → RoseFor (faults_at shown a) (faults_at shown b) (status_of e)

  -- the call's reply is the last one
  by_last : (r : Reply) (e : Ending) (a mid b : Point D g) → RoseBy (faults_at shown a) (faults_at shown mid) r → e ≡ ending_of false r → b ≡ mid
      → RoseFor (faults_at shown a) (faults_at shown b) (status_of e)
  by_last r e a mid b rose by stays =
      until (faults_at shown a) (faults_at shown mid) (faults_at shown b) (status_of e)
      (ended_so (faults_at shown a) (faults_at shown mid) false r e by rose) (stay_at mid b stays)

  after_poll : (Next : Point D g → List Exchange → Ending → Point D g → Type 0) → Counts Next → (polled : Bool) (r : Reply) (a mid : Point D g) (more : List Exchange) (e : Ending)
      (b : Point D g) → AfterPoll Next polled r mid more e b → RoseBy (faults_at shown a) (faults_at shown mid) r → NoFewer (faults_at shown a) (faults_at shown mid)
      → RoseFor (faults_at shown a) (faults_at shown b) (status_of e)
  after_poll Next counts true r a mid more e b after rose later =
      since (faults_at shown a) (faults_at shown mid) (faults_at shown b) (status_of e) later (counts mid more e b after)
  after_poll Next counts false r a mid more e b after rose later = by_last r e a mid b rose after.1 after.2

  polls_rose : (Next : Point D g → List Exchange → Ending → Point D g → Type 0) → Counts Next → Counts (PollsFirst told shown store Next)
  polls_rose Next counts a es e b p =
      after_poll Next counts (is_polled p.polled) p.polled a p.mid p.more e b p.after (task_rose ask.Poll p.first p.polled a p.mid p.polls p.talks)
      (talk_later p.first a p.mid p.talks)

  once_rose : (q : Ask) → Counts (AsksLast told shown store q)
  once_rose q a es e b once =
      let ends = ends_more [] q once.0 a b (subst (λ (xs : List Exchange). Talks told shown store a xs b) once.1 once.3) in
      by_last once.0 e a b b (last_rose once.0 a b ends) once.2 refl

  commits_rose : (db : List ℕ) (size : ℕ) (pages : List (ℕ × List ℕ)) → Counts (CommitsFilled told shown store db size pages)
  commits_rose db size pages a es e b commits = elim commits [
    | inl once ↦ once_rose _ a es e b once
    | inr none ↦ subst (λ (x : Ending). RoseFor (faults_at shown a) (faults_at shown b) (status_of x)) (sym none.1) tt
  ]

  -- ---- a read

  -- a page of a range did not come, and this was its reply
  by_page : (txn page : ℕ) (came last first : List Exchange) (r : Reply) (a mid : Point D g) → first ≡ came ++ last → PageAsked txn page last r
      → Talks told shown store a first mid → EndsBy told shown store r a mid
  by_page txn page came last first r a mid is asked talk = elim asked [
    | inl one ↦
        ends_more came (ask.Read txn page) r a mid
        (subst (λ (xs : List Exchange). Talks told shown store a xs mid) (is ∙ ap (λ (xs : List Exchange). came ++ xs) one.1) talk)
    | inr two ↦
        ends_more (came ++ exchange (ask.Read txn page) (reply.Task two.0 two.1) ∷ []) (ask.Step two.0) r a mid
        (subst (λ (xs : List Exchange). Talks told shown store a xs mid)
        (is ∙ ap (λ (xs : List Exchange). came ++ xs) two.2
        ∙ sym (append_assoc came (exchange (ask.Read txn page) (reply.Task two.0 two.1) ∷ []) (exchange (ask.Step two.0) r ∷ []))) talk)
  ]

  by_range : (o : Option Span) (txn : ℕ) (first : List Exchange) (into : List ℕ) (r : Reply) (a mid : Point D g) → RangeOf o txn first into (read_at.Refused r)
      → Talks told shown store a first mid → RoseBy (faults_at shown a) (faults_at shown mid) r
  by_range None txn first into r a mid range talk = refused_by (faults_at shown a) (faults_at shown mid) r reply.NoTxn range.0 tt
  by_range (Some span) txn first into r a mid range talk = elim range.1 [
    | inl page ↦ last_rose r a mid (by_page txn page.piece.page page.came page.last first r a mid page.exchanges page.asked talk)
    | inr bytes ↦ subst (λ (y : Reply). RoseBy (faults_at shown a) (faults_at shown mid) y) (sym bytes.memory) tt
  ]

  came : (a b : Point D g) (e : Ending) (bytes : List ℕ) → status_of e ≡ status.Done → RoseFor (faults_at shown a) (faults_at shown b) (status_of e)
  came a b e bytes is = subst (λ (s : Status). RoseFor (faults_at shown a) (faults_at shown b) s) (sym is) tt

  by_read : (x : ReadAt) (o : Option Span) (txn : ℕ) (first : List Exchange) (into : List ℕ) (a mid : Point D g) (more : List Exchange) (e : Ending) (b : Point D g)
      → RangeOf o txn first into x → Talks told shown store a first mid → AfterRange told shown store txn (bytes_read x into) mid more e b
      → RoseFor (faults_at shown a) (faults_at shown b) (status_of e)
  by_read read_at.Full o txn first into a mid more e b range talk after = came a b e into (ap status_of after.3)
  by_read (read_at.Short n) o txn first into a mid more e b range talk after = came a b e into (ap status_of after.3)
  by_read (read_at.Refused r) o txn first into a mid more e b range talk after =
      by_last r e a mid b (by_range o txn first into r a mid range talk) after.1 after.2

  range_rose : (off len txn : ℕ) → Counts (RangeIsRead told shown store off len txn)
  range_rose off len txn a es e b read = by_read read.read _ txn read.first read.into a read.mid read.more e b read.range read.talks read.after

  by_begun : (off len : ℕ) (begun : Reply) (o : Option ℕ) (a mid : Point D g) (more : List Exchange) (e : Ending) (b : Point D g)
      → MatchOption o ((more ≡ []) × (e ≡ ending_of false begun) × (b ≡ mid)) (λ txn. RangeIsRead told shown store off len txn mid more e b)
      → RoseBy (faults_at shown a) (faults_at shown mid) begun → NoFewer (faults_at shown a) (faults_at shown mid)
      → RoseFor (faults_at shown a) (faults_at shown b) (status_of e)
  by_begun off len begun None a mid more e b after rose later = by_last begun e a mid b rose after.1 after.2
  by_begun off len begun (Some txn) a mid more e b after rose later =
      since (faults_at shown a) (faults_at shown mid) (faults_at shown b) (status_of e) later (range_rose off len txn mid more e b after)

  database_rose : (db : List ℕ) (off len : ℕ) → Counts (DatabaseIsRead told shown store db off len)
  database_rose db off len a es e b read =
      by_begun off len read.begun (txn_of read.begun) a read.mid read.more e b read.after
      (call_rose told shown store a read.mid (exchange (ask.Begin db) read.begun) read.begins) (call_later told shown store a read.mid (exchange (ask.Begin db) read.begun) read.begins)

  -- ---- an operation

  asks_rose : (o : Operation) (e : Ending) (a b : Point D g) (es : List Exchange) → Talks told shown store a es b
      → OperationAsks told shown store o a es e b → RoseFor (faults_at shown a) (faults_at shown b) (status_of e)
  asks_rose (op.Publish q) e a b es talk asks =
      ended_so (faults_at shown a) (faults_at shown b) false asks.0 e asks.2 (publish_rose q es asks.0 a b asks.1 talk)
  asks_rose op.Poll e a b es talk asks =
      ended_so (faults_at shown a) (faults_at shown b) false asks.0 e asks.2 (task_rose ask.Poll es asks.0 a b asks.1 talk)
  asks_rose op.Resolve e a b es talk asks =
      ended_so (faults_at shown a) (faults_at shown b) true asks.0 e asks.2 (task_rose ask.Resolve es asks.0 a b asks.1 talk)
  asks_rose op.List e a b es talk asks = polls_rose (AsksLast told shown store ask.List) (once_rose ask.List) a es e b asks
  asks_rose (op.Commit db size pages) e a b es talk asks =
      polls_rose (CommitsFilled told shown store db size pages) (commits_rose db size pages) a es e b asks
  asks_rose (op.Read db off len) e a b es talk asks =
      polls_rose (DatabaseIsRead told shown store db off len) (database_rose db off len) a es e b asks

  -- ---- a command

  runs_later : (o : Operation) (disk : D) (before after : Around) (e : Ending) (back : D) → OperationRuns g told shown store o disk before after e back
      → NoFewer (faults_with shown disk before) (faults_with shown back after)
  runs_later o disk before after e back runs = elim runs.either [
    | inl x ↦
        let f = faults_with shown disk before in
        let h = faults_with shown (log_disk x.start.ledger.log) (record before { names = x.names }) in
        let i = faults_with shown (log_disk x.asks.end.ledger.log) after in
        let talk : NoFewer h i =
        talk_later x.asks.talk.exchanges (point_of x.start (record before { names = x.names })) (point_of x.asks.end after) x.asks.talk.talks in
        subst (λ (d : D). NoFewer f (faults_with shown d after)) (sym x.asks.down.is)
        (later_still f h i (up_later g told shown disk before x.names x.start x.up) talk)
    | inr x ↦ down_later g told shown disk back before after e x
  ]

  runs_rose : (o : Operation) (disk : D) (before after : Around) (e : Ending) (back : D) → OperationRuns g told shown store o disk before after e back
      → RoseFor (faults_with shown disk before) (faults_with shown back after) (status_of e)
  runs_rose o disk before after e back runs = elim runs.either [
    | inl x ↦
        let f = faults_with shown disk before in
        let h = faults_with shown (log_disk x.start.ledger.log) (record before { names = x.names }) in
        let i = faults_with shown (log_disk x.asks.end.ledger.log) after in
        let talk : RoseFor h i (status_of e) =
        asks_rose o e (point_of x.start (record before { names = x.names })) (point_of x.asks.end after) x.asks.talk.exchanges x.asks.talk.talks x.asks.talk.asks in
        subst (λ (d : D). RoseFor f (faults_with shown d after) (status_of e)) (sym x.asks.down.is)
        (since f h i (status_of e) (up_later g told shown disk before x.names x.start x.up) talk)
    | inr x ↦ stays_down g told shown disk back before after e x
  ]

-- nothing around has changed
unmoved : {D : Type 0} (shown : D → DiskShown) (disk back : D) (before after : Around) → after ≡ before → back ≡ disk
    → NoFewer (faults_with shown disk before) (faults_with shown back after)
unmoved {D = D} shown disk back before after around same =
    subst (λ (d : D). NoFewer (faults_with shown disk before) (faults_with shown d after)) (sym same)
    (subst (λ (x : Around). NoFewer (faults_with shown disk before) (faults_with shown disk x)) (sym around) (stay (faults_with shown disk before)))

-- the counts of a whole command
pub record EndCounts (f g : FaultCounts) (s : Status) : Type 0 where
  pub later : NoFewer f g
  pub rose : RoseFor f g s

by_input : {D : Type 0} (g : Ghosts D) (told : DiskTold) (shown : D → DiskShown) (store : StoreTold) (c : Command) (prepared : Result Operation Ending) (taken : List ℕ) (AtEnd : Type 0) (disk : D) (before after : Around) (e : Ending) (back : D)
    → Prepares c prepared taken AtEnd
    → AfterInput (λ (o : Operation) (x : Ending) (d : D). OperationRuns g told shown store o disk before after x d) prepared disk before after e back
    → EndCounts (faults_with shown disk before) (faults_with shown back after) (status_of e)
by_input g told shown store c (Ok o) taken AtEnd disk before after e back input runs = record {
  later = runs_later told shown store o disk before after e back runs;
  rose = runs_rose told shown store o disk before after e back runs;
}
by_input g told shown store c (Err why) taken AtEnd disk before after e back input runs = record {
  later = unmoved shown disk back before after runs.1 runs.2;
  rose =
      subst (λ (x : Ending). RoseFor (faults_with shown disk before) (faults_with shown back after) (status_of x)) (sym runs.0)
      (input_ends (faults_with shown disk before) (faults_with shown back after) c why taken AtEnd input);
}

-- ---- each fault by itself

of_disk : (f g : FaultCounts) (s : Status) → EndCounts f g s → FaultCounted f.disk g.disk (s ≡ status.DiskFault)
of_disk f g s counted = record { later = counted.later.disk; rose = λ is. subst (λ (t : Status). RoseFor f g t) is counted.rose }

of_names : (f g : FaultCounts) (s : Status) → EndCounts f g s → FaultCounted f.names g.names (s ≡ status.NamesFault)
of_names f g s counted = record { later = counted.later.names; rose = λ is. subst (λ (t : Status). RoseFor f g t) is counted.rose }

of_clock : (f g : FaultCounts) (s : Status) → EndCounts f g s → FaultCounted f.clock g.clock (s ≡ status.ClockFault)
of_clock f g s counted = record { later = counted.later.clock; rose = λ is. subst (λ (t : Status). RoseFor f g t) is counted.rose }

store_rose : (f g : FaultCounts) (s : Status) → RoseFor f g s → is_store_fault s ≡ true → Rose f.store g.store
store_rose f g status.StoreFault rose is = rose
store_rose f g (status.Unknown id) rose is = rose
store_rose f g _ rose is = absurd (let e : false ≡ true = is in cc)

of_store : (f g : FaultCounts) (s : Status) → EndCounts f g s → FaultCounted f.store g.store (is_store_fault s ≡ true)
of_store f g s counted = record { later = counted.later.store; rose = λ is. store_rose f g s counted.rose is }

pub record CommandCounts (f g : FaultCounts) (s : Status) : Type 0 where
  pub disk : FaultCounted f.disk g.disk (s ≡ status.DiskFault)
  pub store : FaultCounted f.store g.store (is_store_fault s ≡ true)
  pub names : FaultCounted f.names g.names (s ≡ status.NamesFault)
  pub clock : FaultCounted f.clock g.clock (s ≡ status.ClockFault)

pub command_counts : {D : Type 0} (g : Ghosts D) (told : DiskTold) (shown : D → DiskShown) (store : StoreTold) (c : Command) (prepared : Result Operation Ending) (taken : List ℕ) (AtEnd : Type 0) (disk : D) (before after : Around) (e : Ending) (back : D) (s : Status) (written : List ℕ)
    → Prepares c prepared taken AtEnd
    → AfterInput (λ (o : Operation) (x : Ending) (d : D). OperationRuns g told shown store o disk before after x d) prepared disk before after e back
    → Outputs e s written → CommandCounts (faults_with shown disk before) (faults_with shown back after) s
command_counts g told shown store c prepared taken AtEnd disk before after e back s written input runs output =
    let f = faults_with shown disk before in
    let h = faults_with shown back after in
    let ending = by_input g told shown store c prepared taken AtEnd disk before after e back input runs in
    let counted : EndCounts f h s = record { later = ending.later; rose = as_ended f h e s written output ending.rose } in
    record { disk = of_disk f h s counted; store = of_store f h s counted; names = of_names f h s counted; clock = of_clock f h s counted }
