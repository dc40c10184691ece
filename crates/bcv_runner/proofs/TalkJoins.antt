-- Talks that are joined, and the asks that they make.
use Rattle.std.proofs.Common.{◌≡◌, ◌<◌, ℕ, Bool, true, false, List, [], ◌∷◌, ◌++◌, Option, Some, None, MatchOption, Result, Ok, Err, refl, sym, subst, append-nil, inl, inr}
use Rattle.bcv_client.specs.Descent.{StepDescends, steps_to_come}
use Rattle.bcv_client.specs.RangeAsks.{exchange}
use Rattle.bcv_client.specs.RangeReads.{RangeReads, point}
use Rattle.bcv_client.specs.Talk.{Exchange, Exchanged, Point, Talks}
use Rattle.bcv_client.specs.TaskCalls.{is_working}
use Rattle.bcv_client.specs.declared.byte_ranges.ReadAt.{ReadAt}
use Rattle.bcv_client.specs.declared.client.Client.{Client}
use Rattle.bcv_disk.specs.DiskShown.{DiskShown, DiskTold}
use Rattle.bcv_model.specs.declared.ask.Ask.{Ask}
use Rattle.bcv_model.specs.declared.ask.Ask.TheVariants as ask
use Rattle.bcv_model.specs.declared.reply.Reply.{Reply}
use Rattle.bcv_model.specs.declared.reply.Reply.TheVariants as reply
use Rattle.bcv_base.specs.declared.id.Id16.{Id16}
use Rattle.bcv_base.specs.Drawn.{NamesShown}
use Rattle.bcv_base.specs.Moments.{ClockShown}
use Rattle.bcv_store.specs.StoreShown.{StoreShown, StoreTold}
use Rattle.bcv_runner.specs.CommandAsks.{AfterPoll, AsksLast, CommitsFilled, StepsOn, PollsFirst, PublishAsks, StepsToEnd, TaskAsks, filled_pages, is_polled, after_resolve, size_known, task_of, unknown_of}
use Rattle.bcv_runner.specs.CommandTalks.{EndsTalk, MakesAsks}
use Rattle.bcv_runner.specs.Endings.{ending_of}
use Rattle.bcv_runner.specs.ReadAsks.{AfterRange, DatabaseIsRead, RangeIsRead, bytes_read, txn_of}
use Rattle.bcv_runner.specs.declared.ending.Ending.{Ending}
use Rattle.bcv_runner.specs.declared.ending.Ending.TheVariants as ending
use Rattle.bcv_runner.specs.declared.operation.Operation.{Operation}
use Rattle.bcv_runner.specs.declared.operation.Operation.TheVariants as op

goes_more : (task : ℕ) (es : List Exchange) (r : Reply) → StepsOn task es → is_working r ≡ true → StepsOn task (es ++ exchange (ask.Step task) r ∷ [])
goes_more task [] r on working = (refl, working, tt)
goes_more task (e ∷ es) r on working = (on.0, on.1, goes_more task es r on.2 working)

-- a step after which a task goes on has fewer steps to come
pub falls : {D : Type 0} {g : _} (old new : Client D g) (task : ℕ) (r : Reply) → is_working r ≡ true → StepDescends old new task r
    → steps_to_come new task < steps_to_come old task
falls old new task (reply.Working left) working descends = descends.fewer
falls old new task _ working descends = absurd (let e : false ≡ true = working in cc)

module _ {D : Type 0} {g : _} (told : DiskTold) (shown : D → DiskShown) (store : StoreTold) where
  pub join : (es fs : List Exchange) (a b c : Point D g) → Talks told shown store a es b → Talks told shown store b fs c
      → Talks told shown store a (es ++ fs) c
  join [] fs a b c one two = subst (λ (p : Point D g). Talks told shown store p fs c) one two
  join (e ∷ es) fs a b c one two = (one.0, one.1, join es fs one.0 b c one.2 two)

  pub single : (a b : Point D g) (e : Exchange) → Exchanged told shown store a e b → Talks told shown store a (e ∷ []) b
  single a b e call = (b, call, refl)

  -- ---- a task

  pub no_steps : (task : ℕ) (a : Point D g) → MakesAsks told shown store (StepsOn task) a a
  no_steps task a = record { exchanges = []; talks = refl; asks = tt }

  pub step_more : (task : ℕ) (r : Reply) (a mid b : Point D g) → MakesAsks told shown store (StepsOn task) a mid
      → Exchanged told shown store mid (exchange (ask.Step task) r) b → is_working r ≡ true → MakesAsks told shown store (StepsOn task) a b
  step_more task r a mid b before call working = record {
    exchanges = before.exchanges ++ exchange (ask.Step task) r ∷ [];
    talks = join before.exchanges (exchange (ask.Step task) r ∷ []) a mid b before.talks (single mid b (exchange (ask.Step task) r) call);
    asks = goes_more task before.exchanges r before.asks working;
  }

  pub step_last : (task : ℕ) (r : Reply) (a mid b : Point D g) → MakesAsks told shown store (StepsOn task) a mid
      → Exchanged told shown store mid (exchange (ask.Step task) r) b → is_working r ≡ false
      → MakesAsks told shown store (λ es. StepsToEnd task es r) a b
  step_last task r a mid b before call ends = record {
    exchanges = before.exchanges ++ exchange (ask.Step task) r ∷ [];
    talks = join before.exchanges (exchange (ask.Step task) r ∷ []) a mid b before.talks (single mid b (exchange (ask.Step task) r) call);
    asks = (before.exchanges, refl, before.asks, ends);
  }

  -- an ask that starts no task
  pub asked : (q : Ask) (r : Reply) (a b : Point D g) → Exchanged told shown store a (exchange q r) b → task_of r ≡ None
      → MakesAsks told shown store (λ es. TaskAsks q es r) a b
  asked q r a b call none = record {
    exchanges = exchange q r ∷ [];
    talks = single a b (exchange q r) call;
    asks = (r, [], refl, subst (λ (o : Option ℕ). MatchOption o ((let xs : List Exchange = [] in xs ≡ []) × (r ≡ r)) (λ task. StepsToEnd task [] r)) (sym none) (refl, refl));
  }

  -- an ask that starts one, with the steps of that
  pub started : (q : Ask) (first r : Reply) (task : ℕ) (a mid b : Point D g) → Exchanged told shown store a (exchange q first) mid
      → task_of first ≡ Some task → MakesAsks told shown store (λ es. StepsToEnd task es r) mid b
      → MakesAsks told shown store (λ es. TaskAsks q es r) a b
  started q first r task a mid b call some steps = record {
    exchanges = exchange q first ∷ steps.exchanges;
    talks = (mid, call, steps.talks);
    asks = (
      first,
      steps.exchanges,
      refl,
      subst (λ (o : Option ℕ). MatchOption o ((steps.exchanges ≡ []) × (r ≡ first)) (λ n. StepsToEnd n steps.exchanges r)) (sym some) steps.asks,
    );
  }

  -- ---- a publication

  pub known : (q : Ask) (r : Reply) (a b : Point D g) → MakesAsks told shown store (λ es. TaskAsks q es r) a b → unknown_of r ≡ None
      → MakesAsks told shown store (λ es. PublishAsks q es r) a b
  known q r a b made none = record {
    exchanges = made.exchanges;
    talks = made.talks;
    asks = (
      made.exchanges,
      [],
      r,
      sym (append-nil made.exchanges),
      made.asks,
      subst (λ (o : Option Id16). MatchOption o ((let xs : List Exchange = [] in xs ≡ []) × (r ≡ r)) (λ id. (found : Reply) × TaskAsks ask.Resolve [] found × (r ≡ after_resolve id found)))
          (sym none) (refl, refl),
    );
  }

  pub unknown : (q : Ask) (published found r : Reply) (id : Id16) (a mid b : Point D g)
      → MakesAsks told shown store (λ es. TaskAsks q es published) a mid → unknown_of published ≡ Some id
      → MakesAsks told shown store (λ es. TaskAsks ask.Resolve es found) mid b → r ≡ after_resolve id found
      → MakesAsks told shown store (λ es. PublishAsks q es r) a b
  unknown q published found r id a mid b made some resolved is = record {
    exchanges = made.exchanges ++ resolved.exchanges;
    talks = join made.exchanges resolved.exchanges a mid b made.talks resolved.talks;
    asks = (
      made.exchanges,
      resolved.exchanges,
      published,
      refl,
      made.asks,
      subst (λ (o : Option Id16). MatchOption o ((resolved.exchanges ≡ []) × (r ≡ published))
          (λ i. (x : Reply) × TaskAsks ask.Resolve resolved.exchanges x × (r ≡ after_resolve i x))) (sym some) (found, resolved.asks, is),
    );
  }

  -- ---- a poll

  -- a talk whose asks, from its start to its end, are of this form
  abbrev pub Talked : (Next : Point D g → List Exchange → Ending → Point D g → Type 0) → Ending → Point D g → Point D g → Type 0
  Talked Next e a b = (es : List Exchange) × Talks told shown store a es b × Next a es e b

  pub stops : (Next : Point D g → List Exchange → Ending → Point D g → Type 0) (r : Reply) (e : Ending) (a b : Point D g)
      → MakesAsks told shown store (λ es. TaskAsks ask.Poll es r) a b → is_polled r ≡ false → e ≡ ending_of false r
      → Talked (PollsFirst told shown store Next) e a b
  stops Next r e a b made not_polled is = (
    made.exchanges,
    made.talks,
    record {
      first = made.exchanges;
      more = [];
      joined = sym (append-nil made.exchanges);
      polled = r;
      mid = b;
      polls = made.asks;
      talks = made.talks;
      after = subst (λ (x : Bool). AfterPoll Next x r b [] e b) (sym not_polled) (refl, is, refl);
    },
  )

  pub goes_on : (Next : Point D g → List Exchange → Ending → Point D g → Type 0) (r : Reply) (e : Ending) (a mid b : Point D g)
      → MakesAsks told shown store (λ es. TaskAsks ask.Poll es r) a mid → is_polled r ≡ true → Talked Next e mid b
      → Talked (PollsFirst told shown store Next) e a b
  goes_on Next r e a mid b made polled next = (
    made.exchanges ++ next.0,
    join made.exchanges next.0 a mid b made.talks next.1,
    record {
      first = made.exchanges;
      more = next.0;
      joined = refl;
      polled = r;
      mid = mid;
      polls = made.asks;
      talks = made.talks;
      after = subst (λ (x : Bool). AfterPoll Next x r mid next.0 e b) (sym polled) next.2;
    },
  )

  -- ---- what is asked after it

  pub once : (q : Ask) (r : Reply) (e : Ending) (a b : Point D g) → Exchanged told shown store a (exchange q r) b → e ≡ ending_of false r
      → Talked (AsksLast told shown store q) e a b
  once q r e a b call is =
      (exchange q r ∷ [], single a b (exchange q r) call, (r, refl, is, single a b (exchange q r) call))

  nothing : (es : List Exchange) (a b : Point D g) → es ≡ [] → b ≡ a → Talks told shown store a es b
  nothing es a b none is = subst (λ (xs : List Exchange). Talks told shown store a xs b) (sym none) is

  -- ---- a commit

  commit_talks : (db : List ℕ) (size : ℕ) (pages : List (ℕ × List ℕ)) (a : Point D g) (es : List Exchange) (e : Ending) (b : Point D g)
      → CommitsFilled told shown store db size pages a es e b → Talks told shown store a es b
  commit_talks db size pages a es e b commits = elim commits [
    | inl one ↦ one.3
    | inr none ↦ nothing es a b none.0 none.2
  ]

  pub committed : (db : List ℕ) (size : ℕ) (pages : List (ℕ × List ℕ)) (e : Ending) (a b : Point D g)
      → (es : List Exchange) × CommitsFilled told shown store db size pages a es e b
      → Talked (CommitsFilled told shown store db size pages) e a b
  committed db size pages e a b commits = (commits.0, commit_talks db size pages a commits.0 e b commits.1, commits.1)

  -- the pages were filled, and the commit is asked for
  pub commits : (db : List ℕ) (size : ℕ) (pages whole : List (ℕ × List ℕ)) (r : Reply) (e : Ending) (a b : Point D g)
      → Exchanged told shown store a (exchange (ask.Commit db (record { size = size; pages = whole })) r) b
      → whole ≡ filled_pages (size_known a.client db) pages → e ≡ ending_of false r
      → (es : List Exchange) × CommitsFilled told shown store db size pages a es e b
  commits db size pages whole r e a b call are is =
      let q : Ask = ask.Commit db (record { size = size; pages = filled_pages (size_known a.client db) pages }) in
      let exchanged : Exchanged told shown store a (exchange q r) b =
      subst (λ (ps : List (ℕ × List ℕ)). Exchanged told shown store a (exchange (ask.Commit db (record { size = size; pages = ps })) r) b) are call in
      (exchange q r ∷ [], inl (r, refl, is, single a b (exchange q r) exchanged))

  -- ---- a read

  -- a range was read, and what follows it
  pub range_read : (off len txn : ℕ) (before after : StoreShown) (names : NamesShown) (clock : ClockShown) (old new : Client D g) (into : List ℕ) (r : ReadAt)
      (more : List Exchange) (e : Ending) (b : Point D g) → RangeReads told shown store before after old new txn off len into r
      → AfterRange told shown store txn (bytes_read r into) (point new after names clock) more e b
      → (es : List Exchange) × RangeIsRead told shown store off len txn (point old before names clock) es e b
  range_read off len txn before after names clock old new into r more e b reads follows = (
    reads.exchanges ++ more,
    record {
      first = reads.exchanges;
      more = more;
      joined = refl;
      read = r;
      into = into;
      mid = point new after names clock;
      range = reads.answers;
      talks = reads.talk names clock;
      after = follows;
    },
  )

  -- its bytes came, and the transaction was ended
  pub bytes_came : (off len txn : ℕ) (before after : StoreShown) (names : NamesShown) (clock : ClockShown) (old new : Client D g) (into bytes : List ℕ) (r : ReadAt)
      (b : Point D g) → RangeReads told shown store before after old new txn off len into r → bytes_read r into ≡ Ok bytes
      → (x : Reply) × Exchanged told shown store (point new after names clock) (exchange (ask.End txn) x) b
      → (es : List Exchange) × RangeIsRead told shown store off len txn (point old before names clock) es (ending.Read bytes) b
  bytes_came off len txn before after names clock old new into bytes r b reads came ends =
      let more : List Exchange = exchange (ask.End txn) ends.0 ∷ [] in
      range_read off len txn before after names clock old new into r more (ending.Read bytes) b reads
      (subst (λ (x : Result (List ℕ) Reply). AfterRange told shown store txn x (point new after names clock) more (ending.Read bytes) b) (sym came)
      (ends.0, refl, ends.1, refl))

  -- a page of it did not come
  pub page_missed : (off len txn : ℕ) (before after : StoreShown) (names : NamesShown) (clock : ClockShown) (old new : Client D g) (into : List ℕ) (r : ReadAt)
      (x : Reply) (e : Ending) → RangeReads told shown store before after old new txn off len into r → bytes_read r into ≡ Err x → e ≡ ending_of false x
      → (es : List Exchange) × RangeIsRead told shown store off len txn (point old before names clock) es e (point new after names clock)
  page_missed off len txn before after names clock old new into r x e reads missed is =
      range_read off len txn before after names clock old new into r [] e (point new after names clock) reads
      (subst (λ (y : Result (List ℕ) Reply). AfterRange told shown store txn y (point new after names clock) [] e (point new after names clock)) (sym missed)
      (refl, is, refl))

  after_talks : (txn : ℕ) (r : Result (List ℕ) Reply) (mid : Point D g) (more : List Exchange) (e : Ending) (b : Point D g)
      → AfterRange told shown store txn r mid more e b → Talks told shown store mid more b
  after_talks txn (Ok bytes) mid more e b after =
      subst (λ (xs : List Exchange). Talks told shown store mid xs b) (sym after.1) (single mid b (exchange (ask.End txn) after.0) after.2)
  after_talks txn (Err r) mid more e b after = nothing more mid b after.0 after.2

  range_talks : (off len txn : ℕ) (a : Point D g) (es : List Exchange) (e : Ending) (b : Point D g)
      → RangeIsRead told shown store off len txn a es e b → Talks told shown store a es b
  range_talks off len txn a es e b read =
      subst (λ (xs : List Exchange). Talks told shown store a xs b) (sym read.joined)
      (join read.first read.more a read.mid b read.talks (after_talks txn (bytes_read read.read read.into) read.mid read.more e b read.after))

  begun_talks : (off len : ℕ) (o : Option ℕ) (begun : Reply) (mid : Point D g) (more : List Exchange) (e : Ending) (b : Point D g)
      → MatchOption o ((more ≡ []) × (e ≡ ending_of false begun) × (b ≡ mid)) (λ txn. RangeIsRead told shown store off len txn mid more e b)
      → Talks told shown store mid more b
  begun_talks off len None begun mid more e b after = nothing more mid b after.0 after.2
  begun_talks off len (Some txn) begun mid more e b after = range_talks off len txn mid more e b after

  database_talks : (db : List ℕ) (off len : ℕ) (a : Point D g) (es : List Exchange) (e : Ending) (b : Point D g)
      → DatabaseIsRead told shown store db off len a es e b → Talks told shown store a es b
  database_talks db off len a es e b read =
      subst (λ (xs : List Exchange). Talks told shown store a xs b) (sym read.joined)
      (read.mid, read.begins, begun_talks off len (txn_of read.begun) read.begun read.mid read.more e b read.after)

  pub was_read : (db : List ℕ) (off len : ℕ) (e : Ending) (a b : Point D g)
      → (es : List Exchange) × DatabaseIsRead told shown store db off len a es e b
      → Talked (DatabaseIsRead told shown store db off len) e a b
  was_read db off len e a b read = (read.0, database_talks db off len a read.0 e b read.1, read.1)

  -- the transaction did not begin
  pub not_begun : (db : List ℕ) (off len : ℕ) (begun : Reply) (e : Ending) (a b : Point D g)
      → Exchanged told shown store a (exchange (ask.Begin db) begun) b → txn_of begun ≡ None → e ≡ ending_of false begun
      → (es : List Exchange) × DatabaseIsRead told shown store db off len a es e b
  not_begun db off len begun e a b call none is = (
    exchange (ask.Begin db) begun ∷ [],
    record {
      begun = begun;
      more = [];
      joined = refl;
      mid = b;
      begins = call;
      after =
          subst (λ (o : Option ℕ). MatchOption o ((let xs : List Exchange = [] in xs ≡ []) × (e ≡ ending_of false begun) × (b ≡ b)) (λ txn. RangeIsRead told shown store off len txn b [] e b))
          (sym none) (refl, is, refl);
    },
  )

  -- it began, and a range was read
  pub begun_read : (db : List ℕ) (off len txn : ℕ) (begun : Reply) (e : Ending) (a mid b : Point D g)
      → Exchanged told shown store a (exchange (ask.Begin db) begun) mid → txn_of begun ≡ Some txn
      → (es : List Exchange) × RangeIsRead told shown store off len txn mid es e b
      → (es : List Exchange) × DatabaseIsRead told shown store db off len a es e b
  begun_read db off len txn begun e a mid b call some read = (
    exchange (ask.Begin db) begun ∷ read.0,
    record {
      begun = begun;
      more = read.0;
      joined = refl;
      mid = mid;
      begins = call;
      after =
          subst (λ (o : Option ℕ). MatchOption o ((read.0 ≡ []) × (e ≡ ending_of false begun) × (b ≡ mid)) (λ n. RangeIsRead told shown store off len n mid read.0 e b))
          (sym some) read.1;
    },
  )

  -- ---- an operation

  pub publishes : (o : Operation) (q : Ask) (r : Reply) (e : Ending) (a b : Point D g) → o ≡ op.Publish q
      → MakesAsks told shown store (λ es. PublishAsks q es r) a b → e ≡ ending_of false r → EndsTalk told shown store o e a b
  publishes o q r e a b operation made is = subst (λ (x : Operation). EndsTalk told shown store x e a b) (sym operation)
      (record { exchanges = made.exchanges; talks = made.talks; asks = (r, made.asks, is) })

  pub polls : (o : Operation) (r : Reply) (e : Ending) (a b : Point D g) → o ≡ op.Poll
      → MakesAsks told shown store (λ es. TaskAsks ask.Poll es r) a b → e ≡ ending_of false r → EndsTalk told shown store o e a b
  polls o r e a b operation made is = subst (λ (x : Operation). EndsTalk told shown store x e a b) (sym operation)
      (record { exchanges = made.exchanges; talks = made.talks; asks = (r, made.asks, is) })

  pub resolves : (o : Operation) (r : Reply) (e : Ending) (a b : Point D g) → o ≡ op.Resolve
      → MakesAsks told shown store (λ es. TaskAsks ask.Resolve es r) a b → e ≡ ending_of true r → EndsTalk told shown store o e a b
  resolves o r e a b operation made is = subst (λ (x : Operation). EndsTalk told shown store x e a b) (sym operation)
      (record { exchanges = made.exchanges; talks = made.talks; asks = (r, made.asks, is) })
