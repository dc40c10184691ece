-- The talk of a page's read: the read, and the step of the task that it starts, as exchanges.
use Rattle.std.proofs.Common.{◌∙◌, ℕ, List, [], ◌∷◌, ◌++◌, refl, ap, subst}
use Rattle.bcv_base.specs.Drawn.{NamesShown}
use Rattle.bcv_base.specs.Moments.{ClockShown}
use Rattle.bcv_disk.specs.DiskShown.{DiskShown, DiskTold}
use Rattle.bcv_ledger.specs.declared.ledger.Ledger.{Ledger}
use Rattle.bcv_machine.specs.Reading.{Fetches}
use Rattle.bcv_machine.specs.State as m
use Rattle.bcv_model.specs.declared.ask.Ask.TheVariants as ask
use Rattle.bcv_model.specs.declared.reply.Reply.{Reply}
use Rattle.bcv_store.specs.StoreShown.{StoreShown, StoreTold}
use Rattle.bcv_transaction.specs.Open.{Open}
use Rattle.bcv_client.specs.Events.{Locally}
use Rattle.bcv_client.specs.Falls.{FallsJob}
use Rattle.bcv_client.specs.FetchOver.{ClientFetches}
use Rattle.bcv_client.specs.RangeAsks.{exchange}
use Rattle.bcv_client.specs.RangeReads.{TalksAlone, point}
use Rattle.bcv_client.specs.Steps.{EndsJob}
use Rattle.bcv_client.specs.Talk.{Exchange, Exchanged, Point, Talks}
use Rattle.bcv_client.specs.TaskParts.{seen_access}
use Rattle.bcv_client.specs.TaskTaken.{CanStep, TaskOut}
use Rattle.bcv_client.specs.Transactions.{AsksPage, OnlyReading, pages_for}
use Rattle.bcv_client.specs.declared.client.Client.{Client}
use Rattle.bcv_client.specs.declared.job.Access.TheVariants as access
use Rattle.bcv_client.specs.declared.job.Job.{Job}
use Rattle.bcv_client.specs.declared.job.Job.TheVariants as job
use Rattle.bcv_client.proofs.AskNames.{page_named}
use Rattle.bcv_client.proofs.AskReplies.{no_causes, no_disk, no_names, page_inside}
use Rattle.bcv_client.proofs.AsksTaken.{locally_ask, step_ask}
use Rattle.bcv_client.proofs.Caching.{fetch_caches, step_caches}
use Rattle.bcv_client.proofs.CallFaults.{disk_from, fetch_causes, fetch_disk, quiet_disk}
use Rattle.bcv_client.proofs.CountsOn.{counts_asked, counts_still}
use Rattle.bcv_client.proofs.FallsCalls.{single_falls, unmoved_falls}
use Rattle.bcv_client.proofs.NumberSteps.{open_still, single_steps}
use Rattle.bcv_client.proofs.SlotsKept.{page_slots, steps_slots}

-- ---- talks

pub talks_join : {D : Type 0} {g : _} (told : DiskTold) (shown : D → DiskShown) (store : StoreTold) (a b c : Point D g) (es fs : List Exchange)
    → Talks told shown store a es b → Talks told shown store b fs c → Talks told shown store a (es ++ fs) c
talks_join told shown store a b c [] fs one two = subst (λ (p : Point _ _). Talks told shown store p fs c) one two
talks_join told shown store a b c (e ∷ es) fs one two = (one.0, one.1, talks_join told shown store one.0 b c es fs one.2 two)

module _ {D : Type 0} {g : _} (told : DiskTold) (shown : D → DiskShown) (store : StoreTold) where
  pub alone_join : (before between after : StoreShown) (old mid new : Client D g) (es fs : List Exchange)
      → TalksAlone told shown store before between old mid es → TalksAlone told shown store between after mid new fs
      → TalksAlone told shown store before after old new (es ++ fs)
  alone_join before between after old mid new es fs one two = λ names clock.
      talks_join told shown store (point old before names clock) (point mid between names clock) (point new after names clock) es fs (one names clock) (two names clock)

  pub alone_none : (before : StoreShown) (old : Client D g) → TalksAlone told shown store before before old old []
  alone_none before old = λ names clock. refl

  pub alone_one : (before after : StoreShown) (old new : Client D g) (e : Exchange)
      → ((names : NamesShown) (clock : ClockShown) → Exchanged told shown store (point old before names clock) e (point new after names clock))
      → TalksAlone told shown store before after old new (e ∷ [])
  alone_one before after old new e exchanged = λ names clock. (point new after names clock, exchanged names clock, refl)

  -- ---- a read

  -- the read of a page
  pub read_exchanged : (before : StoreShown) (names : NamesShown) (clock : ClockShown) (old new : Client D g) (n p : ℕ) (r : Reply) → OnlyReading old new
      → AsksPage m.ToRead old new n p (job.Fetch access.ToRead n p) r → Locally shown (λ s u t. Fetches m.ToRead s u n p r t) old new r
      → Exchanged told shown store (point old before names clock) (exchange (ask.Read n p) r) (point new before names clock)
  read_exchanged before names clock old new n p r only asks machine =
      let inside = page_inside m.ToRead old new n p (job.Fetch access.ToRead n p) r asks in
      let log = ap (λ (l : Ledger D g). l.log) only.ledger in
      record {
        same = record { id = only.id; taken = only.taken; slots = page_slots m.ToRead (pages_for old.ledger.databases n old.txns) old.txns new.txns n p asks.how asks.calls };
        disk = quiet_disk told shown old new r log (no_disk r inside);
        causes = no_causes before before names names clock clock r inside;
        asks =
            locally_ask told shown store before names clock old new r (ask.Read n p) refl refl (no_names r inside)
            (page_named old new m.ToRead access.ToRead n p r only asks) machine;
        falls = unmoved_falls told shown store before old new names only.id log;
        counted = counts_still before names clock;
        caches = record { quiet = refl; does = asks };
      }

  -- the step of a task that reads a page, which was taken out
  pub step_exchanged : (before after : StoreShown) (names : NamesShown) (clock : ClockShown) (old mid new : Client D g) (k n p : ℕ) (r : Reply)
      → TaskOut old mid k (job.Fetch access.ToRead n p) → CanStep mid (job.Fetch access.ToRead n p)
      → ClientFetches store before after mid new access.ToRead n p r
      → EndsJob told shown store before after mid new (job.Fetch access.ToRead n p) r → FallsJob told shown store before after mid new
      → Exchanged told shown store (point old before names clock) (exchange (ask.Step k) r) (point new after names clock)
  step_exchanged before after names clock old mid new k n p r out can fetches ends falls =
      let j : Job = job.Fetch access.ToRead n p in
      let only = fetches.fetches.only.reading in
      record {
        same = record {
          id = only.id ∙ out.only.id;
          taken = only.taken ∙ out.only.taken;
          slots = steps_slots (seen_access access.ToRead) (pages_for mid.ledger.databases n mid.txns) store before after n p fetches.how mid.txns new.txns fetches.fetches.steps ∙ ap (λ (o : Open). o.slots) out.only.txns;
        };
        disk = disk_from told shown old mid new r out.only.ledger (fetch_disk told shown store before after mid new access.ToRead n p r fetches);
        causes = fetch_causes told shown store before after names clock mid new access.ToRead n p r fetches;
        asks =
            step_ask told shown store before after names names clock clock old new k r
            (single_steps told shown store before after names clock old mid new k r j out (open_still old mid j out.only can) ends);
        falls = single_falls told shown store before after old mid new k names j out falls;
        counted = counts_asked before after names clock fetches.fetches.says.later;
        caches = record { quiet = tt; does = step_caches store before after old mid new.txns k j r out (fetch_caches store before after mid new access.ToRead n p r fetches) };
      }
