-- Which faults the calls of a client answer: of the disk where it failed, and of the store, the names and the clock where they did.
use Rattle.std.proofs.Common.{◌≡◌, ◌≢◌, ◌∙◌, ℕ, Bool, true, false, List, inl, inr, Option, Some, None, Err, refl, sym, ap, subst}
use Rattle.std.proofs.lemmas.Option.{same_Some}
use Rattle.bcv_base.specs.declared.clock.Now.{Now}
use Rattle.bcv_base.specs.declared.clock.Now.TheVariants as now
use Rattle.bcv_base.specs.declared.id.Id16.{Id16}
use Rattle.bcv_base.specs.Drawn.{NamesShown}
use Rattle.bcv_base.specs.Faults.{Rose}
use Rattle.bcv_base.specs.Moments.{ClockShown}
use Rattle.bcv_cleanup.specs.Released.{RuleAnswers}
use Rattle.bcv_clientlog.specs.LogParts.{log_disk}
use Rattle.bcv_clientlog.specs.declared.log.ClientLog.{ClientLog}
use Rattle.bcv_clientstate.specs.PartRefusals.{commit_reason_in, revert_reason_in, runs_publication}
use Rattle.bcv_clientstate.specs.StartRefusals.{start_reason}
use Rattle.bcv_disk.specs.Calls.{DiskFails-as, DiskFails-none}
use Rattle.bcv_disk.specs.DiskCalls.{DiskFails}
use Rattle.bcv_disk.specs.DiskShown.{DiskShown, DiskTold}
use Rattle.bcv_ledger.specs.LedgerNotes.{parts_in}
use Rattle.bcv_ledger.specs.LocalCalls.{CommitsFrom, LedgerCommits, LedgerReverts, RevertsFrom, fault_of}
use Rattle.bcv_ledger.specs.NoteEnds.{IsNoteFault}
use Rattle.bcv_ledger.specs.declared.ledger.Ledger.{Ledger}
use Rattle.bcv_machine.specs.State as m
use Rattle.bcv_model.specs.Commits.{writes_of}
use Rattle.bcv_model.specs.declared.ask.Commit.{Commit}
use Rattle.bcv_model.specs.declared.kept.PendingPub.{PendingPub}
use Rattle.bcv_model.specs.declared.reply.Reply.{Reply}
use Rattle.bcv_model.specs.declared.reply.Reply.TheVariants as reply
use Rattle.bcv_publish.specs.declared.work.Work.{Work}
use Rattle.bcv_publisher.specs.PutStep.{PutStepLeaves, UnknownCause}
use Rattle.bcv_publisher.specs.ResolveStep.{ResolveLeaves}
use Rattle.bcv_publisher.specs.PollStep.{PollLeaves, PollStep}
use Rattle.bcv_publisher.specs.Settles.{reply_by}
use Rattle.bcv_publisher.specs.WorkEnds.{EndsBy}
use Rattle.bcv_publisher.specs.WorkStep.{IsReplyTo, WorkCauses}
use Rattle.bcv_store.specs.StoreShown.{StoreShown, StoreTold}
use Rattle.bcv_tasks.specs.declared.publish_task.PublishTask.{PublishTask}
use Rattle.bcv_tasks.specs.State.{pending_of}
use Rattle.bcv_transaction.specs.declared.answers.Stepped.{Stepped}
use Rattle.bcv_transaction.specs.declared.answers.Stepped.TheVariants as stepped
use Rattle.bcv_transaction.specs.StepCalls.{StepSays}
use Rattle.bcv_client.specs.CallFaults.{CallCauses, DiskFailsAs, is_io_fault}
use Rattle.bcv_client.specs.ClientParts.{parts_of}
use Rattle.bcv_client.specs.FetchOver.{ClientFetches, stepped_reply}
use Rattle.bcv_client.specs.LocalWrites.{ClientReverts}
use Rattle.bcv_client.specs.NewTasks.{StartsDrawn, StartsPublication}
use Rattle.bcv_client.specs.PublicationPut.{ClientPuts, PutsBy, signed}
use Rattle.bcv_client.specs.ResolveOver.{ClientResolves}
use Rattle.bcv_client.specs.TaskRequests.{ClientWorks}
use Rattle.bcv_client.specs.TaskTaken.{TakesTask}
use Rattle.bcv_client.specs.declared.client.Client.{Client}
use Rattle.bcv_client.specs.declared.job.Access.{Access}
use Rattle.bcv_client.specs.declared.job.Job.{Job}
use Rattle.bcv_client.proofs.AskReplies.{commit_reason_is, no_causes, no_disk, publication_only, reason_inside, revert_reason_is}
use Rattle.bcv_client.proofs.AsksTaken.{is_reason, start_is_reason}
use Rattle.bcv_client.proofs.PutUntimed.{reply_is}

-- ---- answers

fault_is : (r : Reply) → fault_of r ≡ Some reply.DiskFault → r ≡ reply.DiskFault
fault_is reply.Fine is = absurd (let e : None ≡ Some reply.DiskFault = is in cc)
fault_is r is = same_Some r reply.DiskFault is

noted : (told : DiskTold) (r : Reply) (a b : DiskShown) → DiskFails told a b (fault_of r ≡ Some reply.DiskFault) → DiskFails told a b (r ≡ reply.DiskFault)
noted told r a b fails = DiskFails-as told a b (λ is. ap fault_of is) (fault_is r) fails

refused : (r why : Reply) → r ≡ why → is_reason why ≡ true → r ≢ reply.DiskFault
refused r why is reason same = no_disk why (reason_inside why reason) (sym is ∙ same)

stepped_is : (s : Stepped) → stepped_reply s ≢ reply.DiskFault
stepped_is (stepped.Page bytes) e = absurd (cc)
stepped_is stepped.Held e = absurd (cc)
stepped_is stepped.CacheFull e = absurd (cc)
stepped_is stepped.BadPage e = absurd (cc)
stepped_is stepped.NoTxn e = absurd (cc)
stepped_is stepped.Gone e = absurd (cc)
stepped_is (stepped.BadBlock len) e = absurd (cc)
stepped_is stepped.StoreFault e = absurd (cc)
stepped_is stepped.NoMemory e = absurd (cc)

-- the answer of a publication that no moment was read for
voided : (told : DiskTold) (a b : DiskShown) (fault : Option Reply) (r : Reply) → r ≡ reply_by fault reply.ClockFault → DiskFails told a b (fault ≡ Some reply.DiskFault) → DiskFails told a b (r ≡ reply.DiskFault)
voided told a b fault r is fails =
    DiskFails-as told a b (λ same. as_fault fault (sym is ∙ same)) (λ same. is ∙ ap (λ (x : Option Reply). reply_by x reply.ClockFault) same) fails
  where
    as_fault : (x : Option Reply) → reply_by x reply.ClockFault ≡ reply.DiskFault → x ≡ Some reply.DiskFault
    as_fault None e = absurd (let f : reply.ClockFault ≡ reply.DiskFault = e in cc)
    as_fault (Some y) e = ap (λ (z : Reply). Some z) e

fetched_causes : (store : StoreTold) (before after : StoreShown) (names : NamesShown) (clock : ClockShown) (s : Stepped) → StepSays store before after s → CallCauses before after names names clock clock (stepped_reply s)
fetched_causes store before after names clock stepped.StoreFault says = says.failed refl
fetched_causes store before after names clock _ says = tt

-- a step before a put knows what became of it
worked : (made : Work) (before after : StoreShown) (names later_names : NamesShown) (clock later_clock : ClockShown) (r : Reply) → IsReplyTo r made
    → WorkCauses before after names later_names clock later_clock r → CallCauses before after names later_names clock later_clock r
worked made before after names later_names clock later_clock (reply.Unknown id) is causes = absurd is
worked made before after names later_names clock later_clock _ is causes = causes

-- ---- the disk

module _ {D : Type 0} {g : _} (told : DiskTold) (shown : D → DiskShown) where
  -- the log is as it was, and no fault of the disk is answered
  pub quiet_disk : (old new : Client D g) (r : Reply) → new.ledger.log ≡ old.ledger.log → r ≢ reply.DiskFault → DiskFailsAs told shown old new r
  quiet_disk old new r same other =
      subst (λ (l : ClientLog D _). DiskFails told (shown (log_disk old.ledger.log)) (shown (log_disk l)) (r ≡ reply.DiskFault)) (sym same)
      (DiskFails-none told (shown (log_disk old.ledger.log)) other)

  -- the log is as it was before a call, or after it
  pub disk_from : (old mid new : Client D g) (r : Reply) → mid.ledger ≡ old.ledger → DiskFailsAs told shown mid new r → DiskFailsAs told shown old new r
  disk_from old mid new r same fails =
      subst (λ (l : Ledger D g). DiskFails told (shown (log_disk l.log)) (shown (log_disk new.ledger.log)) (r ≡ reply.DiskFault)) same fails

  pub disk_then : (old new : Client D g) (log : ClientLog D _) (r : Reply) → new.ledger.log ≡ log → DiskFails told (shown (log_disk old.ledger.log)) (shown (log_disk log)) (r ≡ reply.DiskFault)
      → DiskFailsAs told shown old new r
  disk_then old new log r same fails =
      subst (λ (l : ClientLog D _). DiskFails told (shown (log_disk old.ledger.log)) (shown (log_disk l)) (r ≡ reply.DiskFault)) (sym same) fails

  -- ---- commits and reverts

  pub commit_disk : (old new : Client D g) (db : List ℕ) (c : Commit) (r : Reply) → LedgerCommits told shown old.ledger new.ledger db c r → DiskFailsAs told shown old new r
  commit_disk old new db c r commits = by (commit_reason_in (parts_in old.ledger) db (writes_of c)) refl commits
    where
      by : (why : Option Reply) → commit_reason_in (parts_in old.ledger) db (writes_of c) ≡ why → CommitsFrom told shown old.ledger new.ledger db c r why → DiskFailsAs told shown old new r
      by None is does = noted told r (shown (log_disk old.ledger.log)) (shown (log_disk new.ledger.log)) does.ends.fails
      by (Some why) is does = quiet_disk old new r does.1.log (refused r why does.0 (commit_reason_is old.ledger db c why is))

  pub revert_disk : (old new : Client D g) (db : List ℕ) (r : Reply) → ClientReverts told shown old new db r → DiskFailsAs told shown old new r
  revert_disk old new db r reverts = by (revert_reason_in (parts_in old.ledger) (runs_publication (parts_of old)) db) refl reverts.reverts
    where
      by : (why : Option Reply) → revert_reason_in (parts_in old.ledger) (runs_publication (parts_of old)) db ≡ why → RevertsFrom told shown old.ledger reverts.mid db r why
          → DiskFailsAs told shown old new r
      by None is does =
          disk_then old new reverts.mid.log r reverts.views.log (noted told r (shown (log_disk old.ledger.log)) (shown (log_disk reverts.mid.log)) does.ends.fails)
      by (Some why) is does =
          quiet_disk old new r (reverts.views.log ∙ does.1.log) (refused r why does.0 (revert_reason_is old.ledger (runs_publication (parts_of old)) db why is))

  -- ---- steps

  pub fetch_disk : (store : StoreTold) (before after : StoreShown) (old new : Client D g) (access : Access) (txn page : ℕ) (r : Reply)
      → ClientFetches store before after old new access txn page r → DiskFailsAs told shown old new r
  fetch_disk store before after old new access txn page r fetches =
      quiet_disk old new r (ap (λ (l : Ledger D g). l.log) fetches.fetches.only.reading.ledger) (λ is. stepped_is fetches.how (sym fetches.answers ∙ is))

  pub poll_disk : (store : StoreTold) (before after : StoreShown) (old new : Client D g) (r : Reply)
      → PollStep store before after old.ledger new.ledger old.seen new.seen old.latest new.latest r → DiskFailsAs told shown old new r
  poll_disk store before after old new r polls =
      quiet_disk old new r polls.log
      (λ is. subst (λ (x : Reply). PollLeaves old.ledger.databases.kept old.ledger.databases.known new.ledger.databases.known old.seen new.seen old.latest new.latest x) is polls.leaves)

  pub resolve_disk : (store : StoreTold) (before after : StoreShown) (old new : Client D g) (r : Reply) → ClientResolves told shown store before after old new r → DiskFailsAs told shown old new r
  resolve_disk store before after old new r resolves = disk_then old new resolves.mid.log r resolves.views.log resolves.resolves.disk

  pub work_disk : (answers : RuleAnswers) (store : StoreTold) (before after : StoreShown) (names later_names : NamesShown) (clock later_clock : ClockShown) (old new : Client D g) (set : ℕ) (t : PublishTask) (r : Reply)
      (u : PublishTask) → ClientWorks told shown answers store before after names later_names clock later_clock old new set t r u → DiskFailsAs told shown old new r
  work_disk answers store before after names later_names clock later_clock old new set t r u (inl works) = works.step.disk
  work_disk answers store before after names later_names clock later_clock old new set t r u (inr nothing) =
      quiet_disk old new r (ap (λ (l : Ledger D g). l.log) nothing.ledger)
      (λ is. absurd (let e : reply.NoMemory ≡ reply.DiskFault = sym nothing.memory ∙ is in cc))

  untimed : (old new : Client D g) (t : PublishTask) (r : Reply) (w : Option PendingPub) → EndsBy told shown old.ledger new.ledger t w reply.ClockFault r → DiskFailsAs told shown old new r
  untimed old new t r None ends =
      quiet_disk old new r (ap (λ (l : Ledger D g). l.log) ends.0) (λ is. absurd (let e : reply.ClockFault ≡ reply.DiskFault = sym ends.1 ∙ is in cc))
  untimed old new t r (Some x) ends = voided told (shown (log_disk old.ledger.log)) (shown (log_disk new.ledger.log)) ends.fault r ends.is ends.ends.fails

  pub put_disk : (store : StoreTold) (before after : StoreShown) (clock later_clock : ClockShown) (old new : Client D g) (set taken : ℕ) (t : PublishTask) (r : Reply) (u : PublishTask)
      → ClientPuts told shown store before after clock later_clock old new set taken t r u → DiskFailsAs told shown old new r
  put_disk store before after clock later_clock old new set taken t r u puts = by puts.read puts.by
    where
      by : (now : Now) → PutsBy told shown store before after old new set taken (signed old.id t) r u now → DiskFailsAs told shown old new r
      by (now.At moment) step = disk_then old new step.mid.log r step.views.log step.puts.disk
      by now.Failed step = untimed old new (signed old.id t) r old.ledger.databases.kept.pending step.ends

-- a task that there is not, or that has ended
pub taken_inside : {D : Type 0} {g : _} (old mid : Client D g) (n : ℕ) (r : Reply) → TakesTask old mid n (Err r) → is_io_fault r ≡ false
taken_inside old mid n reply.NoTask takes = refl
taken_inside old mid n reply.Closed takes = refl
taken_inside old mid n _ takes = absurd takes

-- ---- the store, the names and the clock

module _ {D : Type 0} {g : _} (told : DiskTold) (shown : D → DiskShown) (store : StoreTold) (before after : StoreShown) where
  pub fetch_causes : (names : NamesShown) (clock : ClockShown) (old new : Client D g) (access : Access) (txn page : ℕ) (r : Reply) → ClientFetches store before after old new access txn page r
      → CallCauses before after names names clock clock r
  fetch_causes names clock old new access txn page r fetches =
      subst (λ (x : Reply). CallCauses before after names names clock clock x) (sym fetches.answers) (fetched_causes store before after names clock fetches.how fetches.fetches.says)

  pub poll_causes : (names : NamesShown) (clock : ClockShown) (old new : Client D g) (r : Reply) → PollStep store before after old.ledger new.ledger old.seen new.seen old.latest new.latest r
      → CallCauses before after names names clock clock r
  poll_causes names clock old new r polls = by r polls.leaves polls.failed
    where
      by : (x : Reply) → PollLeaves old.ledger.databases.kept old.ledger.databases.known new.ledger.databases.known old.seen new.seen old.latest new.latest x
          → (x ≡ reply.StoreFault → Rose before.faults after.faults) → CallCauses before after names names clock clock x
      by reply.StoreFault leaves failed = failed refl
      by reply.NamesFault leaves failed = absurd leaves
      by reply.ClockFault leaves failed = absurd leaves
      by (reply.Unknown id) leaves failed = absurd leaves
      by _ leaves failed = tt

  pub resolve_causes : (names : NamesShown) (clock : ClockShown) (old new : Client D g) (r : Reply) → ClientResolves told shown store before after old new r → CallCauses before after names names clock clock r
  resolve_causes names clock old new r resolves = by r resolves.resolves.leaves resolves.resolves.failed
    where
      by : (x : Reply) → ResolveLeaves old.ledger resolves.mid resolves.resolves.pending.id x → (x ≡ reply.StoreFault → Rose before.faults after.faults) → CallCauses before after names names clock clock x
      by reply.StoreFault leaves failed = failed refl
      by reply.NamesFault leaves failed = absurd leaves
      by reply.ClockFault leaves failed = absurd leaves
      by (reply.Unknown id) leaves failed = absurd leaves
      by _ leaves failed = tt

  -- a step of a publication
  pub work_causes : (answers : RuleAnswers) (names later_names : NamesShown) (clock later_clock : ClockShown) (old new : Client D g) (set : ℕ) (t : PublishTask) (r : Reply) (u : PublishTask)
      → ClientWorks told shown answers store before after names later_names clock later_clock old new set t r u → CallCauses before after names later_names clock later_clock r
  work_causes answers names later_names clock later_clock old new set t r u (inl works) = worked works.step.made before after names later_names clock later_clock r works.step.is_reply works.step.causes
  work_causes answers names later_names clock later_clock old new set t r u (inr nothing) =
      subst (λ (x : Reply). CallCauses before after names later_names clock later_clock x) (sym nothing.memory) tt

  pub put_causes : (names : NamesShown) (clock later_clock : ClockShown) (old new : Client D g) (set taken : ℕ) (t : PublishTask) (r : Reply) (u : PublishTask)
      → ClientPuts told shown store before after clock later_clock old new set taken t r u → CallCauses before after names names clock later_clock r
  put_causes names clock later_clock old new set taken t r u puts = by puts.read puts.by
    where
      put : (l : Ledger D g) (v : PublishTask) (moment : ℕ) (x : Reply) → PutStepLeaves old.ledger l old.seen (pending_of taken v) v moment x u → UnknownCause before.faults after.faults x → CallCauses before after names names clock later_clock x
      put l v moment reply.StoreFault leaves unknown = absurd leaves
      put l v moment reply.NamesFault leaves unknown = absurd leaves
      put l v moment reply.ClockFault leaves unknown = absurd leaves
      put l v moment (reply.Unknown id) leaves unknown = unknown
      put l v moment _ leaves unknown = tt

      by : (now : Now) → PutsBy told shown store before after old new set taken (signed old.id t) r u now → CallCauses before after names names clock later_clock r
      by (now.At moment) step = put step.mid (signed old.id t) moment r step.puts.leaves step.puts.unknown
      by now.Failed step =
          reply_is told shown old.ledger new.ledger (signed old.id t) r
          (λ (x : Reply). (x ≡ reply.ClockFault → Rose clock.faults later_clock.faults) → CallCauses before after names names clock later_clock x) (λ cause. cause refl) (λ cause. tt) (λ cause. tt) (λ cause. tt)
          old.ledger.databases.kept.pending step.ends puts.cause

-- ---- commits, reverts and starts

module _ (before after : StoreShown) (names later_names : NamesShown) (clock later_clock : ClockShown) where
  abbrev Causes : Reply → Type 0
  Causes r = CallCauses before after names later_names clock later_clock r

  note_causes : (r : Reply) → IsNoteFault (fault_of r) → Causes r
  note_causes reply.StoreFault answers = absurd answers
  note_causes reply.NamesFault answers = absurd answers
  note_causes reply.ClockFault answers = absurd answers
  note_causes (reply.Unknown id) answers = absurd answers
  note_causes _ answers = tt

  reason_causes : (r why : Reply) → r ≡ why → is_reason why ≡ true → Causes r
  reason_causes r why is reason = subst Causes (sym is) (no_causes before after names later_names clock later_clock why (reason_inside why reason))

  pub commit_causes : {D : Type 0} {g : _} (told : DiskTold) (shown : D → DiskShown) (old new : Ledger D g) (db : List ℕ) (c : Commit) (r : Reply) → LedgerCommits told shown old new db c r → Causes r
  commit_causes told shown old new db c r commits = by (commit_reason_in (parts_in old) db (writes_of c)) refl commits
    where
      by : (why : Option Reply) → commit_reason_in (parts_in old) db (writes_of c) ≡ why → CommitsFrom told shown old new db c r why → Causes r
      by None is does = note_causes r does.ends.answers
      by (Some why) is does = reason_causes r why does.0 (commit_reason_is old db c why is)

  pub revert_causes : {D : Type 0} {g : _} (told : DiskTold) (shown : D → DiskShown) (old new : Ledger D g) (busy : Bool) (db : List ℕ) (r : Reply) → LedgerReverts told shown old new busy db r → Causes r
  revert_causes told shown old new busy db r reverts = by (revert_reason_in (parts_in old) busy db) refl reverts
    where
      by : (why : Option Reply) → revert_reason_in (parts_in old) busy db ≡ why → RevertsFrom told shown old new db r why → Causes r
      by None is does = note_causes r does.ends.answers
      by (Some why) is does = reason_causes r why does.0 (revert_reason_is old busy db why is)

-- a start that draws a name
module _ {D : Type 0} {g : _} (old new : Client D g) (before after : NamesShown) (id : Id16) (j : Job) where
  drawn_not_disk : (why : Option Reply) (r : Reply) → ((x : Reply) → why ≡ Some x → is_reason x ≡ true) → StartsDrawn old new before after id j why r → r ≢ reply.DiskFault
  drawn_not_disk None r reason starts is = subst (λ (x : Reply). StartsDrawn old new before after id j None x) is starts
  drawn_not_disk (Some why) r reason starts is = no_disk why (reason_inside why (reason why refl)) (sym starts.0 ∙ is)

  drawn_causes : (store : StoreShown) (clock : ClockShown) (why : Option Reply) (r : Reply) → ((x : Reply) → why ≡ Some x → is_reason x ≡ true) → StartsDrawn old new before after id j why r
      → CallCauses store store before after clock clock r
  drawn_causes store clock (Some why) r reason starts = reason_causes store store before after clock clock r why starts.0 (reason why refl)
  drawn_causes store clock None reply.NamesFault reason starts = starts.1.cause.1
  drawn_causes store clock None reply.StoreFault reason starts = absurd starts
  drawn_causes store clock None reply.ClockFault reason starts = absurd starts
  drawn_causes store clock None (reply.Unknown id) reason starts = absurd starts
  drawn_causes store clock None _ reason starts = tt

module _ {D : Type 0} {g : _} (shown : D → DiskShown) (Goes : Id16 → m.Side → m.Up → m.Side → Type 0) (old new : Client D g) (before after : NamesShown) (kind : m.Kind) (make : Id16 → Job) (r : Reply)
    (starts : StartsPublication shown Goes old new before after (start_reason (parts_of old) kind) make r) where
  pub start_disk : (told : DiskTold) → DiskFailsAs told shown old new r
  start_disk told =
      quiet_disk told shown old new r (ap (λ (l : Ledger D g). l.log) (publication_only shown Goes old new before after (start_reason (parts_of old) kind) make r starts).ledger)
      (drawn_not_disk old new before after starts.id (make starts.id) (start_reason (parts_of old) kind) r (start_is_reason (parts_of old) kind) starts.starts)

  pub start_causes : (store : StoreShown) (clock : ClockShown) → CallCauses store store before after clock clock r
  start_causes store clock =
      drawn_causes old new before after starts.id (make starts.id) store clock (start_reason (parts_of old) kind) r (start_is_reason (parts_of old) kind) starts.starts
