-- An ask that makes no request, draws no name and notes nothing answers no fault of store, disk, names or clock.
use Rattle.std.proofs.Common.{◌≡◌, ◌≢◌, ◌∙◌, ℕ, Bool, true, false, List, [], ◌∷◌, Option, Some, None, is_none, is_some, not, refl, sym, ap, subst}
use Rattle.bcv_base.specs.declared.id.Id16.{Id16}
use Rattle.bcv_base.specs.Drawn.{NamesShown}
use Rattle.bcv_base.specs.Moments.{ClockShown}
use Rattle.bcv_clientstate.specs.PartRefusals.{bad_commit, commit_reason_in, has_local_in, large_commit, part_view_in, revert_reason_in, runs_publication}
use Rattle.bcv_clientstate.specs.Parts.{LedgerParts, Parts}
use Rattle.bcv_clientstate.specs.StartRefusals.{resolve_reason, runs_all}
use Rattle.bcv_databases.specs.Catalog.{Catalog, View}
use Rattle.bcv_disk.specs.DiskShown.{DiskShown, DiskTold}
use Rattle.bcv_ledger.specs.LedgerNotes.{parts_in}
use Rattle.bcv_ledger.specs.LocalCalls.{CommitsFrom, LedgerCommits, LedgerReverts, RevertsFrom, fault_of}
use Rattle.bcv_ledger.specs.NoteEnds.{IsNoteFault}
use Rattle.bcv_ledger.specs.declared.ledger.Ledger.{Ledger}
use Rattle.bcv_machine.specs.State as m
use Rattle.bcv_model.specs.Commits.{writes_of}
use Rattle.bcv_model.specs.declared.ask.Commit.{Commit}
use Rattle.bcv_model.specs.declared.reply.Reply.{Reply}
use Rattle.bcv_model.specs.declared.reply.Reply.TheVariants as reply
use Rattle.bcv_slots.specs.declared.Slot.{Slot}
use Rattle.bcv_snapshot.specs.declared.look.Look.{Look}
use Rattle.bcv_snapshot.specs.declared.look.Look.TheVariants as look
use Rattle.bcv_store.specs.StoreShown.{StoreShown}
use Rattle.bcv_transaction.specs.declared.answers.Came.{Came}
use Rattle.bcv_transaction.specs.declared.answers.Came.TheVariants as came
use Rattle.bcv_transaction.specs.declared.answers.Freed.{Freed}
use Rattle.bcv_transaction.specs.declared.answers.Freed.TheVariants as freed
use Rattle.bcv_client.specs.AskCalls.{RepliesLook}
use Rattle.bcv_client.specs.CallFaults.{CallCauses, is_io_fault}
use Rattle.bcv_client.specs.ClientParts.{parts_of}
use Rattle.bcv_client.specs.NewTasks.{StartsDrawn, StartsPublication, StartsUnless}
use Rattle.bcv_client.specs.Shown.{ListsTable}
use Rattle.bcv_client.specs.TaskStarts.{OnlyTasks, StartsLast, StartsTask}
use Rattle.bcv_client.specs.Transactions.{AnswersPage, AsksPage, EndsTxn, came_reply, freed_reply}
use Rattle.bcv_client.specs.TxnBegins.{BeginsTxn, BeginsView}
use Rattle.bcv_client.specs.declared.client.Client.{Client}
use Rattle.bcv_client.specs.declared.job.Job.{Job}
use Rattle.bcv_client.proofs.AsksTaken.{first_is_reason, is_reason}

-- by what is answered
inside : (r x : Reply) → r ≡ x → is_io_fault x ≡ false → is_io_fault r ≡ false
inside r x is quiet = ap is_io_fault is ∙ quiet

-- ---- what that rules out

pub no_names : (r : Reply) → is_io_fault r ≡ false → r ≢ reply.NamesFault
no_names r quiet is = absurd (let e : true ≡ false = sym (ap is_io_fault is) ∙ quiet in cc)

pub no_disk : (r : Reply) → is_io_fault r ≡ false → r ≢ reply.DiskFault
no_disk r quiet is = absurd (let e : true ≡ false = sym (ap is_io_fault is) ∙ quiet in cc)

pub no_causes : (before after : StoreShown) (names later_names : NamesShown) (clock later_clock : ClockShown) (r : Reply) → is_io_fault r ≡ false
    → CallCauses before after names later_names clock later_clock r
no_causes before after names later_names clock later_clock reply.StoreFault quiet = absurd (let e : true ≡ false = quiet in cc)
no_causes before after names later_names clock later_clock reply.NamesFault quiet = absurd (let e : true ≡ false = quiet in cc)
no_causes before after names later_names clock later_clock reply.ClockFault quiet = absurd (let e : true ≡ false = quiet in cc)
no_causes before after names later_names clock later_clock (reply.Unknown id) quiet = absurd (let e : true ≡ false = quiet in cc)
no_causes before after names later_names clock later_clock _ quiet = tt

-- ---- reasons and starts

pub reason_inside : (r : Reply) → is_reason r ≡ true → is_io_fault r ≡ false
reason_inside reply.StoreFault is = absurd (let e : false ≡ true = is in cc)
reason_inside reply.DiskFault is = absurd (let e : false ≡ true = is in cc)
reason_inside reply.NamesFault is = absurd (let e : false ≡ true = is in cc)
reason_inside reply.ClockFault is = absurd (let e : false ≡ true = is in cc)
reason_inside (reply.Unknown id) is = absurd (let e : false ≡ true = is in cc)
reason_inside _ is = refl

last_inside : (old new : List (Slot Job)) (j : Job) (left : ℕ) (r : Reply) → StartsLast old new j left r → is_io_fault r ≡ false
last_inside old new j left reply.StoreFault starts = absurd starts
last_inside old new j left reply.DiskFault starts = absurd starts
last_inside old new j left reply.NamesFault starts = absurd starts
last_inside old new j left reply.ClockFault starts = absurd starts
last_inside old new j left (reply.Unknown id) starts = absurd starts
last_inside old new j left _ starts = refl

-- ---- transactions

came_inside : (c : Came) (old new : List (Slot Job)) (j : Job) (r : Reply) → AnswersPage (came_reply c) old new j r → is_io_fault r ≡ false
came_inside (came.Absent id) old new j r answers = last_inside old new j 1 r answers
came_inside (came.Page bytes) old new j r answers = inside r (reply.Page bytes.items) answers.0 refl
came_inside came.Held old new j r answers = inside r reply.Held answers.0 refl
came_inside came.CacheFull old new j r answers = inside r reply.CacheFull answers.0 refl
came_inside came.BadPage old new j r answers = inside r reply.BadPage answers.0 refl
came_inside came.NoTxn old new j r answers = inside r reply.NoTxn answers.0 refl
came_inside came.NoMemory old new j r answers = inside r reply.NoMemory answers.0 refl

pub page_inside : {D : Type 0} {g : _} (access : m.Access) (old new : Client D g) (n p : ℕ) (j : Job) (r : Reply) → AsksPage access old new n p j r → is_io_fault r ≡ false
page_inside access old new n p j r asks = came_inside asks.how old.tasks.items new.tasks.items j r asks.answers

freed_is : (how : Freed) → is_io_fault (freed_reply how) ≡ false
freed_is freed.Fine = refl
freed_is freed.NoTxn = refl
freed_is freed.BadPage = refl
freed_is freed.NotHeld = refl

pub freed_inside : (how : Freed) (r : Reply) → r ≡ freed_reply how → is_io_fault r ≡ false
freed_inside how r is = inside r (freed_reply how) is (freed_is how)

pub end_inside : {D : Type 0} {g : _} (old new : Client D g) (n : ℕ) (x : Option ℕ) (r : Reply) → EndsTxn old new n x r → is_io_fault r ≡ false
end_inside old new n None r ends = inside r reply.NoTxn ends.answers refl
end_inside old new n (Some set) r ends = inside r reply.Fine ends.answers refl

pub begin_inside : {D : Type 0} {g : _} (old new : Client D g) (o : Option View) (r : Reply) → BeginsTxn old new o r → is_io_fault r ≡ false
begin_inside {D = D} {g = g} old new None r begins = inside r reply.NoDatabase begins.0 refl
begin_inside {D = D} {g = g} old new (Some v) r begins = by r begins
  where
    by : (x : Reply) → BeginsView old new v x → is_io_fault x ≡ false
    by reply.StoreFault b = absurd b
    by reply.DiskFault b = absurd b
    by reply.NamesFault b = absurd b
    by reply.ClockFault b = absurd b
    by (reply.Unknown id) b = absurd b
    by _ b = refl

pub look_inside : (size : ℕ) (l : Look) (r : Reply) → RepliesLook size l r → is_io_fault r ≡ false
look_inside size look.BadPage r says = inside r reply.BadPage says refl
look_inside size look.NoTxn r says = inside r reply.NoTxn says refl
look_inside size look.NotHeld r says = inside r reply.NotHeld says refl
look_inside size (look.Page bytes) r says = by r says
  where
    by : (x : Reply) → RepliesLook size (look.Page bytes) x → is_io_fault x ≡ false
    by reply.StoreFault b = absurd b
    by reply.DiskFault b = absurd b
    by reply.NamesFault b = absurd b
    by reply.ClockFault b = absurd b
    by (reply.Unknown id) b = absurd b
    by _ b = refl
look_inside size look.Zeros r says = by r says
  where
    by : (x : Reply) → RepliesLook size look.Zeros x → is_io_fault x ≡ false
    by reply.StoreFault b = absurd b
    by reply.DiskFault b = absurd b
    by reply.NamesFault b = absurd b
    by reply.ClockFault b = absurd b
    by (reply.Unknown id) b = absurd b
    by _ b = refl

-- ---- commits, reverts and lists

pub commit_reason_is : {D : Type 0} {g : _} (old : Ledger D g) (db : List ℕ) (c : Commit) (why : Reply) → commit_reason_in (parts_in old) db (writes_of c) ≡ Some why → is_reason why ≡ true
commit_reason_is old db c why is =
    let l : LedgerParts = parts_in old in
    first_is_reason ((l.closed, reply.Closed) ∷ (is_none (part_view_in l db), reply.NoDatabase) ∷ (bad_commit (writes_of c) (part_view_in l db), reply.BadPage) ∷ (large_commit (writes_of c) (part_view_in l db), reply.TooLarge) ∷ []) why (refl, (refl, (refl, (refl, tt)))) is

pub revert_reason_is : {D : Type 0} {g : _} (old : Ledger D g) (busy : Bool) (db : List ℕ) (why : Reply) → revert_reason_in (parts_in old) busy db ≡ Some why → is_reason why ≡ true
revert_reason_is old busy db why is =
    let l : LedgerParts = parts_in old in
    first_is_reason ((l.closed, reply.Closed) ∷ (is_some l.kept.pending, reply.Pending) ∷ (busy, reply.Busy) ∷ (is_none (part_view_in l db), reply.NoDatabase) ∷ (not (has_local_in l db), reply.Nothing) ∷ []) why (refl, (refl, (refl, (refl, (refl, tt))))) is

note_not_names : (r : Reply) → IsNoteFault (fault_of r) → r ≢ reply.NamesFault
note_not_names r answers is = subst (λ (x : Reply). IsNoteFault (fault_of x)) is answers

pub commit_not_names : {D : Type 0} {g : _} (told : DiskTold) (shown : D → DiskShown) (old new : Ledger D g) (db : List ℕ) (c : Commit) (r : Reply) → LedgerCommits told shown old new db c r → r ≢ reply.NamesFault
commit_not_names told shown old new db c r commits = by (commit_reason_in (parts_in old) db (writes_of c)) refl commits
  where
    by : (why : Option Reply) → commit_reason_in (parts_in old) db (writes_of c) ≡ why → CommitsFrom told shown old new db c r why → r ≢ reply.NamesFault
    by None is does = note_not_names r does.ends.answers
    by (Some why) is does = no_names r (inside r why does.0 (reason_inside why (commit_reason_is old db c why is)))

pub revert_not_names : {D : Type 0} {g : _} (told : DiskTold) (shown : D → DiskShown) (old new : Ledger D g) (busy : Bool) (db : List ℕ) (r : Reply) → LedgerReverts told shown old new busy db r → r ≢ reply.NamesFault
revert_not_names told shown old new busy db r reverts = by (revert_reason_in (parts_in old) busy db) refl reverts
  where
    by : (why : Option Reply) → revert_reason_in (parts_in old) busy db ≡ why → RevertsFrom told shown old new db r why → r ≢ reply.NamesFault
    by None is does = note_not_names r does.ends.answers
    by (Some why) is does = no_names r (inside r why does.0 (reason_inside why (revert_reason_is old busy db why is)))

pub list_inside : (c : Catalog) (r : Reply) → ListsTable c r → is_io_fault r ≡ false
list_inside c reply.StoreFault lists = absurd lists
list_inside c reply.DiskFault lists = absurd lists
list_inside c reply.NamesFault lists = absurd lists
list_inside c reply.ClockFault lists = absurd lists
list_inside c (reply.Unknown id) lists = absurd lists
list_inside c _ lists = refl

-- ---- tasks

pub task_inside : {D : Type 0} {g : _} (old new : Client D g) (j : Job) (left : ℕ) (r : Reply) → StartsTask old new j left r → is_io_fault r ≡ false
task_inside old new j left r starts = last_inside old.tasks.items new.tasks.items j left r starts.tasks

pub resolve_inside : {D : Type 0} {g : _} (old new : Client D g) (j : Job) (r : Reply) → StartsUnless old new (resolve_reason (parts_of old)) j 1 r → is_io_fault r ≡ false
resolve_inside old new j r starts = by (resolve_reason (parts_of old)) refl starts
  where
    by : (why : Option Reply) → resolve_reason (parts_of old) ≡ why → StartsUnless old new why j 1 r → is_io_fault r ≡ false
    by None is does = task_inside old new j 1 r does
    by (Some why) is does =
        let p : Parts = parts_of old in
        inside r why does.0
        (reason_inside why (first_is_reason ((p.closed, reply.Closed) ∷ (runs_publication p, reply.Busy) ∷ (is_none p.kept.pending, reply.Nothing) ∷ (runs_all p, reply.TooMany) ∷ []) why (refl, (refl, (refl, (refl, tt)))) is))

-- ---- what stays

pub drawn_only : {D : Type 0} {g : _} (old new : Client D g) (before after : NamesShown) (id : Id16) (j : Job) (why : Option Reply) (r : Reply) → StartsDrawn old new before after id j why r → OnlyTasks old new
drawn_only old new before after id j (Some why) r does = does.1.only
drawn_only old new before after id j None (reply.Task n k) does = does.0.only
drawn_only old new before after id j None reply.NamesFault does = does.0.only
drawn_only old new before after id j None reply.NoMemory does = does.0.only
drawn_only old new before after id j None _ does = absurd does

pub unless_only : {D : Type 0} {g : _} (old new : Client D g) (why : Option Reply) (j : Job) (left : ℕ) (r : Reply) → StartsUnless old new why j left r → OnlyTasks old new
unless_only old new None j left r does = does.only
unless_only old new (Some why) j left r does = does.1.only

pub publication_only : {D : Type 0} {g : _} (shown : D → DiskShown) (Goes : Id16 → m.Side → m.Up → m.Side → Type 0) (old new : Client D g) (before after : NamesShown) (why : Option Reply) (make : Id16 → Job) (r : Reply)
    → StartsPublication shown Goes old new before after why make r → OnlyTasks old new
publication_only shown Goes old new before after why make r starts = drawn_only old new before after starts.id (make starts.id) why r starts.starts
