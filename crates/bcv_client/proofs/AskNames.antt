-- The names of a client after an ask that draws none are among those before it.
use Rattle.std.proofs.Common.{◌≡◌, ◌∙◌, ℕ, not, List, [], ◌∷◌, ◌++◌, Option, Some, None, refl, ap, subst}
use Rattle.std.proofs.lemmas.Option.{same_Some}
use Rattle.bcv_base.specs.declared.id.Id16.{Id16}
use Rattle.bcv_base.specs.Keyed.{keyed}
use Rattle.bcv_clientlaws.specs.OtherParts.{Includes}
use Rattle.bcv_clientlaws.proofs.OtherParts.{includes_all}
use Rattle.bcv_clientstate.specs.PartRefusals.{commit_reason_in, revert_reason_in, runs_publication}
use Rattle.bcv_clientstate.specs.Parts.{mine_of, names_of_job, names_of_pending}
use Rattle.bcv_clientstate.specs.StartRefusals.{resolve_reason}
use Rattle.bcv_databases.specs.Catalog.{Catalog, View, known_name}
use Rattle.bcv_databases.specs.Changes.{note_over}
use Rattle.bcv_databases.specs.declared.known.Known.{Known}
use Rattle.bcv_databases.specs.declared.database_view.CommitsAt.{CommitsAt}
use Rattle.bcv_disk.specs.DiskShown.{DiskShown, DiskTold}
use Rattle.bcv_ledger.specs.declared.ledger.Ledger.{Ledger}
use Rattle.bcv_ledger.specs.LedgerNotes.{parts_in}
use Rattle.bcv_ledger.specs.LocalCalls.{CommitsFrom, LedgerCommits, RevertsFrom, fault_of}
use Rattle.bcv_ledger.specs.NoteEnds.{kept_ended}
use Rattle.bcv_machine.specs.State as m
use Rattle.bcv_model.specs.declared.ask.Commit.{Commit}
use Rattle.bcv_model.specs.declared.kept.Kept.{Kept}
use Rattle.bcv_model.specs.declared.kept.Local.{Local}
use Rattle.bcv_model.specs.declared.note.Note.{Note}
use Rattle.bcv_model.specs.declared.note.Note.TheVariants as note
use Rattle.bcv_model.specs.declared.reply.Reply.{Reply}
use Rattle.bcv_model.specs.declared.reply.Reply.TheVariants as reply
use Rattle.bcv_model.specs.Commits.{writes_of}
use Rattle.bcv_model.specs.Notes.{after_note, kept_name}
use Rattle.bcv_slots.specs.declared.Slot.{Slot}
use Rattle.bcv_client.specs.ClientParts.{parts_of}
use Rattle.bcv_client.specs.LocalWrites.{ClientReverts, OnlyWrites}
use Rattle.bcv_client.specs.NewTasks.{StartsUnless}
use Rattle.bcv_client.specs.NewUploads.{upload_job, upload_job_with}
use Rattle.bcv_client.specs.TaskParts.{done_by}
use Rattle.bcv_client.specs.TaskStarts.{StartsLast, StartsTask}
use Rattle.bcv_client.specs.Transactions.{AnswersPage, AsksPage, EndsTxn, KeepsLedger, OnlyReading, OnlyTxns, came_reply, is_fetch_for}
use Rattle.bcv_client.specs.TxnBegins.{OnlyBegins}
use Rattle.bcv_client.specs.declared.client.Client.{Client}
use Rattle.bcv_client.specs.declared.job.Access.{Access}
use Rattle.bcv_client.specs.declared.job.Job.{Job}
use Rattle.bcv_client.specs.declared.job.Job.TheVariants as job
use Rattle.bcv_client.proofs.MyNames.{fewer_mine, named_by, named_same, named_unmoved, none_mine, pending_by, pending_was, slot_more_mine, slot_names, tasks_by, tasks_were}
use Rattle.bcv_client.proofs.TasksPut.{slot}

-- ---- what a commit notes

-- it leaves what is pending
note_pends : (db : List ℕ) (c : Commit) (l : Option Local) (w : Option Known) (k : Kept) (x : Note) → note_over db c l w ≡ Some x → (after_note k x).pending ≡ k.pending
note_pends db c (Some l) w k x is = subst (λ (y : Note). (after_note k y).pending ≡ k.pending) (same_Some (note.Committed db c) x is) refl
note_pends db c None (Some w) k x is = subst (λ (y : Note). (after_note k y).pending ≡ k.pending) (same_Some (note.First w.entry w.number w.block c) x is) refl
note_pends db c None None k x is = absurd (let e : None ≡ Some x = is in cc)

ended_pends : (fault : Option Reply) (k : Kept) (x : Note) → (after_note k x).pending ≡ k.pending → (kept_ended fault k x).pending ≡ k.pending
ended_pends None k x is = is
ended_pends (Some fault) k x is = refl

-- ---- each ask

module _ {D : Type 0} {g : _} (old new : Client D g) where
  abbrev own : List Id16
  own = mine_of (parts_of old)

  abbrev c : Catalog
  c = old.ledger.databases

  abbrev d : Catalog
  d = new.ledger.databases

  all : Includes own own
  all = includes_all own

  pub begin_named : OnlyBegins old new → Includes own (mine_of (parts_of new))
  begin_named only = named_same own old new all only.id (ap (λ (k : Kept). k.pending) only.databases.kept) (ap (λ x. x.items) only.tasks)

  pub free_named : OnlyTxns old new → Includes own (mine_of (parts_of new))
  free_named only = named_same own old new all only.reading.id (ap (λ (l : Ledger D g). l.databases.kept.pending) only.reading.ledger) (ap (λ x. x.items) only.tasks)

  last_named : (j : Job) (left : ℕ) (r : Reply) → Includes own (names_of_job (done_by c j)) → StartsLast old.tasks.items new.tasks.items j left r → Includes own (slot_names d new.tasks.items)
  last_named j left (reply.Task n k) names starts =
      tasks_by own old new all (old.tasks.items ++ slot n j ∷ []) starts.3 (slot_more_mine own c old.tasks.items (slot n j) (tasks_were own old new all) names)
  last_named j left reply.TooMany names starts = tasks_by own old new all old.tasks.items starts.1 (tasks_were own old new all)
  last_named j left reply.NoMemory names starts = tasks_by own old new all old.tasks.items starts (tasks_were own old new all)
  last_named j left _ names starts = absurd starts

  same_pending : (l : Ledger D g) → new.ledger ≡ l → l.databases.kept.pending ≡ c.kept.pending → Includes own (names_of_pending d.kept.pending)
  same_pending l is same = pending_by own old new all c.kept.pending (ap (λ (x : Ledger D g). x.databases.kept.pending) is ∙ same) (pending_was own old new all)

  pub start_named : (j : Job) (left : ℕ) (r : Reply) → Includes own (names_of_job (done_by c j)) → StartsTask old new j left r → Includes own (mine_of (parts_of new))
  start_named j left r names starts = named_by own old new all starts.only.id (same_pending old.ledger starts.only.ledger refl) (last_named j left r names starts.tasks)

  pub poll_named : (r : Reply) → StartsTask old new job.Poll 1 r → Includes own (mine_of (parts_of new))
  poll_named r starts = start_named job.Poll 1 r (none_mine own) starts

  pub resolve_named : (r : Reply) → StartsUnless old new (resolve_reason (parts_of old)) job.Resolve 1 r → Includes own (mine_of (parts_of new))
  resolve_named r starts = by (resolve_reason (parts_of old)) starts
    where
      by : (why : Option Reply) → StartsUnless old new why job.Resolve 1 r → Includes own (mine_of (parts_of new))
      by None does = start_named job.Resolve 1 r (none_mine own) does
      by (Some why) does = named_unmoved own old new all does.1

  pub page_named : (access : m.Access) (a : Access) (n p : ℕ) (r : Reply) → OnlyReading old new → AsksPage access old new n p (job.Fetch a n p) r → Includes own (mine_of (parts_of new))
  page_named access a n p r only asks = named_by own old new all only.id (same_pending old.ledger only.ledger refl) (by (came_reply asks.how) asks.answers)
    where
      by : (o : Option Reply) → AnswersPage o old.tasks.items new.tasks.items (job.Fetch a n p) r → Includes own (slot_names d new.tasks.items)
      by None answers = last_named (job.Fetch a n p) 1 r (none_mine own) answers
      by (Some x) answers = tasks_by own old new all old.tasks.items answers.1 (tasks_were own old new all)

  pub end_named : (n : ℕ) (x : Option ℕ) (r : Reply) → KeepsLedger old new → EndsTxn old new n x r → Includes own (mine_of (parts_of new))
  end_named n x r keeps ends =
      named_by own old new all keeps.id (pending_by own old new all c.kept.pending (ap (λ (k : Kept). k.pending) keeps.kept) (pending_was own old new all)) (by x ends)
    where
      by : (o : Option ℕ) → EndsTxn old new n o r → Includes own (slot_names d new.tasks.items)
      by None e = tasks_by own old new all old.tasks.items (ap (λ y. y.items) e.only.tasks) (tasks_were own old new all)
      by (Some set) e =
          tasks_by own old new all _ e.tasks (fewer_mine own c (λ (s : Slot Job). not (is_fetch_for n s.item)) old.tasks.items (tasks_were own old new all))

  pub commit_named : (told : DiskTold) (shown : D → DiskShown) (db : List ℕ) (commit : Commit) (r : Reply) → OnlyWrites old new → LedgerCommits told shown old.ledger new.ledger db commit r
      → Includes own (mine_of (parts_of new))
  commit_named told shown db commit r only commits = named_same own old new all only.id (by (commit_reason_in (parts_in old.ledger) db (writes_of commit)) commits) only.tasks
    where
      by : (why : Option Reply) → CommitsFrom told shown old.ledger new.ledger db commit r why → d.kept.pending ≡ c.kept.pending
      by None x =
          ap (λ (k : Kept). k.pending) x.ends.kept
          ∙ ended_pends (fault_of r) c.kept x.note (note_pends db commit (keyed kept_name db c.kept.locals) (keyed known_name db c.known) c.kept x.note x.is_note)
      by (Some why) x = ap (λ (k : Catalog). k.kept.pending) x.1.databases

  pub revert_named : (told : DiskTold) (shown : D → DiskShown) (db : List ℕ) (r : Reply) → OnlyWrites old new → ClientReverts told shown old new db r → Includes own (mine_of (parts_of new))
  revert_named told shown db r only reverts =
      named_same own old new all only.id (ap (λ (k : Kept). k.pending) reverts.views.kept ∙ by (revert_reason_in (parts_in old.ledger) (runs_publication (parts_of old)) db) reverts.reverts) only.tasks
    where
      by : (why : Option Reply) → RevertsFrom told shown old.ledger reverts.mid db r why → reverts.mid.databases.kept.pending ≡ c.kept.pending
      by None x = ap (λ (k : Kept). k.pending) x.ends.kept ∙ ended_pends (fault_of r) c.kept (note.Revert db) refl
      by (Some why) x = ap (λ (k : Catalog). k.kept.pending) x.1.databases

-- ---- an upload that starts

-- it has no name but the drawn one
pub upload_named : (c : Catalog) (writer : Id16) (v : Option View) (id : Id16) → Includes (id ∷ []) (names_of_job (done_by c (upload_job c writer v id)))
upload_named c writer None id = none_mine (id ∷ [])
upload_named c writer (Some v) id = by v.commits
  where
    by : (o : Option CommitsAt) → Includes (id ∷ []) (names_of_job (done_by c (upload_job_with c writer v o id)))
    by None = none_mine (id ∷ [])
    by (Some at) = includes_all (id ∷ [])
