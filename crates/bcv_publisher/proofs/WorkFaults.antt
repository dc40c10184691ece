-- A publication that ends by a fault before its put ends as in the machine, whether it is pending or not.
use Rattle.std.proofs.Common.{◌≡◌, ◌≢◌, ◌∙◌, ℕ, Bool, true, false, List, length, Option, Some, None, IsSome, IfSome, inl, inr, refl, sym, ap, subst}
use Rattle.std.proofs.lemmas.Bool.{false≢true}
use Rattle.bcv_base.specs.declared.id.Id16.{Id16}
use Rattle.bcv_base.specs.declared.log.Entry.{Entry}
use Rattle.bcv_base.specs.declared.outcome.Outcome.{Outcome}
use Rattle.bcv_base.specs.declared.outcome.Outcome.TheVariants as outcome
use Rattle.bcv_base.specs.History.{Item, history_of}
use Rattle.bcv_base.specs.HistoryLaws.{id_eq-self}
use Rattle.bcv_base.specs.Ids.{IsId, id_eq}
use Rattle.bcv_base.specs.Image.{Writes}
use Rattle.bcv_cache.specs.Entry as cache
use Rattle.bcv_clientlaws.specs.FaultEnds.{EndsVoided, IsToBeVoided, side_with}
use Rattle.bcv_clientlaws.proofs.FaultsEnd.{ends, read_fails_voided, read_finds_fault_voided, read_finds_none_voided, request_fails_voided, request_finds_gone_voided}
use Rattle.bcv_clientlaws.proofs.OtherParts.{tasks_fit}
use Rattle.bcv_clientlog.specs.LogParts.{is_shut}
use Rattle.bcv_clientstate.specs.CheckLaws.{fault_reply}
use Rattle.bcv_clientstate.specs.Fits.{Fits}
use Rattle.bcv_clientstate.specs.Journaled.{Journaled, free_failed, free_noted}
use Rattle.bcv_clientstate.specs.PartRefusals.{runs_publication}
use Rattle.bcv_clientstate.specs.Parts.{Parts, mine_of, with_ledger}
use Rattle.bcv_clientstate.specs.SeenClient.{Free, has_intent, seen_up}
use Rattle.bcv_clientstate.proofs.WorkSides.{read_fails, read_finds_fault, read_finds_none, request_fails, request_finds_gone}
use Rattle.bcv_dbmap.specs.declared.fault.EditFault.{EditFault}
use Rattle.bcv_disk.specs.DiskShown.{DiskShown, DiskTold}
use Rattle.bcv_ledger.specs.declared.ledger.Ledger.{Ledger}
use Rattle.bcv_ledger.specs.Begins.{WaitsFor}
use Rattle.bcv_ledger.specs.LedgerNotes.{parts_in}
use Rattle.bcv_ledger.specs.NoteEnds.{NoteEnds}
use Rattle.bcv_machine.specs.ManifestGet.{GetsManifest, IsFound}
use Rattle.bcv_machine.specs.MiddleStep.{GoesOn, IsGone, after_request}
use Rattle.bcv_machine.specs.Noting.{FaultEnds}
use Rattle.bcv_machine.specs.State as m
use Rattle.bcv_model.specs.declared.kept.PendingPub.{PendingPub}
use Rattle.bcv_model.specs.declared.note.Note.TheVariants as note
use Rattle.bcv_model.specs.declared.reply.Reply.{Reply}
use Rattle.bcv_model.specs.declared.reply.Reply.TheVariants as reply
use Rattle.bcv_model.specs.NoteRules.{IsPendingAs, MayEnd}
use Rattle.bcv_publication.specs.TaskSides.{MayStep, job_of, seen_task, with_job}
use Rattle.bcv_tasks.specs.declared.publish_task.PublishTask.{PublishTask}
use Rattle.bcv_tasks.specs.declared.publish_task.PublishTask.TheVariants as task
use Rattle.bcv_tasks.specs.State.{IsRunning, id_of, pending_of}
use Rattle.bcv_publisher.specs.PutStep.{Armed}
use Rattle.bcv_publisher.specs.Settles.{reply_by}
use Rattle.bcv_publisher.specs.WorkEnds.{EndsBy}
use Rattle.bcv_publisher.proofs.PutEnds.{same_parts}

-- ---- what is left by a fault

-- the client after a task ended by a fault, where this is pending
abbrev pub Ended : Option PendingPub → Parts → Free → Reply → Reply → Parts → Free → Type 0
Ended None p f fault r after free = (r ≡ fault) × (after ≡ p) × (free ≡ f)
Ended (Some x) p f fault r after free = EndsVoided p f x.id fault r after free

-- a task that may end was taken out; where something is pending, it is its publication
abbrev pub IsToEnd : List Entry → List cache.Entry → Parts → m.Publication → Option PendingPub → Type 0
IsToEnd log entries p q None = q.intended ≡ false
IsToEnd log entries p q (Some x) = IsToBeVoided log entries p x q

as_ended : (P : Reply → Parts → Free → Type 0) (fault r : Reply) (p after : Parts) (f free : Free) → r ≡ fault → after ≡ p → free ≡ f → P fault p f → P r after free
as_ended P fault r p after f free er ea ef h =
    subst (λ (y : Reply). P y after free) (sym er) (subst (λ (a : Parts). P fault a free) (sym ea) (subst (λ (x : Free). P fault p x) (sym ef) h))

module _ (c : m.Container) (log : List Entry) (entries : List cache.Entry) (p : Parts) (f : Free) (q : m.Publication) where
  abbrev past : List Item
  past = history_of log

  -- the manifest's get ends the publication
  abbrev pub GetEnds : Outcome → Reply → Parts → Free → Type 0
  GetEnds o r after free = GetsManifest (side_with c past p f) (seen_up past p) q o r (side_with c past after free) None

  -- so does a request for a block
  abbrev pub RequestEnds : Outcome → Reply → Parts → Free → Type 0
  RequestEnds o r after free = GoesOn (side_with c past p f) (seen_up past p) q o r (side_with (after_request o q c) past after free) None

  pub get_fails : (w : Option PendingPub) → IsToEnd log entries p q w → (o : Outcome) → (o ≡ outcome.Ok → ⊥) → (r : Reply) (after : Parts) (free : Free)
      → Ended w p f reply.StoreFault r after free → GetEnds o r after free
  get_fails None is o not r after free how =
      as_ended (GetEnds o) reply.StoreFault r p after f free how.0 how.1 how.2 (read_fails q o (side_with c past p f) (seen_up past p) is not)
  get_fails (Some x) is o not r after free how = read_fails_voided c log entries p after f free x q o r is not how

  pub get_finds_fault : (w : Option PendingPub) → IsToEnd log entries p q w → (e : EditFault) → IsFound c q (m.last_version c) (fault_reply e) → (r : Reply) (after : Parts) (free : Free)
      → Ended w p f (fault_reply e) r after free → GetEnds outcome.Ok r after free
  get_finds_fault None is e found r after free how =
      as_ended (GetEnds outcome.Ok) (fault_reply e) r p after f free how.0 how.1 how.2 (read_finds_fault q e (side_with c past p f) (seen_up past p) is found)
  get_finds_fault (Some x) is e found r after free how = read_finds_fault_voided c log entries p after f free x q e r is found how

  pub get_finds_none : (w : Option PendingPub) → IsToEnd log entries p q w → IsFound c q (m.last_version c) reply.NoContainer → (r : Reply) (after : Parts) (free : Free)
      → Ended w p f reply.NoContainer r after free → GetEnds outcome.Ok r after free
  get_finds_none None is found r after free how =
      as_ended (GetEnds outcome.Ok) reply.NoContainer r p after f free how.0 how.1 how.2 (read_finds_none q (side_with c past p f) (seen_up past p) is found)
  get_finds_none (Some x) is found r after free how = read_finds_none_voided c log entries p after f free x q r is found how

  -- nothing is there to be cleaned up
  quietly : (intended : Bool) → intended ≡ false → (q.intended ≡ intended) → IsFound c q (m.last_version c) (reply.Cleaned 0 false) → GetEnds outcome.Ok (reply.Cleaned 0 false) p f
  quietly true quiet is found = absurd (false≢true (sym quiet))
  quietly false quiet is found =
      ((reply.Cleaned 0 false, found, subst (λ (b : Bool). FaultEnds b (side_with c past p f) (seen_up past p) (reply.Cleaned 0 false) (reply.Cleaned 0 false) (side_with c past p f)) (sym is) (refl, refl)), refl)

  pub get_finds_nothing : (w : Option PendingPub) → IsToEnd log entries p q w → IsFound c q (m.last_version c) (reply.Cleaned 0 false) → (r : Reply) (after : Parts) (free : Free)
      → Ended w p f (reply.Cleaned 0 false) r after free → GetEnds outcome.Ok r after free
  get_finds_nothing None is found r after free how =
      as_ended (GetEnds outcome.Ok) (reply.Cleaned 0 false) r p after f free how.0 how.1 how.2 (quietly q.intended is refl found)
  get_finds_nothing (Some x) is found r after free (inl e) =
      subst (λ (y : Reply). GetEnds outcome.Ok y after free) (sym e.0)
      ((reply.Cleaned 0 false, found, ends c log entries p f x q is (reply.Cleaned 0 false) (λ t e. (refl, e)) (reply.Cleaned 0 false) after free (inl (refl, e.1, e.2))), refl)
  get_finds_nothing (Some x) is found r after free (inr e) =
      subst (λ (y : Reply). GetEnds outcome.Ok y after free) (sym e.0)
      ((reply.Cleaned 0 false, found, ends c log entries p f x q is (reply.Cleaned 0 false) (λ t e. (refl, e)) reply.DiskFault after free (inr (refl, e.1, e.2, e.3))), refl)

  pub request_ends : (w : Option PendingPub) → IsToEnd log entries p q w → (o : Outcome) → (o ≡ outcome.Ok → ⊥) → (r : Reply) (after : Parts) (free : Free)
      → Ended w p f reply.StoreFault r after free → RequestEnds o r after free
  request_ends None is o not r after free how =
      as_ended (RequestEnds o) reply.StoreFault r p after f free how.0 how.1 how.2 (request_fails q o (side_with c past p f) (seen_up past p) is not)
  request_ends (Some x) is o not r after free how = request_fails_voided c log entries p after f free x q o r is not how

  pub request_is_gone : (w : Option PendingPub) → IsToEnd log entries p q w → IsGone c q.kind q.left → (r : Reply) (after : Parts) (free : Free)
      → Ended w p f reply.Gone r after free → RequestEnds outcome.Ok r after free
  request_is_gone None is gone r after free how =
      as_ended (RequestEnds outcome.Ok) reply.Gone r p after f free how.0 how.1 how.2 (request_finds_gone q (side_with c past p f) (seen_up past p) is gone)
  request_is_gone (Some x) is gone r after free how = request_finds_gone_voided c log entries p after f free x q r is gone how

-- ---- the client without its task

module _ (log : List Entry) (entries : List cache.Entry) (p : Parts) (n : ℕ) (view : List Writes) (t : PublishTask) (may : MayStep log p entries n view t) where
  pub rest_fits : Fits p entries log
  rest_fits = tasks_fit (mine_of (with_job n (job_of view t) p)) log (with_job n (job_of view t) p) entries p.tasks may.fits may.fits.tasks.1 may.fits.staged.1

  pub is_id : IsId (id_of t)
  is_id = by t may.running may.fits
    where
      by : (t : PublishTask) → IsRunning t → Fits (with_job n (job_of view t) p) entries log → IsId (id_of t)
      by (task.Create c) running fits = fits.tasks.0.1
      by (task.Copy id s) running fits = subst IsId (sym running.0) fits.tasks.0.1.is_id
      by (task.Upload id s) running fits = subst IsId (sym running.0) fits.tasks.0.1.is_id
      by (task.Cleanup id s) running fits = subst IsId (sym running.0) fits.tasks.0.1.is_id

-- a task has its intent where it is the pending one
intended_is : (w : Option PendingPub) (view : List Writes) (t : PublishTask) → IsRunning t → (seen_task w view t).intended ≡ has_intent w (id_of t)
intended_is w view (task.Create c) running = refl
intended_is w view (task.Copy id s) running = ap (has_intent w) (sym running.0)
intended_is w view (task.Upload id s) running = ap (has_intent w) (sym running.0)
intended_is w view (task.Cleanup id s) running = ap (has_intent w) (sym running.0)

pub to_end : (log : List Entry) (entries : List cache.Entry) (p : Parts) (n : ℕ) (view : List Writes) (t : PublishTask) → MayStep log p entries n view t → runs_publication p ≡ false
    → (w : Option PendingPub) → p.kept.pending ≡ w → IsToEnd log entries p (seen_task p.kept.pending view t) w
to_end log entries p n view t may alone None none = intended_is p.kept.pending view t may.running ∙ ap (λ (o : Option PendingPub). has_intent o (id_of t)) none
to_end log entries p n view t may alone (Some x) some =
    let same : x ≡ pending_of (length view) t = subst (λ (o : Option PendingPub). WaitsFor o (pending_of (length view) t)) some may.waits in
    let same_id : x.id ≡ id_of t = ap (λ (y : PendingPub). y.id) same in
    record {
      sound = may.sound;
      fits = rest_fits log entries p n view t may;
      quiet = alone;
      pending = some;
      is_id = subst IsId (sym same_id) (is_id log entries p n view t may);
      intended =
          intended_is p.kept.pending view t may.running ∙ ap (λ (o : Option PendingPub). has_intent o (id_of t)) some
          ∙ ap (λ (i : Id16). id_eq i (id_of t)) same_id ∙ id_eq-self (id_of t);
    }

-- ---- the note of the void

module _ {D : Type 0} {g : _} (told : DiskTold) (shown : D → DiskShown) (old new : Ledger D g) (p : Parts) (u : PublishTask) (tells : told.tells) (is_open : is_shut old.log ≡ false) where
  abbrev here : Parts
  here = with_ledger (parts_in old) p

  abbrev next : Parts
  next = with_ledger (parts_in new) p

  -- what a task that ends by a fault leaves, in the machine's words where memory was found
  pub record Leaves (w : Option PendingPub) (fault r : Reply) (f : Free) : Type 0 where
    pub free : Free
    pub slots : free.slots ≡ f.slots
    pub journaled : Journaled shown new.log new.databases.kept free
    pub ended : r ≢ reply.NoMemory → Ended w here f fault r next free

  by_void : (x : PendingPub) (fault r : Reply) (f : Free) → Journaled shown old.log old.databases.kept f → MayEnd old.databases.kept x.id
      → (end : Option Reply) → NoteEnds told shown old new (note.Void x.id) old.databases.known end → end ≢ Some reply.JournalFull → r ≡ reply_by end fault
      → Armed r f → Leaves (Some x) fault r f
  by_void x fault r f journaled may None ends room is armed = record {
    free = free_noted 17 f;
    slots = refl;
    journaled = ends.goes tells may f journaled m.Voiding refl;
    ended = λ memory. inl (is, same_parts p (is_shut new.log) (is_shut old.log) new.databases.kept _ new.databases.known old.databases.known (ends.shut ∙ sym is_open) ends.kept ends.knows, refl);
  }
  by_void x fault r f journaled may (Some reply.DiskFault) ends room is armed = record {
    free = free_failed 17 m.Voiding f;
    slots = refl;
    journaled = ends.goes tells may f journaled m.Voiding refl;
    ended = λ memory. inr (
      is,
      subst (λ (y : Reply). Armed y f) is armed,
      same_parts p (is_shut new.log) true new.databases.kept old.databases.kept new.databases.known old.databases.known ends.shut ends.kept ends.knows,
      refl,
    );
  }
  by_void x fault r f journaled may (Some reply.NoMemory) ends room is armed =
      record { free = f; slots = refl; journaled = ends.goes tells may f journaled m.Voiding refl; ended = λ memory. absurd (memory is) }
  by_void x fault r f journaled may (Some reply.JournalFull) ends room is armed = absurd (room refl)
  by_void x fault r f journaled may (Some _) ends room is armed = absurd ends.answers

  pub fault_leaves : (w : Option PendingPub) → old.databases.kept.pending ≡ w → IfSome w (λ x. x.id ≡ id_of u) → IsSome old.databases.kept.me → IsId (id_of u)
      → (fault r : Reply) → EndsBy told shown old new u w fault r
      → (f : Free) → Journaled shown old.log old.databases.kept f → Armed r f → Leaves w fault r f
  fault_leaves None none waits named an_id fault r ends f journaled armed = record {
    free = f;
    slots = refl;
    journaled = subst (λ (l : Ledger D g). Journaled shown l.log l.databases.kept f) (sym ends.0) journaled;
    ended = λ memory. (ends.1, ap (λ (l : Ledger D g). with_ledger (parts_in l) p) ends.0, refl);
  }
  fault_leaves (Some x) some waits named an_id fault r ends f journaled armed =
      by_void x fault r f journaled
      (record { named = named; is_id = subst IsId (sym waits) an_id; waits = subst (λ (o : Option PendingPub). IsPendingAs o x.id) (sym some) refl })
      ends.fault (subst (λ (i : Id16). NoteEnds told shown old new (note.Void i) old.databases.known ends.fault) (sym waits) ends.ends) ends.room ends.is armed
