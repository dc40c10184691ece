-- The step of a publication at its put is the machine's, whatever fails.
use Rattle.std.proofs.Common.{◌≡◌, ◌≢◌, ◌∙◌, ◌+◌, ◌^◌, ◌<◌, ◌==◌, ℕ, Bool, true, false, cond, List, [], ◌∷◌, ◌++◌, append-nil, length, length-append, Option, Some, None, is_some, refl, sym, ap, subst, eqb-true, arith}
use Rattle.std.proofs.lemmas.Bool.{eq-eqb, ne_eqb}
use Rattle.std.specs.Cmp.{first_so, second_so}
use Rattle.bcv_base.specs.declared.id.Id16.{Id16}
use Rattle.bcv_base.specs.declared.log.Entry.{Entry}
use Rattle.bcv_base.specs.declared.manifest.Manifest.{Manifest}
use Rattle.bcv_base.specs.declared.outcome.Outcome.{Outcome}
use Rattle.bcv_base.specs.declared.outcome.Outcome.TheVariants as outcome
use Rattle.bcv_base.specs.declared.seen.Latest.{Latest}
use Rattle.bcv_base.specs.Faults.{Rose}
use Rattle.bcv_base.specs.History.{Item, history_of, last_of}
use Rattle.bcv_base.specs.Image.{Writes}
use Rattle.bcv_base.specs.Version.{Version}
use Rattle.bcv_base.specs.Versions.{version_of, versions_of}
use Rattle.bcv_cache.specs.Entry as cache
use Rattle.bcv_cleanup.specs.State as cleanup
use Rattle.bcv_clientlaws.specs.OtherParts.{Includes}
use Rattle.bcv_clientlaws.proofs.OtherParts.{others_leave_fits}
use Rattle.bcv_clientlog.specs.LogParts.{is_shut}
use Rattle.bcv_dbcopy.specs.State as copy
use Rattle.bcv_dbmap.specs.RequestGrowth.{RequestGrowth}
use Rattle.bcv_dbmap.proofs.OthersLaws.{others_keep_sound}
use Rattle.bcv_disk.specs.DiskShown.{DiskShown, DiskTold}
use Rattle.bcv_machine.specs.ManifestPut.{IsNext, IsRefused, PutsManifest, is_last_try, last_refusal, tried_again}
use Rattle.bcv_machine.specs.State as m
use Rattle.bcv_machine.specs.Step.{StepsPublication}
use Rattle.bcv_model.specs.declared.kept.Kept.{Kept}
use Rattle.bcv_model.specs.declared.kept.PendingPub.{PendingPub}
use Rattle.bcv_model.specs.declared.note.Note.TheVariants as note
use Rattle.bcv_model.specs.declared.reply.Reply.{Reply}
use Rattle.bcv_model.specs.declared.reply.Reply.TheVariants as reply
use Rattle.bcv_model.specs.NoteRules.{IsVersionNumber, MayEnd, MayStand}
use Rattle.bcv_model.specs.Notes.{after_note}
use Rattle.bcv_store.specs.StoreShown.{StoreShown, StoreTold}
use Rattle.bcv_tasks.specs.declared.publish_task.PublishTask.{PublishTask}
use Rattle.bcv_tasks.specs.declared.publish_task.PublishTask.TheVariants as task
use Rattle.bcv_tasks.specs.declared.put_answer.PutAnswer.{PutAnswer}
use Rattle.bcv_tasks.specs.declared.put_answer.PutAnswer.TheVariants as answer
use Rattle.bcv_tasks.specs.State.{IsRunning, id_of, is_ready, latest_of, left_of, pending_of, with_publish}
use Rattle.bcv_tasks.specs.TaskPut.{Appends, AnswersPut, IsPassed, IsStillLast, PutLeaves, TaskPuts}
use Rattle.bcv_publish.specs.State as publish
use Rattle.bcv_upload.specs.State as upload
use Rattle.bcv_clientstate.specs.Journaled.{Journaled, free_failed, free_noted}
use Rattle.bcv_clientstate.specs.KnownLaws.{known_of}
use Rattle.bcv_clientstate.specs.Parts.{Parts, mine_of, with_ledger}
use Rattle.bcv_clientstate.specs.SeenClient.{Free, read_number, seen_up, side_of}
use Rattle.bcv_clientstate.specs.SeenContainer.{container_of}
use Rattle.bcv_databases.specs.declared.known.Known.{Known}
use Rattle.bcv_ledger.specs.declared.ledger.Ledger.{Ledger}
use Rattle.bcv_ledger.specs.Begins.{BeginGoes, Begins, free_intended, free_untried}
use Rattle.bcv_ledger.specs.LedgerNotes.{parts_in}
use Rattle.bcv_ledger.specs.NoteEnds.{EndGoes, NoteEnds, ShutAfter}
use Rattle.bcv_publication.specs.PutExits.{PutsTo}
use Rattle.bcv_publication.specs.PutSides.{Appended, AreKnownAt, Tried, published, shut, voided, waiting}
use Rattle.bcv_publication.specs.TaskSides.{IsLastAnswer, MayStep, done_answer, job_of, number_read, seen_task, with_job}
use Rattle.bcv_publication.proofs.PutExits.{done_meets_fault, intent_meets_fault, intent_meets_full, put_failed, put_is_done, put_is_lost, put_is_refused, put_is_void, refusal_is_lost, void_meets_fault}
use Rattle.bcv_publication.proofs.TaskSides.{done_is_answered, done_is_known, passed_is_refused, refusal_is_answered, refused_is_tried_again, still_is_next, task_is_appended, task_is_tried}
use Rattle.bcv_publisher.specs.PutStep.{Armed, PutSays, StepGoes, version_added}

-- ---- parts and tasks

pub same_parts : (p : Parts) (a b : Bool) (j k : Kept) (ks ls : List Known) → a ≡ b → j ≡ k → ks ≡ ls
    → record p { closed = a; kept = j; known = ks } ≡ record p { closed = b; kept = k; known = ls }
same_parts p a b j k ks ls closed kept known =
    ap (λ (c : Bool). record p { closed = c; kept = j; known = ks }) closed ∙ ap (λ (k : Kept). record p { closed = b; kept = k; known = ks }) kept
    ∙ ap (λ (ls : List Known). record p { closed = b; kept = k; known = ls }) known

some_kept : (o : Option Latest) → is_some o ≡ true → read_number o ≡ Some (number_read o)
some_kept None h = absurd (cc)
some_kept (Some l) h = refl

-- a task that is ready has its put left alone, over what it read
read_is : (before : Option PendingPub) (view : List Writes) (t : PublishTask) → IsRunning t → is_ready t ≡ true → (seen_task before view t).read ≡ Some (number_read (latest_of t))
read_is before view (task.Create c) running ready = ap (λ (o : Option Latest). Some (number_read o)) (sym running.waits)
read_is before view (task.Copy id s) running ready = some_kept s.publish.latest (first_so (is_some s.publish.latest) (copy.left_of s == 1) ready)
read_is before view (task.Upload id s) running ready = some_kept s.publish.latest (first_so (is_some s.publish.latest) (upload.left_of s == 1) ready)
read_is before view (task.Cleanup id s) running ready = some_kept s.publish.latest (first_so (is_some s.publish.latest) (cleanup.left_of s == 1) ready)

left_is : (before : Option PendingPub) (view : List Writes) (t : PublishTask) → is_ready t ≡ true → (seen_task before view t).left ≡ 1
left_is before view (task.Create c) ready = refl
left_is before view (task.Copy id s) ready = eqb-true (copy.left_of s) 1 (second_so (is_some s.publish.latest) (copy.left_of s == 1) ready)
left_is before view (task.Upload id s) ready = eqb-true (upload.left_of s) 1 (second_so (is_some s.publish.latest) (upload.left_of s == 1) ready)
left_is before view (task.Cleanup id s) ready = eqb-true (cleanup.left_of s) 1 (second_so (is_some s.publish.latest) (cleanup.left_of s == 1) ready)

pub id_with : (t : PublishTask) (q : publish.State) (b : Bool) → id_of (with_publish t q b) ≡ id_of t
id_with (task.Create c) q b = refl
id_with (task.Copy id s) q b = refl
id_with (task.Upload id s) q b = refl
id_with (task.Cleanup id s) q b = refl

pub done_with : (t : PublishTask) (q : publish.State) (b : Bool) (n : ℕ) → done_answer (with_publish t q b) n ≡ done_answer t n
done_with (task.Create c) q b n = refl
done_with (task.Copy id s) q b n = refl
done_with (task.Upload id s) q b n = refl
done_with (task.Cleanup id s) q b n = refl

pub latest_with : (t : PublishTask) (q : publish.State) (b : Bool) → latest_of (with_publish t q b) ≡ q.latest
latest_with (task.Create c) q b = refl
latest_with (task.Copy id s) q b = refl
latest_with (task.Upload id s) q b = refl
latest_with (task.Cleanup id s) q b = refl

-- ---- answers

pub record WasPublished (n : ℕ) (o : Outcome) (number : Option ℕ) (last : Option Manifest) (read : Option Latest) : Type 0 where
  pub done : o ≡ outcome.Ok
  pub is : number ≡ Some n
  pub still : IsStillLast last read

pub was_published : (n : ℕ) (o : Outcome) (number : Option ℕ) (last : Option Manifest) (read : Option Latest) → AnswersPut (answer.Published n) o number last read → WasPublished n o number last read
was_published n outcome.Ok (Some k) last read h = record { done = refl; is = ap Some (sym h.0); still = h.1 }
was_published n outcome.Ok None last read h = absurd h
was_published n outcome.Fail number last read h = absurd h
was_published n outcome.Lost number last read h = absurd h

pub record WasPassed (o : Outcome) (number : Option ℕ) (last : Option Manifest) (read : Option Latest) : Type 0 where
  pub done : o ≡ outcome.Ok
  pub none : number ≡ None
  pub passed : IsPassed last read

pub was_refused : (o : Outcome) (number : Option ℕ) (last : Option Manifest) (read : Option Latest) → AnswersPut answer.Refused o number last read → WasPassed o number last read
was_refused outcome.Ok None last read h = record { done = refl; none = refl; passed = h }
was_refused outcome.Ok (Some k) last read h = absurd h
was_refused outcome.Fail number last read h = absurd h
was_refused outcome.Lost number last read h = absurd h

was_contended : (ns : List ℕ) (o : Outcome) (number : Option ℕ) (last : Option Manifest) (read : Option Latest) → AnswersPut (answer.Contended ns) o number last read → WasPassed o number last read
was_contended ns outcome.Ok None last read h = record { done = refl; none = refl; passed = h }
was_contended ns outcome.Ok (Some k) last read h = absurd h
was_contended ns outcome.Fail number last read h = absurd h
was_contended ns outcome.Lost number last read h = absurd h

was_there : (o : Outcome) (number : Option ℕ) (last : Option Manifest) (read : Option Latest) → AnswersPut answer.Exists o number last read → WasPassed o number last read
was_there outcome.Ok None last read h = record { done = refl; none = refl; passed = h }
was_there outcome.Ok (Some k) last read h = absurd h
was_there outcome.Fail number last read h = absurd h
was_there outcome.Lost number last read h = absurd h

-- ---- what is published

none_added : (past later : List Item) → later ≡ past → version_added past later ≡ None
none_added past later same =
    subst (λ (l : List Item). version_added past l ≡ None) (sym same)
    (ap (λ (b : Bool). cond b None (Some (m.version_count (container_of 0 past)))) (eq-eqb (m.version_count (container_of 0 past)) (m.version_count (container_of 0 past)) refl))

one_added : (past later : List Item) (v : Version) (n : ℕ) → versions_of later ≡ versions_of past ++ v ∷ [] → n ≡ length (versions_of past) + 1 → version_added past later ≡ Some n
one_added past later v n longer is =
    let long : length (versions_of later) ≡ length (versions_of past) + 1 = ap length longer ∙ length-append (versions_of past) (v ∷ []) in
    ap (λ (b : Bool). cond b None (Some (length (versions_of later)))) (ne_eqb (length (versions_of past)) (length (versions_of later)) (λ z. absurd (omega (arith, long, z))))
    ∙ ap Some (long ∙ sym is)

nothing_grown : (log others own after : List Entry) → after ≡ (log ++ others) ++ own → own ≡ [] → history_of after ≡ history_of (log ++ others)
nothing_grown log others own after grown none = ap history_of (grown ∙ ap (λ (es : List Entry). (log ++ others) ++ es) none ∙ append-nil (log ++ others))

-- the intent's note leaves the slots
intended_slots : (o : Option PendingPub) (x : PendingPub) (f : Free) → (free_intended o x f).slots ≡ f.slots
intended_slots None x f = refl
intended_slots (Some p) x f = refl

-- ---- the client's side

module _ {D : Type 0} {g : _} (told : DiskTold) (shown : D → DiskShown) (old : Ledger D g) (t : PublishTask) (before : StoreShown) (p : Parts) (entries : List cache.Entry) (n : ℕ) (view : List Writes)
    (mine : List Id16) (all : Includes mine (mine_of (with_job n (job_of view t) (with_ledger (parts_in old) p)))) (moment : ℕ) (tells : told.tells) (ready : is_ready t ≡ true) (is_open : is_shut old.log ≡ false)
    (may : MayStep before.log (with_ledger (parts_in old) p) entries n view t) where
  abbrev log : List Entry
  log = before.log

  abbrev pub here : Parts
  here = with_ledger (parts_in old) p

  abbrev pub x : PendingPub
  x = pending_of (length view) t

  abbrev pub q : m.Publication
  q = seen_task old.databases.kept.pending view t

  tried_now : Tried (history_of log) here q x
  tried_now = task_is_tried log here entries n view t may ready

  may_intend : old.databases.kept.pending ≡ None → MayStand old.databases.kept (note.Intent x)
  may_intend none = record { named = tried_now.named; is_id = tried_now.is_id; free = none; upload = tried_now.may_upload }

  -- the machine's put over a history is the step of the publication
  goes : (second : Bool) (past later then_later : List Item) (next then_next : Parts) (f free : Free) (o : Outcome) (number : Option ℕ) (r : Reply) (rest : Option m.Publication)
      → later ≡ then_later → next ≡ then_next → version_added past then_later ≡ number
      → PutsTo second moment past here f q (number_read (latest_of t)) o number r (side_of moment then_later then_next free) rest
      → StepGoes moment past later here next f free q o r rest
  goes second past later then_later next then_next f free o number r rest same_later same_next added puts = record {
    second = second;
    steps =
        subst (λ (l : ℕ). StepsPublication q.read l (side_of moment past here f) (seen_up past here) q o (record { published = version_added past later; reply = r }) second (side_of moment later next free) rest)
        (sym (left_is old.databases.kept.pending view t ready))
        (subst (λ (k : Option ℕ). StepsPublication k 1 (side_of moment past here f) (seen_up past here) q o (record { published = version_added past later; reply = r }) second (side_of moment later next free) rest)
        (sym (read_is old.databases.kept.pending view t may.running ready))
        (subst (λ (y : List Item). PutsManifest second (side_of moment past here f) (seen_up past here) q (number_read (latest_of t)) o (version_added past y) r (side_of moment y next free) rest)
        (sym same_later)
        (subst (λ (y : Parts). PutsManifest second (side_of moment past here f) (seen_up past here) q (number_read (latest_of t)) o (version_added past then_later) r (side_of moment then_later y free) rest)
        (sym same_next)
        (subst (λ (y : Option ℕ). PutsManifest second (side_of moment past here f) (seen_up past here) q (number_read (latest_of t)) o y r (side_of moment then_later then_next free) rest)
        (sym added) puts))));
  }

  -- ---- the intent did not come to stand

  abbrev none_grown : (store : StoreTold) → RequestGrowth store.alone mine log log
  none_grown store = record {
    others = [];
    none = λ a. refl;
    lawful = tt;
    own = [];
    one = omega arith;
    grown = sym (append-nil (log ++ []) ∙ append-nil log);
    own_lawful = λ theirs apart. tt;
    sound = may.sound;
  }

  -- before the put the log is as it was, but for a list of no others
  abbrev past_now : List Item
  past_now = history_of (log ++ [])

  tried_then : Tried past_now here q x
  tried_then = subst (λ (l : List Entry). Tried (history_of l) here q x) (sym (append-nil log)) tried_now

  unbegun : (new : Ledger D g) (fault : Reply) (f : Free) → Begins told shown old new x (Some fault) → Armed fault f
      → BeginGoes shown new.log new.databases.kept old.databases.kept.pending x f (Some fault) → ShutAfter (Some fault) (is_shut new.log)
      → (free : Free) × (free.slots ≡ f.slots) × Journaled shown new.log new.databases.kept free
      × (fault ≢ reply.NoMemory → (o : Outcome) → StepGoes moment past_now (history_of log) here (with_ledger (parts_in new) p) f free q o fault None)
  unbegun new reply.JournalFull f begins armed begun closed = (
    f,
    refl,
    begun.1,
    λ memory o. goes false past_now (history_of log) past_now (with_ledger (parts_in new) p) here f f o None reply.JournalFull None (ap history_of (sym (append-nil log)))
        (same_parts p (is_shut new.log) (is_shut old.log) new.databases.kept old.databases.kept new.databases.known old.databases.known (closed ∙ sym is_open) begins.kept begins.known)
        (none_added past_now past_now refl)
        (intent_meets_full moment past_now here f q x (number_read (latest_of t)) o tried_then begun.0 begun.2),
  )
  unbegun new reply.DiskFault f begins armed begun closed = (
    free_untried x f,
    refl,
    begun.1,
    λ memory o. goes false past_now (history_of log) past_now (with_ledger (parts_in new) p) (shut here) f (free_untried x f) o None reply.DiskFault None (ap history_of (sym (append-nil log)))
        (same_parts p (is_shut new.log) true new.databases.kept old.databases.kept new.databases.known old.databases.known closed begins.kept begins.known)
        (none_added past_now past_now refl)
        (intent_meets_fault moment past_now here f q x (number_read (latest_of t)) o tried_then begun.0 armed),
  )
  unbegun new reply.NoMemory f begins armed begun closed = (f, refl, begun.1, λ memory o. absurd (memory refl))
  unbegun new _ f begins armed begun closed = absurd begun

  -- nothing was done
  pub step_untouched : (store : StoreTold) → PutSays shown store mine before before old old here here moment q reply.NoMemory None
  step_untouched store = record {
    growth = none_grown store;
    made = false;
    request = outcome.Ok;
    planned = λ plans made. absurd (cc);
    unmade = λ made. refl;
    cause = λ memory made. absurd (cc);
    steps = λ f journaled armed. (f, refl, journaled, λ memory o made. absurd (memory refl));
  }

  pub step_unbegun : (store : StoreTold) (new : Ledger D g) (fault : Reply) → Begins told shown old new x (Some fault)
      → PutSays shown store mine before before old new here (with_ledger (parts_in new) p) moment q fault None
  step_unbegun store new fault begins = record {
    growth = none_grown store;
    made = false;
    request = outcome.Ok;
    planned = λ plans made. absurd (cc);
    unmade = λ made. refl;
    cause = λ memory made. absurd (cc);
    steps = λ f journaled armed.
        let u = unbegun new fault f begins armed (begins.goes tells may_intend f journaled) begins.shut in
        (u.0, u.1, u.2, λ memory o made. u.3 memory o);
  }

  -- ---- the put was made

  module _ (store : StoreTold) (after : StoreShown) (mid : Ledger D g) (begins : Begins told shown old mid x None) (u : PublishTask) (said : PutAnswer)
      (left : PutLeaves moment t said u) (puts : TaskPuts store mine before after view t moment said u)
      (unknown : said ≡ answer.Unknown → Rose before.faults after.faults) where
    abbrev others : List Entry
    others = puts.growth.others

    abbrev past : List Item
    past = history_of (log ++ puts.growth.others)

    abbrev later : List Item
    later = history_of after.log

    grown_may : MayStep (log ++ others) here entries n view t
    grown_may = record {
      sound = others_keep_sound mine log others may.sound puts.growth.lawful;
      fits = others_leave_fits mine log others (with_job n (job_of view t) here) entries may.sound all puts.growth.lawful may.fits;
      quiet = may.quiet;
      running = may.running;
      writer = may.writer;
      waits = may.waits;
      count = may.count;
    }

    tried : Tried past here q x
    tried = task_is_tried (log ++ others) here entries n view t grown_may ready

    mid_free : (f : Free) → Journaled shown old.log old.databases.kept f → Journaled shown mid.log mid.databases.kept (free_intended old.databases.kept.pending x f)
    mid_free f journaled = begins.goes tells may_intend f journaled

    mid_parts : with_ledger (parts_in mid) p ≡ waiting x here
    mid_parts =
        same_parts p (is_shut mid.log) (is_shut old.log) mid.databases.kept (record old.databases.kept { pending = Some x }) mid.databases.known old.databases.known
        (begins.shut ∙ sym is_open) begins.kept begins.known

    -- the step, where its relation is known
    says : (new : Ledger D g) (r : Reply) (rest : Option m.Publication) → (r ≢ reply.NoMemory → puts.outcome ≢ outcome.Ok → Rose before.faults after.faults)
        → ((f : Free) → Journaled shown old.log old.databases.kept f → Armed r f → (free : Free) × (free.slots ≡ f.slots) × Journaled shown new.log new.databases.kept free
        × (r ≢ reply.NoMemory → StepGoes moment past later here (with_ledger (parts_in new) p) f free q puts.outcome r rest))
        → PutSays shown store mine before after old new here (with_ledger (parts_in new) p) moment q r rest
    says new r rest cause steps = record {
      growth = puts.growth;
      made = true;
      request = puts.outcome;
      planned = λ plans made. puts.next plans;
      unmade = λ made. absurd (cc);
      cause = λ memory made failed. cause memory failed;
      steps = λ f journaled armed.
          let s = steps f journaled armed in
          (s.0, s.1, s.2, λ memory o is. subst (λ (y : Outcome). StepGoes moment past later here (with_ledger (parts_in new) p) f s.0 q y r rest) (sym (is refl)) (s.3 memory));
    }

    take : (second : Bool) (then_later : List Item) (new : Ledger D g) (next : Parts) (f free : Free) (o : Outcome) (number : Option ℕ) (r : Reply) (rest : Option m.Publication)
        → puts.outcome ≡ o → later ≡ then_later → with_ledger (parts_in new) p ≡ next → version_added past then_later ≡ number
        → PutsTo second moment past here f q (number_read (latest_of t)) o number r (side_of moment then_later next free) rest
        → StepGoes moment past later here (with_ledger (parts_in new) p) f free q puts.outcome r rest
    take second then_later new next f free o number r rest is same_later same_next added step =
        subst (λ (y : Outcome). StepGoes moment past later here (with_ledger (parts_in new) p) f free q y r rest) (sym is)
        (goes second past later then_later (with_ledger (parts_in new) p) next f free o number r rest same_later same_next added step)

    nothing : (number : Option ℕ) → puts.published ≡ number → number ≡ None → later ≡ past
    nothing number is none = nothing_grown log others puts.growth.own after.log puts.growth.grown (subst (Appends puts.growth.own puts.manifest) (is ∙ none) puts.appends)

    refused_at : IsPassed (last_of past) (latest_of t) → IsRefused (container_of moment past) (number_read (latest_of t))
    refused_at passed = passed_is_refused moment (log ++ others) (latest_of t) grown_may.sound passed

    -- what a version more is
    version_is : (k : ℕ) → puts.published ≡ Some k → IsStillLast (last_of past) (latest_of t) → Appended moment past later here q (version_of past puts.manifest)
    version_is k is still =
        task_is_appended moment (log ++ others) puts.growth.own after.log here entries n view t puts.manifest k grown_may ready still puts.brings puts.growth.grown
        (subst (Appends puts.growth.own puts.manifest) is puts.appends) puts.growth.sound

    number_is : (k : ℕ) → puts.published ≡ Some k → k ≡ puts.manifest.number
    number_is k is = (subst (Appends puts.growth.own puts.manifest) is puts.appends).0

    next_at : (k : ℕ) → puts.published ≡ Some k → IsStillLast (last_of past) (latest_of t) → IsNext (container_of moment past) (number_read (latest_of t)) k
    next_at k is still =
        subst (λ (j : ℕ). IsNext (container_of moment past) (number_read (latest_of t)) j) (sym (number_is k is))
        (still_is_next moment (log ++ others) t puts.manifest grown_may.sound may.running still puts.brings)

    added : (k : ℕ) → puts.published ≡ Some k → IsStillLast (last_of past) (latest_of t) → version_added past later ≡ Some k
    added k is still = one_added past later (version_of past puts.manifest) k (ap (λ (c : m.Container). c.versions) (version_is k is still).after) (next_at k is still).1

    -- it was refused, and is tried again
    pub step_refused : said ≡ answer.Refused → left_of u ≡ 2 → (waiting_then : Option PendingPub) → waiting_then ≡ Some x
        → PutSays shown store mine before after old mid here (with_ledger (parts_in mid) p) moment q (reply.Working 2) (Some (seen_task waiting_then view u))
    step_refused is two waiting_then waits =
        let w = was_refused puts.outcome puts.published (last_of past) (latest_of t) (subst (λ (a : PutAnswer). AnswersPut a puts.outcome puts.published (last_of past) (latest_of t)) is puts.answers) in
        let left_so : PutLeaves moment t answer.Refused u = subst (λ (a : PutAnswer). PutLeaves moment t a u) is left in
        let rest_is : seen_task waiting_then view u ≡ tried_again q (number_read (latest_of t)) =
        ap (λ (o : Option PendingPub). seen_task o view u) waits ∙ refused_is_tried_again moment old.databases.kept.pending view t u may.running ready left_so two in
        says mid (reply.Working 2) (Some (seen_task waiting_then view u)) (λ memory failed. absurd (failed w.done)) (λ f journaled armed. (
          free_intended old.databases.kept.pending x f,
          intended_slots old.databases.kept.pending x f,
          mid_free f journaled,
          λ memory. subst (λ (y : m.Publication). StepGoes moment past later here (with_ledger (parts_in mid) p) f (free_intended old.databases.kept.pending x f) q puts.outcome (reply.Working 2) (Some y)) (sym rest_is)
              (take false past mid (waiting x here) f (free_intended old.databases.kept.pending x f) outcome.Ok None (reply.Working 2) (Some (tried_again q (number_read (latest_of t)))) w.done (nothing puts.published refl w.none) mid_parts
              (none_added past past refl)
              (put_is_refused false moment past here f q x (number_read (latest_of t)) tried (refused_at w.passed)
              (refusal_is_answered moment old.databases.kept.pending view t u answer.Refused may.running ready left_so))),
        ))

    -- it is not known what became of it
    unknown_goes : (o : Outcome) (number : Option ℕ) → puts.outcome ≡ o → puts.published ≡ number → AnswersPut answer.Unknown o number (last_of past) (latest_of t) → (f : Free)
        → StepGoes moment past later here (with_ledger (parts_in mid) p) f (free_intended old.databases.kept.pending x f) q puts.outcome (reply.Unknown x.id) None
    unknown_goes outcome.Ok number is number_as says f = absurd says
    unknown_goes outcome.Fail (Some k) is number_as says f = absurd says
    unknown_goes outcome.Fail None is number_as says f =
        take false past mid (waiting x here) f (free_intended old.databases.kept.pending x f) outcome.Fail None (reply.Unknown x.id) None is (nothing None number_as refl) mid_parts (none_added past past refl)
        (put_failed false moment past here f q x (number_read (latest_of t)) tried)
    unknown_goes outcome.Lost (Some k) is number_as says f =
        take false later mid (waiting x here) f (free_intended old.databases.kept.pending x f) outcome.Lost (Some k) (reply.Unknown x.id) None is refl mid_parts (added k number_as says)
        (put_is_lost false moment past later here f q x (number_read (latest_of t)) k (version_of past puts.manifest) tried (version_is k number_as says) (next_at k number_as says))
    unknown_goes outcome.Lost None is number_as says f =
        take false past mid (waiting x here) f (free_intended old.databases.kept.pending x f) outcome.Lost None (reply.Unknown x.id) None is (nothing None number_as refl) mid_parts (none_added past past refl)
        (refusal_is_lost false moment past here f q x (number_read (latest_of t)) tried (refused_at says))

    pub step_unknown : said ≡ answer.Unknown → PutSays shown store mine before after old mid here (with_ledger (parts_in mid) p) moment q (reply.Unknown x.id) None
    step_unknown is = says mid (reply.Unknown x.id) None (λ memory failed. unknown is) (λ f journaled armed. (
      free_intended old.databases.kept.pending x f,
      intended_slots old.databases.kept.pending x f,
      mid_free f journaled,
      λ memory. unknown_goes puts.outcome puts.published refl refl (subst (λ (a : PutAnswer). AnswersPut a puts.outcome puts.published (last_of past) (latest_of t)) is puts.answers) f,
    ))

    -- memory ran out in it
    pub step_memory : PutSays shown store mine before after old mid here (with_ledger (parts_in mid) p) moment q reply.NoMemory None
    step_memory = says mid reply.NoMemory None (λ memory. absurd (memory refl)) (λ f journaled armed. (
      free_intended old.databases.kept.pending x f,
      intended_slots old.databases.kept.pending x f,
      mid_free f journaled,
      λ memory. absurd (memory refl),
    ))

    -- ---- it is known, and noted

    may_end : MayEnd mid.databases.kept x.id
    may_end = subst (λ (k : Kept). MayEnd k x.id) (sym begins.kept) (record { named = tried.named; is_id = tried.is_id; waits = refl })

    kept_done : (k : Kept) (y : _) → k ≡ after_note mid.databases.kept y → k ≡ after_note (record old.databases.kept { pending = Some x }) y
    kept_done k y is = is ∙ ap (λ (j : Kept). after_note j y) begins.kept

    module _ (new : Ledger D g) (number : ℕ) (is : said ≡ answer.Published number) (fits : number < 2 ^ 64) where
      w : WasPublished number puts.outcome puts.published (last_of past) (latest_of t)
      w = was_published number puts.outcome puts.published (last_of past) (latest_of t) (subst (λ (a : PutAnswer). AnswersPut a puts.outcome puts.published (last_of past) (latest_of t)) is puts.answers)

      of_versions : IsVersionNumber number
      of_versions = let e = (next_at number w.is w.still).1 in record { least = omega (arith, e); most = fits }

      pub step_done : (found : Manifest) → found ≡ puts.manifest → NoteEnds told shown mid new (note.Done x.id number) (known_of (after_note mid.databases.kept (note.Done x.id number)) found) None
          → PutSays shown store mine before after old new here (with_ledger (parts_in new) p) moment q (done_answer t number) None
      step_done found same ends =
          let known : List Known = known_of (after_note (record old.databases.kept { pending = Some x }) (note.Done x.id number)) puts.manifest in
          says new (done_answer t number) None (λ memory failed. absurd (failed w.done)) (λ f journaled armed. (
            free_noted 25 (free_intended old.databases.kept.pending x f),
            intended_slots old.databases.kept.pending x f,
            ends.goes tells (may_end, of_versions) (free_intended old.databases.kept.pending x f) (mid_free f journaled) (m.Finishing number) refl,
            λ memory. take false later new (published x number known here) f (free_noted 25 (free_intended old.databases.kept.pending x f)) outcome.Ok (Some number) (done_answer t number) None w.done refl
                (same_parts p (is_shut new.log) (is_shut old.log) new.databases.kept (after_note (record old.databases.kept { pending = Some x }) (note.Done x.id number)) new.databases.known known (ends.shut ∙ sym is_open)
                (kept_done new.databases.kept (note.Done x.id number) ends.kept)
                (ends.knows ∙ ap (λ (k : Kept). known_of (after_note k (note.Done x.id number)) found) begins.kept
                ∙ ap (known_of (after_note (record old.databases.kept { pending = Some x }) (note.Done x.id number))) same))
                (added number w.is w.still)
                (put_is_done false moment past later here f q x (number_read (latest_of t)) number (version_of past puts.manifest) known (done_answer t number) tried (version_is number w.is w.still)
                (next_at number w.is w.still) of_versions
                (subst (λ (k : ℕ). AreKnownAt x k (known_of (after_note (waiting x here).kept (note.Done x.id k)) puts.manifest) here (version_of past puts.manifest)) (sym (number_is number w.is))
                (done_is_known (log ++ others) here x puts.manifest))
                (done_is_answered old.databases.kept.pending view t number may.running ready)),
          ))

      done_fault : (fault : Reply) (f : Free) → EndGoes shown new.log new.databases.kept (free_intended old.databases.kept.pending x f) (note.Done x.id number) (m.Finishing number) (Some fault)
          → ShutAfter (Some fault) (is_shut new.log) → new.databases.kept ≡ mid.databases.kept → new.databases.known ≡ mid.databases.known → fault ≢ reply.JournalFull → Armed fault f
          → (free : Free) × (free.slots ≡ f.slots) × Journaled shown new.log new.databases.kept free
          × (fault ≢ reply.NoMemory → StepGoes moment past later here (with_ledger (parts_in new) p) f free q puts.outcome fault None)
      done_fault reply.DiskFault f holds closed kept known room armed = (
        free_failed 25 (m.Finishing number) (free_intended old.databases.kept.pending x f),
        intended_slots old.databases.kept.pending x f,
        holds,
        λ memory. take false later new (shut (waiting x here)) f (free_failed 25 (m.Finishing number) (free_intended old.databases.kept.pending x f)) outcome.Ok (Some number) reply.DiskFault None w.done refl
            (same_parts p (is_shut new.log) true new.databases.kept (record old.databases.kept { pending = Some x }) new.databases.known old.databases.known closed (kept ∙ begins.kept) (known ∙ begins.known))
            (added number w.is w.still)
            (done_meets_fault false moment past later here f q x (number_read (latest_of t)) number (version_of past puts.manifest) tried (version_is number w.is w.still) (next_at number w.is w.still) of_versions armed),
      )
      done_fault reply.NoMemory f holds closed kept known room armed =
          (free_intended old.databases.kept.pending x f, intended_slots old.databases.kept.pending x f, holds, λ memory. absurd (memory refl))
      done_fault reply.JournalFull f holds closed kept known room armed = absurd (room refl)
      done_fault _ f holds closed kept known room armed = absurd holds

      pub step_done_fault : (found : List Known) (fault : Reply) → NoteEnds told shown mid new (note.Done x.id number) found (Some fault) → fault ≢ reply.JournalFull
          → PutSays shown store mine before after old new here (with_ledger (parts_in new) p) moment q fault None
      step_done_fault found fault ends room = says new fault None (λ memory failed. absurd (failed w.done)) (λ f journaled armed.
          done_fault fault f (ends.goes tells (may_end, of_versions) (free_intended old.databases.kept.pending x f) (mid_free f journaled) (m.Finishing number) refl) ends.shut ends.kept ends.knows room armed)

    module _ (new : Ledger D g) (r : Reply) (w : WasPassed puts.outcome puts.published (last_of past) (latest_of t)) (last : is_last_try q.kind q.refused ≡ true)
        (answers : last_refusal q.kind (q.refused ++ number_read (latest_of t) ∷ []) ≡ r) where
      void_goes : NoteEnds told shown mid new (note.Void x.id) mid.databases.known None
          → PutSays shown store mine before after old new here (with_ledger (parts_in new) p) moment q r None
      void_goes ends = says new r None (λ memory failed. absurd (failed w.done)) (λ f journaled armed. (
        free_noted 17 (free_intended old.databases.kept.pending x f),
        intended_slots old.databases.kept.pending x f,
        ends.goes tells may_end (free_intended old.databases.kept.pending x f) (mid_free f journaled) m.Voiding refl,
        λ memory. subst (λ (y : Reply). StepGoes moment past later here (with_ledger (parts_in new) p) f (free_noted 17 (free_intended old.databases.kept.pending x f)) q puts.outcome y None) answers
            (take false past new (voided x here) f (free_noted 17 (free_intended old.databases.kept.pending x f)) outcome.Ok None (last_refusal q.kind (q.refused ++ number_read (latest_of t) ∷ [])) None w.done
            (nothing puts.published refl w.none)
            (same_parts p (is_shut new.log) (is_shut old.log) new.databases.kept (after_note (record old.databases.kept { pending = Some x }) (note.Void x.id)) new.databases.known old.databases.known (ends.shut ∙ sym is_open)
            (kept_done new.databases.kept (note.Void x.id) ends.kept) (ends.knows ∙ begins.known))
            (none_added past past refl)
            (put_is_void false moment past here f q x (number_read (latest_of t)) tried (refused_at w.passed) last)),
      ))

      void_fault : (fault : Reply) (f : Free) → EndGoes shown new.log new.databases.kept (free_intended old.databases.kept.pending x f) (note.Void x.id) m.Voiding (Some fault)
          → ShutAfter (Some fault) (is_shut new.log) → new.databases.kept ≡ mid.databases.kept → new.databases.known ≡ mid.databases.known → fault ≢ reply.JournalFull → Armed fault f
          → (free : Free) × (free.slots ≡ f.slots) × Journaled shown new.log new.databases.kept free
          × (fault ≢ reply.NoMemory → StepGoes moment past later here (with_ledger (parts_in new) p) f free q puts.outcome fault None)
      void_fault reply.DiskFault f holds closed kept known room armed = (
        free_failed 17 m.Voiding (free_intended old.databases.kept.pending x f),
        intended_slots old.databases.kept.pending x f,
        holds,
        λ memory. take true past new (shut (waiting x here)) f (free_failed 17 m.Voiding (free_intended old.databases.kept.pending x f)) outcome.Ok None reply.DiskFault None w.done (nothing puts.published refl w.none)
            (same_parts p (is_shut new.log) true new.databases.kept (record old.databases.kept { pending = Some x }) new.databases.known old.databases.known closed (kept ∙ begins.kept) (known ∙ begins.known))
            (none_added past past refl)
            (void_meets_fault moment past here f q x (number_read (latest_of t)) tried (refused_at w.passed) last armed),
      )
      void_fault reply.NoMemory f holds closed kept known room armed =
          (free_intended old.databases.kept.pending x f, intended_slots old.databases.kept.pending x f, holds, λ memory. absurd (memory refl))
      void_fault reply.JournalFull f holds closed kept known room armed = absurd (room refl)
      void_fault _ f holds closed kept known room armed = absurd holds

      void_meets : (fault : Reply) → NoteEnds told shown mid new (note.Void x.id) mid.databases.known (Some fault) → fault ≢ reply.JournalFull
          → PutSays shown store mine before after old new here (with_ledger (parts_in new) p) moment q fault None
      void_meets fault ends room = says new fault None (λ memory failed. absurd (failed w.done)) (λ f journaled armed.
          void_fault fault f (ends.goes tells may_end (free_intended old.databases.kept.pending x f) (mid_free f journaled) m.Voiding refl) ends.shut ends.kept ends.knows room armed)

    contended_last : (ns : List ℕ) → said ≡ answer.Contended ns → IsLastAnswer (answer.Contended ns) q (number_read (latest_of t))
    contended_last ns is =
        refusal_is_answered moment old.databases.kept.pending view t u (answer.Contended ns) may.running ready (subst (λ (a : PutAnswer). PutLeaves moment t a u) is left)

    contended : (ns : List ℕ) → said ≡ answer.Contended ns → WasPassed puts.outcome puts.published (last_of past) (latest_of t)
    contended ns is =
        was_contended ns puts.outcome puts.published (last_of past) (latest_of t) (subst (λ (a : PutAnswer). AnswersPut a puts.outcome puts.published (last_of past) (latest_of t)) is puts.answers)

    pub step_contended : (new : Ledger D g) (ns : List ℕ) → said ≡ answer.Contended ns → NoteEnds told shown mid new (note.Void x.id) mid.databases.known None
        → PutSays shown store mine before after old new here (with_ledger (parts_in new) p) moment q (reply.Contended ns) None
    step_contended new ns is ends = void_goes new (reply.Contended ns) (contended ns is) (contended_last ns is).0 (contended_last ns is).1 ends

    pub step_contended_fault : (new : Ledger D g) (ns : List ℕ) → said ≡ answer.Contended ns → (fault : Reply) → NoteEnds told shown mid new (note.Void x.id) mid.databases.known (Some fault)
        → fault ≢ reply.JournalFull → PutSays shown store mine before after old new here (with_ledger (parts_in new) p) moment q fault None
    step_contended_fault new ns is fault ends room =
        void_meets new (reply.Contended ns) (contended ns is) (contended_last ns is).0 (contended_last ns is).1 fault ends room

    there_last : said ≡ answer.Exists → IsLastAnswer answer.Exists q (number_read (latest_of t))
    there_last is =
        refusal_is_answered moment old.databases.kept.pending view t u answer.Exists may.running ready (subst (λ (a : PutAnswer). PutLeaves moment t a u) is left)

    there : said ≡ answer.Exists → WasPassed puts.outcome puts.published (last_of past) (latest_of t)
    there is =
        was_there puts.outcome puts.published (last_of past) (latest_of t) (subst (λ (a : PutAnswer). AnswersPut a puts.outcome puts.published (last_of past) (latest_of t)) is puts.answers)

    pub step_there : (new : Ledger D g) → said ≡ answer.Exists → NoteEnds told shown mid new (note.Void x.id) mid.databases.known None
        → PutSays shown store mine before after old new here (with_ledger (parts_in new) p) moment q reply.Exists None
    step_there new is ends = void_goes new reply.Exists (there is) (there_last is).0 (there_last is).1 ends

    pub step_there_fault : (new : Ledger D g) → said ≡ answer.Exists → (fault : Reply) → NoteEnds told shown mid new (note.Void x.id) mid.databases.known (Some fault)
        → fault ≢ reply.JournalFull → PutSays shown store mine before after old new here (with_ledger (parts_in new) p) moment q fault None
    step_there_fault new is fault ends room = void_meets new reply.Exists (there is) (there_last is).0 (there_last is).1 fault ends room
