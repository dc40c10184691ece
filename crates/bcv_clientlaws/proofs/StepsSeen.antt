-- A step of a task looks at what the client is up with alone.
use Rattle.std.proofs.Common.{◌≡◌, ◌∙◌, ◌&&◌, ◌||◌, ℕ, zero, suc, Bool, true, false, List, Option, Some, None, refl, sym, ap, subst}
use Rattle.std.specs.Option.{option_map}
use Rattle.bcv_base.specs.declared.outcome.Outcome.{Outcome}
use Rattle.bcv_base.specs.declared.outcome.Outcome.TheVariants as outcome
use Rattle.bcv_base.specs.History.{Item}
use Rattle.bcv_base.specs.Version.{Version}
use Rattle.bcv_machine.specs.ManifestGet.{GetsManifest}
use Rattle.bcv_machine.specs.ManifestPut.{Appends, IntentFails, NoteFailsAt, PutFails, PutLosesAnswer, PutLosesNothing, PutsManifest, PutsNothing, Refuses, Stores, intent_of, version_made, with_intent}
use Rattle.bcv_machine.specs.MiddleStep.{GoesOn, requested}
use Rattle.bcv_machine.specs.Noting.{FaultEnds, NoteFails}
use Rattle.bcv_machine.specs.Poll.{Polls, PollsLast}
use Rattle.bcv_machine.specs.Reading.{ComesAtOnce, FetchSteps, FetchStepsOf}
use Rattle.bcv_machine.specs.Refusals.{ends_pending}
use Rattle.bcv_machine.specs.Resolve.{Resolves, ResolvesAs, ResolvesPending, number_from}
use Rattle.bcv_machine.specs.State as m
use Rattle.bcv_machine.specs.State.{ToHold, ToRead, last_version, with_up}
use Rattle.bcv_machine.specs.Step.{Steps, StepsOpen, StepsPublication}
use Rattle.bcv_model.specs.declared.reply.Reply.{Reply}
use Rattle.bcv_model.specs.declared.reply.Reply.TheVariants as reply
use Rattle.bcv_model.specs.declared.reply.Said.{Said}
use Rattle.bcv_clientstate.specs.Parts.{Task, Parts}
use Rattle.bcv_clientstate.specs.SeenClient.{seen_job, seen_task, seen_up, side_of}
use Rattle.bcv_clientlaws.specs.TaskLists.{task_at, without_task}
use Rattle.bcv_clientlaws.specs.TaskSteps.{ClosedEndsTask, NoTaskSteps, StepIsOfTask, StepsSeeNoTasks}
use Rattle.bcv_clientlaws.proofs.TaskLists.{job_is_busy, task_goes, task_is_found}

-- ---- notes and faults

note_fails : (s : m.Side) (u : m.Up) (x : m.Note) (r : Reply) (t : m.Side) → NoteFails (with_up s u) u x r t → NoteFails s u x r t
note_fails s u (m.Committing name base w) reply.JournalFull t h = h
note_fails s u (m.Reverting name) reply.JournalFull t h = h
note_fails s u (m.Intending q) reply.JournalFull t h = h
note_fails s u (m.Finishing number) reply.JournalFull t h = h
note_fails s u m.Voiding reply.JournalFull t h = h
note_fails s u x reply.DiskFault t h = h
note_fails s u x reply.Crashed t h = h
note_fails s u x _ t h = h

fault_ends : (b : Bool) (s : m.Side) (u : m.Up) (fault r : Reply) (t : m.Side) → FaultEnds b (with_up s u) u fault r t → FaultEnds b s u fault r t
fault_ends false s u fault r t h = h
fault_ends true s u fault reply.DiskFault t h = h
fault_ends true s u fault reply.Crashed t h = h
fault_ends true s u fault _ t h = h

-- ---- fetches and polls

at_once : (access : m.Access) (s : m.Side) (u : m.Up) (x : m.Txn) (p : ℕ) (r : Reply) (t : m.Side) → ComesAtOnce access (with_up s u) u x p r t → ComesAtOnce access s u x p r t
at_once ToRead s u x p (reply.Page bytes) t h = h
at_once ToRead s u x p reply.CacheFull t h = h
at_once ToRead s u x p _ t h = h
at_once ToHold s u x p reply.Held t h = h
at_once ToHold s u x p reply.CacheFull t h = h
at_once ToHold s u x p _ t h = h

fetches : (access : m.Access) (s : m.Side) (u : m.Up) (x : m.Txn) (p : ℕ) (o : Outcome) (r : Reply) (t : m.Side) → FetchSteps access (with_up s u) u x p o r t → FetchSteps access s u x p o r t
fetches access s u x p outcome.Ok reply.Gone t h = h
fetches access s u x p outcome.Ok r t h = at_once access s u x p r t h
fetches access s u x p outcome.Fail reply.StoreFault t h = h
fetches access s u x p outcome.Fail r t h = at_once access s u x p r t h
fetches access s u x p outcome.Lost reply.StoreFault t h = h
fetches access s u x p outcome.Lost r t h = at_once access s u x p r t h

fetches_of : (access : m.Access) (s : m.Side) (u : m.Up) (x : Option m.Txn) (p : ℕ) (o : Outcome) (r : Reply) (t : m.Side) → FetchStepsOf access (with_up s u) u x p o r t → FetchStepsOf access s u x p o r t
fetches_of access s u None p o r t h = h
fetches_of access s u (Some x) p o r t h = fetches access s u x p o r t h

polls_last : (s : m.Side) (u : m.Up) (v : Option Version) (r : Reply) (t : m.Side) → PollsLast (with_up s u) u v r t → PollsLast s u v r t
polls_last s u None reply.NoContainer t h = h
polls_last s u None _ t h = h
polls_last s u (Some v) (reply.Polled n) t h = h
polls_last s u (Some v) _ t h = h

polls : (s : m.Side) (u : m.Up) (o : Outcome) (r : Reply) (t : m.Side) → Polls (with_up s u) u o r t → Polls s u o r t
polls s u outcome.Ok r t h = polls_last s u (last_version s.container) r t h
polls s u outcome.Fail r t h = h
polls s u outcome.Lost r t h = h

-- ---- resolves

resolves_as : (s : m.Side) (u : m.Up) (p : m.Pending) (n : Option ℕ) (r : Reply) (t : m.Side) → ResolvesAs (with_up s u) u p n r t → ResolvesAs s u p n r t
resolves_as s u p (Some n) (reply.Resolved k) t h = h
resolves_as s u p (Some n) r t h = note_fails s u (m.Finishing n) r t h
resolves_as s u p None reply.Voided t h = h
resolves_as s u p None r t h = note_fails s u m.Voiding r t h

resolves_pending : (s : m.Side) (u : m.Up) (p : Option m.Pending) (r : Reply) (t : m.Side) → ResolvesPending (with_up s u) u p r t → ResolvesPending s u p r t
resolves_pending s u None r t h = h
resolves_pending s u (Some p) r t h = resolves_as s u p (number_from 1 p.id s.container.versions) r t h

resolves : (s : m.Side) (u : m.Up) (o : Outcome) (r : Reply) (t : m.Side) → Resolves (with_up s u) u o r t → Resolves s u o r t
resolves s u outcome.Ok r t h = resolves_pending s u s.client.kept.pending r t h
resolves s u outcome.Fail r t h = h
resolves s u outcome.Lost r t h = h

-- ---- publications

gets : (s : m.Side) (u : m.Up) (p : m.Publication) (o : Outcome) (r : Reply) (t : m.Side) (rest : Option m.Publication) → GetsManifest (with_up s u) u p o r t rest → GetsManifest s u p o r t rest
gets s u p outcome.Ok (reply.Working left) t rest h = h
gets s u p outcome.Ok r t rest h = ((h.0.0, h.0.1, fault_ends p.intended s u h.0.0 r t h.0.2), h.1)
gets s u p outcome.Fail r t rest h = (fault_ends p.intended s u reply.StoreFault r t h.0, h.1)
gets s u p outcome.Lost r t rest h = (fault_ends p.intended s u reply.StoreFault r t h.0, h.1)

goes_on : (s : m.Side) (u : m.Up) (p : m.Publication) (o : Outcome) (r : Reply) (t : m.Side) (rest : Option m.Publication) → GoesOn (with_up s u) u p o r t rest → GoesOn s u p o r t rest
goes_on s u p outcome.Ok (reply.Working left) t rest h = h
goes_on s u p outcome.Ok r t rest h = ((h.0.0, h.0.1, fault_ends p.intended (requested s p outcome.Ok) u h.0.0 r t h.0.2), h.1)
goes_on s u p outcome.Fail r t rest h = ((h.0.0, h.0.1, fault_ends p.intended (requested s p outcome.Fail) u h.0.0 r t h.0.2), h.1)
goes_on s u p outcome.Lost r t rest h = ((h.0.0, h.0.1, fault_ends p.intended (requested s p outcome.Lost) u h.0.0 r t h.0.2), h.1)

same_intent : (b : Bool) (s : m.Side) (u : m.Up) (p : m.Publication) → with_intent b (with_up s u) u p ≡ with_intent b s u p
same_intent true s u p = refl
same_intent false s u p = refl

intent_fails : (b : Bool) (s : m.Side) (u : m.Up) (p : m.Publication) (r : Reply) (t : m.Side) → IntentFails b (with_up s u) u p r t → IntentFails b s u p r t
intent_fails true s u p r t h = h
intent_fails false s u p r t h = note_fails s u (intent_of p) r t h

refuses : (s : m.Side) (u : m.Up) (p : m.Publication) (read : ℕ) (r : Reply) (t : m.Side) (rest : Option m.Publication) → Refuses (with_intent p.intended (with_up s u) u p) u p read r t rest
    → Refuses (with_intent p.intended s u p) u p read r t rest
refuses s u p read r t rest h = subst (λ (x : m.Side). Refuses x u p read r t rest) (same_intent p.intended s u p) h

note_fails_at : (b : Bool) (s : m.Side) (u : m.Up) (p : m.Publication) (read : ℕ) (r : Reply) (t : m.Side) (rest : Option m.Publication) → NoteFailsAt b (with_up s u) u p read r t rest
    → NoteFailsAt b s u p read r t rest
note_fails_at false s u p read r t rest h = (intent_fails p.intended s u p r t h.0, h.1)
note_fails_at true s u p read r t rest h = (h.0, refuses s u p read r t rest h.1)

puts_nothing : (second : Bool) (s : m.Side) (u : m.Up) (p : m.Publication) (read : ℕ) (r : Reply) (t : m.Side) (rest : Option m.Publication) → PutsNothing second (with_up s u) u p read r t rest
    → PutsNothing second s u p read r t rest
puts_nothing second s u p read reply.JournalFull t rest h = note_fails_at false s u p read reply.JournalFull t rest h
puts_nothing second s u p read reply.DiskFault t rest h = note_fails_at (p.intended || second) s u p read reply.DiskFault t rest h
puts_nothing second s u p read reply.Crashed t rest h = note_fails_at (p.intended || second) s u p read reply.Crashed t rest h
puts_nothing second s u p read r t rest h = (h.0, refuses s u p read r t rest h.1)

put_fails : (s : m.Side) (u : m.Up) (p : m.Publication) (r : Reply) (t : m.Side) (rest : Option m.Publication) → PutFails (with_up s u) u p r t rest → PutFails s u p r t rest
put_fails s u p (reply.Unknown id) t rest h = (h.0, h.1 ∙ same_intent p.intended s u p, h.2)
put_fails s u p r t rest h = (intent_fails p.intended s u p r t h.0, h.1)

loses_nothing : (s : m.Side) (u : m.Up) (p : m.Publication) (read : ℕ) (r : Reply) (t : m.Side) (rest : Option m.Publication) → PutLosesNothing (with_up s u) u p read r t rest → PutLosesNothing s u p read r t rest
loses_nothing s u p read (reply.Unknown id) t rest h = (h.0, put_fails s u p (reply.Unknown id) t rest h.1)
loses_nothing s u p read r t rest h = put_fails s u p r t rest h

loses_answer : (s : m.Side) (u : m.Up) (p : m.Publication) (r : Reply) (t : m.Side) (rest : Option m.Publication) → PutLosesAnswer (with_up s u) u p r t rest → PutLosesAnswer s u p r t rest
loses_answer s u p (reply.Unknown id) t rest h = (h.0, subst (λ (x : m.Side). Appends x p (version_made s.container p) t) (same_intent p.intended s u p) h.1, h.2)
loses_answer s u p _ t rest h = h

puts : (second : Bool) (s : m.Side) (u : m.Up) (p : m.Publication) (read : ℕ) (o : Outcome) (published : Option ℕ) (r : Reply) (t : m.Side) (rest : Option m.Publication)
    → PutsManifest second (with_up s u) u p read o published r t rest → PutsManifest second s u p read o published r t rest
puts second s u p read outcome.Ok (Some n) r t rest h =
    (h.0, subst (λ (x : m.Side). Stores x u p n (version_made s.container p) r t) (same_intent p.intended s u p) h.1, h.2)
puts second s u p read outcome.Ok None r t rest h = puts_nothing second s u p read r t rest h
puts second s u p read outcome.Fail (Some n) r t rest h = h
puts second s u p read outcome.Fail None r t rest h = put_fails s u p r t rest h
puts second s u p read outcome.Lost (Some n) r t rest h = (h.0, loses_answer s u p r t rest h.1)
puts second s u p read outcome.Lost None r t rest h = loses_nothing s u p read r t rest h

steps : (read : Option ℕ) (left : ℕ) (s : m.Side) (u : m.Up) (p : m.Publication) (o : Outcome) (said : Said) (second : Bool) (t : m.Side) (rest : Option m.Publication)
    → StepsPublication read left (with_up s u) u p o said second t rest → StepsPublication read left s u p o said second t rest
steps None left s u p o said second t rest h = (h.0, gets s u p o said.reply t rest h.1)
steps (Some read) zero s u p o said second t rest h = h
steps (Some read) (suc zero) s u p o said second t rest h = puts second s u p read o said.published said.reply t rest h
steps (Some read) (suc (suc left)) s u p o said second t rest h = (h.0, goes_on s u p o said.reply t rest h.1)

-- ---- the whole

pub steps_see_no_tasks : StepsSeeNoTasks
steps_see_no_tasks (m.Fetching access txn page) n s u o said second t h = (h.0, fetches_of access s u (m.txn_at u txn) page o said.reply t h.1)
steps_see_no_tasks m.Polling n s u o said second t h = (h.0, polls s u o said.reply t h.1)
steps_see_no_tasks (m.Publishing p) n s u o said second t h = (h.0, h.1, steps p.read p.left s u p o said second h.0 h.1 h.2, h.3)
steps_see_no_tasks m.Resolving n s u o said second t h = (h.0, resolves s u o said.reply t h.1)

-- the task that is found is the machine's
over_task : (past : List Item) (p : Parts) (n : ℕ) (x : Task) (s : m.Side) (o : Outcome) (said : Said) (second : Bool) (t : m.Side) → task_at n p ≡ Some x
    → StepsOpen (p.closed && ends_pending (seen_job p.kept.pending x.job)) (seen_job p.kept.pending x.job) x.number s (seen_up past (without_task x.number p)) o said second t
    → Steps (m.task_at (seen_up past p) n) s (seen_up past p) o said second t
over_task past p n x s o said second t found h =
    subst (λ (y : Option m.Task). Steps y s (seen_up past p) o said second t) (sym (task_is_found past n p ∙ ap (option_map (seen_task p.kept.pending)) found))
    (subst (λ (u : m.Up). StepsOpen (p.closed && ends_pending (seen_job p.kept.pending x.job)) (seen_job p.kept.pending x.job) x.number s u o said second t) (task_goes past x.number p) h)

pub step_is_of_task : StepIsOfTask
step_is_of_task moment past p f n x o said second t found more h =
    let s : m.Side = side_of moment past p f in
    let u : m.Up = seen_up past (without_task x.number p) in
    let j : m.Job = seen_job p.kept.pending x.job in
    over_task past p n x s o said second t found
    (subst (λ (b : Bool). StepsOpen b j x.number s u o said second t) (sym (ap (λ (b : Bool). p.closed && b) (job_is_busy p.kept.pending x.job) ∙ more))
    (steps_see_no_tasks j x.number s u o said second t h))

pub closed_ends_task : ClosedEndsTask
closed_ends_task moment past p f n x o said second found shut quiet =
    let s : m.Side = side_of moment past p f in
    let u : m.Up = seen_up past (without_task x.number p) in
    let j : m.Job = seen_job p.kept.pending x.job in
    let t : m.Side = side_of moment past (without_task x.number p) f in
    over_task past p n x s o said second t found
    (subst (λ (b : Bool). StepsOpen b j x.number s u o said second t) (sym (ap (λ (b : Bool). p.closed && b) (job_is_busy p.kept.pending x.job) ∙ shut)) (quiet, refl))

pub no_task_steps : NoTaskSteps
no_task_steps moment past p f n o said second none quiet =
    let s : m.Side = side_of moment past p f in
    subst (λ (y : Option m.Task). Steps y s (seen_up past p) o said second s) (sym (task_is_found past n p ∙ ap (option_map (seen_task p.kept.pending)) none)) (quiet, refl)
