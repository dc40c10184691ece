-- What an act does to a side, in few moves.
use Rattle.std.proofs.Common.{◌≡◌, ℕ, Bool, true, false, ◌&&◌, Option, Some, None, refl, ap}
use Rattle.bcv_base.specs.declared.outcome.Outcome.{Outcome}
use Rattle.bcv_model.specs.declared.ask.Ask.{Ask}
use Rattle.bcv_model.specs.declared.ask.Ask.TheVariants as ask
use Rattle.bcv_model.specs.declared.event.Act.{Act}
use Rattle.bcv_model.specs.declared.event.Act.TheVariants as act
use Rattle.bcv_model.specs.declared.reply.Reply.{Reply}
use Rattle.bcv_model.specs.declared.reply.Reply.TheVariants as reply
use Rattle.bcv_model.specs.declared.reply.Said.{Said}
use Rattle.bcv_machine.specs.CrashAndUp.{Crashes, ComesUp, SetsFuse, SetsFailure, MayBeLeft, crashed, risen}
use Rattle.bcv_machine.specs.Refusals.{ends_pending}
use Rattle.bcv_machine.specs.State.{KeptState, Side, Up, Task, Job, Fetching, Polling, Publishing, Resolving, Publication, without_task, task_at, txn_at}
use Rattle.bcv_machine.specs.Step.{Choice, Acts, Asks, Steps, StepsOpen, StepsJob, give_back}
use Rattle.bcv_machine.proofs.Moves.{Move, Stays, asks_quietly, fetch_steps_of, polls, resolves}
use Rattle.bcv_machine.proofs.Publishing.{PublicationMove, steps_publication}

-- the container, what is kept, and what the client has while it is up are the same
pub record LeavesAll (s t : Side) : Type 0 where
  pub container : t.container ≡ s.container
  pub kept : t.client.kept ≡ s.client.kept
  pub up : t.client.up ≡ s.client.up

-- a task of the client was taken out, and this is its number and its job
pub record TakesOut (u : Up) (number : ℕ) (job : Job) (rest : Up) : Type 0 where
  pub asked : ℕ
  pub task : Task
  pub found : task_at u asked ≡ Some task
  pub is_number : task.number ≡ number
  pub is_job : task.job ≡ job
  pub left : rest ≡ without_task u number

pub data ActMove (s : Side) (what : Act) (said : Said) (t : Side) : Type 0 where
  Left : LeavesAll s t → said.published ≡ None → ActMove s what said t
  Asked : (u : Up) (a : Ask) (o : Outcome) → s.client.up ≡ Some u → what ≡ act.Ask a o → Move false s u a said.reply t → said.published ≡ None → ActMove s what said t
  Stepped : (u rest : Up) (a : Ask) (o : Outcome) (number : ℕ) (job : Job) → s.client.up ≡ Some u → what ≡ act.Ask a o → TakesOut u number job rest → Move (ends_pending job) s rest a said.reply t → said.published ≡ None → ActMove s what said t
  Published : (u rest : Up) (a : Ask) (o : Outcome) (number : ℕ) (p : Publication) (mid : Side) (back : Option Publication) → s.client.up ≡ Some u → what ≡ act.Ask a o → TakesOut u number (Publishing p) rest
      → PublicationMove s rest p said.published said.reply mid back → t ≡ give_back number back mid → ActMove s what said t
  Crashed : t ≡ crashed s → said.published ≡ None → ActMove s what said t
  Rose : (k : KeptState) → what ≡ act.Up → MayBeLeft s.client.kept s.client.flight k → t ≡ risen s k → said.published ≡ None → ActMove s what said t

stays : (s t : Side) → t ≡ s → LeavesAll s t
stays s t h = record { container = ap (λ (x : Side). x.container) h; kept = ap (λ (x : Side). x.client.kept) h; up = ap (λ (x : Side). x.client.up) h }

taken : (u : Up) (asked : ℕ) (x : Task) (job : Job) → task_at u asked ≡ Some x → x.job ≡ job → TakesOut u x.number job (without_task u x.number)
taken u asked x job is same = record { asked = asked; task = x; found = is; is_number = refl; is_job = same; left = refl }

steps_job : (s : Side) (u : Up) (n : ℕ) (o : Outcome) (said : Said) (b : Bool) (t : Side) (x : Task) (job : Job) → s.client.up ≡ Some u → task_at u n ≡ Some x → x.job ≡ job
    → StepsJob job x.number s (without_task u x.number) o said b t → ActMove s (act.Ask (ask.Step n) o) said t
steps_job s u n o said b t x (Fetching access txn page) up is same h =
    let rest = without_task u x.number in
    Stepped u rest (ask.Step n) o x.number (Fetching access txn page) up refl (taken u n x _ is same) (fetch_steps_of access s rest (ask.Step n) txn (txn_at rest txn) page o said.reply t refl h.1) h.0
steps_job s u n o said b t x Polling up is same h =
    let rest = without_task u x.number in
    Stepped u rest (ask.Step n) o x.number Polling up refl (taken u n x _ is same) (polls s rest (ask.Step n) o said.reply t h.1) h.0
steps_job s u n o said b t x (Publishing p) up is same h =
    let rest = without_task u x.number in
    Published u rest (ask.Step n) o x.number p h.0 h.1 up refl (taken u n x _ is same) (steps_publication p.read p.left s rest p o said b h.0 h.1 h.2) h.3
steps_job s u n o said b t x Resolving up is same h =
    let rest = without_task u x.number in
    Stepped u rest (ask.Step n) o x.number Resolving up refl (taken u n x _ is same) (resolves s rest (ask.Step n) o said.reply t h.1) h.0

steps_open : (c : Bool) (s : Side) (u : Up) (n : ℕ) (o : Outcome) (said : Said) (b : Bool) (t : Side) (x : Task) → s.client.up ≡ Some u → task_at u n ≡ Some x
    → StepsOpen c x.job x.number s (without_task u x.number) o said b t → ActMove s (act.Ask (ask.Step n) o) said t
steps_open true s u n o said b t x up is h = Stepped u (without_task u x.number) (ask.Step n) o x.number x.job up refl (taken u n x x.job is refl) (Stays h.1) h.0.0
steps_open false s u n o said b t x up is h = steps_job s u n o said b t x x.job up is refl h

steps : (s : Side) (u : Up) (n : ℕ) (o : Outcome) (said : Said) (b : Bool) (t : Side) (x : Option Task) → s.client.up ≡ Some u → task_at u n ≡ x → Steps x s u o said b t → ActMove s (act.Ask (ask.Step n) o) said t
steps s u n o said b t None up is h = Asked u (ask.Step n) o up refl (Stays h.1) h.0.0
steps s u n o said b t (Some x) up is h = steps_open (u.closed && ends_pending x.job) s u n o said b t x up is h

asks_move : (s : Side) (u : Up) (a : Ask) (o : Outcome) (said : Said) (c : Choice) (t : Side) → s.client.up ≡ Some u → Asks s u a o said c t → ActMove s (act.Ask a o) said t
asks_move s u (ask.Step n) o said c t up h = steps s u n o said c.second t (task_at u n) up refl h
asks_move s u a o said c t up h = Asked u a o up refl (asks_quietly s u a c.name said.reply t h.1) h.0

crashes : (s : Side) (what : Act) (said : Said) (r : Reply) (t : Side) → said.published ≡ None → Crashes s r t → ActMove s what said t
crashes s what said reply.Crashed t none h = Crashed h none
crashes s what said _ t none h = absurd h

sets_fuse : (s : Side) (what : Act) (said : Said) (r : Reply) (t : Side) → said.published ≡ None → s.client.up ≡ s.client.up → SetsFuse s r t → ActMove s what said t
sets_fuse s what said reply.Fine t none up h = Left (record { container = ap (λ (x : Side). x.container) h; kept = ap (λ (x : Side). x.client.kept) h; up = ap (λ (x : Side). x.client.up) h }) none
sets_fuse s what said _ t none up h = absurd h

sets_failure : (s : Side) (what : Act) (said : Said) (r : Reply) (t : Side) → said.published ≡ None → SetsFailure s r t → ActMove s what said t
sets_failure s what said reply.Fine t none h = Left (record { container = ap (λ (x : Side). x.container) h; kept = ap (λ (x : Side). x.client.kept) h; up = ap (λ (x : Side). x.client.up) h }) none
sets_failure s what said _ t none h = absurd h

comes_up : (s : Side) (said : Said) (r : Reply) (t : Side) → said.published ≡ None → ComesUp s r t → ActMove s act.Up said t
comes_up s said (reply.UpAgain rows pending) t none h = Rose h.0 refl h.1 h.4 none
comes_up s said reply.DiskFault t none h = Left (record { container = ap (λ (x : Side). x.container) h.1; kept = ap (λ (x : Side). x.client.kept) h.1; up = ap (λ (x : Side). x.client.up) h.1 }) none
comes_up s said reply.Crashed t none h = Left (record { container = ap (λ (x : Side). x.container) h.1; kept = ap (λ (x : Side). x.client.kept) h.1; up = ap (λ (x : Side). x.client.up) h.1 }) none
comes_up s said _ t none h = absurd h

pub acts : (s : Side) (o : Option Up) (what : Act) (said : Said) (c : Choice) (t : Side) → s.client.up ≡ o → Acts s o what said c t → ActMove s what said t
acts s None (act.Ask a o) said c t up h = Left (stays s t h.1) h.0.0
acts s None act.Up said c t up h = comes_up s said said.reply t h.0 h.1
acts s None (act.Crash image) said c t up h = Left (stays s t h.1) h.0.0
acts s None (act.Fuse calls image) said c t up h = Left (stays s t h.1) h.0.0
acts s None (act.FailAt calls) said c t up h = Left (stays s t h.1) h.0.0
acts s (Some u) (act.Ask a o) said c t up h = asks_move s u a o said c t up h
acts s (Some u) act.Up said c t up h = Left (stays s t h.1) h.0.0
acts s (Some u) (act.Crash image) said c t up h = crashes s (act.Crash image) said said.reply t h.0 h.1
acts s (Some u) (act.Fuse calls image) said c t up h = sets_fuse s (act.Fuse calls image) said said.reply t h.0 refl h.1
acts s (Some u) (act.FailAt calls) said c t up h = sets_failure s (act.FailAt calls) said said.reply t h.0 h.1
