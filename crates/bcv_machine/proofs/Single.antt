-- No two publications of one client run or are pending at a time.
use Rattle.std.proofs.Common.{◌≡◌, ◌∙◌, ℕ, ◌==◌, Bool, true, false, not, ◌||◌, List, [], ◌∷◌, ◌++◌, Option, Some, None, is_some, is_none, IsSome, if◌then◌else◌, refl, sym, ap, subst, inl, inr, append-nil}
use Rattle.std.proofs.lemmas.Bool.{false≢true, eq-eqb}
use Rattle.std.specs.Prelude.{find, filter}
use Rattle.std.specs.List.{list_any}
use Rattle.std.specs.Option.{option_map}
use Rattle.bcv_base.specs.declared.id.Id16.{Id16}
use Rattle.bcv_model.specs.declared.ask.Ask.{Ask}
use Rattle.bcv_model.specs.declared.event.Act.{Act}
use Rattle.bcv_model.specs.declared.event.Event.{Event}
use Rattle.bcv_model.specs.declared.reply.Reply.{Reply}
use Rattle.bcv_model.specs.declared.reply.Reply.TheVariants as reply
use Rattle.bcv_model.specs.declared.reply.Said.{Said}
use Rattle.bcv_machine.specs.ManifestPut.{intent_of, pending_of, taken_by, with_intent}
use Rattle.bcv_machine.specs.Noting.{kept_after, Notes}
use Rattle.bcv_machine.specs.Reading.{is_job_of}
use Rattle.bcv_machine.specs.Refusals.{ends_pending, is_busy, first_reason, has_all_tasks, then_kind, start_refusal, resolve_refusal}
use Rattle.bcv_machine.specs.Run.{Run}
use Rattle.bcv_machine.specs.SingleLaw.{busy_jobs, FitsJob, FitsPending, IsSingleUp, IsSingle}
use Rattle.bcv_machine.specs.Starting.{started}
use Rattle.bcv_machine.specs.State.{State, Side, Client, Up, Task, Job, Fetching, Polling, Publishing, Resolving, Kind, Note, Finishing, Voiding, Pending, KeptState, Publication, first_state, client_at, with_task}
use Rattle.bcv_machine.specs.Step.{Choice, Next, give_back}
use Rattle.bcv_machine.proofs.Moves as m
use Rattle.bcv_machine.proofs.Moves.{Move, IsPlain, IsFetch, IsPoll}
use Rattle.bcv_machine.proofs.Publishing as p
use Rattle.bcv_machine.proofs.Publishing.{PublicationMove, GoesOnAs, Voids, intended_side, appended_side}
use Rattle.bcv_machine.proofs.ActMoves as w
use Rattle.bcv_machine.proofs.ActMoves.{ActMove, TakesOut}
use Rattle.bcv_machine.proofs.Clients.{by_test, Became, Unmoved, Moved, became, was_there, first_client}

-- ---- lists of tasks

-- the list with a task first, by whether its job is busy
abbrev with_job : Bool → Job → List Job → List Job
with_job b j js = if b then j ∷ js else js

-- a filter leaves no busy task where there is none
none_left : (f : Task → Bool) (ts : List Task) → busy_jobs ts ≡ [] → busy_jobs (filter f ts) ≡ []
none_left f [] h = refl
none_left f (t ∷ ts) h =
    by_test {G = busy_jobs (filter f (t ∷ ts)) ≡ []} (ends_pending t.job)
    (λ e. absurd (is_cons t.job (busy_jobs ts) (sym (ap (λ (b : Bool). with_job b t.job (busy_jobs ts)) e) ∙ h)))
    (λ e. let rest : busy_jobs (filter f ts) ≡ [] = none_left f ts (sym (ap (λ (b : Bool). with_job b t.job (busy_jobs ts)) e) ∙ h) in
    by_test {G = busy_jobs (filter f (t ∷ ts)) ≡ []} (f t)
    (λ g. ap (λ (b : Bool). busy_jobs (if b then t ∷ filter f ts else filter f ts)) g ∙ ap (λ (b : Bool). with_job b t.job (busy_jobs (filter f ts))) e ∙ rest)
    (λ g. ap (λ (b : Bool). busy_jobs (if b then t ∷ filter f ts else filter f ts)) g ∙ rest))
  where
    is_cons : (j : Job) (js : List Job) → j ∷ js ≡ [] → ⊥
    is_cons j js h = absurd (cc)

-- one that fits has no second one
no_second : (j : Job) (js : List Job) (pending : Option Pending) → FitsPending (j ∷ js) pending → js ≡ []
no_second j [] pending fits = refl
no_second j (k ∷ js) pending fits = absurd fits

-- what fits still does where tasks are taken out
fits_left : (f : Task → Bool) (ts : List Task) (pending : Option Pending) → FitsPending (busy_jobs ts) pending → FitsPending (busy_jobs (filter f ts)) pending
fits_left f [] pending fits = tt
fits_left f (t ∷ ts) pending fits =
    by_test {G = FitsPending (busy_jobs (filter f (t ∷ ts))) pending} (ends_pending t.job)
    (λ e. let one : FitsPending (t.job ∷ busy_jobs ts) pending = subst (λ (b : Bool). FitsPending (with_job b t.job (busy_jobs ts)) pending) e fits in
    let alone : busy_jobs ts ≡ [] = no_second t.job (busy_jobs ts) pending one in
    let rest : busy_jobs (filter f ts) ≡ [] = none_left f ts alone in
    by_test {G = FitsPending (busy_jobs (filter f (t ∷ ts))) pending} (f t)
    (λ g. subst (λ (b : Bool). FitsPending (busy_jobs (if b then t ∷ filter f ts else filter f ts)) pending) (sym g)
    (subst (λ (b : Bool). FitsPending (with_job b t.job (busy_jobs (filter f ts))) pending) (sym e)
    (subst (λ (js : List Job). FitsPending (t.job ∷ js) pending) (sym rest) (subst (λ (js : List Job). FitsPending (t.job ∷ js) pending) alone one))))
    (λ g. subst (λ (b : Bool). FitsPending (busy_jobs (if b then t ∷ filter f ts else filter f ts)) pending) (sym g) (subst (λ (js : List Job). FitsPending js pending) (sym rest) tt)))
    (λ e. let rest : FitsPending (busy_jobs (filter f ts)) pending = fits_left f ts pending (subst (λ (b : Bool). FitsPending (with_job b t.job (busy_jobs ts)) pending) e fits) in
    by_test {G = FitsPending (busy_jobs (filter f (t ∷ ts))) pending} (f t)
    (λ g. subst (λ (b : Bool). FitsPending (busy_jobs (if b then t ∷ filter f ts else filter f ts)) pending) (sym g)
    (subst (λ (b : Bool). FitsPending (with_job b t.job (busy_jobs (filter f ts))) pending) (sym e) rest))
    (λ g. subst (λ (b : Bool). FitsPending (busy_jobs (if b then t ∷ filter f ts else filter f ts)) pending) (sym g) rest))

-- a busy task that is found is the one, and none is left without it
abbrev numbered : ℕ → List Task → Option Task
numbered n ts = find (λ (t : Task). t.number == n) ts

abbrev without : ℕ → List Task → List Task
without n ts = filter (λ (t : Task). not (t.number == n)) ts

found_busy : (n : ℕ) (ts : List Task) (x : Task) → numbered n ts ≡ Some x → ends_pending x.job ≡ true → (j : Job) × (js : List Job) × (busy_jobs ts ≡ j ∷ js)
found_busy n [] x h e = absurd (cc)
found_busy n (t ∷ ts) x h e =
    by_test {G = (j : Job) × (js : List Job) × (busy_jobs (t ∷ ts) ≡ j ∷ js)} (ends_pending t.job)
    (λ b. (t.job, busy_jobs ts, ap (λ (c : Bool). with_job c t.job (busy_jobs ts)) b))
    (λ b. by_test {G = (j : Job) × (js : List Job) × (busy_jobs (t ∷ ts) ≡ j ∷ js)} (t.number == n)
    (λ f. let one : t ≡ x = (let some : Some t ≡ Some x = sym (ap (λ (c : Bool). if c then Some t else numbered n ts) f) ∙ h in cc) in
    absurd (false≢true (sym b ∙ ap (λ (z : Task). ends_pending z.job) one ∙ e)))
    (λ f. let later = found_busy n ts x (sym (ap (λ (c : Bool). if c then Some t else numbered n ts) f) ∙ h) e in
    (later.0, later.1, ap (λ (c : Bool). with_job c t.job (busy_jobs ts)) b ∙ later.2)))

taken_out : (n : ℕ) (ts : List Task) (x : Task) (pending : Option Pending) → numbered n ts ≡ Some x → ends_pending x.job ≡ true → FitsPending (busy_jobs ts) pending
    → FitsJob x.job pending × (busy_jobs (without x.number ts) ≡ [])
taken_out n [] x pending h e fits = absurd (cc)
taken_out n (t ∷ ts) x pending h e fits =
    let G = FitsJob x.job pending × (busy_jobs (without x.number (t ∷ ts)) ≡ []) in
    by_test {G = G} (t.number == n)
    (λ f. let one : t ≡ x = (let some : Some t ≡ Some x = sym (ap (λ (c : Bool). if c then Some t else numbered n ts) f) ∙ h in cc) in
    let busy : ends_pending t.job ≡ true = ap (λ (z : Task). ends_pending z.job) one ∙ e in
    let first : FitsPending (t.job ∷ busy_jobs ts) pending = subst (λ (b : Bool). FitsPending (with_job b t.job (busy_jobs ts)) pending) busy fits in
    let alone : busy_jobs ts ≡ [] = no_second t.job (busy_jobs ts) pending first in (
      subst (λ (z : Task). FitsJob z.job pending) one (subst (λ (js : List Job). FitsPending (t.job ∷ js) pending) alone first),
      ap (λ (b : Bool). busy_jobs (if not b then t ∷ without x.number ts else without x.number ts)) (eq-eqb t.number x.number (ap (λ (z : Task). z.number) one)) ∙ none_left (λ (y : Task). not (y.number == x.number)) ts alone,
    ))
    (λ f. let later : numbered n ts ≡ Some x = sym (ap (λ (c : Bool). if c then Some t else numbered n ts) f) ∙ h in
    by_test {G = G} (ends_pending t.job)
    (λ b. let second = found_busy n ts x later e in
    let first : FitsPending (t.job ∷ busy_jobs ts) pending = subst (λ (c : Bool). FitsPending (with_job c t.job (busy_jobs ts)) pending) b fits in
    absurd (two second.0 second.1 (sym second.2 ∙ no_second t.job (busy_jobs ts) pending first)))
    (λ b. let rest = taken_out n ts x pending later e (subst (λ (c : Bool). FitsPending (with_job c t.job (busy_jobs ts)) pending) b fits) in (
      rest.0,
      by_test {G = busy_jobs (without x.number (t ∷ ts)) ≡ []} (t.number == x.number)
          (λ g. ap (λ (c : Bool). busy_jobs (if not c then t ∷ without x.number ts else without x.number ts)) g ∙ rest.1)
          (λ g. ap (λ (c : Bool). busy_jobs (if not c then t ∷ without x.number ts else without x.number ts)) g ∙ ap (λ (c : Bool). with_job c t.job (busy_jobs (without x.number ts))) b ∙ rest.1),
    )))
  where
    two : (j : Job) (js : List Job) → j ∷ js ≡ [] → ⊥
    two j js h = absurd (cc)

-- one more task at the end
one_more : (ts : List Task) (t : Task) → busy_jobs (ts ++ t ∷ []) ≡ busy_jobs ts ++ with_job (ends_pending t.job) t.job []
one_more [] t = refl
one_more (x ∷ ts) t =
    by_test {G = busy_jobs (x ∷ (ts ++ t ∷ [])) ≡ busy_jobs (x ∷ ts) ++ with_job (ends_pending t.job) t.job []} (ends_pending x.job)
    (λ e. ap (λ (b : Bool). with_job b x.job (busy_jobs (ts ++ t ∷ []))) e ∙ ap (λ (js : List Job). x.job ∷ js) (one_more ts t) ∙ sym (ap (λ (b : Bool). with_job b x.job (busy_jobs ts) ++ with_job (ends_pending t.job) t.job []) e))
    (λ e. ap (λ (b : Bool). with_job b x.job (busy_jobs (ts ++ t ∷ []))) e ∙ one_more ts t ∙ sym (ap (λ (b : Bool). with_job b x.job (busy_jobs ts) ++ with_job (ends_pending t.job) t.job []) e))

-- no busy task where none is found
not_busy : (u : Up) → is_busy u ≡ false → busy_jobs u.tasks ≡ []
not_busy u h = of_list u.tasks h
  where
    of_list : (ts : List Task) → list_any (λ (t : Task). ends_pending t.job) ts ≡ false → busy_jobs ts ≡ []
    of_list [] h = refl
    of_list (t ∷ ts) h =
        by_test {G = busy_jobs (t ∷ ts) ≡ []} (ends_pending t.job)
        (λ e. absurd (false≢true (sym h ∙ ap (λ (b : Bool). b || list_any (λ (t : Task). ends_pending t.job) ts) e)))
        (λ e. ap (λ (b : Bool). with_job b t.job (busy_jobs ts)) e ∙ of_list ts (sym (ap (λ (b : Bool). b || list_any (λ (t : Task). ends_pending t.job) ts) e) ∙ h))

-- ---- what a start finds

no_more : (b c : Bool) (r : Reply) → ◌≡◌ {A = Option Reply} (Some r) None → (b ≡ false) × (c ≡ false)
no_more b c r h = absurd (cc)

free_to_start : (k : KeptState) (u : Up) (kind : Kind) → start_refusal k u kind ≡ None → (is_some k.pending ≡ false) × (is_busy u ≡ false)
free_to_start k u kind h = of_tests u.closed (is_some k.pending) (is_busy u) h
  where
    of_tests : (a b c : Bool) → then_kind k u kind (first_reason ((a, reply.Closed) ∷ (b, reply.Pending) ∷ (c, reply.Busy) ∷ [])) ≡ None → (b ≡ false) × (c ≡ false)
    of_tests true b c h = no_more b c reply.Closed h
    of_tests false true c h = no_more true c reply.Pending h
    of_tests false false true h = no_more false true reply.Busy h
    of_tests false false false h = (refl, refl)

free_to_resolve : (k : KeptState) (u : Up) → resolve_refusal k u ≡ None → (is_none k.pending ≡ false) × (is_busy u ≡ false)
free_to_resolve k u h = of_tests u.closed (is_busy u) (is_none k.pending) h
  where
    of_tests : (a b c : Bool) → first_reason ((a, reply.Closed) ∷ (b, reply.Busy) ∷ (c, reply.Nothing) ∷ (has_all_tasks u, reply.TooMany) ∷ []) ≡ None → (c ≡ false) × (b ≡ false)
    of_tests true b c h = no_more c b reply.Closed h
    of_tests false true c h = no_more c true reply.Busy h
    of_tests false false true h = no_more true false reply.Nothing h
    of_tests false false false h = (refl, refl)

is_none_pending : (p : Option Pending) → is_some p ≡ false → p ≡ None
is_none_pending None h = refl
is_none_pending (Some x) h = absurd (false≢true (sym h))

is_some_pending : (p : Option Pending) → is_none p ≡ false → IsSome p
is_some_pending None h = absurd (false≢true (sym h))
is_some_pending (Some x) h = refl

-- ---- one move

abbrev SingleSide : Side → Type 0
SingleSide t = IsSingle t.client

note_end : (s : Side) (u : Up) (x : Note) (r : Reply) (d : Client) → FitsPending (busy_jobs u.tasks) s.client.kept.pending → Notes s u x (Some r) d → IsSingle d
note_end s u x reply.JournalFull d fits h = subst IsSingle (sym h.1) fits
note_end s u x reply.DiskFault d fits h = subst IsSingle (sym h.1) fits
note_end s u x reply.Crashed d fits h = subst IsSingle (sym h.1) tt
note_end s u x _ d fits h = absurd h

-- where no task is busy anything may be pending
fits_alone : (ts : List Task) (pending : Option Pending) → busy_jobs ts ≡ [] → FitsPending (busy_jobs ts) pending
fits_alone ts pending h = subst (λ (js : List Job). FitsPending js pending) (sym h) tt

-- with one more task
fits_more : (u : Up) (n : ℕ) (job : Job) (pending : Option Pending) → busy_jobs u.tasks ≡ [] → ends_pending job ≡ true → FitsJob job pending → FitsPending (busy_jobs (with_task u n job).tasks) pending
fits_more u n job pending alone busy fits =
    subst (λ (js : List Job). FitsPending js pending)
    (sym (one_more u.tasks (record { number = n; job = job }) ∙ ap (λ (js : List Job). js ++ with_job (ends_pending job) job []) alone ∙ ap (λ (b : Bool). with_job b job []) busy)) fits

fits_plain : (u : Up) (n : ℕ) (job : Job) (pending : Option Pending) → IsPlain job → FitsPending (busy_jobs u.tasks) pending → FitsPending (busy_jobs (with_task u n job).tasks) pending
fits_plain u n job pending plain fits =
    subst (λ (js : List Job). FitsPending js pending) (sym (one_more u.tasks (record { number = n; job = job }) ∙ ap (λ (b : Bool). busy_jobs u.tasks ++ with_job b job []) (not_busy_job job plain) ∙ append-nil (busy_jobs u.tasks))) fits
  where
    not_busy_job : (job : Job) → IsPlain job → ends_pending job ≡ false
    not_busy_job (Fetching access t p) plain = refl
    not_busy_job Polling plain = refl
    not_busy_job (Publishing p) plain = elim plain [ ]
    not_busy_job Resolving plain = elim plain [ ]

asked : (b : Bool) (s : Side) (u : Up) (a : Ask) (r : Reply) (t : Side) → FitsPending (busy_jobs u.tasks) s.client.kept.pending → (b ≡ true → busy_jobs u.tasks ≡ []) → Move b s u a r t → SingleSide t
asked b s u a r t fits alone (m.Stays h) = subst SingleSide (sym h) fits
asked b s u a r t fits alone (m.Begun x free h) = subst SingleSide (sym h) fits
asked b s u a r t fits alone (m.Held n x held is h) = subst SingleSide (sym h) fits
asked b s u a r t fits alone (m.Ended n h) = subst SingleSide (sym h) (fits_left (λ (t : Task). not (is_job_of n t.job)) u.tasks s.client.kept.pending fits)
asked b s u a r t fits alone (m.Tasked n job plain h) = subst SingleSide (sym h) (fits_plain u n job s.client.kept.pending plain fits)
asked b s u a r t fits alone (m.Started n kind id none h) =
    let free = free_to_start s.client.kept u kind none in
    subst SingleSide (sym h) (fits_more u n (Publishing (started s.container kind id)) s.client.kept.pending (not_busy u free.1) refl (is_none_pending s.client.kept.pending free.0))
asked b s u a r t fits alone (m.Asked n none h) =
    let free = free_to_resolve s.client.kept u none in
    subst SingleSide (sym h) (fits_more u n Resolving s.client.kept.pending (not_busy u free.1) refl (is_some_pending s.client.kept.pending free.0))
asked b s u a r t fits alone (m.Failed x f) = note_end s u x r t.client fits f.1
asked b s u a r t fits alone (m.Committed db base c h) = subst SingleSide (sym h) fits
asked b s u a r t fits alone (m.Reverted db d isa isr h) = subst SingleSide (sym h) fits
asked b s u a r t fits alone (m.Polled known h) = subst SingleSide (sym h) fits
asked b s u a r t fits alone (m.Resolved n known isb isr h) = subst SingleSide (sym h) (fits_alone u.tasks (kept_after s.client.kept (Finishing n)).pending (alone isb))
asked b s u a r t fits alone (m.Voided isb h) = subst SingleSide (sym h) (fits_alone u.tasks None (alone isb))

-- ---- a step of a publication

-- a client that is up has no busy task
abbrev AloneUp : Option Up → Type 0
AloneUp None = Unit {0}
AloneUp (Some v) = busy_jobs v.tasks ≡ []

single_alone : (o : Option Up) (pending : Option Pending) → AloneUp o → IsSingleUp o pending
single_alone None pending h = tt
single_alone (Some v) pending h = subst (λ (js : List Job). FitsPending js pending) (sym h) tt

abbrev up_in : Side → Option Up
up_in s = s.client.up

alone_at : (o : Option Up) (v : Up) → o ≡ Some v → busy_jobs v.tasks ≡ [] → AloneUp o
alone_at o v h alone = subst AloneUp (sym h) alone

note_alone : (s : Side) (u : Up) (x : Note) (r : Reply) (d : Client) → busy_jobs u.tasks ≡ [] → Notes s u x (Some r) d → AloneUp d.up
note_alone s u x reply.JournalFull d alone h = alone_at d.up u (ap (λ (c : Client). c.up) h.1) alone
note_alone s u x reply.DiskFault d alone h = alone_at d.up (record u { closed = true }) (ap (λ (c : Client). c.up) h.1) alone
note_alone s u x reply.Crashed d alone h = subst AloneUp (sym (ap (λ (c : Client). c.up) h.1)) tt
note_alone s u x _ d alone h = absurd h

void_alone : (s : Side) (u : Up) (r : Reply) (t : Side) → busy_jobs u.tasks ≡ [] → Voids s u r t → AloneUp (up_in t)
void_alone s u r t alone (inl h) = alone_at (up_in t) u (ap up_in h) alone
void_alone s u r t alone (inr f) = note_alone s u Voiding r t.client alone f.1

intended_up : (i : Bool) (s : Side) (u : Up) (q : Publication) → up_in (with_intent i s u q) ≡ Some u
intended_up true s u q = refl
intended_up false s u q = refl

-- the intent makes the publication the pending one
pub intended_pending : (i : Bool) (s : Side) (u : Up) (q : Publication) → s.client.kept.pending ≡ (if i then Some (pending_of q) else None) → (with_intent i s u q).client.kept.pending ≡ Some (pending_of q)
intended_pending true s u q h = h
intended_pending false s u q h = refl

-- what goes on is the same publication
same_pending : (i : Bool) (p q : Publication) → GoesOnAs i p q → pending_of q ≡ pending_of p
same_pending i p q g =
    ap (λ (x : Id16). let y : Pending = record { id = x; upload = taken_by q.kind } in y) g.id ∙ ap (λ (k : Kind). let y : Pending = record { id = p.id; upload = taken_by k } in y) g.kind

-- the publication is given back
given : (t : Side) (u : Up) (n : ℕ) (q : Publication) (back : Option Publication) → up_in t ≡ Some u → busy_jobs u.tasks ≡ [] → back ≡ Some q → t.client.kept.pending ≡ (if q.intended then Some (pending_of q) else None) → SingleSide (give_back n back t)
given t u n q back up alone is fits =
    subst (λ (b : Option Publication). SingleSide (give_back n b t)) (sym is)
    (subst (λ (o : Option Up). IsSingleUp (option_map (λ (v : Up). with_task v n (Publishing q)) o) t.client.kept.pending) (sym up) (fits_more u n (Publishing q) t.client.kept.pending alone refl fits))

-- nothing is given back
not_given : (t : Side) (n : ℕ) (back : Option Publication) → back ≡ None → AloneUp (up_in t) → SingleSide (give_back n back t)
not_given t n back is alone = subst (λ (b : Option Publication). SingleSide (give_back n b t)) (sym is) (single_alone (up_in t) t.client.kept.pending alone)

published : (s : Side) (u : Up) (q : Publication) (k : Option ℕ) (r : Reply) (t : Side) (back : Option Publication) (n : ℕ) → busy_jobs u.tasks ≡ [] → FitsJob (Publishing q) s.client.kept.pending
    → PublicationMove s u q k r t back → SingleSide (give_back n back t)
published s u q k r t back n alone fits (p.Goes x g but like h is given_q) =
    given t u n g back (ap up_in h) alone given_q
    (ap (λ (z : Side). z.client.kept.pending) h ∙ ap (λ (c : Client). c.kept.pending) but.client ∙ fits
    ∙ sym (ap (λ (b : Bool). if b then Some (pending_of g) else None) like.is_intended ∙ ap (λ (x : Pending). if q.intended then Some x else None) (same_pending q.intended q g like)))
published s u q k r t back n alone fits (p.EndsPlainly x but h is gone) = not_given t n back gone (alone_at (up_in t) u (ap up_in h) alone)
published s u q k r t back n alone fits (p.EndsVoided x but v is gone) = not_given t n back gone (void_alone x u r t alone v)
published s u q k r t back n alone fits (p.Unintended f is gone) = not_given t n back gone (note_alone s u (intent_of q) r t.client alone f.1)
published s u q k r t back n alone fits (p.Again g like h is given_q) =
    given t u n g back (ap up_in h ∙ intended_up q.intended s u q) alone given_q
    (ap (λ (z : Side). z.client.kept.pending) h ∙ intended_pending q.intended s u q fits
    ∙ sym (ap (λ (b : Bool). if b then Some (pending_of g) else None) like.is_intended ∙ ap Some (same_pending true q g like)))
published s u q k r t back n alone fits (p.Refused v is gone) = not_given t n back gone (void_alone (intended_side s u q) u r t alone v)
published s u q k r t back n alone fits (p.Unknown h is gone) = not_given t n back gone (alone_at (up_in t) u (ap up_in h ∙ intended_up q.intended s u q) alone)
published s u q k r t back n alone fits (p.Lost v f h is gone) = not_given t n back gone (alone_at (up_in t) u (ap up_in h ∙ intended_up q.intended s u q) alone)
published s u q k r t back n alone fits (p.Made v f done h is gone) = not_given t n back gone (alone_at (up_in t) _ (ap up_in h) alone)
published s u q k r t back n alone fits (p.Unfinished v j f fail is gone) = not_given t n back gone (note_alone (appended_side s u q v) u (Finishing j) r t.client alone fail.1)

-- ---- an act

-- the tasks that are left where one is taken out
fits_out : (u : Up) (number : ℕ) (job : Job) (rest : Up) (pending : Option Pending) → TakesOut u number job rest → FitsPending (busy_jobs u.tasks) pending → FitsPending (busy_jobs rest.tasks) pending
fits_out u number job rest pending out fits = subst (λ (v : Up). FitsPending (busy_jobs v.tasks) pending) (sym out.left) (fits_left (λ (t : Task). not (t.number == number)) u.tasks pending fits)

pub busy_out : (u : Up) (number : ℕ) (job : Job) (rest : Up) (pending : Option Pending) → TakesOut u number job rest → ends_pending job ≡ true → FitsPending (busy_jobs u.tasks) pending
    → FitsJob job pending × (busy_jobs rest.tasks ≡ [])
busy_out u number job rest pending out busy fits =
    let r = taken_out out.asked u.tasks out.task pending out.found (ap ends_pending out.is_job ∙ busy) fits in
    (subst (λ (j : Job). FitsJob j pending) out.is_job r.0, ap (λ (v : Up). busy_jobs v.tasks) out.left ∙ ap (λ (k : ℕ). busy_jobs (without k u.tasks)) (sym out.is_number) ∙ r.1)

acted : (s : Side) (what : Act) (said : Said) (t : Side) → SingleSide s → ActMove s what said t → SingleSide t
acted s what said t single (w.Left all is) =
    subst (λ (o : Option Up). IsSingleUp o t.client.kept.pending) (sym all.up) (subst (λ (k : KeptState). IsSingleUp s.client.up k.pending) (sym all.kept) single)
acted s what said t single (w.Asked u a o up isa move is) =
    asked false s u a said.reply t (subst (λ (o : Option Up). IsSingleUp o s.client.kept.pending) up single) (λ e. absurd (false≢true e)) move
acted s what said t single (w.Stepped u rest a o number job up isa out move is) =
    let fits : FitsPending (busy_jobs u.tasks) s.client.kept.pending = subst (λ (o : Option Up). IsSingleUp o s.client.kept.pending) up single in
    asked (ends_pending job) s rest a said.reply t (fits_out u number job rest s.client.kept.pending out fits) (λ e. (busy_out u number job rest s.client.kept.pending out e fits).1) move
acted s what said t single (w.Published u rest a o number q mid back up isa out move h) =
    let fits : FitsPending (busy_jobs u.tasks) s.client.kept.pending = subst (λ (o : Option Up). IsSingleUp o s.client.kept.pending) up single in
    let busy = busy_out u number (Publishing q) rest s.client.kept.pending out refl fits in
    subst SingleSide (sym h) (published s rest q said.published said.reply mid back number busy.1 busy.0 move)
acted s what said t single (w.Crashed h is) = subst SingleSide (sym h) tt
acted s what said t single (w.Rose k isa left h is) = subst SingleSide (sym h) tt

-- ---- an event, and a run

of_client : (a : State) (e : Event) (s : Said) (n : ℕ) (x y : Client) → Became a e s n x y → IsSingle x → IsSingle y
of_client a e s n x y (Unmoved h) single = subst IsSingle (sym h) single
of_client a e s n x y (Moved what t is move h) single = subst IsSingle (sym h) (acted (record { container = a.container; client = x }) what s t single move)

pub stays_single : (a b : State) (e : Event) (s : Said) (c : Choice) → Next a e s c b → (n : ℕ) (before after : Client) → client_at a n ≡ Some before → client_at b n ≡ Some after → IsSingle before → IsSingle after
stays_single a b e s c h n before after was is single = of_client a e s n before after (became a b e s c h n before after was is) single

all_stay_single : (a b : State) (es : List Event) (ss : List Said) (cs : List Choice) → Run a es ss cs b → ((n : ℕ) (x : Client) → client_at a n ≡ Some x → IsSingle x)
    → (n : ℕ) (x : Client) → client_at b n ≡ Some x → IsSingle x
all_stay_single a b [] [] [] h first n x is = first n x (ap (λ (z : State). client_at z n) (sym h) ∙ is)
all_stay_single a b [] [] (c ∷ cs) h first n x is = absurd h
all_stay_single a b [] (s ∷ ss) cs h first n x is = absurd h
all_stay_single a b (e ∷ es) [] cs h first n x is = absurd h
all_stay_single a b (e ∷ es) (s ∷ ss) [] h first n x is = absurd h
all_stay_single a b (e ∷ es) (s ∷ ss) (c ∷ cs) h first n x is =
    all_stay_single h.0 b es ss cs h.2
    (λ (k : ℕ) (y : Client) there. let before = was_there a h.0 e s c h.1 k y there in stays_single a h.0 e s c h.1 k before.0 y before.1 there (first k before.0 before.1)) n x is

new_single : (clients slots n : ℕ) (x : Client) → client_at (first_state clients slots) n ≡ Some x → IsSingle x
new_single clients slots n x h = subst IsSingle (first_client clients slots n x h) tt

pub always_single : (clients slots : ℕ) (b : State) (es : List Event) (ss : List Said) (cs : List Choice) → Run (first_state clients slots) es ss cs b → (n : ℕ) (x : Client) → client_at b n ≡ Some x → IsSingle x
always_single clients slots b es ss cs h n x is = all_stay_single (first_state clients slots) b es ss cs h (new_single clients slots) n x is
