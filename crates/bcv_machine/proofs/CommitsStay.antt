-- Acknowledged commits leave only at a Done, a Resolved or a Revert.
use Rattle.std.proofs.Common.{◌≡◌, ◌⊎◌, ◌∙◌, ℕ, ◌+◌, Bool, true, false, List, [], ◌∷◌, ◌++◌, Option, Some, None, if◌then◌else◌, refl, sym, ap, subst, inl, inr, append-nil}
use Rattle.std.proofs.lemmas.Bool.{false≢true}
use Rattle.std.proofs.lemmas.Slice.Eq.{bytes_eq-Decides}
use Rattle.std.specs.Str.{bytes_eq}
use Rattle.bcv_base.specs.declared.outcome.Outcome.{Outcome}
use Rattle.bcv_base.specs.Image.{Writes}
use Rattle.bcv_base.specs.Version.{Version}
use Rattle.bcv_base.specs.Keyed.{keyed, with_keyed, comes_before}
use Rattle.bcv_model.specs.declared.ask.Ask.{Ask}
use Rattle.bcv_model.specs.declared.ask.Ask.TheVariants as ask
use Rattle.bcv_model.specs.declared.event.Act.{Act}
use Rattle.bcv_model.specs.declared.event.Act.TheVariants as act
use Rattle.bcv_model.specs.declared.event.Event.{Event}
use Rattle.bcv_model.specs.declared.event.Event.TheVariants as event
use Rattle.bcv_model.specs.declared.reply.Reply.{Reply}
use Rattle.bcv_model.specs.declared.reply.Reply.TheVariants as reply
use Rattle.bcv_model.specs.declared.reply.Said.{Said}
use Rattle.bcv_machine.specs.CommitLaw.{CommitsStay, TakesCommits, TellsOfPublication, GivesUp, MayTakeCommits, MayTakeOf}
use Rattle.bcv_machine.specs.CrashAndUp.{MayBeLeft}
use Rattle.bcv_machine.specs.ManifestPut.{intent_of, with_intent, taken_by, done_reply, finished}
use Rattle.bcv_machine.specs.Noting.{kept_after, kept_published, locals_published, with_commit, Notes, NoteFails}
use Rattle.bcv_machine.specs.Refusals.{ends_pending}
use Rattle.bcv_machine.specs.Run.{Run}
use Rattle.bcv_machine.specs.SingleLaw.{FitsJob, IsSingleUp, IsSingle}
use Rattle.bcv_machine.specs.State.{State, first_state, Side, Client, KeptState, LocalDb, Note, Committing, Reverting, Intending, Finishing, Voiding, Up, Kind, Creating, Making, Uploading, Copying, Removing, Cleaning, Publication, Publishing, Pending, Taken, client_at, version_count, commits_in, local_commits, local_name}
use Rattle.bcv_machine.specs.Step.{Choice, Next, give_back}
use Rattle.bcv_machine.proofs.Moves as m
use Rattle.bcv_machine.proofs.Moves.{Move}
use Rattle.bcv_machine.proofs.Publishing as p
use Rattle.bcv_machine.proofs.Publishing.{PublicationMove, Voids, intended_side, appended_side}
use Rattle.bcv_machine.proofs.ActMoves as w
use Rattle.bcv_machine.proofs.ActMoves.{ActMove}
use Rattle.bcv_machine.proofs.Single.{always_single, busy_out, intended_pending}
use Rattle.bcv_machine.proofs.Clients.{by_test, Became, Unmoved, Moved, became}

-- ---- one more commit

over : (a b : Bool) (d x : LocalDb) (o : Option LocalDb) → (a ≡ false → b ≡ false) → (if a then Some d else o) ≡ (if a then Some d else (if b then Some x else o))
over true b d x o f = refl
over false b d x o f = sym (ap (λ (c : Bool). if c then Some x else o) (f refl))

past : (a b : Bool) (d x : LocalDb) (o : Option LocalDb) → (a ≡ true → b ≡ true → ⊥) → (if b then Some x else (if a then Some d else o)) ≡ (if a then Some d else (if b then Some x else o))
past true true d x o f = absurd (f refl refl)
past true false d x o f = refl
past false b d x o f = refl

-- a name that is the one of both is one name
two_names : (a b k : List ℕ) → bytes_eq a b ≡ false → bytes_eq b k ≡ true → bytes_eq a k ≡ true → ⊥
two_names a b k ne f g = false≢true (sym ne ∙ (bytes_eq-Decides a b).1 ((bytes_eq-Decides a k).0 g ∙ sym ((bytes_eq-Decides b k).0 f)))

-- what a look-up finds once a database was put at its place
keyed_with : (d : LocalDb) (k : List ℕ) (ls : List LocalDb) → keyed local_name k (with_keyed local_name d ls) ≡ (if bytes_eq d.name k then Some d else keyed local_name k ls)
keyed_with d k [] = refl
keyed_with d k (x ∷ xs) =
    let G = keyed local_name k (with_keyed local_name d (x ∷ xs)) ≡ (if bytes_eq d.name k then Some d else keyed local_name k (x ∷ xs)) in
    let rest = if comes_before d.name x.name then d ∷ x ∷ xs else x ∷ with_keyed local_name d xs in
    by_test {G = G} (bytes_eq x.name d.name)
    (λ e. ap (λ (b : Bool). keyed local_name k (if b then d ∷ xs else rest)) e
    ∙ over (bytes_eq d.name k) (bytes_eq x.name k) d x (keyed local_name k xs) (λ n. ap (λ (name : List ℕ). bytes_eq name k) ((bytes_eq-Decides x.name d.name).0 e) ∙ n))
    (λ e. ap (λ (b : Bool). keyed local_name k (if b then d ∷ xs else rest)) e
    ∙ by_test {G = keyed local_name k rest ≡ (if bytes_eq d.name k then Some d else keyed local_name k (x ∷ xs))} (comes_before d.name x.name)
    (λ f. ap (λ (b : Bool). keyed local_name k (if b then d ∷ x ∷ xs else x ∷ with_keyed local_name d xs)) f)
    (λ f. ap (λ (b : Bool). keyed local_name k (if b then d ∷ x ∷ xs else x ∷ with_keyed local_name d xs)) f ∙ ap (λ (o : Option LocalDb). if bytes_eq x.name k then Some x else o) (keyed_with d k xs)
    ∙ past (bytes_eq d.name k) (bytes_eq x.name k) d x (keyed local_name k xs) (two_names x.name d.name k e)))

found_name : (k : List ℕ) (ls : List LocalDb) (d : LocalDb) → keyed local_name k ls ≡ Some d → d.name ≡ k
found_name k [] d h = absurd (cc)
found_name k (x ∷ xs) d h =
    by_test {G = d.name ≡ k} (bytes_eq x.name k)
    (λ e. let is : x ≡ d = (let some : Some x ≡ Some d = sym (ap (λ (b : Bool). if b then Some x else keyed local_name k xs) e) ∙ h in cc) in ap local_name (sym is) ∙ (bytes_eq-Decides x.name k).0 e)
    (λ e. found_name k xs d (sym (ap (λ (b : Bool). if b then Some x else keyed local_name k xs) e) ∙ h))

-- a database with one more commit has the name
commit_name : (name : List ℕ) (base : ℕ) (c : Writes) (ls : List LocalDb) (o : Option LocalDb) → keyed local_name name ls ≡ o → (with_commit name base c o).name ≡ name
commit_name name base c ls None h = refl
commit_name name base c ls (Some d) h = found_name name ls d h

-- and one more commit
one_more : (name : List ℕ) (base : ℕ) (c : Writes) (o : Option LocalDb) → (with_commit name base c o).commits ≡ local_commits o ++ c ∷ []
one_more name base c None = refl
one_more name base c (Some d) = refl

committed : (name : List ℕ) (base : ℕ) (c : Writes) (ls : List LocalDb) (db : List ℕ)
    → (more : List Writes) × (commits_in (with_keyed local_name (with_commit name base c (keyed local_name name ls)) ls) db ≡ commits_in ls db ++ more)
committed name base c ls db =
    let d = with_commit name base c (keyed local_name name ls) in
    let look : keyed local_name db (with_keyed local_name d ls) ≡ (if bytes_eq d.name db then Some d else keyed local_name db ls) = keyed_with d db ls in
    by_test {G = (more : List Writes) × (commits_in (with_keyed local_name d ls) db ≡ commits_in ls db ++ more)} (bytes_eq d.name db)
    (λ e. let same : name ≡ db = sym (commit_name name base c ls (keyed local_name name ls) refl) ∙ (bytes_eq-Decides d.name db).0 e in (
      c ∷ [],
      ap local_commits look ∙ ap (λ (b : Bool). local_commits (if b then Some d else keyed local_name db ls)) e ∙ one_more name base c (keyed local_name name ls)
          ∙ ap (λ (k : List ℕ). local_commits (keyed local_name k ls) ++ c ∷ []) same,
    ))
    (λ e. ([], ap local_commits look ∙ ap (λ (b : Bool). local_commits (if b then Some d else keyed local_name db ls)) e ∙ sym (append-nil (commits_in ls db))))

-- ---- what stays

stay : (k l : KeptState) → l.locals ≡ k.locals → CommitsStay k l
stay k l h db = ([], ap (λ (ls : List LocalDb). commits_in ls db) h ∙ sym (append-nil (commits_in k.locals db)))

fails : (s : Side) (u : Up) (x : Note) (r : Reply) (d : Client) → Notes s u x (Some r) d → d.kept ≡ s.client.kept
fails s u x reply.JournalFull d h = ap (λ (c : Client). c.kept) h.1
fails s u x reply.DiskFault d h = ap (λ (c : Client). c.kept) h.1
fails s u x reply.Crashed d h = ap (λ (c : Client). c.kept) h.1
fails s u x _ d h = absurd h

abbrev locals_in : Side → List LocalDb
locals_in s = s.client.kept.locals

failed : (s : Side) (u : Up) (x : Note) (r : Reply) (t : Side) → NoteFails s u x r t → locals_in t ≡ locals_in s
failed s u x r t h = ap (λ (k : KeptState). k.locals) (fails s u x r t.client h.1)

asked : (b : Bool) (s : Side) (u : Up) (a : Ask) (r : Reply) (t : Side) → Move b s u a r t → CommitsStay s.client.kept t.client.kept ⊎ (TellsOfPublication r ⊎ GivesUp a r)
asked b s u a r t (m.Stays h) = inl (stay s.client.kept t.client.kept (ap locals_in h))
asked b s u a r t (m.Begun x free h) = inl (stay s.client.kept t.client.kept (ap locals_in h))
asked b s u a r t (m.Held n x held is h) = inl (stay s.client.kept t.client.kept (ap locals_in h))
asked b s u a r t (m.Ended n h) = inl (stay s.client.kept t.client.kept (ap locals_in h))
asked b s u a r t (m.Tasked n job plain h) = inl (stay s.client.kept t.client.kept (ap locals_in h))
asked b s u a r t (m.Started n kind id none h) = inl (stay s.client.kept t.client.kept (ap locals_in h))
asked b s u a r t (m.Asked n none h) = inl (stay s.client.kept t.client.kept (ap locals_in h))
asked b s u a r t (m.Failed x f) = inl (stay s.client.kept t.client.kept (failed s u x r t f))
asked b s u a r t (m.Committed db base c h) =
    inl (λ (k : List ℕ). let more = committed db base c s.client.kept.locals k in (more.0, ap (λ (x : Side). commits_in (locals_in x) k) h ∙ more.1))
asked b s u a r t (m.Reverted db d isa isr h) = inr (inr (subst (λ (x : Ask). GivesUp x r) (sym isa) (subst (λ (x : Reply). GivesUp (ask.Revert db) x) (sym isr) tt)))
asked b s u a r t (m.Polled known h) = inl (stay s.client.kept t.client.kept (ap locals_in h))
asked b s u a r t (m.Resolved n known isb isr h) = inr (inl (subst TellsOfPublication (sym isr) tt))
asked b s u a r t (m.Voided isb h) = inl (stay s.client.kept t.client.kept (ap locals_in h))

voided : (s : Side) (u : Up) (r : Reply) (t : Side) → Voids s u r t → locals_in t ≡ locals_in s
voided s u r t (inl h) = ap locals_in h
voided s u r t (inr f) = failed s u Voiding r t f

intended : (i : Bool) (s : Side) (u : Up) (q : Publication) → locals_in (with_intent i s u q) ≡ locals_in s
intended true s u q = refl
intended false s u q = refl

-- only a cleanup's answer is no Done, and a cleanup takes no commits
done_tells : (q : Publication) (kind : Kind) (n : ℕ) (more : Bool) (r : Reply) → done_reply q kind n more ≡ r → (taken_by kind ≡ None) ⊎ TellsOfPublication r
done_tells q (Creating block retention) n more r h = inr (subst TellsOfPublication h tt)
done_tells q (Making d page_size pages) n more r h = inr (subst TellsOfPublication h tt)
done_tells q (Uploading d base commits) n more r h = inr (subst TellsOfPublication h tt)
done_tells q (Copying x y) n more r h = inr (subst TellsOfPublication h tt)
done_tells q (Removing x) n more r h = inr (subst TellsOfPublication h tt)
done_tells q Cleaning n more r h = inl refl

made : (s : Side) (u : Up) (q : Publication) (n : ℕ) (v : Version) (r : Reply) (t : Side) → FitsJob (Publishing q) s.client.kept.pending → t ≡ finished (appended_side s u q v) u n v
    → (taken_by q.kind ≡ None) ⊎ TellsOfPublication r → CommitsStay s.client.kept t.client.kept ⊎ TellsOfPublication r
made s u q n v r t fits h (inl none) =
    let k : KeptState = (appended_side s u q v).client.kept in
    inl (stay s.client.kept t.client.kept (ap locals_in h ∙ ap (λ (o : Option Pending). (kept_published n o k).locals) (intended_pending q.intended s u q fits)
    ∙ ap (λ (x : Option Taken). locals_published n x k.locals) none ∙ intended q.intended s u q))
made s u q n v r t fits h (inr told) = inr told

published : (s : Side) (u : Up) (q : Publication) (n : Option ℕ) (r : Reply) (t : Side) (rest : Option Publication) → FitsJob (Publishing q) s.client.kept.pending → PublicationMove s u q n r t rest → CommitsStay s.client.kept t.client.kept ⊎ TellsOfPublication r
published s u q n r t rest fits (p.Goes x g but like h is back) = inl (stay s.client.kept t.client.kept (ap locals_in h ∙ ap (λ (c : Client). c.kept.locals) but.client))
published s u q n r t rest fits (p.EndsPlainly x but h is back) = inl (stay s.client.kept t.client.kept (ap locals_in h ∙ ap (λ (c : Client). c.kept.locals) but.client))
published s u q n r t rest fits (p.EndsVoided x but v is back) = inl (stay s.client.kept t.client.kept (voided x u r t v ∙ ap (λ (c : Client). c.kept.locals) but.client))
published s u q n r t rest fits (p.Unintended f is back) = inl (stay s.client.kept t.client.kept (failed s u (intent_of q) r t f))
published s u q n r t rest fits (p.Again g like h is back) = inl (stay s.client.kept t.client.kept (ap locals_in h ∙ intended q.intended s u q))
published s u q n r t rest fits (p.Refused v is back) = inl (stay s.client.kept t.client.kept (voided (intended_side s u q) u r t v ∙ intended q.intended s u q))
published s u q n r t rest fits (p.Unknown h is back) = inl (stay s.client.kept t.client.kept (ap locals_in h ∙ intended q.intended s u q))
published s u q n r t rest fits (p.Lost v f h is back) = inl (stay s.client.kept t.client.kept (ap locals_in h ∙ intended q.intended s u q))
published s u q n r t rest fits (p.Made v f done h is back) = made s u q (version_count s.container + 1) v r t fits h (done_tells q q.kind (version_count s.container + 1) done.0 r done.1)
published s u q n r t rest fits (p.Unfinished v k f fail is back) = inl (stay s.client.kept t.client.kept (failed (appended_side s u q v) u (Finishing k) r t fail ∙ intended q.intended s u q))

given_back : (n : ℕ) (back : Option Publication) (mid : Side) → (give_back n back mid).client.kept ≡ mid.client.kept
given_back n None mid = refl
given_back n (Some q) mid = refl

-- ---- an act

left_by : (x : Note) (k : KeptState) → CommitsStay k (kept_after k x) ⊎ TakesCommits (Some x)
left_by (Committing db base c) k = inl (committed db base c k.locals)
left_by (Reverting db) k = inr tt
left_by (Intending i) k = inl (stay k (kept_after k (Intending i)) refl)
left_by (Finishing n) k = inr tt
left_by Voiding k = inl (stay k (kept_after k Voiding) refl)

risen_with : (kept : KeptState) (flight : Option Note) (k : KeptState) → MayBeLeft kept flight k → CommitsStay kept k ⊎ TakesCommits flight
risen_with kept None k h = inl (stay kept k (ap (λ (x : KeptState). x.locals) h))
risen_with kept (Some x) k (inl h) = inl (stay kept k (ap (λ (x : KeptState). x.locals) h))
risen_with kept (Some x) k (inr h) = subst (λ (l : KeptState). CommitsStay kept l ⊎ TakesCommits (Some x)) (sym h) (left_by x kept)

at_ask : (s t : Side) (what : Act) (a : Ask) (o : Outcome) (r : Reply) → what ≡ act.Ask a o → CommitsStay s.client.kept t.client.kept ⊎ (TellsOfPublication r ⊎ GivesUp a r)
    → CommitsStay s.client.kept t.client.kept ⊎ MayTakeCommits what r s.client.flight
at_ask s t what a o r is (inl h) = inl h
at_ask s t what a o r is (inr h) = inr (subst (λ (x : Act). MayTakeCommits x r s.client.flight) (sym is) h)

no_gift : (s t : Side) (a : Ask) (r : Reply) → CommitsStay s.client.kept t.client.kept ⊎ TellsOfPublication r → CommitsStay s.client.kept t.client.kept ⊎ (TellsOfPublication r ⊎ GivesUp a r)
no_gift s t a r (inl h) = inl h
no_gift s t a r (inr h) = inr (inl h)

acted : (s : Side) (what : Act) (said : Said) (t : Side) → IsSingle s.client → ActMove s what said t → CommitsStay s.client.kept t.client.kept ⊎ MayTakeCommits what said.reply s.client.flight
acted s what said t single (w.Left all is) = inl (stay s.client.kept t.client.kept (ap (λ (k : KeptState). k.locals) all.kept))
acted s what said t single (w.Asked u a o up isa move is) = at_ask s t what a o said.reply isa (asked false s u a said.reply t move)
acted s what said t single (w.Stepped u rest a o number job up isa out move is) = at_ask s t what a o said.reply isa (asked (ends_pending job) s rest a said.reply t move)
acted s what said t single (w.Published u rest a o number q mid back up isa out move h) =
    subst (λ (k : KeptState). CommitsStay s.client.kept k ⊎ MayTakeCommits what said.reply s.client.flight) (sym (ap (λ (x : Side). x.client.kept) h ∙ given_back number back mid))
    (at_ask s mid what a o said.reply isa (no_gift s mid a said.reply (published s rest q said.published said.reply mid back (busy_out u number (Publishing q) rest s.client.kept.pending out refl (subst (λ (o : Option Up). IsSingleUp o s.client.kept.pending) up single)).0 move)))
acted s what said t single (w.Crashed h is) = inl (stay s.client.kept t.client.kept (ap locals_in h))
acted s what said t single (w.Rose k isa left h is) =
    subst (λ (l : KeptState). CommitsStay s.client.kept l ⊎ MayTakeCommits what said.reply s.client.flight) (sym (ap (λ (x : Side). x.client.kept) h))
    (subst (λ (x : Act). CommitsStay s.client.kept k ⊎ MayTakeCommits x said.reply s.client.flight) (sym isa) (risen_with s.client.kept s.client.flight k left))

-- ---- an event

of_this : (n : ℕ) (what : Act) (r : Reply) (flight : Option Note) (P : Type 0) → P ⊎ MayTakeCommits what r flight → P ⊎ MayTakeOf n (event.Of n what) r flight
of_this n what r flight P (inl h) = inl h
of_this n what r flight P (inr h) = inr (refl, h)

of_client : (a : State) (e : Event) (s : Said) (n : ℕ) (x y : Client) → Became a e s n x y → IsSingle x → CommitsStay x.kept y.kept ⊎ MayTakeOf n e s.reply x.flight
of_client a e s n x y (Unmoved h) single = inl (stay x.kept y.kept (ap (λ (c : Client). c.kept.locals) h))
of_client a e s n x y (Moved what t is move h) single =
    let side : Side = record { container = a.container; client = x } in
    subst (λ (z : Client). CommitsStay x.kept z.kept ⊎ MayTakeOf n e s.reply x.flight) (sym h)
    (subst (λ (f : Event). CommitsStay x.kept t.client.kept ⊎ MayTakeOf n f s.reply x.flight) (sym is) (of_this n what s.reply x.flight (CommitsStay x.kept t.client.kept) (acted side what s t single move)))

pub commits_leave_only : (a b : State) (e : Event) (s : Said) (c : Choice) → Next a e s c b → (n : ℕ) (before after : Client) → client_at a n ≡ Some before → client_at b n ≡ Some after → IsSingle before
    → CommitsStay before.kept after.kept ⊎ MayTakeOf n e s.reply before.flight
commits_leave_only a b e s c h n before after was is single = of_client a e s n before after (became a b e s c h n before after was is) single

pub commits_leave_only_in_runs : (clients slots : ℕ) (a b : State) (es : List Event) (ss : List Said) (cs : List Choice) (e : Event) (s : Said) (c : Choice) → Run (first_state clients slots) es ss cs a
    → Next a e s c b → (n : ℕ) (before after : Client) → client_at a n ≡ Some before → client_at b n ≡ Some after → CommitsStay before.kept after.kept ⊎ MayTakeOf n e s.reply before.flight
commits_leave_only_in_runs clients slots a b es ss cs e s c run h n before after was is =
    commits_leave_only a b e s c h n before after was is (always_single clients slots a es ss cs run n before was)
