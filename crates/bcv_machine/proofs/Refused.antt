-- Lines that the machine does not accept: the lines before them lead to one state, and from that state none follows.
use Rattle.std.proofs.Common.{◌≡◌, ◌∙◌, ℕ, ◌+◌, ◌≤◌, ◌⊎◌, Bool, true, false, List, [], ◌∷◌, ◌++◌, Option, Some, None, sym, ap, subst, arith, length, codes, inl, inr}
use Rattle.std.proofs.lemmas.Bool.{false≢true}
use Rattle.bcv_base.specs.Image.{Page}
use Rattle.bcv_model.specs.declared.ask.Ask.TheVariants as ask
use Rattle.bcv_model.specs.declared.reply.Reply.{Reply}
use Rattle.bcv_model.specs.declared.reply.Reply.TheVariants as reply
use Rattle.bcv_model.specs.declared.event.Act.TheVariants as act
use Rattle.bcv_model.specs.declared.reply.Row.{Row}
use Rattle.bcv_model.specs.Commits.{writes_of}
use Rattle.bcv_machine.specs.CrashAndUp.{MayBeLeft}
use Rattle.bcv_machine.specs.LocalWriting.{local_rows}
use Rattle.bcv_machine.specs.ManifestGet.{IsFound}
use Rattle.bcv_machine.specs.OneStateLaw.{IsNoUp}
use Rattle.bcv_machine.specs.State.{State, KeptState, Committing, Publication, Uploading, new_kept, last_version}
use Rattle.bcv_machine.specs.Step.{Next}
use Rattle.bcv_machine.specs.Scripts.{Line, PlaysFrom, Plays, id_of, asks, acts, steps, puts, row, one_page, contends, is_contended, numbers_read, loses_an_answer, crashes_later, crashes_in_a_commit, comes_up_without, comes_up_with, holds_one, holds_two, commits_twice, conflicts, replaces, reads_again, is_gone}
use Rattle.bcv_machine.proofs.OneState.{one_state}
use Rattle.bcv_machine.proofs.Accepted.{contends_run, lost_run, crashed_run, fused_run, held_run, freed_run, twice_run, early_run, asked_run}

-- ---- one state after lines without an `up`

abbrev pub AreNoUps : List Line → Type 0
AreNoUps [] = Unit {0}
AreNoUps (l ∷ ls) = IsNoUp l.event × AreNoUps ls

-- the state after lines, of which another list begins with the first, and the last line of that
last_step : (ls : List Line) (l : Line) (a b mid : State) → AreNoUps ls → PlaysFrom a ls mid → PlaysFrom a (ls ++ l ∷ []) b → Next mid l.event l.said l.choice b
last_step [] l a b mid n good h = subst (λ (x : State). Next x l.event l.said l.choice b) (sym good) (subst (λ (y : State). Next a l.event l.said l.choice y) (sym h.2) h.1)
last_step (k ∷ ls) l a b mid n good h =
    last_step ls l h.0 b mid n.1 (subst (λ (x : State). PlaysFrom x ls mid) (one_state a good.0 h.0 k.event k.said k.choice n.0 good.1 h.1) good.2) h.2

-- what the last line says is said of the state that the lines before it lead to
only : (ls : List Line) (l : Line) (good : (mid : State) × Plays ls mid) → AreNoUps ls → (b : State) → Plays (ls ++ l ∷ []) b → Next good.0 l.event l.said l.choice b
only ls l good n b h = last_step ls l _ b good.0 n good.1 h

-- ---- what replies show

abbrev numbers_in : Reply → List ℕ
numbers_in (reply.Contended numbers) = numbers
numbers_in _ = []

abbrev ids_in : Option Reply → List ℕ
ids_in (Some (reply.Conflict mine theirs)) = mine.0 ++ theirs.0
ids_in _ = []

abbrev shows_page : Reply → Bool
shows_page (reply.Page bytes) = true
shows_page _ = false

abbrev is_there : Option Reply → Bool
is_there None = false
is_there (Some r) = true

abbrev commits_in_rows : List Row → ℕ
commits_in_rows [] = 0
commits_in_rows (r ∷ rs) = r.commits

-- ---- contention

no_up_contends : (p : Page) → AreNoUps (contends p)
no_up_contends p = (tt, (tt, (tt, (tt, (tt, (tt, (tt, (tt, (tt, (tt, (tt, (tt, (tt, (tt, (tt, (tt, (tt, (tt, (tt, (tt, (tt, (tt, (tt, (tt, (tt, (tt, (tt, (tt, (tt, (tt, (tt, (tt, (tt, (tt, (tt, (tt, (tt, (tt, (tt, (tt, (tt, (tt, (tt, (tt, (tt, (tt, tt))))))))))))))))))))))))))))))))))))))))))))))

pub other_numbers : (p : Page) (numbers : List ℕ) (b : State) → Plays (contends p ++ is_contended numbers) b → numbers ≡ numbers_read
other_numbers p numbers b h = ap numbers_in (only (contends p) (steps 1 (reply.Contended numbers)) (contends_run p) (no_up_contends p) b h).1.1.2.1.1.0

pub no_ninth_try : (p : Page) (left : ℕ) (b : State) → Plays (contends p ++ steps 1 (reply.Working left) ∷ []) b → ⊥
no_ninth_try p left b h = false≢true (sym (only (contends p) (steps 1 (reply.Working left)) (contends_run p) (no_up_contends p) b h).1.1.2.1.0)

pub not_published : (p : Page) (k : ℕ) (b : State) → Plays (contends p ++ puts 1 k ∷ []) b → ⊥
not_published p k b h = not_same (only (contends p) (puts 1 k) (contends_run p) (no_up_contends p) b h).1.1.2.0.0
  where
    not_same : ◌≡◌ {A = ℕ} 9 10 → ⊥
    not_same e = absurd (omega (arith, e))

-- ---- a lost answer

no_up_lost : AreNoUps loses_an_answer
no_up_lost = (tt, (tt, (tt, (tt, (tt, (tt, (tt, (tt, (tt, (tt, (tt, (tt, (tt, (tt, (tt, (tt, (tt, (tt, (tt, (tt, (tt, (tt, (tt, (tt, (tt, tt)))))))))))))))))))))))))

pub other_version : (k : ℕ) (b : State) → Plays (loses_an_answer ++ steps 1 (reply.Resolved k) ∷ []) b → k ≡ 3
other_version k b h = (only loses_an_answer (steps 1 (reply.Resolved k)) lost_run no_up_lost b h).1.1.1.0

pub not_voided : (b : State) → Plays (loses_an_answer ++ steps 1 reply.Voided ∷ []) b → ⊥
not_voided b h = (only loses_an_answer (steps 1 reply.Voided) lost_run no_up_lost b h).1.1.1.1

-- ---- a crash

no_up_crashed : AreNoUps crashes_later
no_up_crashed = (tt, (tt, (tt, (tt, (tt, (tt, (tt, (tt, tt))))))))

none_is_one : ◌≡◌ {A = ℕ} 0 1 → ⊥
none_is_one e = absurd (omega (arith, e))

pub acknowledged_stays : (b : State) → Plays (crashes_later ++ comes_up_without) b → ⊥
acknowledged_stays b h =
    let n = (only crashes_later (acts 1 act.Up (reply.UpAgain [] false)) crashed_run no_up_crashed b h).1.1.1 in
    none_is_one (ap (λ (rows : List Row). length rows) n.2 ∙ ap (λ (k : KeptState). length (local_rows crashed_run.0.container k.locals)) n.1)

no_up_fused : (calls image : ℕ) → AreNoUps (crashes_in_a_commit calls image)
no_up_fused calls image = (tt, (tt, (tt, (tt, (tt, (tt, (tt, (tt, tt))))))))

pub whole_or_not : (calls image commits : ℕ) (b : State) → Plays (crashes_in_a_commit calls image ++ comes_up_with commits) b → commits ≡ 1
whole_or_not calls image commits b h =
    let n = (only (crashes_in_a_commit calls image) (acts 1 act.Up (reply.UpAgain (row (codes "a") 2 1 commits ∷ []) false)) (fused_run calls image) (no_up_fused calls image) b h).1.1.1 in
    by_what_is_left calls image commits n.0 n.1 n.2
  where
    by_what_is_left : (calls image commits : ℕ) (k : KeptState) → MayBeLeft new_kept (Some (Committing (codes "a") 2 (writes_of (one_page 187)))) k → row (codes "a") 2 1 commits ∷ [] ≡ local_rows (fused_run calls image).0.container k.locals → commits ≡ 1
    by_what_is_left calls image commits k (inl e) rows = absurd (none_is_one (sym (ap (λ (rs : List Row). length rs) rows ∙ ap (λ (x : KeptState). length (local_rows (fused_run calls image).0.container x.locals)) e)))
    by_what_is_left calls image commits k (inr e) rows = ap commits_in_rows rows ∙ ap (λ (x : KeptState). commits_in_rows (local_rows (fused_run calls image).0.container x.locals)) e

-- ---- pins

no_up_held : AreNoUps holds_one
no_up_held = (tt, (tt, (tt, (tt, (tt, (tt, (tt, (tt, (tt, (tt, (tt, tt)))))))))))

pub not_full_yet : (b : State) → Plays (holds_one ++ asks 1 (ask.Hold 1 3) reply.CacheFull ∷ []) b → ⊥
not_full_yet b h = too_few (only holds_one (asks 1 (ask.Hold 1 3) reply.CacheFull) held_run no_up_held b h).1.1.1.1
  where
    too_few : 2 ≤ 1 → ⊥
    too_few e = absurd (omega (arith, e))

no_up_freed : AreNoUps (holds_one ++ holds_two)
no_up_freed = (tt, (tt, (tt, (tt, (tt, (tt, (tt, (tt, (tt, (tt, (tt, (tt, (tt, (tt, (tt, (tt, (tt, (tt, (tt, (tt, (tt, tt)))))))))))))))))))))

pub not_held_any_more : (bytes : Page) (b : State) → Plays ((holds_one ++ holds_two) ++ asks 1 (ask.Look 1 1) (reply.Page bytes) ∷ []) b → ⊥
not_held_any_more bytes b h = false≢true (sym (ap shows_page (only (holds_one ++ holds_two) (asks 1 (ask.Look 1 1) (reply.Page bytes)) freed_run no_up_freed b h).1.1.1.0))

-- ---- a conflict

no_up_twice : AreNoUps commits_twice
no_up_twice = (tt, (tt, (tt, (tt, (tt, (tt, (tt, (tt, (tt, (tt, (tt, (tt, (tt, (tt, (tt, tt)))))))))))))))

pub no_merge : (left : ℕ) (b : State) → Plays (commits_twice ++ steps 2 (reply.Working left) ∷ []) b → ⊥
no_merge left b h = false≢true (sym (ap is_there (only commits_twice (steps 2 (reply.Working left)) twice_run no_up_twice b h).1.1.2.1.0))

-- client 2's upload
abbrev second_upload : Publication
second_upload = record { id = id_of 8; kind = Uploading (codes "a") 2 (writes_of (one_page 204) ∷ []); left = 4; read = None; refused = []; intended = false; begun = None }

pub other_tags : (mine theirs : ℕ) (b : State) → Plays (commits_twice ++ conflicts mine theirs) b → (id_of mine).0 ++ (id_of theirs).0 ≡ (id_of 4).0 ++ (id_of 6).0
other_tags mine theirs b h =
    let n = (only commits_twice (steps 2 (reply.Conflict (id_of mine) (id_of theirs))) twice_run no_up_twice b h).1.1.2.1.0 in
    sym (ap ids_in (subst (λ (r : Reply). IsFound twice_run.0.container (second_upload) (last_version twice_run.0.container) r) (sym n.2.0) n.1))

-- ---- a cleanup

no_up_early : AreNoUps (replaces 99)
no_up_early = (tt, (tt, (tt, (tt, (tt, (tt, (tt, (tt, (tt, (tt, (tt, (tt, (tt, (tt, (tt, (tt, tt))))))))))))))))

within_retention : (0 + 100 ≤ 99) ⊎ ((0 + 100 ≤ 99) ⊎ ((0 + 100 ≤ 99) ⊎ ⊥)) → ⊥
within_retention (inl h) = absurd (omega (arith, h))
within_retention (inr (inl h)) = absurd (omega (arith, h))
within_retention (inr (inr (inl h))) = absurd (omega (arith, h))
within_retention (inr (inr (inr h))) = h

pub too_early : (left : ℕ) (b : State) → Plays (replaces 99 ++ steps 1 (reply.Working left) ∷ []) b → ⊥
too_early left b h = within_retention (only (replaces 99) (steps 1 (reply.Working left)) early_run no_up_early b h).1.1.2.1.1.2

no_up_asked : AreNoUps (replaces 99 ++ reads_again)
no_up_asked = (tt, (tt, (tt, (tt, (tt, (tt, (tt, (tt, (tt, (tt, (tt, (tt, (tt, (tt, (tt, (tt, (tt, tt)))))))))))))))))

none_deleted : (n : ℕ) → ◌≡◌ {A = Option ℕ} None (Some n) → ⊥
none_deleted n h = absurd (cc)

pub not_gone_yet : (b : State) → Plays ((replaces 99 ++ reads_again) ++ is_gone) b → ⊥
not_gone_yet b h = let gone = (only (replaces 99 ++ reads_again) (steps 2 reply.Gone) asked_run no_up_asked b h).1.1.1.1 in none_deleted gone.deleted gone.is_greatest
