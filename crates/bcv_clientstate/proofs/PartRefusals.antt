-- A client refuses an ask where the machine does.
use Rattle.std.proofs.Common.{◌≡◌, ◌∙◌, ℕ, Bool, false, not, ◌||◌, List, [], ◌∷◌, map, length, suc, Option, Some, None, is_some, is_none, refl, sym, ap, subst}
use Rattle.std.proofs.lemmas.Option.{same_Some}
use Rattle.std.specs.Prelude.{nat_le, nat_lt, option_and_then}
use Rattle.std.specs.List.{AllByRecursion, list_any}
use Rattle.std.specs.Option.{option_map}
use Rattle.bcv_base.specs.declared.log.Entry.{Entry}
use Rattle.bcv_base.specs.History.{Item, history_of}
use Rattle.bcv_base.specs.Image.{Writes, or_else}
use Rattle.bcv_base.specs.Keyed.{keyed}
use Rattle.bcv_base.specs.ManifestRules.{blocks_needed}
use Rattle.bcv_base.specs.Version.{Database}
use Rattle.bcv_dbmap.specs.Sound.{IsSoundLog}
use Rattle.bcv_machine.specs.Refusals as refusals
use Rattle.bcv_machine.specs.Refusals.{first_reason}
use Rattle.bcv_machine.specs.State as m
use Rattle.bcv_machine.specs.State.{known_name as seen_name, local_name, local_view, known_view}
use Rattle.bcv_model.specs.declared.kept.Local.{Local}
use Rattle.bcv_model.specs.declared.kept.PendingPub.{PendingPub}
use Rattle.bcv_model.specs.declared.reply.Reply.{Reply}
use Rattle.bcv_model.specs.declared.reply.Reply.TheVariants as reply
use Rattle.bcv_model.specs.Notes.{kept_name}
use Rattle.bcv_clientstate.specs.BaseLaws.{FitsLocal}
use Rattle.bcv_clientstate.specs.Fits.{FitsKnown}
use Rattle.bcv_databases.specs.Catalog.{known_name}
use Rattle.bcv_clientstate.specs.PartRefusals.{BeginIsRefused, BusyIsBusy, CommitIsRefused, IsViewOver, PartView, RevertIsRefused, ViewHasBase, ViewIsView, bad_commit, is_publishing, known_part, large_commit, local_part, part_view, runs_publication, seen_view}
use Rattle.bcv_databases.specs.declared.known.Known.{Known}
use Rattle.bcv_clientstate.specs.Parts.{Job, Fetching, Polling, Creating, Copying, Uploading, Cleaning, Resolving, Task, Parts}
use Rattle.bcv_clientstate.specs.SeenClient.{Free, seen_job, seen_known, seen_task, seen_up}
use Rattle.bcv_clientstate.specs.SeenContainer.{container_of}
use Rattle.bcv_clientstate.specs.SeenKept.{seen_kept, seen_local}
use Rattle.bcv_dbmap.proofs.Keys.{all_found, keyed_key}
use Rattle.bcv_clientstate.proofs.Bases.{base_block, base_database}
use Rattle.bcv_clientstate.proofs.KeyedMaps.{keyed_map}

-- ---- views

views : (a : Option Local) (b : Option Known)
    → or_else (option_map local_view (option_map seen_local a)) (option_map known_view (option_map seen_known b)) ≡ option_map seen_view (or_else (option_map local_part a) (option_map known_part b))
views (Some l) b = refl
views None (Some k) = refl
views None None = refl

pub view_is_view : ViewIsView
view_is_view past p db =
    ap (λ (o : Option m.LocalDb). or_else (option_map local_view o) (option_map known_view (keyed seen_name db (map seen_known p.known)))) (keyed_map kept_name local_name seen_local (λ l. refl) db p.kept.locals)
    ∙ ap (λ (o : Option m.KnownDb). or_else (option_map local_view (option_map seen_local (keyed kept_name db p.kept.locals))) (option_map known_view o)) (keyed_map known_name seen_name seen_known (λ k. refl) db p.known)
    ∙ views (keyed kept_name db p.kept.locals) (keyed known_name db p.known)

by_view : (p : Parts) (log : List Entry) (db : List ℕ) (v : PartView) (a : Option Local) (b : Option Known) → keyed kept_name db p.kept.locals ≡ a → keyed known_name db p.known ≡ b
    → AllByRecursion (FitsLocal (history_of log)) p.kept.locals → AllByRecursion (FitsKnown (history_of log)) p.known
    → or_else (option_map local_part a) (option_map known_part b) ≡ Some v → IsViewOver (history_of log) db v
by_view p log db v (Some l) b isa isb locals known e =
    subst (IsViewOver (history_of log) db) (same_Some (local_part l) v e)
    (record { base = all_found kept_name (FitsLocal (history_of log)) db p.kept.locals l locals isa; name = keyed_key kept_name db p.kept.locals l isa })
by_view p log db v None (Some k) isa isb locals known e =
    subst (IsViewOver (history_of log) db) (same_Some (known_part k) v e)
    (record { base = all_found known_name (FitsKnown (history_of log)) db p.known k known isb; name = keyed_key known_name db p.known k isb })
by_view p log db v None None isa isb locals known e = absurd (cc)

pub view_has_base : ViewHasBase
view_has_base p entries log db v fits e = by_view p log db v (keyed kept_name db p.kept.locals) (keyed known_name db p.known) refl refl fits.locals fits.known e

-- ---- what runs

publishing : (waiting : Option PendingPub) (j : Job) → refusals.ends_pending (seen_job waiting j) ≡ is_publishing j
publishing waiting (Fetching access txn page) = refl
publishing waiting Polling = refl
publishing waiting (Creating block retention id) = refl
publishing waiting (Copying s) = refl
publishing waiting (Uploading s view) = refl
publishing waiting (Cleaning s) = refl
publishing waiting Resolving = refl

any_publishing : (waiting : Option PendingPub) (ts : List Task) → list_any (λ (t : m.Task). refusals.ends_pending t.job) (map (seen_task waiting) ts) ≡ list_any (λ (t : Task). is_publishing t.job) ts
any_publishing waiting [] = refl
any_publishing waiting (t ∷ ts) =
    ap (λ (b : Bool). b || list_any (λ (x : m.Task). refusals.ends_pending x.job) (map (seen_task waiting) ts)) (publishing waiting t.job)
    ∙ ap (λ (b : Bool). is_publishing t.job || b) (any_publishing waiting ts)

pub busy_is_busy : BusyIsBusy
busy_is_busy past p = any_publishing p.kept.pending p.tasks

-- ---- refusals

pub none_map : {A B : Type 0} (f : A → B) (o : Option A) → is_none (option_map f o) ≡ is_none o
none_map f None = refl
none_map f (Some x) = refl

pub some_map : {A B : Type 0} (f : A → B) (o : Option A) → is_some (option_map f o) ≡ is_some o
some_map f None = refl
some_map f (Some x) = refl

not_some : {A : Type 0} (o : Option A) → not (is_some o) ≡ is_none o
not_some None = refl
not_some (Some x) = refl

pub map_len : {A B : Type 0} (f : A → B) (xs : List A) → length (map f xs) ≡ length xs
map_len f [] = refl
map_len f (x ∷ xs) = ap (λ n. suc n) (map_len f xs)

pub unknown : (past : List Item) (p : Parts) (db : List ℕ) → not (refusals.is_known (seen_kept p.kept) (seen_up past p) db) ≡ is_none (part_view p db)
unknown past p db = ap (λ (o : Option m.View). not (is_some o)) (view_is_view past p db) ∙ not_some (option_map seen_view (part_view p db)) ∙ none_map seen_view (part_view p db)

pub begin_is_refused : BeginIsRefused
begin_is_refused past p db =
    ap (λ (b : Bool). first_reason ((b, reply.NoDatabase) ∷ (nat_le 64 (length (seen_up past p).txns), reply.TooMany) ∷ [])) (unknown past p db)
    ∙ ap (λ (n : ℕ). first_reason ((is_none (part_view p db), reply.NoDatabase) ∷ (nat_le 64 n, reply.TooMany) ∷ [])) (map_len _ p.txns)

-- by the view: the machine's reasons for a commit
commit_by : (moment : ℕ) (p : Parts) (f : Free) (log : List Entry) (db : List ℕ) (w : Writes) (o : Option PartView) → IsSoundLog log
    → ((v : PartView) → o ≡ Some v → IsViewOver (history_of log) db v)
    → refusals.commit_reason (container_of moment (history_of log)) (seen_up (history_of log) p) w (option_map seen_view o) (option_and_then (m.base_of (container_of moment (history_of log)) db) (option_map seen_view o))
    ≡ first_reason ((p.closed, reply.Closed) ∷ (is_none o, reply.NoDatabase) ∷ (bad_commit w o, reply.BadPage) ∷ (large_commit w o, reply.TooLarge) ∷ [])
commit_by moment p f log db w None sound over = refl
commit_by moment p f log db w (Some v) sound over =
    let is : IsViewOver (history_of log) db v = over v refl in
    let c : m.Container = container_of moment (history_of log) in
    ap (λ (d : Option Database). refusals.commit_reason c (seen_up (history_of log) p) w (Some (seen_view v)) d)
    (ap (m.database_at c v.number) (sym is.name) ∙ base_database moment (history_of log) v.number v.block v.entry sound is.base)
    ∙ ap (λ (block : ℕ). first_reason ((p.closed, reply.Closed) ∷ (false, reply.NoDatabase) ∷ (bad_commit w (Some v), reply.BadPage) ∷ (nat_lt 65536 (blocks_needed block v.entry.page_size w.size), reply.TooLarge) ∷ []))
    (base_block (history_of log) v.number v.block v.entry sound is.base)

pub commit_is_refused : CommitIsRefused
commit_is_refused moment p entries f log db w sound fits =
    let c : m.Container = container_of moment (history_of log) in
    ap (λ (o : Option m.View). refusals.commit_reason c (seen_up (history_of log) p) w o (option_and_then (m.base_of c db) o)) (view_is_view (history_of log) p db)
    ∙ commit_by moment p f log db w (part_view p db) sound (λ v e. view_has_base p entries log db v fits e)

pub revert_is_refused : RevertIsRefused
revert_is_refused past p db =
    let reasons : Bool → Bool → Bool → Bool → Option Reply =
    λ a b c d. first_reason ((p.closed, reply.Closed) ∷ (a, reply.Pending) ∷ (b, reply.Busy) ∷ (c, reply.NoDatabase) ∷ (not d, reply.Nothing) ∷ []) in
    let pending : Bool = is_some (seen_kept p.kept).pending in
    let busy : Bool = refusals.is_busy (seen_up past p) in
    let known : Bool = not (refusals.is_known (seen_kept p.kept) (seen_up past p) db) in
    let here : Bool = refusals.has_commits (seen_kept p.kept) db in
    ap (λ (b : Bool). reasons b busy known here) (some_map _ p.kept.pending)
    ∙ ap (λ (b : Bool). reasons (is_some p.kept.pending) b known here) (busy_is_busy past p)
    ∙ ap (λ (b : Bool). reasons (is_some p.kept.pending) (runs_publication p) b here) (unknown past p db)
    ∙ ap (λ (b : Bool). reasons (is_some p.kept.pending) (runs_publication p) (is_none (part_view p db)) b)
    (ap is_some (keyed_map kept_name local_name seen_local (λ l. refl) db p.kept.locals) ∙ some_map seen_local (keyed kept_name db p.kept.locals))
