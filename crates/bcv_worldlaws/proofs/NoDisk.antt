-- What is answered without a note is no fault of the disk.
use Rattle.std.proofs.Common.{◌≡◌, ◌∙◌, ◌-◌, ◌^◌, ℕ, ◌==◌, Bool, true, false, not, ◌||◌, if◌then◌else◌, List, [], ◌∷◌, length, Option, Some, None, is_some, is_none, nat_lt, nat_le, refl, ap, subst}
use Rattle.std.specs.List.{list_any}
use Rattle.bcv_base.specs.declared.outcome.Outcome.{Outcome}
use Rattle.bcv_base.specs.declared.outcome.Outcome.TheVariants as outcome
use Rattle.bcv_base.specs.Ids.{id_eq}
use Rattle.bcv_base.specs.Image.{Writes}
use Rattle.bcv_base.specs.Keyed.{keyed}
use Rattle.bcv_base.specs.ManifestRules.{blocks_needed}
use Rattle.bcv_base.specs.Version.{Database, Version, the_name}
use Rattle.bcv_dbmap.proofs.Bools.{or_neither}
use Rattle.bcv_machine.specs.ManifestGet.{IsFound, conflict, edit_fault, kind_fault, upload_fault}
use Rattle.bcv_machine.specs.MiddleStep.{IsMiddleFault}
use Rattle.bcv_machine.specs.Poll.{Polls, PollsLast}
use Rattle.bcv_machine.specs.Reading.{FetchStepsOf, FetchesOf, LetsGo, Shows}
use Rattle.bcv_machine.specs.Refusals.{UnlessRefused, begin_refusal, commit_reason, end_refusal, first_reason, free_reason, has_all_tasks, has_all_txns, has_commits, has_none, is_bad_commit, is_busy, is_known, is_large_commit, is_outside, kind_refusal, look_reason, page_reason, poll_refusal, resolve_refusal, revert_refusal, start_refusal, then_kind, then_tasks}
use Rattle.bcv_machine.specs.State.{Access, Cleaning, Container, Copying, Creating, Kind, KeptState, Making, Publication, Removing, Side, ToHold, ToRead, Txn, Up, Uploading, View, holds, is_local, last_version, txn_at, version_count}
use Rattle.bcv_model.specs.declared.reply.Reply.{Reply}
use Rattle.bcv_model.specs.declared.reply.Reply.TheVariants as reply

abbrev pub is_disk : Reply → Bool
is_disk reply.DiskFault = true
is_disk _ = false

-- a reason is no fault of the disk
abbrev pub NotDisk : Option Reply → Type 0
NotDisk None = Unit {0}
NotDisk (Some r) = is_disk r ≡ false

pub not_disk : (o : Option Reply) → NotDisk o → o ≡ Some reply.DiskFault → ⊥
not_disk o h e = absurd (let wrong : true ≡ false = subst NotDisk e h in cc)

choose : (b : Bool) (r : Reply) (o : Option Reply) → is_disk r ≡ false → NotDisk o → NotDisk (if b then Some r else o)
choose true r o h g = h
choose false r o h g = g

spare : (b : Bool) (r : Reply) → is_disk r ≡ false → NotDisk (if b then None else Some r)
spare true r h = tt
spare false r h = h

reasons : (xs : List (Bool × Reply)) → list_any (λ (x : Bool × Reply). is_disk x.1) xs ≡ false → NotDisk (first_reason xs)
reasons [] none = tt
reasons (x ∷ xs) none =
    let neither = or_neither (is_disk x.1) (list_any (λ (y : Bool × Reply). is_disk y.1) xs) none in choose x.0 x.1 (first_reason xs) neither.0 (reasons xs neither.1)

-- a call that is refused does not answer so
pub unless : {Does After : Type 0} (o : Option Reply) (same next t u : Side) → NotDisk o → (Does → After)
    → UnlessRefused o same reply.DiskFault t Does → UnlessRefused o next reply.Crashed u After
unless None same next t u differs goes h = goes h
unless (Some r) same next t u differs goes h = absurd (let wrong : true ≡ false = ap is_disk h.0 ∙ differs in cc)

-- ---- refusals

pub no_begin : (k : KeptState) (u : Up) (db : List ℕ) → NotDisk (begin_refusal k u db)
no_begin k u db = reasons ((not (is_known k u db), reply.NoDatabase) ∷ (has_all_txns u, reply.TooMany) ∷ []) refl

pub no_page : (p : ℕ) (o : Option Txn) → NotDisk (page_reason p o)
no_page p None = refl
no_page p (Some t) = reasons ((is_outside p t, reply.BadPage) ∷ []) refl

pub no_look : (c : Container) (p : ℕ) (o : Option Txn) → NotDisk (look_reason c p o)
no_look c p None = refl
no_look c p (Some t) = reasons ((is_outside p t, reply.BadPage) ∷ (not (is_local t p || holds c t p), reply.NotHeld) ∷ []) refl

pub no_free : (c : Container) (p : ℕ) (o : Option Txn) → NotDisk (free_reason c p o)
no_free c p None = refl
no_free c p (Some t) = reasons ((is_outside p t, reply.BadPage) ∷ (not (holds c t p), reply.NotHeld) ∷ []) refl

pub no_end : (u : Up) (n : ℕ) → NotDisk (end_refusal u n)
no_end u n = reasons ((is_none (txn_at u n), reply.NoTxn) ∷ []) refl

pub no_commit : (c : Container) (u : Up) (w : Writes) (v : Option View) (d : Option Database) → NotDisk (commit_reason c u w v d)
no_commit c u w v d =
    reasons ((u.closed, reply.Closed) ∷ (is_none v, reply.NoDatabase) ∷ (is_bad_commit w d, reply.BadPage) ∷ (is_large_commit c.block w d, reply.TooLarge) ∷ []) refl

pub no_revert : (k : KeptState) (u : Up) (db : List ℕ) → NotDisk (revert_refusal k u db)
no_revert k u db =
    reasons ((u.closed, reply.Closed) ∷ (is_some k.pending, reply.Pending) ∷ (is_busy u, reply.Busy) ∷ (not (is_known k u db), reply.NoDatabase) ∷ (not (has_commits k db), reply.Nothing) ∷ []) refl

no_kind : (k : KeptState) (u : Up) (kind : Kind) → NotDisk (kind_refusal k u kind)
no_kind k u (Creating block retention) = tt
no_kind k u (Making d page_size pages) = tt
no_kind k u (Uploading d base commits) = reasons ((not (is_known k u d), reply.NoDatabase) ∷ (has_none commits, reply.Nothing) ∷ []) refl
no_kind k u (Copying a b) = tt
no_kind k u (Removing a) = reasons ((has_commits k a, reply.HasLocal) ∷ []) refl
no_kind k u Cleaning = tt

no_tasks : (u : Up) (o : Option Reply) → NotDisk o → NotDisk (then_tasks u o)
no_tasks u None h = reasons ((has_all_tasks u, reply.TooMany) ∷ []) refl
no_tasks u (Some r) h = h

no_then : (k : KeptState) (u : Up) (kind : Kind) (o : Option Reply) → NotDisk o → NotDisk (then_kind k u kind o)
no_then k u kind None h = no_tasks u (kind_refusal k u kind) (no_kind k u kind)
no_then k u kind (Some r) h = h

pub no_start : (k : KeptState) (u : Up) (kind : Kind) → NotDisk (start_refusal k u kind)
no_start k u kind =
    let firsts : List (Bool × Reply) = (u.closed, reply.Closed) ∷ (is_some k.pending, reply.Pending) ∷ (is_busy u, reply.Busy) ∷ [] in
    no_then k u kind (first_reason firsts) (reasons firsts refl)

pub no_poll : (u : Up) → NotDisk (poll_refusal u)
no_poll u = reasons ((has_all_tasks u, reply.TooMany) ∷ []) refl

pub no_resolve : (k : KeptState) (u : Up) → NotDisk (resolve_refusal k u)
no_resolve k u = reasons ((u.closed, reply.Closed) ∷ (is_busy u, reply.Busy) ∷ (is_none k.pending, reply.Nothing) ∷ (has_all_tasks u, reply.TooMany) ∷ []) refl

-- ---- transactions

pub no_fetches : (access : Access) (s : Side) (u : Up) (o : Option Txn) (p : ℕ) (t : Side) → FetchesOf access s u o p reply.DiskFault t → ⊥
no_fetches ToRead s u None p t h = h
no_fetches ToRead s u (Some x) p t h = h
no_fetches ToHold s u None p t h = h
no_fetches ToHold s u (Some x) p t h = h

pub no_shows : (s : Side) (u : Up) (o : Option Txn) (p : ℕ) (t : Side) → Shows s u o p reply.DiskFault t → ⊥
no_shows s u None p t h = h
no_shows s u (Some x) p t h = h

pub no_lets_go : (s : Side) (u : Up) (o : Option Txn) (p : ℕ) (t : Side) → LetsGo s u o p reply.DiskFault t → ⊥
no_lets_go s u None p t h = h
no_lets_go s u (Some x) p t h = h

pub no_fetch_step : (access : Access) (s : Side) (u : Up) (x : Option Txn) (p : ℕ) (o : Outcome) (t : Side) → FetchStepsOf access s u x p o reply.DiskFault t → ⊥
no_fetch_step ToRead s u None p o t h = h
no_fetch_step ToHold s u None p o t h = h
no_fetch_step ToRead s u (Some x) p outcome.Ok t h = h
no_fetch_step ToRead s u (Some x) p outcome.Fail t h = h
no_fetch_step ToRead s u (Some x) p outcome.Lost t h = h
no_fetch_step ToHold s u (Some x) p outcome.Ok t h = h
no_fetch_step ToHold s u (Some x) p outcome.Fail t h = h
no_fetch_step ToHold s u (Some x) p outcome.Lost t h = h

-- ---- polls

no_poll_last : (s : Side) (u : Up) (o : Option Version) (t : Side) → PollsLast s u o reply.DiskFault t → ⊥
no_poll_last s u None t h = h
no_poll_last s u (Some v) t h = h

pub no_poll_step : (s : Side) (u : Up) (o : Outcome) (t : Side) → Polls s u o reply.DiskFault t → ⊥
no_poll_step s u outcome.Ok t h = no_poll_last s u (last_version s.container) t h
no_poll_step s u outcome.Fail t h = absurd (let wrong : true ≡ false = ap is_disk h.0 in cc)
no_poll_step s u outcome.Lost t h = absurd (let wrong : true ≡ false = ap is_disk h.0 in cc)

-- ---- publications

no_conflict : (mine : Option Database) (theirs : Database) → NotDisk (conflict mine theirs)
no_conflict None theirs = tt
no_conflict (Some mine) theirs = spare (id_eq mine.tag theirs.tag) (reply.Conflict mine.tag theirs.tag) refl

no_upload : (mine theirs : Option Database) → NotDisk (upload_fault mine theirs)
no_upload mine None = refl
no_upload mine (Some theirs) = no_conflict mine theirs

no_kind_fault : (c : Container) (dbs : List Database) (kind : Kind) → NotDisk (kind_fault c dbs kind)
no_kind_fault c dbs (Creating block retention) = tt
no_kind_fault c dbs (Making d page_size pages) =
    reasons (
    (is_some (keyed the_name d dbs), reply.Exists)
    ∷ (nat_lt c.block page_size, reply.PageTooLarge)
    ∷ (nat_lt 65536 (blocks_needed c.block page_size (length pages)), reply.TooLarge)
    ∷ (nat_le 1024 (length dbs), reply.TooManyDatabases)
    ∷ []
    ) refl
no_kind_fault c dbs (Uploading d base commits) = no_upload _ (keyed the_name d dbs)
no_kind_fault c dbs (Copying a b) =
    reasons ((is_none (keyed the_name a dbs), reply.NoDatabase) ∷ (is_some (keyed the_name b dbs), reply.Exists) ∷ (nat_le 1024 (length dbs), reply.TooManyDatabases) ∷ []) refl
no_kind_fault c dbs (Removing a) = reasons ((is_none (keyed the_name a dbs), reply.NoDatabase) ∷ []) refl
no_kind_fault c dbs Cleaning = tt

no_edit_fault : (c : Container) (v : Version) (kind : Kind) → NotDisk (edit_fault c v kind)
no_edit_fault c v kind = choose (version_count c == 2 ^ 64 - 1) reply.VersionsFull (kind_fault c v.dbs kind) refl (no_kind_fault c v.dbs kind)

no_found : (c : Container) (p : Publication) (o : Option Version) → IsFound c p o reply.DiskFault → ⊥
no_found c p None h = h
no_found c p (Some v) h = not_disk (edit_fault c v p.kind) (no_edit_fault c v p.kind) h

-- what a get finds, and what ends a request for a block
pub found_differs : (c : Container) (p : Publication) (o : Option Version) (fault : Reply) → IsFound c p o fault → fault ≡ reply.DiskFault → ⊥
found_differs c p o fault h e = no_found c p o (subst (IsFound c p o) e h)

no_middle : (c : Container) (p : Publication) (o : Outcome) → IsMiddleFault c p o reply.DiskFault → ⊥
no_middle c p outcome.Ok h = h
no_middle c p outcome.Fail h = absurd (let wrong : true ≡ false = ap is_disk h in cc)
no_middle c p outcome.Lost h = absurd (let wrong : true ≡ false = ap is_disk h in cc)

pub middle_differs : (c : Container) (p : Publication) (o : Outcome) (fault : Reply) → IsMiddleFault c p o fault → fault ≡ reply.DiskFault → ⊥
middle_differs c p o fault h e = no_middle c p o (subst (IsMiddleFault c p o) e h)
