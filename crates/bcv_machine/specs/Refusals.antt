-- Refusals that the client's own state decides: the first reason that holds, in the order in which they are tested.
use Rattle.std.specs.Prelude.{◌≡◌, ℕ, Bool, true, false, not, ◌||◌, ◌==◌, List, [], ◌∷◌, length, Option, Some, None, is_some, is_none, nat_lt, nat_le, if◌then◌else◌, option_and_then}
use Rattle.std.specs.List.{list_any}
use Rattle.bcv_base.specs.Image.{Writes}
use Rattle.bcv_base.specs.Keyed.{keyed}
use Rattle.bcv_base.specs.ManifestRules.{blocks_needed}
use Rattle.bcv_base.specs.Version.{Database}
use Rattle.bcv_base.specs.Views.{is_commit}
use Rattle.bcv_model.specs.declared.reply.Reply.{Reply}
use Rattle.bcv_model.specs.declared.reply.Reply.TheVariants as reply
use Rattle.bcv_machine.specs.State.{Container, KeptState, Kind, Creating, Making, Uploading, Copying, Removing, Cleaning, Job, Fetching, Polling, Publishing, Resolving, Task, Txn, Up, View, Side, local_name, view_of, base_of, txn_at, txn_size, is_local, holds}

-- the first reply whose reason holds
abbrev pub first_reason : List (Bool × Reply) → Option Reply
first_reason [] = None
first_reason (x ∷ xs) = if x.0 then Some x.1 else first_reason xs

-- ---- a call that may be refused

-- where there is a reason the call is refused by it and leaves the side, else it does this
abbrev pub UnlessRefused : Option Reply → Side → Reply → Side → Type 0 → Type 0
UnlessRefused None same r t Does = Does
UnlessRefused (Some refusal) same r t Does = (r ≡ refusal) × (t ≡ same)

-- ---- what runs, and what is full

abbrev pub ends_pending : Job → Bool
ends_pending (Fetching access t p) = false
ends_pending Polling = false
ends_pending (Publishing p) = true
ends_pending Resolving = true

-- a task that publishes or resolves runs
abbrev pub is_busy : Up → Bool
is_busy u = list_any (λ (t : Task). ends_pending t.job) u.tasks

-- 16 tasks run
abbrev pub has_all_tasks : Up → Bool
has_all_tasks u = nat_le 16 (length u.tasks)

-- 64 transactions are open
abbrev pub has_all_txns : Up → Bool
has_all_txns u = nat_le 64 (length u.txns)

abbrev pub is_known : KeptState → Up → List ℕ → Bool
is_known k u db = is_some (view_of k u db)

abbrev pub has_commits : KeptState → List ℕ → Bool
has_commits k db = is_some (keyed local_name db k.locals)

abbrev pub has_none : List Writes → Bool
has_none [] = true
has_none (w ∷ ws) = false

-- ---- transactions and their pages

abbrev pub begin_refusal : KeptState → Up → List ℕ → Option Reply
begin_refusal k u db = first_reason ((not (is_known k u db), reply.NoDatabase) ∷ (has_all_txns u, reply.TooMany) ∷ [])

-- the page is none of the transaction's
abbrev pub is_outside : ℕ → Txn → Bool
is_outside p t = (p == 0) || nat_lt (txn_size t) p

abbrev pub page_reason : ℕ → Option Txn → Option Reply
page_reason p None = Some reply.NoTxn
page_reason p (Some t) = first_reason ((is_outside p t, reply.BadPage) ∷ [])

abbrev pub page_refusal : Up → ℕ → ℕ → Option Reply
page_refusal u n p = page_reason p (txn_at u n)

abbrev pub look_reason : Container → ℕ → Option Txn → Option Reply
look_reason c p None = Some reply.NoTxn
look_reason c p (Some t) = first_reason ((is_outside p t, reply.BadPage) ∷ (not (is_local t p || holds c t p), reply.NotHeld) ∷ [])

abbrev pub look_refusal : Container → Up → ℕ → ℕ → Option Reply
look_refusal c u n p = look_reason c p (txn_at u n)

abbrev pub free_reason : Container → ℕ → Option Txn → Option Reply
free_reason c p None = Some reply.NoTxn
free_reason c p (Some t) = first_reason ((is_outside p t, reply.BadPage) ∷ (not (holds c t p), reply.NotHeld) ∷ [])

abbrev pub free_refusal : Container → Up → ℕ → ℕ → Option Reply
free_refusal c u n p = free_reason c p (txn_at u n)

abbrev pub end_refusal : Up → ℕ → Option Reply
end_refusal u n = first_reason ((is_none (txn_at u n), reply.NoTxn) ∷ [])

-- ---- local writing

-- the commit is none of this database: its pages are no pages of its size and page size, in order
abbrev pub is_bad_commit : Writes → Option Database → Bool
is_bad_commit w None = false
is_bad_commit w (Some d) = not (is_commit d.page_size w)

-- after the commit the database needs more than 65,536 blocks
abbrev pub is_large_commit : ℕ → Writes → Option Database → Bool
is_large_commit block w None = false
is_large_commit block w (Some d) = nat_lt 65536 (blocks_needed block d.page_size w.size)

abbrev pub commit_reason : Container → Up → Writes → Option View → Option Database → Option Reply
commit_reason c u w v d =
    first_reason ((u.closed, reply.Closed) ∷ (is_none v, reply.NoDatabase) ∷ (is_bad_commit w d, reply.BadPage) ∷ (is_large_commit c.block w d, reply.TooLarge) ∷ [])

abbrev pub commit_refusal : Side → Up → List ℕ → Writes → Option Reply
commit_refusal s u db w = let v = view_of s.client.kept u db in commit_reason s.container u w v (option_and_then (base_of s.container db) v)

abbrev pub revert_refusal : KeptState → Up → List ℕ → Option Reply
revert_refusal k u db =
    first_reason ((u.closed, reply.Closed) ∷ (is_some k.pending, reply.Pending) ∷ (is_busy u, reply.Busy) ∷ (not (is_known k u db), reply.NoDatabase) ∷ (not (has_commits k db), reply.Nothing) ∷ [])

-- ---- starting a task

-- what speaks against a publication of this kind alone
abbrev pub kind_refusal : KeptState → Up → Kind → Option Reply
kind_refusal k u (Creating block retention) = None
kind_refusal k u (Making d page_size pages) = None
kind_refusal k u (Uploading d base commits) = first_reason ((not (is_known k u d), reply.NoDatabase) ∷ (has_none commits, reply.Nothing) ∷ [])
kind_refusal k u (Copying a b) = None
kind_refusal k u (Removing a) = first_reason ((has_commits k a, reply.HasLocal) ∷ [])
kind_refusal k u Cleaning = None

-- a reason of the kind stands after those of every publication, and before that on the number of tasks
abbrev pub then_tasks : Up → Option Reply → Option Reply
then_tasks u None = first_reason ((has_all_tasks u, reply.TooMany) ∷ [])
then_tasks u (Some r) = Some r

abbrev pub then_kind : KeptState → Up → Kind → Option Reply → Option Reply
then_kind k u kind None = then_tasks u (kind_refusal k u kind)
then_kind k u kind (Some r) = Some r

abbrev pub start_refusal : KeptState → Up → Kind → Option Reply
start_refusal k u kind = then_kind k u kind (first_reason ((u.closed, reply.Closed) ∷ (is_some k.pending, reply.Pending) ∷ (is_busy u, reply.Busy) ∷ []))

abbrev pub poll_refusal : Up → Option Reply
poll_refusal u = first_reason ((has_all_tasks u, reply.TooMany) ∷ [])

abbrev pub resolve_refusal : KeptState → Up → Option Reply
resolve_refusal k u = first_reason ((u.closed, reply.Closed) ∷ (is_busy u, reply.Busy) ∷ (is_none k.pending, reply.Nothing) ∷ (has_all_tasks u, reply.TooMany) ∷ [])
