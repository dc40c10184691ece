-- Transactions: begin, read, hold, look, free and end, and the step of a task that fetches a page.
use Rattle.std.specs.Prelude.{◌≡◌, ℕ, ◌≤◌, Bool, true, false, not, ◌==◌, List, [], ◌∷◌, ◌++◌, map, Option, Some, None, if◌then◌else◌, option_and_then, filter}
use Rattle.std.specs.Option.{option_map}
use Rattle.bcv_base.specs.declared.outcome.Outcome.{Outcome}
use Rattle.bcv_base.specs.declared.outcome.Outcome.TheVariants as outcome
use Rattle.bcv_base.specs.Image.{page_of}
use Rattle.bcv_base.specs.Version.{Database}
use Rattle.bcv_model.specs.declared.reply.Reply.{Reply}
use Rattle.bcv_model.specs.declared.reply.Reply.TheVariants as reply
use Rattle.bcv_machine.specs.Gone.{MayBeGone}
use Rattle.bcv_machine.specs.Refusals.{UnlessRefused, has_all_tasks, begin_refusal, page_refusal, look_refusal, free_refusal, end_refusal}
use Rattle.bcv_machine.specs.State.{Container, Txn, Access, ToRead, ToHold, Job, Fetching, Polling, Publishing, Resolving, Task, Up, View, Side, view_of, base_of, with_up, least_free, has_number, txn_numbers, task_numbers, txn_at, with_task, txn_image, is_local, block_of_page, is_at_hand, held_pairs, slot_count}

-- ---- begin

-- a transaction fixes the base's image and the commits over it
abbrev pub begun : ℕ → List ℕ → View → Database → Txn
begun n db v d = record { number = n; db = db; base = v.base; page_size = d.page_size; image = d.image; commits = v.commits; held = [] }

-- the transaction that begins over a known database now
abbrev pub txn_over : Side → Up → ℕ → List ℕ → Option Txn
txn_over s u n db = option_and_then (λ (v : View). option_map (begun n db v) (base_of s.container db v)) (view_of s.client.kept u db)

-- the side with one transaction more
abbrev pub Opens : Side → Up → Option Txn → Side → Type 0
Opens s u None t = ⊥
Opens s u (Some x) t = t ≡ with_up s (record u { txns = u.txns ++ x ∷ [] })

-- a transaction is open under the least free number
abbrev pub OpensAs : Side → Up → List ℕ → Reply → Side → Type 0
OpensAs s u db (reply.Txn n) t = (least_free (txn_numbers u) ≡ Some n) × Opens s u (txn_over s u n db) t
OpensAs s u db _ t = ⊥

abbrev pub Begins : Side → Up → List ℕ → Reply → Side → Type 0
Begins s u db r t = UnlessRefused (begin_refusal s.client.kept u db) (with_up s u) r t (OpensAs s u db r t)

-- ---- what comes at once

-- the client with another transaction in the place of the one of its number
abbrev pub with_txn : Up → Txn → Up
with_txn u x = record u { txns = map (λ (t : Txn). if t.number == x.number then x else t) u.txns }

-- a block is held once
abbrev pub with_block : ℕ → List ℕ → List ℕ
with_block b held = if has_number b held then held else held ++ b ∷ []

-- the transaction once it holds the block of a page; of a local page nothing is held
abbrev pub holding : Container → Txn → ℕ → Txn
holding c x p = if is_local x p then x else record x { held = with_block (block_of_page c x p) x.held }

-- the page comes, or its block is held, without a request; or it is not at hand, and every slot may be pinned
abbrev pub ComesAtOnce : Access → Side → Up → Txn → ℕ → Reply → Side → Type 0
ComesAtOnce ToRead s u x p (reply.Page bytes) t = (page_of (txn_image x) p ≡ Some bytes) × (t ≡ with_up s u)
ComesAtOnce ToHold s u x p reply.Held t = t ≡ with_up s (with_txn u (holding s.container x p))
ComesAtOnce access s u x p reply.CacheFull t = (is_at_hand s.container x p ≡ false) × (slot_count s ≤ held_pairs u) × (t ≡ with_up s u)
ComesAtOnce access s u x p _ t = ⊥

-- ---- read and hold

-- a page that is not at hand may want a task, where fewer than 16 run
abbrev pub FetchesIn : Access → Side → Up → Txn → ℕ → Reply → Side → Type 0
FetchesIn access s u x p (reply.Task n left) t =
    (is_at_hand s.container x p ≡ false) × (has_all_tasks u ≡ false) × (least_free (task_numbers u) ≡ Some n) × (left ≡ 1)
    × (t ≡ with_up s (with_task u n (Fetching access x.number p)))
FetchesIn access s u x p reply.TooMany t = (is_at_hand s.container x p ≡ false) × (has_all_tasks u ≡ true) × (t ≡ with_up s u)
FetchesIn access s u x p r t = ComesAtOnce access s u x p r t

-- of a transaction that is open
abbrev pub FetchesOf : Access → Side → Up → Option Txn → ℕ → Reply → Side → Type 0
FetchesOf access s u None p r t = ⊥
FetchesOf access s u (Some x) p r t = FetchesIn access s u x p r t

abbrev pub Fetches : Access → Side → Up → ℕ → ℕ → Reply → Side → Type 0
Fetches access s u n p r t = UnlessRefused (page_refusal u n p) (with_up s u) r t (FetchesOf access s u (txn_at u n) p r t)

-- ---- the step of a task that fetches a page

-- what comes at once may come at any outcome; else the page is not at hand, and its block may be gone where the request is
-- done, and the store fails where it is not
abbrev pub FetchSteps : Access → Side → Up → Txn → ℕ → Outcome → Reply → Side → Type 0
FetchSteps access s u x p outcome.Ok reply.Gone t = (is_at_hand s.container x p ≡ false) × MayBeGone s.container x.db x.base × (t ≡ with_up s u)
FetchSteps access s u x p outcome.Fail reply.StoreFault t = (is_at_hand s.container x p ≡ false) × (t ≡ with_up s u)
FetchSteps access s u x p outcome.Lost reply.StoreFault t = (is_at_hand s.container x p ≡ false) × (t ≡ with_up s u)
FetchSteps access s u x p o r t = ComesAtOnce access s u x p r t

abbrev pub FetchStepsOf : Access → Side → Up → Option Txn → ℕ → Outcome → Reply → Side → Type 0
FetchStepsOf access s u None p o r t = ⊥
FetchStepsOf access s u (Some x) p o r t = FetchSteps access s u x p o r t

-- ---- look, free and end

-- a page at hand is shown
abbrev pub Shows : Side → Up → Option Txn → ℕ → Reply → Side → Type 0
Shows s u None p r t = ⊥
Shows s u (Some x) p (reply.Page bytes) t = (page_of (txn_image x) p ≡ Some bytes) × (t ≡ with_up s u)
Shows s u (Some x) p _ t = ⊥

abbrev pub Looks : Side → Up → ℕ → ℕ → Reply → Side → Type 0
Looks s u n p r t = UnlessRefused (look_refusal s.container u n p) (with_up s u) r t (Shows s u (txn_at u n) p r t)

-- the transaction no longer holds the block of a page
abbrev pub freed : Container → Txn → ℕ → Txn
freed c x p = record x { held = filter (λ b. not (b == block_of_page c x p)) x.held }

abbrev pub LetsGo : Side → Up → Option Txn → ℕ → Reply → Side → Type 0
LetsGo s u None p r t = ⊥
LetsGo s u (Some x) p reply.Fine t = t ≡ with_up s (with_txn u (freed s.container x p))
LetsGo s u (Some x) p _ t = ⊥

abbrev pub Frees : Side → Up → ℕ → ℕ → Reply → Side → Type 0
Frees s u n p r t = UnlessRefused (free_refusal s.container u n p) (with_up s u) r t (LetsGo s u (txn_at u n) p r t)

-- the job fetches a page of the transaction of this number
abbrev pub is_job_of : ℕ → Job → Bool
is_job_of n (Fetching access txn p) = txn == n
is_job_of n Polling = false
is_job_of n (Publishing p) = false
is_job_of n Resolving = false

-- the client without a transaction and its tasks
abbrev pub without_txn : Up → ℕ → Up
without_txn u n = record u { txns = filter (λ (t : Txn). not (t.number == n)) u.txns; tasks = filter (λ (t : Task). not (is_job_of n t.job)) u.tasks }

abbrev pub Closes : Side → Up → ℕ → Reply → Side → Type 0
Closes s u n reply.Fine t = t ≡ with_up s (without_txn u n)
Closes s u n _ t = ⊥

abbrev pub Ends : Side → Up → ℕ → Reply → Side → Type 0
Ends s u n r t = UnlessRefused (end_refusal u n) (with_up s u) r t (Closes s u n r t)
