-- Reading: begin, read, and the step of a read's task.
use Rattle.std.specs.Prelude.{◌≡◌, ℕ, ◌≤◌, ◌<◌, false, List, [], ◌∷◌, ◌++◌, length, map, Some, None, IsSome, ◌⊎◌}
use Rattle.bcv_base.specs.Image.{page_of}
use Rattle.bcv_base.specs.Version.{Database}
use Rattle.bcv_model.specs.declared.reply.Reply.{Reply}
use Rattle.bcv_model.specs.declared.reply.Reply.TheVariants as reply
use Rattle.bcv_base.specs.declared.outcome.Outcome.{Outcome}
use Rattle.bcv_base.specs.declared.outcome.Outcome.TheVariants as outcome
use Rattle.bcv_model.specs.MachineState.{State, Here, Txn, Task, View, Reading, view_of, database_at, with_up, IsLeastFree, txn_at, without, txn_image, is_at_hand, held_pairs}

-- ---- begin

-- the view fixes the base's image and the commits
abbrev pub begun : ℕ → List ℕ → View → Database → Txn
begun number db v d = record { number = number; db = db; base = v.base; page_size = d.page_size; image = d.image; commits = v.commits; held = [] }

abbrev pub numbers_of : List Txn → List ℕ
numbers_of ts = map (λ (t : Txn). t.number) ts

abbrev pub Begins : Here → List ℕ → Reply → State → Type 0
Begins h db (reply.Txn n) b =
    (v : View) × (d : Database) × (view_of h db ≡ Some v) × (database_at h.state v.base db ≡ Some d) × (length h.up.txns < 64) × IsLeastFree (numbers_of h.up.txns) n
    × (b ≡ with_up h (record h.up { txns = h.up.txns ++ begun n db v d ∷ [] }))
Begins h db reply.NoDatabase b = (view_of h db ≡ None) × (b ≡ h.state)
Begins h db reply.TooMany b = IsSome (view_of h db) × (64 ≤ length h.up.txns) × (b ≡ h.state)
Begins h db _ b = ⊥

-- ---- read

-- page p is one of the transaction's
pub record HasPage (h : Here) (number p : ℕ) (t : Txn) : Type 0 where
  pub is_open : txn_at number h.up.txns ≡ Some t
  pub from_one : 1 ≤ p
  pub inside : p ≤ length (txn_image t)

-- a page that isn't at hand may still come at once
abbrev pub Reads : Here → ℕ → ℕ → Reply → State → Type 0
Reads h number p reply.NoTxn b = (txn_at number h.up.txns ≡ None) × (b ≡ h.state)
Reads h number p reply.BadPage b = (t : Txn) × (txn_at number h.up.txns ≡ Some t) × ((p ≡ 0) ⊎ (length (txn_image t) < p)) × (b ≡ h.state)
Reads h number p (reply.Page bytes) b = (t : Txn) × HasPage h number p t × (page_of (txn_image t) p ≡ Some bytes) × (b ≡ h.state)
Reads h number p (reply.Task n left) b =
    (t : Txn) × HasPage h number p t × (is_at_hand h.state t p ≡ false) × (length h.up.tasks < 16) × IsLeastFree (map (λ (k : Task). k.number) h.up.tasks) n × (left ≡ 1)
    × (b ≡ with_up h (record h.up { tasks = h.up.tasks ++ record { number = n; kind = Reading number p; id = None; left = 1; read = None; refused = []; cleans = None } ∷ [] }))
Reads h number p reply.CacheFull b = (t : Txn) × HasPage h number p t × (is_at_hand h.state t p ≡ false) × (h.client.slots ≤ held_pairs h.up) × (b ≡ h.state)
Reads h number p reply.TooMany b = (t : Txn) × HasPage h number p t × (is_at_hand h.state t p ≡ false) × (16 ≤ length h.up.tasks) × (b ≡ h.state)
Reads h number p _ b = ⊥

-- ---- the step of a read's task, which ends it

-- the page comes where the request is done, else a fault
abbrev pub ReadSteps : Here → Task → ℕ → ℕ → Outcome → Reply → State → Type 0
ReadSteps h task number p outcome.Ok (reply.Page bytes) b = (t : Txn) × HasPage h number p t × (page_of (txn_image t) p ≡ Some bytes) × (b ≡ without h task.number)
ReadSteps h task number p outcome.Fail reply.StoreFault b = b ≡ without h task.number
ReadSteps h task number p outcome.Lost reply.StoreFault b = b ≡ without h task.number
ReadSteps h task number p _ _ b = ⊥
