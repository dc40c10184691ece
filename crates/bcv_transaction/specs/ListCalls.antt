-- What the calls answer and do, over the list of open transactions and the cache.
use Rattle.std.specs.Prelude.{◌≡◌, ℕ, Bool, true, false, List, map, Option, Some, None}
use Rattle.bcv_cache.specs.Entry.{Blocks}
use Rattle.bcv_pages.specs.Held.{Held}
use Rattle.bcv_snapshot.specs.declared.look.Look.{Look}
use Rattle.bcv_snapshot.specs.declared.look.Look.TheVariants as look
use Rattle.bcv_snapshot.specs.Opened.{Opened}
use Rattle.bcv_snapshot.specs.Pins.{given_back}
use Rattle.bcv_snapshot.specs.TxnCalls.{TxnLooks}
use Rattle.bcv_transaction.specs.declared.answers.Came.{Came}
use Rattle.bcv_transaction.specs.declared.answers.Came.TheVariants as came
use Rattle.bcv_transaction.specs.declared.answers.Freed.{Freed}
use Rattle.bcv_transaction.specs.declared.answers.Freed.TheVariants as freed
use Rattle.bcv_transaction.specs.declared.open_txn.OpenTxn.{OpenTxn}
use Rattle.bcv_transaction.specs.Open.{txn_at, view_in, with_txn, without_txn}
use Rattle.bcv_transaction.specs.PageCalls.{FreesPage, HoldsPage, ReadsPage}

-- the cache has slots of as many bytes, and as many of them
pub record SameSize (c d : Blocks) : Type 0 where
  pub most : d.most ≡ c.most
  pub block : d.block ≡ c.block

-- ---- read

abbrev pub ReadsOf : Held → Blocks → Option OpenTxn → ℕ → Came → Blocks → Type 0
ReadsOf pages c None p r d = (r ≡ came.NoTxn) × (d ≡ c)
ReadsOf pages c (Some t) p r d = ReadsPage t.txn (view_in pages t) c p r d

-- a page of the transaction of a number is read
abbrev pub ReadsIn : Held → Blocks → List OpenTxn → ℕ → ℕ → Came → Blocks → Type 0
ReadsIn pages c ts n p r d = ReadsOf pages c (txn_at n ts) p r d

-- ---- hold

abbrev pub HoldsOf : Held → Blocks → Option OpenTxn → List OpenTxn → ℕ → ℕ → Came → List OpenTxn → Blocks → Type 0
HoldsOf pages c None ts n p r us d = (r ≡ came.NoTxn) × (us ≡ ts) × (d ≡ c)
HoldsOf pages c (Some t) ts n p r us d = (u : Opened) × HoldsPage t.txn (view_in pages t) c p r u d × (us ≡ with_txn n u ts)

-- the block of a page of the transaction of a number is held
abbrev pub HoldsIn : Held → Blocks → List OpenTxn → ℕ → ℕ → Came → List OpenTxn → Blocks → Type 0
HoldsIn pages c ts n p r us d = HoldsOf pages c (txn_at n ts) ts n p r us d

-- ---- look

abbrev pub LooksOf : Held → Blocks → Option OpenTxn → ℕ → Look → Type 0
LooksOf pages c None p r = r ≡ look.NoTxn
LooksOf pages c (Some t) p r = TxnLooks t.txn (view_in pages t) c p r

-- a page of the transaction of a number is shown
abbrev pub LooksIn : Held → Blocks → List OpenTxn → ℕ → ℕ → Look → Type 0
LooksIn pages c ts n p r = LooksOf pages c (txn_at n ts) p r

-- ---- free

abbrev pub FreesOf : Blocks → Option OpenTxn → List OpenTxn → ℕ → ℕ → Freed → List OpenTxn → Blocks → Type 0
FreesOf c None ts n p r us d = (r ≡ freed.NoTxn) × (us ≡ ts) × (d ≡ c)
FreesOf c (Some t) ts n p r us d = (u : Opened) × FreesPage t.txn c p r u d × (us ≡ with_txn n u ts)

-- the block of a page of the transaction of a number is let go
abbrev pub FreesIn : Blocks → List OpenTxn → ℕ → ℕ → Freed → List OpenTxn → Blocks → Type 0
FreesIn c ts n p r us d = FreesOf c (txn_at n ts) ts n p r us d

-- ---- end

abbrev pub EndsOf : Blocks → Option OpenTxn → List OpenTxn → ℕ → Bool → List OpenTxn → Blocks → Type 0
EndsOf c None ts n r us d = (r ≡ false) × (us ≡ ts) × (d ≡ c)
EndsOf c (Some t) ts n r us d = (r ≡ true) × (us ≡ without_txn n ts) × (d ≡ record c { entries = map (given_back t.txn.held) c.entries })

-- the transaction of a number ends, and its pins are given back
abbrev pub EndsIn : Blocks → List OpenTxn → ℕ → Bool → List OpenTxn → Blocks → Type 0
EndsIn c ts n r us d = EndsOf c (txn_at n ts) ts n r us d
