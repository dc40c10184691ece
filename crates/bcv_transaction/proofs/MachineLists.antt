-- The list of open transactions in the machine's words.
use Rattle.std.proofs.Common.{◌≡◌, ◌∙◌, ◌==◌, ℕ, Bool, true, false, not, cond, List, [], ◌∷◌, ◌++◌, map, filter, find, length, take, Some, refl, sym, ap}
use Rattle.std.specs.Option.{option_map}
use Rattle.bcv_base.specs.History.{Item}
use Rattle.bcv_clientstate.specs.SeenClient.{seen_txn}
use Rattle.bcv_machine.specs.State.{Side, Task, Txn, Up, with_up}
use Rattle.bcv_machine.specs.State.{txn_at as machine_txn}
use Rattle.bcv_machine.specs.Reading.{is_job_of, without_txn as machine_without}
use Rattle.bcv_pages.specs.Held.{Held}
use Rattle.bcv_transaction.specs.declared.open_txn.OpenTxn.{OpenTxn}
use Rattle.bcv_transaction.specs.MachineCalls.{open_part, seen_txns, side_ended, side_with}
use Rattle.bcv_transaction.specs.Open.{numbers_of, txn_at, without_txn}

-- a transaction in the machine's words
abbrev pub seen : List Item → (ℕ → Held) → OpenTxn → Txn
seen past sets t = seen_txn past (open_part sets t)

pub seen_numbers : (past : List Item) (sets : ℕ → Held) (ts : List OpenTxn) → map (λ (t : Txn). t.number) (seen_txns past sets ts) ≡ numbers_of ts
seen_numbers past sets [] = refl
seen_numbers past sets (t ∷ ts) = ap (λ (ns : List ℕ). t.number ∷ ns) (seen_numbers past sets ts)

seen_found : (past : List Item) (sets : ℕ → Held) (n : ℕ) (ts : List OpenTxn) → find (λ (t : Txn). t.number == n) (seen_txns past sets ts) ≡ option_map (seen past sets) (txn_at n ts)
seen_found past sets n [] = refl
seen_found past sets n (t ∷ ts) =
    elim (t.number == n) as (λ (b : Bool). cond b (Some (seen past sets t)) (find (λ (x : Txn). x.number == n) (seen_txns past sets ts)) ≡ option_map (seen past sets) (cond b (Some t) (txn_at n ts))) [
      | true ↦ refl
      | false ↦ seen_found past sets n ts
    ]

-- the transaction of a number
pub seen_at : (past : List Item) (sets : ℕ → Held) (n : ℕ) (ts : List OpenTxn) (u : Up) → u.txns ≡ seen_txns past sets ts → machine_txn u n ≡ option_map (seen past sets) (txn_at n ts)
seen_at past sets n ts u is = ap (λ (xs : List Txn). find (λ (t : Txn). t.number == n) xs) is ∙ seen_found past sets n ts

pub seen_without : (past : List Item) (sets : ℕ → Held) (n : ℕ) (ts : List OpenTxn) → seen_txns past sets (without_txn n ts) ≡ filter (λ (t : Txn). not (t.number == n)) (seen_txns past sets ts)
seen_without past sets n [] = refl
seen_without past sets n (t ∷ ts) =
    elim (t.number == n) as (λ (b : Bool). seen_txns past sets (cond (not b) (t ∷ without_txn n ts) (without_txn n ts))
    ≡ cond (not b) (seen past sets t ∷ filter (λ (x : Txn). not (x.number == n)) (seen_txns past sets ts)) (filter (λ (x : Txn). not (x.number == n)) (seen_txns past sets ts))) [
      | true ↦ seen_without past sets n ts
      | false ↦ ap (λ (xs : List Txn). seen past sets t ∷ xs) (seen_without past sets n ts)
    ]

-- the side where the transactions are as they were
pub side_same : (past : List Item) (sets : ℕ → Held) (s : Side) (u : Up) (ts : List OpenTxn) → u.txns ≡ seen_txns past sets ts → side_with past sets s u ts ≡ with_up s u
side_same past sets s u ts is = ap (λ (xs : List Txn). with_up s (record u { txns = xs })) (sym is)

pub side_less : (past : List Item) (sets : ℕ → Held) (s : Side) (u : Up) (n : ℕ) (ts : List OpenTxn) → u.txns ≡ seen_txns past sets ts
    → side_ended past sets s u n (without_txn n ts) ≡ with_up s (machine_without u n)
side_less past sets s u n ts is =
    ap (λ (xs : List Txn). with_up s (record u { txns = xs; tasks = filter (λ (t : Task). not (is_job_of n t.job)) u.tasks }))
    (seen_without past sets n ts ∙ ap (λ (xs : List Txn). filter (λ (t : Txn). not (t.number == n)) xs) (sym is))

take_front : (us xs : List OpenTxn) → take (length us) (us ++ xs) ≡ us
take_front [] xs = refl
take_front (x ∷ us) xs = ap (λ (ys : List OpenTxn). x ∷ ys) (take_front us xs)

-- the list where a slice of it all was written
pub written_whole : (n : ℕ) (us xs : List OpenTxn) → n ≡ length us → take n (us ++ xs) ≡ us
written_whole n us xs is = ap (λ (k : ℕ). take k (us ++ xs)) is ∙ take_front us xs
