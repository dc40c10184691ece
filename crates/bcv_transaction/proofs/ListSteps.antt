-- The calls over the list, from what they do to one transaction.
use Rattle.std.proofs.Common.{◌≡◌, ◌∙◌, ℕ, true, List, [], map, Option, Some, None, IfSome, slice_set, get_or, refl, sym, subst}
use Rattle.std.specs.List.{position, remove}
use Rattle.bcv_cache.specs.Entry.{Blocks}
use Rattle.bcv_cache.specs.Cache.{KeepsEntries}
use Rattle.bcv_pages.specs.Held.{Held}
use Rattle.bcv_snapshot.specs.Opened.{Opened, IsTxn}
use Rattle.bcv_snapshot.specs.Pins.{KeepsPins, given_back}
use Rattle.bcv_transaction.specs.declared.answers.Came.{Came}
use Rattle.bcv_transaction.specs.declared.answers.Freed.{Freed}
use Rattle.bcv_transaction.specs.declared.open_txn.OpenTxn.{OpenTxn}
use Rattle.bcv_transaction.specs.ListCalls.{EndsIn, EndsOf, FreesIn, FreesOf, HoldsIn, HoldsOf, ReadsIn, ReadsOf, SameSize}
use Rattle.bcv_transaction.specs.Open.{AreOpenIn, CanRead, all_held, is_numbered, txn_at, view_in, without_txn}
use Rattle.bcv_transaction.specs.PageCalls.{FreesPage, HoldsPage, ReadsPage}
use Rattle.bcv_transaction.proofs.OpenMoves.{Moves, ended, free_moves, hold_moves, moved, own_txn, read_moves, stayed}
use Rattle.bcv_transaction.proofs.TxnPlaces.{IsAt, found, is_at, is_nowhere, removed, written}

-- the transaction that is read at the place that was found
pub at_place : (c : Blocks) (n : ℕ) (ts : List OpenTxn) (r : OpenTxn) (o : Option ℕ) (at : ℕ) → AreOpenIn c ts → o ≡ position (is_numbered n) ts → o ≡ Some at → r ≡ get_or ts at r → IsAt n ts at (get_or ts at r)
at_place c n ts r o at is place some read =
    is_at n ts at (get_or ts at r) (sym place ∙ some) (subst (λ (y : OpenTxn). y ≡ get_or ts at y) read read) is.differ

pub none_at : (n : ℕ) (ts : List OpenTxn) (o : Option ℕ) → o ≡ position (is_numbered n) ts → o ≡ None → txn_at n ts ≡ None
none_at n ts o place none = is_nowhere n ts (sym place ∙ none)

pub can_read : (pages : Held) (n : ℕ) (ts : List OpenTxn) (at : ℕ) (x : OpenTxn) → IsAt n ts at x → IfSome (txn_at n ts) (CanRead pages) → CanRead pages x
can_read pages n ts at x i can = subst (λ (o : Option OpenTxn). IfSome o (CanRead pages)) (found n ts at x i) can

-- ---- read

pub record ReadStep (pages : Held) (c d : Blocks) (n p : ℕ) (ts : List OpenTxn) (r : Came) : Type 0 where
  pub reads : ReadsIn pages c ts n p r d
  pub is_open : AreOpenIn d ts
  pub size : SameSize c d

pub read_step : (pages : Held) (c d : Blocks) (n p : ℕ) (ts : List OpenTxn) (at : ℕ) (x : OpenTxn) (r : Came) → AreOpenIn c ts → IsAt n ts at x → KeepsEntries c.entries d.entries
    → ReadsPage x.txn (view_in pages x) c p r d → ReadStep pages c d n p ts r
read_step pages c d n p ts at x r is i stay reads =
    let moves = read_moves x.txn (view_in pages x) c d p r (all_held ts) reads is.no_others in
    record {
      reads = subst (λ (o : Option OpenTxn). ReadsOf pages c o p r d) (sym (found n ts at x i)) reads;
      is_open = stayed c d ts is stay moves.1 moves.0;
      size = moves.0;
    }

-- ---- hold

pub record HoldStep (pages : Held) (c d : Blocks) (n p : ℕ) (ts us : List OpenTxn) (r : Came) : Type 0 where
  pub holds : HoldsIn pages c ts n p r us d
  pub is_open : AreOpenIn d us
  pub size : SameSize c d

pub hold_step : (pages : Held) (c d : Blocks) (n p : ℕ) (ts : List OpenTxn) (at : ℕ) (x : OpenTxn) (u : Opened) (r : Came) → AreOpenIn c ts → IsAt n ts at x
    → HoldsPage x.txn (view_in pages x) c p r u d → KeepsPins x.txn.held c.entries u.held d.entries → (IsTxn x.txn → IsTxn u) → HoldStep pages c d n p ts (slice_set ts at (record x { txn = u })) r
hold_step pages c d n p ts at x u r is i holds keeps txn =
    let moves : Moves x.txn u c d = hold_moves x.txn u (view_in pages x) c d p r holds keeps (txn (own_txn c n ts at x is i)) in
    record {
      holds = subst (λ (o : Option OpenTxn). HoldsOf pages c o ts n p r (slice_set ts at (record x { txn = u })) d) (sym (found n ts at x i)) (u, holds, written n ts at x u i);
      is_open = subst (AreOpenIn d) (sym (written n ts at x u i)) (moved c d n ts at x u is i moves);
      size = moves.size;
    }

-- ---- free

pub record FreeStep (c d : Blocks) (n p : ℕ) (ts us : List OpenTxn) (r : Freed) : Type 0 where
  pub frees : FreesIn c ts n p r us d
  pub is_open : AreOpenIn d us
  pub size : SameSize c d

pub free_step : (c d : Blocks) (n p : ℕ) (ts : List OpenTxn) (at : ℕ) (x : OpenTxn) (u : Opened) (r : Freed) → AreOpenIn c ts → IsAt n ts at x
    → FreesPage x.txn c p r u d → KeepsPins x.txn.held c.entries u.held d.entries → (IsTxn x.txn → IsTxn u) → FreeStep c d n p ts (slice_set ts at (record x { txn = u })) r
free_step c d n p ts at x u r is i frees keeps txn =
    let moves : Moves x.txn u c d = free_moves x.txn u c d p r frees keeps (txn (own_txn c n ts at x is i)) in
    record {
      frees = subst (λ (o : Option OpenTxn). FreesOf c o ts n p r (slice_set ts at (record x { txn = u })) d) (sym (found n ts at x i)) (u, frees, written n ts at x u i);
      is_open = subst (AreOpenIn d) (sym (written n ts at x u i)) (moved c d n ts at x u is i moves);
      size = moves.size;
    }

-- ---- end

pub record EndStep (c d : Blocks) (n : ℕ) (ts us : List OpenTxn) : Type 0 where
  pub ends : EndsIn c ts n true us d
  pub is_open : AreOpenIn d us

pub end_step : (c d : Blocks) (n : ℕ) (ts us : List OpenTxn) (at : ℕ) (x : OpenTxn) → AreOpenIn c ts → IsAt n ts at x → us ≡ remove ts at → d ≡ record c { entries = map (given_back x.txn.held) c.entries }
    → KeepsPins x.txn.held c.entries [] d.entries → EndStep c d n ts us
end_step c d n ts us at x is i less entries keeps =
    let without : us ≡ without_txn n ts = less ∙ removed n ts at x i in
    record {
      ends = subst (λ (o : Option OpenTxn). EndsOf c o ts n true us d) (sym (found n ts at x i)) (refl, without, entries);
      is_open = subst (AreOpenIn d) (sym without) (ended c d n ts at x is i entries keeps);
    }

-- a place in a list that is another one's
pub place_by : (n : ℕ) (ts us : List OpenTxn) (o : Option ℕ) → o ≡ position (is_numbered n) us → us ≡ ts → o ≡ position (is_numbered n) ts
place_by n ts us o place same = subst (λ (xs : List OpenTxn). o ≡ position (is_numbered n) xs) same place
