-- What a crash leaves while a file is loaded.
use Rattle.std.proofs.Common.{◌≡◌, inl, inr, ⊎_elim, ℕ, ◌≤◌, List, length, Result, Ok, Err, ◌∙◌, subst, arith}
use Rattle.bcv_disk.specs.Crash.{LeavesOnly, Only, Passes, Through, Torn}
use Rattle.bcv_disk.specs.Calls.{LeavesOnly-more, LeavesOnly-started, LeavesOnly-then, LeavesOnly-weaker}
use Rattle.bcv_disk.specs.DiskShown.{DiskShown}
use Rattle.bcv_journal.specs.Layout.{EndsAt, Loads}
use Rattle.bcv_journal.specs.Settled.{IsOldOrAlike, LoadsAlike}
use Rattle.bcv_journal.proofs.Unique.{short_items, short_tail}

-- whatever a crash makes of a short file while it becomes an empty journal, it loads as before
empty_loads : (bytes image : List ℕ) → length bytes ≤ 18 → Torn 0 18 bytes image → (outcome : Result (List (List ℕ)) ℕ) → Loads bytes outcome → Loads image outcome
empty_loads bytes image short torn (Ok items) (inl none) = inl (omega (arith, torn.no_longer, short), none.1)
empty_loads bytes image short torn (Ok items) (inr whole) = inl (omega (arith, torn.no_longer, short), short_items bytes items whole.1 short)
empty_loads bytes image short torn (Err place) (inl long) = absurd (omega (arith, long.0, short))
empty_loads bytes image short torn (Err place) (inr long) = absurd (omega (arith, long.0, short))

empty_ends : (bytes image : List ℕ) → length bytes ≤ 18 → Torn 0 18 bytes image → (items : List (List ℕ)) (tail : ℕ) → EndsAt bytes items tail → EndsAt image items tail
empty_ends bytes image short torn items tail (inl none) = inl (omega (arith, torn.no_longer, short), none.1, none.2)
empty_ends bytes image short torn items tail (inr whole) = inl (omega (arith, torn.no_longer, short), short_items bytes items whole.1 short, whole.2 ∙ short_tail bytes items whole.1 short)

pub empty_alike : (bytes image : List ℕ) → length bytes ≤ 18 → Torn 0 18 bytes image → LoadsAlike bytes image
empty_alike bytes image short torn = (empty_loads bytes image short torn, empty_ends bytes image short torn)

module _ (old : DiskShown) (only_now : (image : List ℕ) → old.left_since old.moment image → old.may_leave image) where
  -- before the first call
  pub at_start : LeavesOnly old old (IsOldOrAlike old)
  at_start = LeavesOnly-started old (IsOldOrAlike old) (λ image left. inl (only_now image left))

  -- a call that makes no other images than those that were possible
  pub after_reading : (mid : DiskShown) → Passes old mid old.may_leave → LeavesOnly old mid (IsOldOrAlike old)
  after_reading mid call = LeavesOnly-more old old mid (IsOldOrAlike old) _ at_start call (λ image left. inl left)

  -- a call that writes an empty journal
  pub after_writing : (new : DiskShown) → Only old.seen old.may_leave → length old.seen ≤ 18 → Passes old new (Through (Torn 0 18) old.may_leave) → LeavesOnly old new (IsOldOrAlike old)
  after_writing new only short call =
      LeavesOnly-more old old new (IsOldOrAlike old) _ at_start call (λ image through. inr (empty_alike old.seen image short (subst (λ (l : List ℕ). Torn 0 18 l image) (only through.0 through.1) through.2)))

  -- and what follows such a reading call
  pub after_more : (mid new : DiskShown) → Passes old mid old.may_leave → mid.seen ≡ old.seen → LeavesOnly mid new (IsOldOrAlike mid) → LeavesOnly old new (IsOldOrAlike old)
  after_more mid new call same run =
      LeavesOnly-then old mid new (IsOldOrAlike old) (after_reading mid call)
      (LeavesOnly-weaker mid new (IsOldOrAlike mid) (IsOldOrAlike old) (λ image has. ⊎_elim (λ left. inl (call.now_left image left)) (λ alike. inr (subst (λ (l : List ℕ). LoadsAlike l image) same alike)) has) run)
