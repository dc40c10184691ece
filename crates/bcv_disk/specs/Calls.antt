-- How calls of a disk follow one another.
use Rattle.std.proofs.Common.{◌≡◌, ◌⊎◌, inl, inr, ⊎_elim, ℕ, ◌+◌, ◌≤◌, Bool, true, false, Option, None, Some, List, refl, arith}
use Rattle.std.proofs.lemmas.Bool.{cases_Bool}
use Rattle.bcv_base.specs.Faults.{Rose}
use Rattle.bcv_disk.specs.Crash.{IsSame, LeavesOnly, Passes}
use Rattle.bcv_disk.specs.DiskCalls.{DiskFails}
use Rattle.bcv_disk.specs.DiskShown.{DiskShown, DiskTold, Trouble}
use Rattle.bcv_disk.specs.Troubles.{CountsCall, FuseLeft, IsSpent, Suffers, counted}

-- a call and then one that makes no other images than those that were possible
pub Passes-then : (old mid new : DiskShown) {inside : List ℕ → Type 0} → Passes old mid inside → Passes mid new mid.may_leave → Passes old new inside
Passes-then old mid new p q = record {
  later = omega (arith, p.later, q.later);
  now_left = λ image left. p.now_left image (q.now_left image left);
  nothing_else = λ t image le left. ⊎_elim (λ was. p.nothing_else t image le was) (λ now. inr (p.now_left image now)) (q.nothing_else t image (omega (arith, le, p.later)) left);
  keeps = λ t image le left. q.keeps t image (omega (arith, le, p.later)) (p.keeps t image le left);
}

-- before the first call
pub LeavesOnly-started : (old : DiskShown) (P : List ℕ → Type 0) → ((image : List ℕ) → old.left_since old.moment image → P image) → LeavesOnly old old P
LeavesOnly-started old P here = record { later = omega arith; each = here; before = λ t image le left. inl left }

-- one call more, inside which a crash leaves what has P
pub LeavesOnly-more : (old mid new : DiskShown) (P inside : List ℕ → Type 0) → LeavesOnly old mid P → Passes mid new inside → ((image : List ℕ) → inside image → P image) → LeavesOnly old new P
LeavesOnly-more old mid new P inside so_far call here = record {
  later = omega (arith, so_far.later, call.later);
  each = λ image left. ⊎_elim (so_far.each image) (here image) (call.nothing_else old.moment image so_far.later left);
  before = λ t image le left. ⊎_elim (so_far.before t image le) (λ now. inr (here image now)) (call.nothing_else t image (omega (arith, le, so_far.later)) left);
}

-- a call that left the disk as it was
pub LeavesOnly-same : (old mid new : DiskShown) (P : List ℕ → Type 0) → LeavesOnly old mid P → IsSame mid new → LeavesOnly old new P
LeavesOnly-same old mid new P so_far same = record {
  later = omega (arith, so_far.later, same.time);
  each = λ image left. so_far.each image (same.no_more_since old.moment image left);
  before = λ t image le left. so_far.before t image le (same.no_more_since t image left);
}

-- a run of calls and then another
pub LeavesOnly-then : (old mid new : DiskShown) (P : List ℕ → Type 0) → LeavesOnly old mid P → LeavesOnly mid new P → LeavesOnly old new P
LeavesOnly-then old mid new P first second = record {
  later = omega (arith, first.later, second.later);
  each = λ image left. ⊎_elim (first.each image) (λ has. has) (second.before old.moment image first.later left);
  before = λ t image le left. ⊎_elim (first.before t image le) (λ has. inr has) (second.before t image (omega (arith, le, first.later)) left);
}

-- what has P has Q
pub LeavesOnly-weaker : (old new : DiskShown) (P Q : List ℕ → Type 0) → ((image : List ℕ) → P image → Q image) → LeavesOnly old new P → LeavesOnly old new Q
LeavesOnly-weaker old new P Q weaker run = record {
  later = run.later;
  each = λ image left. weaker image (run.each image left);
  before = λ t image le left. ⊎_elim (λ was. inl was) (λ has. inr (weaker image has)) (run.before t image le left);
}

-- where no fuse is set, none is set by a call
none_stays : (before after : Option (ℕ × ℕ)) → FuseLeft before after → before ≡ None → after ≡ None
none_stays before None left none = refl
none_stays before (Some p) left none = let was = left p.0 p.1 refl in absurd (cc (none, was.1))

-- a failure was spent in the first call or in the second
spent_in : (x y z : Option ℕ) → IsSpent x z → IsSpent x y ⊎ IsSpent y z
spent_in x None z spent = inl (spent.0, spent.1, refl)
spent_in x (Some calls) z spent = inr (calls, refl, spent.2)

-- a call that was no failure and then another, which may have failed
pub Suffers-then : (a b c : Trouble) {once failed : Type 0} → (once → failed) → Suffers a b once → Suffers b c failed → Suffers a c failed
Suffers-then a b c as_failed p q = record {
  fuse_left = λ calls image is. let mid = q.fuse_left calls image is in let start = p.fuse_left mid.0 image mid.1 in (start.0, start.1, omega (arith, mid.2, start.2));
  failure_left = λ calls is. let mid = q.failure_left calls is in let start = p.failure_left mid.0 mid.1 in (start.0, start.1, omega (arith, mid.2, start.2));
  burns = λ burnt. ⊎_elim p.burns (λ set. let start = p.fuse_left set.0 set.1 set.2 in inr (start.0, set.1, start.1)) (q.burns burnt);
  burnt_out = λ whole burnt. ⊎_elim (λ mid. none_stays b.fuse c.fuse q.fuse_left (p.burnt_out whole mid)) (λ mid. q.burnt_out mid burnt) (cases_Bool b.burnt);
  stays_burnt = λ burnt. q.stays_burnt (p.stays_burnt burnt);
  cause = λ fails. ⊎_elim (λ burnt. inl burnt) (λ spent. let start = p.failure_left spent.0 spent.1 in inr (start.0, start.1, spent.2)) (q.cause fails);
  strikes = λ whole burnt. ⊎_elim (λ mid. as_failed (p.strikes whole mid)) (λ mid. q.strikes mid burnt) (cases_Bool b.burnt);
  spends = λ spent. ⊎_elim (λ first. as_failed (p.spends first)) (λ second. q.spends second) (spent_in a.failure b.failure c.failure spent);
}

-- the same troubles, by another word for the call's failing
pub Suffers-as : (a b : Trouble) {failed other : Type 0} → (other → failed) → (failed → other) → Suffers a b failed → Suffers a b other
Suffers-as a b as_failed as_other p = record {
  fuse_left = p.fuse_left;
  failure_left = p.failure_left;
  burns = p.burns;
  burnt_out = p.burnt_out;
  stays_burnt = p.stays_burnt;
  cause = λ fails. p.cause (as_failed fails);
  strikes = λ whole burnt. as_other (p.strikes whole burnt);
  spends = λ spent. as_other (p.spends spent);
}

-- no call: the troubles are as they were
pub Suffers-none : (a : Trouble) {failed : Type 0} → (failed → ⊥) → Suffers a a failed
Suffers-none a fails = record {
  fuse_left = λ calls image is. (calls, is, omega arith);
  failure_left = λ calls is. (calls, is, omega arith);
  burns = λ burnt. inl burnt;
  burnt_out = λ whole burnt. absurd (cc (whole, burnt));
  stays_burnt = λ burnt. burnt;
  cause = λ failed. absurd (fails failed);
  strikes = λ whole burnt. absurd (cc (whole, burnt));
  spends = λ spent. absurd (cc (spent.1, spent.2));
}

-- a call that is no failure counts once
pub CountsCall-done : (a b : Trouble) {failed : Type 0} → (failed → ⊥) → CountsCall a b failed → b.calls ≡ counted a.calls 1
CountsCall-done a b fails counts = ⊎_elim (λ burnt. absurd (fails (counts.down burnt))) (λ whole. counts.once whole) (cases_Bool a.burnt)

-- a failure that was counted after other calls was counted since their start
Rose-since : (a b c : ℕ) → a ≤ b → Rose b c → Rose a c
Rose-since a b c le rose = omega (arith, le, rose)

-- calls that were no failure and then others, of which the last may have failed
pub DiskFails-then : (told : DiskTold) (a b c : DiskShown) {once failed : Type 0} → (once → failed) → DiskFails told a b once → DiskFails told b c failed → DiskFails told a c failed
DiskFails-then told a b c as_failed p q = record {
  later = omega (arith, p.later, q.later);
  rose = λ fails. Rose-since a.faults b.faults c.faults p.later (q.rose fails);
  troubles = λ t. Suffers-then a.trouble b.trouble c.trouble as_failed (p.troubles t) (q.troubles t);
}

-- no call
pub DiskFails-none : (told : DiskTold) (a : DiskShown) {failed : Type 0} → (failed → ⊥) → DiskFails told a a failed
DiskFails-none told a fails = record { later = omega arith; rose = λ failed. absurd (fails failed); troubles = λ t. Suffers-none a.trouble fails }

-- the same, by another word for the failing
pub DiskFails-as : (told : DiskTold) (a b : DiskShown) {failed other : Type 0} → (other → failed) → (failed → other) → DiskFails told a b failed → DiskFails told a b other
DiskFails-as told a b as_failed as_other p =
    record { later = p.later; rose = λ fails. p.rose (as_failed fails); troubles = λ t. Suffers-as a.trouble b.trouble as_failed as_other (p.troubles t) }
