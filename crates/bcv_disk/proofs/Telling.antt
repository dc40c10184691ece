-- What the record of a disk in memory says of each call, in the words of the trait.
use Rattle.std.proofs.Common.{◌≡◌, ◌≢◌, ◌⊎◌, inl, inr, ⊎_elim, ℕ, zero, suc, ◌+◌, ◌-◌, ◌^◌, ◌<◌, ◌≤◌, min, Bool, true, false, Option, None, Some, is_some, List, [], ◌∷◌, length, nat_lt, if◌then◌else◌, refl, sym, ◌∙◌, ap, subst, arith}
use Rattle.std.proofs.lemmas.Bool.{cases_lt, lt-ltb, le-ltb}
use Rattle.bcv_base.specs.Faults.{Rose}
use Rattle.bcv_disk.specs.Calls.{Passes-then, Suffers-as}
use Rattle.bcv_disk.specs.Crash.{IsSame, Only, Passes, Shortened, Through, Torn}
use Rattle.bcv_disk.specs.DiskCalls.{DiskCall, DiskFails, Len, Read, Write, Cut, Sync, ended}
use Rattle.bcv_disk.specs.DiskShown.{DiskShown, Trouble}
use Rattle.bcv_disk.specs.Memory.{IsRecorded, SaysBesides, after_call, after_done, before_crash, blow_by, blow_of, burning, failure_after, faults_after, fuse_after, is_struck, shown_by, shown_of, tells_all, trouble_of}
use Rattle.bcv_disk.specs.Record.{content, Leaves, LeftSince, idle_before, is_unsynced, moment_of}
use Rattle.bcv_disk.specs.Story.{Story, raised, with_crash, with_cut, with_sync, with_write}
use Rattle.bcv_disk.specs.Told.{cut_same, leaves_image, stands_now, torn_same}
use Rattle.bcv_disk.specs.Troubles.{CountsCall, FailureLeft, FuseLeft, IsSpent, Suffers, counted}
use Rattle.bcv_disk.specs.declared.disk.DiskEnd.{DiskEnd}
use Rattle.bcv_disk.specs.declared.disk.DiskEnd.TheVariants.{Done, Failed, NoMemory}
use Rattle.bcv_disk.specs.declared.disk.Size.{Size}
use Rattle.bcv_disk.specs.declared.disk.Size.TheVariants as size
use Rattle.bcv_disk.specs.declared.memory.Blow.{Blow}
use Rattle.bcv_disk.specs.declared.memory.Blow.TheVariants.{Spared, Fails, Burns}
use Rattle.bcv_disk.specs.declared.memory.MemDisk.{MemDisk}
use Rattle.bcv_disk.specs.declared.platter.Act.{Act}
use Rattle.bcv_disk.specs.declared.platter.Act.TheVariants.{Wrote, CutTo, Synced, Crashed}

raised-least : (count : ℕ) → count ≤ raised count
raised-least count = elim (cases_lt count (2 ^ 64 - 1)) [
  | inl less ↦ omega (arith, ap (λ (b : Bool). if b then count + 1 else count) (lt-ltb count (2 ^ 64 - 1) less))
  | inr most ↦ omega (arith, ap (λ (b : Bool). if b then count + 1 else count) (le-ltb count (2 ^ 64 - 1) most))
]

raised-rose : (count : ℕ) → Rose count (raised count)
raised-rose count = elim (cases_lt count (2 ^ 64 - 1)) [
  | inl less ↦ omega (arith, ap (λ (b : Bool). if b then count + 1 else count) (lt-ltb count (2 ^ 64 - 1) less))
  | inr most ↦ omega (arith, most, ap (λ (b : Bool). if b then count + 1 else count) (le-ltb count (2 ^ 64 - 1) most))
]

module _ (t u : Trouble) (f g : ℕ) where
  -- only crashes that found nothing to tear went by
  pass_idle : (acts : List Act) (idle more : ℕ) (inside : List ℕ → Type 0) → idle ≤ more → ((image : List ℕ) → Leaves acts image → inside image) → Passes (shown_by (record { idle = idle; acts = acts }) t f) (shown_by (record { idle = more; acts = acts }) u g) inside
  pass_idle [] idle more inside le into =
      record { later = le; now_left = into; nothing_else = λ t image now left. inl (now, left.1); keeps = λ t image now left. (omega (arith, left.0, le), left.1) }
  pass_idle (act ∷ past) idle more inside le into = record {
    later = omega (arith, le);
    now_left = into;
    nothing_else = λ t image now left. ⊎_elim (λ here. inl (inl (now, here.1))) (λ earlier. inl (inr earlier)) left;
    keeps = λ t image now left. ⊎_elim (λ here. inl (omega (arith, here.0, le), here.1)) (λ earlier. inr earlier) left;
  }

  pass_same : (s : Story) (inside : List ℕ → Type 0) → ((image : List ℕ) → Leaves s.acts image → inside image) → Passes (shown_by s t f) (shown_by s u g) inside
  pass_same s inside into = pass_idle s.acts s.idle s.idle inside (omega arith) into

  -- one call was recorded
  pass_act : (s : Story) (act : Act) (inside : List ℕ → Type 0) → idle_before act ≡ s.idle → ((image : List ℕ) → Leaves (act ∷ s.acts) image → inside image) → Passes (shown_by s t f) (shown_by (record { idle = 0; acts = act ∷ s.acts }) u g) inside
  pass_act s act inside idle into = record {
    later = omega (arith, ap (λ (n : ℕ). moment_of n s.acts) idle);
    now_left = into;
    nothing_else = λ t image now left. ⊎_elim (λ here. inr (into image here.1)) (λ earlier. inl (subst (λ (n : ℕ). LeftSince n s.acts t image) idle earlier)) left;
    keeps = λ t image now left. inr (subst (λ (n : ℕ). LeftSince n s.acts t image) (sym idle) left);
  }

  -- a sync, or a crash, with or without work
  pass_sync : (s : Story) → Passes (shown_by s t f) (shown_by (with_sync s) u g) (Leaves s.acts)
  pass_sync s = by_work (is_unsynced s.acts)
    where
      by_work : (b : Bool) → Passes (shown_by s t f) (shown_by (if b then record { idle = 0; acts = Synced s.idle ∷ s.acts } else s) u g) (Leaves s.acts)
      by_work true = pass_act s (Synced s.idle) (Leaves s.acts) refl (λ image is. subst (Leaves s.acts) (sym is) (stands_now s.acts))
      by_work false = pass_same s (Leaves s.acts) (λ image left. left)

  pass_crash : (n : ℕ) (s : Story) → Passes (shown_by s t f) (shown_by (with_crash n s) u g) (Leaves s.acts)
  pass_crash n s = by_work (is_unsynced s.acts)
    where
      by_work : (b : Bool) → Passes (shown_by s t f) (shown_by (if b then record { idle = 0; acts = Crashed s.idle n ∷ s.acts } else record { idle = raised s.idle; acts = s.acts }) u g) (Leaves s.acts)
      by_work true = pass_act s (Crashed s.idle n) (Leaves s.acts) refl (λ image is. subst (Leaves s.acts) (sym is) (leaves_image s.acts n))
      by_work false = pass_idle s.acts s.idle (raised s.idle) (Leaves s.acts) (raised-least s.idle) (λ image left. left)

-- the images inside a call
abbrev pub inside_call : DiskCall → Story → List ℕ → Type 0
inside_call Len s = Leaves s.acts
inside_call (Read at count) s = Leaves s.acts
inside_call (Write at w) s = Through (Torn at (length w)) (Leaves s.acts)
inside_call (Cut len) s = Through (Shortened len) (Leaves s.acts)
inside_call Sync s = Leaves s.acts

start_inside : (call : DiskCall) (s : Story) (image : List ℕ) → Leaves s.acts image → inside_call call s image
start_inside Len s image left = left
start_inside (Read at count) s image left = left
start_inside (Write at w) s image left = (image, left, torn_same image at (length w))
start_inside (Cut len) s image left = (image, left, cut_same image len)
start_inside Sync s image left = left

module _ (t u : Trouble) (f g : ℕ) where
  pass_done : (call : DiskCall) (s : Story) → Passes (shown_by s t f) (shown_by (after_done call s) u g) (inside_call call s)
  pass_done Len s = pass_same t u f g s (Leaves s.acts) (λ image left. left)
  pass_done (Read at count) s = pass_same t u f g s (Leaves s.acts) (λ image left. left)
  pass_done (Write at w) s = pass_act t u f g s (Wrote s.idle at w) (Through (Torn at (length w)) (Leaves s.acts)) refl (λ image left. left)
  pass_done (Cut len) s = pass_act t u f g s (CutTo s.idle len) (Through (Shortened len) (Leaves s.acts)) refl (λ image left. left)
  pass_done Sync s = pass_sync t u f g s

  pass_before : (call : DiskCall) (s : Story) → Passes (shown_by s t f) (shown_by (before_crash call s) u g) (inside_call call s)
  pass_before Len s = pass_same t u f g s (Leaves s.acts) (λ image left. left)
  pass_before (Read at count) s = pass_same t u f g s (Leaves s.acts) (λ image left. left)
  pass_before (Write at w) s = pass_act t u f g s (Wrote s.idle at w) (Through (Torn at (length w)) (Leaves s.acts)) refl (λ image left. left)
  pass_before (Cut len) s = pass_act t u f g s (CutTo s.idle len) (Through (Shortened len) (Leaves s.acts)) refl (λ image left. left)
  pass_before Sync s = pass_same t u f g s (Leaves s.acts) (λ image left. left)

  -- a call that crashed the disk
  pass_torn : (call : DiskCall) (n : ℕ) (s : Story) → Passes (shown_by s t f) (shown_by (with_crash n (before_crash call s)) u g) (inside_call call s)
  pass_torn call n s = Passes-then (shown_by s t f) (shown_by (before_crash call s) u g) (shown_by (with_crash n (before_crash call s)) u g) (pass_before call s) (pass_crash u u g g n (before_crash call s))

  pass_stale : (call : DiskCall) (n : ℕ) (s : Story) → Passes (shown_by s t f) (shown_by (with_crash n s) u g) (inside_call call s)
  pass_stale call n s =
      Passes-then (shown_by s t f) (shown_by s u g) (shown_by (with_crash n s) u g) (pass_same t u f g s (inside_call call s) (start_inside call s)) (pass_crash u u g g n s)

  -- whatever struck it
  pub pass_call : (blow : Blow) (call : DiskCall) (end : DiskEnd) (s new : Story) → IsRecorded blow call end s new → Passes (shown_by s t f) (shown_by new u g) (inside_call call s)
  pass_call Spared call Done s new is = subst (λ (x : Story). Passes (shown_by s t f) (shown_by x u g) (inside_call call s)) (sym is) (pass_done call s)
  pass_call Spared call Failed s new is = absurd is
  pass_call Spared call NoMemory s new is = subst (λ (x : Story). Passes (shown_by s t f) (shown_by x u g) (inside_call call s)) (sym is) (pass_same t u f g s (inside_call call s) (start_inside call s))
  pass_call Fails call Done s new is = absurd is
  pass_call Fails call Failed s new is = subst (λ (x : Story). Passes (shown_by s t f) (shown_by x u g) (inside_call call s)) (sym is) (pass_same t u f g s (inside_call call s) (start_inside call s))
  pass_call Fails call NoMemory s new is = absurd is
  pass_call (Burns n) call Done s new is = absurd is
  pass_call (Burns n) call Failed s new (inl is) = subst (λ (x : Story). Passes (shown_by s t f) (shown_by x u g) (inside_call call s)) (sym is) (pass_torn call n s)
  pass_call (Burns n) call Failed s new (inr is) = subst (λ (x : Story). Passes (shown_by s t f) (shown_by x u g) (inside_call call s)) (sym is) (pass_stale call n s)
  pass_call (Burns n) call NoMemory s new is = absurd is

-- a call that is done made its record, and one that found no memory made none
pub call_done : (blow : Blow) (call : DiskCall) (end : DiskEnd) (s new : Story) → IsRecorded blow call end s new → end ≡ Done → new ≡ after_done call s
call_done Spared call Done s new is done = is
call_done Spared call Failed s new is done = absurd is
call_done Spared call NoMemory s new is done = absurd (cc done)
call_done Fails call Done s new is done = absurd is
call_done Fails call Failed s new is done = absurd (cc done)
call_done Fails call NoMemory s new is done = absurd is
call_done (Burns n) call Done s new is done = absurd is
call_done (Burns n) call Failed s new is done = absurd (cc done)
call_done (Burns n) call NoMemory s new is done = absurd is

pub call_starved : (blow : Blow) (call : DiskCall) (end : DiskEnd) (s new : Story) → IsRecorded blow call end s new → end ≡ NoMemory → new ≡ s
call_starved Spared call Done s new is none = absurd (cc none)
call_starved Spared call Failed s new is none = absurd is
call_starved Spared call NoMemory s new is none = is
call_starved Fails call Done s new is none = absurd is
call_starved Fails call Failed s new is none = absurd (cc none)
call_starved Fails call NoMemory s new is none = absurd is
call_starved (Burns n) call Done s new is none = absurd is
call_starved (Burns n) call Failed s new is none = absurd (cc none)
call_starved (Burns n) call NoMemory s new is none = absurd is

pub same_shown : (m n : MemDisk) → n.platter ≡ m.platter → IsSame (shown_of m) (shown_of n)
same_shown m n is = record {
  bytes = ap (λ (s : Story). content s.acts) is;
  no_more = λ image left. subst (λ (s : Story). Leaves s.acts image) is left;
  no_less = λ image left. subst (λ (s : Story). Leaves s.acts image) (sym is) left;
  time = ap (λ (s : Story). moment_of s.idle s.acts) is;
  no_more_since = λ t image left. subst (λ (s : Story). LeftSince s.idle s.acts t image) is left;
  no_less_since = λ t image left. subst (λ (s : Story). LeftSince s.idle s.acts t image) (sym is) left;
}

-- a blow
abbrev IsBlow : Blow → Type 0
IsBlow Spared = ⊥
IsBlow Fails = Unit {0}
IsBlow (Burns n) = Unit {0}

failed_blow : (blow : Blow) (call : DiskCall) (end : DiskEnd) (s new : Story) → IsRecorded blow call end s new → (end ≡ Failed → IsBlow blow) × (IsBlow blow → end ≡ Failed)
failed_blow Spared call Done s new is = ((λ failed. absurd (cc failed)), (λ no_blow. absurd no_blow))
failed_blow Spared call Failed s new is = absurd is
failed_blow Spared call NoMemory s new is = ((λ failed. absurd (cc failed)), (λ no_blow. absurd no_blow))
failed_blow Fails call Done s new is = absurd is
failed_blow Fails call Failed s new is = ((λ failed. tt), (λ blow. refl))
failed_blow Fails call NoMemory s new is = absurd is
failed_blow (Burns n) call Done s new is = absurd is
failed_blow (Burns n) call Failed s new is = ((λ failed. tt), (λ blow. refl))
failed_blow (Burns n) call NoMemory s new is = absurd is

fuse_same : (f : Option (ℕ × ℕ)) → FuseLeft f f
fuse_same f calls image is = (calls, is, omega arith)

failure_same : (x : Option ℕ) → FailureLeft x x
failure_same x calls is = (calls, is, omega arith)

fuse_less : (f : Option (ℕ × ℕ)) → FuseLeft f (fuse_after f)
fuse_less None calls image is = absurd (cc is)
fuse_less (Some (zero, n)) calls image is = absurd (cc is)
fuse_less (Some (suc left, n)) calls image is = (suc left, (λ i. Some (suc left, same i)), omega (arith, fewer))
  where
    parts : Option (ℕ × ℕ) → ℕ × ℕ
    parts None = (0, 0)
    parts (Some p) = p

    same : n ≡ image
    same = ap (λ (o : Option (ℕ × ℕ)). (parts o).1) is

    fewer : left ≡ calls
    fewer = ap (λ (o : Option (ℕ × ℕ)). (parts o).0) is

failure_less : (x : Option ℕ) → FailureLeft x (failure_after x)
failure_less None calls is = absurd (cc is)
failure_less (Some zero) calls is = absurd (cc is)
failure_less (Some (suc left)) calls is = (suc left, refl, omega (arith, fewer))
  where
    part : Option ℕ → ℕ
    part None = 0
    part (Some n) = n

    fewer : left ≡ calls
    fewer = ap part is

-- a failure is spent exactly in the call that it strikes
spent_iff : (x : Option ℕ) → (IsBlow (blow_by false None (is_struck x)) → IsSpent x (failure_after x)) × (IsSpent x (failure_after x) → IsBlow (blow_by false None (is_struck x)))
spent_iff None = ((λ blow. absurd blow), (λ spent. absurd (cc spent.1)))
spent_iff (Some zero) = ((λ blow. (0, refl, refl)), (λ spent. tt))
spent_iff (Some (suc left)) = ((λ blow. absurd blow), (λ spent. absurd (cc spent.2)))

-- no fuse burns in the call
whole_call : (f g : Option (ℕ × ℕ)) (x : Option ℕ) (calls more : ℕ) → FuseLeft f g → Suffers (record { burnt = false; fuse = f; failure = x; calls = calls }) (record { burnt = false; fuse = g; failure = failure_after x; calls = more }) (IsBlow (blow_by false None (is_struck x)))
whole_call f g x calls more fuse = record {
  fuse_left = fuse;
  failure_left = failure_less x;
  burns = λ burnt. inl burnt;
  burnt_out = λ whole burnt. absurd (cc burnt);
  stays_burnt = λ burnt. burnt;
  cause = λ blow. inr ((spent_iff x).0 blow);
  strikes = λ whole burnt. absurd (cc burnt);
  spends = (spent_iff x).1;
}

one_call : (burnt : Bool) (f : Option (ℕ × ℕ)) (x : Option ℕ) (calls : ℕ) → let t : Trouble = record { burnt = burnt; fuse = f; failure = x; calls = calls } in Suffers t (after_call t) (IsBlow (blow_of t))
one_call true f x calls = record {
  fuse_left = fuse_same f;
  failure_left = failure_same x;
  burns = λ burnt. inl burnt;
  burnt_out = λ whole burnt. absurd (cc whole);
  stays_burnt = λ burnt. burnt;
  cause = λ blow. inl refl;
  strikes = λ whole burnt. absurd (cc whole);
  spends = λ spent. tt;
}
one_call false None x calls = whole_call None None x calls (counted calls 1) (fuse_same None)
one_call false (Some (suc left, n)) x calls = whole_call (Some (suc left, n)) (Some (left, n)) x calls (counted calls 1) (fuse_less (Some (suc left, n)))
one_call false (Some (zero, n)) x calls = record {
  fuse_left = fuse_less (Some (zero, n));
  failure_left = failure_less x;
  burns = λ burnt. inr (zero, n, refl);
  burnt_out = λ whole burnt. refl;
  stays_burnt = λ burnt. refl;
  cause = λ blow. inl refl;
  strikes = λ whole burnt. tt;
  spends = λ spent. tt;
}

one_count : (burnt : Bool) (f : Option (ℕ × ℕ)) (x : Option ℕ) (calls : ℕ) → let t : Trouble = record { burnt = burnt; fuse = f; failure = x; calls = calls } in CountsCall t (after_call t) (IsBlow (blow_of t))
one_count true f x calls = record { once = λ whole. absurd (cc whole); never = λ burnt. refl; down = λ burnt. tt }
one_count false f x calls = record { once = λ whole. refl; never = λ burnt. absurd (cc burnt); down = λ burnt. absurd (cc burnt) }

faults-least : (end : DiskEnd) (faults : ℕ) → faults ≤ faults_after end faults
faults-least Done faults = omega arith
faults-least Failed faults = raised-least faults
faults-least NoMemory faults = omega arith

faults-rose : (end : DiskEnd) (faults : ℕ) → end ≡ Failed → Rose faults (faults_after end faults)
faults-rose Done faults failed = absurd (cc failed)
faults-rose Failed faults failed = raised-rose faults
faults-rose NoMemory faults failed = absurd (cc failed)

-- of any call: its images, its failure and its count
module _ (old new : MemDisk) (call : DiskCall) (end : DiskEnd) (says : SaysBesides old new call end) where
  pub told_passes : Passes (shown_of old) (shown_of new) (inside_call call old.platter)
  told_passes = pass_call (trouble_of old) (trouble_of new) old.faults new.faults (blow_of (trouble_of old)) call end old.platter new.platter says.recorded

  pub told_done : end ≡ Done → new.platter ≡ after_done call old.platter
  told_done done = call_done (blow_of (trouble_of old)) call end old.platter new.platter says.recorded done

  pub told_starved : end ≡ NoMemory → new.platter ≡ old.platter
  told_starved none = call_starved (blow_of (trouble_of old)) call end old.platter new.platter says.recorded none

  ends : (end ≡ Failed → IsBlow (blow_of (trouble_of old))) × (IsBlow (blow_of (trouble_of old)) → end ≡ Failed)
  ends = failed_blow (blow_of (trouble_of old)) call end old.platter new.platter says.recorded

  told_troubles : Suffers (trouble_of old) (trouble_of new) (end ≡ Failed)
  told_troubles =
      subst (λ (t : Trouble). Suffers (trouble_of old) t (end ≡ Failed)) (sym says.troubles)
      (Suffers-as (trouble_of old) (after_call (trouble_of old)) ends.0 ends.1 (one_call old.burnt old.fuse old.failure old.calls))

  pub told_calls : CountsCall (trouble_of old) (trouble_of new) (end ≡ Failed)
  told_calls =
      let count = one_count old.burnt old.fuse old.failure old.calls in
      subst (λ (t : Trouble). CountsCall (trouble_of old) t (end ≡ Failed)) (sym says.troubles) (record { once = count.once; never = count.never; down = λ burnt. ends.1 (count.down burnt) })

  pub told_fails : DiskFails tells_all (shown_of old) (shown_of new) (end ≡ Failed)
  told_fails = record {
    later = subst (λ (n : ℕ). old.faults ≤ n) (sym says.faults) (faults-least end old.faults);
    rose = λ failed. subst (λ (n : ℕ). Rose old.faults n) (sym says.faults) (faults-rose end old.faults failed);
    troubles = λ told. told_troubles;
  }

-- a sync that is done
pub sync_seen : (s new : Story) → new ≡ with_sync s → content new.acts ≡ content s.acts
sync_seen s new is = ap (λ (x : Story). content x.acts) is ∙ by_work (is_unsynced s.acts)
  where
    by_work : (b : Bool) → content (if b then record { idle = 0; acts = Synced s.idle ∷ s.acts } else s).acts ≡ content s.acts
    by_work true = refl
    by_work false = refl

only_synced : (acts : List Act) → is_unsynced acts ≡ false → Only (content acts) (Leaves acts)
only_synced [] none image left = left
only_synced (Wrote idle at w ∷ past) none image left = absurd (cc none)
only_synced (CutTo idle len ∷ past) none image left = absurd (cc none)
only_synced (Synced idle ∷ past) none image left = left
only_synced (Crashed idle n ∷ past) none image left = left

pub sync_durable : (s new : Story) → new ≡ with_sync s → Only (content new.acts) (Leaves new.acts)
sync_durable s new is = subst (λ (x : Story). Only (content x.acts) (Leaves x.acts)) (sym is) (by_work (is_unsynced s.acts) refl)
  where
    by_work : (b : Bool) → is_unsynced s.acts ≡ b → Only (content (if b then record { idle = 0; acts = Synced s.idle ∷ s.acts } else s).acts) (Leaves (if b then record { idle = 0; acts = Synced s.idle ∷ s.acts } else s).acts)
    by_work true some = λ image left. left
    by_work false none = only_synced s.acts none

pub sync_grows : (s new : Story) → new ≡ with_sync s → moment_of new.idle new.acts ≤ moment_of s.idle s.acts → Only (content s.acts) (Leaves s.acts)
sync_grows s new is stands = by_work (is_unsynced s.acts) refl (subst (λ (x : Story). moment_of x.idle x.acts ≤ moment_of s.idle s.acts) is stands)
  where
    by_work : (b : Bool) → is_unsynced s.acts ≡ b → moment_of (if b then record { idle = 0; acts = Synced s.idle ∷ s.acts } else s).idle (if b then record { idle = 0; acts = Synced s.idle ∷ s.acts } else s).acts ≤ moment_of s.idle s.acts
        → Only (content s.acts) (Leaves s.acts)
    by_work true some le = absurd (omega (arith, le))
    by_work false none le = only_synced s.acts none

-- how a call for the length ends
pub len_ends : (result : Size) → ((result ≢ size.Failed) → ended result ≡ Done) × ((result ≡ size.Failed) → ended result ≡ Failed) × (ended result ≡ Failed → result ≡ size.Failed)
len_ends (size.Len n) = ((λ whole. refl), (λ failed. absurd (cc failed)), (λ failed. absurd (cc failed)))
len_ends size.Failed = ((λ whole. absurd (whole refl)), (λ failed. refl), (λ failed. refl))

pub len_fails : (old new : MemDisk) (result : Size) → DiskFails tells_all (shown_of old) (shown_of new) (ended result ≡ Failed) → DiskFails tells_all (shown_of old) (shown_of new) (result ≡ size.Failed)
len_fails old new result fails = record {
  later = fails.later;
  rose = λ failed. fails.rose ((len_ends result).1 failed);
  troubles = λ told. Suffers-as (trouble_of old) (trouble_of new) (len_ends result).1 (len_ends result).2 (fails.troubles told);
}

pub len_counts : (old new : MemDisk) (result : Size) → CountsCall (trouble_of old) (trouble_of new) (ended result ≡ Failed) → CountsCall (trouble_of old) (trouble_of new) (result ≡ size.Failed)
len_counts old new result counts = record { once = counts.once; never = counts.never; down = λ burnt. (len_ends result).2 (counts.down burnt) }
