-- What a compaction comes to.
use Rattle.std.proofs.Common.{◌≡◌, ◌⊎◌, ◌↔◌, inl, inr, ⊎_elim, ℕ, ◌+◌, ◌-◌, ◌<◌, ◌≤◌, ◌^◌, min, Bool, true, false, List, length, map, refl, sym, ◌∙◌, ap, subst, arith, if◌then◌else◌}
use Rattle.std.specs.Prelude.{IsSome, IsTrue}
use Rattle.std.proofs.lemmas.Bool.{cases_lt, le-leb, lt-leb}
use Rattle.std.specs.List.{AllByRecursion}
use Rattle.bcv_disk.specs.Calls.{DiskFails-none, LeavesOnly-started, LeavesOnly-weaker}
use Rattle.bcv_disk.specs.Crash.{LeavesOnly}
use Rattle.bcv_disk.specs.DiskShown.{DiskShown, DiskTold}
use Rattle.bcv_disk.specs.Troubles.{counted}
use Rattle.bcv_journal.specs.JournalCalls.{JournalRestarts}
use Rattle.bcv_journal.specs.Layout.{IsItem}
use Rattle.bcv_journal.specs.Moved.{new_start, size_of}
use Rattle.bcv_journal.specs.Parts.{HasItems, LeavesItems, disk_of, is_closed, start_at, tail_at}
use Rattle.bcv_journal.specs.Settled.{IsEither}
use Rattle.bcv_journal.specs.declared.fault.Noted.{Noted}
use Rattle.bcv_journal.specs.declared.fault.Noted.TheVariants as noted
use Rattle.bcv_journal.specs.declared.journal.Journal.{Journal}
use Rattle.bcv_model.specs.declared.kept.Kept.{Kept}
use Rattle.bcv_model.specs.NoteRules.{HasRoom}
use Rattle.bcv_model.specs.Notes.{note_text}
use Rattle.bcv_notes.specs.KeptBy.{AreNotes}
use Rattle.bcv_notes.specs.KeptNotes.{items_size, kept_notes, notes_size}
use Rattle.bcv_clientlog.specs.AddedNote.{CompactTells, IsDenseWhere, JournalCompacts, reach}
use Rattle.bcv_clientlog.specs.Compaction.{Compacts}
use Rattle.bcv_clientlog.specs.LogParts.{LoadsAs}
use Rattle.bcv_clientlog.proofs.Held.{area_is, area_size, at_rest, fewest, fewest_size, items_fit, room_moved, texts_some}

-- a test of a measure, which ends at 2^64 - 1, is one of the size
module _ (start tail size more s t found : ℕ) (answer : Bool) (s_is : s ≡ start) (t_is : t ≡ tail) (short : tail < 2 ^ 31) (found_is : found ≡ min size (2 ^ 64 - 1)) (iff : IsTrue answer ↔ Compacts s t found more) where
  pub no_frees : answer ≡ false → Compacts start tail size more → ⊥
  no_frees off c =
      let same : size ≡ found = omega (arith, short, c.halves, found_is) in
      let there : Compacts s t found more = record { long = omega (arith, c.long, s_is, t_is); halves = omega (arith, c.halves, same, s_is, t_is); fits = ⊎_elim (λ low. inl (omega (arith, low, same, s_is))) (λ free. inr (omega (arith, free, same, t_is))) c.fits } in
      cc (iff.1 there, off)

  pub yes_frees : answer ≡ true → Compacts start tail size more
  yes_frees on =
      let c = iff.0 on in
      let same : found ≡ size = omega (arith, short, c.halves, found_is, s_is, t_is) in
      record { long = omega (arith, c.long, s_is, t_is); halves = omega (arith, c.halves, same, s_is, t_is); fits = ⊎_elim (λ low. inl (omega (arith, low, same, s_is))) (λ free. inr (omega (arith, free, same, t_is))) c.fits }

-- where the new area goes
place_of : (size start tail : ℕ) → ((18 + size ≤ start) × (new_start size start tail ≡ 17)) ⊎ ((start < 18 + size) × (new_start size start tail ≡ tail + 1))
place_of size start tail = ⊎_elim
    (λ lt. inr (lt, ap (λ (b : Bool). if b then 17 else tail + 1) (lt-leb (18 + size) start lt)))
    (λ ge. inl (ge, ap (λ (b : Bool). if b then 17 else tail + 1) (le-leb (18 + size) start ge))) (cases_lt start (18 + size))

module _ {D : Type 0} {g : _} (told : DiskTold) (shown : D → DiskShown) (old : Journal D g) (k : Kept) (dense : Bool) (more : ℕ) (is_open : is_closed old ≡ false) (order : start_at old ≤ tail_at old) (low : 17 ≤ start_at old) (short : tail_at old < 2 ^ 31)
    (leaves : (items : List (List ℕ)) → HasItems shown old items → LeavesItems (shown (disk_of old)) items (tail_at old)) where
  abbrev kept_size : ℕ
  kept_size = notes_size (kept_notes k)

  abbrev Only_now : Type 0
  Only_now = told.tells → (image : List ℕ) → (shown (disk_of old)).left_since (shown (disk_of old)).moment image → (shown (disk_of old)).may_leave image

  -- a run of no calls
  at_start : Only_now → told.tells → (items : List (List ℕ)) → HasItems shown old items → AreNotes items k → HasRoom k (tail_at old) → LeavesOnly (shown (disk_of old)) (shown (disk_of old)) (λ image. LoadsAs image k (reach old))
  at_start only_now t items has are room =
      LeavesOnly-started (shown (disk_of old)) (λ image. LoadsAs image k (reach old)) (λ image left. at_rest shown old items has k are room (leaves items has) image (only_now t image left))

  -- nothing is to do; or the items are not as long as was reckoned, which the notes of a log never are
  pub unmoved : Only_now → ((items : List (List ℕ)) → AreNotes items k → IsDenseWhere dense old k → Compacts (start_at old) (tail_at old) kept_size more → ⊥) → JournalCompacts told shown old old k dense more noted.Done
  unmoved only_now none = record {
    not_closed = λ closed. cc closed;
    not_full = λ full. cc full;
    fails = DiskFails-none told (shown (disk_of old)) (λ fault. cc fault);
    shuts = ((λ shut. absurd (cc (shut, is_open))), (λ fault. absurd (cc fault)));
    room = inl (omega arith);
    within = omega arith;
    stays = λ other. (refl, refl);
    tells = λ t items has are named room thick. record {
      any_moment = at_start only_now t items has are room;
      items = items;
      are = are;
      has = λ why. has;
      calls = 4;
      moves = λ done. inr (none items are thick, refl, refl, refl);
      counts = λ u done. refl;
    };
  }

  pub starved : Only_now → JournalCompacts told shown old old k dense more noted.NoMemory
  starved only_now = record {
    not_closed = λ closed. cc closed;
    not_full = λ full. cc full;
    fails = DiskFails-none told (shown (disk_of old)) (λ fault. cc fault);
    shuts = ((λ shut. absurd (cc (shut, is_open))), (λ fault. absurd (cc fault)));
    room = inl (omega arith);
    within = omega arith;
    stays = λ other. (refl, refl);
    tells = λ t items has are named room thick. record {
      any_moment = at_start only_now t items has are room;
      items = items;
      are = are;
      has = λ why. has;
      calls = 4;
      moves = λ done. absurd (cc done);
      counts = λ u done. absurd (cc done);
    };
  }

  -- the fewest notes take the place of all
  module _ (given : List (List ℕ)) (given_is : given ≡ map note_text (kept_notes k)) (c : Compacts (start_at old) (tail_at old) (items_size given) more) where
    abbrev place : ℕ
    place = new_start (size_of given) (start_at old) (tail_at old)

    taken : size_of given ≡ items_size given
    taken = area_size given

    room_there : (place + size_of given ≤ tail_at old) ⊎ (place + size_of given + 65 ≤ 2 ^ 31)
    room_there = ⊎_elim
        (λ before. inl (omega (arith, before.1, before.0, order)))
        (λ after. inr (⊎_elim (λ low. absurd (omega (arith, low, after.0, taken))) (λ free. omega (arith, free, after.1, taken)) c.fits))
        (place_of (size_of given) (start_at old) (tail_at old))

    reach_there : place + size_of given + size_of given ≤ reach old
    reach_there = ⊎_elim
        (λ before. omega (arith, before.1, before.0, c.halves, taken, order, low))
        (λ after. omega (arith, after.1, c.halves, taken, order))
        (place_of (size_of given) (start_at old) (tail_at old))

    module _ (new : Journal D g) where
      abbrev Restarts : Noted → Type 0
      Restarts result = JournalRestarts told shown old new given result

      new_room : (result : Noted) → Restarts result → (tail_at new ≤ tail_at old) ⊎ (tail_at new + 65 ≤ 2 ^ 31)
      new_room noted.Done r = ⊎_elim (λ sooner. inl (omega (arith, r.start refl, r.tail refl, sooner))) (λ free. inr (omega (arith, r.start refl, r.tail refl, free))) room_there
      new_room noted.JournalFull r = inl (omega (arith, r.tail_stays (λ done. cc done)))
      new_room noted.DiskFault r = inl (omega (arith, r.tail_stays (λ done. cc done)))
      new_room noted.Closed r = inl (omega (arith, r.tail_stays (λ done. cc done)))
      new_room noted.NoMemory r = inl (omega (arith, r.tail_stays (λ done. cc done)))

      new_reach : (result : Noted) → Restarts result → reach new ≤ reach old
      new_reach noted.Done r = omega (arith, r.start refl, r.tail refl, reach_there)
      new_reach noted.JournalFull r = omega (arith, r.tail_stays (λ done. cc done), r.start_stays (λ done. cc done))
      new_reach noted.DiskFault r = omega (arith, r.tail_stays (λ done. cc done), r.start_stays (λ done. cc done))
      new_reach noted.Closed r = omega (arith, r.tail_stays (λ done. cc done), r.start_stays (λ done. cc done))
      new_reach noted.NoMemory r = omega (arith, r.tail_stays (λ done. cc done), r.start_stays (λ done. cc done))

      module _ (t : told.tells) (items : List (List ℕ)) (has : HasItems shown old items) (are : AreNotes items k) (named : IsSome k.me) (room : HasRoom k (tail_at old)) where
        are_given : AreNotes given k
        are_given = subst (λ (l : List (List ℕ)). AreNotes l k) (sym given_is) (fewest items k are)

        size_is : items_size given ≡ kept_size
        size_is = ap items_size given_is ∙ fewest_size items k are

        compacts : Compacts (start_at old) (tail_at old) kept_size more
        compacts = subst (λ (n : ℕ). Compacts (start_at old) (tail_at old) n more) size_is c

        image_loads : (image : List ℕ) → IsEither items (tail_at old) given (place + size_of given) image → LoadsAs image k (reach old)
        image_loads image (inl ends) = record { items = items; tail = tail_at old; ends = ends; are = are; room = room; within = omega (arith, area_is shown old items has) }
        image_loads image (inr ends) = record {
          items = given;
          tail = place + size_of given;
          ends = ends;
          are = are_given;
          room = room_moved k (tail_at old) (place + size_of given) named room room_there;
          within = omega (arith, reach_there, taken);
        }

        any_moment : (result : Noted) → Restarts result → LeavesOnly (shown (disk_of old)) (shown (disk_of new)) (λ image. LoadsAs image k (reach old))
        any_moment result r =
            LeavesOnly-weaker (shown (disk_of old)) (shown (disk_of new)) (IsEither items (tail_at old) given (place + size_of given)) (λ image. LoadsAs image k (reach old)) image_loads (r.items t items has).any_moment

        same_place : (n : ℕ) → n ≡ kept_size → new_start n (start_at old) (tail_at old) ≡ new_start kept_size (start_at old) (tail_at old)
        same_place n is = ap (λ (m : ℕ). new_start m (start_at old) (tail_at old)) is

        tells : (result : Noted) → Restarts result → CompactTells told shown old new k more result
        tells noted.Done r = record {
          any_moment = any_moment noted.Done r;
          items = given;
          are = are_given;
          has = λ why. (r.items t items has).done refl;
          calls = 9;
          moves = λ done. inl (compacts, r.start refl ∙ same_place (size_of given) (taken ∙ size_is), r.tail refl ∙ ap (λ (n : ℕ). start_at new + n) (taken ∙ size_is), refl);
          counts = λ u done. ap (λ (n : ℕ). counted n 4) (r.calls u refl) ∙ omega arith;
        }
        tells noted.NoMemory r = record {
          any_moment = any_moment noted.NoMemory r;
          items = items;
          are = are;
          has = λ why. (r.items t items has).kept refl;
          calls = 4;
          moves = λ done. absurd (cc done);
          counts = λ u done. absurd (cc done);
        }
        tells noted.DiskFault r = record {
          any_moment = any_moment noted.DiskFault r;
          items = items;
          are = are;
          has = λ why. ⊎_elim (λ done. absurd (cc done)) (λ none. absurd (cc none)) why;
          calls = 4;
          moves = λ done. absurd (cc done);
          counts = λ u done. absurd (cc done);
        }
        tells noted.JournalFull r = absurd (r.never_full refl)
        tells noted.Closed r = absurd (cc (r.closed.0 refl, is_open))

      pub restarted : (result : Noted) → Restarts result → JournalCompacts told shown old new k dense more result
      restarted result r = record {
        not_closed = λ closed. cc (r.closed.0 closed, is_open);
        not_full = r.never_full;
        fails = r.fails;
        shuts = ((λ shut. ⊎_elim (λ was. absurd (cc (was, is_open))) (λ fault. fault) (r.shuts.0 shut)), (λ fault. r.shuts.1 (inr fault)));
        room = new_room result r;
        within = new_reach result r;
        stays = λ other. (r.start_stays other, r.tail_stays other);
        tells = λ t items has are named room thick. tells t items has are named room result r;
      }

-- ---- what a restart requires

pub items_are : (given : List (List ℕ)) (k : Kept) (start tail more : ℕ) → given ≡ map note_text (kept_notes k) → tail < 2 ^ 31 → Compacts start tail (items_size given) more → AllByRecursion IsItem given
items_are given k start tail more is short c = items_fit given (subst (AllByRecursion (λ (i : List ℕ). 0 < length i)) (sym is) (texts_some (kept_notes k))) (omega (arith, short, c.halves))

pub has_place : (given : List (List ℕ)) (start tail more : ℕ) → Compacts start tail (items_size given) more → (18 + size_of given ≤ start) ⊎ (tail + 1 + size_of given + 65 ≤ 2 ^ 31)
has_place given start tail more c = ⊎_elim (λ low. inl (omega (arith, low, area_size given))) (λ free. inr (omega (arith, free, area_size given))) c.fits
