-- What the calls of a log come to, from those of its journal.
use Rattle.std.proofs.Common.{◌≡◌, ◌≢◌, ◌⊎◌, inl, inr, ⊎_elim, ℕ, ◌+◌, ◌-◌, ◌*◌, ◌<◌, ◌≤◌, ◌^◌, Bool, true, false, List, [], ◌∷◌, ◌++◌, length, Ok, Err, IfOk, refl, sym, ◌∙◌, ap, subst, arith, length-append}
use Rattle.std.specs.Prelude.{IsSome}
use Rattle.std.proofs.lemmas.Bool.{cases_Bool, cases_lt}
use Rattle.std.specs.Int.{w64, to_be_bytes}
use Rattle.bcv_base.specs.declared.id.Id16.{Id16}
use Rattle.bcv_base.specs.Ids.{IsId}
use Rattle.bcv_disk.specs.Calls.{DiskFails-as, DiskFails-none, DiskFails-then, LeavesOnly-then, LeavesOnly-weaker}
use Rattle.bcv_disk.specs.Crash.{LeavesOnly}
use Rattle.bcv_disk.specs.DiskCalls.{DiskFails}
use Rattle.bcv_journal.specs.Moved.{new_start}
use Rattle.bcv_disk.specs.DiskShown.{DiskShown, DiskTold, Trouble}
use Rattle.bcv_journal.specs.JournalCalls.{JournalAppends, JournalPlans}
use Rattle.bcv_journal.specs.Parts.{HasItems, disk_of, is_closed, start_at, tail_at}
use Rattle.bcv_journal.specs.declared.fault.Noted.{Noted}
use Rattle.bcv_journal.specs.declared.fault.Noted.TheVariants.{Done, JournalFull, DiskFault, Closed, NoMemory}
use Rattle.bcv_journal.specs.declared.journal.Journal.{Journal}
use Rattle.bcv_model.specs.declared.kept.Kept.{Kept}
use Rattle.bcv_model.specs.declared.note.Note.{Note}
use Rattle.bcv_model.specs.declared.note.Note.TheVariants as note
use Rattle.bcv_model.specs.NoteRules.{HasRoom, MayStand}
use Rattle.bcv_model.specs.Notes.{note_size, note_text}
use Rattle.bcv_notes.specs.KeptNotes.{IsLasting}
use Rattle.bcv_notes.proofs.KeptGrowth.{size_grows}
use Rattle.bcv_clientlog.specs.AddedNote.{AddsAfter, AddsText, CompactsText, IsDenseWhere, IsUntried, JournalCompacts, Text, reach}
use Rattle.bcv_clientlog.specs.Compaction.{MovesTo}
use Rattle.bcv_clientlog.specs.LogParts.{Holds, LoadsAs, LoadsUpTo, log_area, log_disk, log_start, log_tail, size_kept}
use Rattle.bcv_clientlog.specs.Noting.{LogCompacts, LogNotes, LogPlans, NoteLeaves, NoteTells, spare_after, waits_by}
use Rattle.bcv_clientlog.specs.declared.log.ClientLog.{ClientLog}
use Rattle.bcv_clientlog.proofs.Held.{room_moved}
use Rattle.bcv_clientlog.proofs.Adding as adding
use Rattle.bcv_clientlog.proofs.Adding.{OnlyNow, after_waits}

done_or_not : (r : Noted) → (r ≡ Done) ⊎ (r ≢ Done)
done_or_not Done = inl refl
done_or_not JournalFull = inr (λ done. cc done)
done_or_not DiskFault = inr (λ done. cc done)
done_or_not Closed = inr (λ done. cc done)
done_or_not NoMemory = inr (λ done. cc done)

-- whether notes move, by numbers
moves : (start tail size more : ℕ) → (begin : ℕ) × (end : ℕ) × (calls : ℕ) × MovesTo start tail size more begin end calls
moves start tail size more = ⊎_elim
    (λ long. ⊎_elim
    (λ fewer. (start, tail, 4, inr ((λ c. omega (arith, c.halves, fewer)), refl, refl, refl)))
    (λ halves. ⊎_elim
    (λ after. ⊎_elim
    (λ past. (start, tail, 4, inr ((λ c. ⊎_elim (λ low. omega (arith, low, after)) (λ free. omega (arith, free, past)) c.fits), refl, refl, refl)))
    (λ free. (new_start size start tail, new_start size start tail + size, 9, inl (record { long = long; halves = halves; fits = inr free }, refl, refl, refl)))
    (cases_lt (2 ^ 31) (tail + 71 + size + more)))
    (λ low. (new_start size start tail, new_start size start tail + size, 9, inl (record { long = long; halves = halves; fits = inl low }, refl, refl, refl)))
    (cases_lt start (18 + size)))
    (cases_lt (tail - start) (2 * (size + 1))))
    (λ brief. (start, tail, 4, inr ((λ c. omega (arith, c.long, brief)), refl, refl, refl))) (cases_lt 65536 (tail - start))

-- a log that was not mostly dead, or is no longer
short_area : (start tail size more begin end calls : ℕ) → MovesTo start tail size more begin end calls → tail + 71 + size + more ≤ 2 ^ 31 → end + 5 + more - begin ≤ 65536 + 2 * (size + 1) + 5 + more
short_area start tail size more begin end calls (inl m) free = omega (arith, m.2)
short_area start tail size more begin end calls (inr m) free = ⊎_elim
    (λ long. ⊎_elim
    (λ fewer. omega (arith, fewer, m.1, m.2))
    (λ halves. absurd (m.0 (record { long = long; halves = halves; fits = inr free }))) (cases_lt (tail - start) (2 * (size + 1))))
    (λ brief. omega (arith, brief, m.1, m.2)) (cases_lt 65536 (tail - start))

-- ---- the room after a text, whatever the disk

module _ {D : Type 0} {g : _} (told : DiskTold) (shown : D → DiskShown) (old new : Journal D g) (result : Noted) where
  append_room : (bytes : List ℕ) (spare : ℕ) → JournalAppends told shown old new bytes spare result → (result ≢ Done → tail_at new ≡ tail_at old) × (result ≡ Done → tail_at new + 1 + spare ≤ 2 ^ 31)
  append_room bytes spare a = (a.tail_stays, (λ done. ⊎_elim (λ past. absurd (cc (done, a.full.1 (open_at done, past)))) (λ le. omega (arith, a.tail done, le)) (cases_lt (2 ^ 31) (tail_at old + 6 + length bytes + spare))))
    where
      open_at : result ≡ Done → is_closed old ≡ false
      open_at done = ⊎_elim (λ shut. absurd (cc (done, a.closed.1 shut))) (λ is_open. is_open) (cases_Bool (is_closed old))

module _ {D : Type 0} {g : _} (told : DiskTold) (shown : D → DiskShown) (only_now : OnlyNow told shown) (old new : ClientLog D g) (x : Note) (result : Noted) (waits : result ≡ Done → new.pending ≡ waits_by x old.pending) (still : result ≢ Done → new.pending ≡ old.pending) where
  -- where it is known to be dense, it was so, and the note stays
  abbrev IsThick : Kept → Type 0
  IsThick k = new.dense ≡ true → (log_area old < 2 * (size_kept k + 1)) × IsLasting x

  -- ---- nothing was tried

  untried_leaves : IsUntried old.journal new.journal result → NoteLeaves told shown old new x result
  untried_leaves u = record {
    closed = ((λ closed. ⊎_elim (λ shut. shut.1) (λ none. absurd (cc (closed, none.0))) u.1), (λ shut. ⊎_elim (λ was. was.0) (λ none. absurd (cc (shut, none.1))) u.1));
    shuts = ((λ shut. inl (ap is_closed (sym u.0) ∙ shut)), (λ why. ⊎_elim (λ shut. ap is_closed u.0 ∙ shut) (λ fault. ⊎_elim (λ closed. absurd (cc (fault, closed.0))) (λ none. absurd (cc (fault, none.0))) u.1) why));
    stays = λ closed. ap disk_of u.0;
    full = λ full. ⊎_elim (λ closed. absurd (cc (full, closed.0))) (λ none. absurd (cc (full, none.0))) u.1;
    room = λ done. ⊎_elim (λ closed. absurd (cc (done, closed.0))) (λ none. absurd (cc (done, none.0))) u.1;
    waits = waits;
    still = still;
    fails = subst (λ (j : Journal D g). DiskFails told (shown (log_disk old)) (shown (disk_of j)) (result ≡ DiskFault)) (sym u.0)
        (DiskFails-none told (shown (log_disk old)) (λ fault. ⊎_elim (λ closed. cc (fault, closed.0)) (λ none. cc (fault, none.0)) u.1));
  }

  not_done_none : IsUntried old.journal new.journal result → result ≢ Done
  not_done_none u done = ⊎_elim (λ closed. cc (done, closed.0)) (λ none. cc (done, none.0)) u.1

  not_full_none : IsUntried old.journal new.journal result → result ≢ JournalFull
  not_full_none u full = ⊎_elim (λ closed. cc (full, closed.0)) (λ none. cc (full, none.0)) u.1

  untried_tells : IsUntried old.journal new.journal result → (t : told.tells) (k : Kept) (h : Holds shown old k) → IsThick k → (begin end calls : ℕ) → NoteTells told shown old new x result k begin end calls
  untried_tells u t k h thick begin end calls =
      let not_done = not_done_none u in
      record {
        any_moment = subst (λ (j : Journal D g). LeavesOnly (shown (log_disk old)) (shown (disk_of j)) (LoadsUpTo k (reach old.journal) (x ∷ []))) (sym u.0)
            (LeavesOnly-weaker (shown (log_disk old)) (shown (log_disk old)) (λ image. LoadsAs image k (reach old.journal)) (LoadsUpTo k (reach old.journal) (x ∷ [])) (λ image l. inl l)
            (adding.rests told shown only_now t old.journal k h.items h.has h.are h.room (reach old.journal) (omega arith)));
        done = λ done. absurd (not_done done);
        kept = λ why. record {
          items = h.items;
          has = subst (λ (j : Journal D g). HasItems shown j h.items) (sym u.0) h.has;
          are = h.are;
          waits = still not_done ∙ h.waits;
          room = subst (λ (j : Journal D g). HasRoom k (tail_at j)) (sym u.0) h.room;
          dense = λ is. omega (arith, (thick is).0, ap tail_at u.0, ap start_at u.0);
        };
        starts = λ done. absurd (not_done done);
        ends = λ done. absurd (not_done done);
        fits = λ done. absurd (not_done done);
        full = λ full. absurd (not_full_none u full);
        within = omega (arith, ap reach u.0);
        unnoted = λ other. omega (arith, ap reach u.0);
        counts = λ v done. absurd (not_done done);
      }

  -- ---- a note after the others

  module _ (bytes : List ℕ) (bytes_is : bytes ≡ note_text x) (thin : new.dense ≡ false) where
    added_leaves : JournalAppends told shown old.journal new.journal bytes (spare_after x) result → NoteLeaves told shown old new x result
    added_leaves a =
        let room = append_room told shown old.journal new.journal result bytes (spare_after x) a in
        record {
          closed = a.closed;
          shuts = a.shuts;
          stays = λ closed. a.refused (inl closed);
          full = λ full. omega (arith, (a.full.0 full).1, a.tail_stays (λ done. cc (done, full)), ap length bytes_is);
          room = room.1;
          waits = waits;
          still = still;
          fails = a.fails;
        }

    added_tells : JournalAppends told shown old.journal new.journal bytes (spare_after x) result → (t : told.tells) (k : Kept) (h : Holds shown old k) → MayStand k x → NoteTells told shown old new x result k (log_start old) (log_tail old) 4
    added_tells a t k h may =
        let size = adding.size told shown only_now t old.journal k h.items h.has h.are h.room new.journal x may bytes bytes_is result a in
        let fits = adding.fits told shown only_now t old.journal k h.items h.has h.are h.room new.journal x may bytes bytes_is result a in
        record {
          any_moment = adding.any_moment told shown only_now t old.journal k h.items h.has h.are h.room new.journal x may bytes bytes_is result a (reach old.journal) (omega arith);
          done = λ done. record {
            items = h.items ++ bytes ∷ [];
            has = (a.items t h.items h.has).done done;
            are = adding.more_are told shown only_now t old.journal k h.items h.has h.are h.room new.journal x may bytes bytes_is result a;
            waits = waits done ∙ ap (waits_by x) h.waits ∙ sym (after_waits k x may);
            room = adding.room_done told shown only_now t old.journal k h.items h.has h.are h.room new.journal x may bytes bytes_is result a done;
            dense = λ is. absurd (cc (is, thin));
          };
          kept = λ why.
              let not_done : result ≢ Done = λ done. ⊎_elim (λ none. cc (done, none)) (λ full. cc (done, full)) why in
              record {
                items = h.items;
                has = (a.items t h.items h.has).kept why;
                are = h.are;
                waits = still not_done ∙ h.waits;
                room = adding.room_kept told shown only_now t old.journal k h.items h.has h.are h.room new.journal x may bytes bytes_is result a not_done;
                dense = λ is. absurd (cc (is, thin));
              };
          starts = λ done. a.start;
          ends = λ done. omega (arith, a.tail done, size);
          fits = λ done. fits (λ full. cc (done, full));
          full = λ full. omega (arith, (a.full.0 full).1, size);
          within = ⊎_elim
              (λ done. adding.reach_done told shown only_now t old.journal k h.items h.has h.are h.room new.journal x may bytes bytes_is result a done)
              (λ other. let le = adding.reach_kept told shown only_now t old.journal k h.items h.has h.are h.room new.journal x may bytes bytes_is result a other in omega (arith, le)) (done_or_not result);
          unnoted = λ other. adding.reach_kept told shown only_now t old.journal k h.items h.has h.are h.room new.journal x may bytes bytes_is result a other;
          counts = λ v done. a.calls v done;
        }

  pub notes : new.dense ≡ false → (text : Text) → IfOk text (λ v. v.items ≡ note_text x) → AddsText told shown old.journal new.journal text (spare_after x) result → LogNotes told shown old new x result
  notes thin (Ok v) is a = record { leaves = added_leaves v.items is thin a; tells = λ t k h may. added_tells v.items is thin a t k h may }
  notes thin (Err e) is u = record { leaves = untried_leaves u; tells = λ t k h may. untried_tells u t k h (λ thick. absurd (cc (thick, thin))) (log_start old) (log_tail old) 4 }

  -- ---- a note after a compaction

  -- whether the log was known to be dense then, and is now
  module _ (k : Kept) (known : Bool) (why : known ≡ true → (old.dense ≡ true) ⊎ (log_area old < 2 * (size_kept k + 1))) (keeps : new.dense ≡ true → (known ≡ true) × IsLasting x) where
    dense_where : Holds shown old k → IsDenseWhere known old.journal k
    dense_where h is = ⊎_elim (λ was. h.dense was) (λ now. now) (why is)

    thick_where : Holds shown old k → IsThick k
    thick_where h is = (dense_where h (keeps is).0, (keeps is).1)

    -- a dense log does not move
    unmoved : (h : Holds shown old k) (more begin end calls : ℕ) → known ≡ true → MovesTo (log_start old) (log_tail old) (size_kept k) more begin end calls → (begin ≡ log_start old) × (end ≡ log_tail old)
    unmoved h more begin end calls is (inl m) = absurd (omega (arith, m.0.halves, dense_where h is))
    unmoved h more begin end calls is (inr m) = (m.1, m.2)

    untried_compacts : IsUntried old.journal new.journal result → LogCompacts told shown old new k x result
    untried_compacts u = record {
      leaves = untried_leaves u;
      tells = λ t h may.
          let m = moves (log_start old) (log_tail old) (size_kept k) (note_size x) in
          record { begin = m.0; end = m.1; calls = m.2; moves = m.3; tells = untried_tells u t k h (thick_where h) m.0 m.1 m.2; area = λ done. absurd (not_done_none u done) };
    }

    module _ (bytes : List ℕ) (bytes_is : bytes ≡ note_text x) (named : MayStand k x → IsSome k.me) (is_open : is_closed old.journal ≡ false) (mid : Journal D g) where
      abbrev before : (image : List ℕ) → Type 0
      before image = LoadsAs image k (reach old.journal)

      -- the compaction ended the call
      stopped : (first : Noted) → first ≢ Done → JournalCompacts told shown old.journal mid k known (length bytes) first → new.journal ≡ mid → result ≡ first → LogCompacts told shown old new k x result
      stopped first not_done c same ended =
          let other : result ≢ Done = λ done. not_done (sym ended ∙ done) in
          record {
            leaves = record {
              closed = ((λ closed. absurd (c.not_closed (sym ended ∙ closed))), (λ shut. absurd (cc (shut, is_open))));
              shuts = ((λ shut. inr (ended ∙ c.shuts.0 (ap is_closed (sym same) ∙ shut))), (λ why. ⊎_elim (λ shut. absurd (cc (shut, is_open))) (λ fault. ap is_closed same ∙ c.shuts.1 (sym ended ∙ fault)) why));
              stays = λ closed. absurd (c.not_closed (sym ended ∙ closed));
              full = λ full. absurd (c.not_full (sym ended ∙ full));
              room = λ done. absurd (other done);
              waits = waits;
              still = still;
              fails = subst (λ (j : Journal D g). DiskFails told (shown (log_disk old)) (shown (disk_of j)) (result ≡ DiskFault)) (sym same)
                  (DiskFails-as told (shown (log_disk old)) (shown (disk_of mid)) (λ fault. sym ended ∙ fault) (λ fault. ended ∙ fault) c.fails);
            };
            tells = λ t h may.
                let m = moves (log_start old) (log_tail old) (size_kept k) (note_size x) in
                let ct = c.tells t h.items h.has h.are (named may) h.room (dense_where h) in
                record {
                  begin = m.0;
                  end = m.1;
                  calls = m.2;
                  moves = m.3;
                  tells = record {
                    any_moment = subst (λ (j : Journal D g). LeavesOnly (shown (log_disk old)) (shown (disk_of j)) (LoadsUpTo k (reach old.journal) (x ∷ []))) (sym same)
                        (LeavesOnly-weaker (shown (log_disk old)) (shown (disk_of mid)) before (LoadsUpTo k (reach old.journal) (x ∷ [])) (λ image l. inl l) ct.any_moment);
                    done = λ done. absurd (other done);
                    kept = λ why. record {
                      items = ct.items;
                      has = subst (λ (j : Journal D g). HasItems shown j ct.items) (sym same) (ct.has (⊎_elim (λ none. inr (sym ended ∙ none)) (λ full. absurd (c.not_full (sym ended ∙ full))) why));
                      are = ct.are;
                      waits = still other ∙ h.waits;
                      room = subst (λ (j : Journal D g). HasRoom k (tail_at j)) (sym same) (room_moved k (log_tail old) (tail_at mid) (named may) h.room c.room);
                      dense = λ is. omega (arith, (thick_where h is).0, ap tail_at same, ap start_at same, (c.stays not_done).0, (c.stays not_done).1);
                    };
                    starts = λ done. absurd (other done);
                    ends = λ done. absurd (other done);
                    fits = λ done. absurd (other done);
                    full = λ full. absurd (c.not_full (sym ended ∙ full));
                    within = omega (arith, ap reach same, c.within);
                    unnoted = λ why. omega (arith, ap reach same, c.within);
                    counts = λ v done. absurd (other done);
                  };
                  area = λ done. absurd (other done);
                };
          }

      -- the note was tried after it
      went : JournalCompacts told shown old.journal mid k known (length bytes) Done → JournalAppends told shown mid new.journal bytes (spare_after x) result → LogCompacts told shown old new k x result
      went c a =
          let shut_mid : is_closed mid ≡ true → ⊥ = λ shut. cc (c.shuts.0 shut) in
          record {
            leaves = record {
              closed = ((λ closed. absurd (shut_mid (a.closed.0 closed))), (λ shut. absurd (cc (shut, is_open))));
              shuts = ((λ shut. ⊎_elim (λ was. absurd (shut_mid was)) (λ fault. inr fault) (a.shuts.0 shut)), (λ why. ⊎_elim (λ shut. absurd (cc (shut, is_open))) (λ fault. a.shuts.1 (inr fault)) why));
              stays = λ closed. absurd (shut_mid (a.closed.0 closed));
              full = λ full. omega (arith, (a.full.0 full).1, a.tail_stays (λ done. cc (done, full)), ap length bytes_is);
              room = (append_room told shown mid new.journal result bytes (spare_after x) a).1;
              waits = waits;
              still = still;
              fails = DiskFails-then told (shown (log_disk old)) (shown (disk_of mid)) (shown (log_disk new)) (λ fault. absurd (cc fault)) c.fails a.fails;
            };
            tells = λ t h may.
                let ct = c.tells t h.items h.has h.are (named may) h.room (dense_where h) in
                let room : HasRoom k (tail_at mid) = room_moved k (log_tail old) (tail_at mid) (named may) h.room c.room in
                let has = ct.has (inl refl) in
                let size : length bytes ≡ note_size x = adding.size told shown only_now t mid k ct.items has ct.are room new.journal x may bytes bytes_is result a in
                let moved : MovesTo (log_start old) (log_tail old) (size_kept k) (note_size x) (start_at mid) (tail_at mid) ct.calls =
                subst (λ (n : ℕ). MovesTo (log_start old) (log_tail old) (size_kept k) n (start_at mid) (tail_at mid) ct.calls) size (ct.moves refl) in
                record {
                  begin = start_at mid;
                  end = tail_at mid;
                  calls = ct.calls;
                  moves = moved;
                  tells = record {
                    any_moment = LeavesOnly-then (shown (log_disk old)) (shown (disk_of mid)) (shown (log_disk new)) (LoadsUpTo k (reach old.journal) (x ∷ []))
                        (LeavesOnly-weaker (shown (log_disk old)) (shown (disk_of mid)) before (LoadsUpTo k (reach old.journal) (x ∷ [])) (λ image l. inl l) ct.any_moment)
                        (adding.any_moment told shown only_now t mid k ct.items has ct.are room new.journal x may bytes bytes_is result a (reach old.journal) c.within);
                    done = λ done. record {
                      items = ct.items ++ bytes ∷ [];
                      has = (a.items t ct.items has).done done;
                      are = adding.more_are told shown only_now t mid k ct.items has ct.are room new.journal x may bytes bytes_is result a;
                      waits = waits done ∙ ap (waits_by x) h.waits ∙ sym (after_waits k x may);
                      room = adding.room_done told shown only_now t mid k ct.items has ct.are room new.journal x may bytes bytes_is result a done;
                      dense = λ is.
                          let place = unmoved h (note_size x) (start_at mid) (tail_at mid) ct.calls (keeps is).0 moved in
                          omega (arith, (thick_where h is).0, place.0, place.1, a.tail done, a.start, size, size_grows k x may (keeps is).1);
                    };
                    kept = λ why.
                        let not_done : result ≢ Done = λ done. ⊎_elim (λ none. cc (done, none)) (λ full. cc (done, full)) why in
                        record {
                          items = ct.items;
                          has = (a.items t ct.items has).kept why;
                          are = ct.are;
                          waits = still not_done ∙ h.waits;
                          room = adding.room_kept told shown only_now t mid k ct.items has ct.are room new.journal x may bytes bytes_is result a not_done;
                          dense = λ is.
                              let place = unmoved h (note_size x) (start_at mid) (tail_at mid) ct.calls (keeps is).0 moved in
                              omega (arith, (thick_where h is).0, place.0, place.1, a.tail_stays not_done, a.start);
                        };
                    starts = λ done. a.start;
                    ends = λ done. omega (arith, a.tail done, size);
                    fits = λ done. adding.fits told shown only_now t mid k ct.items has ct.are room new.journal x may bytes bytes_is result a (λ full. cc (done, full));
                    full = λ full. omega (arith, (a.full.0 full).1, size);
                    within = ⊎_elim
                        (λ done. let le = adding.reach_done told shown only_now t mid k ct.items has ct.are room new.journal x may bytes bytes_is result a done in omega (arith, le, c.within))
                        (λ other. let le = adding.reach_kept told shown only_now t mid k ct.items has ct.are room new.journal x may bytes bytes_is result a other in omega (arith, le, c.within)) (done_or_not result);
                    unnoted = λ other. let le = adding.reach_kept told shown only_now t mid k ct.items has ct.are room new.journal x may bytes bytes_is result a other in omega (arith, le, c.within);
                    counts = λ v done. a.calls v done ∙ ct.counts v refl;
                  };
                  area = λ done free.
                      let least = short_area (log_start old) (log_tail old) (size_kept k) (note_size x) (start_at mid) (tail_at mid) ct.calls moved free in
                      omega (arith, least, a.tail done, a.start, size);
                };
          }

      then_compacts : spare_after x ≡ 64 → (first : Noted) → JournalCompacts told shown old.journal mid k known (length bytes) first → AddsAfter told shown mid new.journal bytes first result → LogCompacts told shown old new k x result
      then_compacts spare Done c a = went c (subst (λ (n : ℕ). JournalAppends told shown mid new.journal bytes n result) (sym spare) a)
      then_compacts spare DiskFault c e = stopped DiskFault (λ done. cc done) c e.0 e.1
      then_compacts spare NoMemory c e = stopped NoMemory (λ done. cc done) c e.0 e.1
      then_compacts spare JournalFull c e = absurd e
      then_compacts spare Closed c e = absurd e

    pub compacts : (text : Text) → IfOk text (λ v. v.items ≡ note_text x) → (MayStand k x → IsSome k.me) → spare_after x ≡ 64 → CompactsText told shown old.journal new.journal k known text result → LogCompacts told shown old new k x result
    compacts (Ok v) is named spare (inl u) = untried_compacts u
    compacts (Ok v) is named spare (inr c) = then_compacts v.items is named c.is_open c.mid spare c.first c.compacted c.added
    compacts (Err e) is named spare u = untried_compacts u

-- troubles that are planned
pub planned : {D : Type 0} {g : _} (shown : D → DiskShown) (old new : ClientLog D g) (trouble : Trouble) → JournalPlans shown old.journal new.journal trouble → new.pending ≡ old.pending → new.dense ≡ old.dense → LogPlans shown old new trouble
planned shown old new trouble p same thick = record {
  disk = p.disk;
  start = p.start;
  tail = p.tail;
  shut = p.closed;
  waits = same;
  holds = λ k h. record {
    items = h.items;
    has = p.items h.items h.has;
    are = h.are;
    waits = same ∙ h.waits;
    room = subst (λ (n : ℕ). HasRoom k n) (sym p.tail) h.room;
    dense = λ is. omega (arith, h.dense (sym thick ∙ is), p.tail, p.start);
  };
}

-- a short text always has room where the end of a publication has

pub never_full : {D : Type 0} {g : _} (told : DiskTold) (shown : D → DiskShown) (old new : Journal D g) (text : Text) (result : Noted) → AddsText told shown old new text 0 result → IfOk text (λ v. length v.items ≤ 58) → tail_at old + 65 ≤ 2 ^ 31 → result ≢ JournalFull
never_full told shown old new (Ok v) result a brief free full = omega (arith, (a.full.0 full).1, brief, free)
never_full told shown old new (Err e) result u brief free full = ⊎_elim (λ closed. cc (full, closed.0)) (λ none. cc (full, none.0)) u.1

brief_text : (text : Text) (bytes : List ℕ) → length bytes ≤ 58 → IfOk text (λ v. v.items ≡ bytes) → IfOk text (λ v. length v.items ≤ 58)
brief_text (Ok v) bytes brief is = omega (arith, ap length is, brief)
brief_text (Err e) bytes brief is = tt

pub brief_done : (text : Text) (id : Id16) (number : ℕ) → IsId id → IfOk text (λ v. v.items ≡ note_text (note.Done id number)) → IfOk text (λ v. length v.items ≤ 58)
brief_done text id number is_id is = brief_text text (note_text (note.Done id number)) (omega (arith, is_id.len, length-append id.0 (to_be_bytes w64 number))) is

pub brief_void : (text : Text) (id : Id16) → IsId id → IfOk text (λ v. v.items ≡ note_text (note.Void id)) → IfOk text (λ v. length v.items ≤ 58)
brief_void text id is_id is = brief_text text (note_text (note.Void id)) (omega (arith, is_id.len)) is

-- the client's id has room where the rule on a log without it holds
pub id_fits : {D : Type 0} {g : _} (told : DiskTold) (shown : D → DiskShown) (old new : Journal D g) (text : Text) (id : Id16) (result : Noted) → AddsText told shown old new text 64 result → IsId id → IfOk text (λ v. v.items ≡ note_text (note.Me id)) → tail_at old + 87 ≤ 2 ^ 31 → result ≢ JournalFull
id_fits told shown old new (Ok v) id result a is_id is free full = omega (arith, (a.full.0 full).1, ap length is, is_id.len, free)
id_fits told shown old new (Err e) id result u is_id is free full = ⊎_elim (λ closed. cc (full, closed.0)) (λ none. cc (full, none.0)) u.1
