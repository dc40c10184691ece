-- What the two parts of a restart come to.
use Rattle.std.proofs.Common.{◌≡◌, inl, ℕ, ◌+◌, ◌<◌, ◌≤◌, not, List, [], ◌∷◌, length, refl, ◌∙◌, ap, subst, arith}
use Rattle.std.specs.Int.{w32, to_be_bytes}
use Rattle.bcv_disk.specs.Calls.{CountsCall-done, DiskFails-as, DiskFails-then, LeavesOnly-then, LeavesOnly-weaker}
use Rattle.bcv_disk.specs.Crash.{Passes, Through, Torn, put}
use Rattle.bcv_disk.specs.DiskCalls.{DiskSyncs, DiskWrites}
use Rattle.bcv_disk.specs.DiskShown.{DiskShown, DiskTold}
use Rattle.bcv_disk.specs.Told.{length-put}
use Rattle.bcv_disk.specs.Troubles.{counted}
use Rattle.bcv_disk.specs.declared.disk.DiskEnd.{DiskEnd}
use Rattle.bcv_disk.specs.declared.disk.DiskEnd.TheVariants.{Done, Failed, NoMemory}
use Rattle.bcv_journal.specs.KeptWrite.{DiskKeeps}
use Rattle.bcv_journal.specs.Layout.{EndsAt, field_of}
use Rattle.bcv_journal.specs.Moved.{DiskChooses, DiskLays, DiskMoves, IsApart, selector_of, size_of}
use Rattle.bcv_journal.specs.Settled.{IsEither}
use Rattle.bcv_journal.specs.declared.area.Area.{Area}
use Rattle.bcv_journal.proofs.Append.{settled_same}
use Rattle.bcv_journal.proofs.Laid.{leads_laid, settled_chosen_now, settled_laid, settled_pointed, while_chosen, while_laid, while_pointed, while_synced}

counted_three : (calls : ℕ) → counted (counted calls 1) 2 ≡ counted calls 3
counted_three calls = omega arith

counted_five : (calls : ℕ) → counted (counted calls 3) 2 ≡ counted calls 5
counted_five calls = omega arith

module _ (told : DiskTold) (old : DiskShown) (area : Area) (start : ℕ) (block : List ℕ) (apart : IsApart area start (length block)) (from : told.tells → area.tail < length old.seen) (only_now : told.tells → (image : List ℕ) → old.left_since old.moment image → old.may_leave image) where
  module _ (mid : DiskShown) where
    pub lay_failed : DiskWrites told old mid start block Failed → DiskLays told old mid area start block Failed
    lay_failed first = record {
      fails = first.fails;
      calls = λ t done. absurd (cc done);
      room = λ t done. absurd (cc done);
      no_shorter = λ t fine. absurd (fine refl);
      items = λ t items given s whole. record {
        any_moment = while_laid old area start block items s apart (only_now t) mid (first.crash t);
        done = λ done. absurd (cc done);
        kept = λ none. absurd (cc none);
      };
    }

    pub lay_starved : DiskWrites told old mid start block NoMemory → DiskLays told old mid area start block NoMemory
    lay_starved first = record {
      fails = first.fails;
      calls = λ t done. absurd (cc done);
      room = λ t done. absurd (cc done);
      no_shorter = λ t fine. omega (arith, ap length (first.same t refl).bytes);
      items = λ t items given s whole. record {
        any_moment = while_laid old area start block items s apart (only_now t) mid (first.crash t);
        done = λ done. absurd (cc done);
        kept = λ none. settled_same old mid area items s (first.same t refl).bytes (first.same t refl).no_more;
      };
    }

    module _ (first : DiskWrites told old mid start block Done) (field : List ℕ) (field_is : field ≡ to_be_bytes w32 start) (place : ℕ) (place_is : place ≡ field_of (not area.second)) (next : DiskShown) where
      abbrev Keeps : DiskEnd → Type 0
      Keeps result = DiskKeeps told mid next place field result

      at_place : (result : DiskEnd) → Keeps result → DiskKeeps told mid next (field_of (not area.second)) field result
      at_place result keeps = subst (λ (n : ℕ). DiskKeeps told mid next n field result) place_is keeps

      four : length field ≡ 4
      four = ap length field_is

      pub lay_done : Keeps Done → DiskLays told old next area start block Done
      lay_done keeps =
          let kept = at_place Done keeps in
          record {
            fails = DiskFails-then told old mid next (λ done. absurd (cc done)) first.fails kept.fails;
            calls = λ t done. kept.calls t refl ∙ ap (λ (n : ℕ). counted n 2) (CountsCall-done old.trouble mid.trouble (λ failed. cc failed) (first.calls t)) ∙ counted_three old.trouble.calls;
            room = λ t done. omega (arith, apart.upto, from t, ap length (first.written t refl), length-put old.seen start block, ap length (kept.written t refl), length-put mid.seen (field_of (not area.second)) field);
            no_shorter = λ t fine. omega (arith, ap length (first.written t refl), length-put old.seen start block, ap length (kept.written t refl), length-put mid.seen (field_of (not area.second)) field);
            items = λ t items given s whole. record {
              any_moment = while_pointed old area start block items s apart (only_now t) mid (first.crash t) next
                  (subst (λ (n : ℕ). Passes mid next (Through (Torn (field_of (not area.second)) n) mid.may_leave)) four (kept.crash t));
              done = λ done. (
                settled_pointed old area start block items s apart mid.seen (first.written t refl) field field_is next (kept.written t refl) (kept.durable t refl),
                leads_laid old area start block items s apart mid.seen (first.written t refl) field field_is next (kept.written t refl) given whole,
              );
              kept = λ none. absurd (cc none);
            };
          }

      pub lay_broke : Keeps Failed → DiskLays told old next area start block Failed
      lay_broke keeps =
          let kept = at_place Failed keeps in
          record {
            fails = DiskFails-then told old mid next (λ done. absurd (cc done)) first.fails kept.fails;
            calls = λ t done. absurd (cc done);
            room = λ t done. absurd (cc done);
            no_shorter = λ t fine. absurd (fine refl);
            items = λ t items given s whole. record {
              any_moment = while_pointed old area start block items s apart (only_now t) mid (first.crash t) next
                  (subst (λ (n : ℕ). Passes mid next (Through (Torn (field_of (not area.second)) n) mid.may_leave)) four (kept.crash t));
              done = λ done. absurd (cc done);
              kept = λ none. absurd (cc none);
            };
          }

      module _ (keeps : Keeps NoMemory) (last : DiskShown) where
        pub lay_lost : DiskSyncs told next last Failed → DiskLays told old last area start block Failed
        lay_lost third =
            let kept = at_place NoMemory keeps in
            record {
              fails = DiskFails-then told old next last (λ none. absurd (cc none)) (DiskFails-then told old mid next (λ done. absurd (cc done)) first.fails kept.fails) third.fails;
              calls = λ t done. absurd (cc done);
              room = λ t done. absurd (cc done);
              no_shorter = λ t fine. absurd (fine refl);
              items = λ t items given s whole. record {
                any_moment = while_synced old area start block items s apart (only_now t) mid (first.crash t) next
                    (subst (λ (n : ℕ). Passes mid next (Through (Torn (field_of (not area.second)) n) mid.may_leave)) four (kept.crash t)) last (third.crash t);
                done = λ done. absurd (cc done);
                kept = λ none. absurd (cc none);
              };
            }

        pub lay_kept : DiskSyncs told next last Done → DiskLays told old last area start block NoMemory
        lay_kept third =
            let kept = at_place NoMemory keeps in
            record {
              fails = DiskFails-as told old last (λ none. absurd (cc none)) (λ done. absurd (cc done)) (
                  DiskFails-then told old next last (λ none. absurd (cc none)) (DiskFails-then told old mid next (λ done. absurd (cc done)) first.fails kept.fails) third.fails
                  );
              calls = λ t done. absurd (cc done);
              room = λ t done. absurd (cc done);
              no_shorter = λ t fine. omega (arith, ap length (first.written t refl), length-put old.seen start block, ap length (kept.same t refl).bytes, ap length (third.seen t refl));
              items = λ t items given s whole. record {
                any_moment = while_synced old area start block items s apart (only_now t) mid (first.crash t) next
                    (subst (λ (n : ℕ). Passes mid next (Through (Torn (field_of (not area.second)) n) mid.may_leave)) four (kept.crash t)) last (third.crash t);
                done = λ done. absurd (cc done);
                kept = λ none. settled_laid old area start block items s apart mid.seen (first.written t refl) last (third.seen t refl ∙ (kept.same t refl).bytes) (third.durable t refl);
              };
            }

pub chooses : (told : DiskTold) (old new : DiskShown) (area : Area) (byte : ℕ) (result : DiskEnd) → (told.tells → (image : List ℕ) → old.left_since old.moment image → old.may_leave image) → byte ≡ selector_of (not area.second)
    → (told.tells → 17 ≤ length old.seen) → DiskKeeps told old new 8 (byte ∷ []) result → DiskChooses told old new area result
chooses told old new area byte result only_now byte_is long kept = record {
  fails = kept.fails;
  calls = kept.calls;
  no_shorter = longer_by result kept;
  items = λ t items given start s leads. record {
    any_moment = while_chosen old area start items given s leads (only_now t) new (kept.crash t);
    done = λ done. settled_chosen_now old area start items given s leads new (kept.written t done ∙ ap (λ (b : ℕ). put old.seen 8 (b ∷ [])) byte_is) (kept.durable t done);
    kept = λ none. settled_same old new area items s (kept.same t none).bytes (kept.same t none).no_more;
  };
}
  where
    longer_by : (end : DiskEnd) → DiskKeeps told old new 8 (byte ∷ []) end → told.tells → (end ≡ Failed → ⊥) → length old.seen ≤ length new.seen
    longer_by Done keeps t fine = omega (arith, ap length (keeps.written t refl), length-put old.seen 8 (byte ∷ []))
    longer_by Failed keeps t fine = absurd (fine refl)
    longer_by NoMemory keeps t fine = omega (arith, ap length (keeps.same t refl).bytes)

module _ (told : DiskTold) (old mid : DiskShown) (area : Area) (start : ℕ) (block : List ℕ) where
  pub move_failed : DiskLays told old mid area start block Failed → DiskMoves told old mid area start block Failed
  move_failed laid = record {
    fails = laid.fails;
    calls = λ t done. absurd (cc done);
    room_done = λ t done. absurd (cc done);
    room_kept = λ t none. absurd (cc none);
    items = λ t items given s whole. record {
      any_moment = LeavesOnly-weaker old mid (λ (image : List ℕ). EndsAt image items area.tail) (IsEither items area.tail given (start + size_of given)) (λ image ends. inl ends) (laid.items t items given s whole).any_moment;
      done = λ done. absurd (cc done);
      kept = λ none. absurd (cc none);
    };
  }

  pub move_starved : DiskLays told old mid area start block NoMemory → DiskMoves told old mid area start block NoMemory
  move_starved laid = record {
    fails = laid.fails;
    calls = λ t done. absurd (cc done);
    room_done = λ t done. absurd (cc done);
    room_kept = λ t none. laid.no_shorter t (λ failed. cc failed);
    items = λ t items given s whole. record {
      any_moment = LeavesOnly-weaker old mid (λ (image : List ℕ). EndsAt image items area.tail) (IsEither items area.tail given (start + size_of given)) (λ image ends. inl ends) (laid.items t items given s whole).any_moment;
      done = λ done. absurd (cc done);
      kept = λ none. (laid.items t items given s whole).kept refl;
    };
  }

  pub move_both : DiskLays told old mid area start block Done → (new : DiskShown) (result : DiskEnd) → DiskChooses told mid new area result → DiskMoves told old new area start block result
  move_both laid new result chosen = record {
    fails = DiskFails-then told old mid new (λ done. absurd (cc done)) laid.fails chosen.fails;
    calls = λ t done. chosen.calls t done ∙ ap (λ (n : ℕ). counted n 2) (laid.calls t refl) ∙ counted_five old.trouble.calls;
    room_done = λ t done. omega (arith, laid.room t refl, chosen.no_shorter t (λ failed. cc (done, failed)));
    room_kept = λ t none. omega (arith, laid.no_shorter t (λ failed. cc failed), chosen.no_shorter t (λ failed. cc (none, failed)));
    items = λ t items given s whole.
        let tells = laid.items t items given s whole in
        let then = chosen.items t items given start (tells.done refl).0 (tells.done refl).1 in
        record {
          any_moment = LeavesOnly-then old mid new (IsEither items area.tail given (start + size_of given))
              (LeavesOnly-weaker old mid (λ (image : List ℕ). EndsAt image items area.tail) (IsEither items area.tail given (start + size_of given)) (λ image ends. inl ends) tells.any_moment) then.any_moment;
          done = then.done;
          kept = then.kept;
        };
  }
