-- What a restart of a journal comes to, from the calls of its disk.
use Rattle.std.proofs.Common.{◌≡◌, inl, inr, ⊎_elim, ℕ, ◌+◌, ◌-◌, true, false, not, List, [], ◌∷◌, length, refl, sym, ◌∙◌, ap, subst, arith, length-append}
use Rattle.bcv_disk.specs.Calls.{DiskFails-as, DiskFails-none, LeavesOnly-started}
use Rattle.bcv_disk.specs.Crash.{LeavesOnly}
use Rattle.bcv_disk.specs.DiskShown.{DiskShown, DiskTold}
use Rattle.bcv_disk.specs.declared.disk.DiskEnd.TheVariants as end
use Rattle.bcv_journal.specs.JournalCalls.{JournalRestarts}
use Rattle.bcv_journal.specs.Layout.{area_of}
use Rattle.bcv_journal.specs.Moved.{DiskMoves, IsWholeArea, moved, new_start, size_of}
use Rattle.bcv_journal.specs.Settled.{IsEither, IsSettled}
use Rattle.bcv_journal.specs.declared.area.Area.{Area}
use Rattle.bcv_journal.specs.declared.fault.Noted.TheVariants as noted
use Rattle.bcv_journal.specs.declared.journal.Journal.{Journal}
use Rattle.bcv_journal.proofs.Append.{settled_ends}

module _ {D : Type 0} {g : _} (told : DiskTold) (shown : D → DiskShown) (old new : Journal D g) (given : List (List ℕ)) (is_open : old.closed ≡ false) (block : List ℕ) (whole : IsWholeArea block given) (start : ℕ) (place : start ≡ new_start (length block - 1) old.area.start old.area.tail) where
  size : length block ≡ size_of given + 1
  size = ap length whole.1 ∙ length-append (area_of given) (0 ∷ [])

  at_start : start ≡ new_start (size_of given) old.area.start old.area.tail
  at_start = place ∙ ap (λ (n : ℕ). new_start n old.area.start old.area.tail) (omega (arith, size))

  leaves : (items : List (List ℕ)) → LeavesOnly (shown old.disk) (shown new.disk) (IsEither items old.area.tail given (start + size_of given))
      → LeavesOnly (shown old.disk) (shown new.disk) (IsEither items old.area.tail given (new_start (size_of given) old.area.start old.area.tail + size_of given))
  leaves items run = subst (λ (n : ℕ). LeavesOnly (shown old.disk) (shown new.disk) (IsEither items old.area.tail given (n + size_of given))) at_start run

  pub restart_done : DiskMoves told (shown old.disk) (shown new.disk) old.area start block end.Done → new.closed ≡ false
      → (tail : ℕ) → tail ≡ start + length block - 1 → new.area ≡ record { start = start; tail = tail; second = not old.area.second } → JournalRestarts told shown old new given noted.Done
  restart_done m still tail tail_is area_is =
      let at : tail ≡ start + size_of given = omega (arith, tail_is, size) in
      let area : new.area ≡ moved old.area start given = area_is ∙ ap (λ (n : ℕ). record { start = start; tail = n; second = not old.area.second }) at in
      record {
        closed = ((λ closed. absurd (cc closed)), (λ shut. absurd (cc (shut, is_open))));
        never_full = λ full. cc full;
        fails = DiskFails-as told (shown old.disk) (shown new.disk) (λ fault. absurd (cc fault)) (λ failed. absurd (cc failed)) m.fails;
        shuts = ((λ shut. absurd (cc (shut, still))), (λ why. ⊎_elim (λ shut. absurd (cc (shut, is_open))) (λ fault. absurd (cc fault)) why));
        start = λ done. ap (λ (x : Area). x.start) area ∙ at_start;
        tail = λ done. ap (λ (x : Area). x.tail) area ∙ ap (λ (n : ℕ). n + size_of given) (sym (ap (λ (x : Area). x.start) area));
        start_stays = λ not_done. absurd (not_done refl);
        tail_stays = λ not_done. absurd (not_done refl);
        refused = λ closed. absurd (cc closed);
        calls = λ t done. m.calls t refl;
        items = λ t items has.
            let tells = m.items t items given has.1 whole in
            record {
              any_moment = leaves items tells.any_moment;
              done = λ done. (still, subst (λ (x : Area). IsSettled (shown new.disk) x given) (sym area) (tells.done refl));
              kept = λ none. absurd (cc none);
            };
      }

  pub restart_failed : DiskMoves told (shown old.disk) (shown new.disk) old.area start block end.Failed → new.closed ≡ true → new.area ≡ old.area → JournalRestarts told shown old new given noted.DiskFault
  restart_failed m shut_is area_is = record {
    closed = ((λ closed. absurd (cc closed)), (λ shut. absurd (cc (shut, is_open))));
    never_full = λ full. cc full;
    fails = DiskFails-as told (shown old.disk) (shown new.disk) (λ fault. refl) (λ failed. refl) m.fails;
    shuts = ((λ shut. inr refl), (λ why. shut_is));
    start = λ done. absurd (cc done);
    tail = λ done. absurd (cc done);
    start_stays = λ not_done. ap (λ (x : Area). x.start) area_is;
    tail_stays = λ not_done. ap (λ (x : Area). x.tail) area_is;
    refused = λ closed. absurd (cc closed);
    calls = λ t done. absurd (cc done);
    items = λ t items has. record {
      any_moment = leaves items (m.items t items given has.1 whole).any_moment;
      done = λ done. absurd (cc done);
      kept = λ none. absurd (cc none);
    };
  }

  pub restart_starved : DiskMoves told (shown old.disk) (shown new.disk) old.area start block end.NoMemory → new.closed ≡ false → new.area ≡ old.area → JournalRestarts told shown old new given noted.NoMemory
  restart_starved m still area_is = record {
    closed = ((λ closed. absurd (cc closed)), (λ shut. absurd (cc (shut, is_open))));
    never_full = λ full. cc full;
    fails = DiskFails-as told (shown old.disk) (shown new.disk) (λ fault. absurd (cc fault)) (λ failed. absurd (cc failed)) m.fails;
    shuts = ((λ shut. absurd (cc (shut, still))), (λ why. ⊎_elim (λ shut. absurd (cc (shut, is_open))) (λ fault. absurd (cc fault)) why));
    start = λ done. absurd (cc done);
    tail = λ done. absurd (cc done);
    start_stays = λ not_done. ap (λ (x : Area). x.start) area_is;
    tail_stays = λ not_done. ap (λ (x : Area). x.tail) area_is;
    refused = λ closed. absurd (cc closed);
    calls = λ t done. absurd (cc done);
    items = λ t items has.
        let tells = m.items t items given has.1 whole in
        record {
          any_moment = leaves items tells.any_moment;
          done = λ done. absurd (cc done);
          kept = λ none. (still, subst (λ (x : Area). IsSettled (shown new.disk) x items) (sym area_is) (tells.kept refl));
        };
  }

-- where no memory was found for the items
pub restart_none : {D : Type 0} {g : _} (told : DiskTold) (shown : D → DiskShown) (old : Journal D g) (given : List (List ℕ)) → old.closed ≡ false
    → (told.tells → (image : List ℕ) → (shown old.disk).left_since (shown old.disk).moment image → (shown old.disk).may_leave image) → JournalRestarts told shown old old given noted.NoMemory
restart_none told shown old given is_open only_now = record {
  closed = ((λ closed. absurd (cc closed)), (λ shut. absurd (cc (shut, is_open))));
  never_full = λ full. cc full;
  fails = DiskFails-none told (shown old.disk) (λ fault. cc fault);
  shuts = ((λ shut. absurd (cc (shut, is_open))), (λ why. ⊎_elim (λ shut. absurd (cc (shut, is_open))) (λ fault. absurd (cc fault)) why));
  start = λ done. absurd (cc done);
  tail = λ done. absurd (cc done);
  start_stays = λ not_done. refl;
  tail_stays = λ not_done. refl;
  refused = λ closed. refl;
  calls = λ t done. absurd (cc done);
  items = λ t items has. record {
    any_moment = LeavesOnly-started (shown old.disk) (IsEither items old.area.tail given (new_start (size_of given) old.area.start old.area.tail + size_of given))
        (λ image left. inl (settled_ends (shown old.disk) old.area items has.1 image (only_now t image left)));
    done = λ done. absurd (cc done);
    kept = λ none. has;
  };
}
