-- What the calls of a journal come to, from those of its disk.
use Rattle.std.proofs.Common.{◌≡◌, inl, inr, ⊎_elim, ℕ, ◌+◌, ◌<◌, ◌≤◌, ◌^◌, true, false, List, [], ◌∷◌, ◌++◌, length, Vec, Global, Ok, refl, sym, ◌∙◌, ap, subst, arith}
use Rattle.bcv_disk.specs.Calls.{DiskFails-as, DiskFails-none, LeavesOnly-started}
use Rattle.bcv_disk.specs.DiskCalls.{DiskPlans}
use Rattle.bcv_disk.specs.DiskShown.{DiskShown, DiskTold, Trouble}
use Rattle.bcv_disk.specs.declared.disk.DiskEnd.TheVariants as end
use Rattle.bcv_journal.specs.AddedItem.{DiskAdds, longer}
use Rattle.bcv_journal.specs.JournalCalls.{JournalAppends, JournalPlans}
use Rattle.bcv_journal.specs.Loaded.{JournalLoads, load_calls}
use Rattle.bcv_journal.specs.LoadedItems.{ItemsLoad}
use Rattle.bcv_journal.specs.Settled.{IsBeforeOrAfter, IsSettled}
use Rattle.bcv_journal.specs.declared.area.Area.{Area}
use Rattle.bcv_journal.specs.declared.fault.Noted.TheVariants as noted
use Rattle.bcv_journal.specs.declared.journal.Journal.{Journal}
use Rattle.bcv_journal.specs.declared.load.Load.TheVariants.{Ready}
use Rattle.bcv_journal.proofs.Append.{settled_ends, settled_same}

pub ready_loads : {D : Type 0} {g : _} (told : DiskTold) (shown : D → DiskShown) (disk : D) (journal : Journal D g) (v : Vec (Vec ℕ Global) Global) → journal.closed ≡ false
    → ItemsLoad told (shown disk) (shown journal.disk) (load_calls (shown disk).seen) (Ok (v, journal.area)) → JournalLoads told shown disk (Ready journal v)
ready_loads told shown disk journal v is_open l = record {
  loaded = λ t. let gives = l.gives t in (gives.0, (is_open, gives.1), gives.2);
  is_open = (is_open, l.area.start, l.area.tail, l.area.short, l.area.each);
  any_moment = l.any_moment;
  fails = l.fails;
  calls = l.counts;
}

module _ {D : Type 0} {g : _} (told : DiskTold) (shown : D → DiskShown) (old new : Journal D g) (bytes : List ℕ) (spare : ℕ) (is_open : old.closed ≡ false) (room : old.area.tail + 6 + length bytes + spare ≤ 2 ^ 31) where
  pub append_done : DiskAdds told (shown old.disk) (shown new.disk) old.area bytes end.Done → new.closed ≡ false → new.area ≡ longer old.area (5 + length bytes) → JournalAppends told shown old new bytes spare noted.Done
  append_done a still area_is = record {
    closed = ((λ closed. absurd (cc closed)), (λ shut. absurd (cc (shut, is_open))));
    full = ((λ full. absurd (cc full)), (λ full. absurd (omega (arith, full.1, room))));
    fails = DiskFails-as told (shown old.disk) (shown new.disk) (λ fault. absurd (cc fault)) (λ failed. absurd (cc failed)) a.fails;
    shuts = ((λ shut. absurd (cc (shut, still))), (λ why. ⊎_elim (λ shut. absurd (cc (shut, is_open))) (λ fault. absurd (cc fault)) why));
    start = ap (λ (x : Area). x.start) area_is;
    tail = λ done. omega (arith, ap (λ (x : Area). x.tail) area_is);
    tail_stays = λ not_done. absurd (not_done refl);
    refused = λ why. ⊎_elim (λ closed. absurd (cc closed)) (λ full. absurd (cc full)) why;
    calls = λ t done. a.calls t refl;
    bytes_are = λ t done. a.bytes_are t refl;
    items = λ t items has.
        let tells = a.items t items has.1 in
        record {
          any_moment = tells.any_moment;
          done = λ done. (still, subst (λ (x : Area). IsSettled (shown new.disk) x (items ++ bytes ∷ [])) (sym area_is) (tells.done refl));
          kept = λ why. ⊎_elim (λ none. absurd (cc none)) (λ full. absurd (cc full)) why;
        };
  }

  pub append_failed : DiskAdds told (shown old.disk) (shown new.disk) old.area bytes end.Failed → new.closed ≡ true → new.area ≡ old.area → JournalAppends told shown old new bytes spare noted.DiskFault
  append_failed a shut_is area_is = record {
    closed = ((λ closed. absurd (cc closed)), (λ shut. absurd (cc (shut, is_open))));
    full = ((λ full. absurd (cc full)), (λ full. absurd (omega (arith, full.1, room))));
    fails = DiskFails-as told (shown old.disk) (shown new.disk) (λ fault. refl) (λ failed. refl) a.fails;
    shuts = ((λ shut. inr refl), (λ why. shut_is));
    start = ap (λ (x : Area). x.start) area_is;
    tail = λ done. absurd (cc done);
    tail_stays = λ not_done. ap (λ (x : Area). x.tail) area_is;
    refused = λ why. ⊎_elim (λ closed. absurd (cc closed)) (λ full. absurd (cc full)) why;
    calls = λ t done. absurd (cc done);
    bytes_are = λ t done. absurd (cc done);
    items = λ t items has. record {
      any_moment = (a.items t items has.1).any_moment;
      done = λ done. absurd (cc done);
      kept = λ why. ⊎_elim (λ none. absurd (cc none)) (λ full. absurd (cc full)) why;
    };
  }

  pub append_starved : DiskAdds told (shown old.disk) (shown new.disk) old.area bytes end.NoMemory → new.closed ≡ false → new.area ≡ old.area → JournalAppends told shown old new bytes spare noted.NoMemory
  append_starved a still area_is = record {
    closed = ((λ closed. absurd (cc closed)), (λ shut. absurd (cc (shut, is_open))));
    full = ((λ full. absurd (cc full)), (λ full. absurd (omega (arith, full.1, room))));
    fails = DiskFails-as told (shown old.disk) (shown new.disk) (λ fault. absurd (cc fault)) (λ failed. absurd (cc failed)) a.fails;
    shuts = ((λ shut. absurd (cc (shut, still))), (λ why. ⊎_elim (λ shut. absurd (cc (shut, is_open))) (λ fault. absurd (cc fault)) why));
    start = ap (λ (x : Area). x.start) area_is;
    tail = λ done. absurd (cc done);
    tail_stays = λ not_done. ap (λ (x : Area). x.tail) area_is;
    refused = λ why. ⊎_elim (λ closed. absurd (cc closed)) (λ full. absurd (cc full)) why;
    calls = λ t done. absurd (cc done);
    bytes_are = λ t done. absurd (cc done);
    items = λ t items has.
        let tells = a.items t items has.1 in
        record {
          any_moment = tells.any_moment;
          done = λ done. absurd (cc done);
          kept = λ why. (still, subst (λ (x : Area). IsSettled (shown new.disk) x items) (sym area_is) (tells.kept refl));
        };
  }

pub append_full : {D : Type 0} {g : _} (told : DiskTold) (shown : D → DiskShown) (old : Journal D g) (bytes : List ℕ) (spare : ℕ) → old.closed ≡ false → 2 ^ 31 < old.area.tail + 6 + length bytes + spare
    → (told.tells → (image : List ℕ) → (shown old.disk).left_since (shown old.disk).moment image → (shown old.disk).may_leave image) → JournalAppends told shown old old bytes spare noted.JournalFull
append_full told shown old bytes spare is_open past only_now = record {
  closed = ((λ closed. absurd (cc closed)), (λ shut. absurd (cc (shut, is_open))));
  full = ((λ full. (is_open, past)), (λ why. refl));
  fails = DiskFails-none told (shown old.disk) (λ fault. cc fault);
  shuts = ((λ shut. absurd (cc (shut, is_open))), (λ why. ⊎_elim (λ shut. absurd (cc (shut, is_open))) (λ fault. absurd (cc fault)) why));
  start = refl;
  tail = λ done. absurd (cc done);
  tail_stays = λ not_done. refl;
  refused = λ why. refl;
  calls = λ t done. absurd (cc done);
  bytes_are = λ t done. absurd (cc done);
  items = λ t items has. record {
    any_moment = LeavesOnly-started (shown old.disk) (IsBeforeOrAfter items old.area.tail bytes) (λ image left. inl (settled_ends (shown old.disk) old.area items has.1 image (only_now t image left)));
    done = λ done. absurd (cc done);
    kept = λ why. has;
  };
}

pub planned_journal : {D : Type 0} {g : _} (shown : D → DiskShown) (old new : Journal D g) (trouble : Trouble) → DiskPlans (shown old.disk) (shown new.disk) trouble → new.area ≡ old.area → new.closed ≡ old.closed → JournalPlans shown old new trouble
planned_journal shown old new trouble p area_is closed_is = record {
  disk = p;
  start = ap (λ (x : Area). x.start) area_is;
  tail = ap (λ (x : Area). x.tail) area_is;
  closed = closed_is;
  items = λ items has. (closed_is ∙ has.0, subst (λ (x : Area). IsSettled (shown new.disk) x items) (sym area_is) (settled_same (shown old.disk) (shown new.disk) old.area items has.1 p.same.bytes p.same.no_more));
}
