-- How a client came up: its ledger was loaded, and its id was kept or noted.
use Rattle.std.proofs.Common.{◌≡◌, ◌∙◌, ◌⊎◌, inl, inr, ℕ, ◌+◌, ◌^◌, ◌≤◌, Bool, true, false, List, [], ◌∷◌, Option, Some, None, refl, sym, ap, subst, arith}
use Rattle.bcv_base.specs.declared.id.Id16.{Id16}
use Rattle.bcv_base.specs.declared.seen.Seen.{Seen}
use Rattle.bcv_base.specs.Drawn.{NamesShown}
use Rattle.bcv_clientlog.specs.declared.log.ClientLog.{ClientLog}
use Rattle.bcv_clientlog.specs.LogLoads.{IsOldOrSame}
use Rattle.bcv_clientlog.specs.LogParts.{Holds, LoadsAs, LoadsUpTo, is_shut, log_area, log_disk, log_start, log_tail}
use Rattle.bcv_clientlog.specs.Noting.{LogNotes, NoteTells}
use Rattle.bcv_clientstate.proofs.NotesTried.{loads_within}
use Rattle.bcv_disk.specs.Calls.{DiskFails-as, DiskFails-then, LeavesOnly-then, LeavesOnly-weaker}
use Rattle.bcv_disk.specs.Crash.{LeavesOnly}
use Rattle.bcv_disk.specs.DiskCalls.{DiskFails}
use Rattle.bcv_disk.specs.DiskShown.{DiskShown, DiskTold}
use Rattle.bcv_disk.specs.Troubles.{counted}
use Rattle.bcv_journal.specs.Loaded.{load_calls}
use Rattle.bcv_journal.specs.declared.fault.JournalFault.{JournalFault}
use Rattle.bcv_journal.specs.declared.fault.JournalFault.TheVariants as journal
use Rattle.bcv_journal.specs.declared.fault.Noted.{Noted}
use Rattle.bcv_journal.specs.declared.fault.Noted.TheVariants as noted
use Rattle.bcv_ledger.specs.LedgerLoads.{LedgerLoads}
use Rattle.bcv_ledger.specs.declared.ledger.Ledger.{Ledger}
use Rattle.bcv_ledger.specs.declared.load.LedgerLoad.TheVariants as load
use Rattle.bcv_model.specs.declared.kept.Kept.{Kept}
use Rattle.bcv_model.specs.declared.note.Note.TheVariants as note
use Rattle.bcv_model.specs.NoteRules.{HasRoom, HasRoomToBegin, MayStand}
use Rattle.bcv_model.specs.Notes.{after_note, nothing_kept}
use Rattle.bcv_risen.specs.Naming.{IsNamedAs, IsUpWith, NameTried, NamesClient}
use Rattle.bcv_risen.specs.Rises.{IsOldOrNamed, IsUp, Rises, fault_as, name_bytes, name_calls}
use Rattle.bcv_risen.specs.declared.risen.Risen.{Risen}
use Rattle.bcv_risen.specs.declared.risen.Risen.TheVariants as risen
use Rattle.bcv_risen.specs.declared.risen.RiseFault.TheVariants as fault
use Rattle.bcv_risen.proofs.Unnamed.{nothing_unnamed}

not_true : (b : Bool) → (b ≡ true → ⊥) → b ≡ false
not_true true not = absurd (not refl)
not_true false not = refl

counted_more : (calls a b : ℕ) → counted (counted calls a) b ≡ counted calls (a + b)
counted_more calls a b = omega arith

module _ {D : Type 0} (shown : D → DiskShown) (disk : D) (old new : NamesShown) where
  as_old : (image : List ℕ) → IsOldOrSame (shown disk) image → IsOldOrNamed (shown disk) old new image
  as_old image was = inl was

  as_loaded : (back : D) → LeavesOnly (shown disk) (shown back) (IsOldOrSame (shown disk)) → LeavesOnly (shown disk) (shown back) (IsOldOrNamed (shown disk) old new)
  as_loaded back run = LeavesOnly-weaker (shown disk) (shown back) (IsOldOrSame (shown disk)) (IsOldOrNamed (shown disk) old new) as_old run

module _ {D : Type 0} {g : _} (told : DiskTold) (shown : D → DiskShown) (disk : D) (old new : NamesShown) where
  -- ---- the disk is refused

  pub refused : (back : D) (why : JournalFault) → new ≡ old → LedgerLoads {D = D} {g = g} told shown disk (load.Refused back why) → Rises {D = D} {g = g} told shown disk old new (risen.Refused back (fault_as why))
  refused back (journal.NotJournal place) still loads = record {
    ends = (still, λ t. let gives = loads.log.loaded t in (gives.0, gives.1, gives.2, loads.log.only t));
    fails = DiskFails-as told (shown disk) (shown back) (λ is. absurd (cc (is))) (λ is. absurd (cc (is))) loads.log.fails;
    any_moment = λ t. as_loaded shown disk old new back (loads.log.any_moment t);
  }
  refused back journal.DiskFault still loads = record {
    ends = inl still;
    fails = DiskFails-as told (shown disk) (shown back) (λ is. refl) (λ is. refl) loads.log.fails;
    any_moment = λ t. as_loaded shown disk old new back (loads.log.any_moment t);
  }
  refused back journal.NoMemory still loads = record {
    ends = inl still;
    fails = DiskFails-as told (shown disk) (shown back) (λ is. absurd (cc (is))) (λ is. absurd (cc (is))) loads.log.fails;
    any_moment = λ t. as_loaded shown disk old new back (loads.log.any_moment t);
  }

  -- ---- the ledger was loaded

  module _ (l : Ledger D g) (loads : LedgerLoads told shown disk (load.Ready l)) where
    abbrev k : Kept
    k = l.databases.kept

    pub still_open : is_shut l.log ≡ false
    still_open = loads.log.takes.is_open

    pub unnamed : k.me ≡ None → k ≡ nothing_kept
    unnamed none = nothing_unnamed loads.log.takes.notes k loads.log.takes.folds none

    pub room_to_begin : k.me ≡ None → log_tail l.log + 87 ≤ 2 ^ 31
    room_to_begin none = subst (λ (o : Option Id16). HasRoomToBegin o (log_tail l.log)) none loads.log.takes.room.begin

    found : (t : told.tells) → (most : ℕ) × LoadsAs (shown disk).seen k most
    found t = (log_tail l.log + log_area l.log, (loads.log.loaded t).0)

    fails_as : {other : Type 0} → (other → ⊥) → DiskFails told (shown disk) (shown (log_disk l.log)) other
    fails_as fine = DiskFails-as told (shown disk) (shown (log_disk l.log)) (λ is. absurd (fine is)) (λ none. absurd none) loads.log.fails

    -- it kept an id
    module _ (id : Id16) (me : k.me ≡ Some id) (still : new ≡ old) where
      with_id : (seen : Seen) → IsUpWith shown l id (risen.Ready l id seen) → Rises told shown disk old new (risen.Ready l id seen)
      with_id seen up = record {
        ends = record {
          left = k;
          notes = loads.log.takes.notes;
          folds = loads.log.takes.folds;
          named = inl (me, refl, still);
          me = me;
          is_id = up.is_id;
          known = loads.known;
          sees = up.sees;
          is_open = loads.log.takes.is_open;
          room = loads.log.takes.room;
          rests = up.rests;
          found = found;
          only = λ t other most there. let o = loads.log.only t other most there in (o.0, omega (arith, o.1));
          holds = λ t. (loads.log.loaded t).1;
          calls = λ t u.
              let none : name_calls k.me ≡ 0 = ap name_calls me in
              loads.log.calls t u ∙ ap (counted (shown disk).trouble.calls) (omega (arith, none));
        };
        fails = fails_as (λ none. none);
        any_moment = λ t. as_loaded shown disk old new (log_disk l.log) (loads.log.any_moment t);
      }

      pub came_up : (result : Risen D g) → IsUpWith shown l id result → Rises told shown disk old new result
      came_up (risen.Ready m own seen) up =
          let here : Rises told shown disk old new (risen.Ready l id seen) = with_id seen (record { ledger = refl; same = refl; is_id = up.is_id; sees = up.sees; rests = up.rests }) in
          let there : Rises told shown disk old new (risen.Ready l own seen) = subst (λ (i : Id16). Rises told shown disk old new (risen.Ready l i seen)) (sym up.same) here in
          subst (λ (x : Ledger D g). Rises told shown disk old new (risen.Ready x own seen)) (sym up.ledger) there
      came_up (risen.Refused back why) up = absurd up

    -- it kept nothing
    module _ (nothing : k ≡ nothing_kept) where
      held : (t : told.tells) → Holds shown l.log nothing_kept
      held t = subst (λ (j : Kept). Holds shown l.log j) nothing (loads.log.loaded t).1

      found_nothing : (t : told.tells) → (most : ℕ) × LoadsAs (shown disk).seen nothing_kept most
      found_nothing t = (log_tail l.log + log_area l.log, subst (λ (j : Kept). LoadsAs (shown disk).seen j (log_tail l.log + log_area l.log)) nothing (loads.log.loaded t).0)

      only_nothing : (t : told.tells) (other : Kept) (most : ℕ) → LoadsAs (shown disk).seen other most → (other ≡ nothing_kept) × (log_tail l.log + log_area l.log ≤ most)
      only_nothing t other most there = let o = loads.log.only t other most there in (sym o.0 ∙ nothing, o.1)

      -- the note of the id was tried
      module _ (after : ClientLog D g) (id : Id16) (result : Noted) (tried : NameTried told shown l.log after old new id result) where
        abbrev named : Kept
        named = after_note nothing_kept (note.Me id)

        may : MayStand nothing_kept (note.Me id)
        may = (refl, tried.is_id)

        tells : (t : told.tells) → LogNotes told shown l.log after (note.Me id) result → NoteTells told shown l.log after (note.Me id) result nothing_kept (log_start l.log) (log_tail l.log) 4
        tells t notes = notes.tells t nothing_kept (held t) may

        as_named : (t : told.tells) (image : List ℕ) → LoadsUpTo nothing_kept (log_tail l.log + log_area l.log) (note.Me id ∷ []) image → IsOldOrNamed (shown disk) old new image
        as_named t image (inl as_before) =
            inl (inr (λ other most there.
            let o = only_nothing t other most there in
            subst (λ (j : Kept). LoadsAs image j most) (sym o.0) (loads_within image nothing_kept (log_tail l.log + log_area l.log) most o.1 as_before)))
        as_named t image (inr with_id) =
            inr (
              id,
              tried.is_id,
              tried.draws,
              λ other most there.
                  let o = only_nothing t other most there in
                  let le = o.1 in
                  (o.0, loads_within image named (log_tail l.log + log_area l.log + 44) (most + 44) (omega (arith, le)) with_id),
            )

        moments_noted : (t : told.tells) → LogNotes told shown l.log after (note.Me id) result → LeavesOnly (shown disk) (shown (log_disk after)) (IsOldOrNamed (shown disk) old new)
        moments_noted t notes =
            LeavesOnly-then (shown disk) (shown (log_disk l.log)) (shown (log_disk after)) (IsOldOrNamed (shown disk) old new) (as_loaded shown disk old new (log_disk l.log) (loads.log.any_moment t))
            (LeavesOnly-weaker (shown (log_disk l.log)) (shown (log_disk after)) (LoadsUpTo nothing_kept (log_tail l.log + log_area l.log) (note.Me id ∷ [])) (IsOldOrNamed (shown disk) old new) (as_named t) (tells t notes).any_moment)

        moments : (t : told.tells) → ((result ≡ noted.NoMemory) × (after ≡ l.log)) ⊎ LogNotes told shown l.log after (note.Me id) result → LeavesOnly (shown disk) (shown (log_disk after)) (IsOldOrNamed (shown disk) old new)
        moments t (inl same) =
            subst (λ (x : ClientLog D g). LeavesOnly (shown disk) (shown (log_disk x)) (IsOldOrNamed (shown disk) old new)) (sym same.1) (as_loaded shown disk old new (log_disk l.log) (loads.log.any_moment t))
        moments t (inr notes) = moments_noted t notes

        fails_noted : ((result ≡ noted.NoMemory) × (after ≡ l.log)) ⊎ LogNotes told shown l.log after (note.Me id) result → DiskFails told (shown disk) (shown (log_disk after)) (result ≡ noted.DiskFault)
        fails_noted (inl same) =
            subst (λ (x : ClientLog D g). DiskFails told (shown disk) (shown (log_disk x)) (result ≡ noted.DiskFault)) (sym same.1) (fails_as (λ is. absurd (cc (is, same.0))))
        fails_noted (inr notes) = DiskFails-then told (shown disk) (shown (log_disk l.log)) (shown (log_disk after)) (λ none. absurd none) loads.log.fails notes.leaves.fails

      -- it stands
      module _ (m : Ledger D g) (id : Id16) (seen : Seen) (n : IsNamedAs told shown l m old new id seen) where
        noted_it : ((noted.Done ≡ noted.NoMemory) × (m.log ≡ l.log)) ⊎ LogNotes told shown l.log m.log (note.Me id) noted.Done → LogNotes told shown l.log m.log (note.Me id) noted.Done
        noted_it (inl same) = absurd (cc (same.0))
        noted_it (inr notes) = notes

        notes : LogNotes told shown l.log m.log (note.Me id) noted.Done
        notes = noted_it n.tried.notes

        said : (t : told.tells) → NoteTells told shown l.log m.log (note.Me id) noted.Done nothing_kept (log_start l.log) (log_tail l.log) 4
        said t = notes.tells t nothing_kept (held t) (refl, n.tried.is_id)

        shut_not : is_shut m.log ≡ true → ⊥
        shut_not shut = shut_by (notes.leaves.shuts.0 shut)
          where
            shut_by : (is_shut l.log ≡ true) ⊎ (noted.Done ≡ noted.DiskFault) → ⊥
            shut_by (inl was) = cc (was, loads.log.takes.is_open)
            shut_by (inr is) = cc is

        new_room : HasRoom (after_note nothing_kept (note.Me id)) (log_tail m.log)
        new_room = record { begin = tt; end = tt }

        pub is_up : IsUp told shown disk old new m id seen
        is_up = record {
          left = k;
          notes = loads.log.takes.notes;
          folds = loads.log.takes.folds;
          named = inr (nothing, n.kept, n.tried.draws);
          me = ap (λ (j : Kept). j.me) n.kept;
          is_id = n.tried.is_id;
          known = n.known;
          sees = n.sees;
          is_open = not_true (is_shut m.log) shut_not;
          room = subst (λ (j : Kept). HasRoom j (log_tail m.log)) (sym n.kept) new_room;
          rests = n.rests;
          found = found;
          only = λ t other most there.
              let o = loads.log.only t other most there in
              let more = (said t).within in
              let bytes : name_bytes k.me ≡ 44 = ap (λ (j : Kept). name_bytes j.me) nothing in
              (o.0, omega (arith, o.1, more, bytes));
          holds = λ t. subst (λ (j : Kept). Holds shown m.log j) (sym n.kept) ((said t).done refl);
          calls = λ t u.
              let four : name_calls k.me ≡ 4 = ap (λ (j : Kept). name_calls j.me) nothing in
              (said t).counts u refl ∙ ap (λ (c : ℕ). counted c 4) (loads.log.calls t u)
              ∙ counted_more (shown disk).trouble.calls (load_calls (shown disk).seen) 4
              ∙ ap (counted (shown disk).trouble.calls) (omega (arith, four));
        }

      pub newly : (result : Risen D g) → NamesClient told shown l old new result → Rises told shown disk old new result
      newly (risen.Ready m id seen) n = record {
        ends = is_up m id seen n;
        fails = DiskFails-as told (shown disk) (shown (log_disk m.log)) (λ none. absurd none) (λ is. absurd (cc (is))) (fails_noted m.log id noted.Done n.tried n.tried.notes);
        any_moment = λ t. moments m.log id noted.Done n.tried t n.tried.notes;
      }
      newly (risen.Refused back (fault.NotJournal place)) n = absurd n
      newly (risen.Refused back fault.DiskFault) n = record {
        ends = inr (n.id, n.tried.draws, found_nothing);
        fails = subst (λ (x : D). DiskFails told (shown disk) (shown x) (fault.DiskFault ≡ fault.DiskFault)) (sym n.disk_is)
            (DiskFails-as told (shown disk) (shown (log_disk n.after)) (λ is. refl) (λ is. refl) (fails_noted n.after n.id noted.DiskFault n.tried n.tried.notes));
        any_moment = λ t. subst (λ (x : D). LeavesOnly (shown disk) (shown x) (IsOldOrNamed (shown disk) old new)) (sym n.disk_is) (moments n.after n.id noted.DiskFault n.tried t n.tried.notes);
      }
      newly (risen.Refused back fault.NamesFault) n = record {
        ends = (n.1, found_nothing);
        fails = subst (λ (x : D). DiskFails told (shown disk) (shown x) (fault.NamesFault ≡ fault.DiskFault)) (sym n.0) (fails_as (λ is. cc is));
        any_moment = λ t. subst (λ (x : D). LeavesOnly (shown disk) (shown x) (IsOldOrNamed (shown disk) old new)) (sym n.0) (as_loaded shown disk old new (log_disk l.log) (loads.log.any_moment t));
      }
      newly (risen.Refused back fault.NoMemory) n = record {
        ends = inr (n.id, n.tried.draws, found_nothing);
        fails = subst (λ (x : D). DiskFails told (shown disk) (shown x) (fault.NoMemory ≡ fault.DiskFault)) (sym n.disk_is)
            (DiskFails-as told (shown disk) (shown (log_disk n.after)) (λ is. absurd (cc (is))) (λ is. absurd (cc (is))) (fails_noted n.after n.id noted.NoMemory n.tried n.tried.notes));
        any_moment = λ t. subst (λ (x : D). LeavesOnly (shown disk) (shown x) (IsOldOrNamed (shown disk) old new)) (sym n.disk_is) (moments n.after n.id noted.NoMemory n.tried t n.tried.notes);
      }
