-- A revert of a client.
use Rattle.std.proofs.Common.{◌≡◌, ◌∙◌, ℕ, Bool, true, false, List, [], ◌∷◌, Option, Some, None, IfSome, is_none, is_some, not, refl, sym, ap, subst}
use Rattle.std.specs.List.{AllByRecursion, list_any}
use Rattle.std.proofs.lemmas.Option.{same_Some}
use Rattle.bcv_base.specs.declared.log.Entry.{Entry}
use Rattle.bcv_base.specs.History.{Item, history_of}
use Rattle.bcv_base.specs.Keyed.{with_keyed}
use Rattle.bcv_clientlaws.specs.OtherParts.{Includes}
use Rattle.bcv_clientlaws.proofs.OtherParts.{includes_all, kept_fits_quietly}
use Rattle.bcv_clientlog.specs.declared.log.ClientLog.{ClientLog}
use Rattle.bcv_clientlog.specs.LogParts.{is_shut}
use Rattle.bcv_clientstate.specs.BaseLaws.{FitsLocal}
use Rattle.bcv_clientstate.specs.Fits.{Fits, FitsKnown, FitsPending}
use Rattle.bcv_clientstate.specs.Journaled.{Journaled}
use Rattle.bcv_clientstate.specs.NoteSides.{MayNote}
use Rattle.bcv_clientstate.specs.PartRefusals.{has_local_in, part_view_in, revert_reason_in, runs_publication}
use Rattle.bcv_clientstate.specs.Parts.{LedgerParts, Parts, with_ledger}
use Rattle.bcv_clientstate.specs.SeenClient.{Free, seen_up, side_of}
use Rattle.bcv_clientstate.proofs.LocalSides.{refuses_revert}
use Rattle.bcv_databases.specs.Catalog.{Catalog, known_name}
use Rattle.bcv_databases.specs.Changes.{base_of}
use Rattle.bcv_databases.specs.Sound.{AreDatabases, CanUpload, KeepsViews}
use Rattle.bcv_databases.specs.declared.known.Known.{Known}
use Rattle.bcv_disk.specs.DiskShown.{DiskShown, DiskTold}
use Rattle.bcv_ledger.specs.FitsLedger.{FitsLedger}
use Rattle.bcv_ledger.specs.LedgerNotes.{parts_in}
use Rattle.bcv_ledger.specs.NoteEnds.{ShutAfter}
use Rattle.bcv_ledger.specs.LocalCalls.{LedgerReverts, LocalSteps, RevertNotes, RevertSteps, RevertsFrom, fault_of}
use Rattle.bcv_ledger.specs.LocalCalls as ledger
use Rattle.bcv_ledger.specs.declared.ledger.Ledger.{Ledger}
use Rattle.bcv_ledger.proofs.FitsLedger.{revert_keeps_fit}
use Rattle.bcv_ledger.proofs.LocalLaws.{revert_may_stand}
use Rattle.bcv_machine.specs.LocalWriting as machine
use Rattle.bcv_machine.specs.Refusals.{first_reason}
use Rattle.bcv_machine.specs.State as m
use Rattle.bcv_model.specs.declared.kept.Kept.{Kept}
use Rattle.bcv_model.specs.declared.note.Note.TheVariants as note
use Rattle.bcv_model.specs.declared.reply.Reply.{Reply}
use Rattle.bcv_model.specs.declared.reply.Reply.TheVariants as reply
use Rattle.bcv_model.specs.Notes.{after_note}
use Rattle.bcv_slots.specs.declared.Slot.{Slot}
use Rattle.bcv_transaction.specs.Open.{Open}
use Rattle.bcv_client.specs.ClientForm.{IsInForm}
use Rattle.bcv_client.specs.ClientParts.{entries_of, parts_of}
use Rattle.bcv_client.specs.Events.{IsArmed, IsNoEvent, Noting, NotesOver, StandsOver, client_side, client_up}
use Rattle.bcv_client.specs.LocalWrites.{OnlyWrites, TrimsSets, TrimsWhere, is_fine}
use Rattle.bcv_client.specs.NewTasks.{is_busy}
use Rattle.bcv_client.specs.declared.client.Client.{Client}
use Rattle.bcv_client.specs.declared.job.Job.{Job}
use Rattle.bcv_client.proofs.FormKept.{form_stays}
use Rattle.bcv_client.proofs.FirstReasons.{free_to_revert, same_views}
use Rattle.bcv_client.proofs.LedgerParts.{fits_closed, fits_same, ledger_alone, ledger_same, stands_by}
use Rattle.bcv_client.specs.CallNames.{flight_names}
use Rattle.bcv_client.proofs.Flights.{revert_flies}
use Rattle.bcv_client.proofs.MachineSlots.{reverts_keep_slots}
use Rattle.bcv_client.proofs.MyNames.{none_flies}
use Rattle.bcv_client.proofs.RevertForm.{quiet_slots, quiet_stays, size_as_before, size_reverted}
use Rattle.bcv_client.proofs.BusyTasks.{busy_jobs}
use Rattle.bcv_client.proofs.SetViews.{KeepsSlot, KeepsTxn, both_keep, keeps_slots, keeps_txns}

-- no reason is that all went well
not_fine : (a b d e f : Bool) (why : Reply)
    → first_reason ((a, reply.Closed) ∷ (b, reply.Pending) ∷ (d, reply.Busy) ∷ (e, reply.NoDatabase) ∷ (f, reply.Nothing) ∷ []) ≡ Some why → is_fine why ≡ false
not_fine true b d e f why is = ap is_fine (sym (same_Some reply.Closed why is))
not_fine false true d e f why is = ap is_fine (sym (same_Some reply.Pending why is))
not_fine false false true e f why is = ap is_fine (sym (same_Some reply.Busy why is))
not_fine false false false true f why is = ap is_fine (sym (same_Some reply.NoDatabase why is))
not_fine false false false false true why is = ap is_fine (sym (same_Some reply.Nothing why is))
not_fine false false false false false why is = absurd (let e : None ≡ Some why = is in cc)

-- ---- the ledger after the trim

pub record SameLedger {D : Type 0} {g : _} (mid new : Ledger D g) : Type 0 where
  pub log : new.log ≡ mid.log
  pub kept : new.databases.kept ≡ mid.databases.kept
  pub known : new.databases.known ≡ mid.databases.known

pub same_ledger : {D : Type 0} {g : _} (mid new : Ledger D g) (o : Open) → TrimsSets mid new o → SameLedger mid new
same_ledger mid new o trims = record { log = trims.log; kept = trims.kept; known = trims.known }

module _ {D : Type 0} {g : _} (told : DiskTold) (shown : D → DiskShown) (old new : Client D g) (mid : Ledger D g) (db : List ℕ) (set : Option ℕ) (only : OnlyWrites old new)
    (form : IsInForm old.seen old.ledger.databases old.txns old.tasks.items) where
  abbrev p : Parts
  p = parts_of old

  abbrev q : Parts
  q = with_ledger (parts_in new.ledger) p

  abbrev c : Catalog
  c = old.ledger.databases

  abbrev d : Catalog
  d = new.ledger.databases

  abbrev Why : Option Reply → Type 0
  Why o = revert_reason_in (parts_in old.ledger) (runs_publication p) db ≡ o

  -- what stays
  pub record Ends : Type 0 where
    pub keeps : AllByRecursion (KeepsTxn c.sets d.sets) old.txns.txns
    pub slots : AllByRecursion (KeepsSlot c.sets d.sets) old.tasks.items
    pub form_after : IsInForm old.seen d old.txns old.tasks.items

  -- the sets keep all views, and the same is kept and known
  ends_same : KeepsViews c.sets d.sets → d.kept ≡ c.kept → d.known ≡ c.known → Ends
  ends_same views kept knows = record {
    keeps = keeps_txns c.sets d.sets views old.txns.txns;
    slots = keeps_slots c.sets d.sets views old.tasks.items;
    form_after =
        form_stays c d old.seen old.txns
        (record { pending = ap (λ (k : Kept). k.pending) kept; uploads = λ u can. subst (λ (k : Kept). CanUpload k.locals u) (sym kept) can; views = views }) old.tasks.items form
        (size_as_before old.seen.block c d old.txns.cache form.size kept knows);
  }

  free_is : Why None → (is_shut old.ledger.log ≡ false) × (runs_publication p ≡ false)
  free_is is = free_to_revert (parts_in old.ledger) (runs_publication p) db is

  none_busy : Why None → list_any (λ (s : Slot Job). is_busy s.item) old.tasks.items ≡ false
  none_busy is = sym (busy_jobs c old.tasks.items) ∙ (free_is is).1

  ends_noted : (r : Reply) → Why None → RevertNotes told shown old.ledger mid db r → TrimsWhere (is_fine r) set mid new.ledger old.txns old.tasks.items → TrimsSets mid new.ledger old.txns → Ends
  ends_noted reply.Fine is notes trims sets =
      let keeps : AllByRecursion (KeepsTxn c.sets d.sets) old.txns.txns =
      both_keep c.sets mid.databases.sets d.sets old.txns.txns (keeps_txns c.sets mid.databases.sets notes.ends.views old.txns.txns) sets.views in
      record {
        keeps = keeps;
        slots = quiet_slots c.sets d.sets old.tasks.items (none_busy is);
        form_after =
            quiet_stays old.seen c d old.txns old.tasks.items form (none_busy is) keeps
            (size_reverted old.seen.block c d old.txns.cache db notes.local notes.is_local form.size (sets.kept ∙ notes.ends.kept) (sets.known ∙ notes.ends.knows));
      }
  ends_noted r is notes trims sets =
      ends_same (subst (λ (l : Ledger D g). KeepsViews c.sets l.databases.sets) (sym trims) notes.ends.views)
      (ap (λ (l : Ledger D g). l.databases.kept) trims ∙ notes.ends.kept) (ap (λ (l : Ledger D g). l.databases.known) trims ∙ notes.ends.knows)

  pub ends : (r : Reply) → LedgerReverts told shown old.ledger mid (runs_publication p) db r → TrimsWhere (is_fine r) set mid new.ledger old.txns old.tasks.items → TrimsSets mid new.ledger old.txns → Ends
  ends r reverts trims sets = by (revert_reason_in (parts_in old.ledger) (runs_publication p) db) refl reverts
    where
      by : (why : Option Reply) → Why why → RevertsFrom told shown old.ledger mid db r why → Ends
      by None is notes = ends_noted r is notes trims sets
      by (Some why) is same =
          let l : LedgerParts = parts_in old.ledger in
          let bad : is_fine r ≡ false =
          ap is_fine same.0 ∙ not_fine l.closed (is_some l.kept.pending) (runs_publication p) (is_none (part_view_in l db)) (not (has_local_in l db)) why is in
          let still : new.ledger ≡ mid = subst (λ (b : Bool). TrimsWhere b set mid new.ledger old.txns old.tasks.items) bad trims in
          let all : d ≡ c = ap (λ (x : Ledger D g). x.databases) still ∙ same.1.databases in
          ends_same (subst (λ (x : Catalog). KeepsViews c.sets x.sets) (sym all) (same_views c.sets)) (ap (λ (x : Catalog). x.kept) all) (ap (λ (x : Catalog). x.known) all)

  -- ---- that the client fits

  module _ (e : Ends) (s : SameLedger mid new.ledger) (are : AreDatabases d) where
    parts_after : parts_of new ≡ q
    parts_after = ledger_alone old new only form e.keeps e.slots

    fits_noted : (log : List Entry) (r : Reply) → Why None → RevertNotes told shown old.ledger mid db r → Fits p (entries_of old) log → Fits q (entries_of old) log
    fits_noted log reply.Fine is notes fits =
        let past : List Item = history_of log in
        let kept : d.kept ≡ after_note p.kept (note.Revert db) = s.kept ∙ notes.ends.kept in
        let knows : d.known ≡ with_keyed known_name (base_of notes.local) p.known = s.known ∙ notes.ends.knows in
        let l : FitsLedger past p.id (after_note p.kept (note.Revert db)) (with_keyed known_name (base_of notes.local) p.known) =
        revert_keeps_fit past p.id p.kept p.known db notes.local (record { named = fits.named; locals = fits.locals; known_fit = fits.known; pending = fits.pending }) notes.is_local in
        kept_fits_quietly log (record p { closed = is_shut new.ledger.log }) (entries_of old) d.kept d.known (fits_closed (is_shut new.ledger.log) p (entries_of old) log fits)
        (record {
          named = ap (λ (k : Kept). k.me) kept ∙ l.named;
          ordered = are.order;
          locals = subst (λ (k : Kept). AllByRecursion (FitsLocal past) k.locals) (sym kept) l.locals;
          are_known = record { order = are.known_order; apart = are.without; fits = subst (AllByRecursion (FitsKnown past)) (sym knows) l.known_fit };
          pending = subst (λ (k : Kept). IfSome k.pending (FitsPending past p.id)) (sym kept) l.pending;
        }) (free_is is).1
    fits_noted log r is notes fits = fits_same (parts_in new.ledger) p (entries_of old) log (s.kept ∙ notes.ends.kept) (s.known ∙ notes.ends.knows) fits

    -- ---- the machine

    abbrev Goes : Reply → m.Side → m.Up → m.Side → Type 0
    Goes r s u t = machine.Reverts s u db r t

    armed_is : (r : Reply) (f : Free) → IsArmed r f → ledger.IsArmed r f
    armed_is reply.DiskFault f armed = armed
    armed_is _ f armed = tt

    journaled_now : (free : Free) → Journaled shown mid.log mid.databases.kept free → Journaled shown new.ledger.log d.kept free
    journaled_now free j =
        subst (λ (l : ClientLog D _). Journaled shown l d.kept free) (sym s.log) (subst (λ (k : Kept). Journaled shown mid.log k free) (sym s.kept) j)

    same_parts : with_ledger (parts_in mid) p ≡ q
    same_parts =
        ap (λ (l : ClientLog D _). record p { closed = is_shut l; kept = mid.databases.kept; known = mid.databases.known }) (sym s.log)
        ∙ ap (λ (k : Kept). record p { closed = is_shut new.ledger.log; kept = k; known = mid.databases.known }) (sym s.kept)
        ∙ ap (λ (k : List Known). record p { closed = is_shut new.ledger.log; kept = d.kept; known = k }) (sym s.known)

    -- no intent is in flight that was not
    flies_after : (r : Reply) (moment : ℕ) (log : List Entry) (f free : Free) → ShutAfter (fault_of r) (is_shut mid.log) → Journaled shown mid.log mid.databases.kept free
        → machine.Reverts (side_of moment (history_of log) p f) (seen_up (history_of log) p) db r (side_of moment (history_of log) (with_ledger (parts_in mid) p) free)
        → Includes (flight_names f.flight) (flight_names free.flight)
    flies_after reply.DiskFault moment log f free shut j goes =
        revert_flies (flight_names f.flight) (side_of moment (history_of log) p f) (seen_up (history_of log) p) db (side_of moment (history_of log) (with_ledger (parts_in mid) p) free) goes
        (includes_all (flight_names f.flight))
    flies_after _ moment log f free shut j goes = none_flies (flight_names f.flight) shown mid.log mid.databases.kept free j shut

    refused : (why r : Reply) (moment : ℕ) (log : List Entry) (f : Free) → Why (Some why) → RevertsFrom told shown old.ledger mid db r (Some why) → StandsOver shown old log f
        → NotesOver shown (Goes r) old new moment log f r
    refused why r moment log f is from stands =
        let kept : d.kept ≡ p.kept = s.kept ∙ ap (λ (x : Catalog). x.kept) from.1.databases in
        let knows : d.known ≡ p.known = s.known ∙ ap (λ (x : Catalog). x.known) from.1.databases in
        let same : parts_of new ≡ p = parts_after ∙ ledger_same (parts_in new.ledger) p (ap is_shut (s.log ∙ from.1.log)) kept knows in
        record {
          free = f;
          stands =
              stands_by old new only shown log f f parts_after stands (fits_same (parts_in new.ledger) p (entries_of old) log kept knows stands.fits)
              (subst (λ (l : ClientLog D _). Journaled shown l d.kept f) (sym (s.log ∙ from.1.log)) (subst (λ (k : Kept). Journaled shown old.ledger.log k f) (sym kept) stands.journaled)) refl;
          flight = includes_all (flight_names f.flight);
          goes = record {
            event = λ some.
                subst (λ (x : Parts). Goes r (client_side moment log old f) (client_up log old) (side_of moment (history_of log) x f)) (sym same)
                (refuses_revert moment log p f db r (is ∙ ap Some (sym from.0)));
            still = λ none. ap (λ (x : Parts). side_of moment (history_of log) x f) same;
          };
        }

    noted : (r : Reply) (moment : ℕ) (log : List Entry) (f : Free) → told.tells → Why None → RevertNotes told shown old.ledger mid db r
        → RevertSteps shown old.ledger mid (runs_publication p) db r → StandsOver shown old log f → IsArmed r f → NotesOver shown (Goes r) old new moment log f r
    noted reply.NoMemory moment log f tells is notes steps stands armed =
        let may : MayNote (history_of log) p (note.Revert db) (m.Reverting db) = revert_may_stand log (entries_of old) p db stands.sound stands.fits is in
        let unshut : is_shut old.ledger.log ≡ false = (free_is is).0 in
        let same : parts_of new ≡ p =
        parts_after ∙ ledger_same (parts_in new.ledger) p (ap is_shut s.log ∙ notes.ends.shut ∙ sym unshut) (s.kept ∙ notes.ends.kept) (s.known ∙ notes.ends.knows) in
        record {
          free = f;
          stands =
              stands_by old new only shown log f f parts_after stands (fits_noted log reply.NoMemory is notes stands.fits)
              (journaled_now f (notes.ends.goes tells may.may f stands.journaled (m.Reverting db) may.is)) refl;
          flight = includes_all (flight_names f.flight);
          goes = record { event = λ some. absurd (some tt); still = λ none. ap (λ (x : Parts). side_of moment (history_of log) x f) same };
        }
    noted reply.NamesFault moment log f tells is notes steps stands armed = absurd notes.ends.answers
    noted r moment log f tells is notes steps stands armed =
        let step : LocalSteps shown old.ledger mid p moment (history_of log) f (λ s u t. machine.Reverts s u db r t) =
        steps moment log (entries_of old) p f (record { sound = stands.sound; fits = stands.fits; journaled = stands.journaled }) refl (armed_is r f armed) (λ e. subst IsNoEvent (sym e) tt) in
        let slots : step.free.slots ≡ f.slots =
        reverts_keep_slots (side_of moment (history_of log) p f) (seen_up (history_of log) p) db r (side_of moment (history_of log) (with_ledger (parts_in mid) p) step.free) step.goes in
        record {
          free = step.free;
          stands = stands_by old new only shown log f step.free parts_after stands (fits_noted log r is notes stands.fits) (journaled_now step.free step.journaled) slots;
          flight = flies_after r moment log f step.free notes.ends.shut step.journaled step.goes;
          goes = record {
            event = λ some.
                subst (λ (x : Parts). Goes r (client_side moment log old f) (client_up log old) (side_of moment (history_of log) x step.free)) (same_parts ∙ sym parts_after) step.goes;
            still = λ none. absurd none;
          };
        }

    pub revert_is_noted : (r : Reply) → told.tells → LedgerReverts told shown old.ledger mid (runs_publication p) db r → RevertSteps shown old.ledger mid (runs_publication p) db r
        → Noting shown (λ s u t. machine.Reverts s u db r t) old new r
    revert_is_noted r tells reverts steps moment log f stands armed = by (revert_reason_in (parts_in old.ledger) (runs_publication p) db) refl reverts
      where
        by : (why : Option Reply) → Why why → RevertsFrom told shown old.ledger mid db r why → NotesOver shown (Goes r) old new moment log f r
        by None is from = noted r moment log f tells is from steps stands armed
        by (Some why) is from = refused why r moment log f is from stands
