-- A commit of a client.
use Rattle.std.proofs.Common.{◌≡◌, ◌∙◌, ◌^◌, ◌<◌, ℕ, false, List, Option, Some, None, IfSome, refl, sym, ap, subst}
use Rattle.std.specs.List.{AllByRecursion}
use Rattle.std.proofs.lemmas.Option.{same_Some}
use Rattle.bcv_base.specs.declared.log.Entry.{Entry}
use Rattle.bcv_base.specs.declared.seen.Seen.{Seen}
use Rattle.bcv_base.specs.History.{Item, history_of}
use Rattle.bcv_base.specs.Keyed.{keyed, without_keyed}
use Rattle.bcv_clientlaws.specs.OtherParts.{Includes, KeepsTaken, LeavesCommits}
use Rattle.bcv_clientlaws.proofs.OtherParts.{includes_all, kept_fits}
use Rattle.bcv_clientlaws.proofs.Taken.{notes_keep_taken}
use Rattle.bcv_clientlog.specs.LogParts.{is_shut}
use Rattle.bcv_clientstate.specs.BaseLaws.{FitsLocal}
use Rattle.bcv_clientstate.specs.Fits.{Fits, FitsKnown, FitsPending}
use Rattle.bcv_clientstate.specs.Journaled.{Journaled}
use Rattle.bcv_clientstate.specs.NoteSides.{MayNote}
use Rattle.bcv_clientstate.specs.PartRefusals.{commit_reason_in, part_view_in}
use Rattle.bcv_clientstate.specs.Parts.{Parts, with_ledger}
use Rattle.bcv_clientstate.specs.SeenClient.{Free, seen_up, side_of}
use Rattle.bcv_clientstate.proofs.LocalSides.{refuses_commit}
use Rattle.bcv_databases.specs.Catalog.{Catalog, known_name}
use Rattle.bcv_databases.specs.Changes.{note_over}
use Rattle.bcv_databases.specs.Sound.{AreDatabases, KeepsViews}
use Rattle.bcv_databases.specs.declared.known.Known.{Known}
use Rattle.bcv_dbmap.specs.Sound.{IsSoundLog}
use Rattle.bcv_disk.specs.DiskShown.{DiskShown, DiskTold}
use Rattle.bcv_ledger.specs.FitsLedger.{FitsLedger}
use Rattle.bcv_ledger.specs.LedgerNotes.{parts_in}
use Rattle.bcv_ledger.specs.LocalCalls.{CommitNotes, CommitSteps, CommitsFrom, HasLedger, LedgerCommits, LocalSteps, fault_of}
use Rattle.bcv_ledger.specs.LocalCalls as ledger
use Rattle.bcv_ledger.specs.NoteEnds.{NoteEnds, ShutAfter}
use Rattle.bcv_ledger.specs.declared.ledger.Ledger.{Ledger}
use Rattle.bcv_ledger.proofs.FitsLedger.{commit_keeps_fit}
use Rattle.bcv_ledger.proofs.LocalLaws.{commit_may_stand}
use Rattle.bcv_machine.specs.LocalWriting as machine
use Rattle.bcv_machine.specs.State as m
use Rattle.bcv_model.specs.declared.ask.Commit.{Commit}
use Rattle.bcv_model.specs.declared.kept.Kept.{Kept}
use Rattle.bcv_model.specs.declared.kept.Local.{Local}
use Rattle.bcv_model.specs.declared.note.Note.{Note}
use Rattle.bcv_model.specs.declared.note.Note.TheVariants as note
use Rattle.bcv_model.specs.declared.reply.Reply.{Reply}
use Rattle.bcv_model.specs.declared.reply.Reply.TheVariants as reply
use Rattle.bcv_model.specs.Commits.{writes_of}
use Rattle.bcv_model.specs.Notes.{after_note, kept_name}
use Rattle.bcv_slots.specs.declared.Slot.{Slot}
use Rattle.bcv_transaction.specs.Open.{Open}
use Rattle.bcv_client.specs.ClientForm.{IsInForm}
use Rattle.bcv_client.specs.ClientParts.{entries_of, parts_of}
use Rattle.bcv_client.specs.Events.{IsArmed, IsNoEvent, Noting, NotesOver, StandsOver, client_side, client_up}
use Rattle.bcv_client.specs.LocalWrites.{OnlyWrites}
use Rattle.bcv_client.specs.declared.client.Client.{Client}
use Rattle.bcv_client.specs.declared.job.Job.{Job}
use Rattle.bcv_client.proofs.CommitForm.{commit_form}
use Rattle.bcv_client.proofs.FirstReasons.{open_to_commit, same_views, small_commit, there_is}
use Rattle.bcv_client.proofs.LedgerParts.{fits_closed, fits_same, ledger_alone, ledger_same, stands_by}
use Rattle.bcv_client.specs.CallNames.{flight_names}
use Rattle.bcv_client.proofs.Flights.{commit_flies}
use Rattle.bcv_client.proofs.MachineSlots.{commits_keep_slots}
use Rattle.bcv_client.proofs.MyNames.{none_flies}
use Rattle.bcv_client.proofs.SetViews.{keeps_slots, keeps_txns}

-- ---- the ledger

module _ {D : Type 0} {g : _} (told : DiskTold) (shown : D → DiskShown) (old new : Ledger D g) (db : List ℕ) (c : Commit) (r : Reply) where
  commit_views : (why : Option Reply) → CommitsFrom told shown old new db c r why → KeepsViews old.databases.sets new.databases.sets
  commit_views None from = from.ends.views
  commit_views (Some why) from = subst (λ (d : Catalog). KeepsViews old.databases.sets d.sets) (sym from.1.databases) (same_views old.databases.sets)

  pub commit_keeps_form : (seen : Seen) (o : Open) (ss : List (Slot Job)) → IsInForm seen old.databases o ss → LedgerCommits told shown old new db c r → IsInForm seen new.databases o ss
  commit_keeps_form seen o ss form commits = by (commit_reason_in (parts_in old) db (writes_of c)) refl commits
    where
      by : (why : Option Reply) → commit_reason_in (parts_in old) db (writes_of c) ≡ why → CommitsFrom told shown old new db c r why → IsInForm seen new.databases o ss
      by None free from =
          commit_form seen old.databases new.databases o ss form db c from.note from.is_note from.ends.views (small_commit (parts_in old) db (writes_of c) free) (fault_of r)
          from.ends.kept from.ends.knows
      by (Some why) free from = subst (λ (d : Catalog). IsInForm seen d o ss) (sym from.1.databases) form

-- ---- that the client fits

-- a commit's note leaves the commits that there are
leaves_commits : (db : List ℕ) (c : Commit) (x : Note) (a : Option Local) (b : Option Known) → note_over db c a b ≡ Some x → LeavesCommits x
leaves_commits db c x (Some l) b is = subst LeavesCommits (same_Some (note.Committed db c) x is) tt
leaves_commits db c x None (Some k) is = subst LeavesCommits (same_Some (note.First k.entry k.number k.block c) x is) tt
leaves_commits db c x None None is = absurd (let e : None ≡ Some x = is in cc)

module _ {D : Type 0} {g : _} (told : DiskTold) (shown : D → DiskShown) (old new : Client D g) (db : List ℕ) (c : Commit) (only : OnlyWrites old new)
    (form : IsInForm old.seen old.ledger.databases old.txns old.tasks.items) (are : AreDatabases new.ledger.databases) (size : c.size < 2 ^ 32) where
  abbrev p : Parts
  p = parts_of old

  abbrev q : Parts
  q = with_ledger (parts_in new.ledger) p

  parts_after : KeepsViews old.ledger.databases.sets new.ledger.databases.sets → parts_of new ≡ q
  parts_after views =
      ledger_alone old new only form (keeps_txns old.ledger.databases.sets new.ledger.databases.sets views old.txns.txns)
      (keeps_slots old.ledger.databases.sets new.ledger.databases.sets views old.tasks.items)

  -- the note may stand
  pub may_note : (log : List Entry) (x : Note) → IsSoundLog log → Fits p (entries_of old) log → commit_reason_in (parts_in old.ledger) db (writes_of c) ≡ None
      → note_over db c (keyed kept_name db p.kept.locals) (keyed known_name db p.known) ≡ Some x
      → (y : m.Note) × MayNote (history_of log) p x y
  may_note log x sound fits free is =
      let v = there_is (part_view_in (parts_in old.ledger) db) (open_to_commit (parts_in old.ledger) db (writes_of c) free).1 in
      (m.Committing db v.0.number (writes_of c), commit_may_stand log (entries_of old) p db c v.0 x sound fits size free v.1 is)

  fits_noted : (log : List Entry) (x : Note) (fault : Option Reply) → IsSoundLog log → Fits p (entries_of old) log → commit_reason_in (parts_in old.ledger) db (writes_of c) ≡ None
      → note_over db c (keyed kept_name db p.kept.locals) (keyed known_name db p.known) ≡ Some x
      → NoteEnds told shown old.ledger new.ledger x (without_keyed known_name db p.known) fault → Fits q (entries_of old) log
  fits_noted log x (Some fault) sound fits free is ends = fits_same (parts_in new.ledger) p (entries_of old) log ends.kept ends.knows fits
  fits_noted log x None sound fits free is ends =
      let past : List Item = history_of log in
      let may = may_note log x sound fits free is in
      let l : FitsLedger past p.id (after_note p.kept x) (without_keyed known_name db p.known) =
      commit_keeps_fit past p.id p.kept p.known db c x (record { named = fits.named; locals = fits.locals; known_fit = fits.known; pending = fits.pending }) is in
      kept_fits log (record p { closed = is_shut new.ledger.log }) (entries_of old) new.ledger.databases.kept new.ledger.databases.known
      (fits_closed (is_shut new.ledger.log) p (entries_of old) log fits)
      (record {
        named = ap (λ (k : Kept). k.me) ends.kept ∙ l.named;
        ordered = are.order;
        locals = subst (λ (k : Kept). AllByRecursion (FitsLocal past) k.locals) (sym ends.kept) l.locals;
        are_known = record { order = are.known_order; apart = are.without; fits = subst (AllByRecursion (FitsKnown past)) (sym ends.knows) l.known_fit };
        pending = subst (λ (k : Kept). IfSome k.pending (FitsPending past p.id)) (sym ends.kept) l.pending;
      })
      (subst (KeepsTaken p.kept) (sym ends.kept)
      (notes_keep_taken p.kept x fits.ordered may.1.may (leaves_commits db c x (keyed kept_name db p.kept.locals) (keyed known_name db p.known) is)))

  -- ---- the machine

  abbrev Goes : Reply → m.Side → m.Up → m.Side → Type 0
  Goes r s u t = machine.Commits s u db (writes_of c) r t

  armed_is : (r : Reply) (f : Free) → IsArmed r f → ledger.IsArmed r f
  armed_is reply.DiskFault f armed = armed
  armed_is _ f armed = tt

  -- no intent is in flight that was not
  flies_after : (r : Reply) (moment : ℕ) (log : List Entry) (f free : Free) → ShutAfter (fault_of r) (is_shut new.ledger.log) → Journaled shown new.ledger.log new.ledger.databases.kept free
      → machine.Commits (side_of moment (history_of log) p f) (seen_up (history_of log) p) db (writes_of c) r (side_of moment (history_of log) q free)
      → Includes (flight_names f.flight) (flight_names free.flight)
  flies_after reply.DiskFault moment log f free shut j goes =
      commit_flies (flight_names f.flight) (side_of moment (history_of log) p f) (seen_up (history_of log) p) db (writes_of c) (side_of moment (history_of log) q free) goes (includes_all (flight_names f.flight))
  flies_after _ moment log f free shut j goes = none_flies (flight_names f.flight) shown new.ledger.log new.ledger.databases.kept free j shut

  -- a refused commit
  refused : (why r : Reply) (moment : ℕ) (log : List Entry) (f : Free) → commit_reason_in (parts_in old.ledger) db (writes_of c) ≡ Some why
      → CommitsFrom told shown old.ledger new.ledger db c r (Some why) → StandsOver shown old log f → NotesOver shown (Goes r) old new moment log f r
  refused why r moment log f is from stands =
      let views : KeepsViews old.ledger.databases.sets new.ledger.databases.sets = commit_views told shown old.ledger new.ledger db c r (Some why) from in
      let kept : new.ledger.databases.kept ≡ p.kept = ap (λ (d : Catalog). d.kept) from.1.databases in
      let knows : new.ledger.databases.known ≡ p.known = ap (λ (d : Catalog). d.known) from.1.databases in
      let same : parts_of new ≡ p = parts_after views ∙ ledger_same (parts_in new.ledger) p (ap is_shut from.1.log) kept knows in
      record {
        free = f;
        stands =
            stands_by old new only shown log f f (parts_after views) stands (fits_same (parts_in new.ledger) p (entries_of old) log kept knows stands.fits)
            (subst (λ (l : _). Journaled shown l new.ledger.databases.kept f) (sym from.1.log) (subst (λ (k : Kept). Journaled shown old.ledger.log k f) (sym kept) stands.journaled)) refl;
        flight = includes_all (flight_names f.flight);
        goes = record {
          event = λ some.
              subst (λ (x : Parts). Goes r (client_side moment log old f) (client_up log old) (side_of moment (history_of log) x f)) (sym same)
              (refuses_commit moment log (entries_of old) p f db (writes_of c) r stands.sound stands.fits (is ∙ ap Some (sym from.0)));
          still = λ none. ap (λ (x : Parts). side_of moment (history_of log) x f) same;
        };
      }

  noted : (r : Reply) (moment : ℕ) (log : List Entry) (f : Free) → told.tells → commit_reason_in (parts_in old.ledger) db (writes_of c) ≡ None
      → CommitNotes told shown old.ledger new.ledger db c r → CommitSteps shown old.ledger new.ledger db (writes_of c) r → StandsOver shown old log f → IsArmed r f
      → NotesOver shown (Goes r) old new moment log f r
  noted reply.NoMemory moment log f tells free from steps stands armed =
      let may = may_note log from.note stands.sound stands.fits free from.is_note in
      let fits : Fits q (entries_of old) log = fits_noted log from.note (Some reply.NoMemory) stands.sound stands.fits free from.is_note from.ends in
      let unshut : is_shut old.ledger.log ≡ false = (open_to_commit (parts_in old.ledger) db (writes_of c) free).0 in
      let same : parts_of new ≡ p = parts_after from.ends.views ∙ ledger_same (parts_in new.ledger) p (from.ends.shut ∙ sym unshut) from.ends.kept from.ends.knows in
      record {
        free = f;
        stands = stands_by old new only shown log f f (parts_after from.ends.views) stands fits (from.ends.goes tells may.1.may f stands.journaled may.0 may.1.is) refl;
        flight = includes_all (flight_names f.flight);
        goes = record { event = λ some. absurd (some tt); still = λ none. ap (λ (x : Parts). side_of moment (history_of log) x f) same };
      }
  noted reply.NamesFault moment log f tells free from steps stands armed = absurd from.ends.answers
  noted r moment log f tells free from steps stands armed =
      let fits : Fits q (entries_of old) log = fits_noted log from.note (fault_of r) stands.sound stands.fits free from.is_note from.ends in
      let is : parts_of new ≡ q = parts_after from.ends.views in
      let step : LocalSteps shown old.ledger new.ledger p moment (history_of log) f (λ s u t. machine.Commits s u db (writes_of c) r t) =
      steps moment log (entries_of old) p f (record { sound = stands.sound; fits = stands.fits; journaled = stands.journaled }) (armed_is r f armed) (λ e. subst IsNoEvent (sym e) tt) in
      let slots : step.free.slots ≡ f.slots =
      commits_keep_slots (side_of moment (history_of log) p f) (seen_up (history_of log) p) db (writes_of c) r (side_of moment (history_of log) q step.free) step.goes in
      record {
        free = step.free;
        stands = stands_by old new only shown log f step.free is stands fits step.journaled slots;
        flight = flies_after r moment log f step.free from.ends.shut step.journaled step.goes;
        goes = record {
          event = λ some. subst (λ (x : Parts). Goes r (client_side moment log old f) (client_up log old) (side_of moment (history_of log) x step.free)) (sym is) step.goes;
          still = λ none. absurd none;
        };
      }

  pub commit_is_noted : (r : Reply) → told.tells → LedgerCommits told shown old.ledger new.ledger db c r → CommitSteps shown old.ledger new.ledger db (writes_of c) r
      → Noting shown (λ s u t. machine.Commits s u db (writes_of c) r t) old new r
  commit_is_noted r tells commits steps moment log f stands armed = by (commit_reason_in (parts_in old.ledger) db (writes_of c)) refl commits
    where
      by : (why : Option Reply) → commit_reason_in (parts_in old.ledger) db (writes_of c) ≡ why → CommitsFrom told shown old.ledger new.ledger db c r why
          → NotesOver shown (Goes r) old new moment log f r
      by None is from = noted r moment log f tells is from steps stands armed
      by (Some why) is from = refused why r moment log f is from stands
