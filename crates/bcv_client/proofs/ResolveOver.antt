-- The step of a resolve over a client.
use Rattle.std.proofs.Common.{◌≡◌, ◌≢◌, ◌∙◌, ℕ, true, false, List, ◌++◌, Option, Some, None, refl, sym, ap, subst}
use Rattle.std.specs.List.{AllByRecursion, list_any}
use Rattle.bcv_base.specs.declared.id.Id16.{Id16}
use Rattle.bcv_base.specs.declared.log.Entry.{Entry}
use Rattle.bcv_base.specs.declared.outcome.Outcome.{Outcome}
use Rattle.bcv_base.specs.declared.outcome.Outcome.TheVariants as outcome
use Rattle.bcv_base.specs.History.{history_of}
use Rattle.bcv_clientlaws.specs.OtherParts.{Includes}
use Rattle.bcv_clientlog.specs.declared.log.ClientLog.{ClientLog}
use Rattle.bcv_clientlog.specs.LogParts.{is_shut}
use Rattle.bcv_clientstate.specs.Fits.{Fits}
use Rattle.bcv_clientstate.specs.Journaled.{Journaled}
use Rattle.bcv_clientstate.specs.PartRefusals.{runs_publication}
use Rattle.bcv_clientstate.specs.Parts.{Parts, mine_of, names_of_pending, with_ledger}
use Rattle.bcv_clientstate.specs.SeenClient.{Free, seen_up, side_of}
use Rattle.bcv_databases.specs.Catalog.{Catalog}
use Rattle.bcv_databases.specs.Sound.{AreDatabases}
use Rattle.bcv_databases.specs.declared.known.Known.{Known}
use Rattle.bcv_disk.specs.DiskShown.{DiskShown, DiskTold}
use Rattle.bcv_ledger.specs.declared.ledger.Ledger.{Ledger}
use Rattle.bcv_ledger.specs.LedgerNotes.{parts_in}
use Rattle.bcv_ledger.specs.NoteEnds.{ShutAfter}
use Rattle.bcv_machine.specs.Noting.{NoteFails}
use Rattle.bcv_machine.specs.Resolve.{Resolves, ResolvesAs, ResolvesPending, number_from}
use Rattle.bcv_machine.specs.State as m
use Rattle.bcv_model.specs.declared.kept.Kept.{Kept}
use Rattle.bcv_model.specs.declared.kept.PendingPub.{PendingPub}
use Rattle.bcv_model.specs.declared.reply.Reply.{Reply}
use Rattle.bcv_model.specs.declared.reply.Reply.TheVariants as reply
use Rattle.bcv_publisher.specs.PutStep.{Armed, version_added}
use Rattle.bcv_publisher.specs.ResolveStep.{ResolveLeaves}
use Rattle.bcv_client.proofs.OthersGrew.{grown_by_others}
use Rattle.bcv_slots.specs.declared.Slot.{Slot}
use Rattle.bcv_store.specs.StoreShown.{StoreShown, StoreTold}
use Rattle.bcv_transaction.specs.Open.{Open}
use Rattle.bcv_client.specs.CallNames.{flight_names}
use Rattle.bcv_client.specs.ClientForm.{HasSize, IsInForm}
use Rattle.bcv_client.specs.ClientParts.{entries_of, parts_of}
use Rattle.bcv_client.specs.Events.{IsArmed}
use Rattle.bcv_client.specs.LocalWrites.{OnlyWrites, TrimsSets}
use Rattle.bcv_client.specs.NewTasks.{is_busy}
use Rattle.bcv_client.specs.ResolveOver.{ClientResolves}
use Rattle.bcv_client.specs.Steps.{EndsJob}
use Rattle.bcv_client.specs.TaskParts.{entries_in}
use Rattle.bcv_client.specs.declared.client.Client.{Client}
use Rattle.bcv_client.specs.declared.job.Job.{Job}
use Rattle.bcv_client.specs.declared.job.Job.TheVariants as job
use Rattle.bcv_client.proofs.Flights.{resolve_flies}
use Rattle.bcv_client.proofs.LedgerParts.{ledger_alone}
use Rattle.bcv_client.proofs.MyNames.{named_by, none_flies, none_mine, none_pending, pending_by, pending_was, tasks_by, tasks_were}
use Rattle.bcv_client.proofs.PollOver.{none_added}
use Rattle.bcv_client.proofs.ReadsSaw.{saw_grown, saw_same}
use Rattle.bcv_client.proofs.RevertForm.{quiet_slots, quiet_stays, size_as_before}
use Rattle.bcv_client.proofs.SetViews.{KeepsTxn, both_keep, keeps_txns}
use Rattle.bcv_client.proofs.BlockSizes.{size_found, size_void}
use Rattle.bcv_client.proofs.BusyTasks.{busy_jobs}

-- ---- the machine's slots

abbrev Same : m.Side → m.Side → Type 0
Same s t = t.client.slots ≡ s.client.slots

note_slots : (s : m.Side) (u : m.Up) (x : m.Note) (r : Reply) (t : m.Side) → NoteFails s u x r t → Same s t
note_slots s u x reply.JournalFull t fails = ap (λ (c : m.Client). c.slots) fails.1.1
note_slots s u x reply.DiskFault t fails = ap (λ (c : m.Client). c.slots) fails.1.1
note_slots s u x reply.Crashed t fails = ap (λ (c : m.Client). c.slots) fails.1.1
note_slots s u x _ t fails = absurd fails.1

found_slots : (s : m.Side) (u : m.Up) (p : m.Pending) (n : ℕ) (r : Reply) (t : m.Side) → ResolvesAs s u p (Some n) r t → Same s t
found_slots s u p n (reply.Resolved k) t does = ap (λ (y : m.Side). y.client.slots) does.1
found_slots s u p n r t does = note_slots s u (m.Finishing n) r t does

void_slots : (s : m.Side) (u : m.Up) (p : m.Pending) (r : Reply) (t : m.Side) → ResolvesAs s u p None r t → Same s t
void_slots s u p reply.Voided t does = ap (λ (y : m.Side). y.client.slots) does
void_slots s u p r t does = note_slots s u m.Voiding r t does

as_slots : (s : m.Side) (u : m.Up) (p : m.Pending) (n : Option ℕ) (r : Reply) (t : m.Side) → ResolvesAs s u p n r t → Same s t
as_slots s u p None r t does = void_slots s u p r t does
as_slots s u p (Some n) r t does = found_slots s u p n r t does

pending_slots : (s : m.Side) (u : m.Up) (p : Option m.Pending) (r : Reply) (t : m.Side) → ResolvesPending s u p r t → Same s t
pending_slots s u None r t does = absurd does
pending_slots s u (Some p) r t does = as_slots s u p (number_from 1 p.id s.container.versions) r t does

resolve_slots : (s : m.Side) (u : m.Up) (o : Outcome) (r : Reply) (t : m.Side) → Resolves s u o r t → Same s t
resolve_slots s u outcome.Ok r t does = pending_slots s u s.client.kept.pending r t does
resolve_slots s u outcome.Fail r t does = ap (λ (y : m.Side). y.client.slots) does.1
resolve_slots s u outcome.Lost r t does = ap (λ (y : m.Side). y.client.slots) does.1

resolve_fails : (s : m.Side) (u : m.Up) (o : Outcome) (r : Reply) (t : m.Side) → Resolves s u o r t → o ≢ outcome.Ok → r ≡ reply.StoreFault
resolve_fails s u outcome.Ok r t does bad = absurd (bad refl)
resolve_fails s u outcome.Fail r t does bad = does.0
resolve_fails s u outcome.Lost r t does bad = does.0

-- ---- the journal

pub armed : (r : Reply) (f : Free) → IsArmed r f → Armed r f
armed reply.DiskFault f is = is
armed _ f is = tt

-- the slots of what is free do not count in the journal
slots_apart : {D : Type 0} {g : _} (shown : D → DiskShown) (l : ClientLog D g) (k : Kept) (free : Free) (n : ℕ) → Journaled shown l k free → Journaled shown l k (record free { slots = n })
slots_apart shown l k free n j = record { settled = j.settled; still = j.still; images = j.images; within = j.within }

-- ---- the step

module _ {D : Type 0} {g : _} (told : DiskTold) (shown : D → DiskShown) (store : StoreTold) (before after : StoreShown) (old new : Client D g) (r : Reply)
    (only : OnlyWrites old new) (res : ClientResolves told shown store before after old new r) (form : IsInForm old.seen old.ledger.databases old.txns old.tasks.items)
    (are : AreDatabases old.ledger.databases) (alone : runs_publication (parts_of old) ≡ false) where
  abbrev p : Parts
  p = parts_of old

  abbrev q : Parts
  q = with_ledger (parts_in new.ledger) p

  abbrev c : Catalog
  c = old.ledger.databases

  abbrev d : Catalog
  d = new.ledger.databases

  abbrev mid : Ledger D g
  mid = res.mid

  abbrev same : TrimsSets mid new.ledger old.txns
  same = res.views

  none_busy : list_any (λ (s : Slot Job). is_busy s.item) old.tasks.items ≡ false
  none_busy = sym (busy_jobs c old.tasks.items) ∙ alone

  keeps : AllByRecursion (KeepsTxn c.sets d.sets) old.txns.txns
  keeps = both_keep c.sets mid.databases.sets d.sets old.txns.txns (keeps_txns c.sets mid.databases.sets res.resolves.views old.txns.txns) same.views

  size_still : mid.databases.kept ≡ c.kept → mid.databases.known ≡ c.known → HasSize old.seen.block d old.txns.cache
  size_still kept knows = size_as_before old.seen.block c d old.txns.cache form.size (same.kept ∙ kept) (same.known ∙ knows)

  size_unmoved : mid ≡ old.ledger → HasSize old.seen.block d old.txns.cache
  size_unmoved is = size_still (ap (λ (l : Ledger D g). l.databases.kept) is) (ap (λ (l : Ledger D g). l.databases.known) is)

  size_after : (x : Reply) → ResolveLeaves old.ledger mid res.resolves.pending.id x → HasSize old.seen.block d old.txns.cache
  size_after (reply.Resolved n) leaves = size_found old.seen.block c d old.txns.cache res.resolves.pending.id n p refl refl are.pending form.size (same.kept ∙ leaves.0) (same.known ∙ leaves.1)
  size_after reply.Voided leaves = size_void old.seen.block c d old.txns.cache res.resolves.pending.id form.size (same.kept ∙ leaves.0) (same.known ∙ leaves.1)
  size_after (reply.BadManifest at) leaves = size_unmoved leaves
  size_after reply.StoreFault leaves = size_unmoved leaves
  size_after reply.DiskFault leaves = size_still leaves.0 leaves.1
  size_after reply.NoMemory leaves = size_still leaves.0 leaves.1
  size_after _ leaves = absurd leaves

  -- the client is in form
  pub form_resolved : IsInForm old.seen d old.txns old.tasks.items
  form_resolved = quiet_stays old.seen c d old.txns old.tasks.items form none_busy keeps (size_after r res.resolves.leaves)

  parts_after : parts_of new ≡ q
  parts_after = ledger_alone old new only form keeps (quiet_slots c.sets d.sets old.tasks.items none_busy)

  parts_mid : parts_of new ≡ with_ledger (parts_in mid) p
  parts_mid =
      parts_after
      ∙ ap (λ (l : ClientLog D _). record p { closed = is_shut l; kept = d.kept; known = d.known }) same.log
      ∙ ap (λ (k : Kept). record p { closed = is_shut mid.log; kept = k; known = d.known }) same.kept
      ∙ ap (λ (k : List Known). record p { closed = is_shut mid.log; kept = mid.databases.kept; known = k }) same.known

  journaled_now : (free : Free) → Journaled shown mid.log mid.databases.kept free → Journaled shown new.ledger.log d.kept free
  journaled_now free j =
      subst (λ (l : ClientLog D _). Journaled shown l d.kept free) (sym same.log) (subst (λ (k : Kept). Journaled shown mid.log k free) (sym same.kept) j)

  -- nothing is pending, or what was
  pending_then : (mine : List Id16) → Includes mine (mine_of p) → (x : Reply) → ResolveLeaves old.ledger mid res.resolves.pending.id x → Includes mine (names_of_pending d.kept.pending)
  pending_then mine all x leaves = by x leaves
    where
      from : (w : Option PendingPub) → mid.databases.kept.pending ≡ w → Includes mine (names_of_pending w) → Includes mine (names_of_pending d.kept.pending)
      from w is names = pending_by mine old new all w (ap (λ (k : Kept). k.pending) same.kept ∙ is) names

      still : mid.databases.kept ≡ c.kept → Includes mine (names_of_pending d.kept.pending)
      still is = from c.kept.pending (ap (λ (k : Kept). k.pending) is) (pending_was mine old new all)

      by : (y : Reply) → ResolveLeaves old.ledger mid res.resolves.pending.id y → Includes mine (names_of_pending d.kept.pending)
      by (reply.Resolved n) l = from None (ap (λ (k : Kept). k.pending) l.0 ∙ none_pending n c.kept c.kept.pending refl) (none_mine mine)
      by reply.Voided l = from None (ap (λ (k : Kept). k.pending) l.0) (none_mine mine)
      by (reply.BadManifest at) l = still (ap (λ (x : Ledger D g). x.databases.kept) l)
      by reply.StoreFault l = still (ap (λ (x : Ledger D g). x.databases.kept) l)
      by reply.DiskFault l = still l.0
      by reply.NoMemory l = still l.0
      by _ l = absurd l

  -- no intent is in flight that was not
  flies_then : (mine : List Id16) (moment : ℕ) (log : List Entry) (o : Outcome) (f free : Free) (x : Reply) → ShutAfter (Some x) (is_shut mid.log) → Journaled shown mid.log mid.databases.kept free
      → (x ≢ reply.NoMemory → Resolves (side_of moment (history_of log) p f) (seen_up (history_of log) p) o x (side_of moment (history_of log) (with_ledger (parts_in mid) p) free))
      → Includes mine (flight_names f.flight) → Includes mine (flight_names free.flight)
  flies_then mine moment log o f free reply.DiskFault shut j does flies =
      resolve_flies mine (side_of moment (history_of log) p f) (seen_up (history_of log) p) o (side_of moment (history_of log) (with_ledger (parts_in mid) p) free) (does (λ e. absurd (cc))) flies
  flies_then mine moment log o f free _ shut j does flies = none_flies mine shown mid.log mid.databases.kept free j shut

  pub resolve_ends : EndsJob told shown store before after old new job.Resolve r
  resolve_ends tells disk number moment mine f stands all grew is_armed =
      let says = res.resolves.machine tells disk p (entries_of old) mine stands.sound stands.fits alone refl refl all grew in
      let steps = says.steps f stands.journaled (armed r f is_armed) in
      let free : Free = record steps.0 { slots = f.slots } in
      let grown = grown_by_others store.alone mine before.log after.log says.growth says.no_own in
      record {
        growth = says.growth;
        free = free;
        stands = record {
          sound = says.growth.sound;
          fits =
              subst (λ (x : Parts). Fits x (entries_of new) after.log) (sym parts_mid)
              (subst (λ (o : Open). Fits (with_ledger (parts_in mid) p) (entries_in o.cache) after.log) (sym only.txns) says.fits);
          saw = saw_same (history_of after.log) old.tasks.items new.tasks.items only.tasks (saw_grown store.alone mine before.log after.log says.growth old.tasks.items stands.saw);
          journaled = journaled_now free (slots_apart shown mid.log mid.databases.kept steps.0 f.slots steps.1);
          slots = stands.slots ∙ sym (ap (λ (o : Open). o.slots) only.txns);
        };
        names = named_by mine old new all only.id (pending_then mine all r res.resolves.leaves) (tasks_by mine old new all old.tasks.items only.tasks (tasks_were mine old new all));
        flight = flies_then mine moment after.log says.request f steps.0 r res.resolves.shut steps.1 (λ memory. steps.2 memory moment);
        event = λ memory.
            let slots : steps.0.slots ≡ f.slots = resolve_slots (side_of moment (history_of after.log) p f) (seen_up (history_of after.log) p) says.request r (side_of moment (history_of after.log) (with_ledger (parts_in mid) p) steps.0) (steps.2 memory moment) in
            let is_free : steps.0 ≡ free = ap (λ (n : ℕ). record steps.0 { slots = n }) slots in
            record {
              made = true;
              request = says.request;
              planned = λ plans made. says.planned plans;
              unmade = λ none. absurd (let e : true ≡ false = none in cc);
              cause = λ made bad. res.resolves.failed (resolve_fails (side_of moment (history_of after.log) p f) (seen_up (history_of after.log) p) says.request r (side_of moment (history_of after.log) (with_ledger (parts_in mid) p) steps.0) (steps.2 memory moment) bad);
              goes = λ o is. (
                false,
                (
                  subst (λ (log : List Entry). version_added (history_of log) (history_of after.log) ≡ None) grown (none_added (history_of after.log) (history_of after.log) refl),
                  subst (λ (x : Parts). Resolves (side_of moment (history_of (before.log ++ says.growth.others)) p f) (seen_up (history_of (before.log ++ says.growth.others)) p) o r (side_of moment (history_of after.log) x free)) (sym parts_mid)
                      (subst (λ (y : Free). Resolves (side_of moment (history_of (before.log ++ says.growth.others)) p f) (seen_up (history_of (before.log ++ says.growth.others)) p) o r (side_of moment (history_of after.log) (with_ledger (parts_in mid) p) y)) is_free
                      (subst (λ (x : Outcome). Resolves (side_of moment (history_of (before.log ++ says.growth.others)) p f) (seen_up (history_of (before.log ++ says.growth.others)) p) x r (side_of moment (history_of after.log) (with_ledger (parts_in mid) p) steps.0)) (sym (is refl))
                      (subst (λ (log : List Entry). Resolves (side_of moment (history_of log) p f) (seen_up (history_of log) p) says.request r (side_of moment (history_of after.log) (with_ledger (parts_in mid) p) steps.0)) grown (steps.2 memory moment)))),
                ),
              );
            };
      }
