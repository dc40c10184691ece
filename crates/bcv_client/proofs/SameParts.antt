-- A client of which nothing has changed but the tasks.
use Rattle.std.proofs.Common.{◌≡◌, ◌∙◌, ℕ, List, map, Option, refl, sym, ap, subst}
use Rattle.bcv_base.specs.declared.id.Id16.{Id16}
use Rattle.bcv_base.specs.declared.log.Entry.{Entry}
use Rattle.bcv_base.specs.declared.seen.Latest.{Latest}
use Rattle.bcv_base.specs.declared.seen.Seen.{Seen}
use Rattle.bcv_base.specs.History.{history_of}
use Rattle.bcv_clientlaws.specs.TaskLists.{with_tasks}
use Rattle.bcv_clientlog.specs.LogParts.{is_shut}
use Rattle.bcv_clientstate.specs.Fits.{Fits}
use Rattle.bcv_clientstate.specs.Journaled.{Journaled}
use Rattle.bcv_clientstate.specs.Parts.{Parts}
use Rattle.bcv_clientstate.specs.SeenClient.{Free, side_of}
use Rattle.bcv_disk.specs.DiskShown.{DiskShown}
use Rattle.bcv_ledger.specs.declared.ledger.Ledger.{Ledger}
use Rattle.bcv_machine.specs.State as m
use Rattle.bcv_model.specs.declared.reply.Reply.{Reply}
use Rattle.bcv_slots.specs.declared.Slot.{Slot}
use Rattle.bcv_transaction.specs.MachineCalls.{open_part}
use Rattle.bcv_transaction.specs.Open.{Open}
use Rattle.bcv_client.specs.ClientParts.{entries_in, entries_of, parts_of, sets_in, task_part}
use Rattle.bcv_client.specs.Events.{IsNoEvent, LocallyOver, StandsOver, client_side, client_up}
use Rattle.bcv_client.specs.NewTasks.{IsUnmoved}
use Rattle.bcv_client.specs.TaskStarts.{OnlyTasks}
use Rattle.bcv_client.specs.declared.client.Client.{Client}
use Rattle.bcv_client.specs.declared.job.Job.{Job}
use Rattle.bcv_client.proofs.ReadsSaw.{SawAll, saw_same}

module _ {D : Type 0} {g : _} where
  -- a client's parts by what it has
  abbrev pub parts_by : Id16 → Ledger D g → Seen → Option Latest → Open → List (Slot Job) → Parts
  parts_by id ledger seen latest o tasks = record {
    id = id;
    closed = is_shut ledger.log;
    seen = seen;
    latest = latest;
    kept = ledger.databases.kept;
    known = ledger.databases.known;
    txns = map (open_part (sets_in ledger.databases)) o.txns;
    tasks = map (task_part ledger.databases) tasks;
  }

  pub tasks_alone : (old new : Client D g) → OnlyTasks old new → parts_of new ≡ with_tasks (map (task_part old.ledger.databases) new.tasks.items) (parts_of old)
  tasks_alone old new only =
      ap (λ (x : Id16). parts_by x new.ledger new.seen new.latest new.txns new.tasks.items) only.id
      ∙ ap (λ (x : Ledger D g). parts_by old.id x new.seen new.latest new.txns new.tasks.items) only.ledger
      ∙ ap (λ (x : Seen). parts_by old.id old.ledger x new.latest new.txns new.tasks.items) only.seen
      ∙ ap (λ (x : Option Latest). parts_by old.id old.ledger old.seen x new.txns new.tasks.items) only.latest
      ∙ ap (λ (x : Open). parts_by old.id old.ledger old.seen old.latest x new.tasks.items) only.txns

  pub unmoved : (old new : Client D g) → IsUnmoved old new → parts_of new ≡ parts_of old
  unmoved old new same =
      tasks_alone old new same.only ∙ ap (λ (ss : List (Slot Job)). with_tasks (map (task_part old.ledger.databases) ss) (parts_of old)) same.tasks

  -- it stands as before, where it still fits
  pub stands_with : (shown : D → DiskShown) (old new : Client D g) (log : List Entry) (f : Free) (p : Parts) → OnlyTasks old new → parts_of new ≡ p → Fits p (entries_of old) log
      → SawAll (history_of log) new.tasks.items → StandsOver shown old log f → StandsOver shown new log f
  stands_with shown old new log f p only is fits saw stands = record {
    sound = stands.sound;
    fits =
        subst (λ (q : Parts). Fits q (entries_of new) log) (sym is)
        (subst (λ (o : Open). Fits p (entries_in o.cache) log) (sym only.txns) fits);
    saw = saw;
    journaled = subst (λ (l : Ledger D g). Journaled shown l.log l.databases.kept f) (sym only.ledger) stands.journaled;
    slots = stands.slots ∙ sym (ap (λ (o : Open). o.slots) only.txns);
  }

  -- a call that leaves it with these parts is the machine's
  pub locally : (shown : D → DiskShown) (Goes : m.Side → m.Up → m.Side → Type 0) (old new : Client D g) (moment : ℕ) (log : List Entry) (f : Free) (r : Reply) (p : Parts)
      → OnlyTasks old new → parts_of new ≡ p → Fits p (entries_of old) log → SawAll (history_of log) new.tasks.items → StandsOver shown old log f
      → ((IsNoEvent r → ⊥) → Goes (client_side moment log old f) (client_up log old) (side_of moment (history_of log) p f))
      → (IsNoEvent r → p ≡ parts_of old)
      → LocallyOver shown Goes old new moment log f r
  locally shown Goes old new moment log f r p only is fits saw stands event still = record {
    stands = stands_with shown old new log f p only is fits saw stands;
    goes = record {
      event = λ some. subst (λ (q : Parts). Goes (client_side moment log old f) (client_up log old) (side_of moment (history_of log) q f)) (sym is) (event some);
      still = λ none. ap (λ (q : Parts). side_of moment (history_of log) q f) (is ∙ still none);
    };
  }

  -- and one that changed nothing
  pub locally_still : (shown : D → DiskShown) (Goes : m.Side → m.Up → m.Side → Type 0) (old new : Client D g) (moment : ℕ) (log : List Entry) (f : Free) (r : Reply)
      → IsUnmoved old new → StandsOver shown old log f
      → ((IsNoEvent r → ⊥) → Goes (client_side moment log old f) (client_up log old) (client_side moment log old f))
      → LocallyOver shown Goes old new moment log f r
  locally_still shown Goes old new moment log f r same stands event =
      locally shown Goes old new moment log f r (parts_of old) same.only (unmoved old new same) stands.fits (saw_same (history_of log) old.tasks.items new.tasks.items same.tasks stands.saw) stands event (λ none. refl)
