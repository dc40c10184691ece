-- A client that came up has nothing but what its log says, is in form, and stands over each log that its disk's log fits.
use Rattle.std.proofs.Common.{◌≡◌, ◌∙◌, ◌+◌, ℕ, Bool, true, false, List, [], ◌∷◌, map, Option, None, inl, inr, is_some, refl, sym, ap, subst, arith}
use Rattle.std.specs.List.{AllByRecursion}
use Rattle.bcv_base.specs.declared.id.Id16.{Id16}
use Rattle.bcv_base.specs.declared.log.Entry.{Entry}
use Rattle.bcv_base.specs.declared.seen.Latest.{Latest}
use Rattle.bcv_base.specs.declared.seen.Seen.{Seen}
use Rattle.bcv_base.specs.Drawn.{NamesShown}
use Rattle.bcv_base.specs.History.{history_of}
use Rattle.bcv_base.specs.ManifestRules.{is_block_size}
use Rattle.bcv_cache.specs.Entry as cache
use Rattle.bcv_clientlaws.specs.Forms.{AreInForm, FormOf, LocalInForm}
use Rattle.bcv_clientlaws.proofs.DatabaseForms.{folds_are_in_form}
use Rattle.bcv_clientlog.specs.LogParts.{log_disk}
use Rattle.bcv_clientstate.specs.Fits.{Fits}
use Rattle.bcv_clientstate.specs.Journaled.{Journaled}
use Rattle.bcv_clientstate.specs.Parts.{Parts}
use Rattle.bcv_clientstate.specs.SeenClient.{Free, seen_client, side_of}
use Rattle.bcv_clientstate.specs.UpSides.{risen_free, risen_parts}
use Rattle.bcv_databases.specs.Catalog.{Catalog}
use Rattle.bcv_databases.specs.Table.{table_of}
use Rattle.bcv_databases.specs.declared.known.Known.{Known}
use Rattle.bcv_dbmap.specs.Sound.{IsSoundLog}
use Rattle.bcv_disk.specs.DiskShown.{DiskShown, DiskTold}
use Rattle.bcv_ledger.specs.declared.ledger.Ledger.{Ledger}
use Rattle.bcv_machine.specs.CrashAndUp.{ComesUp}
use Rattle.bcv_model.specs.declared.kept.Kept.{Kept}
use Rattle.bcv_model.specs.declared.kept.Local.{Local}
use Rattle.bcv_model.specs.declared.note.Note.TheVariants as note
use Rattle.bcv_model.specs.declared.reply.Reply.TheVariants as reply
use Rattle.bcv_model.specs.Notes.{after_note, nothing_kept}
use Rattle.bcv_risen.specs.Rises.{IsNamed, IsUp}
use Rattle.bcv_risen.specs.RisenSides.{IsDown, IsUpAgain, IsUpFirst, RisenAgain, RisenFirst, RisesAgain, RisesFirst, new_free, side_down}
use Rattle.bcv_risen.specs.SeenBases.{first_block}
use Rattle.bcv_risen.specs.declared.risen.RiseFault.TheVariants as fault
use Rattle.bcv_slots.specs.declared.Slot.{Slot}
use Rattle.bcv_transaction.specs.MachineCalls.{open_part}
use Rattle.bcv_transaction.specs.Open.{Open}
use Rattle.bcv_client.specs.ClientForm.{HasSize, IsInForm}
use Rattle.bcv_client.specs.ClientParts.{entries_in, entries_of, parts_of, sets_in, task_part}
use Rattle.bcv_client.specs.ClientUp.{BackOrDown, EmptyIfUp, IsBack, IsNewlyUp, LeavesDown, NewlyUpOrNot, StartsEmpty, ComesBack, ComesNew, risen_of}
use Rattle.bcv_client.specs.Events.{SawItsReads, StandsOver}
use Rattle.bcv_client.specs.declared.client.Client.{Client}
use Rattle.bcv_client.specs.declared.job.Job.{Job}
use Rattle.bcv_client.specs.declared.rising.Up.{Up}
use Rattle.bcv_client.specs.declared.rising.Up.TheVariants as up
use Rattle.bcv_client.proofs.LeftFits.{left_is_down, still_left}

-- ---- the block size

size_by : (ls : List Local) (k : Kept) (c : Catalog) → k.locals ≡ ls → FormOf k → c.kept ≡ k → c.known ≡ [] → HasSize (first_block ls) c None
size_by [] k c is form kept none = (ap (λ (x : Kept). x.locals) kept ∙ is, none, refl)
size_by (l ∷ ls) k c is form kept none =
    let each : AllByRecursion (LocalInForm form.block) (l ∷ ls) = subst (AllByRecursion (LocalInForm form.block)) is form.are.locals in
    let same : form.block ≡ l.block = sym each.0.0.0 in
    let are : AreInForm l.block k [] = subst (λ (b : ℕ). AreInForm b k []) same form.are in
    let over : AreInForm l.block c.kept [] = subst (λ (x : Kept). AreInForm l.block x []) (sym kept) are in
    (subst (λ (b : ℕ). is_block_size b ≡ true) same form.is_block, subst (AreInForm l.block c.kept) (sym none) over, tt)

-- ---- the form

no_tasks : (slots : ℕ) (s : Seen) (c : Catalog) → HasSize s.block c None → IsInForm s c (record { slots = slots; cache = None; txns = [] }) []
no_tasks slots s c size = record { size = size; txns = tt; tasks_are = record { few = omega arith; differ = tt; single = tt; each = tt } }

-- what is kept is what some notes come to
form_up : {D : Type 0} {g : _} → (told : DiskTold) (shown : D → DiskShown) (disk : D) (old new : NamesShown) (l : Ledger D g) (id : Id16) (seen : Seen) → IsUp told shown disk old new l id seen
    → FormOf l.databases.kept
form_up told shown disk old new l id seen u = by u.named
  where
    by : IsNamed old new u.left id l.databases.kept → FormOf l.databases.kept
    by (inl (me, same, drew)) = subst FormOf (sym same) (folds_are_in_form u.notes u.left u.folds)
    by (inr (none, same, drew)) = subst FormOf (sym same) (folds_are_in_form (note.Me id ∷ []) (after_note nothing_kept (note.Me id)) ((refl, u.is_id), refl))

in_form : {D : Type 0} {g : _} → (told : DiskTold) (shown : D → DiskShown) (disk : D) (old new : NamesShown) (l : Ledger D g) (id : Id16) (seen : Seen) (slots : ℕ) → IsUp told shown disk old new l id seen
    → IsInForm seen l.databases (record { slots = slots; cache = None; txns = [] }) []
in_form told shown disk old new l id seen slots u =
    let size : HasSize (first_block l.databases.kept.locals) l.databases None =
    size_by l.databases.kept.locals l.databases.kept l.databases refl (form_up told shown disk old new l id seen u) refl u.known
    in
    no_tasks slots seen l.databases (subst (λ (s : Seen). HasSize s.block l.databases None) (sym u.sees) size)

-- ---- a client that came up

abbrev empty_open : ℕ → Open
empty_open slots = record { slots = slots; cache = None; txns = [] }

module _ {D : Type 0} {g : _} (told : DiskTold) (shown : D → DiskShown) (disk : D) (old new : NamesShown) (slots : ℕ) where
  pub starts_empty : (c : Client D g) → IsUp told shown disk old new c.ledger c.id c.seen → c.latest ≡ None → c.txns ≡ empty_open slots → c.tasks.items ≡ [] → c.taken ≡ 0 → StartsEmpty slots c
  starts_empty c u latest txns tasks taken =
      let p : Parts = parts_of c in
      record {
        form =
            subst (λ (o : Open). IsInForm c.seen c.ledger.databases o c.tasks.items) (sym txns)
            (subst (IsInForm c.seen c.ledger.databases (empty_open slots)) (sym tasks) (in_form told shown disk old new c.ledger c.id c.seen slots u));
        txns = txns;
        tasks = tasks;
        taken = taken;
        parts =
            ap (λ (b : Bool). record p { closed = b }) u.is_open
            ∙ ap (λ (l : Option Latest). record p { closed = false; latest = l }) latest
            ∙ ap (λ (ks : List Known). record p { closed = false; latest = None; known = ks }) u.known
            ∙ ap (λ (o : Open). record p { closed = false; latest = None; known = []; txns = map (open_part (sets_in c.ledger.databases)) o.txns }) txns
            ∙ ap (λ (ss : List (Slot Job)). record p { closed = false; latest = None; known = []; txns = []; tasks = map (task_part c.ledger.databases) ss }) tasks;
        entries = ap (λ (o : Open). entries_in o.cache) txns;
      }

-- ---- over a log

module _ {D : Type 0} {g : _} (shown : D → DiskShown) (slots : ℕ) (c : Client D g) (empty : StartsEmpty slots c) where
  -- it stands where its parts fit
  stands_empty : (log : List Entry) (f : Free) → IsSoundLog log → Fits (risen_parts c.id c.ledger.databases.kept c.seen) [] log → Journaled shown c.ledger.log c.ledger.databases.kept f
      → f.slots ≡ slots → StandsOver shown c log f
  stands_empty log f sound fits journaled same = record {
    sound = sound;
    fits = subst (λ (q : Parts). Fits q (entries_of c) log) (sym empty.parts) (subst (λ (es : List cache.Entry). Fits (risen_parts c.id c.ledger.databases.kept c.seen) es log) (sym empty.entries) fits);
    saw = subst (AllByRecursion (λ (s : Slot Job). SawItsReads (history_of log) s.item)) (sym empty.tasks) tt;
    journaled = journaled;
    slots = same ∙ sym (ap (λ (o : Open). o.slots) empty.txns);
  }

  is_back : (log : List Entry) (id : Id16) (k : Kept) (f : Free) → IsSoundLog log → f.slots ≡ slots → IsUpAgain shown log id k f c.ledger c.id c.seen → IsBack shown log id k f c
  is_back log id k f sound same again =
      let stands : StandsOver shown c log (risen_free f) = stands_empty log (risen_free f) sound again.fits again.journaled same in
      record {
        same = again.same;
        left = again.left;
        stands = stands;
        leaves = still_left shown c log (risen_free f) stands refl;
        comes_up = λ moment.
            subst (λ (q : Parts). ComesUp (side_down moment (history_of log) k f) (reply.UpAgain (table_of c.ledger.databases) (is_some c.ledger.databases.kept.pending)) (side_of moment (history_of log) q (risen_free f)))
            (sym empty.parts) (again.comes_up moment);
      }

  -- with so many bytes noted that the log is within them
  abbrev new_noted : ℕ → Free
  new_noted most = record { slots = slots; fused = false; failing = false; noted = most + 44; flight = None }

  new_stands : (most : ℕ) → IsUpFirst shown most c.ledger c.id c.seen → (log : List Entry) → IsSoundLog log → StandsOver shown c log (new_noted most)
  new_stands most first log sound = stands_empty log (new_noted most) sound (first.fits log) (first.journaled (new_noted most) refl (omega arith)) refl

  newly_up : (most : ℕ) → IsUpFirst shown most c.ledger c.id c.seen → IsNewlyUp shown slots most c
  newly_up most first = record {
    kept = first.kept;
    stands = λ log f sound same still within. stands_empty log f sound (first.fits log) (first.journaled f still within) same;
    leaves = λ log sound. still_left shown c log (new_noted most) (new_stands most first log sound) refl;
    is_new = λ past. ap (λ (q : Parts). seen_client past q (new_free slots)) empty.parts ∙ first.is_new past slots;
  }

module _ {D : Type 0} {g : _} (told : DiskTold) (shown : D → DiskShown) (disk : D) (slots : ℕ) where
  back_by : (log : List Entry) (id : Id16) (k : Kept) (f : Free) (result : Up D g) → IsSoundLog log → f.slots ≡ slots → EmptyIfUp slots result → RisenAgain shown log id k f (risen_of result)
      → BackOrDown shown log id k f result
  back_by log id k f (up.Ready c) sound same empty again = is_back shown slots c empty log id k f sound same again
  back_by log id k f (up.Refused back (fault.NotJournal place)) sound same empty again = absurd again
  back_by log id k f (up.Refused back fault.DiskFault) sound same empty again = again
  back_by log id k f (up.Refused back fault.NamesFault) sound same empty again = absurd again
  back_by log id k f (up.Refused back fault.NoMemory) sound same empty again = again

  pub up_again : (result : Up D g) → EmptyIfUp slots result → RisesAgain told shown disk (risen_of result) → ComesBack told shown disk slots result
  up_again result empty rises = λ tells log id k f sound down same. back_by log id k f result sound same empty (rises tells log id k f sound down)

  new_by : (most : ℕ) (result : Up D g) → EmptyIfUp slots result → RisenFirst shown most (risen_of result) → NewlyUpOrNot shown slots most result
  new_by most (up.Ready c) empty first = newly_up shown slots c empty most first
  new_by most (up.Refused back (fault.NotJournal place)) empty first = absurd first
  new_by most (up.Refused back fault.DiskFault) empty first = tt
  new_by most (up.Refused back fault.NamesFault) empty first = tt
  new_by most (up.Refused back fault.NoMemory) empty first = tt

  pub up_first : (result : Up D g) → EmptyIfUp slots result → RisesFirst told shown disk (risen_of result) → ComesNew told shown disk slots result
  up_first result empty rises = λ tells most loads. new_by most result empty (rises tells most loads)

-- ---- down

pub leaves_down : {D : Type 0} {g : _} (shown : D → DiskShown) (c : Client D g) (disk : D) → disk ≡ log_disk c.ledger.log → LeavesDown shown c disk
leaves_down shown c disk same = λ log f stands fits. record {
  is_down = subst (λ (d : _). IsDown (shown d) log c.id c.ledger.databases.kept f) (sym same) (left_is_down shown c log f stands fits);
  crashes = λ moment. refl;
}
