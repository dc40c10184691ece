-- A client stays in form under a revert, while no task publishes.
use Rattle.std.proofs.Common.{◌≡◌, ◌∙◌, ℕ, Bool, true, false, List, [], ◌∷◌, Option, Some, None, sym, ap, subst}
use Rattle.std.specs.List.{AllByRecursion, list_any}
use Rattle.std.proofs.lemmas.Bool.{or_parts}
use Rattle.bcv_base.specs.declared.seen.Seen.{Seen}
use Rattle.bcv_base.specs.Keyed.{keyed, with_keyed}
use Rattle.bcv_cache.specs.Entry.{Blocks}
use Rattle.bcv_clientlaws.specs.Different.{AtMostOne}
use Rattle.bcv_clientlaws.specs.Forms.{AreInForm, KnownInForm}
use Rattle.bcv_clientlaws.proofs.DatabaseForms.{found_in_form, notes_keep_form}
use Rattle.bcv_databases.specs.Catalog.{Catalog, known_name}
use Rattle.bcv_databases.specs.Changes.{base_of}
use Rattle.bcv_dbmap.proofs.Keys.{all_with}
use Rattle.bcv_model.specs.declared.kept.Kept.{Kept}
use Rattle.bcv_model.specs.declared.kept.Local.{Local}
use Rattle.bcv_model.specs.declared.note.Note.TheVariants as note
use Rattle.bcv_model.specs.Notes.{after_note, kept_name}
use Rattle.bcv_pages.specs.Held.{Held}
use Rattle.bcv_slots.specs.declared.Slot.{Slot}
use Rattle.bcv_transaction.specs.Open.{Open}
use Rattle.bcv_client.specs.ClientForm.{HasSize, IsInForm, JobInForm}
use Rattle.bcv_client.specs.NewTasks.{is_busy}
use Rattle.bcv_client.specs.declared.job.Job.{Job}
use Rattle.bcv_client.specs.declared.job.Job.TheVariants as job
use Rattle.bcv_client.proofs.SetViews.{KeepsJob, KeepsSlot, KeepsTxn, all_read_still, tasks_same}

-- ---- tasks that publish nothing

quiet_keeps : (old new : List (Option Held)) (j : Job) → is_busy j ≡ false → KeepsJob old new j
quiet_keeps old new (job.Fetch access txn page) quiet = tt
quiet_keeps old new job.Poll quiet = tt
quiet_keeps old new (job.Publish set taken t) quiet = absurd (let both : true ≡ false = quiet in cc)
quiet_keeps old new job.Resolve quiet = tt

quiet_form : (s t : Seen) (c d : Catalog) (o : Open) (j : Job) → is_busy j ≡ false → JobInForm s c o j → JobInForm t d o j
quiet_form s t c d o (job.Fetch access txn page) quiet form = form
quiet_form s t c d o job.Poll quiet form = tt
quiet_form s t c d o (job.Publish set taken x) quiet form = absurd (let both : true ≡ false = quiet in cc)
quiet_form s t c d o job.Resolve quiet form = absurd (let both : true ≡ false = quiet in cc)

abbrev busy : Slot Job → Bool
busy s = is_busy s.item

pub quiet_slots : (old new : List (Option Held)) (ss : List (Slot Job)) → list_any busy ss ≡ false → AllByRecursion (KeepsSlot old new) ss
quiet_slots old new [] quiet = tt
quiet_slots old new (s ∷ ss) quiet =
    let q = or_parts (busy s) (list_any busy ss) quiet in (quiet_keeps old new s.item q.0, quiet_slots old new ss q.1)

quiet_forms : (s t : Seen) (c d : Catalog) (o : Open) (ss : List (Slot Job)) → list_any busy ss ≡ false → AllByRecursion (λ (x : Slot Job). JobInForm s c o x.item) ss
    → AllByRecursion (λ (x : Slot Job). JobInForm t d o x.item) ss
quiet_forms s t c d o [] quiet all = tt
quiet_forms s t c d o (x ∷ ss) quiet all =
    let q = or_parts (busy x) (list_any busy ss) quiet in (quiet_form s t c d o x.item q.0 all.0, quiet_forms s t c d o ss q.1 all.1)

-- where the databases and what was seen change in any way that leaves the transactions their views
pub quiet_changes : (s t : Seen) (c d : Catalog) (o : Open) (ss : List (Slot Job)) → IsInForm s c o ss → list_any busy ss ≡ false → AllByRecursion (KeepsTxn c.sets d.sets) o.txns
    → HasSize t.block d o.cache → IsInForm t d o ss
quiet_changes s t c d o ss form quiet keeps size = record {
  size = size;
  txns = all_read_still c.sets d.sets o.txns form.txns keeps;
  tasks_are = record {
    few = form.tasks_are.few;
    differ = form.tasks_are.differ;
    single = subst AtMostOne (sym (tasks_same c d s o ss form.tasks_are.each (quiet_slots c.sets d.sets ss quiet))) form.tasks_are.single;
    each = quiet_forms s t c d o ss quiet form.tasks_are.each;
  };
}

pub quiet_stays : (seen : Seen) (c d : Catalog) (o : Open) (ss : List (Slot Job)) → IsInForm seen c o ss → list_any busy ss ≡ false → AllByRecursion (KeepsTxn c.sets d.sets) o.txns
    → HasSize seen.block d o.cache → IsInForm seen d o ss
quiet_stays seen c d o ss form quiet keeps size = quiet_changes seen seen c d o ss form quiet keeps size

-- ---- the block size

pub size_reverted : (size : Option ℕ) (c d : Catalog) (blocks : Option Blocks) (db : List ℕ) (l : Local) → keyed kept_name db c.kept.locals ≡ Some l → HasSize size c blocks
    → d.kept ≡ after_note c.kept (note.Revert db) → d.known ≡ with_keyed known_name (base_of l) c.known → HasSize size d blocks
size_reverted None c d blocks db l is has kept knows =
    absurd (let e : None ≡ Some l = sym (ap (λ (ls : List Local). keyed kept_name db ls) has.0) ∙ is in cc)
size_reverted (Some b) c d blocks db l is has kept knows =
    let noted : AreInForm b (after_note c.kept (note.Revert db)) c.known = notes_keep_form b c.kept c.known (note.Revert db) has.1 tt in
    let are : AreInForm b (after_note c.kept (note.Revert db)) (with_keyed known_name (base_of l) c.known) =
    record {
      locals = noted.locals;
      known = all_with known_name (KnownInForm b) (base_of l) c.known (found_in_form b c.kept c.known db l has.1 is).0 noted.known;
      pending = noted.pending;
    } in
    (has.0, subst (λ (k : Kept). AreInForm b k d.known) (sym kept) (subst (AreInForm b (after_note c.kept (note.Revert db))) (sym knows) are), has.2)

pub size_as_before : (size : Option ℕ) (c d : Catalog) (blocks : Option Blocks) → HasSize size c blocks → d.kept ≡ c.kept → d.known ≡ c.known → HasSize size d blocks
size_as_before None c d blocks has kept knows = (ap (λ (k : Kept). k.locals) kept ∙ has.0, knows ∙ has.1, has.2)
size_as_before (Some b) c d blocks has kept knows =
    (has.0, subst (λ (k : Kept). AreInForm b k d.known) (sym kept) (subst (AreInForm b c.kept) (sym knows) has.1), has.2)
