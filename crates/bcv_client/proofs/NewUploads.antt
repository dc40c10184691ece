-- An upload that starts, or is refused.
use Rattle.std.proofs.Common.{◌≡◌, ◌≢◌, ◌∙◌, ◌≤◌, ◌-◌, ◌==◌, ℕ, zero, suc, Bool, true, false, cond, List, [], ◌∷◌, length, length-drop, length-take, map, take, drop, Option, Some, None, Result, Ok, Err, is_none, is_some, inr, unwrap_or, refl, sym, ap, subst, arith}
use Rattle.std.specs.List.{AllByRecursion, list_all}
use Rattle.std.specs.Option.{option_map}
use Rattle.std.proofs.lemmas.Bool.{eq-eqb, eqb-false, ne_eqb}
use Rattle.std.proofs.lemmas.List.{take_all}
use Rattle.std.proofs.lemmas.Option.{same_Some}
use Rattle.bcv_base.specs.declared.id.Id16.{Id16}
use Rattle.bcv_base.specs.declared.log.Entry.{Entry}
use Rattle.bcv_base.specs.declared.manifest.DbEntry.{DbEntry}
use Rattle.bcv_base.specs.declared.names.Draw.TheVariants as draw
use Rattle.bcv_base.specs.declared.seen.TxnBase.{TxnBase}
use Rattle.bcv_base.specs.Drawn.{Draws, NamesShown}
use Rattle.bcv_base.specs.History.{history_of}
use Rattle.bcv_base.specs.Image.{Writes, or_else}
use Rattle.bcv_base.specs.Keyed.{keyed}
use Rattle.bcv_base.specs.ManifestRules.{MeetsEntryRules, blocks_needed}
use Rattle.bcv_base.specs.SizeLimits.{most_blocks}
use Rattle.bcv_base.specs.Views.{is_commit, view_size}
use Rattle.bcv_clientlaws.specs.Forms.{NeedsFewBlocks}
use Rattle.bcv_clientlaws.specs.Starts.{IsUploadOver, with_new_task}
use Rattle.bcv_clientlaws.proofs.DatabaseForms.{found_in_form}
use Rattle.bcv_clientlaws.proofs.TaskStarts.{new_upload_fits, refuses_upload, upload_starts}
use Rattle.bcv_clientstate.specs.Fits.{TakesFrom}
use Rattle.bcv_clientstate.specs.PartRefusals.{PartView, known_part, local_part, part_view, runs_publication}
use Rattle.bcv_clientstate.specs.Parts as parts
use Rattle.bcv_clientstate.specs.Parts.{Parts}
use Rattle.bcv_clientstate.specs.SeenClient.{Free, seen_up, side_of}
use Rattle.bcv_clientstate.specs.SeenKept.{seen_kept}
use Rattle.bcv_clientstate.proofs.PartRefusals.{map_len}
use Rattle.bcv_clientstate.proofs.StartRefusals.{upload_is_over}
use Rattle.bcv_clientstate.specs.StartRefusals.{asked_over, kind_reasons, runs_all, start_reason}
use Rattle.bcv_databases.specs.Catalog.{Catalog, View, found_at, known_name, known_view, local_view, set_at}
use Rattle.bcv_databases.specs.Sound.{AreDatabases}
use Rattle.bcv_databases.specs.declared.database_view.CommitsAt.{CommitsAt}
use Rattle.bcv_databases.specs.declared.known.Known.{Known}
use Rattle.bcv_dbmap.proofs.Keys.{keyed_key}
use Rattle.bcv_dbmap.specs.Past.{has_version}
use Rattle.bcv_disk.specs.DiskShown.{DiskShown}
use Rattle.bcv_ledger.specs.declared.ledger.Ledger.{Ledger}
use Rattle.bcv_machine.specs.Refusals.{first_reason, has_none}
use Rattle.bcv_machine.specs.Starting.{Starts, upload_of}
use Rattle.bcv_machine.specs.State as m
use Rattle.bcv_model.specs.declared.ask.Commit.{Commit}
use Rattle.bcv_model.specs.declared.kept.Local.{Local}
use Rattle.bcv_model.specs.declared.kept.PendingPub.{PendingPub}
use Rattle.bcv_model.specs.declared.reply.Reply.{Reply}
use Rattle.bcv_model.specs.declared.reply.Reply.TheVariants as reply
use Rattle.bcv_model.specs.Commits.{writes_of}
use Rattle.bcv_model.specs.Notes.{kept_name}
use Rattle.bcv_pages.specs.Held.{CanView, Held, view_of}
use Rattle.bcv_tasks.specs.declared.publish_task.PublishTask.TheVariants as task
use Rattle.bcv_tasks.specs.State.{pending_of}
use Rattle.bcv_transaction.specs.Open.{base_view}
use Rattle.bcv_upload.specs.BlockText.{IsViewOf}
use Rattle.bcv_upload.specs.State.{needed, size_in, view_in}
use Rattle.bcv_upload.specs.State as upload
use Rattle.bcv_client.specs.ClientForm.{HasSize, JobInForm, PendingFor}
use Rattle.bcv_client.specs.ClientParts.{entries_of, no_set, parts_of, sets_in}
use Rattle.bcv_client.specs.Events.{StandsOver}
use Rattle.bcv_client.specs.InForm.{InForm}
use Rattle.bcv_client.specs.NewTasks.{DrawsUnless, DrewNone, IsTask, IsUnmoved, StartsDrawn, StartsPublication, left_in, reason_with}
use Rattle.bcv_client.specs.NewUploads.{IsNewUpload, commits_reason, upload_job, upload_reason_by, upload_refusal, upload_job_with, view_upload, view_upload_job}
use Rattle.bcv_client.specs.TaskStarts.{StartsTask}
use Rattle.bcv_client.specs.TxnBegins.{HasCommits, base_over, base_with, part_at}
use Rattle.bcv_client.specs.declared.client.Client.{Client}
use Rattle.bcv_client.specs.declared.job.Job.{Job}
use Rattle.bcv_client.specs.declared.job.Job.TheVariants as job
use Rattle.bcv_client.proofs.PublicationsStart.{Drew, TaskLaws, drew, not_full, not_started, reason_is, started}
use Rattle.bcv_client.proofs.ReadsSaw.{new_saw}
use Rattle.bcv_client.proofs.SameParts.{locally_still}
use Rattle.bcv_client.proofs.TasksStart.{Laws}
use Rattle.bcv_client.proofs.TxnBegins.{IsLocalView, base_fits, base_is_block, base_named, base_rules, base_seen, local_found, local_set, with_commits}

-- ---- when it is refused

-- the commits of a view are as many as its numbers say
view_len : (h : Held) (from to : ℕ) → CanView h from to → length (view_of h from to) ≡ to - from
view_len h from to can = omega (arith, length-take (to - from) (drop (from - h.forgotten) h.kept), length-drop (from - h.forgotten) h.kept, can.kept, can.order, can.there)

none_by_len : (ws : List Writes) (from to : ℕ) → from ≤ to → length ws ≡ to - from → (from == to) ≡ has_none ws
none_by_len [] from to order len = eq-eqb from to (omega (arith, order, len))
none_by_len (w ∷ ws) from to order len = ne_eqb from to (λ same. let e : suc (length ws) ≡ 0 = len ∙ omega (arith, same) in absurd (cc))

module _ {D : Type 0} {g : _} (x : Client D g) (db : List ℕ) (are : AreDatabases x.ledger.databases) where
  abbrev c : Catalog
  c = x.ledger.databases

  abbrev p : Parts
  p = parts_of x

  part_by : (a : Option Local) (b : Option Known) → keyed kept_name db c.kept.locals ≡ a → keyed known_name db c.known ≡ b
      → part_view p db ≡ or_else (option_map local_part a) (option_map known_part b)
  part_by a b is_a is_b =
      ap (λ (o : Option Local). or_else (option_map local_part o) (option_map known_part (keyed known_name db c.known))) is_a
      ∙ ap (λ (o : Option Known). or_else (option_map local_part a) (option_map known_part o)) is_b

  reasons_by : (n : ℕ) (ws : List Writes) (a : Option Local) (b : Option Known) → keyed kept_name db c.kept.locals ≡ a → keyed known_name db c.known ≡ b
      → first_reason (kind_reasons p (m.Uploading db n ws)) ≡ first_reason ((is_none (or_else (option_map local_part a) (option_map known_part b)), reply.NoDatabase) ∷ (has_none ws, reply.Nothing) ∷ [])
  reasons_by n ws a b is_a is_b = ap (λ (o : Option PartView). first_reason ((is_none o, reply.NoDatabase) ∷ (has_none ws, reply.Nothing) ∷ [])) (part_by a b is_a is_b)

  reason_by : (a : Option Local) (b : Option Known) → keyed kept_name db c.kept.locals ≡ a → keyed known_name db c.known ≡ b
      → upload_reason_by (or_else (option_map (local_view c) a) (option_map known_view b)) ≡ first_reason (kind_reasons p (asked_over db a))
  reason_by (Some l) b is_a is_b =
      let s = local_set c db l are is_a in
      let none : (s.at.from == s.at.to) ≡ has_none (map writes_of l.commits) =
      none_by_len (map writes_of l.commits) s.at.from s.at.to s.can.order (ap (λ (ws : List Writes). length ws) (sym s.commits) ∙ view_len s.held s.at.from s.at.to s.can) in
      ap commits_reason s.commits_are ∙ ap (λ (q : Bool). cond q (Some reply.Nothing) None) none
      ∙ sym (reasons_by l.number (map writes_of l.commits) (Some l) b is_a is_b)
  reason_by None (Some k) is_a is_b = sym (reasons_by 0 [] None (Some k) is_a is_b)
  reason_by None None is_a is_b = sym (reasons_by 0 [] None None is_a is_b)

  -- the reason against it is the machine's
  pub upload_reason_is : upload_reason_by (found_at c db) ≡ first_reason (kind_reasons p (asked_over db (keyed kept_name db c.kept.locals)))
  upload_reason_is = reason_by (keyed kept_name db c.kept.locals) (keyed known_name db c.known) refl refl

-- ---- the task

few_view : (block page_size pages : ℕ) (cs : List Commit) → blocks_needed block page_size pages ≤ most_blocks → AllByRecursion (NeedsFewBlocks block page_size) cs
    → blocks_needed block page_size (view_size pages (map writes_of cs)) ≤ most_blocks
few_view block page_size pages [] few all = few
few_view block page_size pages (c ∷ cs) few all = few_view block page_size c.size cs all.0 all.1

entry_few : (block : ℕ) (e : DbEntry) → MeetsEntryRules block e → blocks_needed block e.page_size e.pages ≤ most_blocks
entry_few block e rules = subst (λ (n : ℕ). n ≤ most_blocks) rules.blocks rules.few

module _ {D : Type 0} {g : _} (x : Client D g) (db : List ℕ) (v : View) (at : CommitsAt) (base : TxnBase) (h : Held) (form : InForm x) (are : AreDatabases x.ledger.databases)
    (found : found_at x.ledger.databases db ≡ Some v) (some : v.commits ≡ Some at) (base_is : base ≡ base_over v) (h_is : set_at x.ledger.databases.sets at.set ≡ Some h) where
  abbrev xc : Catalog
  xc = x.ledger.databases

  has : HasCommits xc base at.set
  has = with_commits xc db v are at found some base base_is

  base_at : base ≡ base_with v (Some at)
  base_at = base_is ∙ ap (base_with v) some

  held_is : has.held ≡ h
  held_is = same_Some has.held h (sym has.is_held ∙ h_is)

  pub upload_base : upload.IsBase base
  upload_base = record { block = base_is_block x base has.known form; entry = base_rules x base has.known form }

  pub upload_view : CanView h base.from base.to
  upload_view = subst (λ (k : Held). CanView k base.from base.to) held_is has.can

  pub view_at : CanView h at.from at.to
  view_at = subst (λ (b : TxnBase). CanView h b.from b.to) base_at upload_view

  pub upload_page_size : h.page_size ≡ base.entry.page_size
  upload_page_size = ap (λ (k : Held). k.page_size) (sym held_is) ∙ has.page_size

  abbrev there : IsLocalView xc db v are
  there = local_found xc db v are at found some

  abbrev l : Local
  l = there.local

  entry_is : base.entry ≡ l.entry
  entry_is = ap (λ (b : TxnBase). b.entry) base_at ∙ ap (λ (w : View). w.entry) there.view_is

  name_is : base.entry.name ≡ db
  name_is = base_named xc db v are found base base_is

  part_is : has.known.part ≡ local_part l
  part_is =
      same_Some has.known.part (local_part l)
      (sym has.known.is_part ∙ ap (part_at xc) name_is ∙ ap (λ (o : Option Local). or_else (option_map local_part o) (option_map known_part (keyed known_name db xc.known))) there.is_local)

  view_is : view_in h base ≡ map writes_of l.commits
  view_is = ap (λ (k : Held). base_view k base) (sym held_is) ∙ has.commits ∙ ap (λ (w : PartView). w.commits) part_is

  pub upload_few : needed base (size_in h base) ≤ most_blocks
  upload_few =
      let sized : HasSize (Some base.block) xc x.txns.cache = subst (λ (n : Option ℕ). HasSize n xc x.txns.cache) (base_seen x base has.known form) form.size in
      let few : AllByRecursion (NeedsFewBlocks base.block l.entry.page_size) l.commits = (found_in_form base.block xc.kept xc.known db l sized.1 there.is_local).1 in
      let fits : AllByRecursion (NeedsFewBlocks base.block base.entry.page_size) l.commits = subst (λ (e : DbEntry). AllByRecursion (NeedsFewBlocks base.block e.page_size) l.commits) (sym entry_is) few in
      subst (λ (ws : List Writes). blocks_needed base.block base.entry.page_size (view_size base.entry.pages ws) ≤ most_blocks) (sym view_is)
      (few_view base.block base.entry.page_size base.entry.pages l.commits (entry_few base.block base.entry (base_rules x base has.known form)) fits)

  set_is : sets_in xc at.set ≡ h
  set_is = ap (λ (o : Option Held). unwrap_or o no_set) h_is

  -- what is uploaded
  upload_state : (id : Id16) (s : upload.State) → s ≡ view_upload h base x.id id → s ≡ view_upload (sets_in xc at.set) base x.id id
  upload_state id s is = is ∙ ap (λ (k : Held). view_upload k base x.id id) (sym set_is)

  job_over : (id : Id16) (s : upload.State) → s ≡ view_upload h base x.id id → job.Publish at.set (at.to - at.from) (task.Upload id s) ≡ view_upload_job xc x.id base at.set id
  job_over id s is =
      ap (λ (z : upload.State). job.Publish at.set (at.to - at.from) (task.Upload id z)) (upload_state id s is)
      ∙ ap (λ (b : TxnBase). job.Publish at.set (b.to - b.from) (task.Upload id (view_upload (sets_in xc at.set) base x.id id))) (sym base_at)

  pub upload_job_is : (id : Id16) (s : upload.State) → s ≡ view_upload h base x.id id → job.Publish at.set (at.to - at.from) (task.Upload id s) ≡ upload_job xc x.id (found_at xc db) id
  upload_job_is id s is =
      job_over id s is ∙ ap (λ (b : TxnBase). view_upload_job xc x.id b at.set id) base_at ∙ ap (λ (o : Option CommitsAt). upload_job_with xc x.id v o id) (sym some)
      ∙ ap (λ (o : Option View). upload_job xc x.id o id) (sym found)

  pub new_upload_is : (id : Id16) (s : upload.State) → upload_reason_by (found_at xc db) ≡ None → s ≡ view_upload h base x.id id → upload.IsRunning s
      → list_all (is_commit h.page_size) (view_of h at.from at.to) ≡ true → IsNewUpload xc x.id db id (job.Publish at.set (at.to - at.from) (task.Upload id s))
  new_upload_is id s free is runs commits =
      let reason : commits_reason (Some at) ≡ None = ap commits_reason (sym some) ∙ ap upload_reason_by (sym found) ∙ free in
      let apart : (at.from == at.to) ≡ false = not_same (at.from == at.to) reason in
      let len : length l.commits ≡ at.to - at.from =
      sym (map_len writes_of l.commits) ∙ ap (λ (ws : List Writes). length ws) (sym view_is) ∙ ap (λ (b : TxnBase). length (view_in h b)) base_at ∙ view_len h at.from at.to view_at in
      let order = view_at.order in
      let other : at.from ≢ at.to = eqb-false at.from at.to apart in
      record {
        base = base;
        set = at.set;
        job_is = job_over id s is;
        has = has;
        local = l;
        is_local = there.is_local;
        entry = entry_is;
        number = ap (λ (b : TxnBase). b.number) base_at ∙ ap (λ (w : View). w.number) there.view_is;
        block = ap (λ (b : TxnBase). b.block) base_at ∙ ap (λ (w : View). w.block) there.view_is;
        view = ap (λ (k : Held). view_in k base) set_is ∙ view_is;
        some = above (length l.commits) at.from at.to order len other;
        commits =
            subst (λ (ws : List Writes). list_all (is_commit base.entry.page_size) ws ≡ true) view_is
            (subst (λ (n : ℕ). list_all (is_commit n) (view_in h base) ≡ true) upload_page_size
            (subst (λ (b : TxnBase). list_all (is_commit h.page_size) (view_in h b) ≡ true) (sym base_at) commits));
        running = subst upload.IsRunning (upload_state id s is) runs;
      }
    where
      not_same : (q : Bool) → cond q (Some reply.Nothing) None ≡ None → q ≡ false
      not_same true e = absurd (let some_is : Some reply.Nothing ≡ None = e in cc)
      not_same false e = refl

      above : (n from to : ℕ) → from ≤ to → n ≡ to - from → from ≢ to → 1 ≤ n
      above zero from to order is other = absurd (other (omega (arith, order, is)))
      above (suc n) from to order is other = omega arith

-- ---- the form

module _ {D : Type 0} {g : _} (x : Client D g) (db : List ℕ) (id : Id16) (j : Job) (form : InForm x) (new : IsNewUpload x.ledger.databases x.id db id j) where
  abbrev xf : Catalog
  xf = x.ledger.databases

  abbrev s : upload.State
  s = view_upload (sets_in xf new.set) new.base x.id id

  in_set : sets_in xf new.set ≡ new.has.held
  in_set = ap (λ (o : Option Held). unwrap_or o no_set) new.has.is_held

  upload_form : x.ledger.databases.kept.pending ≡ None → JobInForm x.seen xf x.txns (view_upload_job xf x.id new.base new.set id)
  upload_form none = record {
    running = (refl, new.running);
    waits =
        subst (λ (o : Option PendingPub). PendingFor o (pending_of (new.base.to - new.base.from) (task.Upload id s)) []) (sym none) tt;
    again = tt;
    upload = record {
      local = new.local;
      is_local = ap (λ (n : List ℕ). keyed kept_name n xf.kept.locals) (ap (λ (e : DbEntry). e.name) new.entry ∙ keyed_key kept_name db xf.kept.locals new.local new.is_local) ∙ new.is_local;
      size = ap (λ (e : DbEntry). e.page_size) new.entry;
    };
    view = record {
      held = new.has.held;
      is_held = new.has.is_held;
      view = record {
        can = new.has.can;
        page_size = new.has.page_size;
        of_view = subst (λ (k : Held). IsViewOf new.base (view_in k new.base) s.size s.touched) in_set (record { size_is = refl; touched_are = refl });
      };
      size = base_seen x new.base new.has.known form;
      count = refl;
    };
  }

  pub new_upload_in_form : x.ledger.databases.kept.pending ≡ None → JobInForm x.seen xf x.txns j
  new_upload_in_form none = subst (JobInForm x.seen xf x.txns) (sym new.job_is) (upload_form none)

-- ---- the machine

module _ {D : Type 0} {g : _} (shown : D → DiskShown) (old mid new : Client D g) (before after : NamesShown) (db : List ℕ) (id : Id16) where
  abbrev q : Parts
  q = parts_of old

  abbrev d : Catalog
  d = old.ledger.databases

  abbrev why : Option Reply
  why = upload_refusal old db

  abbrev make : Id16 → Job
  make i = upload_job d old.id (found_at d db) i

  abbrev Goes : Reply → Id16 → m.Side → m.Up → m.Side → Type 0
  Goes r i s u t = Starts s u (upload_of s.client.kept db) i r t

  module _ (form : InForm old) (is : IsNewUpload d old.id db id (make id)) (drawn : Drew shown old before why make Goes mid after id) where
    abbrev held : Held
    held = sets_in d is.set

    abbrev view : List Writes
    view = view_in held is.base

    abbrev state : upload.State
    state = view_upload held is.base old.id id

    abbrev its : Local
    its = is.local

    of_view : IsViewOf is.base view state.size state.touched
    of_view = record { size_is = refl; touched_are = refl }

    over : IsUploadOver its is.base state.size state.touched
    over = record {
      entry = is.entry;
      number = is.number;
      block = is.block;
      of_view = subst (λ (ws : List Writes). IsViewOf is.base ws state.size state.touched) is.view of_view;
    }

    free : start_reason q (asked_over db (Some its)) ≡ None
    free = ap (λ (o : Option Local). start_reason q (asked_over db o)) (sym is.is_local) ∙ ap (start_reason q) (sym (upload_is_over q db)) ∙ drawn.free

    named : is.base.entry.name ≡ db
    named = ap (λ (e : DbEntry). e.name) is.entry ∙ keyed_key kept_name db d.kept.locals its is.is_local

    takes : TakesFrom q.kept is.base.entry.name is.base.number view
    takes = record {
      local = its;
      is_local = ap (λ (n : List ℕ). keyed kept_name n d.kept.locals) named ∙ is.is_local;
      base = sym is.number;
      first = ap (λ (ws : List Writes). take (length view) ws) (sym is.view) ∙ take_all (length view) view (omega arith);
      some = subst (λ (n : ℕ). 1 ≤ n) (sym (ap (λ (ws : List Writes). length ws) is.view ∙ map_len writes_of its.commits)) is.some;
    }

    laws_over : (moment : ℕ) (log : List Entry) (f : Free) → StandsOver shown old log f → has_version (history_of log) id ≡ false
        → Laws shown old new (view_upload_job d old.id is.base is.set id) (left_in (view_upload_job d old.id is.base is.set id)) (λ (x : Reply). Goes x id) moment log f
    laws_over moment log f stands fresh = record {
      starts = λ n few least.
          subst (λ (ws : List Writes). Starts (side_of moment (history_of log) q f) (seen_up (history_of log) q) (upload_of (seen_kept q.kept) db) id (reply.Task n (upload.left_of state))
          (side_of moment (history_of log) (with_new_task n (parts.Uploading state ws) q) f)) (sym is.view)
          (upload_starts moment log (entries_of old) q f db its is.base state.size state.touched n id stands.sound stands.fits is.is_local over free least drawn.is_id fresh);
      full = λ all. absurd (not_full shown old before why make Goes mid drawn.same drawn.can all);
      fits = λ n.
          new_upload_fits log q (entries_of old) n is.base view state.size state.touched id stands.fits is.running drawn.is_id fresh of_view
          (subst (λ (ws : List Writes). list_all (is_commit is.base.entry.page_size) ws ≡ true) (sym is.view) is.commits) (base_fits old is.base is.has.known form shown log f stands) takes;
      saw = new_saw (history_of log);
    }

    pub upload_laws : TaskLaws shown old before why make Goes new id
    upload_laws moment log f stands fresh =
        subst (λ (j : Job). Laws shown old new j (left_in j) (λ (x : Reply). Goes x id) moment log f) (sym is.job_is) (laws_over moment log f stands fresh)

-- ---- as the call ends

none_own : (closed pending busy : Bool) (own : Option Reply) (all : Bool) → reason_with closed pending busy own all ≡ None → own ≡ None
none_own true pending busy own all e = absurd (let is : Some reply.Closed ≡ None = e in cc)
none_own false true busy own all e = absurd (let is : Some reply.Pending ≡ None = e in cc)
none_own false false true own all e = absurd (let is : Some reply.Busy ≡ None = e in cc)
none_own false false false (Some r) all e = absurd (let is : Some r ≡ None = e in cc)
none_own false false false None all e = refl

drew_upload : (c : Catalog) (writer : Id16) (o : Option View) (before after : NamesShown) (id : Id16) → upload_reason_by o ≡ None → Draws before after (draw.Drawn id)
    → DrewNone (upload_job c writer o id) before after id
drew_upload c writer None before after id free draws = absurd (let e : Some reply.NoDatabase ≡ None = free in cc)
drew_upload c writer (Some v) before after id free draws = by v.commits free
  where
    by : (x : Option CommitsAt) → commits_reason x ≡ None → DrewNone (upload_job_with c writer v x id) before after id
    by None none = absurd (let e : Some reply.Nothing ≡ None = none in cc)
    by (Some at) none = inr draws

module _ {D : Type 0} {g : _} (shown : D → DiskShown) (old mid : Client D g) (before after : NamesShown) (db : List ℕ) (own : Option Reply) (own_is : own ≡ upload_reason_by (found_at old.ledger.databases db))
    (are : AreDatabases old.ledger.databases) where
  abbrev o : Parts
  o = parts_of old

  abbrev test : Option Reply
  test = reason_with o.closed (is_some o.kept.pending) (runs_publication o) own (runs_all o)

  abbrev asked : m.Kind
  asked = asked_over db (keyed kept_name db old.ledger.databases.kept.locals)

  abbrev makes : Id16 → Job
  makes i = upload_job old.ledger.databases old.id (found_at old.ledger.databases db) i

  abbrev Going : Reply → Id16 → m.Side → m.Up → m.Side → Type 0
  Going r i s u t = Starts s u (upload_of s.client.kept db) i r t

  draws_upload : (x : Result Id16 Reply) → DrawsUnless old mid before after test x → DrawsUnless old mid before after (upload_refusal old db) x
  draws_upload x d =
      subst (λ (w : Option Reply). DrawsUnless old mid before after w x)
      (ap (λ (w : Option Reply). reason_with o.closed (is_some o.kept.pending) (runs_publication o) w (runs_all o)) (own_is ∙ upload_reason_is old db are) ∙ sym (reason_is o asked) ∙ ap (start_reason o) (sym (upload_is_over o db))) d

  pub refused_upload : (x : Result Id16 Reply) (r : Reply) → x ≡ Err r → DrawsUnless old mid before after test x
      → StartsPublication shown (λ id s u t. Starts s u (upload_of s.client.kept db) id r t) old mid before after (upload_refusal old db) makes r
  refused_upload x r err d =
      not_started shown old before (upload_refusal old db) makes Going mid after
      (λ moment log f id y why. refuses_upload moment (history_of log) o f db id y (ap (start_reason o) (sym (upload_is_over o db)) ∙ why)) r
      (subst (λ (y : Result Id16 Reply). DrawsUnless old mid before after (upload_refusal old db) y) err (draws_upload x d))

  pub drew_for_upload : (x : Result Id16 Reply) (id : Id16) → x ≡ Ok id → DrawsUnless old mid before after test x → Drew shown old before (upload_refusal old db) makes Going mid after id
  drew_for_upload x id ok d =
      drew shown old before (upload_refusal old db) makes Going mid after id
      (subst (λ (y : Result Id16 Reply). DrawsUnless old mid before after (upload_refusal old db) y) ok (draws_upload x d))

  -- nothing speaks against the upload alone
  pub upload_free : (x : Result Id16 Reply) (id : Id16) → x ≡ Ok id → DrawsUnless old mid before after test x → own ≡ None
  upload_free x id ok d = by test refl (subst (λ (y : Result Id16 Reply). DrawsUnless old mid before after test y) ok d)
    where
      by : (w : Option Reply) → test ≡ w → DrawsUnless old mid before after w (Ok id) → own ≡ None
      by (Some reason) is e = absurd e
      by None is e = none_own o.closed (is_some o.kept.pending) (runs_publication o) own (runs_all o) is

  pub no_memory_for_upload : (x : Result Id16 Reply) (id : Id16) → x ≡ Ok id → DrawsUnless old mid before after test x
      → StartsPublication shown (λ i s u t. Starts s u (upload_of s.client.kept db) i reply.NoMemory t) old mid before after (upload_refusal old db) makes reply.NoMemory
  no_memory_for_upload x id ok d =
      let drawn = drew_for_upload x id ok d in
      record {
        id = id;
        starts =
            subst (λ (w : Option Reply). StartsDrawn old mid before after id (makes id) w reply.NoMemory) (sym drawn.free)
            (drawn.same, drew_upload old.ledger.databases old.id (found_at old.ledger.databases db) before after id (sym own_is ∙ upload_free x id ok d) drawn.draws);
        steps = λ moment log f stands fresh. locally_still shown (Going reply.NoMemory id) old mid moment log f reply.NoMemory drawn.same stands (λ some. absurd (some tt));
      }

  pub upload_started : (new : Client D g) (x : Result Id16 Reply) (id : Id16) (j : Job) (left : ℕ) (r : Reply) → x ≡ Ok id → DrawsUnless old mid before after test x → InForm old
      → j ≡ makes id → IsNewUpload old.ledger.databases old.id db id j → left ≡ left_in j → StartsTask mid new j left r → IsTask r
      → StartsPublication shown (λ i s u t. Starts s u (upload_of s.client.kept db) i r t) old new before after (upload_refusal old db) makes r
  upload_started new x id j left r ok d form job_is is left_is starts ends =
      let drawn = drew_for_upload x id ok d in
      let here : IsNewUpload old.ledger.databases old.id db id (makes id) = subst (IsNewUpload old.ledger.databases old.id db id) job_is is in
      let with_left : StartsTask mid new j (left_in j) r = subst (λ (n : ℕ). StartsTask mid new j n r) left_is starts in
      started shown old before (upload_refusal old db) makes Going mid new after id r drawn (subst (λ (z : Job). StartsTask mid new z (left_in z) r) job_is with_left) ends
      (upload_laws shown old mid new before after db id form here drawn)

-- an upload of a client that did not move is one of the client before
pub upload_unmoved : {D : Type 0} {g : _} (old mid : Client D g) (db : List ℕ) (id : Id16) (j : Job) → IsUnmoved old mid → IsNewUpload mid.ledger.databases mid.id db id j
    → IsNewUpload old.ledger.databases old.id db id j
upload_unmoved {D = D} {g = g} old mid db id j same is =
    subst (λ (i : Id16). IsNewUpload old.ledger.databases i db id j) same.only.id (subst (λ (l : Ledger D g). IsNewUpload l.databases mid.id db id j) same.only.ledger is)

pub job_unmoved : {D : Type 0} {g : _} (old mid : Client D g) (db : List ℕ) (id : Id16) (j : Job) → IsUnmoved old mid → j ≡ upload_job mid.ledger.databases mid.id (found_at mid.ledger.databases db) id
    → j ≡ upload_job old.ledger.databases old.id (found_at old.ledger.databases db) id
job_unmoved {D = D} {g = g} old mid db id j same is =
    is ∙ ap (λ (l : Ledger D g). upload_job l.databases mid.id (found_at l.databases db) id) same.only.ledger
    ∙ ap (λ (i : Id16). upload_job old.ledger.databases i (found_at old.ledger.databases db) id) same.only.id

-- ---- what is there

-- where nothing speaks against an upload, the database is known, has commits, and their set is there
pub view_there : (c : Catalog) (db : List ℕ) → upload_reason_by (found_at c db) ≡ None → found_at c db ≡ None → ⊥
view_there c db free none = (let e : Some reply.NoDatabase ≡ None = ap upload_reason_by (sym none) ∙ free in cc)

pub commits_there : (c : Catalog) (db : List ℕ) (v : View) → upload_reason_by (found_at c db) ≡ None → found_at c db ≡ Some v → v.commits ≡ None → ⊥
commits_there c db v free found none = (let e : Some reply.Nothing ≡ None = ap commits_reason (sym none) ∙ ap upload_reason_by (sym found) ∙ free in cc)

pub pages_there : (c : Catalog) (db : List ℕ) (v : View) → AreDatabases c → (at : CommitsAt) → found_at c db ≡ Some v → v.commits ≡ Some at → set_at c.sets at.set ≡ None → ⊥
pages_there c db v are at found some none =
    (let has = with_commits c db v are at found some (base_over v) refl in let both : None ≡ Some has.held = sym none ∙ has.is_held in cc)

pub reason_unmoved : {D : Type 0} {g : _} (old mid : Client D g) (db : List ℕ) → IsUnmoved old mid → upload_reason_by (found_at old.ledger.databases db) ≡ None
    → upload_reason_by (found_at mid.ledger.databases db) ≡ None
reason_unmoved {D = D} {g = g} old mid db same free = ap (λ (l : Ledger D g). upload_reason_by (found_at l.databases db)) same.only.ledger ∙ free
