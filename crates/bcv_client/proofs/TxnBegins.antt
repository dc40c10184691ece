-- A transaction that begins: the client stays in form, and it is an event of the machine.
use Rattle.std.proofs.Common.{◌≡◌, ◌∙◌, ◌++◌, ℕ, eqb, Bool, true, false, cond, nat_le, List, [], ◌∷◌, length, Option, Some, None, IfSome, MatchOption, is_none, is_some, option_and_then, unwrap_or, refl, sym, ap, subst, inl, inr, arith}
use Rattle.std.specs.List.{AllByRecursion, list_all}
use Rattle.std.specs.Option.{option_map}
use Rattle.std.proofs.lemmas.Bool.{cases_eq, eqb-true}
use Rattle.std.proofs.lemmas.Option.{same_Some}
use Rattle.bcv_base.specs.declared.log.Entry.{Entry as LogEntry}
use Rattle.bcv_base.specs.declared.manifest.DbEntry.{DbEntry}
use Rattle.bcv_base.specs.declared.seen.Seen.{Seen}
use Rattle.bcv_base.specs.declared.seen.TxnBase.{TxnBase}
use Rattle.bcv_base.specs.History.{Item, history_of}
use Rattle.bcv_base.specs.Image.{Writes, or_else}
use Rattle.bcv_base.specs.Keyed.{keyed}
use Rattle.bcv_base.specs.ManifestRules.{Ascends, MeetsEntryRules, is_block_size}
use Rattle.bcv_base.specs.Views.{is_commit}
use Rattle.bcv_cache.specs.Entry.{Blocks}
use Rattle.bcv_clientlaws.specs.Different.{with_txns}
use Rattle.bcv_clientlaws.proofs.DatabaseForms.{found_in_form, found_known_in_form}
use Rattle.bcv_clientlog.specs.LogParts.{is_shut, is_waiting}
use Rattle.bcv_clientstate.specs.Fits.{Fits, FitsTxn}
use Rattle.bcv_clientstate.specs.Journaled.{Journaled}
use Rattle.bcv_clientstate.specs.PartRefusals.{PartView, begin_reason, known_part, local_part, seen_view}
use Rattle.bcv_clientstate.specs.Parts.{Parts}
use Rattle.bcv_clientstate.specs.SeenClient.{Free, seen_up, side_of}
use Rattle.bcv_clientstate.specs.SeenContainer.{HasBase}
use Rattle.bcv_clientstate.specs.SeenKept.{seen_kept}
use Rattle.bcv_clientstate.proofs.PartRefusals.{begin_is_refused, map_len, view_has_base, view_is_view}
use Rattle.bcv_databases.specs.Catalog.{Catalog, View, commits_of, found_at, known_name, known_view, local_view, set_at, use_name, writes_in}
use Rattle.bcv_databases.specs.Changes.{Trims, least_of, needed_from, trimmed, use_of}
use Rattle.bcv_databases.specs.Slots.{OpensSet, empty_set}
use Rattle.bcv_databases.specs.Sound.{AreDatabases, CanUpload, HasSet, IsSame, KeepsViews}
use Rattle.bcv_databases.specs.declared.database_view.CommitsAt.{CommitsAt}
use Rattle.bcv_databases.specs.declared.known.Known.{Known}
use Rattle.bcv_databases.specs.declared.set_use.SetUse.{SetUse}
use Rattle.bcv_dbmap.proofs.Keys.{above_found, before_other, by_test, key_same, keyed_here, keyed_key, keyed_there}
use Rattle.bcv_disk.specs.DiskShown.{DiskShown}
use Rattle.bcv_ledger.specs.LedgerNotes.{parts_in}
use Rattle.bcv_ledger.specs.declared.ledger.Ledger.{Ledger}
use Rattle.bcv_machine.specs.Reading as reading
use Rattle.bcv_machine.specs.Refusals.{UnlessRefused}
use Rattle.bcv_machine.specs.State as m
use Rattle.bcv_machine.specs.State.{Side, Up, with_up}
use Rattle.bcv_model.specs.declared.kept.Kept.{Kept}
use Rattle.bcv_model.specs.declared.kept.Local.{Local}
use Rattle.bcv_model.specs.declared.reply.Reply.{Reply}
use Rattle.bcv_model.specs.declared.reply.Reply.TheVariants as reply
use Rattle.bcv_model.specs.Notes.{kept_name}
use Rattle.bcv_pages.specs.Held.{CanView, Held, last_of, view_of}
use Rattle.bcv_slots.specs.declared.Slot.{Slot}
use Rattle.bcv_transaction.specs.declared.answers.Begun.{Begun}
use Rattle.bcv_transaction.specs.declared.answers.Begun.TheVariants as begun
use Rattle.bcv_transaction.specs.declared.open_txn.OpenTxn.{OpenTxn}
use Rattle.bcv_transaction.specs.FitLaws.{FitsBase}
use Rattle.bcv_transaction.specs.MachineCalls.{AreFit, BeginsAs, IsKnownBase, StandsFor, open_part, open_parts, side_with}
use Rattle.bcv_transaction.specs.Open.{AreOpen, Open, base_view, is_numbered, txn_at}
use Rattle.bcv_transaction.specs.OpenCalls.{Begins, begun_txn, cache_made, with_cache}
use Rattle.bcv_transaction.proofs.FitLaws.{calls_leave_fit}
use Rattle.bcv_client.specs.ClientForm.{FetchInForm, HasSize, IsInForm, IsPageOf, JobInForm, ReadsSet}
use Rattle.bcv_client.specs.ClientParts.{entries_of, no_set, parts_of, sets_in}
use Rattle.bcv_client.specs.Events.{Locally, LocallyOver, StandsOver, client_side, client_up}
use Rattle.bcv_client.specs.InForm.{InForm}
use Rattle.bcv_client.specs.Transactions.{OnlyTxns}
use Rattle.bcv_client.specs.TxnBegins.{BeginsAt, BeginsNone, BegunOver, HasCommits, HasNoCommits, IsKnownEntry, OnlyBegins, base_over, base_with, begun_reply, part_at}
use Rattle.bcv_client.specs.declared.client.Client.{Client}
use Rattle.bcv_client.specs.declared.job.Job.{Job}
use Rattle.bcv_client.specs.declared.job.Job.TheVariants as job
use Rattle.bcv_client.proofs.FirstReasons.{same_views}
use Rattle.bcv_client.proofs.FormKept.{form_stays}
use Rattle.bcv_client.proofs.LedgerParts.{ledger_alone, ledger_same}
use Rattle.bcv_client.proofs.RevertForm.{size_as_before}
use Rattle.bcv_client.proofs.SetViews.{keeps_slots, keeps_txns}
use Rattle.bcv_client.proofs.TxnStands.{are_fit, parts_other, side_other, stands_for, stands_other}

-- ---- more transactions

found_more : (k : ℕ) (ts us : List OpenTxn) (t : OpenTxn) → txn_at k ts ≡ Some t → txn_at k (ts ++ us) ≡ Some t
found_more k [] us t is = absurd (let e : None ≡ Some t = is in cc)
found_more k (x ∷ xs) us t is =
    elim (is_numbered k x) as (λ (b : Bool). cond b (Some x) (txn_at k xs) ≡ Some t → cond b (Some x) (txn_at k (xs ++ us)) ≡ Some t) [
      | true ↦ λ e. e
      | false ↦ λ e. found_more k xs us t e
    ] is

-- each transaction is still open
abbrev StillOpen : Open → Open → Type 0
StillOpen o n = (k : ℕ) (t : OpenTxn) → txn_at k o.txns ≡ Some t → txn_at k n.txns ≡ Some t

fetch_still : (o n : Open) → StillOpen o n → (k page : ℕ) → FetchInForm o k page → FetchInForm n k page
fetch_still o n still k page is = by (txn_at k o.txns) refl is
  where
    by : (x : Option OpenTxn) → txn_at k o.txns ≡ x → MatchOption x ⊥ (IsPageOf page) → FetchInForm n k page
    by None found none = absurd none
    by (Some t) found there = subst (λ (y : Option OpenTxn). MatchOption y ⊥ (IsPageOf page)) (sym (still k t found)) there

job_still : (seen : Seen) (c : Catalog) (o n : Open) → StillOpen o n → (j : Job) → JobInForm seen c o j → JobInForm seen c n j
job_still seen c o n still (job.Fetch access txn page) is = fetch_still o n still txn page is
job_still seen c o n still job.Poll is = is
job_still seen c o n still (job.Publish set taken t) is = is
job_still seen c o n still job.Resolve is = is

jobs_still : (seen : Seen) (c : Catalog) (o n : Open) → StillOpen o n → (ss : List (Slot Job)) → AllByRecursion (λ (s : Slot Job). JobInForm seen c o s.item) ss
    → AllByRecursion (λ (s : Slot Job). JobInForm seen c n s.item) ss
jobs_still seen c o n still [] all = tt
jobs_still seen c o n still (s ∷ ss) all = (job_still seen c o n still s.item all.0, jobs_still seen c o n still ss all.1)

-- with others open, it is in form where its cache is and they read sets
with_open : (seen : Seen) (c : Catalog) (o n : Open) (ss : List (Slot Job)) → IsInForm seen c o ss → StillOpen o n → HasSize seen.block c n.cache → AllByRecursion (ReadsSet c.sets) n.txns
    → IsInForm seen c n ss
with_open seen c o n ss form still size txns = record {
  size = size;
  txns = txns;
  tasks_are = record {
    few = form.tasks_are.few;
    differ = form.tasks_are.differ;
    single = form.tasks_are.single;
    each = jobs_still seen c o n still ss form.tasks_are.each;
  };
}

-- ---- the base

-- a known database has the block size that was seen, and its entry meets the rules
record MeetsForm (seen : Option ℕ) (block : ℕ) (e : DbEntry) : Type 0 where
  seen_is : seen ≡ Some block
  is_block : is_block_size block ≡ true
  entry : MeetsEntryRules block e

meets_form : (seen : Option ℕ) (c : Catalog) (x : Option Blocks) (db : List ℕ) (v : PartView) → HasSize seen c x
    → or_else (option_map local_part (keyed kept_name db c.kept.locals)) (option_map known_part (keyed known_name db c.known)) ≡ Some v → MeetsForm seen v.block v.entry
meets_form None c x db v has is =
    absurd (let e : None ≡ Some v = sym (ap (λ (ls : List Local). or_else (option_map local_part (keyed kept_name db ls)) (option_map known_part (keyed known_name db c.known))) has.0
    ∙ ap (λ (ks : List Known). or_else None (option_map known_part (keyed known_name db ks))) has.1) ∙ is in cc)
meets_form (Some b) c x db v has is = by (keyed kept_name db c.kept.locals) (keyed known_name db c.known) refl refl is
  where
    at : (block : ℕ) (e : DbEntry) → block ≡ b → MeetsEntryRules b e → MeetsForm (Some b) block e
    at block e same rules = record {
      seen_is = ap Some (sym same);
      is_block = subst (λ (n : ℕ). is_block_size n ≡ true) (sym same) has.0;
      entry = subst (λ (n : ℕ). MeetsEntryRules n e) (sym same) rules;
    }

    by : (p : Option Local) (q : Option Known) → keyed kept_name db c.kept.locals ≡ p → keyed known_name db c.known ≡ q → or_else (option_map local_part p) (option_map known_part q) ≡ Some v
        → MeetsForm (Some b) v.block v.entry
    by (Some l) q is_p is_q e =
        let form = found_in_form b c.kept c.known db l has.1 is_p in
        subst (λ (w : PartView). MeetsForm (Some b) w.block w.entry) (same_Some (local_part l) v e) (at l.block l.entry form.0.0 form.0.1)
    by None (Some k) is_p is_q e =
        let form = found_known_in_form b c.kept c.known db k has.1 is_q in
        subst (λ (w : PartView). MeetsForm (Some b) w.block w.entry) (same_Some (known_part k) v e) (at k.block k.entry form.0 form.1)
    by None None is_p is_q e = absurd (let none : None ≡ Some v = e in cc)

module _ {D : Type 0} {g : _} (c : Client D g) (base : TxnBase) (known : IsKnownEntry c.ledger.databases base) (form : InForm c) where
  base_form : MeetsForm c.seen.block base.block base.entry
  base_form =
      subst (λ (n : ℕ). MeetsForm c.seen.block n base.entry) (sym known.block)
      (subst (MeetsForm c.seen.block known.part.block) (sym known.entry) (meets_form c.seen.block c.ledger.databases c.txns.cache base.entry.name known.part form.size known.is_part))

  pub base_rules : MeetsEntryRules base.block base.entry
  base_rules = base_form.entry

  pub base_is_block : is_block_size base.block ≡ true
  base_is_block = base_form.is_block

  pub base_seen : c.seen.block ≡ Some base.block
  base_seen = base_form.seen_is

  -- the cache has blocks of its size
  pub same_block : IfSome c.txns.cache (λ (x : Blocks). x.block ≡ base.block)
  same_block =
      let has : HasSize (Some base.block) c.ledger.databases c.txns.cache =
      subst (λ (n : Option ℕ). HasSize n c.ledger.databases c.txns.cache) base_seen form.size in has.2

  pub base_fits : (shown : D → DiskShown) (log : List LogEntry) (f : Free) → StandsOver shown c log f → HasBase (history_of log) base.number base.block base.entry
  base_fits shown log f stands =
      let past : List Item = history_of log in
      let there : HasBase past known.part.number known.part.block known.part.entry = (view_has_base (parts_of c) (entries_of c) log base.entry.name known.part stands.fits known.is_part).base in
      subst (λ (n : ℕ). HasBase past n base.block base.entry) (sym known.number)
      (subst (λ (n : ℕ). HasBase past known.part.number n base.entry) (sym known.block) (subst (HasBase past known.part.number known.part.block) (sym known.entry) there))

-- ---- begin

slots_begun : (o n : Open) (base : TxnBase) (set : ℕ) (held : Held) (b : Begun) → Begins o base set held b n → n.slots ≡ o.slots
slots_begun o n base set held (begun.Number k) is = ap (λ (x : Open). x.slots) is.2
slots_begun o n base set held begun.TooMany is = ap (λ (x : Open). x.slots) is.1
slots_begun o n base set held begun.NoMemory is = is.2

-- a cache of the base's blocks
size_made : (seen : Option ℕ) (c : Catalog) (slots block : ℕ) (x : Option Blocks) → seen ≡ Some block → HasSize seen c x → HasSize seen c (Some (cache_made slots block x))
size_made None c slots block x is has = absurd (let e : None ≡ Some block = is in cc)
size_made (Some b) c slots block x is has = (has.0, has.1, by x has.2)
  where
    by : (y : Option Blocks) → IfSome y (λ (z : Blocks). z.block ≡ b) → (cache_made slots block y).block ≡ b
    by None none = sym (same_Some b block is)
    by (Some z) same = same

size_by : (seen : Option ℕ) (c : Catalog) (slots block : ℕ) (x : Option Blocks) → seen ≡ Some block → HasSize seen c (Some (cache_made slots block x)) → HasSize seen c x
size_by None c slots block x is has = absurd (let e : None ≡ Some block = is in cc)
size_by (Some b) c slots block None is has = (has.0, has.1, tt)
size_by (Some b) c slots block (Some y) is has = has

reads_more : (sets : List (Option Held)) (ts : List OpenTxn) (t : OpenTxn) → AllByRecursion (ReadsSet sets) ts → ReadsSet sets t → AllByRecursion (ReadsSet sets) (ts ++ t ∷ [])
reads_more sets [] t all one = (one, tt)
reads_more sets (x ∷ xs) t all one = (all.0, reads_more sets xs t all.1 one)

form_begun : (seen : Seen) (c : Catalog) (o n : Open) (ss : List (Slot Job)) (base : TxnBase) (set : ℕ) (held : Held) (b : Begun) → IsInForm seen c o ss → seen.block ≡ Some base.block
    → set_at c.sets set ≡ Some held → CanView held base.from base.to → Begins o base set held b n → IsInForm seen c n ss
form_begun seen c o n ss base set held (begun.Number k) form block at can is =
    let t : OpenTxn = record { number = k; set = set; txn = begun_txn base held } in
    let m : Open = record (with_cache base.block o) { txns = o.txns ++ t ∷ [] } in
    subst (λ (x : Open). IsInForm seen c x ss) (sym is.2)
    (with_open seen c o m ss form (λ j u found. found_more j o.txns (t ∷ []) u found) (size_made seen.block c o.slots base.block o.cache block form.size)
    (reads_more c.sets o.txns t form.txns (record { held = held; is_held = at; can = can; size = refl })))
form_begun seen c o n ss base set held begun.TooMany form block at can is = subst (λ (x : Open). IsInForm seen c x ss) (sym is.1) form
form_begun seen c o n ss base set held begun.NoMemory form block at can is =
    with_open seen c o n ss form (λ j u found. ap (txn_at j) is.1 ∙ found)
    (size_by seen.block c o.slots base.block n.cache block
    (subst (λ (x : Blocks). HasSize seen.block c (Some x)) (sym is.3) (size_made seen.block c o.slots base.block o.cache block form.size)))
    (subst (AllByRecursion (ReadsSet c.sets)) (sym is.1) form.txns)

module _ {D : Type 0} {g : _} (old new : Client D g) (base : TxnBase) (set : ℕ) (b : Begun) (form : InForm old) (has : HasCommits old.ledger.databases base set) (only : OnlyTxns old new) where
  abbrev c : Catalog
  c = old.ledger.databases

  set_is : sets_in c set ≡ has.held
  set_is = ap (λ (x : Option Held). unwrap_or x no_set) has.is_held

  pub form_over : Begins old.txns base set has.held b new.txns → InForm new
  form_over begins =
      let there : IsInForm old.seen c new.txns old.tasks.items =
      form_begun old.seen c old.txns new.txns old.tasks.items base set has.held b form (base_seen old base has.known form) has.is_held has.can begins in
      subst (λ (s : Seen). IsInForm s new.ledger.databases new.txns new.tasks.items) (sym only.reading.seen)
      (subst (λ (l : Ledger D g). IsInForm old.seen l.databases new.txns new.tasks.items) (sym only.reading.ledger)
      (subst (λ (ts : _). IsInForm old.seen c new.txns ts.items) (sym only.tasks) there))

  view_is : (past : List Item) → m.view_of (seen_kept old.ledger.databases.kept) (seen_up past (parts_of old)) base.entry.name ≡ Some (record { base = base.number; commits = base_view has.held base })
  view_is past =
      view_is_view past (parts_of old) base.entry.name ∙ ap (option_map seen_view) has.known.is_part
      ∙ ap (λ (n : ℕ). Some (record { base = n; commits = has.known.part.commits })) (sym has.known.number)
      ∙ ap (λ (ws : List Writes). Some (record { base = base.number; commits = ws })) (sym has.commits)

  pub begun_over : (shown : D → DiskShown) → AreOpen new.txns → list_all (is_commit has.held.page_size) (base_view has.held base) ≡ true → Begins old.txns base set has.held b new.txns
      → ((past : List Item) (sets : ℕ → Held) (s : Side) (u : Up) → StandsFor past sets old.txns s u → sets set ≡ has.held → IsKnownBase past s u base has.held
      → BeginsAs s u base.entry.name b (side_with past sets s u new.txns.txns))
      → BegunOver shown old new base.entry.name b
  begun_over shown opened commits begins machine = λ moment log f stands.
      let past : List Item = history_of log in
      let sets : ℕ → Held = sets_in c in
      let s = client_side moment log old f in
      let u = client_up log old in
      let there : HasBase past base.number base.block base.entry = base_fits old base has.known form shown log f stands in
      let fits : FitsBase past base has.held = record { base_is = there; commits = subst (λ (n : ℕ). list_all (is_commit n) (base_view has.held base) ≡ true) has.page_size commits } in
      let fit = calls_leave_fit.begins past sets old.txns new.txns base set has.held b (are_fit shown old moment log f stands) opened set_is fits begins in
      let known : IsKnownBase past s u base has.held = record { container = refl; base_is = there; view = view_is past } in
      let goes = machine past sets s u (stands_for shown old moment log f stands form) set_is known in
      record {
        stands = stands_other old new only shown log f stands (slots_begun old.txns new.txns base set has.held b begins) fit;
        begins = subst (λ (t : Side). BeginsAs s u base.entry.name b t) (side_other old new only moment log f) goes;
      }

module _ {D : Type 0} {g : _} (old new : Client D g) (base : TxnBase) (set : ℕ) (b : Begun) (form : InForm old) (has : HasCommits old.ledger.databases base set) (only : OnlyTxns old new)
    (h : Held) (at : set_at old.ledger.databases.sets set ≡ Some h) (begins : Begins old.txns base set h b new.txns) where
  held_same : has.held ≡ h
  held_same = same_Some has.held h (sym has.is_held ∙ at)

  begins_held : Begins old.txns base set has.held b new.txns
  begins_held = subst (λ (k : Held). Begins old.txns base set k b new.txns) (sym held_same) begins

  pub form_of_begun : InForm new
  form_of_begun = form_over old new base set b form has only begins_held

  pub begun_of : (shown : D → DiskShown) → AreOpen new.txns → list_all (is_commit h.page_size) (base_view h base) ≡ true
      → ((past : List Item) (sets : ℕ → Held) (s : Side) (u : Up) → StandsFor past sets old.txns s u → sets set ≡ h → IsKnownBase past s u base h
      → BeginsAs s u base.entry.name b (side_with past sets s u new.txns.txns))
      → BegunOver shown old new base.entry.name b
  begun_of shown opened commits machine =
      begun_over old new base set b form has only shown opened (subst (λ (k : Held). list_all (is_commit k.page_size) (base_view k base) ≡ true) (sym held_same) commits) begins_held
      (subst (λ (k : Held). (past : List Item) (sets : ℕ → Held) (s : Side) (u : Up) → StandsFor past sets old.txns s u → sets set ≡ k → IsKnownBase past s u base k
      → BeginsAs s u base.entry.name b (side_with past sets s u new.txns.txns)) (sym held_same) machine)

-- ---- in the machine's words

begun_goes : {D : Type 0} {g : _} (old new : Client D g) (db : List ℕ) (b : Begun) (moment : ℕ) (log : List LogEntry) (f : Free) (shown : D → DiskShown) → BeginsAt shown old new db b moment log f
    → LocallyOver shown (λ s u t. reading.Begins s u db (begun_reply b) t) old new moment log f (begun_reply b)
begun_goes old new db (begun.Number n) moment log f shown at = record { stands = at.stands; goes = record { event = λ some. at.begins; still = λ none. absurd none } }
begun_goes old new db begun.TooMany moment log f shown at = record { stands = at.stands; goes = record { event = λ some. at.begins; still = λ none. absurd none } }
begun_goes old new db begun.NoMemory moment log f shown at = record { stands = at.stands; goes = record { event = λ some. absurd (some tt); still = λ none. at.begins } }

pub begins_locally : {D : Type 0} {g : _} (shown : D → DiskShown) (old new : Client D g) (name db : List ℕ) (b : Begun) (r : Reply) → name ≡ db → r ≡ begun_reply b → BegunOver shown old new name b
    → Locally shown (λ s u t. reading.Begins s u db r t) old new r
begins_locally shown old new name db b r same is over = λ moment log f stands.
    subst (λ (x : Reply). LocallyOver shown (λ s u t. reading.Begins s u db x t) old new moment log f x) (sym is)
    (begun_goes old new db b moment log f shown (subst (λ (n : List ℕ). BeginsAt shown old new n b moment log f) same (over moment log f stands)))

pub named_locally : {D : Type 0} {g : _} (shown : D → DiskShown) (old new : Client D g) (name db : List ℕ) (r : Reply) → name ≡ db → Locally shown (λ s u t. reading.Begins s u name r t) old new r
    → Locally shown (λ s u t. reading.Begins s u db r t) old new r
named_locally shown old new name db r same goes = subst (λ (n : List ℕ). Locally shown (λ s u t. reading.Begins s u n r t) old new r) same goes

-- with the sets as they were
pub begins_only : {D : Type 0} {g : _} (old new : Client D g) → OnlyTxns old new → OnlyBegins old new
begins_only {D = D} {g = g} old new only = record {
  id = only.reading.id;
  log = ap (λ (l : Ledger D g). l.log) only.reading.ledger;
  databases = subst (λ (l : Ledger D g). IsSame old.ledger.databases l.databases) (sym only.reading.ledger) (record {
    kept = refl;
    known = refl;
    views = same_views old.ledger.databases.sets;
  });
  seen = only.reading.seen;
  latest = only.reading.latest;
  tasks = only.tasks;
  taken = only.reading.taken;
}

-- a begin that is refused
module _ {D : Type 0} {g : _} (shown : D → DiskShown) (c : Client D g) (db : List ℕ) where
  refused : (why : Reply) → begin_reason (parts_of c) db ≡ Some why → Locally shown (λ s u t. reading.Begins s u db why t) c c why
  refused why is = λ moment log f stands.
      let s = client_side moment log c f in
      let u = client_up log c in
      record {
        stands = stands;
        goes = record {
          event = λ some. subst (λ (o : Option Reply). UnlessRefused o (with_up s u) why s (reading.OpensAs s u db why s)) (sym (begin_is_refused (history_of log) (parts_of c) db ∙ is)) (refl, refl);
          still = λ none. refl;
        };
      }

  -- no database is found in memory where there is none
  none_by : (p : Option Local) (q : Option Known) → or_else (option_map (local_view c.ledger.databases) p) (option_map known_view q) ≡ None → is_none (or_else (option_map local_part p) (option_map known_part q)) ≡ true
  none_by (Some l) q is = absurd (cc)
  none_by None (Some k) is = absurd (cc)
  none_by None None is = refl

  some_by : (v : View) (p : Option Local) (q : Option Known) → or_else (option_map (local_view c.ledger.databases) p) (option_map known_view q) ≡ Some v
      → is_none (or_else (option_map local_part p) (option_map known_part q)) ≡ false
  some_by v (Some l) q is = refl
  some_by v None (Some k) is = refl
  some_by v None None is = absurd (let e : None ≡ Some v = is in cc)

  pub unknown_begins : found_at c.ledger.databases db ≡ None → Locally shown (λ s u t. reading.Begins s u db reply.NoDatabase t) c c reply.NoDatabase
  unknown_begins is =
      refused reply.NoDatabase
      (ap (λ (b : Bool). cond b (Some reply.NoDatabase) (cond (nat_le 64 (length (parts_of c).txns)) (Some reply.TooMany) None))
      (none_by (keyed kept_name db c.ledger.databases.kept.locals) (keyed known_name db c.ledger.databases.known) is))

  pub full_begins : (v : View) → found_at c.ledger.databases db ≡ Some v → nat_le 64 (length c.txns.txns) ≡ true → Locally shown (λ s u t. reading.Begins s u db reply.TooMany t) c c reply.TooMany
  full_begins v is full =
      refused reply.TooMany
      (ap (λ (b : Bool). cond b (Some reply.NoDatabase) (cond (nat_le 64 (length (parts_of c).txns)) (Some reply.TooMany) None))
      (some_by v (keyed kept_name db c.ledger.databases.kept.locals) (keyed known_name db c.ledger.databases.known) is)
      ∙ ap (λ (n : ℕ). cond (nat_le 64 n) (Some reply.TooMany) None) (map_len (open_part (sets_in c.ledger.databases)) c.txns.txns)
      ∙ ap (λ (b : Bool). cond b (Some reply.TooMany) None) full)

  -- without memory nothing happens
  pub still_here : (Goes : m.Side → m.Up → m.Side → Type 0) → Locally shown Goes c c reply.NoMemory
  still_here Goes = λ moment log f stands. record { stands = stands; goes = record { event = λ some. absurd (some tt); still = λ none. refl } }

-- ---- the view of a database

-- the set that a database with commits has
pub record LocalSet (d : Catalog) (l : Local) : Type 0 where
  pub at : CommitsAt
  pub commits_are : (local_view d l).commits ≡ Some at
  pub held : Held
  pub is_held : set_at d.sets at.set ≡ Some held
  pub page_size : held.page_size ≡ l.entry.page_size
  pub can : CanView held at.from at.to
  pub commits : view_of held at.from at.to ≡ writes_in l

pub local_set : (d : Catalog) (db : List ℕ) (l : Local) → AreDatabases d → keyed kept_name db d.kept.locals ≡ Some l → LocalSet d l
local_set d db l are found = by (keyed use_name db d.uses) refl (subst (λ (o : Option Local). HasSet d.sets o (keyed use_name db d.uses)) found (are.held db))
  where
    by : (o : Option SetUse) → keyed use_name db d.uses ≡ o → HasSet d.sets (Some l) o → LocalSet d l
    by None used has = absurd has
    by (Some u) used has = record {
      at = record { set = u.set; from = u.from; to = last_of has.0 };
      commits_are =
          ap (λ (n : List ℕ). option_and_then (commits_of d.sets) (keyed use_name n d.uses)) (keyed_key kept_name db d.kept.locals l found) ∙ ap (option_and_then (commits_of d.sets)) used
          ∙ ap (option_map (λ (h : Held). record { set = u.set; from = u.from; to = last_of h })) has.1;
      held = has.0;
      is_held = has.1;
      page_size = has.2.size;
      can = has.2.view;
      commits = has.2.commits;
    }

module _ (d : Catalog) (db : List ℕ) (v : View) (are : AreDatabases d) where
  -- a database with commits, and its set
  record OverLocal : Type 0 where
    at : CommitsAt
    commits_are : v.commits ≡ Some at
    has : HasCommits d (base_with v (Some at)) at.set

  over_local : (l : Local) → keyed kept_name db d.kept.locals ≡ Some l → v ≡ local_view d l → OverLocal
  over_local l found is =
      let s : LocalSet d l = local_set d db l are found in
      let name : l.entry.name ≡ db = keyed_key kept_name db d.kept.locals l found in
      let here : HasCommits d (base_with (local_view d l) (Some s.at)) s.at.set = record {
        known = record {
          part = local_part l;
          is_part = ap (part_at d) name ∙ ap (λ (o : Option Local). or_else (option_map local_part o) (option_map known_part (keyed known_name db d.known))) found;
          entry = refl;
          number = refl;
          block = refl;
        };
        held = s.held;
        is_held = s.is_held;
        page_size = s.page_size;
        can = s.can;
        commits = s.commits;
      } in
      record { at = s.at; commits_are = ap (λ (x : View). x.commits) is ∙ s.commits_are; has = subst (λ (x : View). HasCommits d (base_with x (Some s.at)) s.at.set) (sym is) here }

  over_known : (k : Known) → keyed kept_name db d.kept.locals ≡ None → keyed known_name db d.known ≡ Some k → v ≡ known_view k → (v.commits ≡ None) × HasNoCommits d (base_with v None)
  over_known k none found is =
      let name : k.entry.name ≡ db = keyed_key known_name db d.known k found in
      let here : HasNoCommits d (base_with (known_view k) None) = record {
        known = record {
          part = known_part k;
          is_part = ap (part_at d) name ∙ ap (λ (o : Option Local). or_else (option_map local_part o) (option_map known_part (keyed known_name db d.known))) none
              ∙ ap (option_map known_part) found;
          entry = refl;
          number = refl;
          block = refl;
        };
        none = refl;
        from = refl;
        to = refl;
      } in
      (ap (λ (x : View). x.commits) is, subst (λ (x : View). HasNoCommits d (base_with x None)) (sym is) here)

  named_by : (p : Option Local) (q : Option Known) → keyed kept_name db d.kept.locals ≡ p → keyed known_name db d.known ≡ q → or_else (option_map (local_view d) p) (option_map known_view q) ≡ Some v
      → v.entry.name ≡ db
  named_by (Some l) q is_p is_q e = ap (λ (x : View). x.entry.name) (sym (same_Some (local_view d l) v e)) ∙ keyed_key kept_name db d.kept.locals l is_p
  named_by None (Some k) is_p is_q e = ap (λ (x : View). x.entry.name) (sym (same_Some (known_view k) v e)) ∙ keyed_key known_name db d.known k is_q
  named_by None None is_p is_q e = absurd (let none : None ≡ Some v = e in cc)

  -- it has the name that was looked for
  view_named : found_at d db ≡ Some v → v.entry.name ≡ db
  view_named found = named_by (keyed kept_name db d.kept.locals) (keyed known_name db d.known) refl refl found

  pub base_named : found_at d db ≡ Some v → (base : TxnBase) → base ≡ base_over v → base.entry.name ≡ db
  base_named found base is = by v.commits is ∙ view_named found
    where
      by : (o : Option CommitsAt) → base ≡ base_with v o → base.entry.name ≡ v.entry.name
      by None e = ap (λ (x : TxnBase). x.entry.name) e
      by (Some at) e = ap (λ (x : TxnBase). x.entry.name) e

  -- one with commits is among those that are kept
  pub record IsLocalView : Type 0 where
    pub local : Local
    pub is_local : keyed kept_name db d.kept.locals ≡ Some local
    pub view_is : v ≡ local_view d local

  pub local_found : (at : CommitsAt) → found_at d db ≡ Some v → v.commits ≡ Some at → IsLocalView
  local_found at found some = by (keyed kept_name db d.kept.locals) (keyed known_name db d.known) refl refl found
    where
      by : (p : Option Local) (q : Option Known) → keyed kept_name db d.kept.locals ≡ p → keyed known_name db d.known ≡ q → or_else (option_map (local_view d) p) (option_map known_view q) ≡ Some v
          → IsLocalView
      by (Some l) q is_p is_q e = record { local = l; is_local = is_p; view_is = sym (same_Some (local_view d l) v e) }
      by None (Some k) is_p is_q e = absurd (let none : None ≡ Some at = ap (λ (x : View). x.commits) (same_Some (known_view k) v e) ∙ some in cc)
      by None None is_p is_q e = absurd (let none : None ≡ Some v = e in cc)

  pub with_commits : (at : CommitsAt) → found_at d db ≡ Some v → v.commits ≡ Some at → (base : TxnBase) → base ≡ base_over v → HasCommits d base at.set
  with_commits at found some base is = by (keyed kept_name db d.kept.locals) (keyed known_name db d.known) refl refl found
    where
      base_is : base ≡ base_with v (Some at)
      base_is = is ∙ ap (base_with v) some

      by : (p : Option Local) (q : Option Known) → keyed kept_name db d.kept.locals ≡ p → keyed known_name db d.known ≡ q → or_else (option_map (local_view d) p) (option_map known_view q) ≡ Some v
          → HasCommits d base at.set
      by (Some l) q is_p is_q e =
          let over : OverLocal = over_local l is_p (sym (same_Some (local_view d l) v e)) in
          let same : over.at ≡ at = same_Some over.at at (sym over.commits_are ∙ some) in
          subst (λ (x : TxnBase). HasCommits d x at.set) (sym base_is) (subst (λ (a : CommitsAt). HasCommits d (base_with v (Some a)) a.set) same over.has)
      by None (Some k) is_p is_q e = absurd (let none : None ≡ Some at = sym (over_known k is_p is_q (sym (same_Some (known_view k) v e))).0 ∙ some in cc)
      by None None is_p is_q e = absurd (let none : None ≡ Some v = e in cc)

  pub without_commits : found_at d db ≡ Some v → v.commits ≡ None → (base : TxnBase) → base ≡ base_over v → HasNoCommits d base
  without_commits found none base is = by (keyed kept_name db d.kept.locals) (keyed known_name db d.known) refl refl found
    where
      base_is : base ≡ base_with v None
      base_is = is ∙ ap (base_with v) none

      by : (p : Option Local) (q : Option Known) → keyed kept_name db d.kept.locals ≡ p → keyed known_name db d.known ≡ q → or_else (option_map (local_view d) p) (option_map known_view q) ≡ Some v
          → HasNoCommits d base
      by (Some l) q is_p is_q e =
          let over : OverLocal = over_local l is_p (sym (same_Some (local_view d l) v e)) in
          absurd (let both : None ≡ Some over.at = sym none ∙ over.commits_are in cc)
      by None (Some k) is_p is_q e = subst (HasNoCommits d) (sym base_is) (over_known k is_p is_q (sym (same_Some (known_view k) v e))).1
      by None None is_p is_q e = absurd (let no_view : None ≡ Some v = e in cc)

-- ---- a set that is opened

-- a ledger with other databases, which wait for the same publication
abbrev pub with_databases : {D : Type 0} {g : _} (l : Ledger D g) (d : Catalog) → d.kept ≡ l.databases.kept → Ledger D g
with_databases l d kept = record l { databases = d; waits = subst (λ (k : Kept). is_some k.pending ≡ true → is_waiting l.log ≡ true) (sym kept) l.waits }

-- the client with another ledger that keeps the views of its sets, and nothing else has changed
module _ {D : Type 0} {g : _} (old : Client D g) (l : Ledger D g) (log : l.log ≡ old.ledger.log) (same : IsSame old.ledger.databases l.databases) (form : InForm old) where
  abbrev pub mid : Client D g
  mid = record old { ledger = l }

  pub form_mid : InForm mid
  form_mid =
      form_stays old.ledger.databases l.databases old.seen old.txns
      (record {
        pending = ap (λ (k : Kept). k.pending) same.kept;
        uploads = λ u can. subst (λ (k : Kept). CanUpload k.locals u) (sym same.kept) can;
        views = same.views;
      }) old.tasks.items form (size_as_before old.seen.block old.ledger.databases l.databases old.txns.cache form.size same.kept same.known)

  pub parts_mid : parts_of mid ≡ parts_of old
  parts_mid =
      ledger_alone old mid (record { id = refl; seen = refl; latest = refl; txns = refl; tasks = refl }) form (keeps_txns old.ledger.databases.sets l.databases.sets same.views old.txns.txns)
      (keeps_slots old.ledger.databases.sets l.databases.sets same.views old.tasks.items)
      ∙ ledger_same (parts_in l) (parts_of old) (ap is_shut log) same.kept same.known

  pub stands_mid : (shown : D → DiskShown) (lg : List LogEntry) (f : Free) → StandsOver shown old lg f → StandsOver shown mid lg f
  stands_mid shown lg f stands = record {
    sound = stands.sound;
    fits = subst (λ (q : Parts). Fits q (entries_of old) lg) (sym parts_mid) stands.fits;
    saw = stands.saw;
    journaled = subst (λ (x : _). Journaled shown x l.databases.kept f) (sym log) (subst (λ (k : Kept). Journaled shown old.ledger.log k f) (sym same.kept) stands.journaled);
    slots = stands.slots;
  }

  -- what goes on from there
  pub begun_from : (shown : D → DiskShown) (new : Client D g) (db : List ℕ) (b : Begun) → BegunOver shown mid new db b → BegunOver shown old new db b
  begun_from shown new db b over = λ moment lg f stands.
      let at = over moment lg f (stands_mid shown lg f stands) in
      record {
        stands = at.stands;
        begins = subst (λ (q : Parts). BeginsAs (side_of moment (history_of lg) q f) (seen_up (history_of lg) q) db b (client_side moment lg new f)) parts_mid at.begins;
      }

  pub mid_still : (shown : D → DiskShown) (Goes : m.Side → m.Up → m.Side → Type 0) → Locally shown Goes old mid reply.NoMemory
  mid_still shown Goes = λ moment lg f stands.
      record {
        stands = stands_mid shown lg f stands;
        goes = record { event = λ some. absurd (some tt); still = λ none. ap (λ (q : Parts). side_of moment (history_of lg) q f) parts_mid };
      }

-- a new set has no commits, which a database without any is read with
pub opened_has : (c d : Catalog) (base : TxnBase) (set : ℕ) → IsSame c d → OpensSet c d base.entry.page_size set → HasNoCommits c base → HasCommits d base set
opened_has c d base set same opens has =
    let e : Held = empty_set base.entry.page_size in
    let known = has.known in
    record {
      known = record {
        part = known.part;
        is_part =
            ap (λ (k : Kept). or_else (option_map local_part (keyed kept_name base.entry.name k.locals)) (option_map known_part (keyed known_name base.entry.name d.known))) same.kept
            ∙ ap (λ (ks : List Known). or_else (option_map local_part (keyed kept_name base.entry.name c.kept.locals)) (option_map known_part (keyed known_name base.entry.name ks))) same.known
            ∙ known.is_part;
        entry = known.entry;
        number = known.number;
        block = known.block;
      };
      held = e;
      is_held = opens.there;
      page_size = refl;
      can = subst (λ (n : ℕ). CanView e n base.to) (sym has.from) (subst (λ (n : ℕ). CanView e 0 n) (sym has.to) (record { kept = omega arith; order = omega arith; there = omega arith }));
      commits = ap (λ (n : ℕ). view_of e n base.to) has.from ∙ ap (λ (n : ℕ). view_of e 0 n) has.to ∙ sym has.none;
    }

-- ---- a set that is given back

-- the use of a set is found by its name
named_use : (us : List SetUse) (place : ℕ) (u : SetUse) → Ascends use_name us → use_of place us ≡ Some u → (keyed use_name u.name us ≡ Some u) × (u.set ≡ place)
named_use [] place u asc is = absurd (let e : None ≡ Some u = is in cc)
named_use (x ∷ xs) place u asc is =
    by_test (eqb x.set place)
    (λ t.
    let same : x ≡ u = same_Some x u (sym (ap (λ (b : Bool). cond b (Some x) (use_of place xs)) t) ∙ is) in
    subst (λ (y : SetUse). (keyed use_name y.name (x ∷ xs) ≡ Some y) × (y.set ≡ place)) same (keyed_here use_name x.name x xs (key_same x.name), eqb-true x.set place t))
    (λ t.
    let rest = named_use xs place u asc.1 (sym (ap (λ (b : Bool). cond b (Some x) (use_of place xs)) t) ∙ is) in
    (keyed_there use_name u.name x xs (before_other x.name u.name (above_found use_name x.name u.name xs u asc.0 rest.0)) ∙ rest.0, rest.1))

-- nobody uses a place without a set
unused : (c : Catalog) (place : ℕ) → AreDatabases c → set_at c.sets place ≡ None → use_of place c.uses ≡ None
unused c place are free = by (use_of place c.uses) refl
  where
    has_by : (u : SetUse) (p : Option Local) → u.set ≡ place → HasSet c.sets p (Some u) → ⊥
    has_by u None same has = has
    has_by u (Some l) same has = (let both : None ≡ Some has.0 = sym free ∙ ap (set_at c.sets) (sym same) ∙ has.1 in cc)

    by : (o : Option SetUse) → use_of place c.uses ≡ o → use_of place c.uses ≡ None
    by None is = is
    by (Some u) is =
        let found = named_use c.uses place u are.uses_order is in
        absurd (has_by u (keyed kept_name u.name c.kept.locals) found.1 (subst (HasSet c.sets (keyed kept_name u.name c.kept.locals)) found.0 (are.held u.name)))

abbrev needed_by_use : Option SetUse → Option ℕ
needed_by_use o = least_of (option_map (λ (u : SetUse). u.from) o) None

-- what was opened is gone again
pub given_back : (c d e : Catalog) (page_size set : ℕ) → AreDatabases c → OpensSet c d page_size set → d.uses ≡ c.uses → Trims d e set None → (p : ℕ) → set_at e.sets p ≡ set_at c.sets p
given_back c d e page_size set are opens uses trims p = elim (cases_eq p set) [
  | inl same ↦
      let none : needed_from d.uses set None ≡ None =
      ap (λ (us : List SetUse). needed_from us set None) uses ∙ ap needed_by_use (unused c set are opens.free) in
      ap (set_at e.sets) same ∙ trims.there ∙ ap (λ (o : Option ℕ). trimmed o (set_at d.sets set)) none ∙ sym (ap (set_at c.sets) same ∙ opens.free)
  | inr other ↦ trims.others p other ∙ opens.others p other
]

pub same_sets : (c d : Catalog) → ((p : ℕ) → set_at d.sets p ≡ set_at c.sets p) → KeepsViews c.sets d.sets
same_sets c d same place h at = (h, same place ∙ at, (λ from to can. (can, refl)), refl)

-- after a begin over a new set that lacked memory: the set is given back
module _ {D : Type 0} {g : _} (old y : Client D g) (l e : Ledger D g) (base : TxnBase) (set : ℕ) (form : InForm old) (are : AreDatabases old.ledger.databases) (log_opened : l.log ≡ old.ledger.log)
    (opened : IsSame old.ledger.databases l.databases) (uses : l.databases.uses ≡ old.ledger.databases.uses) (opens : OpensSet old.ledger.databases l.databases base.entry.page_size set)
    (only : OnlyTxns (record old { ledger = l }) y) (form_y : InForm y) (none : Begins old.txns base set (sets_in l.databases set) begun.NoMemory y.txns)
    (log : e.log ≡ y.ledger.log) (trims : Trims y.ledger.databases e.databases set None) where
  abbrev after : Client D g
  after = record y { ledger = e }

  log_same : e.log ≡ old.ledger.log
  log_same = log ∙ ap (λ (x : Ledger D g). x.log) only.reading.ledger ∙ log_opened

  pub sets_back : (p : ℕ) → set_at e.databases.sets p ≡ set_at old.ledger.databases.sets p
  sets_back =
      given_back old.ledger.databases l.databases e.databases base.entry.page_size set are opens uses
      (subst (λ (x : Ledger D g). Trims x.databases e.databases set None) only.reading.ledger trims)

  databases_same : IsSame old.ledger.databases e.databases
  databases_same = record {
    kept = trims.kept ∙ ap (λ (x : Ledger D g). x.databases.kept) only.reading.ledger ∙ opened.kept;
    known = trims.known ∙ ap (λ (x : Ledger D g). x.databases.known) only.reading.ledger ∙ opened.known;
    views = same_sets old.ledger.databases e.databases sets_back;
  }

  pub only_back : OnlyBegins old after
  only_back = record {
    id = only.reading.id;
    log = log_same;
    databases = databases_same;
    seen = only.reading.seen;
    latest = only.reading.latest;
    tasks = only.tasks;
    taken = only.reading.taken;
  }

  pub none_back : nat_le 64 (length old.txns.txns) ≡ false → BeginsNone old after
  none_back few = record { few = few; txns = none.1; slots = none.2; sets = sets_back }

  abbrev back : Client D g
  back = record old { ledger = e }

  only_txns : OnlyTxns back after
  only_txns = record {
    reading = record { id = only.reading.id; ledger = refl; seen = only.reading.seen; latest = only.reading.latest; taken = only.reading.taken };
    tasks = only.tasks;
  }

  pub form_back : InForm after
  form_back =
      let there : IsInForm old.seen e.databases old.txns old.tasks.items = form_mid old e log_same databases_same form in
      let sized : HasSize old.seen.block e.databases y.txns.cache =
      size_as_before old.seen.block y.ledger.databases e.databases y.txns.cache
      (subst (λ (s : Seen). HasSize s.block y.ledger.databases y.txns.cache) only.reading.seen form_y.size) trims.kept trims.known in
      let with_them : IsInForm old.seen e.databases y.txns old.tasks.items =
      with_open old.seen e.databases old.txns y.txns old.tasks.items there (λ k t found. ap (txn_at k) none.1 ∙ found) sized (subst (AllByRecursion (ReadsSet e.databases.sets)) (sym none.1) there.txns) in
      subst (λ (s : Seen). IsInForm s e.databases y.txns y.tasks.items) (sym only.reading.seen)
      (subst (λ (ts : _). IsInForm old.seen e.databases y.txns ts.items) (sym only.tasks) with_them)

  parts_back : parts_of after ≡ parts_of old
  parts_back =
      parts_other back after only_txns
      ∙ ap (λ (ts : List OpenTxn). with_txns (open_parts (sets_in e.databases) ts) (parts_of back)) none.1
      ∙ parts_mid old e log_same databases_same form

  pub back_still : (shown : D → DiskShown) (Goes : m.Side → m.Up → m.Side → Type 0) (db : List ℕ) (b : Begun) → BegunOver shown (record old { ledger = l }) y db b → Locally shown Goes old after reply.NoMemory
  back_still shown Goes db b over = λ moment lg f stands.
      let there = stands_mid old e log_same databases_same form shown lg f stands in
      let at = over moment lg f (stands_mid old l log_opened opened form shown lg f stands) in
      let past : List Item = history_of lg in
      let fit : AreFit past (sets_in e.databases) y.txns = record {
        txns = subst (AllByRecursion (λ (t : OpenTxn). FitsTxn past (open_part (sets_in e.databases) t))) (sym none.1) (are_fit shown back moment lg f there).txns;
        cached = (are_fit shown y moment lg f at.stands).cached;
      } in
      record {
        stands = stands_other back after only_txns shown lg f there none.2 fit;
        goes = record { event = λ some. absurd (some tt); still = λ absent. ap (λ (q : Parts). side_of moment past q f) parts_back };
      }
