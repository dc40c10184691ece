-- The step of a task that fetches a page over a client.
use Rattle.std.proofs.Common.{◌≡◌, ◌≢◌, ◌∙◌, ◌==◌, ◌≤◌, ◌||◌, ℕ, Bool, false, nat_eq, nat_lt, List, [], ◌∷◌, map, Option, Some, None, IfSome, MatchOption, option_map, refl, sym, ap, subst, arith}
use Rattle.std.specs.List.{IsDistinct}
use Rattle.std.proofs.lemmas.Bool.{le-ltb, ne_eqb, or_from}
use Rattle.std.proofs.lemmas.Option.{same_Some}
use Rattle.bcv_base.specs.declared.id.Id16.{Id16}
use Rattle.bcv_base.specs.declared.log.Entry.{Entry as LogEntry}
use Rattle.bcv_base.specs.declared.outcome.Outcome.{Outcome}
use Rattle.bcv_base.specs.History.{history_of}
use Rattle.bcv_base.specs.Views.{view_size}
use Rattle.bcv_base.specs.declared.seen.TxnBase.{TxnBase}
use Rattle.bcv_cache.specs.Entry.{Blocks}
use Rattle.bcv_clientstate.specs.SeenClient.{seen_up, side_of}
use Rattle.bcv_databases.specs.Catalog.{Catalog}
use Rattle.bcv_disk.specs.DiskShown.{DiskShown, DiskTold}
use Rattle.bcv_machine.specs.Reading.{FetchStepsOf}
use Rattle.bcv_machine.specs.Refusals.{first_reason, page_reason, page_refusal}
use Rattle.bcv_machine.specs.Refusals as refusals
use Rattle.bcv_machine.specs.State as m
use Rattle.bcv_model.specs.declared.reply.Reply.TheVariants as reply
use Rattle.bcv_pages.specs.Held.{Held}
use Rattle.bcv_publish.specs.Request.{OverSoundLog}
use Rattle.bcv_publisher.specs.PutStep.{version_added}
use Rattle.bcv_client.proofs.OthersGrew.{fits_grown, grown_by_others}
use Rattle.bcv_snapshot.specs.declared.fetched.Fetched.{Fetched}
use Rattle.bcv_snapshot.specs.declared.fetched.Fetched.TheVariants as fetched
use Rattle.bcv_snapshot.specs.BlockFetch.{FetchLeaves}
use Rattle.bcv_store.specs.StoreShown.{StoreShown, StoreTold}
use Rattle.bcv_transaction.specs.declared.answers.Came.{Came}
use Rattle.bcv_transaction.specs.declared.answers.Came.TheVariants as came
use Rattle.bcv_transaction.specs.declared.answers.Stepped.{Stepped}
use Rattle.bcv_transaction.specs.declared.answers.Stepped.TheVariants as stepped
use Rattle.bcv_transaction.specs.declared.open_txn.OpenTxn.{OpenTxn}
use Rattle.bcv_transaction.specs.FitLaws.{LeavesFit}
use Rattle.bcv_transaction.specs.Open.{AreOpen, AreOpenWith, Open, base_in, is_numbered, numbers_of, txn_at, view_in}
use Rattle.bcv_transaction.specs.StepCalls.{Brings, GoesAfter, GoesOn, PageCalls, StepSays, Steps}
use Rattle.bcv_transaction.specs.StepSides.{StepSound, StepsAs}
use Rattle.bcv_transaction.proofs.FitLaws.{parts_are_seen}
use Rattle.bcv_transaction.proofs.MachineLists.{seen, seen_at}
use Rattle.bcv_transaction.proofs.MachinePages.{one_of, outside_seen}
use Rattle.bcv_transaction.proofs.StepPlaces.{Gets, gets_of, wants}
use Rattle.bcv_client.specs.ClientForm.{FetchInForm, IsInForm, IsPageOf}
use Rattle.bcv_client.specs.ClientParts.{entries_of, parts_of, sets_in}
use Rattle.bcv_client.specs.Events.{StandsOver, client_side, client_up}
use Rattle.bcv_client.specs.FetchOver.{stepped_reply}
use Rattle.bcv_client.specs.PagesFound.{IsPagesOf, PagesOf}
use Rattle.bcv_client.specs.Steps.{EndsJob}
use Rattle.bcv_client.specs.TaskParts.{seen_access}
use Rattle.bcv_client.specs.Transactions.{OnlyTxns}
use Rattle.bcv_client.specs.declared.client.Client.{Client}
use Rattle.bcv_client.specs.declared.job.Access.{Access}
use Rattle.bcv_client.specs.declared.job.Job.TheVariants as job
use Rattle.bcv_client.proofs.FetchRequests.{Requested, requested, steps_under}
use Rattle.bcv_client.proofs.PagesFound.{is_set_of}
use Rattle.bcv_client.proofs.MyNames.{named_same}
use Rattle.bcv_client.proofs.PollOver.{none_added}
use Rattle.bcv_client.proofs.ReadsSaw.{saw_grown}
use Rattle.bcv_client.proofs.TxnCalls.{comes_stay, differ_open, holds_stay, reads_stay}
use Rattle.bcv_client.proofs.TxnForms.{StayOpen, block_of, unheld}
use Rattle.bcv_client.proofs.TxnStands.{are_fit, side_other, stands_for, stands_other}

-- ---- the transactions stay open

stay_then : (a b c : Open) → StayOpen a b → StayOpen b c → StayOpen a c
stay_then a b c first second = record { slots = second.slots ∙ first.slots; block = second.block ∙ first.block; txns = second.txns ∙ first.txns }

same_open : (a b : Open) → b ≡ a → StayOpen a b
same_open a b same = record { slots = ap (λ (x : Open). x.slots) same; block = ap (λ (x : Open). block_of x.cache) same; txns = ap (λ (x : Open). map unheld x.txns) same }

fetched_block : (id : Id16) (c d : Blocks) (f : Fetched) → FetchLeaves id c f d → d.block ≡ c.block
fetched_block id c d (fetched.In slot) leaves = ap (λ (x : Blocks). x.block) leaves.2
fetched_block id c d fetched.CacheFull leaves = absurd leaves
fetched_block id c d fetched.Gone leaves = ap (λ (x : Blocks). x.block) leaves
fetched_block id c d (fetched.BadBlock len) leaves = ap (λ (x : Blocks). x.block) leaves.1
fetched_block id c d fetched.StoreFault leaves = ap (λ (x : Blocks). x.block) leaves
fetched_block id c d fetched.NoMemory leaves = ap (λ (x : Blocks). x.block) leaves

module _ (store : StoreTold) (before after : StoreShown) (h : Held) (n p : ℕ) (r : Stepped) where
  brought : (id : Id16) (o got : Open) (f : Fetched) → Brings store before after id o f got → StayOpen o got
  brought id o got f brings =
      let g : Gets store before after id o f got = gets_of store before after id o f got brings in
      record {
        slots = g.slots;
        block = ap block_of g.after_is ∙ ap Some (fetched_block id g.before g.after f g.gets.leaves) ∙ sym (ap block_of g.before_is);
        txns = ap (map unheld) g.txns;
      }

  again_stays : (a : m.Access) (o last : Open) (c : Came) → IsDistinct nat_eq (numbers_of o.txns) → PageCalls a h o n p c last → StayOpen o last
  again_stays m.ToRead o last c differ calls = reads_stay h o last n p c calls
  again_stays m.ToHold o last c differ calls = holds_stay h o last n p c differ calls

  after_stays : (a : m.Access) (got last : Open) (f : Fetched) → IsDistinct nat_eq (numbers_of got.txns) → GoesAfter a h n p f got r last → StayOpen got last
  after_stays a got last (fetched.In slot) differ goes = again_stays a got last goes.0 differ goes.1
  after_stays a got last fetched.CacheFull differ goes = same_open got last goes.1
  after_stays a got last fetched.Gone differ goes = same_open got last goes.1
  after_stays a got last (fetched.BadBlock len) differ goes = same_open got last goes.1
  after_stays a got last fetched.StoreFault differ goes = same_open got last goes.1
  after_stays a got last fetched.NoMemory differ goes = same_open got last goes.1

  goes_stays : (a : m.Access) (o asked last : Open) (c : Came) → AreOpen o → PageCalls a h o n p c asked → GoesOn a h store before after n p c asked r last → StayOpen asked last
  goes_stays a o asked last (came.Absent id) opened calls goes =
      let away = wants a h o asked n p id opened calls in
      let g : Gets store before after id asked goes.0 goes.1 = gets_of store before after id asked goes.0 goes.1 goes.2 in
      let differ : IsDistinct nat_eq (numbers_of goes.1.txns) =
      subst (λ (ts : List OpenTxn). IsDistinct nat_eq (numbers_of ts)) (sym (g.txns ∙ ap (λ (x : Open). x.txns) away.same)) (differ_open o opened) in
      stay_then asked goes.1 last (brought id asked goes.1 goes.0 goes.2) (after_stays a goes.1 last goes.0 differ goes.3)
  goes_stays a o asked last (came.Page bytes) opened calls goes = same_open asked last goes.1
  goes_stays a o asked last came.Held opened calls goes = same_open asked last goes.1
  goes_stays a o asked last came.CacheFull opened calls goes = same_open asked last goes.1
  goes_stays a o asked last came.BadPage opened calls goes = same_open asked last goes.1
  goes_stays a o asked last came.NoTxn opened calls goes = same_open asked last goes.1
  goes_stays a o asked last came.NoMemory opened calls goes = same_open asked last goes.1

  pub step_stays : (a : m.Access) (o last : Open) → AreOpen o → Steps a h store before after o n p r last → StayOpen o last
  step_stays a o last opened steps =
      stay_then o steps.1 last (comes_stay a h o steps.1 n p steps.0 opened steps.2) (goes_stays a o steps.1 last steps.0 opened steps.2 steps.3)

-- ---- the page is one of the transaction's

inside : (p size : ℕ) → 1 ≤ p → p ≤ size → ((p == 0) || nat_lt size p) ≡ false
inside p size from to = or_from (p == 0) (nat_lt size p) (ne_eqb p 0 (λ e. absurd (omega (arith, from, e)))) (le-ltb size p to)

passes_by : (p : ℕ) (x : Option m.Txn) (t : m.Txn) → x ≡ Some t → refusals.is_outside p t ≡ false → page_reason p x ≡ None
passes_by p x t is within =
    subst (λ (y : Option m.Txn). page_reason p y ≡ None) (sym is) (ap (λ (b : Bool). first_reason ((b, reply.BadPage) ∷ [])) within)

page_of_txn : (p : ℕ) (x : Option OpenTxn) (t : OpenTxn) → x ≡ Some t → MatchOption x ⊥ (IsPageOf p) → IsPageOf p t
page_of_txn p x t is form = subst (λ (y : Option OpenTxn). MatchOption y ⊥ (IsPageOf p)) is form

-- ---- the transaction is open

no_base : (o : Open) (n p : ℕ) (x : Option OpenTxn) → txn_at n o.txns ≡ x → MatchOption x ⊥ (IsPageOf p) → base_in n o.txns ≡ None → ⊥
no_base o n p None is page none = page
no_base o n p (Some t) is page none =
    absurd (let e : ◌≡◌ {A = Option TxnBase} (Some t.txn.base) None = sym (ap (option_map (λ (u : OpenTxn). u.txn.base)) is) ∙ none in cc)

-- it has a base
pub has_base : (o : Open) (n p : ℕ) (x : Option TxnBase) → FetchInForm o n p → x ≡ base_in n o.txns → x ≡ None → ⊥
has_base o n p x page is none = no_base o n p (txn_at n o.txns) refl page (sym is ∙ none)

-- and pages
pub has_pages : (c : Catalog) (o : Open) (n p : ℕ) (x : Option Held) → FetchInForm o n p → PagesOf c o n x → x ≡ None → ⊥
has_pages c o n p x page is none =
    let at : txn_at n o.txns ≡ None = subst (PagesOf c o n) none is in subst (λ (y : Option OpenTxn). MatchOption y ⊥ (IsPageOf p)) at page

-- the cache has blocks of its base's size
pub block_of_base : (c : Catalog) (o : Open) (n : ℕ) (h : Held) (base : TxnBase) → IsPagesOf c o n h → AreOpen o → Some base ≡ base_in n o.txns → IfSome o.cache (λ (d : Blocks). d.block ≡ base.block)
block_of_base c o n h base is opened at = by o.cache refl
  where
    same : base ≡ is.txn.txn.base
    same = same_Some base is.txn.txn.base (at ∙ ap (option_map (λ (u : OpenTxn). u.txn.base)) is.is_open)

    by : (x : Option Blocks) → o.cache ≡ x → IfSome x (λ (d : Blocks). d.block ≡ base.block)
    by None e = tt
    by (Some d) e =
        let there : AreOpenWith o.slots (Some d) o.txns = subst (λ (x : Option Blocks). AreOpenWith o.slots x o.txns) e opened in
        sym (ap (λ (b : TxnBase). b.block) same ∙ one_of (λ (t : OpenTxn). t.txn.base.block ≡ d.block) (is_numbered n) o.txns is.txn there.0.blocks is.is_open)

-- ---- the step

as_fetch : (a : m.Access) (s : m.Side) (u : m.Up) (n p : ℕ) (o : Outcome) (r : Stepped) (t : m.Side) → r ≢ stepped.NoMemory → StepsAs a s u n p o r t → FetchStepsOf a s u (m.txn_at u n) p o (stepped_reply r) t
as_fetch a s u n p o (stepped.Page bytes) t memory does = does
as_fetch a s u n p o stepped.Held t memory does = does
as_fetch a s u n p o stepped.CacheFull t memory does = does
as_fetch a s u n p o stepped.BadPage t memory does = absurd does
as_fetch a s u n p o stepped.NoTxn t memory does = absurd does
as_fetch a s u n p o stepped.Gone t memory does = does
as_fetch a s u n p o (stepped.BadBlock len) t memory does = absurd does
as_fetch a s u n p o stepped.StoreFault t memory does = does
as_fetch a s u n p o stepped.NoMemory t memory does = absurd (memory refl)

module _ {D : Type 0} {g : _} (told : DiskTold) (shown : D → DiskShown) (store : StoreTold) (before after : StoreShown) (old new : Client D g) (a : Access) (n p : ℕ) (h : Held) (r : Stepped)
    (only : OnlyTxns old new) (form : IsInForm old.seen old.ledger.databases old.txns old.tasks.items) (asked : FetchInForm old.txns n p) (is : IsPagesOf old.ledger.databases old.txns n h)
    (opened : AreOpen old.txns) (steps : Steps (seen_access a) h store before after old.txns n p r new.txns) (says : StepSays store before after r)
    (sound : OverSoundLog store before after (λ mine. StepSound (seen_access a) store mine before after h old.txns n p r new.txns))
    (fit : OverSoundLog store before after (λ mine. LeavesFit before after old.txns new.txns)) where
  abbrev sets : ℕ → Held
  sets = sets_in old.ledger.databases

  -- the call of the task is not refused
  passes : (log : List LogEntry) → page_refusal (client_up log old) n p ≡ None
  passes log =
      let page : IsPageOf p is.txn = page_of_txn p (txn_at n old.txns.txns) is.txn is.is_open asked in
      let at : m.txn_at (client_up log old) n ≡ Some (seen (history_of log) sets is.txn) =
      seen_at (history_of log) sets n old.txns.txns (client_up log old) (parts_are_seen.seen (history_of log) sets old.txns.txns) ∙ ap (option_map (seen (history_of log) sets)) is.is_open in
      let size : is.txn.txn.size ≡ view_size is.txn.txn.base.entry.pages (view_in (sets is.txn.set) is.txn) =
      is.size ∙ ap (λ (x : Held). view_size is.txn.txn.base.entry.pages (view_in x is.txn)) (sym is.set) in
      passes_by p (m.txn_at (client_up log old) n) (seen (history_of log) sets is.txn) at
      (outside_seen (history_of log) sets is.txn p false
      (inside p (view_size is.txn.txn.base.entry.pages (view_in (sets is.txn.set) is.txn)) page.from (subst (λ (k : ℕ). p ≤ k) size page.to)))

  pub fetch_ends : EndsJob told shown store before after old new (job.Fetch a n p) (stepped_reply r)
  fetch_ends tells disk number moment mine f stands all grew armed =
      let s = sound tells mine stands.sound grew in
      let same = grown_by_others store.alone mine before.log after.log s.growth s.no_own in
      let now : StandsOver shown old after.log f = record {
        sound = s.growth.sound;
        fits = fits_grown store.alone mine before.log after.log (parts_of old) (entries_of old) s.growth s.no_own stands.sound all stands.fits;
        saw = saw_grown store.alone mine before.log after.log s.growth old.tasks.items stands.saw;
        journaled = stands.journaled;
        slots = stands.slots;
      } in
      let slots : new.txns.slots ≡ old.txns.slots = (step_stays store before after h n p r (seen_access a) old.txns new.txns opened steps).slots in
      record {
        growth = s.growth;
        free = f;
        stands = stands_other old new only shown after.log f now slots (fit tells mine stands.sound grew sets (are_fit shown old moment before.log f stands));
        names = named_same mine old new all only.reading.id (ap (λ (l : _). l.databases.kept.pending) only.reading.ledger) (ap (λ (ts : _). ts.items) only.tasks);
        flight = λ flies. flies;
        event = λ reply_is.
            let memory : r ≢ stepped.NoMemory = λ none. reply_is (ap stepped_reply none) in
            let q : Requested store before after r = requested store before after r says memory (seen_access a) h n p tells mine stands.sound grew old.txns new.txns steps in
            record {
              made = q.made;
              request = q.request;
              planned = q.planned;
              unmade = q.unmade;
              cause = q.cause;
              goes = λ o under. (
                false,
                (
                  subst (λ (log : List LogEntry). version_added (history_of log) (history_of after.log) ≡ None) same (none_added (history_of after.log) (history_of after.log) refl),
                  subst (λ (log : List LogEntry). FetchStepsOf (seen_access a) (side_of moment (history_of log) (parts_of old) f) (seen_up (history_of log) (parts_of old)) (m.txn_at (seen_up (history_of log) (parts_of old)) n) p o (stepped_reply r) (client_side moment after.log new f)) same
                      (as_fetch (seen_access a) (client_side moment after.log old f) (client_up after.log old) n p o r (client_side moment after.log new f) memory
                      (steps_under (seen_access a) (client_side moment after.log old f) (client_up after.log old) n p s.request o r (client_side moment after.log new f) (q.agrees o under)
                      (subst (λ (t : m.Side). StepsAs (seen_access a) (client_side moment after.log old f) (client_up after.log old) n p s.request r t) (side_other old new only moment after.log f)
                      (s.steps sets (client_side moment after.log old f) (client_up after.log old) (stands_for shown old moment after.log f now form) refl (is_set_of old.ledger.databases old.txns n h is) (passes after.log) s.request (λ made. refl))))),
                ),
              );
            };
      }
