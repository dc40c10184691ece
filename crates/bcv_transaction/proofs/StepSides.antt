-- A step that reads or holds a page: what it says of the store, and that it is the machine's.
use Rattle.std.proofs.Common.{◌≡◌, ◌≢◌, ◌∙◌, ℕ, true, false, List, [], ◌++◌, append-nil, Option, Some, None, IfSome, Result, Ok, Err, option_map, refl, sym, ap, subst, inl, inr, arith}
use Rattle.std.specs.List.{AllByRecursion}
use Rattle.std.proofs.lemmas.Option.{same_Some}
use Rattle.std.proofs.lemmas.List.Elements.{All-nil}
use Rattle.bcv_base.specs.declared.id.Id16.{Id16}
use Rattle.bcv_base.specs.declared.log.Entry.{Entry as LogEntry}
use Rattle.bcv_base.specs.declared.manifest.Manifest.{Manifest}
use Rattle.bcv_base.specs.declared.outcome.Outcome.{Outcome}
use Rattle.bcv_base.specs.declared.outcome.Outcome.TheVariants as outcome
use Rattle.bcv_base.specs.History.{Item, first_put, history_of}
use Rattle.bcv_base.specs.Ids.{has_id}
use Rattle.bcv_base.specs.ManifestRules.{lists}
use Rattle.bcv_cache.specs.Cache.{filled, has_room, slot_of}
use Rattle.bcv_cache.specs.Entry.{Blocks}
use Rattle.bcv_clientstate.specs.Fits.{FitsEntry, FitsTxn}
use Rattle.bcv_clientstate.specs.SeenContainer.{container_of}
use Rattle.bcv_clientstate.proofs.GoneLaws.{found_among, outlived_may_be_gone}
use Rattle.bcv_dbmap.specs.RequestGrowth.{RequestGrowth}
use Rattle.bcv_dbmap.specs.Sound.{Sound}
use Rattle.bcv_machine.specs.Gone.{MayBeGone}
use Rattle.bcv_machine.specs.Reading.{ComesAtOnce, FetchSteps, FetchStepsOf, FetchesOf}
use Rattle.bcv_machine.specs.Refusals.{UnlessRefused, page_reason, page_refusal}
use Rattle.bcv_machine.specs.State.{Access, Container, Side, ToHold, ToRead, Txn, Up, is_at_hand, txn_at as machine_txn, with_up}
use Rattle.bcv_model.specs.declared.reply.Reply.{Reply}
use Rattle.bcv_model.specs.declared.reply.Reply.TheVariants as reply
use Rattle.bcv_pages.specs.Held.{Held}
use Rattle.bcv_publish.specs.Request.{MayTakeOutcome, OverSoundLog, TakesOutcome}
use Rattle.bcv_snapshot.specs.declared.fetched.Fetched.{Fetched}
use Rattle.bcv_snapshot.specs.declared.fetched.Fetched.TheVariants as fetched
use Rattle.bcv_snapshot.specs.BlockFetch.{BlockFetches, BlockGetSound, BlockGets, IsMissing, IsOtherBlock}
use Rattle.bcv_store.specs.Plans.{IsForeign}
use Rattle.bcv_store.specs.StoreShown.{StoreShown, StoreTold}
use Rattle.bcv_transaction.specs.declared.answers.Came.{Came}
use Rattle.bcv_transaction.specs.declared.answers.Came.TheVariants as came
use Rattle.bcv_transaction.specs.declared.answers.Stepped.{Stepped}
use Rattle.bcv_transaction.specs.declared.answers.Stepped.TheVariants as stepped
use Rattle.bcv_transaction.specs.declared.open_txn.OpenTxn.{OpenTxn}
use Rattle.bcv_transaction.specs.MachineCalls.{Comes, HasContainer, IsSetOf, StandsFor, WantsTask, open_part, seen_txns, side_with}
use Rattle.bcv_transaction.specs.Open.{AreOpen, AreOpenWith, Open, is_numbered, txn_at}
use Rattle.bcv_transaction.specs.OpenCalls.{CallsIn}
use Rattle.bcv_transaction.specs.StepCalls.{Brings, ComesAs, GoesAfter, GoesOn, IsAgain, OthersGrow, PageCalls, StepSays, StepTakes, Steps, Wants, kept_out}
use Rattle.bcv_transaction.specs.StepSides.{StepSound, StepsAs, StepsSides}
use Rattle.bcv_transaction.proofs.FetchMoves.{all_room_made}
use Rattle.bcv_transaction.proofs.MachineLists.{seen, seen_at}
use Rattle.bcv_transaction.proofs.MachinePages.{one_of}
use Rattle.bcv_transaction.proofs.StepPlaces.{Gets, IsAway, brings, comes_again, gets_of, here, wants}
use Rattle.bcv_dbmap.proofs.Entries.{lists_among}
use Rattle.bcv_upload.proofs.Owned.{has_at}

-- ---- what comes without a request, as a step of the task

-- the reply of a step that comes at once, under each outcome
page_steps : (access : Access) (s : Side) (u : Up) (x : Txn) (p : ℕ) (o : Outcome) (bytes : List ℕ) (t : Side) → ComesAtOnce access s u x p (reply.Page bytes) t → FetchSteps access s u x p o (reply.Page bytes) t
page_steps access s u x p outcome.Ok bytes t comes = comes
page_steps access s u x p outcome.Fail bytes t comes = comes
page_steps access s u x p outcome.Lost bytes t comes = comes

held_steps : (access : Access) (s : Side) (u : Up) (x : Txn) (p : ℕ) (o : Outcome) (t : Side) → ComesAtOnce access s u x p reply.Held t → FetchSteps access s u x p o reply.Held t
held_steps access s u x p outcome.Ok t comes = comes
held_steps access s u x p outcome.Fail t comes = comes
held_steps access s u x p outcome.Lost t comes = comes

full_steps : (access : Access) (s : Side) (u : Up) (x : Txn) (p : ℕ) (o : Outcome) (t : Side) → ComesAtOnce access s u x p reply.CacheFull t → FetchSteps access s u x p o reply.CacheFull t
full_steps access s u x p outcome.Ok t comes = comes
full_steps access s u x p outcome.Fail t comes = comes
full_steps access s u x p outcome.Lost t comes = comes

-- an image has the page, so the call does not answer that it has not
no_bad_page : (access : Access) (s : Side) (u : Up) (x : Txn) (p : ℕ) (t : Side) → ComesAtOnce access s u x p reply.BadPage t → ⊥
no_bad_page ToRead s u x p t comes = comes
no_bad_page ToHold s u x p t comes = comes

no_txn : (access : Access) (s : Side) (u : Up) (x : Txn) (p : ℕ) (t : Side) → ComesAtOnce access s u x p reply.NoTxn t → ⊥
no_txn ToRead s u x p t comes = comes
no_txn ToHold s u x p t comes = comes

-- a call that is not refused, of a transaction that is open
unrefused : (access : Access) (s : Side) (u : Up) (p : ℕ) (r : Reply) (t : Side) (x : Option Txn) → page_reason p x ≡ None → UnlessRefused (page_reason p x) (with_up s u) r t (FetchesOf access s u x p r t)
    → FetchesOf access s u x p r t
unrefused access s u p r t x passes does = subst (λ (o : Option Reply). UnlessRefused o (with_up s u) r t (FetchesOf access s u x p r t)) passes does

pub comes_steps : (access : Access) (s : Side) (u : Up) (n p : ℕ) (o : Outcome) (c : Came) (r : Stepped) (t : Side) → page_refusal u n p ≡ None → ComesAs c r → Comes access s u n p c t → StepsAs access s u n p o r t
comes_steps access s u n p o (came.Page bytes) r t passes is comes =
    subst (λ (y : Stepped). StepsAs access s u n p o y t) (sym is) (by (machine_txn u n) (unrefused access s u p (reply.Page bytes.items) t (machine_txn u n) passes comes))
  where
    by : (x : Option Txn) → FetchesOf access s u x p (reply.Page bytes.items) t → FetchStepsOf access s u x p o (reply.Page bytes.items) t
    by None does = absurd does
    by (Some x) does = page_steps access s u x p o bytes.items t does
comes_steps access s u n p o came.Held r t passes is comes =
    subst (λ (y : Stepped). StepsAs access s u n p o y t) (sym is) (by (machine_txn u n) (unrefused access s u p reply.Held t (machine_txn u n) passes comes))
  where
    by : (x : Option Txn) → FetchesOf access s u x p reply.Held t → FetchStepsOf access s u x p o reply.Held t
    by None does = absurd does
    by (Some x) does = held_steps access s u x p o t does
comes_steps access s u n p o came.CacheFull r t passes is comes =
    subst (λ (y : Stepped). StepsAs access s u n p o y t) (sym is) (by (machine_txn u n) (unrefused access s u p reply.CacheFull t (machine_txn u n) passes comes))
  where
    by : (x : Option Txn) → FetchesOf access s u x p reply.CacheFull t → FetchStepsOf access s u x p o reply.CacheFull t
    by None does = absurd does
    by (Some x) does = full_steps access s u x p o t does
comes_steps access s u n p o came.BadPage r t passes is comes = absurd (by (machine_txn u n) (unrefused access s u p reply.BadPage t (machine_txn u n) passes comes))
  where
    by : (x : Option Txn) → FetchesOf access s u x p reply.BadPage t → ⊥
    by None does = does
    by (Some x) does = no_bad_page access s u x p t does
comes_steps access s u n p o came.NoTxn r t passes is comes = absurd (by (machine_txn u n) (unrefused access s u p reply.NoTxn t (machine_txn u n) passes comes))
  where
    by : (x : Option Txn) → FetchesOf access s u x p reply.NoTxn t → ⊥
    by None does = does
    by (Some x) does = no_txn access s u x p t does
comes_steps access s u n p o came.NoMemory r t passes is comes = subst (λ (y : Stepped). StepsAs access s u n p o y t) (sym is) comes
comes_steps access s u n p o (came.Absent id) r t passes is comes = absurd is

-- ---- all that is said of a step

pub record StepIs (access : Access) (store : StoreTold) (old new : StoreShown) (pages : Held) (o : Open) (n p : ℕ) (r : Stepped) (last : Open) : Type 0 where
  pub steps : Steps access pages store old new o n p r last
  pub says : StepSays store old new r
  pub sound : OverSoundLog store old new (λ mine. StepSound access store mine old new pages o n p r last)

-- a read or a hold, and that it is the machine's
pub record IsAsked (access : Access) (pages : Held) (o : Open) (n p : ℕ) (c : Came) (asked : Open) : Type 0 where
  pub calls : PageCalls access pages o n p c asked
  pub machine : (past : List Item) (sets : ℕ → Held) (s : Side) (u : Up) → StandsFor past sets o s u → IsSetOf pages sets n o.txns → Comes access s u n p c (side_with past sets s u asked.txns)

-- ---- no request

abbrev none_grown : (alone : Type 0) (mine : List Id16) (log : List LogEntry) → Sound (history_of log) → RequestGrowth alone mine log log
none_grown alone mine log sound = record {
  others = [];
  none = λ is. refl;
  lawful = tt;
  own = [];
  one = omega arith;
  grown = sym (append-nil (log ++ []) ∙ append-nil log);
  own_lawful = λ theirs apart. tt;
  sound = sound;
}

none_others : (store : StoreTold) (old : StoreShown) → OthersGrow store old old
none_others store old = record { others = []; by_others = record { foreign = All-nil IsForeign; none = λ is. refl }; grown = sym (append-nil old.log) }

goes_on : (access : Access) (store : StoreTold) (old : StoreShown) (pages : Held) (n p : ℕ) (c : Came) (asked : Open) (r : Stepped) → ComesAs c r → GoesOn access pages store old old n p c asked r asked
goes_on access store old pages n p (came.Page bytes) asked r is = (is, refl, refl)
goes_on access store old pages n p came.Held asked r is = (is, refl, refl)
goes_on access store old pages n p came.CacheFull asked r is = (is, refl, refl)
goes_on access store old pages n p came.BadPage asked r is = (is, refl, refl)
goes_on access store old pages n p came.NoTxn asked r is = (is, refl, refl)
goes_on access store old pages n p came.NoMemory asked r is = (is, refl, refl)
goes_on access store old pages n p (came.Absent id) asked r is = absurd is

takes_none : (store : StoreTold) (old : StoreShown) (c : Came) (r : Stepped) → ComesAs c r → StepTakes store old old r
takes_none store old (came.Page bytes) r is = subst (StepTakes store old old) (sym is) (inr refl)
takes_none store old came.Held r is = subst (StepTakes store old old) (sym is) (inr refl)
takes_none store old came.CacheFull r is = subst (StepTakes store old old) (sym is) refl
takes_none store old came.BadPage r is = subst (StepTakes store old old) (sym is) refl
takes_none store old came.NoTxn r is = subst (StepTakes store old old) (sym is) refl
takes_none store old came.NoMemory r is = subst (StepTakes store old old) (sym is) (inr refl)
takes_none store old (came.Absent id) r is = absurd is

-- a call answers no fault of the store
no_fault : (c : Came) (r : Stepped) → ComesAs c r → r ≡ stepped.StoreFault → ⊥
no_fault (came.Page bytes) r is fault = (let both = sym is ∙ fault in absurd (cc))
no_fault came.Held r is fault = (let both = sym is ∙ fault in absurd (cc))
no_fault came.CacheFull r is fault = (let both = sym is ∙ fault in absurd (cc))
no_fault came.BadPage r is fault = (let both = sym is ∙ fault in absurd (cc))
no_fault came.NoTxn r is fault = (let both = sym is ∙ fault in absurd (cc))
no_fault came.NoMemory r is fault = (let both = sym is ∙ fault in absurd (cc))
no_fault (came.Absent id) r is fault = is

pub at_once : (access : Access) (store : StoreTold) (old : StoreShown) (pages : Held) (o : Open) (n p : ℕ) (c : Came) (r : Stepped) (asked : Open) → IsAsked access pages o n p c asked → ComesAs c r
    → StepIs access store old old pages o n p r asked
at_once access store old pages o n p c r asked a is = record {
  steps = (c, asked, a.calls, goes_on access store old pages n p c asked r is);
  says = record { taken = takes_none store old c r is; later = omega arith; failed = λ fault. absurd (no_fault c r is fault); told = λ tells. none_others store old };
  sound = λ tells mine sound honest. record {
    growth = none_grown store.alone mine old.log sound;
    no_own = refl;
    made = false;
    unmade = λ none. refl;
    taken = λ made. absurd (cc);
    request = outcome.Ok;
    next = λ made. absurd (cc);
    steps = λ sets s u stands container set_of passes at under. comes_steps access s u n p at c r (side_with (history_of old.log) sets s u asked.txns) passes is (a.machine (history_of old.log) sets s u stands set_of);
  };
}

-- ---- one get

-- what comes where a request was made
takes_one : (store : StoreTold) (old new : StoreShown) (c : Came) (r : Stepped) → IsAgain c → ComesAs c r → TakesOutcome store old new → StepTakes store old new r
takes_one store old new (came.Page bytes) r again is taken = subst (StepTakes store old new) (sym is) (inl taken)
takes_one store old new came.Held r again is taken = subst (StepTakes store old new) (sym is) (inl taken)
takes_one store old new came.NoMemory r again is taken = subst (StepTakes store old new) (sym is) (inl taken)
takes_one store old new (came.Absent id) r again is taken = absurd again
takes_one store old new came.CacheFull r again is taken = absurd again
takes_one store old new came.BadPage r again is taken = absurd again
takes_one store old new came.NoTxn r again is taken = absurd again

-- what others appended
others_grow : (store : StoreTold) (old new : StoreShown) (id : Id16) (c : Blocks) (f : Fetched) (d : Blocks) → BlockGets store old new id c f d → store.tells → OthersGrow store old new
others_grow store old new id c f d gets tells = (let told = gets.told tells in record { others = told.others; by_others = told.by_others; grown = told.grown })

-- where a block is away over a side that the transactions stand for
record IsAwayFor (past : List Item) (sets : ℕ → Held) (o : Open) (s : Side) (u : Up) (n p : ℕ) (id : Id16) (t : OpenTxn) : Type 0 where
  there : machine_txn u n ≡ Some (seen past sets t)
  away : is_at_hand s.container (seen past sets t) p ≡ false
  same : side_with past sets s u o.txns ≡ with_up s u
  fits : FitsTxn past (open_part sets t)
  listed : has_id id t.txn.base.entry.blocks ≡ true

away_for : (past : List Item) (sets : ℕ → Held) (pages : Held) (o asked : Open) (s : Side) (u : Up) (n p : ℕ) (id : Id16) (a : IsAway pages o n p id asked) → StandsFor past sets o s u
    → WantsTask s u n p (side_with past sets s u asked.txns) → IsAwayFor past sets o s u n p id a.txn
away_for past sets pages o asked s u n p id a stands wants =
    let there : machine_txn u n ≡ Some (seen past sets a.txn) = seen_at past sets n o.txns u stands.txns ∙ ap (option_map (seen past sets)) a.found in
    record {
      there = there;
      away = subst (λ (x : Txn). is_at_hand s.container x p ≡ false) (same_Some wants.txn (seen past sets a.txn) (sym wants.is_open ∙ there)) wants.away;
      same = ap (λ (x : Open). side_with past sets s u x.txns) (sym a.same) ∙ wants.same;
      fits = one_of (λ (x : OpenTxn). FitsTxn past (open_part sets x)) (is_numbered n) o.txns a.txn stands.fit.txns a.found;
      listed = has_at a.txn.txn.base.entry.blocks _ id a.block;
    }

-- the machine's step where the block may be gone, and where the store failed
gone_steps : (access : Access) (past : List Item) (sets : ℕ → Held) (o : Open) (s : Side) (u : Up) (n p : ℕ) (id : Id16) (t : OpenTxn) (at : Outcome) (last : Side) → IsAwayFor past sets o s u n p id t
    → HasContainer past s → Sound past → at ≡ outcome.Ok → IsMissing past id → last ≡ with_up s u → FetchStepsOf access s u (machine_txn u n) p at reply.Gone last
gone_steps access past sets o s u n p id t at last a container sound ok missing same =
    let may : MayBeGone (container_of s.container.moment past) t.txn.base.entry.name t.txn.base.number =
    outlived_may_be_gone s.container.moment past t.txn.base.number t.txn.base.block t.txn.base.entry id sound a.fits.base a.listed missing.outlived
    in
    let does : FetchSteps access s u (seen past sets t) p outcome.Ok reply.Gone last =
    (a.away, subst (λ (k : Container). MayBeGone k t.txn.base.entry.name t.txn.base.number) (sym container) may, same)
    in
    subst (λ (x : Option Txn). FetchStepsOf access s u x p at reply.Gone last) (sym a.there)
    (subst (λ (y : Outcome). FetchSteps access s u (seen past sets t) p y reply.Gone last) (sym ok) does)

fault_at : (access : Access) (s : Side) (u : Up) (x : Txn) (p : ℕ) (at : Outcome) (t : Side) → at ≢ outcome.Ok → is_at_hand s.container x p ≡ false → t ≡ with_up s u → FetchSteps access s u x p at reply.StoreFault t
fault_at access s u x p outcome.Ok t failed away same = absurd (failed refl)
fault_at access s u x p outcome.Fail t failed away same = (away, same)
fault_at access s u x p outcome.Lost t failed away same = (away, same)

-- no version lists a block of another length
not_other : (past : List Item) (sets : ℕ → Held) (t : OpenTxn) (id : Id16) (len block : ℕ) → FitsTxn past (open_part sets t) → has_id id t.txn.base.entry.blocks ≡ true → t.txn.base.block ≡ block
    → IsOtherBlock past id len → len ≢ block → ⊥
not_other past sets t id len block fits listed own other differs =
    let m : Manifest = fits.base.manifest in
    let lists_it : lists m.dbs id ≡ true = lists_among m.dbs t.txn.base.entry id (found_among t.txn.base.entry.name m.dbs t.txn.base.entry fits.base.listed) listed in
    differs (sym (other.sizes m fits.base.published lists_it) ∙ fits.base.block_is ∙ own)

-- the block size of the transaction is that of the cache
own_size : (pages : Held) (o asked : Open) (n p : ℕ) (id : Id16) (a : IsAway pages o n p id asked) → AreOpen o → a.txn.txn.base.block ≡ a.cache.block
own_size pages o asked n p id a opened =
    let all : AreOpenWith o.slots (Some a.cache) o.txns = subst (λ (x : Option Blocks). AreOpenWith o.slots x o.txns) a.cache_is opened in
    one_of (λ (x : OpenTxn). x.txn.base.block ≡ a.cache.block) (is_numbered n) o.txns a.txn all.0.blocks a.found

module _ (access : Access) (store : StoreTold) (old new : StoreShown) (pages : Held) (o asked : Open) (n p : ℕ) (id : Id16) (got : Open) where
  -- what a get needs to know: where the block is wanted, and that the caches are these
  record Wanted (f : Fetched) : Type 0 where
    first : IsAsked access pages o n p (came.Absent id) asked
    opened : AreOpen o
    away : IsAway pages o n p id asked
    brings : Brings store old new id asked f got

  cache_was : (f : Fetched) (w : Wanted f) (g : Gets store old new id asked f got) → g.before ≡ w.away.cache
  cache_was f w g = same_Some g.before w.away.cache (sym g.before_is ∙ ap (λ (x : Open). x.cache) w.away.same ∙ w.away.cache_is)

  -- the transactions are as they were
  txns_are : (f : Fetched) (w : Wanted f) (g : Gets store old new id asked f got) → got.txns ≡ o.txns
  txns_are f w g = g.txns ∙ ap (λ (x : Open). x.txns) w.away.same

  sides : (f : Fetched) (w : Wanted f) (sets : ℕ → Held) (s : Side) (u : Up) → StandsFor (history_of new.log) sets o s u → IsSetOf pages sets n o.txns
      → IsAwayFor (history_of new.log) sets o s u n p id w.away.txn
  sides f w sets s u stands set_of = away_for (history_of new.log) sets pages o asked s u n p id w.away stands (w.first.machine (history_of new.log) sets s u stands set_of)

  side_is : (f : Fetched) (w : Wanted f) (g : Gets store old new id asked f got) (sets : ℕ → Held) (s : Side) (u : Up) → IsAwayFor (history_of new.log) sets o s u n p id w.away.txn
      → side_with (history_of new.log) sets s u got.txns ≡ with_up s u
  side_is f w g sets s u a = ap (side_with (history_of new.log) sets s u) (txns_are f w g) ∙ a.same

  -- a request was made over a sound log
  made_sound : (mine : List Id16) (r : Stepped) (last : Open) (c d : Blocks) (f : Fetched) (b : BlockGetSound store mine old new id c f d) → TakesOutcome store old new → StepsSides access (history_of new.log) pages o n p true b.outcome r last
      → StepSound access store mine old new pages o n p r last
  made_sound mine r last c d f b taken steps =
      record { growth = b.growth; no_own = b.no_own; made = true; unmade = λ none. absurd (cc); taken = λ made. taken; request = b.outcome; next = λ made. b.next; steps = steps }

  -- the steps of an answer that keeps the block out
  kept_all : (f : Fetched) (r : Stepped) → kept_out f ≡ Some r → (w : Wanted f) → Steps access pages store old new o n p r got
  kept_all f r is w = (came.Absent id, asked, w.first.calls, (f, got, w.brings, after f is))
    where
      after : (x : Fetched) → kept_out x ≡ Some r → GoesAfter access pages n p x got r got
      after (fetched.In slot) some = absurd (cc)
      after fetched.CacheFull some = (some, refl)
      after fetched.Gone some = (some, refl)
      after (fetched.BadBlock len) some = (some, refl)
      after fetched.StoreFault some = (some, refl)
      after fetched.NoMemory some = (some, refl)

  gone_is : (w : Wanted fetched.Gone) → Gets store old new id asked fetched.Gone got → StepIs access store old new pages o n p stepped.Gone got
  gone_is w g = record {
    steps = kept_all fetched.Gone stepped.Gone refl w;
    says = record { taken = g.gets.taken; later = g.gets.later; failed = λ fault. absurd (cc); told = others_grow store old new id g.before fetched.Gone g.after g.gets };
    sound = λ tells mine sound honest.
        let b = g.gets.sound tells mine sound honest in
        made_sound mine stepped.Gone got g.before g.after fetched.Gone b g.gets.taken
        (λ sets s u stands container set_of passes at under.
        let a = sides fetched.Gone w sets s u stands set_of in
        gone_steps access (history_of new.log) sets o s u n p id w.away.txn at (side_with (history_of new.log) sets s u got.txns) a container b.growth.sound (under refl ∙ b.ends.0) b.ends.1
        (side_is fetched.Gone w g sets s u a));
  }

  fault_is : (w : Wanted fetched.StoreFault) → Gets store old new id asked fetched.StoreFault got → StepIs access store old new pages o n p stepped.StoreFault got
  fault_is w g = record {
    steps = kept_all fetched.StoreFault stepped.StoreFault refl w;
    says = record { taken = g.gets.taken; later = g.gets.later; failed = λ fault. g.gets.failed refl; told = others_grow store old new id g.before fetched.StoreFault g.after g.gets };
    sound = λ tells mine sound honest.
        let b = g.gets.sound tells mine sound honest in
        made_sound mine stepped.StoreFault got g.before g.after fetched.StoreFault b g.gets.taken
        (λ sets s u stands container set_of passes at under.
        let a = sides fetched.StoreFault w sets s u stands set_of in
        subst (λ (x : Option Txn). FetchStepsOf access s u x p at reply.StoreFault (side_with (history_of new.log) sets s u got.txns)) (sym a.there)
        (fault_at access s u (seen (history_of new.log) sets w.away.txn) p at (side_with (history_of new.log) sets s u got.txns) (λ ok. b.ends (sym (under refl) ∙ ok)) a.away
        (side_is fetched.StoreFault w g sets s u a)));
  }

  bad_is : (len : ℕ) (w : Wanted (fetched.BadBlock len)) → Gets store old new id asked (fetched.BadBlock len) got → StepIs access store old new pages o n p (stepped.BadBlock len) got
  bad_is len w g = record {
    steps = kept_all (fetched.BadBlock len) (stepped.BadBlock len) refl w;
    says = record { taken = g.gets.taken; later = g.gets.later; failed = λ fault. absurd (cc); told = others_grow store old new id g.before (fetched.BadBlock len) g.after g.gets };
    sound = λ tells mine sound honest.
        let b = g.gets.sound tells mine sound honest in
        made_sound mine (stepped.BadBlock len) got g.before g.after (fetched.BadBlock len) b g.gets.taken
        (λ sets s u stands container set_of passes at under.
        let a = sides (fetched.BadBlock len) w sets s u stands set_of in
        let own : w.away.txn.txn.base.block ≡ g.before.block = own_size pages o asked n p id w.away w.opened ∙ ap (λ (x : Blocks). x.block) (sym (cache_was (fetched.BadBlock len) w g)) in
        absurd (not_other (history_of new.log) sets w.away.txn id len g.before.block a.fits a.listed own b.ends.1 b.ends.2));
  }

  out_of_memory : (w : Wanted fetched.NoMemory) → Gets store old new id asked fetched.NoMemory got → StepIs access store old new pages o n p stepped.NoMemory got
  out_of_memory w g = record {
    steps = kept_all fetched.NoMemory stepped.NoMemory refl w;
    says = record { taken = g.gets.taken; later = g.gets.later; failed = λ fault. absurd (cc); told = others_grow store old new id g.before fetched.NoMemory g.after g.gets };
    sound = λ tells mine sound honest. by (g.gets.sound tells mine sound honest) g.gets.taken;
  }
    where
      rests : StepsSides access (history_of new.log) pages o n p false outcome.Ok stepped.NoMemory got
      rests sets s u stands container set_of passes at under = side_is fetched.NoMemory w g sets s u (sides fetched.NoMemory w sets s u stands set_of)

      by : {mine : List Id16} → BlockGetSound store mine old new id g.before fetched.NoMemory g.after → MayTakeOutcome store old new → StepSound access store mine old new pages o n p stepped.NoMemory got
      by {mine = mine} b (inl taken) = made_sound mine stepped.NoMemory got g.before g.after fetched.NoMemory b taken (λ sets s u stands container set_of passes at under. rests sets s u stands container set_of passes at (λ made. absurd (cc)))
      by {mine = mine} b (inr same) =
          record { growth = b.growth; no_own = b.no_own; made = false; unmade = λ none. same; taken = λ made. absurd (cc); request = outcome.Ok; next = λ made. absurd (cc); steps = rests }

  pub kept_is : (f : Fetched) (r : Stepped) → kept_out f ≡ Some r → IsAsked access pages o n p (came.Absent id) asked → AreOpen o → IsAway pages o n p id asked → Brings store old new id asked f got
      → StepIs access store old new pages o n p r got
  kept_is (fetched.In slot) r is first opened away brings = absurd (cc)
  kept_is fetched.CacheFull r is first opened away brings = absurd (gets_of store old new id asked fetched.CacheFull got brings).gets.leaves
  kept_is fetched.Gone r is first opened away brings =
      subst (λ (y : Stepped). StepIs access store old new pages o n p y got) (same_Some stepped.Gone r is)
      (gone_is (record { first = first; opened = opened; away = away; brings = brings }) (gets_of store old new id asked fetched.Gone got brings))
  kept_is (fetched.BadBlock len) r is first opened away brings =
      subst (λ (y : Stepped). StepIs access store old new pages o n p y got) (same_Some (stepped.BadBlock len) r is)
      (bad_is len (record { first = first; opened = opened; away = away; brings = brings }) (gets_of store old new id asked (fetched.BadBlock len) got brings))
  kept_is fetched.StoreFault r is first opened away brings =
      subst (λ (y : Stepped). StepIs access store old new pages o n p y got) (same_Some stepped.StoreFault r is)
      (fault_is (record { first = first; opened = opened; away = away; brings = brings }) (gets_of store old new id asked fetched.StoreFault got brings))
  kept_is fetched.NoMemory r is first opened away brings =
      subst (λ (y : Stepped). StepIs access store old new pages o n p y got) (same_Some stepped.NoMemory r is)
      (out_of_memory (record { first = first; opened = opened; away = away; brings = brings }) (gets_of store old new id asked fetched.NoMemory got brings))

  -- ---- the block came in

  -- the transactions stand for the same side
  stands_then : (slot : ℕ) (w : Wanted (fetched.In slot)) (g : Gets store old new id asked (fetched.In slot) got) (bytes : List ℕ) (sets : ℕ → Held) (s : Side) (u : Up)
      → first_put (history_of new.log) id ≡ Some bytes → g.after ≡ filled slot id bytes g.before → StandsFor (history_of new.log) sets o s u → StandsFor (history_of new.log) sets got s u
  stands_then slot w g bytes sets s u first filled_is stands =
      let past : List Item = history_of new.log in
      let txns : got.txns ≡ o.txns = txns_are (fetched.In slot) w g in
      let was : g.before ≡ w.away.cache = cache_was (fetched.In slot) w g in
      let cached : AllByRecursion (FitsEntry past) g.before.entries =
      subst (λ (c : Blocks). AllByRecursion (FitsEntry past) c.entries) (sym was) (subst (λ (x : Option Blocks). IfSome x (λ (c : Blocks). AllByRecursion (FitsEntry past) c.entries)) w.away.cache_is stands.fit.cached)
      in
      let block : s.container.block ≡ g.before.block =
      subst (λ (c : Blocks). s.container.block ≡ c.block) (sym was) (subst (λ (x : Option Blocks). IfSome x (λ (c : Blocks). s.container.block ≡ c.block)) w.away.cache_is stands.block)
      in
      let then_ : AllByRecursion (FitsEntry past) g.after.entries =
      subst (λ (c : Blocks). AllByRecursion (FitsEntry past) c.entries) (sym filled_is) (first, all_room_made (FitsEntry past) g.before cached)
      in
      record {
        sound = stands.sound;
        fit = record {
          txns = subst (λ (ts : List OpenTxn). AllByRecursion (λ (t : OpenTxn). FitsTxn past (open_part sets t)) ts) (sym txns) stands.fit.txns;
          cached = subst (λ (x : Option Blocks). IfSome x (λ (c : Blocks). AllByRecursion (FitsEntry past) c.entries)) (sym g.after_is) then_;
        };
        txns = stands.txns ∙ ap (seen_txns past sets) (sym txns);
        block = subst (λ (x : Option Blocks). IfSome x (λ (c : Blocks). s.container.block ≡ c.block)) (sym g.after_is) (block ∙ ap (λ (c : Blocks). c.block) (sym filled_is));
        slots = stands.slots ∙ ap (λ (x : Open). x.slots) (sym w.away.same) ∙ sym g.slots;
      }

  pub again_is : (slot : ℕ) (c : Came) (r : Stepped) (last : Open) → IsAsked access pages o n p (came.Absent id) asked → AreOpen o → IsAway pages o n p id asked → Brings store old new id asked (fetched.In slot) got
      → IsAsked access pages got n p c last → IsAgain c → ComesAs c r → StepIs access store old new pages o n p r last
  again_is slot c r last first opened away brings second again is =
      let w : Wanted (fetched.In slot) = record { first = first; opened = opened; away = away; brings = brings } in
      let g : Gets store old new id asked (fetched.In slot) got = gets_of store old new id asked (fetched.In slot) got brings in
      record {
        steps = (came.Absent id, asked, first.calls, (fetched.In slot, got, brings, (c, second.calls, again, is)));
        says = record {
          taken = takes_one store old new c r again is g.gets.taken;
          later = g.gets.later;
          failed = λ fault. absurd (no_fault c r is fault);
          told = others_grow store old new id g.before (fetched.In slot) g.after g.gets;
        };
        sound = λ tells mine sound honest.
            let b = g.gets.sound tells mine sound honest in
            made_sound mine r last g.before g.after (fetched.In slot) b g.gets.taken
            (λ sets s u stands container set_of passes at under.
            let after : StandsFor (history_of new.log) sets got s u = stands_then slot w g b.ends.0 sets s u b.ends.2 b.ends.4 stands in
            let same_set : IsSetOf pages sets n got.txns = subst (IsSetOf pages sets n) (sym (txns_are (fetched.In slot) w g)) set_of in
            comes_steps access s u n p at c r (side_with (history_of new.log) sets s u last.txns) passes is (second.machine (history_of new.log) sets s u after same_set));
      }

-- ---- the answers of the private calls

pub comes_as : (c : Came) (r : Stepped) (w : Result Id16 Stepped) → Wants c w → w ≡ Err r → ComesAs c r
comes_as c r w wants is = subst (Wants c) is wants

-- a fetch that keeps nothing out brought the block in
record IsIn (f : Fetched) : Type 0 where
  slot : ℕ
  is : f ≡ fetched.In slot

came_in : (f : Fetched) (o : Option Stepped) → o ≡ kept_out f → o ≡ None → IsIn f
came_in f o is none = by f (sym is ∙ none)
  where
    by : (x : Fetched) → kept_out x ≡ None → IsIn x
    by (fetched.In slot) out = record { slot = slot; is = refl }
    by fetched.CacheFull out = absurd (cc)
    by fetched.Gone out = absurd (cc)
    by (fetched.BadBlock len) out = absurd (cc)
    by fetched.StoreFault out = absurd (cc)
    by fetched.NoMemory out = absurd (cc)

-- the page is asked for, and its block is wanted
pub record IsWanted (access : Access) (pages : Held) (o asked : Open) (n p : ℕ) (id : Id16) : Type 0 where
  pub first : IsAsked access pages o n p (came.Absent id) asked
  pub opened : AreOpen o
  pub away : IsAway pages o n p id asked

pub wanted : (access : Access) (pages : Held) (o asked : Open) (n p : ℕ) (c : Came) (id : Id16) (w : Result Id16 Stepped) → Wants c w → w ≡ Ok id → IsAsked access pages o n p c asked → AreOpen o → IsWanted access pages o asked n p id
wanted access pages o asked n p c id w wants_it is a opened =
    let absent : c ≡ came.Absent id = subst (Wants c) is wants_it in
    let first : IsAsked access pages o n p (came.Absent id) asked = subst (λ (x : Came). IsAsked access pages o n p x asked) absent a in
    record { first = first; opened = opened; away = wants access pages o asked n p id opened first.calls }

-- a fetch of the block
pub record IsFetched (store : StoreTold) (old new : StoreShown) (id : Id16) (asked : Open) (f : Fetched) (got : Open) : Type 0 where
  pub fetches : CallsIn asked got (f ≡ fetched.CacheFull) (λ c d. BlockFetches (slot_of id c.entries) (has_room c) store old new id c f d)
  pub same : got.txns ≡ asked.txns

module _ (access : Access) (store : StoreTold) (old new : StoreShown) (pages : Held) (o asked : Open) (n p : ℕ) (id : Id16) (f : Fetched) (got : Open) where
  brought : IsWanted access pages o asked n p id → IsFetched store old new id asked f got → Brings store old new id asked f got
  brought w is = brings store old new pages n p id o asked f got w.away is.fetches is.same

  pub kept : (r : Stepped) (k : Option Stepped) → k ≡ kept_out f → k ≡ Some r → IsWanted access pages o asked n p id → IsFetched store old new id asked f got → StepIs access store old new pages o n p r got
  kept r k out is w got_is = kept_is access store old new pages o asked n p id got f r (sym out ∙ is) w.first w.opened w.away (brought w got_is)

  -- the block came in
  into : (k : Option Stepped) (out : k ≡ kept_out f) (none : k ≡ None) → IsWanted access pages o asked n p id → IsFetched store old new id asked f got
      → Brings store old new id asked (fetched.In (came_in f k out none).slot) got
  into k out none w got_is = subst (λ (x : Fetched). Brings store old new id asked x got) (came_in f k out none).is (brought w got_is)

  pub still_open : (P : OpenTxn → Type 0) → IsWanted access pages o asked n p id → IsFetched store old new id asked f got → IfSome (txn_at n o.txns) P → IfSome (txn_at n got.txns) P
  still_open P w got_is can = subst (λ (ts : List OpenTxn). IfSome (txn_at n ts) P) (sym (got_is.same ∙ ap (λ (x : Open). x.txns) w.away.same)) can

  pub here_again : (k : Option Stepped) → k ≡ kept_out f → k ≡ None → IsWanted access pages o asked n p id → IsFetched store old new id asked f got → (c : Came) (last : Open) → PageCalls access pages got n p c last → IsAgain c
  here_again k out none w got_is c last calls =
      let slot : ℕ = (came_in f k out none).slot in
      comes_again access pages got last n p c
      (here store old new pages n p slot id o asked got w.away (gets_of store old new id asked (fetched.In slot) got (into k out none w got_is))) calls

  pub comes : (k : Option Stepped) → k ≡ kept_out f → k ≡ None → IsWanted access pages o asked n p id → IsFetched store old new id asked f got → (c : Came) (r : Stepped) (last : Open) → IsAsked access pages got n p c last
      → ComesAs c r → StepIs access store old new pages o n p r last
  comes k out none w got_is c r last second is =
      again_is access store old new pages o asked n p id got (came_in f k out none).slot c r last w.first w.opened w.away (into k out none w got_is) second
      (here_again k out none w got_is c last second.calls) is
