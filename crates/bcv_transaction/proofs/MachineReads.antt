-- A read is the machine's.
use Rattle.std.proofs.Common.{◌≡◌, ◌∙◌, ℕ, ◌+◌, ◌/◌, ◌^◌, ◌≤◌, min, Bool, true, false, cond, ◌||◌, nat_le, List, [], ◌∷◌, ◌++◌, map, length, Option, Some, None, IfSome, option_map, unwrap_or, refl, sym, ap, subst, arith}
use Rattle.std.specs.Cmp.{first_so, second_so}
use Rattle.std.specs.List.{AllByRecursion, flat_map}
use Rattle.std.proofs.lemmas.Bool.{leb-true}
use Rattle.std.proofs.lemmas.List.{length-append, length-map}
use Rattle.bcv_base.specs.declared.id.Id16.{Id16}
use Rattle.bcv_base.specs.declared.seen.TxnBase.{TxnBase}
use Rattle.bcv_base.specs.History.{Item}
use Rattle.bcv_base.specs.Image.{Page, Writes, page_of, zeros}
use Rattle.bcv_base.specs.Joined.{image_of, joined}
use Rattle.bcv_base.specs.Views.{Added, FromBase, Origin, Wrote, origin, page_from, view_size}
use Rattle.bcv_base.proofs.Views.{page_of-view_image}
use Rattle.bcv_cache.specs.Entry.{Blocks}
use Rattle.bcv_cache.specs.Cache.{IsCache, has_room}
use Rattle.bcv_machine.specs.Reading.{Fetches, FetchesIn, FetchesOf}
use Rattle.bcv_machine.specs.Refusals.{UnlessRefused, first_reason, page_reason}
use Rattle.bcv_machine.specs.Refusals.{is_outside as machine_outside}
use Rattle.bcv_machine.specs.State.{Access, Side, ToHold, ToRead, Txn, Up, held_pairs, holds, is_at_hand, slot_count, txn_image, with_up}
use Rattle.bcv_machine.specs.State.{txn_at as machine_txn}
use Rattle.bcv_model.specs.declared.reply.Reply.{Reply}
use Rattle.bcv_model.specs.declared.reply.Reply.TheVariants as reply
use Rattle.bcv_pages.specs.Held.{Held}
use Rattle.bcv_snapshot.specs.declared.held_block.HeldBlock.{HeldBlock}
use Rattle.bcv_snapshot.specs.declared.place.Place.{Place}
use Rattle.bcv_snapshot.specs.declared.place.Place.TheVariants as place
use Rattle.bcv_snapshot.specs.FixedImage.{HasFirst, Moment, PlacesPage, fixed_image}
use Rattle.bcv_snapshot.specs.Opened.{is_page, source_of}
use Rattle.bcv_snapshot.specs.TxnCalls.{TxnPlaces}
use Rattle.bcv_snapshot.proofs.PageOfBlock.{length_pages}
use Rattle.bcv_transaction.specs.declared.answers.Came.{Came}
use Rattle.bcv_transaction.specs.declared.answers.Came.TheVariants as came
use Rattle.bcv_transaction.specs.declared.open_txn.OpenTxn.{OpenTxn}
use Rattle.bcv_transaction.specs.MachineCalls.{Comes, IsSetOf, StandsFor, open_part, seen_txns, side_with}
use Rattle.bcv_transaction.specs.ListCalls.{ReadsIn, ReadsOf, SameSize}
use Rattle.bcv_transaction.specs.Open.{AreOpenIn, AreOpenWith, CanRead, Open, all_held, is_numbered, txn_at, view_in}
use Rattle.bcv_transaction.specs.PageCalls.{IsCopy, ReadAs, ReadsPage, absent_as}
use Rattle.bcv_transaction.proofs.CachedHeld.{not_held}
use Rattle.bcv_transaction.proofs.FullCache.{full_is_held}
use Rattle.bcv_transaction.proofs.MachineLooks.{blocks_put, pins_of_one}
use Rattle.bcv_clientstate.specs.Fits.{FitsEntry, FitsTxn}
use Rattle.bcv_snapshot.specs.Pins.{HasPins}
use Rattle.bcv_snapshot.proofs.HeldBlocks.{all_imply}
use Rattle.bcv_snapshot.proofs.ImageLaws.{places_in_fixed_image}
use Rattle.bcv_transaction.proofs.MachineLists.{seen, seen_at, side_same}
use Rattle.bcv_transaction.proofs.MachinePages.{holds_seen, local_seen, none_outside, one_of, outside_seen, some_inside}

-- a page that a commit of the view wrote is the image's
pub wrote_page : (past : List Item) (base : TxnBase) (cs : List Writes) (p : ℕ) (bytes : Page) → source_of base cs p ≡ Some (Wrote bytes) → page_of (fixed_image past base cs) p ≡ Some bytes
wrote_page past base cs p bytes e = by (is_page base cs p) refl e
  where
    by : (b : Bool) → is_page base cs p ≡ b → cond b (Some (origin base.entry.pages cs p)) None ≡ Some (Wrote bytes) → page_of (fixed_image past base cs) p ≡ Some bytes
    by false is some = absurd (cc)
    by true is some =
        let image : List Page = image_of past base.entry.pages base.entry.page_size base.entry.blocks in
        let long : length image ≡ base.entry.pages = length_pages base.entry.pages base.entry.page_size (joined past base.entry.blocks) in
        let from : origin base.entry.pages cs p ≡ Wrote bytes = cc in
        let one : 1 ≤ p = leb-true 1 p (first_so (nat_le 1 p) (nat_le p (view_size base.entry.pages cs)) is) in
        let within : p ≤ view_size base.entry.pages cs = leb-true p (view_size base.entry.pages cs) (second_so (nat_le 1 p) (nat_le p (view_size base.entry.pages cs)) is) in
        let read : Page = unwrap_or (page_of image p) (zeros base.entry.page_size) in
        page_of-view_image base.entry.page_size image cs p one (subst (λ (n : ℕ). p ≤ view_size n cs) (sym long) within)
        ∙ ap (λ (n : ℕ). Some (page_from read (zeros base.entry.page_size) (origin n cs p))) long
        ∙ ap (λ (o : Origin). Some (page_from read (zeros base.entry.page_size) o)) from

-- the pairs of a transaction and a held block
pub pairs_seen : (past : List Item) (sets : ℕ → Held) (ts : List OpenTxn) → length (flat_map (λ (x : Txn). x.held) (seen_txns past sets ts)) ≡ length (all_held ts)
pairs_seen past sets [] = refl
pairs_seen past sets (t ∷ ts) =
    let rest = pairs_seen past sets ts in
    let ns : List ℕ = map (λ (h : HeldBlock). h.number) t.txn.held in
    let both : length (ns ++ flat_map (λ (x : Txn). x.held) (seen_txns past sets ts)) ≡ length ns + length (flat_map (λ (x : Txn). x.held) (seen_txns past sets ts)) =
    length-append ns (flat_map (λ (x : Txn). x.held) (seen_txns past sets ts))
    in
    let again : length (t.txn.held ++ all_held ts) ≡ length t.txn.held + length (all_held ts) = length-append t.txn.held (all_held ts) in
    let same : length ns ≡ length t.txn.held = length-map t.txn.held (λ (h : HeldBlock). h.number) in
    omega (arith, rest, both, again, same)

-- every slot may be pinned, whatever the page is wanted for
full_comes : (access : Access) (s : Side) (u : Up) (x : Txn) (p : ℕ) (now : Side) → is_at_hand s.container x p ≡ false → slot_count s ≤ held_pairs u → now ≡ with_up s u
    → FetchesIn access s u x p reply.CacheFull now
full_comes ToRead s u x p now away full same = (away, full, same)
full_comes ToHold s u x p now away full same = (away, full, same)

module _ (access : Access) (past : List Item) (sets : ℕ → Held) (t : OpenTxn) (s : Side) (u : Up) (n p : ℕ) (now : Side) where
  -- what comes of a page of the transaction, by whether it is one
  pub page_comes : (r : Reply) (b : Bool) → machine_txn u n ≡ Some (seen past sets t) → machine_outside p (seen past sets t) ≡ b
      → UnlessRefused (first_reason ((b, reply.BadPage) ∷ [])) (with_up s u) r now (FetchesIn access s u (seen past sets t) p r now) → Fetches access s u n p r now
  page_comes r b at outside does =
      subst (λ (o : Option Txn). UnlessRefused (page_reason p o) (with_up s u) r now (FetchesOf access s u o p r now)) (sym at)
      (subst (λ (x : Bool). UnlessRefused (first_reason ((x, reply.BadPage) ∷ [])) (with_up s u) r now (FetchesIn access s u (seen past sets t) p r now)) (sym outside) does)

  -- a block that is not cached: it wants a task where it can come in, and else the cache is full of held blocks
  pub away_comes : (r : Came) (id : Id16) (room : Bool) → machine_txn u n ≡ Some (seen past sets t) → machine_outside p (seen past sets t) ≡ false → now ≡ with_up s u
      → is_at_hand s.container (seen past sets t) p ≡ false → (room ≡ false → slot_count s ≤ held_pairs u) → r ≡ absent_as id room → Comes access s u n p r now
  away_comes r id true at inside same not_hand full is =
      subst (λ (x : Came). Comes access s u n p x now) (sym is)
      (record { passes = ap (page_reason p) at ∙ ap (λ (x : Bool). first_reason ((x, reply.BadPage) ∷ [])) inside; txn = seen past sets t; is_open = at; away = not_hand; same = same })
  away_comes r id false at inside same not_hand full is =
      subst (λ (x : Came). Comes access s u n p x now) (sym is)
      (page_comes reply.CacheFull false at inside (full_comes access s u (seen past sets t) p now not_hand (full refl) same))

module _ (past : List Item) (sets : ℕ → Held) (t : OpenTxn) (c d : Blocks) (s : Side) (u : Up) (n p : ℕ) (now : Side) where
  copied : (r : Came) (bytes : Page) → machine_txn u n ≡ Some (seen past sets t) → machine_outside p (seen past sets t) ≡ false → now ≡ with_up s u
      → page_of (txn_image (seen past sets t)) p ≡ Some bytes → IsCopy bytes r → Comes ToRead s u n p r now
  copied (came.Page copy) bytes at inside same page is = page_comes ToRead past sets t s u n p now (reply.Page copy.items) false at inside (page ∙ ap (λ (x : Page). Some x) (sym is), same)
  copied came.NoMemory bytes at inside same page is = same
  copied came.Held bytes at inside same page is = absurd is
  copied (came.Absent id) bytes at inside same page is = absurd is
  copied came.CacheFull bytes at inside same page is = absurd is
  copied came.BadPage bytes at inside same page is = absurd is
  copied came.NoTxn bytes at inside same page is = absurd is

  pub reads_so : (at : Place) (r : Came) → machine_txn u n ≡ Some (seen past sets t) → now ≡ with_up s u
      → PlacesPage past t.txn.base p (page_of (fixed_image past t.txn.base (view_in (sets t.set) t)) p) at d
      → ((id : _) → at ≡ place.Absent id → holds s.container (seen past sets t) p ≡ false)
      → (IsCache d → has_room d ≡ false → slot_count s ≤ held_pairs u)
      → TxnPlaces t.txn (view_in (sets t.set) t) c p at d → ReadAs t.txn (view_in (sets t.set) t) p at r d → Comes ToRead s u n p r now
  reads_so place.BadPage r is same page free full at read =
      subst (λ (x : Came). Comes ToRead s u n p x now) (sym read)
      (page_comes ToRead past sets t s u n p now reply.BadPage true is (outside_seen past sets t p true (none_outside t.txn.base (view_in (sets t.set) t) p at.0)) (refl, same))
  reads_so place.Local r is same page free full at read =
      let in_ = some_inside t.txn.base (view_in (sets t.set) t) p (Wrote read.0) read.1 in
      copied r read.0 is (outside_seen past sets t p false in_.inside) same (wrote_page past t.txn.base (view_in (sets t.set) t) p read.0 read.1) read.2
  reads_so place.Zeros r is same page free full at read =
      let in_ = some_inside t.txn.base (view_in (sets t.set) t) p Added at.0 in
      copied r (zeros t.txn.base.entry.page_size) is (outside_seen past sets t p false in_.inside) same page read
  reads_so (place.Cached slot) r is same page free full at read =
      let in_ = some_inside t.txn.base (view_in (sets t.set) t) p FromBase at.0 in
      copied r read.0 is (outside_seen past sets t p false in_.inside) same (page read.0 read.1) read.2
  reads_so (place.Absent id) r is same page free full at read =
      let in_ = some_inside t.txn.base (view_in (sets t.set) t) p FromBase at.0 in
      let local = local_seen past sets t p FromBase in_.from in
      away_comes ToRead past sets t s u n p now r id (has_room d) is (outside_seen past sets t p false in_.inside) same (ap (λ (b : Bool). b || holds s.container (seen past sets t) p) local ∙ free id refl) (full read.1) read.0

-- a page of no transaction
pub none_comes : (access : Access) (past : List Item) (sets : ℕ → Held) (ts : List OpenTxn) (s : Side) (u : Up) (n p : ℕ) → u.txns ≡ seen_txns past sets ts → txn_at n ts ≡ None
    → Comes access s u n p came.NoTxn (side_with past sets s u ts)
none_comes access past sets ts s u n p is none =
    let now : Side = side_with past sets s u ts in
    let at : machine_txn u n ≡ None = seen_at past sets n ts u is ∙ ap (option_map (seen past sets)) none in
    subst (λ (x : Option Txn). UnlessRefused (page_reason p x) (with_up s u) reply.NoTxn now (FetchesOf access s u x p reply.NoTxn now)) (sym at) (refl, side_same past sets s u ts is)

-- where no block can come in, every slot may be pinned
pub full_of_held : (past : List Item) (sets : ℕ → Held) (o : Open) (s : Side) (u : Up) (c d : Blocks) → o.cache ≡ Some c → AreOpenWith o.slots (Some c) o.txns → AreOpenIn d o.txns → SameSize c d
    → StandsFor past sets o s u → IsCache d → has_room d ≡ false → slot_count s ≤ held_pairs u
full_of_held past sets o s u c d cache opened after size stands is none =
    let block : s.container.block ≡ c.block = subst (λ (x : Option Blocks). IfSome x (λ (y : Blocks). s.container.block ≡ y.block)) cache stands.block in
    let most : d.most ≤ length (all_held o.txns) = full_is_held d (all_held o.txns) is after.no_others none in
    let pairs : held_pairs u ≡ length (all_held o.txns) = ap (λ (xs : List Txn). length (flat_map (λ (x : Txn). x.held) xs)) stands.txns ∙ pairs_seen past sets o.txns in
    let slots : slot_count s ≡ d.most =
    ap (λ (k : ℕ). min k (2 ^ 30 / s.container.block)) stands.slots ∙ ap (λ (k : ℕ). min o.slots (2 ^ 30 / k)) block ∙ sym opened.2 ∙ sym size.most
    in
    omega (arith, most, pairs, slots)

pub all_reads : (past : List Item) (sets : ℕ → Held) (o : Open) (s : Side) (u : Up) (c d : Blocks) (n p : ℕ) (pages : Held) (r : Came) → o.cache ≡ Some c → AreOpenWith o.slots (Some c) o.txns → AreOpenIn d o.txns → SameSize c d
    → StandsFor past sets o s u → IsSetOf pages sets n o.txns → IfSome (txn_at n o.txns) (CanRead pages) → ReadsIn pages c o.txns n p r d → Comes ToRead s u n p r (side_with past sets s u o.txns)
all_reads past sets o s u c d n p pages r cache opened after size stands set_of can reads = by (txn_at n o.txns) refl
  where
    block : s.container.block ≡ c.block
    block = subst (λ (x : Option Blocks). IfSome x (λ (y : Blocks). s.container.block ≡ y.block)) cache stands.block

    by : (x : Option OpenTxn) → txn_at n o.txns ≡ x → Comes ToRead s u n p r (side_with past sets s u o.txns)
    by None found =
        let no_txn = subst (λ (x : Option OpenTxn). ReadsOf pages c x p r d) found reads in
        subst (λ (y : Came). Comes ToRead s u n p y (side_with past sets s u o.txns)) (sym no_txn.0) (none_comes ToRead past sets o.txns s u n p stands.txns found)
    by (Some t) found =
        let same : sets t.set ≡ pages = subst (λ (x : Option OpenTxn). IfSome x (λ (y : OpenTxn). sets y.set ≡ pages)) found set_of in
        let readable : CanRead pages t = subst (λ (x : Option OpenTxn). IfSome x (CanRead pages)) found can in
        let said = subst (λ (h : Held). ReadsPage t.txn (view_in h t) c p r d) (sym same) (subst (λ (x : Option OpenTxn). ReadsOf pages c x p r d) found reads) in
        let own : t.txn.base.block ≡ c.block = one_of (λ (x : OpenTxn). x.txn.base.block ≡ c.block) (is_numbered n) o.txns t opened.0.blocks found in
        let cached : AllByRecursion (FitsEntry past) c.entries = subst (λ (x : Option Blocks). IfSome x (λ (y : Blocks). AllByRecursion (FitsEntry past) y.entries)) cache stands.fit.cached in
        let fits : FitsTxn past (open_part sets t) = one_of (λ (x : OpenTxn). FitsTxn past (open_part sets x)) (is_numbered n) o.txns t stands.fit.txns found in
        let pins : HasPins t.txn.held c.entries = pins_of_one o.txns n t c.entries found opened.0.pins in
        let a : Moment = record { pages = sets t.set; cache = c; past = past } in
        let first : AllByRecursion (HasFirst past t.txn.base) c.entries = all_imply (FitsEntry past) (HasFirst past t.txn.base) (λ e is has. is) c.entries cached in
        let page = places_in_fixed_image a a [] t.txn p said.0 d fits.is_txn
        (record { view = subst (λ (h : Held). CanRead h t) (sym same) readable; put = blocks_put past sets t stands.sound fits; first = first }) refl said.1
        in
        reads_so past sets t c d s u n p (side_with past sets s u o.txns) said.0 r (seen_at past sets n o.txns u stands.txns ∙ ap (option_map (seen past sets)) found) (side_same past sets s u o.txns stands.txns) page
        (λ id is. let at : TxnPlaces t.txn (view_in (sets t.set) t) c p (place.Absent id) d = subst (λ (x : Place). TxnPlaces t.txn (view_in (sets t.set) t) c p x d) is said.1 in
        holds_seen past sets t s.container p (block ∙ sym own) ∙ not_held t.txn p id c.entries fits.is_txn pins at.1 at.2)
        (full_of_held past sets o s u c d cache opened after size stands) said.1 said.2
