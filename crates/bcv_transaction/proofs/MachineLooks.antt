-- A look is the machine's.
use Rattle.std.proofs.Common.{◌≡◌, ◌∙◌, ℕ, Bool, true, false, not, ◌||◌, List, [], ◌∷◌, Option, Some, None, IfSome, is_some, option_map, refl, sym, ap, subst, inl, inr}
use Rattle.std.specs.List.{AllByRecursion}
use Rattle.bcv_base.specs.History.{Item}
use Rattle.bcv_base.specs.Image.{page_of, zeros}
use Rattle.bcv_base.specs.Views.{Added, FromBase, Wrote}
use Rattle.bcv_cache.specs.Entry.{Blocks, Entry, Pinned}
use Rattle.bcv_clientstate.specs.Fits.{FitsEntry, FitsTxn}
use Rattle.bcv_clientstate.proofs.GoneLaws.{found_among}
use Rattle.bcv_dbmap.specs.Sound.{Sound}
use Rattle.bcv_machine.specs.Reading.{Looks, Shows}
use Rattle.bcv_machine.specs.Refusals.{UnlessRefused, first_reason, look_reason}
use Rattle.bcv_machine.specs.Refusals.{is_outside as machine_outside}
use Rattle.bcv_machine.specs.State.{Side, Txn, Up, holds, is_local, with_up}
use Rattle.bcv_machine.specs.State.{txn_at as machine_txn}
use Rattle.bcv_model.specs.declared.reply.Reply.{Reply}
use Rattle.bcv_model.specs.declared.reply.Reply.TheVariants as reply
use Rattle.bcv_pages.specs.Held.{Held}
use Rattle.bcv_snapshot.specs.declared.look.Look.{Look}
use Rattle.bcv_snapshot.specs.declared.look.Look.TheVariants as look
use Rattle.bcv_snapshot.specs.FixedImage.{ArePut, HasFirst, Moment, ShowsPage, fixed_image}
use Rattle.bcv_snapshot.specs.Pins.{HasPins}
use Rattle.bcv_snapshot.specs.TxnCalls.{TxnLooks}
use Rattle.bcv_snapshot.proofs.HeldBlocks.{all_imply}
use Rattle.bcv_snapshot.proofs.ImageLaws.{looks_at_fixed_image}
use Rattle.bcv_snapshot.proofs.PinLaws.{pins_some, pins_swap}
use Rattle.std.proofs.lemmas.Bool.{cases_Bool}
use Rattle.bcv_snapshot.proofs.SoundFetch.{versions_are_put}
use Rattle.bcv_transaction.specs.declared.open_txn.OpenTxn.{OpenTxn}
use Rattle.bcv_transaction.specs.MachineCalls.{IsSetOf, LooksAs, StandsFor, open_part, seen_txns, side_with}
use Rattle.bcv_transaction.specs.ListCalls.{LooksIn, LooksOf}
use Rattle.bcv_transaction.specs.Open.{AreOpenWith, CanRead, Open, all_held, is_numbered, txn_at, view_in}
use Rattle.bcv_transaction.proofs.MachineLists.{seen, seen_at, side_same}
use Rattle.bcv_transaction.proofs.MachinePages.{holds_seen, local_seen, none_outside, one_of, outside_seen, some_inside}

-- the blocks of a transaction's base were put
pub blocks_put : (past : List Item) (sets : ℕ → Held) (t : OpenTxn) → Sound past → FitsTxn past (open_part sets t) → ArePut past t.txn.base
blocks_put past sets t sound fits =
    versions_are_put past fits.base.manifest t.txn.base sound fits.base.published (found_among t.txn.base.entry.name fits.base.manifest.dbs t.txn.base.entry fits.base.listed) (sym fits.base.block_is)

module _ (past : List Item) (sets : ℕ → Held) (t : OpenTxn) (c : Blocks) (s : Side) (u : Up) (n p : ℕ) (now : Side) where
  -- the reasons against a look, by two tests
  reasons : (a b : Bool) → machine_outside p (seen past sets t) ≡ a → (is_local (seen past sets t) p || holds s.container (seen past sets t) p) ≡ b
      → look_reason s.container p (Some (seen past sets t)) ≡ first_reason ((a, reply.BadPage) ∷ (not b, reply.NotHeld) ∷ [])
  reasons a b outside hand =
      ap (λ (x : Bool). first_reason ((x, reply.BadPage) ∷ (not (is_local (seen past sets t) p || holds s.container (seen past sets t) p), reply.NotHeld) ∷ [])) outside
      ∙ ap (λ (x : Bool). first_reason ((a, reply.BadPage) ∷ (not x, reply.NotHeld) ∷ [])) hand

  -- a look of the transaction, by the reason against it
  looked : (r : Reply) (reason : Option Reply) → machine_txn u n ≡ Some (seen past sets t) → look_reason s.container p (Some (seen past sets t)) ≡ reason
      → UnlessRefused reason (with_up s u) r now (Shows s u (Some (seen past sets t)) p r now) → Looks s u n p r now
  looked r reason at is does =
      subst (λ (o : Option Txn). UnlessRefused (look_reason s.container p o) (with_up s u) r now (Shows s u o p r now)) (sym at)
      (subst (λ (o : Option Reply). UnlessRefused o (with_up s u) r now (Shows s u (Some (seen past sets t)) p r now)) (sym is) does)

  shown : (r : Look) → machine_txn u n ≡ Some (seen past sets t) → now ≡ with_up s u → s.container.block ≡ t.txn.base.block
      → ShowsPage t.txn.base.entry.page_size (page_of (fixed_image past t.txn.base (view_in (sets t.set) t)) p) r → TxnLooks t.txn (view_in (sets t.set) t) c p r → LooksAs s u n p r now
  shown look.BadPage at same block page looks =
      let out = outside_seen past sets t p true (none_outside t.txn.base (view_in (sets t.set) t) p looks) in
      looked reply.BadPage (Some reply.BadPage) at (reasons true (is_local (seen past sets t) p || holds s.container (seen past sets t) p) out refl) (refl, same)
  shown (look.Page bytes) at same block page (inl wrote) =
      let is = some_inside t.txn.base (view_in (sets t.set) t) p (Wrote bytes.now) wrote in
      let inside = outside_seen past sets t p false is.inside in
      let local = local_seen past sets t p (Wrote bytes.now) is.from in
      looked (reply.Page bytes.now) None at (reasons false true inside (ap (λ (b : Bool). b || holds s.container (seen past sets t) p) local)) (page, same)
  shown (look.Page bytes) at same block page (inr held) =
      let is = some_inside t.txn.base (view_in (sets t.set) t) p FromBase held.0 in
      let inside = outside_seen past sets t p false is.inside in
      let local = local_seen past sets t p FromBase is.from in
      let has : holds s.container (seen past sets t) p ≡ true = holds_seen past sets t s.container p block ∙ ap (λ (o : Option Pinned). is_some o) held.1.held in
      looked (reply.Page bytes.now) None at (reasons false true inside (ap (λ (b : Bool). b || holds s.container (seen past sets t) p) local ∙ has)) (page, same)
  shown look.Zeros at same block page looks =
      let is = some_inside t.txn.base (view_in (sets t.set) t) p Added looks in
      let inside = outside_seen past sets t p false is.inside in
      let local = local_seen past sets t p Added is.from in (
        seen past sets t,
        at,
        looked (reply.Page (zeros t.txn.base.entry.page_size)) None at (reasons false true inside (ap (λ (b : Bool). b || holds s.container (seen past sets t) p) local)) (page, same),
      )
  shown look.NotHeld at same block page looks =
      let is = some_inside t.txn.base (view_in (sets t.set) t) p FromBase looks.0 in
      let inside = outside_seen past sets t p false is.inside in
      let local = local_seen past sets t p FromBase is.from in
      let free : holds s.container (seen past sets t) p ≡ false = holds_seen past sets t s.container p block ∙ ap (λ (o : Option Pinned). is_some o) looks.1 in
      looked reply.NotHeld (Some reply.NotHeld) at (reasons false false inside (ap (λ (b : Bool). b || holds s.container (seen past sets t) p) local ∙ free)) (refl, same)
  shown look.NoTxn at same block page looks = absurd looks

  -- what a look shows is the page of the image
  pub page_shown : (r : Look) → Sound past → FitsTxn past (open_part sets t) → CanRead (sets t.set) t → AllByRecursion (FitsEntry past) c.entries → HasPins t.txn.held c.entries
      → TxnLooks t.txn (view_in (sets t.set) t) c p r → ShowsPage t.txn.base.entry.page_size (page_of (fixed_image past t.txn.base (view_in (sets t.set) t)) p) r
  page_shown r sound fits can cached pins looks =
      let a : Moment = record { pages = sets t.set; cache = c; past = past } in
      let first : AllByRecursion (HasFirst past t.txn.base) c.entries = all_imply (FitsEntry past) (HasFirst past t.txn.base) (λ e is has. is) c.entries cached in
      looks_at_fixed_image a a [] t.txn p r fits.is_txn (record { view = can; put = blocks_put past sets t sound fits; first = first }) refl pins looks

  pub looks_so : (r : Look) → machine_txn u n ≡ Some (seen past sets t) → now ≡ with_up s u → s.container.block ≡ t.txn.base.block → Sound past → FitsTxn past (open_part sets t) → CanRead (sets t.set) t
      → AllByRecursion (FitsEntry past) c.entries → HasPins t.txn.held c.entries → TxnLooks t.txn (view_in (sets t.set) t) c p r → LooksAs s u n p r now
  looks_so r at same block sound fits can cached pins looks = shown r at same block (page_shown r sound fits can cached pins looks) looks

-- the pins of one of the transactions
pub pins_of_one : (ts : List OpenTxn) (n : ℕ) (t : OpenTxn) (es : List Entry) → txn_at n ts ≡ Some t → HasPins (all_held ts) es → HasPins t.txn.held es
pins_of_one [] n t es found pins = absurd (cc)
pins_of_one (y ∷ ts) n t es found pins = elim (cases_Bool (is_numbered n y)) [
  | inl is ↦ (let same : y ≡ t = (let some = rw is at found in cc) in
      subst (λ (z : OpenTxn). HasPins z.txn.held es) same (pins_some y.txn.held (all_held ts) es pins))
  | inr is ↦ pins_of_one ts n t es (rw is at found) (pins_some (all_held ts) y.txn.held es (pins_swap y.txn.held (all_held ts) es pins))
]

-- a look of no transaction
none_looked : (past : List Item) (sets : ℕ → Held) (ts : List OpenTxn) (s : Side) (u : Up) (n p : ℕ) → u.txns ≡ seen_txns past sets ts → txn_at n ts ≡ None
    → LooksAs s u n p look.NoTxn (side_with past sets s u ts)
none_looked past sets ts s u n p is none =
    let now : Side = side_with past sets s u ts in
    let at : machine_txn u n ≡ None = seen_at past sets n ts u is ∙ ap (option_map (seen past sets)) none in
    subst (λ (o : Option Txn). UnlessRefused (look_reason s.container p o) (with_up s u) reply.NoTxn now (Shows s u o p reply.NoTxn now)) (sym at) (refl, side_same past sets s u ts is)

pub all_looks : (past : List Item) (sets : ℕ → Held) (o : Open) (s : Side) (u : Up) (c : Blocks) (n p : ℕ) (pages : Held) (r : Look) → o.cache ≡ Some c → AreOpenWith o.slots o.cache o.txns → StandsFor past sets o s u
    → IsSetOf pages sets n o.txns → IfSome (txn_at n o.txns) (CanRead pages) → LooksIn pages c o.txns n p r → LooksAs s u n p r (side_with past sets s u o.txns)
all_looks past sets o s u c n p pages r cache opened stands set_of can looks = by (txn_at n o.txns) refl
  where
    by : (x : Option OpenTxn) → txn_at n o.txns ≡ x → LooksAs s u n p r (side_with past sets s u o.txns)
    by None found =
        let no_txn : r ≡ look.NoTxn = subst (λ (x : Option OpenTxn). LooksOf pages c x p r) found looks in
        subst (λ (y : Look). LooksAs s u n p y (side_with past sets s u o.txns)) (sym no_txn) (none_looked past sets o.txns s u n p stands.txns found)
    by (Some t) found =
        let in_ : AreOpenWith o.slots (Some c) o.txns = subst (λ (x : Option Blocks). AreOpenWith o.slots x o.txns) cache opened in
        let same : sets t.set ≡ pages = subst (λ (x : Option OpenTxn). IfSome x (λ (y : OpenTxn). sets y.set ≡ pages)) found set_of in
        let readable : CanRead pages t = subst (λ (x : Option OpenTxn). IfSome x (CanRead pages)) found can in
        let shows : TxnLooks t.txn (view_in pages t) c p r = subst (λ (x : Option OpenTxn). LooksOf pages c x p r) found looks in
        let block : s.container.block ≡ c.block = subst (λ (x : Option Blocks). IfSome x (λ (y : Blocks). s.container.block ≡ y.block)) cache stands.block in
        let own : t.txn.base.block ≡ c.block = one_of (λ (x : OpenTxn). x.txn.base.block ≡ c.block) (is_numbered n) o.txns t in_.0.blocks found in
        let cached : AllByRecursion (FitsEntry past) c.entries = subst (λ (x : Option Blocks). IfSome x (λ (y : Blocks). AllByRecursion (FitsEntry past) y.entries)) cache stands.fit.cached in
        let fits : FitsTxn past (open_part sets t) = one_of (λ (x : OpenTxn). FitsTxn past (open_part sets x)) (is_numbered n) o.txns t stands.fit.txns found in
        looks_so past sets t c s u n p (side_with past sets s u o.txns) r (seen_at past sets n o.txns u stands.txns ∙ ap (option_map (seen past sets)) found) (side_same past sets s u o.txns stands.txns)
        (block ∙ sym own) stands.sound fits (subst (λ (h : Held). CanRead h t) (sym same) readable) cached (pins_of_one o.txns n t c.entries found in_.0.pins)
        (subst (λ (h : Held). TxnLooks t.txn (view_in h t) c p r) (sym same) shows)
