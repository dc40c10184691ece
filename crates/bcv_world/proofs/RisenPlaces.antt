-- A client that is down comes up, or stays down by a fault of its disk.
use Rattle.std.proofs.Common.{◌≡◌, ◌≢◌, ◌∙◌, ◌+◌, ◌≤◌, ℕ, Bool, true, false, List, [], ◌∷◌, ◌++◌, length, append-nil, Option, None, is_some, inl, inr, refl, sym, ap, subst, arith}
use Rattle.std.proofs.lemmas.Option.{same_Some}
use Rattle.bcv_base.specs.declared.id.Id16.{Id16}
use Rattle.bcv_base.specs.declared.log.Entry.{Entry}
use Rattle.bcv_base.specs.declared.names.Draw.TheVariants as draw
use Rattle.bcv_base.specs.declared.seen.Latest.{Latest}
use Rattle.bcv_base.specs.Drawn.{Draws, NamesShown}
use Rattle.bcv_base.specs.History.{history_of}
use Rattle.bcv_base.specs.Numbered.{Counter, counted, numbered_names}
use Rattle.bcv_cache.specs.Entry as cache
use Rattle.bcv_clientlaws.specs.OtherParts.{Includes}
use Rattle.bcv_clientlaws.proofs.OtherParts.{includes_all}
use Rattle.bcv_clientlog.specs.LogParts.{log_disk}
use Rattle.bcv_clientstate.specs.Fits.{Fits}
use Rattle.bcv_clientstate.specs.Parts.{Parts}
use Rattle.bcv_clientstate.specs.SeenClient.{Free}
use Rattle.bcv_clientstate.specs.UpSides.{risen_free, risen_parts}
use Rattle.bcv_client.specs.CallNames.{LeavesFit}
use Rattle.bcv_client.specs.ClientParts.{entries_of, parts_of}
use Rattle.bcv_client.specs.ClientUp.{ComesBack, DownStill, IsBack, StartsEmpty, risen_of}
use Rattle.bcv_client.specs.Events.{StandsOver, client_side}
use Rattle.bcv_client.specs.InForm.{IsClient}
use Rattle.bcv_client.specs.Planned.{trouble_of}
use Rattle.bcv_client.specs.Shown.{ListsTable}
use Rattle.bcv_client.specs.declared.client.Client.{Client}
use Rattle.bcv_client.specs.declared.rising.Up.{Up}
use Rattle.bcv_client.specs.declared.rising.Up.TheVariants as up
use Rattle.bcv_dbmap.specs.Sound.{IsSoundLog}
use Rattle.bcv_disk.specs.contracts.memory.MemDiskDisk.TheImpl.{ghosts}
use Rattle.bcv_disk.specs.DiskShown.{DiskTold, Trouble}
use Rattle.bcv_disk.specs.Memory.{shown_of, tells_all}
use Rattle.bcv_disk.specs.Record.{Leaves}
use Rattle.bcv_disk.specs.Troubles.{Suffers}
use Rattle.bcv_disk.specs.declared.memory.MemDisk.{MemDisk}
use Rattle.bcv_machine.specs.CrashAndUp.{ComesUp}
use Rattle.bcv_model.specs.declared.event.Act.TheVariants as act
use Rattle.bcv_model.specs.declared.kept.Kept.{Kept}
use Rattle.bcv_model.specs.declared.reply.Reply.{Reply}
use Rattle.bcv_model.specs.declared.reply.Reply.TheVariants as reply
use Rattle.bcv_publisher.specs.PollStep.{IsReadForm}
use Rattle.bcv_risen.specs.Rises.{IsNamed, MayDraw, RiseEnds, RiseRefused, Rises}
use Rattle.bcv_risen.specs.RisenSides.{IsDown, side_down}
use Rattle.bcv_risen.specs.declared.risen.RiseFault.{RiseFault}
use Rattle.bcv_risen.specs.declared.risen.RiseFault.TheVariants as fault
use Rattle.bcv_risen.proofs.StaysDown.{crash_leaves_down}
use Rattle.bcv_worldlaws.specs.Places.{ClientPlace, DownPlace, UpPlace, FitsPlace, place_names}
use Rattle.bcv_worldlaws.specs.WorldLaws.{MovesPlace}
use Rattle.bcv_worldlaws.proofs.Names.{none_mine}
use Rattle.bcv_worldlaws.proofs.PlacesStay.{down_crashes, place_rises}
use Rattle.bcv_world.specs.declared.place.Place.TheVariants as place
use Rattle.bcv_world.specs.Standing.{ActsAs, IsSetAs, PlaceActs, StandsAs, StandsUp, slots_in}
use Rattle.bcv_world.specs.UpReplies.{down_reply, up_reply}
use Rattle.bcv_world.proofs.QuietPlaces.{moved_place, some_choice}
use Rattle.bcv_world.proofs.SetDisks.{burnt_out, failed_once, failure_was_set, fuse_was_set, set_after, unburnt_after}

-- ---- names

-- at most one name was drawn
pub record DrewFew (names later : Counter) : Type 0 where
  pub ids : List Id16
  pub drawn : numbered_names later.count ≡ numbered_names names.count ++ ids
  pub few : length ids ≤ 1

module _ (names later : Counter) where
  drew_none : counted later ≡ counted names → DrewFew names later
  drew_none same = record {
    ids = [];
    drawn = same_Some (numbered_names later.count) (numbered_names names.count) (ap (λ (s : NamesShown). s.drawn) same) ∙ sym (append-nil (numbered_names names.count));
    few = omega arith;
  }

  drew_one : (id : Id16) → Draws (counted names) (counted later) (draw.Drawn id) → DrewFew names later
  drew_one id draws = record { ids = id ∷ []; drawn = draws.names; few = omega arith }

  drew_by : (told : DiskTold) (bytes : List ℕ) → MayDraw told bytes (counted names) (counted later) → DrewFew names later
  drew_by told bytes (inl same) = drew_none same
  drew_by told bytes (inr one) = drew_one one.0 one.1

  drew_named : (left kept : Kept) (id : Id16) → IsNamed (counted names) (counted later) left id kept → DrewFew names later
  drew_named left kept id (inl had) = drew_none had.2
  drew_named left kept id (inr new) = drew_one id new.2

  drew_refused : (bytes : List ℕ) (disk : MemDisk) (why : RiseFault) → RiseRefused tells_all shown_of bytes (counted names) (counted later) disk why → DrewFew names later
  drew_refused bytes disk (fault.NotJournal at) refused = drew_none refused.0
  drew_refused bytes disk fault.DiskFault refused = drew_by tells_all bytes refused
  drew_refused bytes disk fault.NamesFault refused = record { ids = []; drawn = refused.0.names; few = omega arith }
  drew_refused bytes disk fault.NoMemory refused = drew_by tells_all bytes refused

  -- coming up draws so
  pub drew_up : {g : _} (disk : MemDisk) (result : Up MemDisk g) → RiseEnds tells_all shown_of disk (counted names) (counted later) (risen_of result) → DrewFew names later
  drew_up disk (up.Ready c) ends = drew_named ends.left c.ledger.databases.kept c.id ends.named
  drew_up disk (up.Refused back why) ends = drew_refused (shown_of disk).seen back why ends

-- ---- what a crash may leave

-- with no note in flight it fits the log
pub leaves_settled : {g : _} (log : List Entry) (c : Client MemDisk g) (f : Free) → f.flight ≡ None → StandsOver shown_of c log f → LeavesFit shown_of c log
leaves_settled log c f still over =
    (crash_leaves_down shown_of c.ledger.log (log_disk c.ledger.log) log (entries_of c) (parts_of c) f over.fits over.journaled still (λ image may. may)).fits

-- ---- a client that is down

-- a disk that is mended is that of a client that is down, too
module _ (disk mended : MemDisk) (is : mended ≡ record disk { burnt = false }) where
  mended_down : (log : List Entry) (id : Id16) (k : Kept) (f : Free) → IsDown (shown_of disk) log id k f → IsDown (shown_of mended) log id k f
  mended_down log id k f down =
      down_crashes shown_of disk mended log id k f f refl refl (λ image there. subst (λ (d : MemDisk). Leaves d.platter.acts image) is there) down

  mended_set : (f : Free) → IsSetAs (shown_of disk).trouble f → IsSetAs (shown_of mended).trouble f
  mended_set f set = subst (λ (d : MemDisk). IsSetAs (shown_of d).trouble f) (sym is) (record { fused = set.fused; failing = set.failing })

  mended_whole : (shown_of mended).trouble.burnt ≡ false
  mended_whole = ap (λ (d : MemDisk). d.burnt) is

-- what is free of a client where these are set
abbrev set_free : Bool → Bool → Free → Free
set_free fused failing f = record f { fused = fused; failing = failing }

-- it stays down, with what is set then
module _ (log : List Entry) (sound : IsSoundLog log) (moment : ℕ) (ids : List Id16) (back : MemDisk) (id : Id16) (k : Kept) (f : Free) (fits : FitsPlace log (DownPlace id k f)) where
  stays_down : (fused failing : Bool) (r : Reply) → IsDown (shown_of back) log id k f → IsSetAs (shown_of back).trouble (set_free fused failing f)
      → (r ≢ reply.NoMemory → ComesUp (side_down moment (history_of log) k f) r (side_down moment (history_of log) k (set_free fused failing f)))
      → ActsAs log log moment ids (place.Down back) (DownPlace id k f) act.Up r
  stays_down fused failing r down set comes =
      let now : ClientPlace = DownPlace id k (set_free fused failing f) in
      moved_place log sound moment ids (place.Down back) (DownPlace id k f) now act.Up r (some_choice id)
      (record { down = down_crashes shown_of back back log id k f (set_free fused failing f) refl refl (λ image there. there) down; set = set }) refl
      (record { fits = record { is_id = fits.is_id; kept = fits.kept }; names = includes_all (place_names (DownPlace id k f)) })
      (λ memory. (none_mine ids, (refl, comes memory)))

  -- a fuse has burnt the disk, or a failure was spent, or memory was missing
  module _ (old : Trouble) (set : IsSetAs old f) (whole : old.burnt ≡ false) where
    abbrev new : Trouble
    new = (shown_of back).trouble

    refused_by : (burnt : Bool) → new.burnt ≡ burnt → (why : RiseFault) → Suffers old new (why ≡ fault.DiskFault) → DownStill shown_of log id k f back why
        → ActsAs log log moment ids (place.Down back) (DownPlace id k f) act.Up (down_reply burnt why)
    refused_by true burnt (fault.NotJournal at) s still = absurd still
    refused_by true burnt fault.DiskFault s still =
        stays_down false f.failing reply.Crashed still (burnt_out old new s f set whole burnt) (λ memory. (fuse_was_set old new s f set whole burnt, refl))
    refused_by true burnt fault.NamesFault s still = absurd still
    refused_by true burnt fault.NoMemory s still =
        stays_down false f.failing reply.Crashed still (burnt_out old new s f set whole burnt) (λ memory. (fuse_was_set old new s f set whole burnt, refl))
    refused_by false whole_still (fault.NotJournal at) s still = absurd still
    refused_by false whole_still fault.DiskFault s still =
        stays_down f.fused false reply.DiskFault still (failed_once old new s f set whole refl whole_still) (λ memory. (failure_was_set old new s f set whole refl whole_still, refl))
    refused_by false whole_still fault.NamesFault s still = absurd still
    refused_by false whole_still fault.NoMemory s still =
        stays_down f.fused f.failing reply.NoMemory still (set_after old new s f set) (λ memory. absurd (memory refl))

-- ---- a client that comes up

module _ (log : List Entry) (sound : IsSoundLog log) (moment : ℕ) (ids : List Id16) (slots : ℕ) (c : Client MemDisk ghosts) (id : Id16) (k : Kept) (f : Free)
    (empty : StartsEmpty slots c) (back : IsBack shown_of log id k f c) where
  rises : MovesPlace log (DownPlace id k f) (UpPlace (parts_of c) (entries_of c) (risen_free f))
  rises =
      let kept : Kept = c.ledger.databases.kept in
      let parts : parts_of c ≡ risen_parts id kept c.seen = empty.parts ∙ ap (λ (i : Id16). risen_parts i kept c.seen) back.same in
      let fits : Fits (risen_parts id kept c.seen) [] log =
      subst (λ (q : Parts). Fits q [] log) parts (subst (λ (es : List cache.Entry). Fits (parts_of c) es log) empty.entries back.stands.fits) in
      record {
        fits = back.stands.fits;
        names =
            subst (λ (q : Parts). Includes (place_names (DownPlace id k f)) (place_names (UpPlace q (entries_of c) (risen_free f)))) (sym parts)
            (place_rises log id k kept c.seen f back.left fits).names;
      }

  -- the reply is its table, or memory was missing for that
  comes : (table : Reply) → ListsTable c.ledger.databases table → up_reply table ≢ reply.NoMemory
      → ComesUp (side_down moment (history_of log) k f) (up_reply table) (client_side moment log c (risen_free f))
  comes (reply.Table rows pending) lists memory =
      subst (λ (b : Bool). ComesUp (side_down moment (history_of log) k f) (reply.UpAgain rows b) (client_side moment log c (risen_free f))) (sym lists.1)
      (subst (λ (rs : _). ComesUp (side_down moment (history_of log) k f) (reply.UpAgain rs (is_some c.ledger.databases.kept.pending)) (client_side moment log c (risen_free f))) (sym lists.0)
      (back.comes_up moment))
  comes reply.NoMemory lists memory = absurd (memory refl)
  comes _ lists memory = absurd lists

  comes_back : (table : Reply) → ListsTable c.ledger.databases table → StandsUp log c (risen_free f) → ActsAs log log moment ids (place.Up c) (DownPlace id k f) act.Up (up_reply table)
  comes_back table lists stands =
      moved_place log sound moment ids (place.Up c) (DownPlace id k f) (UpPlace (parts_of c) (entries_of c) (risen_free f)) act.Up (up_reply table) (some_choice id) (refl, refl, stands) refl rises
      (λ memory. (none_mine ids, (refl, comes table lists memory)))

-- ---- the whole

module _ (log : List Entry) (names later : Counter) (moment slots : ℕ) (disk mended : MemDisk) (is : mended ≡ record disk { burnt = false }) where
  -- it is up
  pub ready_place : (c : Client MemDisk ghosts) (table : Reply) → Rises tells_all shown_of mended (counted names) (counted later) (risen_of (up.Ready c)) → StartsEmpty slots c
      → ComesBack tells_all shown_of mended slots (up.Ready c) → ListsTable c.ledger.databases table
      → PlaceActs log log names later moment slots (place.Down disk) (place.Up c) act.Up (up_reply table)
  ready_place c table risen empty again lists =
      let drew : DrewFew names later = drew_up names later mended (up.Ready c) risen.ends in
      record { ids = drew.ids; drawn = drew.drawn; few = drew.few; over = λ was small sound stands fits given are_new. acts drew.ids was sound stands given }
    where
      old : Trouble
      old = (shown_of mended).trouble

      acts : (ids : List Id16) (was : ClientPlace) → IsSoundLog log → StandsAs log (place.Down disk) was → slots_in was ≡ slots
          → ActsAs log log moment ids (place.Up c) was act.Up (up_reply table)
      acts ids (UpPlace p entries f) sound stands given = absurd stands
      acts ids (DownPlace id k f) sound stands given =
          let back : IsBack shown_of log id k f c = again tt log id k f sound (mended_down disk mended is log id k f stands.down) given in
          let s : Suffers old (trouble_of shown_of c) ⊥ = risen.fails.troubles tt in
          comes_back log sound moment ids slots c id k f empty back table lists (record {
            over = back.stands;
            left = leaves_settled log c (risen_free f) refl back.stands;
            set = (let set : IsSetAs (trouble_of shown_of c) f = set_after old (trouble_of shown_of c) s f (mended_set disk mended is f stands.set) in record { fused = set.fused; failing = set.failing });
            unburnt = unburnt_after old (trouble_of shown_of c) s f (mended_set disk mended is f stands.set) (mended_whole disk mended is) (λ never. never);
          })

  -- it is not
  pub refused_place : (back : MemDisk) (why : RiseFault) → Rises {D = MemDisk} {g = ghosts} tells_all shown_of mended (counted names) (counted later) (risen_of (up.Refused back why))
      → ComesBack {D = MemDisk} {g = ghosts} tells_all shown_of mended slots (up.Refused back why)
      → PlaceActs log log names later moment slots (place.Down disk) (place.Down back) act.Up (down_reply (shown_of back).trouble.burnt why)
  refused_place back why risen again =
      let drew : DrewFew names later = drew_up names later {g = ghosts} mended (up.Refused back why) risen.ends in
      record { ids = drew.ids; drawn = drew.drawn; few = drew.few; over = λ was small sound stands fits given are_new. acts drew.ids was sound stands fits given }
    where
      acts : (ids : List Id16) (was : ClientPlace) → IsSoundLog log → StandsAs log (place.Down disk) was → FitsPlace log was → slots_in was ≡ slots
          → ActsAs log log moment ids (place.Down back) was act.Up (down_reply (shown_of back).trouble.burnt why)
      acts ids (UpPlace p entries f) sound stands fits given = absurd stands
      acts ids (DownPlace id k f) sound stands fits given =
          refused_by log sound moment ids back id k f fits (shown_of mended).trouble (mended_set disk mended is f stands.set) (mended_whole disk mended is)
          (shown_of back).trouble.burnt refl why (risen.fails.troubles tt) (again tt log id k f sound (mended_down disk mended is log id k f stands.down) given)

-- ---- the form

-- a client that came up is in form, and was given no commits
pub empty_client : {g : _} (slots : ℕ) (c : Client MemDisk g) → StartsEmpty slots c → IsClient c
empty_client slots c empty = record {
  form = empty.form;
  read = subst (λ (l : Option Latest). IsReadForm c.seen l) (sym (ap (λ (p : Parts). p.latest) empty.parts)) tt;
}
