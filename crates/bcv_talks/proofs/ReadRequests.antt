-- A read or a hold that wants a block is one of a page whose block is not cached.
use Rattle.std.proofs.Common.{◌≡◌, ◌∙◌, ℕ, Bool, true, false, List, [], Option, Some, None, refl, sym, subst, ap}
use Rattle.bcv_base.specs.declared.id.Id16.{Id16}
use Rattle.bcv_base.specs.Image.{Page}
use Rattle.bcv_base.specs.Views.{FromBase}
use Rattle.bcv_cache.specs.Cache.{has_room, slot_of}
use Rattle.bcv_cache.specs.Entry.{Blocks}
use Rattle.bcv_client.specs.Transactions.{AnswersPage, AsksPage, came_reply, pages_for}
use Rattle.bcv_client.specs.declared.client.Client.{Client}
use Rattle.bcv_client.specs.declared.job.Job.{Job}
use Rattle.bcv_machine.specs.State as m
use Rattle.bcv_model.specs.declared.reply.Reply.{Reply}
use Rattle.bcv_model.specs.declared.reply.Reply.TheVariants as reply
use Rattle.bcv_pages.specs.Held.{Held}
use Rattle.bcv_slots.specs.declared.Slot.{Slot}
use Rattle.bcv_snapshot.specs.declared.place.Place.{Place}
use Rattle.bcv_snapshot.specs.declared.place.Place.TheVariants as place
use Rattle.bcv_snapshot.specs.Opened.{Opened, block_id, source_of}
use Rattle.bcv_snapshot.specs.TxnCalls.{TxnPlaces}
use Rattle.bcv_transaction.specs.declared.answers.Came.{Came}
use Rattle.bcv_transaction.specs.declared.answers.Came.TheVariants as came
use Rattle.bcv_transaction.specs.declared.open_txn.OpenTxn.{OpenTxn}
use Rattle.bcv_transaction.specs.ListCalls.{HoldsOf, ReadsOf}
use Rattle.bcv_transaction.specs.Open.{Open, txn_at, view_in}
use Rattle.bcv_transaction.specs.OpenCalls.{CacheCalls, CallsIn}
use Rattle.bcv_transaction.specs.PageCalls.{HeldAs, HeldIn, IsCopy, ReadAs, absent_as}
use Rattle.bcv_transaction.specs.StepCalls.{PageCalls}
use Rattle.bcv_talks.specs.ReadRequests.{FetchesWhatIsFar, IsFar, cached, room_for, room_in}

-- ---- what came

-- whether there is room for the block, where what came wants one
abbrev pub room_of : Came → Option Bool
room_of (came.Absent id) = Some true
room_of came.CacheFull = Some false
room_of _ = None

not_wanted : (x : Came) (room : Bool) → room_of x ≡ None → room_of x ≡ Some room → ⊥
not_wanted x room none some = let e : None ≡ Some room = sym none ∙ some in cc

copied : (x : Came) (bytes : Page) → IsCopy bytes x → room_of x ≡ None
copied (came.Page copy) bytes is = refl
copied came.Held bytes is = refl
copied (came.Absent id) bytes is = absurd is
copied came.CacheFull bytes is = absurd is
copied came.BadPage bytes is = refl
copied came.NoTxn bytes is = refl
copied came.NoMemory bytes is = refl

held : (t : Opened) (c : Blocks) (p slot : ℕ) (x : Came) (u : Opened) (d : Blocks) → HeldIn t c p slot x u d → room_of x ≡ None
held t c p slot (came.Page copy) u d is = refl
held t c p slot came.Held u d is = refl
held t c p slot (came.Absent id) u d is = absurd is
held t c p slot came.CacheFull u d is = absurd is
held t c p slot came.BadPage u d is = refl
held t c p slot came.NoTxn u d is = refl
held t c p slot came.NoMemory u d is = refl

room_is : (id : Id16) (has room : Bool) → room_of (absent_as id has) ≡ Some room → has ≡ room
room_is id true true e = refl
room_is id true false e = absurd (let x : Some true ≡ Some false = e in cc)
room_is id false true e = absurd (let x : Some false ≡ Some true = e in cc)
room_is id false false e = refl

-- ---- one page of an open transaction

-- its block is not in the cache
record NotIn (t : OpenTxn) (pages : Held) (c : Blocks) (page : ℕ) (room : Bool) : Type 0 where
  id : Id16
  from_base : source_of t.txn.base (view_in pages t) page ≡ Some FromBase
  block : block_id t.txn.base page ≡ Some id
  away : slot_of id c.entries ≡ None
  has : has_room c ≡ room

module _ (t : OpenTxn) (pages : Held) (c : Blocks) (page : ℕ) (x : Came) (room : Bool) (wants : room_of x ≡ Some room) where
  read_far : (d : Blocks) (at : Place) → TxnPlaces t.txn (view_in pages t) c page at d → ReadAs t.txn (view_in pages t) page at x d → NotIn t pages c page room
  read_far d place.BadPage places does = absurd (not_wanted x room (ap room_of does) wants)
  read_far d place.Local places does = absurd (not_wanted x room (copied x does.0 does.2) wants)
  read_far d place.Zeros places does = absurd (not_wanted x room (copied x _ does) wants)
  read_far d (place.Cached slot) places does = absurd (not_wanted x room (copied x does.0 does.2) wants)
  read_far d (place.Absent id) places does = record {
    id = id;
    from_base = places.0;
    block = places.1;
    away = places.2;
    has = ap has_room (sym places.3) ∙ room_is id (has_room d) room (ap room_of (sym does.0) ∙ wants);
  }

  hold_far : (found d : Blocks) (u : Opened) (at : Place) → TxnPlaces t.txn (view_in pages t) c page at found → HeldAs t.txn page at found x u d → NotIn t pages c page room
  hold_far found d u place.BadPage places does = absurd (not_wanted x room (ap room_of does.0) wants)
  hold_far found d u place.Local places does = absurd (not_wanted x room (ap room_of does.0) wants)
  hold_far found d u place.Zeros places does = absurd (not_wanted x room (ap room_of does.0) wants)
  hold_far found d u (place.Cached slot) places does = absurd (not_wanted x room (held t.txn found page slot x u d does) wants)
  hold_far found d u (place.Absent id) places does = record {
    id = id;
    from_base = places.0;
    block = places.1;
    away = places.2;
    has = ap has_room (sym places.3) ∙ room_is id (has_room found) room (ap room_of (sym does.0.0) ∙ wants);
  }

-- ---- the page of a number's transaction

module _ (pages : Held) (o n : Open) (txn page : ℕ) (x : Came) (room : Bool) (wants : room_of x ≡ Some room) where
  far : (c : Blocks) (t : OpenTxn) → o.cache ≡ Some c → txn_at txn o.txns ≡ Some t → NotIn t pages c page room → IsFar pages o txn page room
  far c t there is_open not_in = record {
    id = not_in.id;
    lies = record { opened = t; is_open = is_open; from_base = not_in.from_base; block = not_in.block };
    away = rw there not_in.away;
    has = rw there not_in.has;
  }

  reads_far : (c d : Blocks) (found : Option OpenTxn) → o.cache ≡ Some c → txn_at txn o.txns ≡ found → ReadsOf pages c found page x d → IsFar pages o txn page room
  reads_far c d None there is reads = absurd (not_wanted x room (ap room_of reads.0) wants)
  reads_far c d (Some t) there is reads = far c t there is (read_far t pages c page x room wants d reads.0 reads.1 reads.2)

  holds_far : (c d : Blocks) (found : Option OpenTxn) → o.cache ≡ Some c → txn_at txn o.txns ≡ found → HoldsOf pages c found o.txns txn page x n.txns d → IsFar pages o txn page room
  holds_far c d None there is holds = absurd (not_wanted x room (ap room_of holds.0) wants)
  holds_far c d (Some t) there is holds =
      let h = holds.1 in
      far c t there is (hold_far t pages c page x room wants h.1 d holds.0 h.0 h.2 h.3)

  calls_far : (Does : Blocks → Blocks → Type 0) → ((c d : Blocks) → o.cache ≡ Some c → Does c d → IsFar pages o txn page room) → (a b : Option Blocks) → o.cache ≡ a
      → CacheCalls a b o n (x ≡ came.NoTxn) Does → IsFar pages o txn page room
  calls_far Does from (Some c) (Some d) is calls = from c d is calls.1
  calls_far Does from (Some c) None is calls = absurd calls
  calls_far Does from None b is calls = absurd (not_wanted x room (ap room_of calls.0) wants)

  pub page_far : (access : m.Access) → PageCalls access pages o txn page x n → IsFar pages o txn page room
  page_far m.ToRead calls = calls_far _ (λ c d there does. reads_far c d (txn_at txn o.txns) there refl does) o.cache n.cache refl calls.0
  page_far m.ToHold calls = calls_far _ (λ c d there does. holds_far c d (txn_at txn o.txns) there refl does) o.cache n.cache refl calls

-- ---- a client

-- what came wants a block where the reply does
replies : (x : Came) (old new : List (Slot Job)) (j : Job) (r : Reply) (room : Bool) → AnswersPage (came_reply x) old new j r → room_for r ≡ Some room → room_of x ≡ Some room
replies (came.Page bytes) old new j r room is wants = absurd (let e : None ≡ Some room = ap room_for (sym is.0) ∙ wants in cc)
replies came.Held old new j r room is wants = absurd (let e : None ≡ Some room = ap room_for (sym is.0) ∙ wants in cc)
replies (came.Absent id) old new j (reply.Task task left) room is wants = wants
replies (came.Absent id) old new j reply.TooMany room is wants = wants
replies (came.Absent id) old new j reply.CacheFull room is wants = absurd is
replies (came.Absent id) old new j _ room is wants = absurd (let e : None ≡ Some room = wants in cc)
replies came.CacheFull old new j r room is wants = ap room_for (sym is.0) ∙ wants
replies came.BadPage old new j r room is wants = absurd (let e : None ≡ Some room = ap room_for (sym is.0) ∙ wants in cc)
replies came.NoTxn old new j r room is wants = absurd (let e : None ≡ Some room = ap room_for (sym is.0) ∙ wants in cc)
replies came.NoMemory old new j r room is wants = absurd (let e : None ≡ Some room = ap room_for (sym is.0) ∙ wants in cc)

pub fetches_what_is_far : {D : Type 0} {g : _} (old : Client D g) → FetchesWhatIsFar old
fetches_what_is_far old access new txn page j r room asks wants =
    page_far (pages_for old.ledger.databases txn old.txns) old.txns new.txns txn page asks.how room
    (replies asks.how old.tasks.items new.tasks.items j r room asks.answers wants) access asks.calls
