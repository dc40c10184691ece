-- What the put of a block under a drawn name says, from what the store says and what was made of its answer.
use Rattle.std.proofs.Common.{◌≡◌, ◌∙◌, ◌⊎◌, inl, inr, ℕ, ◌≤◌, Bool, true, false, List, [], ◌∷◌, ◌++◌, length, append-nil, Option, Some, None, is_none, refl, sym, ap, subst, arith}
use Rattle.bcv_base.specs.declared.id.Id16.{Id16}
use Rattle.bcv_base.specs.declared.log.Entry.{Entry}
use Rattle.bcv_base.specs.declared.log.Entry.TheVariants as entry
use Rattle.bcv_base.specs.declared.object.ObjName.TheVariants as object
use Rattle.bcv_base.specs.declared.outcome.Outcome.{Outcome}
use Rattle.bcv_base.specs.declared.outcome.Outcome.TheVariants as outcome
use Rattle.bcv_base.specs.Drawn.{NamesShown, AddsNames}
use Rattle.bcv_base.specs.Faults.{Rose}
use Rattle.bcv_base.specs.History.{Item, history_of, first_put}
use Rattle.bcv_base.specs.HistoryLaws.{has_id-first}
use Rattle.bcv_base.specs.Ids.{has_id}
use Rattle.bcv_base.specs.Log.{Object, object_of}
use Rattle.bcv_dbmap.specs.Growth.{AreLawful}
use Rattle.bcv_dbmap.specs.Honest.{AreApart, GrewHonestly}
use Rattle.bcv_dbmap.specs.Past.{was_listed}
use Rattle.bcv_dbmap.specs.Sound.{Sound}
use Rattle.bcv_store.specs.declared.store.Cond.TheVariants as cond
use Rattle.bcv_store.specs.declared.store.Put.{Put}
use Rattle.bcv_store.specs.declared.store.Put.TheVariants as answer
use Rattle.bcv_store.specs.Asked.{PutTold, PutAnswers, PutFails}
use Rattle.bcv_store.specs.Plans.{next_of, AreOthers}
use Rattle.bcv_store.specs.Requests.{StorePuts}
use Rattle.bcv_store.specs.StoreShown.{StoreTold, StoreShown}
use Rattle.bcv_publish.specs.declared.work.BlockEnd.{BlockEnd}
use Rattle.bcv_publish.specs.declared.work.BlockEnd.TheVariants as block
use Rattle.bcv_publish.specs.BlockPut.{BlockPutLeaves, BlockPutEnds, BlockAsked, BlockPutTold, AreFresh, IsBlockAppended, BlockFails, SoundBlockEnds, BlockPutSound, BlockTakes, BlockNamesCause, BlockPuts, BlockAnswered}
use Rattle.bcv_publish.specs.Request.{TakesOutcome}
use Rattle.bcv_publish.proofs.Growth.{Later, later_of, growth_of, no_others}
use Rattle.bcv_publish.proofs.Unput.{IsUnput, unput_of, puts_new}

-- ---- over any log

is_absent : (x : Option Object) → is_none x ≡ true → x ≡ None
is_absent None h = refl
is_absent (Some x) h = absurd (cc)

block_ends : (o : Outcome) (log after : List Entry) (i : Id16) (bytes : List ℕ) (a : Put) (ids : List Id16) (result : BlockEnd) (new : List Id16)
    → PutAnswers o (is_none (object_of (object.Block i) log)) log after (object.Block i) bytes a → BlockAnswered a i ids result new → BlockPutEnds o log after i bytes result
block_ends o log after i bytes (answer.Stored etag) ids result new answers is = subst (BlockPutEnds o log after i bytes) (sym is.0) (etag, answers.0, is_absent (object_of (object.Block i) log) answers.1, answers.2)
block_ends o log after i bytes answer.Refused ids result new answers is = subst (BlockPutEnds o log after i bytes) (sym is.0) answers
block_ends o log after i bytes answer.Failed ids result new answers is = subst (BlockPutEnds o log after i bytes) (sym is.0) answers
block_ends o log after i bytes answer.NoMemory ids result new answers is = subst (BlockPutEnds o log after i bytes) (sym is.0) answers

-- a put that was asked for is told
by_asked : (store : StoreTold) (old new : StoreShown) (drawn : List Id16) (bytes : List ℕ) (result : BlockEnd) → BlockAsked store old new drawn bytes result → BlockPutTold store old new drawn bytes result
by_asked store old new drawn bytes block.Stored t = t
by_asked store old new drawn bytes block.NameTaken t = t
by_asked store old new drawn bytes block.StoreFault t = t
by_asked store old new drawn bytes block.NamesFault t = absurd t.ends
by_asked store old new drawn bytes block.NoMemory t = (t.others, t.by_others, t.ends)

block_told : (store : StoreTold) (old new : StoreShown) (i : Id16) (bytes : List ℕ) (a : Put) (ids : List Id16) (result : BlockEnd) (now : List Id16) → PutTold store old new (object.Block i) cond.Absent bytes a
    → BlockAnswered a i ids result now → BlockPutTold store old new (i ∷ []) bytes result
block_told store old new i bytes a ids result now t is = by_asked store old new (i ∷ []) bytes result (record {
  others = t.others;
  by_others = t.by_others;
  outcome = t.outcome;
  next = t.planned;
  id = i;
  is_drawn = refl;
  ends = block_ends t.outcome (old.log ++ t.others) new.log i bytes a ids result now t.answers is;
})

-- ---- over a sound log

-- the own entries: none, or the block where none was put under the name
record Own (o : Outcome) (log after : List Entry) (first : Option (List ℕ)) (i : Id16) (bytes : List ℕ) (Ends : List Entry → Type 0) : Type 0 where
  own : List Entry
  one : length own ≤ 1
  grown : after ≡ log ++ own
  is : (own ≡ []) ⊎ ((first ≡ None) × IsBlockAppended own i bytes)
  ends : Ends own

module _ (o : Outcome) (log after : List Entry) (first : Option (List ℕ)) (i : Id16) (bytes : List ℕ) (Ends : List Entry → Type 0) where
  none_own : after ≡ log → Ends [] → Own o log after first i bytes Ends
  none_own same ends = record { own = []; one = omega arith; grown = same ∙ sym (append-nil log); is = inl refl; ends = ends }

  put_own : (etag : ℕ) → first ≡ None → after ≡ log ++ entry.Put true (object.Block i) bytes etag ∷ [] → Ends (entry.Put true (object.Block i) bytes etag ∷ []) → Own o log after first i bytes Ends
  put_own etag none added ends = record { own = entry.Put true (object.Block i) bytes etag ∷ []; one = omega arith; grown = added; is = inr (none, (etag, refl)); ends = ends }

some_of : (first : Option (List ℕ)) (own : List Entry) (i : Id16) (bytes : List ℕ) → is_none first ≡ false → own ≡ [] → BlockFails outcome.Lost first own i bytes
some_of None own i bytes h none = absurd (cc)
some_of (Some b) own i bytes h none = none

none_of : (first : Option (List ℕ)) (own : List Entry) (i : Id16) (bytes : List ℕ) → first ≡ None → IsBlockAppended own i bytes → BlockFails outcome.Lost first own i bytes
none_of None own i bytes h is = is
none_of (Some b) own i bytes h is = absurd (cc)

-- how a put ends that failed
abbrev FailsEnds : Outcome → List Item → Id16 → List ℕ → List Entry → Type 0
FailsEnds o past i bytes own = SoundBlockEnds o past own (i ∷ []) bytes block.StoreFault

fails_own : (o : Outcome) (log after : List Entry) (absent : Bool) (past : List Item) (i : Id16) (bytes : List ℕ) → IsUnput absent (first_put past i) → PutFails o absent log after (object.Block i) bytes
    → Own o log after (first_put past i) i bytes (FailsEnds o past i bytes)
fails_own outcome.Ok log after absent past i bytes u f = absurd f
fails_own outcome.Fail log after absent past i bytes u f = none_own outcome.Fail log after (first_put past i) i bytes (FailsEnds outcome.Fail past i bytes) f (i, refl, refl)
fails_own outcome.Lost log after true past i bytes u f =
    put_own outcome.Lost log after (first_put past i) i bytes (FailsEnds outcome.Lost past i bytes) f.0 (u.none refl) f.1.added
    (i, refl, none_of (first_put past i) (entry.Put true (object.Block i) bytes f.0 ∷ []) i bytes (u.none refl) (f.0, refl))
fails_own outcome.Lost log after false past i bytes u f =
    none_own outcome.Lost log after (first_put past i) i bytes (FailsEnds outcome.Lost past i bytes) f (i, refl, some_of (first_put past i) [] i bytes (u.some refl) refl)

own_of : (o : Outcome) (log after : List Entry) (past_log : List Entry) (i : Id16) (bytes : List ℕ) (result : BlockEnd) → IsUnput (is_none (object_of (object.Block i) log)) (first_put (history_of past_log) i)
    → BlockPutEnds o log after i bytes result → Own o log after (first_put (history_of past_log) i) i bytes (λ own. SoundBlockEnds o (history_of past_log) own (i ∷ []) bytes result)
own_of o log after past_log i bytes block.Stored u e =
    let none : first_put (history_of past_log) i ≡ None = u.none (ap (λ (x : Option Object). is_none x) e.2) in
    put_own o log after (first_put (history_of past_log) i) i bytes (λ own. SoundBlockEnds o (history_of past_log) own (i ∷ []) bytes block.Stored) e.0 none e.3.added (i, refl, e.1, none, (e.0, refl))
own_of o log after past_log i bytes block.NameTaken u e =
    none_own o log after (first_put (history_of past_log) i) i bytes (λ own. SoundBlockEnds o (history_of past_log) own (i ∷ []) bytes block.NameTaken) e.2 (i, refl, e.0, u.some e.1, refl)
own_of o log after past_log i bytes block.StoreFault u e = fails_own o log after (is_none (object_of (object.Block i) log)) (history_of past_log) i bytes u e
own_of o log after past_log i bytes block.NamesFault u e = absurd e
own_of o log after past_log i bytes block.NoMemory u e = none_own o log after (first_put (history_of past_log) i) i bytes (λ own. SoundBlockEnds o (history_of past_log) own (i ∷ []) bytes block.NoMemory) e refl

lawful_own : (mine theirs : List Id16) (log own : List Entry) (i : Id16) (bytes : List ℕ) → AreApart mine theirs → has_id i mine ≡ true → was_listed (history_of log) i ≡ false
    → (own ≡ []) ⊎ ((first_put (history_of log) i ≡ None) × IsBlockAppended own i bytes) → AreLawful theirs (history_of log) own
lawful_own mine theirs log own i bytes apart is unlisted (inl e) = subst (AreLawful theirs (history_of log)) (sym e) tt
lawful_own mine theirs log own i bytes apart is unlisted (inr a) = subst (AreLawful theirs (history_of log)) (sym a.1.1) (puts_new mine theirs log i apart is unlisted a.0, tt)

asked_sound : (store : StoreTold) (mine : List Id16) (old new : StoreShown) (i : Id16) (bytes : List ℕ) (result : BlockEnd) → Sound (history_of old.log) → GrewHonestly store.alone mine old.log new.log
    → (has_id i mine ≡ true) × (was_listed (history_of old.log) i ≡ false) → (t : BlockAsked store old new (i ∷ []) bytes result) → BlockPutEnds t.outcome (old.log ++ t.others) new.log i bytes result
    → BlockPutSound store mine old new (i ∷ []) bytes result
asked_sound store mine old new i bytes result s honest fresh t ends =
    let log : List Entry = old.log ++ t.others in
    let some = grown_some t.outcome log new.log i bytes result ends in
    let later = later_of store.alone mine old.log t.others some.0 new.log t.by_others some.1 s honest in
    let unlisted : was_listed (history_of log) i ≡ false = later.untouched.unlisted i fresh.0 fresh.1 in
    let u = subst (IsUnput (is_none (object_of (object.Block i) log))) (later.untouched.bytes i fresh.0) (unput_of log i later.sound unlisted) in
    let own = own_of t.outcome log new.log old.log i bytes result u ends in
    record {
      growth = growth_of store.alone mine old.log t.others own.own new.log t.by_others later own.grown own.one
          (λ theirs apart. lawful_own mine theirs log own.own i bytes apart fresh.0 unlisted (subst (λ (f : Option (List ℕ)). (own.own ≡ []) ⊎ ((f ≡ None) × IsBlockAppended own.own i bytes)) (sym (later.untouched.bytes i fresh.0)) own.is));
      outcome = t.outcome;
      next = t.next;
      ends = own.ends;
    }
  where
    fails_some : (o : Outcome) (absent : Bool) (log after : List Entry) (i : Id16) (bytes : List ℕ) → PutFails o absent log after (object.Block i) bytes → (own : List Entry) × (after ≡ log ++ own)
    fails_some outcome.Ok absent log after i bytes f = absurd f
    fails_some outcome.Fail absent log after i bytes f = ([], f ∙ sym (append-nil log))
    fails_some outcome.Lost true log after i bytes f = (entry.Put true (object.Block i) bytes f.0 ∷ [], f.1.added)
    fails_some outcome.Lost false log after i bytes f = ([], f ∙ sym (append-nil log))

    grown_some : (o : Outcome) (log after : List Entry) (i : Id16) (bytes : List ℕ) (result : BlockEnd) → BlockPutEnds o log after i bytes result → (own : List Entry) × (after ≡ log ++ own)
    grown_some o log after i bytes block.Stored e = (entry.Put true (object.Block i) bytes e.0 ∷ [], e.3.added)
    grown_some o log after i bytes block.NameTaken e = ([], e.2 ∙ sym (append-nil log))
    grown_some o log after i bytes block.StoreFault e = fails_some o (is_none (object_of (object.Block i) log)) log after i bytes e
    grown_some o log after i bytes block.NamesFault e = absurd e
    grown_some o log after i bytes block.NoMemory e = ([], e ∙ sym (append-nil log))

-- a put that was asked for, under any name that was drawn
drawn_sound : (store : StoreTold) (mine : List Id16) (old new : StoreShown) (drawn : List Id16) (bytes : List ℕ) (result : BlockEnd) → Sound (history_of old.log) → GrewHonestly store.alone mine old.log new.log
    → AreFresh mine old.log drawn → BlockAsked store old new drawn bytes result → BlockPutSound store mine old new drawn bytes result
drawn_sound store mine old new drawn bytes result s honest fresh t =
    let first = fresh t.id (ap (has_id t.id) t.is_drawn ∙ has_id-first t.id []) in
    let asked : BlockAsked store old new (t.id ∷ []) bytes result = record { others = t.others; by_others = t.by_others; outcome = t.outcome; next = t.next; id = t.id; is_drawn = refl; ends = t.ends } in
    subst (λ (l : List Id16). BlockPutSound store mine old new l bytes result) (sym t.is_drawn) (asked_sound store mine old new t.id bytes result s honest first asked t.ends)

-- no request, or one of which nothing is known but that nothing was appended
none_sound : (store : StoreTold) (mine : List Id16) (old new : StoreShown) (drawn : List Id16) (bytes : List ℕ) (result : BlockEnd) (others : List Entry) → AreOthers store.alone others → new.log ≡ old.log ++ others
    → Sound (history_of old.log) → GrewHonestly store.alone mine old.log new.log → SoundBlockEnds (next_of old.plan) (history_of old.log) [] drawn bytes result → BlockPutSound store mine old new drawn bytes result
none_sound store mine old new drawn bytes result others by grown s honest ends =
    let whole : new.log ≡ (old.log ++ others) ++ [] = grown ∙ sym (append-nil (old.log ++ others)) in
    let later = later_of store.alone mine old.log others [] new.log by whole s honest in
    record {
      growth = growth_of store.alone mine old.log others [] new.log by later whole (omega arith) (λ theirs apart. tt);
      outcome = next_of old.plan;
      next = λ _. refl;
      ends = ends;
    }

block_sound : (store : StoreTold) (mine : List Id16) (old new : StoreShown) (drawn : List Id16) (bytes : List ℕ) (ids : List Id16) (result : BlockEnd) (now : List Id16) → BlockPutLeaves drawn ids result now
    → BlockPutTold store old new drawn bytes result → Sound (history_of old.log) → GrewHonestly store.alone mine old.log new.log → AreFresh mine old.log drawn → BlockPutSound store mine old new drawn bytes result
block_sound store mine old new drawn bytes ids block.Stored now leaves t s honest fresh = drawn_sound store mine old new drawn bytes block.Stored s honest fresh t
block_sound store mine old new drawn bytes ids block.NameTaken now leaves t s honest fresh = drawn_sound store mine old new drawn bytes block.NameTaken s honest fresh t
block_sound store mine old new drawn bytes ids block.StoreFault now leaves t s honest fresh = drawn_sound store mine old new drawn bytes block.StoreFault s honest fresh t
block_sound store mine old new drawn bytes ids block.NamesFault now leaves t s honest fresh =
    none_sound store mine old new drawn bytes block.NamesFault [] (no_others store.alone) (t ∙ sym (append-nil old.log)) s honest (leaves.0, refl)
block_sound store mine old new drawn bytes ids block.NoMemory now leaves t s honest fresh = none_sound store mine old new drawn bytes block.NoMemory t.0 t.1 t.2 s honest refl

-- ---- the whole

answered_leaves : (i : Id16) (a : Put) (ids : List Id16) (result : BlockEnd) (now : List Id16) → BlockAnswered a i ids result now → BlockPutLeaves (i ∷ []) ids result now
answered_leaves i (answer.Stored etag) ids result now is = subst (λ (r : BlockEnd). BlockPutLeaves (i ∷ []) ids r now) (sym is.0) (i, refl, is.1)
answered_leaves i answer.Refused ids result now is = subst (λ (r : BlockEnd). BlockPutLeaves (i ∷ []) ids r now) (sym is.0) (refl, is.1)
answered_leaves i answer.Failed ids result now is = subst (λ (r : BlockEnd). BlockPutLeaves (i ∷ []) ids r now) (sym is.0) (refl, is.1)
answered_leaves i answer.NoMemory ids result now is = subst (λ (r : BlockEnd). BlockPutLeaves (i ∷ []) ids r now) (sym is.0) (omega arith, is.1)

answered_takes : (store : StoreTold) (old new : StoreShown) (i : Id16) (a : Put) (ids : List Id16) (result : BlockEnd) (now : List Id16) → BlockAnswered a i ids result now → TakesOutcome store old new → BlockTakes store old new result
answered_takes store old new i (answer.Stored etag) ids result now is takes = subst (BlockTakes store old new) (sym is.0) takes
answered_takes store old new i answer.Refused ids result now is takes = subst (BlockTakes store old new) (sym is.0) takes
answered_takes store old new i answer.Failed ids result now is takes = subst (BlockTakes store old new) (sym is.0) takes
answered_takes store old new i answer.NoMemory ids result now is takes = subst (BlockTakes store old new) (sym is.0) (inl takes)

answered_fault : (i : Id16) (a : Put) (ids : List Id16) (result : BlockEnd) (now : List Id16) → BlockAnswered a i ids result now → result ≡ block.StoreFault → a ≡ answer.Failed
answered_fault i (answer.Stored etag) ids result now is e = absurd (let both : block.Stored ≡ block.StoreFault = sym is.0 ∙ e in cc)
answered_fault i answer.Refused ids result now is e = absurd (let both : block.NameTaken ≡ block.StoreFault = sym is.0 ∙ e in cc)
answered_fault i answer.Failed ids result now is e = refl
answered_fault i answer.NoMemory ids result now is e = absurd (let both : block.NoMemory ≡ block.StoreFault = sym is.0 ∙ e in cc)

answered_names : (before later : ℕ) (i : Id16) (a : Put) (ids : List Id16) (result : BlockEnd) (now : List Id16) → BlockAnswered a i ids result now → later ≡ before → BlockNamesCause before later result
answered_names before later i (answer.Stored etag) ids result now is same = subst (BlockNamesCause before later) (sym is.0) same
answered_names before later i answer.Refused ids result now is same = subst (BlockNamesCause before later) (sym is.0) same
answered_names before later i answer.Failed ids result now is same = subst (BlockNamesCause before later) (sym is.0) same
answered_names before later i answer.NoMemory ids result now is same = subst (BlockNamesCause before later) (sym is.0) same

pub block_puts : (store : StoreTold) (old new : StoreShown) (names later_names : NamesShown) (i : Id16) (bytes : List ℕ) (a : Put) (ids : List Id16) (result : BlockEnd) (now : List Id16)
    → AddsNames names.drawn later_names.drawn (i ∷ []) → later_names.faults ≡ names.faults → StorePuts store old new (object.Block i) cond.Absent bytes a → BlockAnswered a i ids result now
    → BlockPuts store old new names later_names bytes ids result now
block_puts store old new names later_names i bytes a ids result now adds same puts is =
    let leaves = answered_leaves i a ids result now is in
    record {
      drawn = i ∷ [];
      adds = adds;
      leaves = leaves;
      told = λ tells. block_told store old new i bytes a ids result now (puts.told tells) is;
      sound = λ tells mine s honest fresh. block_sound store mine old new (i ∷ []) bytes ids result now leaves (block_told store old new i bytes a ids result now (puts.told tells) is) s honest fresh;
      taken = answered_takes store old new i a ids result now is puts.taken;
      later = puts.later;
      failed = λ e. puts.failed (answered_fault i a ids result now is e);
      names_failed = answered_names names.faults later_names.faults i a ids result now is same;
    }

-- ---- no request

adds_none : (x : Option (List Id16)) → AddsNames x x []
adds_none None = tt
adds_none (Some l) = sym (append-nil l)

-- memory ran out before the draw
pub none_puts : (store : StoreTold) (old : StoreShown) (names : NamesShown) (bytes : List ℕ) (ids : List Id16) → BlockPuts store old old names names bytes ids block.NoMemory ids
none_puts store old names bytes ids = record {
  drawn = [];
  adds = adds_none names.drawn;
  leaves = (omega arith, refl);
  told = λ tells. ([], no_others store.alone, sym (append-nil old.log));
  sound = λ tells mine s honest fresh. none_sound store mine old old [] bytes block.NoMemory [] (no_others store.alone) (sym (append-nil old.log)) s honest refl;
  taken = inr refl;
  later = omega arith;
  failed = λ e. absurd (cc);
  names_failed = refl;
}

-- no name was drawn
pub undrawn_puts : (store : StoreTold) (old : StoreShown) (names later_names : NamesShown) (bytes : List ℕ) (ids : List Id16) → AddsNames names.drawn later_names.drawn [] → (names.faults ≤ later_names.faults) × Rose names.faults later_names.faults
    → BlockPuts store old old names later_names bytes ids block.NamesFault ids
undrawn_puts store old names later_names bytes ids adds cause = record {
  drawn = [];
  adds = adds;
  leaves = (refl, refl);
  told = λ tells. refl;
  sound = λ tells mine s honest fresh. none_sound store mine old old [] bytes block.NamesFault [] (no_others store.alone) (sym (append-nil old.log)) s honest (refl, refl);
  taken = refl;
  later = omega arith;
  failed = λ e. absurd (cc);
  names_failed = cause;
}
