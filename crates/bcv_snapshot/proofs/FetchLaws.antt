-- What a fetch says, from what the store says of its get and what was made of that.
use Rattle.std.proofs.Common.{◌≡◌, ◌≢◌, ◌∙◌, ◌<◌, ℕ, Bool, true, false, List, [], ◌++◌, append-nil, Option, Some, None, inl, inr, refl, sym, subst, arith}
use Rattle.bcv_base.specs.declared.id.Id16.{Id16}
use Rattle.bcv_base.specs.declared.object.ObjName.TheVariants as object
use Rattle.bcv_base.specs.declared.outcome.Outcome.{Outcome}
use Rattle.bcv_base.specs.declared.outcome.Outcome.TheVariants as outcome
use Rattle.bcv_base.specs.declared.log.Entry.{Entry}
use Rattle.bcv_base.specs.Log.{Object, object_of}
use Rattle.bcv_cache.specs.Entry.{Blocks}
use Rattle.bcv_cache.specs.Cache.{slot_of, has_room}
use Rattle.bcv_store.specs.declared.store.Got.{Got}
use Rattle.bcv_store.specs.declared.store.Got.TheVariants as got
use Rattle.bcv_store.specs.Asked.{GetAnswers}
use Rattle.bcv_store.specs.Plans.{next_of, rest_of}
use Rattle.bcv_store.specs.Requests.{StoreGets}
use Rattle.bcv_store.specs.StoreShown.{StoreTold, StoreShown}
use Rattle.bcv_store.specs.Within.{IsGotWithin}
use Rattle.bcv_snapshot.specs.declared.fetched.Fetched.{Fetched}
use Rattle.bcv_snapshot.specs.declared.fetched.Fetched.TheVariants as fetched
use Rattle.bcv_snapshot.specs.BlockFetch.{BytesTaken, FetchAnswered, FetchEnds, FetchLeaves, FetchTakes, BlockGetTold, BlockGets, BlockFetches}
use Rattle.bcv_publish.proofs.Growth.{no_others}
use Rattle.bcv_snapshot.proofs.SoundFetch.{get_sound}

above_differs : (a b : ℕ) → b < a → a ≢ b
above_differs a b less same = absurd (omega arith)

bytes_leave : (bytes : List ℕ) (id : Id16) (c : Blocks) (r : Fetched) (d : Blocks) → BytesTaken bytes id c r d → FetchLeaves id c r d
bytes_leave bytes id c (fetched.In slot) d t = (bytes, t.0, t.1)
bytes_leave bytes id c fetched.CacheFull d t = absurd t
bytes_leave bytes id c fetched.Gone d t = absurd t
bytes_leave bytes id c (fetched.BadBlock len) d t = (t.1, t.2)
bytes_leave bytes id c fetched.StoreFault d t = absurd t
bytes_leave bytes id c fetched.NoMemory d t = t

leaves_of : (g : Got) (bytes : List ℕ) (id : Id16) (c : Blocks) (r : Fetched) (d : Blocks) → IsGotWithin None c.block bytes g → FetchAnswered g bytes id c r d → FetchLeaves id c r d
leaves_of (got.Found etag) bytes id c r d w a = bytes_leave bytes id c r d a
leaves_of got.Same bytes id c r d w a = absurd a
leaves_of got.Missing bytes id c r d w a = subst (λ (x : Fetched). FetchLeaves id c x d) (sym a.0) a.1
leaves_of (got.TooLong len) bytes id c r d w a = subst (λ (x : Fetched). FetchLeaves id c x d) (sym a.0) (above_differs len c.block w.0, a.1)
leaves_of got.Failed bytes id c r d w a = subst (λ (x : Fetched). FetchLeaves id c x d) (sym a.0) a.1
leaves_of got.NoMemory bytes id c r d w a = subst (λ (x : Fetched). FetchLeaves id c x d) (sym a.0) a.1

bytes_end : (o : Outcome) (x : Option Object) (there : Object) (id : Id16) (c : Blocks) (r : Fetched) (d : Blocks) → o ≡ outcome.Ok → x ≡ Some there → BytesTaken there.bytes id c r d → FetchEnds o x id c r d
bytes_end o x there id c (fetched.In slot) d ok is t = (there, ok, is, t.0, t.1)
bytes_end o x there id c fetched.CacheFull d ok is t = absurd t
bytes_end o x there id c fetched.Gone d ok is t = absurd t
bytes_end o x there id c (fetched.BadBlock len) d ok is t = (there, ok, is, t.0, t.1)
bytes_end o x there id c fetched.StoreFault d ok is t = absurd t
bytes_end o x there id c fetched.NoMemory d ok is t = tt

ends_of : (o : Outcome) (x : Option Object) (g : Got) (bytes : List ℕ) (id : Id16) (c : Blocks) (r : Fetched) (d : Blocks) → GetAnswers o x None c.block bytes g → FetchAnswered g bytes id c r d → FetchEnds o x id c r d
ends_of o x (got.Found etag) bytes id c r d answers a = bytes_end o x (record { bytes = bytes; etag = etag }) id c r d answers.0 answers.1 a
ends_of o x got.Same bytes id c r d answers a = absurd a
ends_of o x got.Missing bytes id c r d answers a = subst (λ (y : Fetched). FetchEnds o x id c y d) (sym a.0) answers
ends_of o x (got.TooLong len) bytes id c r d answers a =
    subst (λ (y : Fetched). FetchEnds o x id c y d) (sym a.0) (answers.3.0, answers.0, answers.3.1, answers.3.2, above_differs len c.block answers.2)
ends_of o x got.Failed bytes id c r d answers a = subst (λ (y : Fetched). FetchEnds o x id c y d) (sym a.0) answers
ends_of o x got.NoMemory bytes id c r d answers a = subst (λ (y : Fetched). FetchEnds o x id c y d) (sym a.0) tt

bytes_not_failed : (bytes : List ℕ) (id : Id16) (c : Blocks) (r : Fetched) (d : Blocks) → BytesTaken bytes id c r d → r ≢ fetched.StoreFault
bytes_not_failed bytes id c r d t same = subst (λ (x : Fetched). BytesTaken bytes id c x d) same t

failed_of : (g : Got) (bytes : List ℕ) (id : Id16) (c : Blocks) (r : Fetched) (d : Blocks) → FetchAnswered g bytes id c r d → r ≡ fetched.StoreFault → g ≡ got.Failed
failed_of (got.Found etag) bytes id c r d a e = absurd (bytes_not_failed bytes id c r d a e)
failed_of got.Same bytes id c r d a e = absurd a
failed_of got.Missing bytes id c r d a e = absurd (let both : fetched.Gone ≡ fetched.StoreFault = sym a.0 ∙ e in cc)
failed_of (got.TooLong len) bytes id c r d a e = absurd (let both : fetched.BadBlock len ≡ fetched.StoreFault = sym a.0 ∙ e in cc)
failed_of got.Failed bytes id c r d a e = refl
failed_of got.NoMemory bytes id c r d a e = absurd (let both : fetched.NoMemory ≡ fetched.StoreFault = sym a.0 ∙ e in cc)

takes_of : (store : StoreTold) (old new : StoreShown) (r : Fetched) → (store.plans → new.plan ≡ rest_of old.plan) → FetchTakes store old new r
takes_of store old new (fetched.In slot) t = t
takes_of store old new fetched.CacheFull t = t
takes_of store old new fetched.Gone t = t
takes_of store old new (fetched.BadBlock len) t = t
takes_of store old new fetched.StoreFault t = t
takes_of store old new fetched.NoMemory t = inl t

get_told : (store : StoreTold) (old new : StoreShown) (g : Got) (bytes : List ℕ) (id : Id16) (c : Blocks) (r : Fetched) (d : Blocks) → StoreGets store old new (object.Block id) None c.block bytes g → FetchAnswered g bytes id c r d
    → store.tells → BlockGetTold store old new id c r d
get_told store old new g bytes id c r d gets a tells =
    let t = gets.told tells in
    record {
      others = t.others;
      by_others = t.by_others;
      grown = t.grown;
      outcome = t.outcome;
      next = t.planned;
      ends = ends_of t.outcome (object_of (object.Block id) new.log) g bytes id c r d t.answers a;
    }

-- after one get
pub block_gets : (store : StoreTold) (old new : StoreShown) (g : Got) (bytes : List ℕ) (id : Id16) (c : Blocks) (r : Fetched) (d : Blocks) → StoreGets store old new (object.Block id) None c.block bytes g → FetchAnswered g bytes id c r d
    → BlockGets store old new id c r d
block_gets store old new g bytes id c r d gets a = record {
  leaves = leaves_of g bytes id c r d gets.within a;
  told = get_told store old new g bytes id c r d gets a;
  sound = λ tells mine s honest. get_sound store mine old new id c r d (get_told store old new g bytes id c r d gets a tells) s honest;
  taken = takes_of store old new r gets.taken;
  later = gets.later;
  failed = λ e. gets.failed (failed_of g bytes id c r d a e);
}

-- nothing was grown
same_log : (log : List Entry) → log ≡ log ++ []
same_log log = sym (append-nil log)

told_without : (store : StoreTold) (s : StoreShown) (id : Id16) (c : Blocks) → BlockGetTold store s s id c fetched.NoMemory c
told_without store s id c = record { others = []; by_others = no_others store.alone; grown = same_log s.log; outcome = next_of s.plan; next = λ plans. refl; ends = tt }

-- where there was no memory for the bytes there was no get
pub none_got : (store : StoreTold) (s : StoreShown) (id : Id16) (c : Blocks) → BlockGets store s s id c fetched.NoMemory c
none_got store s id c = record {
  leaves = refl;
  told = λ tells. told_without store s id c;
  sound = λ tells mine sound honest. get_sound store mine s s id c fetched.NoMemory c (told_without store s id c) sound honest;
  taken = inr refl;
  later = omega arith;
  failed = λ e. absurd (cc);
}

-- ---- the whole

-- where nothing is found and there is room, a get is all
fetches_by : (found : Option ℕ) (room : Bool) (store : StoreTold) (old new : StoreShown) (id : Id16) (c : Blocks) (r : Fetched) (d : Blocks) → found ≡ None → room ≡ true → BlockGets store old new id c r d
    → BlockFetches found room store old new id c r d
fetches_by (Some slot) room store old new id c r d none some gets = absurd (cc)
fetches_by None false store old new id c r d none some gets = absurd (cc)
fetches_by None true store old new id c r d none some gets = gets

-- by way of a cache that is as it was
pub fetches_get : (store : StoreTold) (old new : StoreShown) (id : Id16) (c e : Blocks) (r : Fetched) (d : Blocks) → e ≡ c → slot_of id c.entries ≡ None → has_room e ≡ true → BlockGets store old new id e r d
    → BlockFetches (slot_of id c.entries) (has_room c) store old new id c r d
fetches_get store old new id c e r d same none room gets =
    fetches_by (slot_of id c.entries) (has_room c) store old new id c r d none (subst (λ (x : Blocks). has_room x ≡ true) same room) (subst (λ (x : Blocks). BlockGets store old new id x r d) same gets)
