-- What the parts of a load come to.
use Rattle.std.proofs.Common.{◌≡◌, inl, inr, ℕ, ◌+◌, ◌<◌, ◌≤◌, ◌^◌, Bool, false, List, [], ◌∷◌, length, Vec, Global, nat_le, if◌then◌else◌, Ok, Err, IfOk, IfErr, refl, sym, ◌∙◌, ap, subst, arith, length-append}
use Rattle.std.proofs.lemmas.Bool.{le-leb, lt-leb}
use Rattle.std.proofs.lemmas.List.{take_all}
use Rattle.bcv_disk.specs.Calls.{CountsCall-done, DiskFails-as, DiskFails-none, DiskFails-then}
use Rattle.bcv_disk.specs.Crash.{Only, Passes}
use Rattle.bcv_disk.specs.DiskCalls.{DiskFails, DiskReads}
use Rattle.bcv_disk.specs.DiskShown.{DiskShown, DiskTold}
use Rattle.bcv_disk.specs.Troubles.{counted}
use Rattle.bcv_disk.specs.declared.disk.DiskEnd.TheVariants as end
use Rattle.bcv_journal.specs.KeptWrite.{DiskKeeps}
use Rattle.bcv_journal.specs.Layout.{IsSpelled, Loads, area_of, empty, found, tail_of, written}
use Rattle.bcv_journal.specs.Loaded.{load_calls}
use Rattle.bcv_journal.specs.LoadedItems.{CountsItems, GivesItems, IsArea, ItemsLoad, Outcome, PartLoads}
use Rattle.bcv_journal.specs.Reading.{IsRead, IsReadFault}
use Rattle.bcv_journal.specs.Settled.{IsSettled, items_of}
use Rattle.bcv_journal.specs.declared.area.Area.{Area}
use Rattle.bcv_journal.specs.declared.fault.JournalFault.TheVariants.{NotJournal, DiskFault, NoMemory}
use Rattle.bcv_journal.proofs.Empty.{put_empty, settled_empty}
use Rattle.bcv_journal.proofs.Loading.{after_more, after_reading, after_writing, at_start}

abbrev OnlyNow : DiskShown → Type 0
OnlyNow old = (image : List ℕ) → old.left_since old.moment image → old.may_leave image

found-short : (bytes : List ℕ) → length bytes ≤ 18 → found bytes ≡ empty
found-short bytes short = ap (λ (b : Bool). if b then empty else bytes) (le-leb (length bytes) 18 short)

found-long : (bytes : List ℕ) → 18 < length bytes → found bytes ≡ bytes
found-long bytes long = ap (λ (b : Bool). if b then empty else bytes) (lt-leb (length bytes) 18 long)

abbrev empty_area : Area
empty_area = record { start = 17; tail = 17; second = false }

empty_is : IsArea empty_area []
empty_is = record { start = omega arith; tail = refl; short = omega arith; each = tt }

-- a new journal is written
module _ (told : DiskTold) (old new : DiskShown) (only_now : told.tells → OnlyNow old) (short : told.tells → length old.seen ≤ 18) where
  pub short_done : (v : Vec (Vec ℕ Global) Global) → v.items ≡ [] → DiskKeeps told old new 0 empty end.Done → PartLoads told old new 2 (Ok (v, empty_area))
  short_done v none k = record {
    gives = λ t only.
        let is = k.written t refl ∙ put_empty old.seen (short t) in (
          inl (short t, ap items_of none, refl),
          subst (λ (items : List (List ℕ)). IsSettled new empty_area items) (sym (ap items_of none)) (settled_empty new is (k.durable t refl)),
          is ∙ sym (found-short old.seen (short t)),
        );
    area = subst (λ (items : List (List ℕ)). IsArea empty_area items) (sym (ap items_of none)) empty_is;
    any_moment = λ t only. after_writing old (only_now t) new only (short t) (k.crash t);
    fails = DiskFails-as told old new (λ no_fault. absurd no_fault) (λ failed. absurd (cc failed)) k.fails;
    counts = λ t. k.calls t refl;
  }

  pub short_failed : DiskKeeps told old new 0 empty end.Failed → PartLoads told old new 2 (Err DiskFault)
  short_failed k = record {
    gives = λ t only. tt;
    area = tt;
    any_moment = λ t only. after_writing old (only_now t) new only (short t) (k.crash t);
    fails = DiskFails-as told old new (λ fault. refl) (λ failed. refl) k.fails;
    counts = λ t. tt;
  }

  pub short_starved : DiskKeeps told old new 0 empty end.NoMemory → PartLoads told old new 2 (Err NoMemory)
  short_starved k = record {
    gives = λ t only. ((k.same t refl).bytes, λ image left. only image ((k.same t refl).no_more image left));
    area = tt;
    any_moment = λ t only. after_writing old (only_now t) new only (short t) (k.crash t);
    fails = DiskFails-as told old new (λ fault. absurd (cc fault)) (λ failed. absurd (cc failed)) k.fails;
    counts = λ t. tt;
  }

pub long_none : (told : DiskTold) (old : DiskShown) → (told.tells → OnlyNow old) → PartLoads told old old 1 (Err NoMemory)
long_none told old only_now = record {
  gives = λ t only. (refl, only);
  area = tt;
  any_moment = λ t only. at_start old (only_now t);
  fails = DiskFails-none told old (λ fault. cc fault);
  counts = λ t. tt;
}

-- an area that is read from bytes
read_area : (bytes : List ℕ) (area : Area) (items : List (List ℕ)) → length bytes ≤ 2 ^ 31 → IsRead bytes area items → IsArea area items
read_area bytes area items short r = record {
  start = omega (arith, r.start_is, r.spelled.is_front.long);
  tail = r.tail_is;
  short =
      omega (
        arith,
        r.tail_is,
        r.start_is,
        ap length r.spelled.whole,
        length-append (written r.spelled.front items) (r.spelled.gate ∷ r.spelled.rest),
        length-append r.spelled.front (area_of items),
        short,
      );
  each = r.spelled.each;
}

abbrev spelled_by : (bytes seen : List ℕ) (items : List (List ℕ)) → seen ≡ bytes → (s : IsSpelled bytes items) → IsSpelled seen items
spelled_by bytes seen items same s = record { front = s.front; gate = s.gate; rest = s.rest; is_front = s.is_front; closed = s.closed; each = s.each; whole = same ∙ s.whole }

settled_by : (bytes : List ℕ) (new : DiskShown) (area : Area) (items : List (List ℕ)) → new.seen ≡ bytes → length bytes ≤ 2 ^ 31 → IsRead bytes area items → Only new.seen new.may_leave → IsSettled new area items
settled_by bytes new area items same short r only = record {
  spelled = record { front = r.spelled.front; gate = r.spelled.gate; rest = r.spelled.rest; is_front = r.spelled.is_front; closed = r.spelled.closed; each = r.spelled.each; whole = same ∙ r.spelled.whole };
  short = omega (arith, ap length same, short);
  start_is = r.start_is;
  second_is = r.second_is;
  tail_is = r.tail_is;
  durable = only;
}

module _ (told : DiskTold) (old new : DiskShown) (into filled : List ℕ) (only_now : told.tells → OnlyNow old) where
  pub long_failed : DiskReads told old new 0 into filled end.Failed → PartLoads told old new 1 (Err DiskFault)
  long_failed r = record {
    gives = λ t only. tt;
    area = tt;
    any_moment = λ t only. after_reading old (only_now t) new (r.crash t);
    fails = DiskFails-as told old new (λ fault. refl) (λ failed. refl) r.fails;
    counts = λ t. tt;
  }

  module _ (r : DiskReads told old new 0 into filled end.Done) (long : 18 < length filled) (short : length filled ≤ 2 ^ 31) (all : told.tells → length into ≡ length old.seen) where
    filled_is : told.tells → filled ≡ old.seen
    filled_is t = r.bytes t refl ∙ take_all (length into) old.seen (omega (arith, all t))

    same : told.tells → new.seen ≡ filled
    same t = r.seen t refl ∙ sym (filled_is t)

    leaves : told.tells → Only old.seen old.may_leave → Only old.seen new.may_leave
    leaves t only image left = only image ((r.crash t).now_left image left)

    counted_one : told.troubled → new.trouble.calls ≡ counted old.trouble.calls 1
    counted_one t = CountsCall-done old.trouble new.trouble (λ failed. cc failed) (r.calls t)

    pub long_done : (result : Outcome) → IfOk result (λ v. IsRead filled v.1 (items_of v.0.items)) → IfErr result (IsReadFault filled) → PartLoads told old new 1 result
    long_done (Ok v) read fault = record {
      gives = λ t only. (
        inr (omega (arith, ap length (filled_is t), short), spelled_by filled old.seen (items_of v.0.items) (sym (filled_is t)) read.spelled, read.tail_is ∙ ap (λ (n : ℕ). tail_of n (items_of v.0.items)) read.start_is),
        settled_by filled new v.1 (items_of v.0.items) (same t) short read (subst (λ (l : List ℕ). Only l new.may_leave) (sym (r.seen t refl)) (leaves t only)),
        r.seen t refl ∙ sym (found-long old.seen (omega (arith, ap length (filled_is t), long))),
      );
      area = read_area filled v.1 (items_of v.0.items) short read;
      any_moment = λ t only. after_reading old (only_now t) new (r.crash t);
      fails = DiskFails-as told old new (λ no_fault. absurd no_fault) (λ failed. absurd (cc failed)) r.fails;
      counts = counted_one;
    }
    long_done (Err (NotJournal place)) read fault = record {
      gives = λ t only. (subst (λ (l : List ℕ). Loads l (Err place)) (filled_is t) fault, r.seen t refl, leaves t only);
      area = tt;
      any_moment = λ t only. after_reading old (only_now t) new (r.crash t);
      fails = DiskFails-as told old new (λ fault. absurd (cc fault)) (λ failed. absurd (cc failed)) r.fails;
      counts = counted_one;
    }
    long_done (Err DiskFault) read fault = absurd fault
    long_done (Err NoMemory) read fault = record {
      gives = λ t only. (r.seen t refl, leaves t only);
      area = tt;
      any_moment = λ t only. after_reading old (only_now t) new (r.crash t);
      fails = DiskFails-as told old new (λ fault. absurd (cc fault)) (λ failed. absurd (cc failed)) r.fails;
      counts = λ t. tt;
    }

pub calls-short : (bytes : List ℕ) → length bytes ≤ 18 → load_calls bytes ≡ 4
calls-short bytes short = ap (λ (b : Bool). if b then 4 else if nat_le (length bytes) (2 ^ 31) then 3 else 2) (le-leb (length bytes) 18 short)

pub calls-long : (bytes : List ℕ) → 18 < length bytes → length bytes ≤ 2 ^ 31 → load_calls bytes ≡ 3
calls-long bytes long short =
    ap (λ (b : Bool). if b then 4 else if nat_le (length bytes) (2 ^ 31) then 3 else 2) (lt-leb (length bytes) 18 long) ∙ ap (λ (b : Bool). if b then 3 else 2) (le-leb (length bytes) (2 ^ 31) short)

pub calls-most : (bytes : List ℕ) → 2 ^ 31 < length bytes → load_calls bytes ≡ 2
calls-most bytes long =
    ap (λ (b : Bool). if b then 4 else if nat_le (length bytes) (2 ^ 31) then 3 else 2) (lt-leb (length bytes) 18 (omega (arith, long))) ∙ ap (λ (b : Bool). if b then 3 else 2) (lt-leb (length bytes) (2 ^ 31) long)

counts_then : (old mid new : DiskShown) (n m : ℕ) (result : Outcome) → mid.trouble.calls ≡ counted old.trouble.calls 2 → m ≡ 2 + n → CountsItems n mid new result → CountsItems m old new result
counts_then old mid new n m (Ok v) first sum later = later ∙ omega (arith, first, sum)
counts_then old mid new n m (Err (NotJournal place)) first sum later = later ∙ omega (arith, first, sum)
counts_then old mid new n m (Err DiskFault) first sum later = tt
counts_then old mid new n m (Err NoMemory) first sum later = tt

-- after the sync and the length
module _ (told : DiskTold) (old mid : DiskShown) (only_now : told.tells → OnlyNow old) (crash : told.tells → Passes old mid old.may_leave) where
  pub sync_failed : (calls : ℕ) {failed : Type 0} → failed → DiskFails told old mid failed → ItemsLoad told old mid calls (Err DiskFault)
  sync_failed calls failed fails = record {
    gives = λ t. tt;
    area = tt;
    any_moment = λ t. after_reading old (only_now t) mid (crash t);
    fails = DiskFails-as told old mid (λ fault. failed) (λ was. refl) fails;
    counts = λ t u. tt;
  }

  module _ {once : Type 0} (whole : once → ⊥) (seen : told.tells → mid.seen ≡ old.seen) (durable : told.tells → Only old.seen mid.may_leave) (fails : DiskFails told old mid once) (two : told.troubled → mid.trouble.calls ≡ counted old.trouble.calls 2) where
    pub load_part : (new : DiskShown) (n : ℕ) (result : Outcome) → (told.tells → load_calls old.seen ≡ 2 + n) → PartLoads told mid new n result → ItemsLoad told old new (load_calls old.seen) result
    load_part new n result sum part =
        let only : told.tells → Only mid.seen mid.may_leave = λ t. subst (λ (l : List ℕ). Only l mid.may_leave) (sym (seen t)) (durable t) in
        record {
          gives = λ t. subst (λ (l : List ℕ). GivesItems l new result) (seen t) (part.gives t (only t));
          area = part.area;
          any_moment = λ t. after_more old (only_now t) mid new (crash t) (seen t) (part.any_moment t (only t));
          fails = DiskFails-then told old mid new (λ failed. absurd (whole failed)) fails part.fails;
          counts = λ t u. counts_then old mid new n (load_calls old.seen) result (two u) (sum t) (part.counts u);
        }

    pub too_long : (told.tells → 2 ^ 31 < length old.seen) → ItemsLoad told old mid (load_calls old.seen) (Err (NotJournal 2147483648))
    too_long long = record {
      gives = λ t. (inl (long t, refl), seen t, durable t);
      area = tt;
      any_moment = λ t. after_reading old (only_now t) mid (crash t);
      fails = DiskFails-as told old mid (λ fault. absurd (cc fault)) (λ failed. absurd (whole failed)) fails;
      counts = λ t u. two u ∙ ap (λ (n : ℕ). counted old.trouble.calls n) (sym (calls-most old.seen (long t)));
    }
