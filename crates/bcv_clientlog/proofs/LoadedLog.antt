-- What a load of a log comes to, from that of its journal.
use Rattle.std.proofs.Common.{◌≡◌, inl, inr, ⊎_elim, ℕ, zero, suc, ◌+◌, ◌-◌, ◌<◌, ◌≤◌, Bool, false, List, [], ◌∷◌, length, map, take, drop, Vec, Global, Ok, Err, if◌then◌else◌, is_some, refl, sym, ◌∙◌, ap, subst, arith}
use Rattle.std.proofs.lemmas.Bool.{cases_lt, lt-leb}
use Rattle.std.proofs.lemmas.List.{length-drop, take_all}
use Rattle.bcv_disk.specs.Calls.{DiskFails-as, LeavesOnly-weaker}
use Rattle.bcv_disk.specs.Crash.{LeavesOnly, Only}
use Rattle.bcv_disk.specs.DiskCalls.{DiskFails}
use Rattle.bcv_disk.specs.DiskShown.{DiskShown, DiskTold}
use Rattle.bcv_journal.specs.Layout.{EndsAt, empty, found}
use Rattle.bcv_journal.specs.Loaded.{JournalLoads}
use Rattle.bcv_journal.specs.Parts.{HasItems, is_closed, start_at, tail_at}
use Rattle.bcv_journal.specs.Settled.{IsOldOrAlike, items_of}
use Rattle.bcv_journal.specs.declared.fault.JournalFault.{JournalFault}
use Rattle.bcv_journal.specs.declared.fault.JournalFault.TheVariants.{NotJournal, DiskFault, NoMemory}
use Rattle.bcv_journal.specs.declared.journal.Journal.{Journal}
use Rattle.bcv_journal.specs.declared.load.Load.TheVariants as load
use Rattle.bcv_journal.proofs.Unique.{Loads-once, ends_load, ends_once}
use Rattle.bcv_model.specs.declared.kept.Kept.{Kept}
use Rattle.bcv_model.specs.declared.note.Note.{Note}
use Rattle.bcv_model.specs.NoteRules.{Folds, HasRoom, MayStand}
use Rattle.bcv_model.specs.Notes.{after_note, note_text, nothing_kept}
use Rattle.bcv_notes.specs.KeptBy.{AreNotes, IsFoldOf, StopsAt}
use Rattle.bcv_notes.specs.declared.keeping.Fold.{Fold}
use Rattle.bcv_notes.specs.declared.keeping.Fold.TheVariants as fold
use Rattle.bcv_notes.specs.KeptNotes.{items_size}
use Rattle.bcv_notes.proofs.Folded.{fold_once}
use Rattle.bcv_clientlog.specs.LogLoads.{IsOldOrSame, LogLoads}
use Rattle.bcv_clientlog.specs.LogParts.{LoadsAs, LoadsOnce, log_disk}
use Rattle.bcv_clientlog.specs.declared.load.LogLoad.TheVariants.{Ready, Refused}
use Rattle.bcv_clientlog.specs.declared.log.ClientLog.{ClientLog}
use Rattle.bcv_clientlog.proofs.Held.{area_is, area_size}

-- ---- items and places

pub size_drop : (n : ℕ) (items : List (List ℕ)) → items_size (drop n items) ≤ items_size items
size_drop zero items = omega arith
size_drop (suc n) [] = omega arith
size_drop (suc n) (x ∷ xs) = omega (arith, size_drop n xs)

drop_items : (n : ℕ) (vs : List (Vec ℕ Global)) → items_of (drop n vs) ≡ drop n (items_of vs)
drop_items zero vs = refl
drop_items (suc n) [] = refl
drop_items (suc n) (v ∷ vs) = drop_items n vs

pub size_rest : (n : ℕ) (vs : List (Vec ℕ Global)) → items_size (items_of (take (length vs - n) (drop n vs))) ≡ items_size (drop n (items_of vs))
size_rest n vs = ap (λ (l : List (Vec ℕ Global)). items_size (items_of l)) (take_all (length vs - n) (drop n vs) (omega (arith, length-drop n vs))) ∙ ap items_size (drop_items n vs)

within : (n : ℕ) (items : List (List ℕ)) (item : List ℕ) (rest : List (List ℕ)) → drop n items ≡ item ∷ rest → n < length items
within zero [] item rest is = absurd cc
within zero (x ∷ xs) item rest is = omega arith
within (suc n) [] item rest is = absurd cc
within (suc n) (x ∷ xs) item rest is = omega (arith, within n xs item rest is)

-- ---- what folds is not refused

-- the notes in front of an item, and that it is one
record NextNote (k : Kept) (items : List (List ℕ)) (n : ℕ) (item : List ℕ) : Type 0 where
  pub before : List Note
  pub texts : take n items ≡ map note_text before
  pub mid : Kept
  pub folds : Folds k before mid
  pub next : Note
  pub may : MayStand mid next
  pub is : item ≡ note_text next

next_note : (k end : Kept) (notes : List Note) (n : ℕ) (item : List ℕ) (rest : List (List ℕ)) → Folds k notes end → drop n (map note_text notes) ≡ item ∷ rest → NextNote k (map note_text notes) n item
next_note k end [] zero item rest folds at = absurd cc
next_note k end [] (suc n) item rest folds at = absurd cc
next_note k end (x ∷ xs) zero item rest folds at = record { before = []; texts = refl; mid = k; folds = refl; next = x; may = folds.0; is = cc at }
next_note k end (x ∷ xs) (suc n) item rest folds at =
    let later = next_note (after_note k x) end xs n item rest folds.1 at in
    record {
      before = x ∷ later.before;
      texts = ap (λ (l : List (List ℕ)). note_text x ∷ l) later.texts;
      mid = later.mid;
      folds = (folds.0, later.folds);
      next = later.next;
      may = later.may;
      is = later.is;
    }

folds_or_stops : (items : List (List ℕ)) (k : Kept) (n : ℕ) → AreNotes items k → StopsAt items n → ⊥
folds_or_stops items k n are s =
    let at : drop n (map note_text are.notes) ≡ s.item ∷ s.rest = ap (drop n) (sym are.texts) ∙ s.next in
    let next = next_note nothing_kept k are.notes n s.item s.rest are.folds at in
    let mid : next.mid ≡ s.kept = fold_once (take n items) next.mid s.kept (record { notes = next.before; texts = ap (take n) are.texts ∙ next.texts; folds = next.folds }) s.before in
    s.refused next.next (subst (λ (j : Kept). MayStand j next.next) mid next.may) next.is

-- ---- what bytes load as is one thing

module _ (bytes : List ℕ) (items : List (List ℕ)) (tail : ℕ) (ends : EndsAt bytes items tail) where
  same_items : (k : Kept) (most : ℕ) (l : LoadsAs bytes k most) → l.items ≡ items
  same_items k most l = let both : Ok l.items ≡ Ok items = Loads-once bytes (Ok l.items) (Ok items) (ends_load bytes l.items l.tail l.ends) (ends_load bytes items tail ends) in cc both

  same_tail : (k : Kept) (most : ℕ) (l : LoadsAs bytes k most) → l.tail ≡ tail
  same_tail k most l = ends_once bytes items l.tail tail (subst (λ (is : List (List ℕ)). EndsAt bytes is l.tail) (same_items k most l) l.ends) ends

  its_notes : (k : Kept) (most : ℕ) (l : LoadsAs bytes k most) → AreNotes items k
  its_notes k most l = subst (λ (is : List (List ℕ)). AreNotes is k) (same_items k most l) l.are

  its_room : (k : Kept) (most : ℕ) (l : LoadsAs bytes k most) → HasRoom k tail
  its_room k most l = subst (λ (n : ℕ). HasRoom k n) (same_tail k most l) l.room

  its_reach : (k : Kept) (most : ℕ) (l : LoadsAs bytes k most) → tail + items_size items ≤ most
  its_reach k most l = omega (arith, l.within, same_tail k most l, ap items_size (same_items k most l))

  -- a file of at most eighteen bytes has no item and ends at 17
  short_items : length bytes ≤ 18 → items ≡ []
  short_items short = let both : Ok items ≡ Ok [] = Loads-once bytes (Ok items) (Ok []) (ends_load bytes items tail ends) (inl (short, refl)) in cc both

  short_tail : length bytes ≤ 18 → tail ≡ 17
  short_tail short = ends_once bytes items tail 17 ends (inl (short, short_items short, refl))

  found_long : ((length bytes ≤ 18) → ⊥) → found bytes ≡ bytes
  found_long long = ⊎_elim
      (λ lt. ap (λ (b : Bool). if b then empty else bytes) (lt-leb (length bytes) 18 lt))
      (λ le. absurd (long le)) (cases_lt 18 (length bytes))

  not_short_stops : (n : ℕ) → StopsAt items n → length bytes ≤ 18 → ⊥
  not_short_stops n s short = omega (arith, within n items s.item s.rest s.next, ap length (short_items short))

  not_short_full : (k : Kept) → AreNotes items k → (HasRoom k tail → ⊥) → length bytes ≤ 18 → ⊥
  not_short_full k are breaks short =
      let none : AreNotes items nothing_kept = record { notes = []; texts = short_items short; folds = refl } in
      let room : HasRoom nothing_kept 17 = record { begin = omega arith; end = tt } in
      breaks (subst (λ (j : Kept). HasRoom j tail) (fold_once items nothing_kept k none are) (subst (λ (n : ℕ). HasRoom nothing_kept n) (sym (short_tail short)) room))

pub loads_once : LoadsOnce
loads_once bytes a b m n x y = fold_once x.items a b x.are (its_notes bytes x.items x.tail x.ends b n y)

alike : (before : DiskShown) (image : List ℕ) → IsOldOrAlike before image → IsOldOrSame before image
alike before image (inl was) = inl was
alike before image (inr same) = inr (λ k most l. record { items = l.items; tail = l.tail; ends = same.1 l.items l.tail l.ends; are = l.are; room = l.room; within = l.within })

same_moments : {D : Type 0} (shown : D → DiskShown) (disk new : D) → LeavesOnly (shown disk) (shown new) (IsOldOrAlike (shown disk)) → LeavesOnly (shown disk) (shown new) (IsOldOrSame (shown disk))
same_moments shown disk new run = LeavesOnly-weaker (shown disk) (shown new) (IsOldOrAlike (shown disk)) (IsOldOrSame (shown disk)) (alike (shown disk)) run

module _ {D : Type 0} {g : _} (told : DiskTold) (shown : D → DiskShown) (disk : D) where
  -- the journal was refused
  pub refused : (new : D) (fault : JournalFault) → JournalLoads {D = D} {g = g} told shown disk (load.Refused new fault) → LogLoads {D = D} {g = g} told shown disk (Refused new fault)
  refused new (NotJournal place) j = record {
    loaded = λ t. let l = j.loaded t in (inl l.0, l.1, l.2);
    only = λ t k most l. let both : Ok l.items ≡ Err place = Loads-once (shown disk).seen (Ok l.items) (Err place) (ends_load (shown disk).seen l.items l.tail l.ends) (j.loaded t).0 in cc both;
    takes = tt;
    any_moment = λ t. same_moments shown disk new (j.any_moment t);
    fails = j.fails;
    calls = j.calls;
  }
  refused new DiskFault j = record { loaded = λ t. tt; only = λ t. tt; takes = tt; any_moment = λ t. same_moments shown disk new (j.any_moment t); fails = j.fails; calls = λ t u. tt }
  refused new NoMemory j = record { loaded = λ t. tt; only = λ t. tt; takes = tt; any_moment = λ t. same_moments shown disk new (j.any_moment t); fails = j.fails; calls = λ t u. tt }

  -- the journal was read
  module _ (journal : Journal D g) (v : Vec (Vec ℕ Global) Global) (j : JournalLoads told shown disk (load.Ready journal v)) where
    abbrev items : List (List ℕ)
    items = items_of v.items

    fails_as : {other : Type 0} → (other → ⊥) → DiskFails told (shown disk) (shown journal.disk) other
    fails_as fine = DiskFails-as told (shown disk) (shown journal.disk) (λ fault. absurd (fine fault)) (λ no_fault. absurd no_fault) j.fails

    pub tail_reaches : items_size items ≤ tail_at journal
    tail_reaches = omega (arith, j.is_open.2, area_size items)

    seen_still : (t : told.tells) → ((length (shown disk).seen ≤ 18) → ⊥) → (shown journal.disk).seen ≡ (shown disk).seen
    seen_still t long = let gives = j.loaded t in gives.2 ∙ found_long (shown disk).seen items (tail_at journal) gives.0 long

    durable : (t : told.tells) → (shown journal.disk).seen ≡ (shown disk).seen → Only (shown disk).seen (shown journal.disk).may_leave
    durable t same = subst (λ (l : List ℕ). Only l (shown journal.disk).may_leave) same (j.loaded t).1.1.durable

    -- what the fold of the items said
    module _ (vs : List (Vec ℕ Global)) (same : vs ≡ v.items) (answer : Fold) (said : IsFoldOf (items_of vs) answer) where
      folded : IsFoldOf items answer
      folded = subst (λ (l : List (Vec ℕ Global)). IsFoldOf (items_of l) answer) same said

      pub stops : (n : ℕ) → answer ≡ fold.Stops n → StopsAt items n
      stops n is = subst (IsFoldOf items) is folded

      pub keeps : (k : Kept) → answer ≡ fold.Kept k → AreNotes items k
      keeps k is = subst (IsFoldOf items) is folded

    -- an item is refused
    pub stopped : (n place : ℕ) → StopsAt items n → place + items_size (drop n items) ≡ tail_at journal → LogLoads {D = D} {g = g} told shown disk (Refused journal.disk (NotJournal place))
    stopped n place s at = record {
      loaded = λ t.
          let ends = (j.loaded t).0 in
          let same = seen_still t (not_short_stops (shown disk).seen items (tail_at journal) ends n s) in
          (inr (inl (record { items = items; tail = tail_at journal; ends = ends; number = n; stops = s; is_place = at })), same, durable t same);
      only = λ t k most l. folds_or_stops items k n (its_notes (shown disk).seen items (tail_at journal) (j.loaded t).0 k most l) s;
      takes = tt;
      any_moment = λ t. same_moments shown disk journal.disk (j.any_moment t);
      fails = fails_as (λ fault. cc fault);
      calls = j.calls;
    }

    pub starved : LogLoads {D = D} {g = g} told shown disk (Refused journal.disk NoMemory)
    starved = record { loaded = λ t. tt; only = λ t. tt; takes = tt; any_moment = λ t. same_moments shown disk journal.disk (j.any_moment t); fails = fails_as (λ fault. cc fault); calls = λ t u. tt }

    -- a rule on the tail is broken
    pub crowded : (k : Kept) → AreNotes items k → (HasRoom k (tail_at journal) → ⊥) → LogLoads {D = D} {g = g} told shown disk (Refused journal.disk (NotJournal (tail_at journal)))
    crowded k are breaks = record {
      loaded = λ t.
          let ends = (j.loaded t).0 in
          let same = seen_still t (not_short_full (shown disk).seen items (tail_at journal) ends k are breaks) in
          (inr (inr (record { items = items; ends = ends; kept = k; are = are; breaks = breaks })), same, durable t same);
      only = λ t other most l.
          let ends = (j.loaded t).0 in
          let same : other ≡ k = fold_once items other k (its_notes (shown disk).seen items (tail_at journal) ends other most l) are in
          breaks (subst (λ (i : Kept). HasRoom i (tail_at journal)) same (its_room (shown disk).seen items (tail_at journal) ends other most l));
      takes = tt;
      any_moment = λ t. same_moments shown disk journal.disk (j.any_moment t);
      fails = fails_as (λ fault. cc fault);
      calls = j.calls;
    }

    -- what was read is held
    pub ready : (k : Kept) (log : ClientLog D g) → log.journal ≡ journal → log.pending ≡ is_some k.pending → log.dense ≡ false → AreNotes items k → HasRoom k (tail_at journal) → LogLoads {D = D} {g = g} told shown disk (Ready log k)
    ready k log same waits thin are room =
        let disk_same : journal.disk ≡ log_disk log = ap (λ (i : Journal D g). i.disk) (sym same) in
        record {
          loaded = λ t.
              let gives = j.loaded t in (
                record { items = items; tail = tail_at journal; ends = gives.0; are = are; room = room; within = omega (arith, ap tail_at same, ap start_at same, area_is shown journal items gives.1) },
                record {
                  items = items;
                  has = subst (λ (i : Journal D g). HasItems shown i items) (sym same) gives.1;
                  are = are;
                  waits = waits;
                  room = subst (λ (i : Journal D g). HasRoom k (tail_at i)) (sym same) room;
                  dense = λ is. absurd (cc (is, thin));
                },
              );
          only = λ t other most l.
              let ends = (j.loaded t).0 in
              let reached = its_reach (shown disk).seen items (tail_at journal) ends other most l in
              (fold_once items k other are (its_notes (shown disk).seen items (tail_at journal) ends other most l), omega (arith, ap tail_at same, ap start_at same, area_is shown journal items (j.loaded t).1, reached));
          takes = record {
            is_open = ap is_closed same ∙ j.is_open.0;
            waits = waits;
            room = subst (λ (i : Journal D g). HasRoom k (tail_at i)) (sym same) room;
            notes = are.notes;
            folds = are.folds;
          };
          any_moment = λ t. subst (λ (d : D). LeavesOnly (shown disk) (shown d) (IsOldOrSame (shown disk))) disk_same (same_moments shown disk journal.disk (j.any_moment t));
          fails = subst (λ (d : D). DiskFails told (shown disk) (shown d) ⊥) disk_same (fails_as (λ fault. fault));
          calls = λ t u. ap (λ (d : D). (shown d).trouble.calls) (sym disk_same) ∙ j.calls t u;
        }
