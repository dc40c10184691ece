-- What a torn write leaves of the parts of a journal's file that it does not touch.
use Rattle.std.proofs.Common.{◌≡◌, ◌⊎◌, inl, inr, ℕ, ◌+◌, ◌-◌, ◌≤◌, ◌^◌, min, Bool, List, [], ◌∷◌, ◌++◌, length, take, drop, refl, sym, ◌∙◌, ap, subst, arith, append_assoc, length-append, length-drop, length-take, length-take-le, take-append-drop}
use Rattle.std.proofs.lemmas.List.{drop-drop, drop-take, drop_at, take-take, take_at}
use Rattle.std.specs.Int.{w32, from_be_bytes}
use Rattle.bcv_disk.specs.Crash.{Only, Torn, put}
use Rattle.bcv_disk.specs.DiskShown.{DiskShown}
use Rattle.bcv_journal.specs.Layout.{EndsAt, IsSpelled, area_of, field_of, is_second, magic, start_in, tail_of}
use Rattle.bcv_journal.specs.Moved.{LeadsTo, size_of}
use Rattle.bcv_journal.specs.Settled.{IsSettled}
use Rattle.bcv_journal.specs.declared.area.Area.{Area}
use Rattle.bcv_journal.proofs.Head.{second-front}
use Rattle.bcv_journal.proofs.Reader.{front-is}
use Rattle.bcv_journal.proofs.Unique.{spelled_head}

-- k bytes from s on, all of them before the torn range or all of them after it
pub window : (old new : List ℕ) (at n s k : ℕ) → Torn at n old new → at ≤ length old → (s + k ≤ at) ⊎ (at + n ≤ s) → take k (drop s new) ≡ take k (drop s old)
window old new at n s k torn within (inl below) =
    let least : min at (length old) ≡ at = omega (arith, within) in
    let front : take at new ≡ take at old = subst (λ (m : ℕ). take m new ≡ take at old) least torn.before in
    sym (drop-take s k new) ∙ ap (λ (l : List ℕ). drop s l) (sym (take-take (s + k) at new below) ∙ ap (λ (l : List ℕ). take (s + k) l) front ∙ take-take (s + k) at old below) ∙ drop-take s k old
window old new at n s k torn within (inr above) =
    let m = s - (at + n) in
    let whole : s ≡ at + n + m = omega (arith, above) in
    ap (λ (l : List ℕ). take k l) (
    ap (λ (p : ℕ). drop p new) whole ∙ sym (drop-drop m (at + n) new) ∙ ap (λ (l : List ℕ). drop m l) torn.after ∙ drop-drop m (at + n) old ∙ ap (λ (p : ℕ). drop p old) (sym whole)
    )

-- the bytes that were put
pub put_window : (old : List ℕ) (at : ℕ) (bytes : List ℕ) → at ≤ length old → take (length bytes) (drop at (put old at bytes)) ≡ bytes
put_window old at bytes within =
    let back = drop (at + length bytes) old in
    ap (λ (l : List ℕ). take (length bytes) (drop at l)) (append_assoc (take at old) bytes back)
    ∙ ap (λ (l : List ℕ). take (length bytes) l) (drop_at (take at old) (bytes ++ back) at (length-take-le at old within))
    ∙ take_at bytes back (length bytes) refl

-- the area lies within the file
pub leads_within : (bytes : List ℕ) (second : Bool) (start : ℕ) (items : List (List ℕ)) → LeadsTo bytes second start items → start + (size_of items + 1) ≤ length bytes
leads_within bytes second start items l =
    omega (arith, ap length l.window, length-take (size_of items + 1) (drop start bytes), length-drop start bytes, length-append (area_of items) (l.gate ∷ []))

pub leads_torn : (old new : List ℕ) (at n : ℕ) (second : Bool) (start : ℕ) (items : List (List ℕ)) → LeadsTo old second start items → Torn at n old new → at ≤ length old
    → (field_of second + 4 ≤ at) ⊎ (at + n ≤ field_of second) → (start + (size_of items + 1) ≤ at) ⊎ (at + n ≤ start) → LeadsTo new second start items
leads_torn old new at n second start items l torn within field area = record {
  low = l.low;
  each = l.each;
  starts = ap (λ (b : List ℕ). from_be_bytes w32 b) (window old new at n (field_of second) 4 torn within field) ∙ l.starts;
  gate = l.gate;
  closed = l.closed;
  window = window old new at n start (size_of items + 1) torn within area ∙ l.window;
}

-- the file has its magic, and the start that is chosen leads to these items
pub record IsChosen (second : Bool) (start : ℕ) (items : List (List ℕ)) (bytes : List ℕ) : Type 0 where
  pub magic_is : take 8 bytes ≡ magic
  pub second_is : is_second bytes ≡ second
  pub short : length bytes ≤ 2 ^ 31
  pub leads : LeadsTo bytes second start items

-- the file from the start on
chosen_back : (second : Bool) (start : ℕ) (items : List (List ℕ)) (bytes : List ℕ) (c : IsChosen second start items bytes)
    → bytes ≡ (take start bytes ++ area_of items) ++ c.leads.gate ∷ drop (size_of items + 1) (drop start bytes)
chosen_back second start items bytes c =
    let rest = drop (size_of items + 1) (drop start bytes) in
    let back : drop start bytes ≡ area_of items ++ c.leads.gate ∷ rest =
    sym (take-append-drop (size_of items + 1) (drop start bytes)) ∙ ap (λ (l : List ℕ). l ++ rest) c.leads.window ∙ append_assoc (area_of items) (c.leads.gate ∷ []) rest in
    sym (take-append-drop start bytes) ∙ ap (λ (l : List ℕ). take start bytes ++ l) back ∙ sym (append_assoc (take start bytes) (area_of items) (c.leads.gate ∷ rest))

abbrev spelled_of : (second : Bool) (start : ℕ) (items : List (List ℕ)) (bytes : List ℕ) → IsChosen second start items bytes → IsSpelled bytes items
spelled_of second start items bytes c = record {
  front = take start bytes;
  gate = c.leads.gate;
  rest = drop (size_of items + 1) (drop start bytes);
  is_front = front-is bytes start c.magic_is (sym (ap (λ (b : Bool). start_in bytes b) c.second_is ∙ c.leads.starts)) c.leads.low (omega (arith, leads_within bytes second start items c.leads));
  closed = c.leads.closed;
  each = c.leads.each;
  whole = chosen_back second start items bytes c;
}

pub chosen_ends : (second : Bool) (start : ℕ) (items : List (List ℕ)) (bytes : List ℕ) → IsChosen second start items bytes → EndsAt bytes items (tail_of start items)
chosen_ends second start items bytes c =
    inr (c.short, spelled_of second start items bytes c, ap (λ (n : ℕ). tail_of n items) (sym (length-take-le start bytes (omega (arith, leads_within bytes second start items c.leads)))))

pub chosen_settled : (now : DiskShown) (area : Area) (items : List (List ℕ)) → IsChosen area.second area.start items now.seen → area.tail ≡ tail_of area.start items → Only now.seen now.may_leave → IsSettled now area items
chosen_settled now area items c tail only = record {
  spelled = spelled_of area.second area.start items now.seen c;
  short = c.short;
  start_is = sym (length-take-le area.start now.seen (omega (arith, leads_within now.seen area.second area.start items c.leads)));
  second_is = sym c.second_is ∙ sym (second-front now.seen area.start c.leads.low);
  tail_is = tail;
  durable = only;
}

pub settled_chosen : (old : DiskShown) (area : Area) (items : List (List ℕ)) → IsSettled old area items → IsChosen area.second area.start items old.seen
settled_chosen old area items s =
    let head = spelled_head old.seen items s.spelled in
    let second : is_second old.seen ≡ area.second = head.1 ∙ sym s.second_is in
    let block = area_of items ++ s.spelled.gate ∷ [] in
    let whole : old.seen ≡ s.spelled.front ++ (block ++ s.spelled.rest) =
    s.spelled.whole ∙ append_assoc s.spelled.front (area_of items) (s.spelled.gate ∷ s.spelled.rest) ∙ ap (λ (l : List ℕ). s.spelled.front ++ l) (sym (append_assoc (area_of items) (s.spelled.gate ∷ []) s.spelled.rest)) in
    record {
      magic_is = head.0;
      second_is = second;
      short = s.short;
      leads = record {
        low = omega (arith, s.spelled.is_front.long, s.start_is);
        each = s.spelled.each;
        starts = ap (λ (b : Bool). start_in old.seen b) (sym second) ∙ head.2 ∙ sym s.start_is;
        gate = s.spelled.gate;
        closed = s.spelled.closed;
        window =
            ap (λ (l : List ℕ). take (size_of items + 1) (drop area.start l)) whole
            ∙ ap (λ (l : List ℕ). take (size_of items + 1) l) (drop_at s.spelled.front (block ++ s.spelled.rest) area.start (sym s.start_is))
            ∙ take_at block s.spelled.rest (size_of items + 1) (length-append (area_of items) (s.spelled.gate ∷ []));
      };
    }
