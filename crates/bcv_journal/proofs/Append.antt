-- What a crash leaves while an item is added.
use Rattle.std.proofs.Common.{◌≡◌, inl, inr, ℕ, ◌+◌, ◌<◌, ◌≤◌, ◌^◌, List, [], ◌∷◌, ◌++◌, length, get_or, take, drop, refl, sym, ◌∙◌, ap, subst, arith, append_assoc, length-append}
use Rattle.std.proofs.lemmas.Bool.{cases_eq}
use Rattle.std.proofs.lemmas.List.{drop_at, length-take, take-append-le, take-take}
use Rattle.std.specs.Int.{w32, to_be_bytes}
use Rattle.std.specs.List.{AllByRecursion}
use Rattle.bcv_disk.specs.Crash.{LeavesOnly, Only, Passes, Through, Torn, put}
use Rattle.bcv_disk.specs.DiskShown.{DiskShown}
use Rattle.bcv_disk.specs.Told.{length-put}
use Rattle.bcv_disk.specs.Calls.{LeavesOnly-started, LeavesOnly-more}
use Rattle.bcv_journal.specs.AddedItem.{longer}
use Rattle.bcv_journal.specs.Layout.{EndsAt, IsFront, IsItem, IsSpelled, area_of, open_item, tail_of, written}
use Rattle.bcv_journal.specs.Settled.{IsBeforeOrAfter, IsSettled}
use Rattle.bcv_journal.specs.declared.area.Area.{Area}
use Rattle.bcv_journal.proofs.Bytes.{each-push, file, put_after, put_gate, torn_after, torn_gate, written-push}

-- what is written after the closed gate
abbrev pub block_of : List ℕ → List ℕ
block_of item = to_be_bytes w32 (length item) ++ item ++ 0 ∷ []

pub length-block_of : (item : List ℕ) → length (block_of item) ≡ length item + 5
length-block_of item = omega (arith, length-append (to_be_bytes w32 (length item) ++ item) (0 ∷ []), length-append (to_be_bytes w32 (length item)) item)

-- the file with an item after the gate
abbrev pub staged : List ℕ → List (List ℕ) → ℕ → List ℕ → List ℕ → List ℕ
staged front items gate item rest = written front items ++ gate ∷ (block_of item ++ rest)

-- the place of the closed gate
pub tail_place : (shown : DiskShown) (area : Area) (items : List (List ℕ)) (s : IsSettled shown area items) → area.tail ≡ length (written s.spelled.front items)
tail_place shown area items s = s.tail_is ∙ ap (λ (n : ℕ). tail_of n items) s.start_is ∙ sym (length-append s.spelled.front (area_of items))

pub length-open_item : (item : List ℕ) → length (open_item item) ≡ 5 + length item
length-open_item item = omega (arith, length-append (to_be_bytes w32 (length item)) item)

pub tail-push : (start : ℕ) (items : List (List ℕ)) (item : List ℕ) → tail_of start (items ++ item ∷ []) ≡ tail_of start items + (5 + length item)
tail-push start items item =
    let joined : length (written [] (items ++ item ∷ []) ++ []) ≡ length (written [] items ++ (open_item item ++ [])) = ap length (written-push [] items item []) in
    let first : length (written [] (items ++ item ∷ []) ++ []) ≡ length (area_of (items ++ item ∷ [])) + 0 = length-append (area_of (items ++ item ∷ [])) [] in
    let second : length (written [] items ++ (open_item item ++ [])) ≡ length (area_of items) + length (open_item item ++ []) = length-append (area_of items) (open_item item ++ []) in
    let third : length (open_item item ++ []) ≡ length (open_item item) + 0 = length-append (open_item item) [] in
    omega (arith, joined, first, second, third, length-open_item item)

-- a crash between two calls leaves the items with their tail
pub settled_ends : (shown : DiskShown) (area : Area) (items : List (List ℕ)) → IsSettled shown area items → (image : List ℕ) → shown.may_leave image → EndsAt image items area.tail
settled_ends shown area items s image left =
    subst (λ (l : List ℕ). EndsAt l items area.tail) (sym (s.durable image left)) (inr (s.short, s.spelled, s.tail_is ∙ ap (λ (n : ℕ). tail_of n items) s.start_is))

-- the gate stands closed in each outcome of the first write
pub stage_loads : (bytes image : List ℕ) (items : List (List ℕ)) (tail n : ℕ) (s : IsSpelled bytes items) → tail ≡ tail_of (length s.front) items → length bytes ≤ 2 ^ 31 → length (written s.front items) + 1 + n ≤ 2 ^ 31 → Torn (length (written s.front items) + 1) n bytes image → EndsAt image items tail
stage_loads bytes image items tail n s tail_is short fits torn =
    let image_is = torn_after (written s.front items) s.gate s.rest n image (subst (λ (l : List ℕ). Torn (length (written s.front items) + 1) n l image) s.whole torn) in
    inr (
      omega (arith, torn.no_longer),
      record { front = s.front; gate = s.gate; rest = drop (length (written s.front items) + 1) image; is_front = s.is_front; closed = s.closed; each = s.each; whole = image_is },
      tail_is,
    )

-- an open gate in front of the item makes it one of the items
pub opened : (front : List ℕ) (items : List (List ℕ)) (item rest : List ℕ) → written front items ++ 1 ∷ (block_of item ++ rest) ≡ written front (items ++ item ∷ []) ++ 0 ∷ rest
opened front items item rest =
    ap (λ (l : List ℕ). written front items ++ 1 ∷ l) (append_assoc (to_be_bytes w32 (length item) ++ item) (0 ∷ []) rest) ∙ sym (written-push front items item (0 ∷ rest))

-- a gate of 0 is closed
pub zero_shut : (gate : ℕ) → gate ≡ 0 → gate ≡ 1 → ⊥
zero_shut gate zero one = cc (zero, one)

abbrev pub spelled_after : (front : List ℕ) (items : List (List ℕ)) (item rest : List ℕ) → IsFront front → AllByRecursion IsItem items → IsItem item → IsSpelled (written front items ++ 1 ∷ (block_of item ++ rest)) (items ++ item ∷ [])
spelled_after front items item rest is_front each is =
    record { front = front; gate = 0; rest = rest; is_front = is_front; closed = zero_shut 0 refl; each = each-push items item each is; whole = opened front items item rest }

-- the item stands whole in each outcome of the second write
pub gate_loads : (image front : List ℕ) (items : List (List ℕ)) (tail gate : ℕ) (item rest : List ℕ) → tail ≡ tail_of (length front) items → IsFront front → AllByRecursion IsItem items → IsItem item → length (staged front items gate item rest) ≤ 2 ^ 31
    → Torn (length (written front items)) 1 (staged front items gate item rest) image → IsBeforeOrAfter items tail item image
gate_loads image front items tail gate item rest tail_is is_front each is short torn =
    let byte = get_or image (length (written front items)) 0 in
    let image_is : image ≡ written front items ++ byte ∷ (block_of item ++ rest) = torn_gate (written front items) gate (block_of item ++ rest) image torn in
    let long : length image ≤ 2 ^ 31 = omega (arith, torn.no_longer, short, length-append (written front items) (gate ∷ (block_of item ++ rest))) in
    elim (cases_eq byte 1) [
      | inl one ↦ inr (subst (λ (l : List ℕ). EndsAt l (items ++ item ∷ []) (tail + 5 + length item)) (sym (image_is ∙ ap (λ (b : ℕ). written front items ++ b ∷ (block_of item ++ rest)) one)) (
          inr (omega (arith, long, ap length image_is, length-append (written front items) (byte ∷ (block_of item ++ rest)), length-append (written front items) (1 ∷ (block_of item ++ rest))), spelled_after front items item rest is_front each is, omega (arith, tail_is, tail-push (length front) items item))
          ))
      | inr shut ↦ inl (inr (long, record { front = front; gate = byte; rest = block_of item ++ rest; is_front = is_front; closed = shut; each = each; whole = image_is }, tail_is))
    ]

module _ (items : List (List ℕ)) (area : Area) (item block : List ℕ) (old : DiskShown) (s : IsSettled old area items) (is : IsItem item) (fits : area.tail + 6 + length item ≤ 2 ^ 31) (block_is : block ≡ block_of item) where
  block_length : length block ≡ length item + 5
  block_length = ap length block_is ∙ length-block_of item

  abbrev front : List ℕ
  front = s.spelled.front

  place : area.tail ≡ length (written front items)
  place = tail_place old area items s

  ends : area.tail ≡ tail_of (length front) items
  ends = s.tail_is ∙ ap (λ (n : ℕ). tail_of n items) s.start_is

  pub before_it : ((image : List ℕ) → old.left_since old.moment image → old.may_leave image) → LeavesOnly old old (IsBeforeOrAfter items area.tail item)
  before_it only_now =
      LeavesOnly-started old (IsBeforeOrAfter items area.tail item) (λ image left. inl (settled_ends old area items s image (only_now image left)))

  -- the first write
  pub while_staged : ((image : List ℕ) → old.left_since old.moment image → old.may_leave image) → (mid : DiskShown) → Passes old mid (Through (Torn (area.tail + 1) (length block)) old.may_leave)
      → LeavesOnly old mid (IsBeforeOrAfter items area.tail item)
  while_staged only_now mid call =
      LeavesOnly-more old old mid (IsBeforeOrAfter items area.tail item) _ (before_it only_now) call (λ image through.
      let from = subst (λ (l : List ℕ). Torn (area.tail + 1) (length block) l image) (s.durable through.0 through.1) through.2 in
      let at = subst (λ (t : ℕ). Torn (t + 1) (length block) old.seen image) place from in
      inl (stage_loads old.seen image items area.tail (length block) s.spelled ends s.short (omega (arith, block_length, place, fits)) at))

  abbrev pub rest : List ℕ
  rest = drop (length (block_of item)) s.spelled.rest

  -- between the two writes
  module _ (mid : DiskShown) (written_is : mid.seen ≡ put old.seen (area.tail + 1) block) (durable : Only mid.seen mid.may_leave) where
    pub mid_is : mid.seen ≡ staged front items s.spelled.gate item rest
    mid_is =
        written_is ∙ ap (λ (l : List ℕ). put l (area.tail + 1) block) s.spelled.whole ∙ ap (λ (t : ℕ). put (file (written front items) s.spelled.gate s.spelled.rest) (t + 1) block) place
        ∙ ap (λ (b : List ℕ). put (file (written front items) s.spelled.gate s.spelled.rest) (length (written front items) + 1) b) block_is
        ∙ put_after (written front items) s.spelled.gate s.spelled.rest (block_of item)

    pub mid_short : length mid.seen ≤ 2 ^ 31
    mid_short =
        omega (
          arith,
          ap length written_is,
          length-put old.seen (area.tail + 1) block,
          block_length,
          s.short,
          place,
          ap length s.spelled.whole,
          length-append (written front items) (s.spelled.gate ∷ s.spelled.rest),
          fits,
        )

    staged_short : length (staged front items s.spelled.gate item rest) ≤ 2 ^ 31
    staged_short = subst (λ (l : List ℕ). length l ≤ 2 ^ 31) mid_is mid_short

    -- the second write
    pub while_opened : (new : DiskShown) → LeavesOnly old mid (IsBeforeOrAfter items area.tail item) → Passes mid new (Through (Torn area.tail 1) mid.may_leave) → LeavesOnly old new (IsBeforeOrAfter items area.tail item)
    while_opened new so_far call =
        LeavesOnly-more old mid new (IsBeforeOrAfter items area.tail item) _ so_far call (λ image through.
        let from = subst (λ (l : List ℕ). Torn area.tail 1 l image) (durable through.0 through.1 ∙ mid_is) through.2 in
        let at = subst (λ (t : ℕ). Torn t 1 (staged front items s.spelled.gate item rest) image) place from in
        gate_loads image front items area.tail s.spelled.gate item rest ends s.spelled.is_front s.spelled.each is staged_short at)

    -- after both
    pub settled_after : (new : DiskShown) → new.seen ≡ put mid.seen area.tail (1 ∷ []) → Only new.seen new.may_leave → IsSettled new (longer area (5 + length item)) (items ++ item ∷ [])
    settled_after new opened_is only =
        let new_is : new.seen ≡ written front items ++ 1 ∷ (block_of item ++ rest) =
        opened_is ∙ ap (λ (l : List ℕ). put l area.tail (1 ∷ [])) mid_is ∙ ap (λ (t : ℕ). put (staged front items s.spelled.gate item rest) t (1 ∷ [])) place
        ∙ put_gate (written front items) s.spelled.gate (block_of item ++ rest) 1 in
        record {
          spelled = record {
            front = front;
            gate = 0;
            rest = rest;
            is_front = s.spelled.is_front;
            closed = (λ no. cc no);
            each = each-push items item s.spelled.each is;
            whole = new_is ∙ opened front items item rest;
          };
          short = omega (arith, ap length new_is, length-append (written front items) (1 ∷ (block_of item ++ rest)), length-append (written front items) (s.spelled.gate ∷ (block_of item ++ rest)), staged_short);
          start_is = s.start_is;
          second_is = s.second_is;
          tail_is = omega (arith, s.tail_is, tail-push area.start items item);
          durable = only;
        }

    -- where the second write found no memory
    pub settled_between : (new : DiskShown) → new.seen ≡ mid.seen → ((image : List ℕ) → new.may_leave image → mid.may_leave image) → IsSettled new area items
    settled_between new same no_more = record {
      spelled = record {
        front = front;
        gate = s.spelled.gate;
        rest = block_of item ++ rest;
        is_front = s.spelled.is_front;
        closed = s.spelled.closed;
        each = s.spelled.each;
        whole = same ∙ mid_is;
      };
      short = subst (λ (l : List ℕ). length l ≤ 2 ^ 31) (sym same) mid_short;
      start_is = s.start_is;
      second_is = s.second_is;
      tail_is = s.tail_is;
      durable = λ image left. durable image (no_more image left) ∙ sym same;
    }

-- where no memory was found before any write
pub settled_same : (old new : DiskShown) (area : Area) (items : List (List ℕ)) → IsSettled old area items → new.seen ≡ old.seen → ((image : List ℕ) → new.may_leave image → old.may_leave image) → IsSettled new area items
settled_same old new area items s same no_more = record {
  spelled = record { front = s.spelled.front; gate = s.spelled.gate; rest = s.spelled.rest; is_front = s.spelled.is_front; closed = s.spelled.closed; each = s.spelled.each; whole = same ∙ s.spelled.whole };
  short = subst (λ (l : List ℕ). length l ≤ 2 ^ 31) (sym same) s.short;
  start_is = s.start_is;
  second_is = s.second_is;
  tail_is = s.tail_is;
  durable = λ image left. s.durable image (no_more image left) ∙ sym same;
}

-- two writes that make one: the block after the gate, and then the gate
pub one_put : (old : List ℕ) (tail : ℕ) (block : List ℕ) → tail < length old → put (put old (tail + 1) block) tail (1 ∷ []) ≡ put old tail (1 ∷ block)
one_put old tail block within =
    let first : take tail (put old (tail + 1) block) ≡ take tail old =
    ap (λ (l : List ℕ). take tail l) (append_assoc (take (tail + 1) old) block (drop (tail + 1 + length block) old)) ∙ front_of in
    let back : drop (tail + 1) (put old (tail + 1) block) ≡ block ++ drop (tail + 1 + length block) old =
    ap (λ (l : List ℕ). drop (tail + 1) l) (append_assoc (take (tail + 1) old) block (drop (tail + 1 + length block) old))
    ∙ drop_at (take (tail + 1) old) (block ++ drop (tail + 1 + length block) old) (tail + 1) (omega (arith, length-take (tail + 1) old, within)) in
    (λ i. first i ++ 1 ∷ [] ++ back i) ∙ append_assoc (take tail old) (1 ∷ []) (block ++ drop (tail + 1 + length block) old)
    ∙ sym (append_assoc (take tail old) (1 ∷ block) (drop (tail + 1 + length block) old)) ∙ ap (λ (n : ℕ). take tail old ++ 1 ∷ block ++ drop n old) (omega arith)
  where
    front_of : take tail (take (tail + 1) old ++ (block ++ drop (tail + 1 + length block) old)) ≡ take tail old
    front_of = take-append-le tail (take (tail + 1) old) (block ++ drop (tail + 1 + length block) old) (omega (arith, length-take (tail + 1) old, within)) ∙ take-take tail (tail + 1) old (omega arith)
