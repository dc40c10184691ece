-- What a crash leaves while a second area is laid and chosen.
use Rattle.std.proofs.Common.{◌≡◌, ◌⊎◌, inl, inr, ⊎_elim, ℕ, ◌+◌, ◌<◌, ◌≤◌, ◌^◌, ◌==◌, Bool, true, false, not, List, [], ◌∷◌, length, get_or, take, drop, refl, sym, ◌∙◌, ap, subst, arith, lit<, length-append}
use Rattle.std.proofs.lemmas.List.{drop_more, get_or-take}
use Rattle.std.proofs.lemmas.Nat.{from_be_bytes-to_be_bytes_4}
use Rattle.std.specs.Int.{w32, from_be_bytes, to_be_bytes}
use Rattle.bcv_disk.specs.Calls.{LeavesOnly-more, LeavesOnly-started}
use Rattle.bcv_disk.specs.Crash.{LeavesOnly, Only, Passes, Through, Torn, put}
use Rattle.bcv_disk.specs.DiskShown.{DiskShown}
use Rattle.bcv_disk.specs.Told.{put_is_torn}
use Rattle.bcv_journal.specs.Layout.{EndsAt, area_of, field_of, is_second}
use Rattle.bcv_journal.specs.Moved.{IsApart, IsWholeArea, LeadsTo, moved, selector_of, size_of}
use Rattle.bcv_journal.specs.Settled.{IsEither, IsSettled}
use Rattle.bcv_journal.specs.declared.area.Area.{Area}
use Rattle.bcv_journal.proofs.Head.{field-least}
use Rattle.bcv_journal.proofs.Window.{IsChosen, chosen_ends, chosen_settled, leads_torn, leads_within, put_window, settled_chosen, window}

fields_apart : (second : Bool) → (field_of second + 4 ≤ field_of (not second)) ⊎ (field_of (not second) + 4 ≤ field_of second)
fields_apart true = inr (omega arith)
fields_apart false = inl (omega arith)

field_low : (second : Bool) → 9 ≤ field_of second
field_low true = omega arith
field_low false = omega arith

-- a write after the selector that spares the chosen start and its area
chosen_torn : (old new : List ℕ) (at n : ℕ) (second : Bool) (start : ℕ) (items : List (List ℕ)) → IsChosen second start items old → Torn at n old new → 9 ≤ at → at ≤ length old → at + n ≤ 2 ^ 31
    → (field_of second + 4 ≤ at) ⊎ (at + n ≤ field_of second) → (start + (size_of items + 1) ≤ at) ⊎ (at + n ≤ start) → IsChosen second start items new
chosen_torn old new at n second start items c torn low within fits field area =
    let front : take 9 new ≡ take 9 old = window old new at n 0 9 torn within (inl low) in
    let byte : get_or new 8 0 ≡ get_or old 8 0 = sym (get_or-take 9 new 8 0 (lit< tt)) ∙ ap (λ (l : List ℕ). get_or l 8 0) front ∙ get_or-take 9 old 8 0 (lit< tt) in
    record {
      magic_is = window old new at n 0 8 torn within (inl (omega (arith, low))) ∙ c.magic_is;
      second_is = ap (λ (b : ℕ). b == 1) byte ∙ c.second_is;
      short = omega (arith, torn.no_longer, c.short, fits);
      leads = leads_torn old new at n second start items c.leads torn within field area;
    }

-- a file with its own items, beside which others are laid
module _ (old : DiskShown) (area : Area) (start : ℕ) (block : List ℕ) (items : List (List ℕ)) (s : IsSettled old area items) (apart : IsApart area start (length block)) where
  abbrev Own : List ℕ → Type 0
  Own image = IsChosen area.second area.start items image

  own_before : Own old.seen
  own_before = settled_chosen old area items s

  upto : start ≤ length old.seen
  upto = omega (arith, apart.upto, s.tail_is, leads_within old.seen area.second area.start items own_before.leads)

  clear : (area.start + (size_of items + 1) ≤ start) ⊎ (start + length block ≤ area.start)
  clear = ⊎_elim (λ before. inr before) (λ after. inl (omega (arith, after, s.tail_is))) apart.apart

  -- a write of the area
  own_laid : (image : List ℕ) → Torn start (length block) old.seen image → Own image
  own_laid image torn =
      chosen_torn old.seen image start (length block) area.second area.start items own_before torn (omega (arith, apart.low)) upto apart.fits (inl (omega (arith, apart.low, field-least area.second))) clear

  -- a write of the other start
  own_pointed : (was image : List ℕ) → Own was → Torn (field_of (not area.second)) 4 was image → Own image
  own_pointed was image own torn =
      chosen_torn was image (field_of (not area.second)) 4 area.second area.start items own torn (field_low (not area.second))
      (omega (arith, field-least (not area.second), own.leads.low, leads_within was area.second area.start items own.leads)) (omega (arith, field-least (not area.second))) (fields_apart area.second)
      (inr (omega (arith, field-least (not area.second), own.leads.low)))

  abbrev Still : List ℕ → Type 0
  Still image = EndsAt image items area.tail

  still : (image : List ℕ) → Own image → Still image
  still image own = subst (λ (n : ℕ). EndsAt image items n) (sym s.tail_is) (chosen_ends area.second area.start items image own)

  module _ (only_now : (image : List ℕ) → old.left_since old.moment image → old.may_leave image) where
    started : LeavesOnly old old Still
    started = LeavesOnly-started old Still (λ image left. subst Still (sym (s.durable image (only_now image left))) (still old.seen own_before))

    module _ (mid : DiskShown) (first : Passes old mid (Through (Torn start (length block)) old.may_leave)) where
      own_through : (image : List ℕ) → Through (Torn start (length block)) old.may_leave image → Own image
      own_through image through = own_laid image (subst (λ (l : List ℕ). Torn start (length block) l image) (s.durable through.0 through.1) through.2)

      pub while_laid : LeavesOnly old mid Still
      while_laid = LeavesOnly-more old old mid Still _ started first (λ image through. still image (own_through image through))

      module _ (next : DiskShown) (second : Passes mid next (Through (Torn (field_of (not area.second)) 4) mid.may_leave)) where
        own_next : (image : List ℕ) → Through (Torn (field_of (not area.second)) 4) mid.may_leave image → Own image
        own_next image through = own_pointed through.0 image (own_through through.0 (first.now_left through.0 through.1)) through.2

        pub while_pointed : LeavesOnly old next Still
        while_pointed = LeavesOnly-more old mid next Still _ while_laid second (λ image through. still image (own_next image through))

        pub while_synced : (last : DiskShown) → Passes next last next.may_leave → LeavesOnly old last Still
        while_synced last third = LeavesOnly-more old next last Still _ while_pointed third (λ image left. still image (own_next image (second.now_left image left)))

  -- the area is written
  module _ (mid : List ℕ) (mid_is : mid ≡ put old.seen start block) where
    own_mid : Own mid
    own_mid = own_laid mid (subst (λ (l : List ℕ). Torn start (length block) old.seen l) (sym mid_is) (put_is_torn old.seen start block))

    -- and synced, where there was no memory for the write of the start
    pub settled_laid : (last : DiskShown) → last.seen ≡ mid → Only last.seen last.may_leave → IsSettled last area items
    settled_laid last same only = chosen_settled last area items (subst Own (sym same) own_mid) s.tail_is only

    -- the other start leads to it
    module _ (field : List ℕ) (field_is : field ≡ to_be_bytes w32 start) (last : DiskShown) (last_is : last.seen ≡ put mid (field_of (not area.second)) field) where
      at_field : field_of (not area.second) ≤ length mid
      at_field = omega (arith, field-least (not area.second), own_mid.leads.low, leads_within mid area.second area.start items own_mid.leads)

      pointed : Torn (field_of (not area.second)) 4 mid last.seen
      pointed =
          subst (λ (l : List ℕ). Torn (field_of (not area.second)) 4 mid l) (sym last_is)
          (subst (λ (n : ℕ). Torn (field_of (not area.second)) n mid (put mid (field_of (not area.second)) field)) (ap length field_is) (put_is_torn mid (field_of (not area.second)) field))

      pub settled_pointed : Only last.seen last.may_leave → IsSettled last area items
      settled_pointed only = chosen_settled last area items (own_pointed mid last.seen own_mid pointed) s.tail_is only

      field_read : take 4 (drop (field_of (not area.second)) last.seen) ≡ to_be_bytes w32 start
      field_read =
          ap (λ (l : List ℕ). take 4 (drop (field_of (not area.second)) l)) last_is
          ∙ subst (λ (n : ℕ). take n (drop (field_of (not area.second)) (put mid (field_of (not area.second)) field)) ≡ field) (ap length field_is)
          (put_window mid (field_of (not area.second)) field at_field)
          ∙ field_is

      pub leads_laid : (given : List (List ℕ)) → IsWholeArea block given → LeadsTo last.seen (not area.second) start given
      leads_laid given whole =
          let size : size_of given + 1 ≡ length block = sym (ap length whole.1 ∙ length-append (area_of given) (0 ∷ [])) in
          record {
            low = apart.low;
            each = whole.0;
            starts = ap (λ (b : List ℕ). from_be_bytes w32 b) field_read ∙ from_be_bytes-to_be_bytes_4 start (omega (arith, apart.fits));
            gate = 0;
            closed = λ no. cc no;
            window =
                window mid last.seen (field_of (not area.second)) 4 start (size_of given + 1) pointed at_field (inr (omega (arith, field-least (not area.second), apart.low)))
                ∙ ap (λ (l : List ℕ). take (size_of given + 1) (drop start l)) mid_is
                ∙ ap (λ (n : ℕ). take n (drop start (put old.seen start block))) size
                ∙ put_window old.seen start block upto
                ∙ whole.1;
          }

-- the other start is chosen
one_selector : (second : Bool) → (selector_of second == 1) ≡ second
one_selector true = refl
one_selector false = refl

either_second : (second other : Bool) → (other ≡ second) ⊎ (other ≡ not second)
either_second true true = inl refl
either_second true false = inr refl
either_second false true = inr refl
either_second false false = inl refl

first_byte : (bytes : List ℕ) (byte : ℕ) → 8 < length bytes → take 1 (drop 8 bytes) ≡ byte ∷ [] → get_or bytes 8 0 ≡ byte
first_byte bytes byte long is = let whole : get_or bytes 8 0 ∷ [] ≡ byte ∷ [] = sym (ap (λ (l : List ℕ). take 1 l) (drop_more bytes 8 0 long)) ∙ is in ap (λ (l : List ℕ). get_or l 0 0) whole

module _ (old : DiskShown) (area : Area) (start : ℕ) (items given : List (List ℕ)) (s : IsSettled old area items) (leads : LeadsTo old.seen (not area.second) start given) where
  own : IsChosen area.second area.start items old.seen
  own = settled_chosen old area items s

  within : 8 ≤ length old.seen
  within = omega (arith, own.leads.low, leads_within old.seen area.second area.start items own.leads)

  long_image : (image : List ℕ) → Torn 8 1 old.seen image → length image ≤ 2 ^ 31
  long_image image torn = omega (arith, torn.no_longer, own.short, within, own.leads.low, leads_within old.seen area.second area.start items own.leads)

  by_selector : (image : List ℕ) → Torn 8 1 old.seen image → (second : Bool) (from : ℕ) (those : List (List ℕ)) → LeadsTo old.seen second from those → is_second image ≡ second → IsChosen second from those image
  by_selector image torn second from those leads_to is = record {
    magic_is = window old.seen image 8 1 0 8 torn within (inl (omega arith)) ∙ own.magic_is;
    second_is = is;
    short = long_image image torn;
    leads = leads_torn old.seen image 8 1 second from those leads_to torn within (inr (omega (arith, field_low second))) (inr (omega (arith, leads_to.low)));
  }

  abbrev Either : List ℕ → Type 0
  Either image = IsEither items area.tail given (start + size_of given) image

  own_ends : (image : List ℕ) → IsChosen area.second area.start items image → Either image
  own_ends image c = inl (subst (λ (n : ℕ). EndsAt image items n) (sym s.tail_is) (chosen_ends area.second area.start items image c))

  either_image : (image : List ℕ) → Torn 8 1 old.seen image → Either image
  either_image image torn = ⊎_elim
      (λ is. own_ends image (by_selector image torn area.second area.start items own.leads is))
      (λ is. inr (chosen_ends (not area.second) start given image (by_selector image torn (not area.second) start given leads is)))
      (either_second area.second (is_second image))

  pub while_chosen : ((image : List ℕ) → old.left_since old.moment image → old.may_leave image) → (new : DiskShown) → Passes old new (Through (Torn 8 1) old.may_leave) → LeavesOnly old new Either
  while_chosen only_now new call = LeavesOnly-more old old new Either _
      (LeavesOnly-started old Either (λ image left. subst Either (sym (s.durable image (only_now image left))) (own_ends old.seen own))) call
      (λ image through. either_image image (subst (λ (l : List ℕ). Torn 8 1 l image) (s.durable through.0 through.1) through.2))

  pub settled_chosen_now : (new : DiskShown) → new.seen ≡ put old.seen 8 (selector_of (not area.second) ∷ []) → Only new.seen new.may_leave → IsSettled new (moved area start given) given
  settled_chosen_now new new_is only =
      let torn : Torn 8 1 old.seen new.seen = subst (λ (l : List ℕ). Torn 8 1 old.seen l) (sym new_is) (put_is_torn old.seen 8 (selector_of (not area.second) ∷ [])) in
      let read : take 1 (drop 8 new.seen) ≡ selector_of (not area.second) ∷ [] = ap (λ (l : List ℕ). take 1 (drop 8 l)) new_is ∙ put_window old.seen 8 (selector_of (not area.second) ∷ []) within in
      let long : 8 < length new.seen = omega (arith, torn.no_shorter, own.leads.low, leads_within old.seen area.second area.start items own.leads) in
      let is : is_second new.seen ≡ not area.second = ap (λ (b : ℕ). b == 1) (first_byte new.seen (selector_of (not area.second)) long read) ∙ one_selector (not area.second) in
      chosen_settled new (moved area start given) given (by_selector new.seen torn (not area.second) start given leads is) refl only
