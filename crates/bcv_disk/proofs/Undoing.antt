-- How a crash undoes the calls since the last sync.
use Rattle.std.proofs.Common.{◌≡◌, ◌⊎◌, inl, inr, ℕ, ◌+◌, ◌-◌, ◌<◌, ◌≤◌, min, Bool, true, false, List, [], ◌∷◌, ◌++◌, length, get_or, take, drop, nat_lt, reverse, if◌then◌else◌, refl, sym, ap, ◌∙◌, subst, arith, take-append-drop, length-append, append_assoc}
use Rattle.std.proofs.lemmas.Bool.{cases_lt, lt-ltb, le-ltb}
use Rattle.std.proofs.lemmas.List.{append-nil, drop_at, drop-drop, length-drop, length-take, take_all, take_at, reverse-append}
use Rattle.std.specs.List.{AllByRecursion}
use Rattle.bcv_disk.specs.Crash.{put}
use Rattle.bcv_disk.specs.Inside.{IsLawful, greatest, saved_of}
use Rattle.bcv_disk.specs.Record.{content, image_of}
use Rattle.bcv_disk.specs.Tearing.{HoldsFirst, IsChange, UndoneTo, undone}
use Rattle.bcv_disk.specs.Told.{behind, length-put}
use Rattle.bcv_disk.specs.declared.platter.Act.{Act}
use Rattle.bcv_disk.specs.declared.platter.Act.TheVariants.{Wrote, CutTo, Synced, Crashed}
use Rattle.bcv_disk.proofs.Lawful.{IsLawful-older, at_sync, content-greatest, greatest-older, reverse_push}

-- the calls that are left are those before the ones that were undone
pub record IsUndone (acts rest : List Act) (bytes : List ℕ) (saved : List (List ℕ)) : Type 0 where
  pub after : List Act
  pub split : acts ≡ rest ++ after
  pub changes : AllByRecursion IsChange after
  pub bytes_are : bytes ≡ content (reverse rest)
  pub saved_are : reverse saved ≡ saved_of (reverse rest)
  pub old_are : image_of (reverse acts) 0 ≡ image_of (reverse rest) 0

pub undo_start : (acts : List Act) (bytes : List ℕ) (saved : List (List ℕ)) → bytes ≡ content (reverse acts) → reverse saved ≡ saved_of (reverse acts) → IsUndone acts acts bytes saved
undo_start acts bytes saved is kept = record { after = []; split = sym (append-nil acts); changes = tt; bytes_are = is; saved_are = kept; old_are = refl }

-- a write is undone by what it overwrote
module _ (c : List ℕ) (at : ℕ) (w : List ℕ) (within : at ≤ length c) where
  abbrev d : List ℕ
  d = drop at c

  abbrev over : List ℕ
  over = take (length w) d

  abbrev a : List ℕ
  a = put c at w

  over_is : length over ≡ min (length w) (length c - at)
  over_is = omega (arith, length-take (length w) d, length-drop at c)

  front : take at a ≡ take at c
  front = ap (λ (l : List ℕ). take at l) (append_assoc (take at c) w (drop (at + length w) c)) ∙ take_at (take at c) (w ++ drop (at + length w) c) at (omega (arith, length-take at c, within))

  shorter : length over < length w → take (at + length over) (put a at over) ≡ c
  shorter less =
      let all : over ≡ d = take_all (length w) d (omega (arith, less, over_is, length-drop at c)) in
      take_at (take at a ++ over) (drop (at + length over) a) (at + length over) (omega (arith, length-append (take at a) over, ap length front, length-take at c, within)) ∙ (λ i. front i ++ all i)
      ∙ take-append-drop at c

  longer : length w ≤ length over → put a at over ≡ c
  longer whole =
      let same : length over ≡ length w = omega (arith, whole, over_is) in
      let tail : drop (at + length over) a ≡ drop (length w) d = ap (λ (k : ℕ). drop (at + k) a) same ∙ behind c at w (inr within) ∙ sym (drop-drop (length w) at c) in
      (λ i. front i ++ over ++ tail i) ∙ append_assoc (take at c) over (drop (length w) d) ∙ ap (λ (l : List ℕ). take at c ++ l) (take-append-drop (length w) d) ∙ take-append-drop at c

  undo_write : (if nat_lt (length over) (length w) then take (at + length over) (put a at over) else put a at over) ≡ c
  undo_write = elim (cases_lt (length over) (length w)) [
    | inl less ↦ ap (λ (b : Bool). if b then take (at + length over) (put a at over) else put a at over) (lt-ltb (length over) (length w) less) ∙ shorter less
    | inr whole ↦ ap (λ (b : Bool). if b then take (at + length over) (put a at over) else put a at over) (le-ltb (length over) (length w) whole) ∙ longer whole
  ]

-- one call is undone: what it took away has room, and leads to the bytes before it
undo_one : (act : Act) (past : List Act) (over : List ℕ) (saved : List (List ℕ)) (capacity : ℕ) → over ∷ saved ≡ saved_of (act ∷ past) → IsLawful (act ∷ past) → length (content past) ≤ capacity
    → IsChange act × HoldsFirst act over (content (act ∷ past)) capacity × (undone act over (content (act ∷ past)) ≡ content past) × (saved ≡ saved_of past) × (image_of (act ∷ past) 0 ≡ image_of past 0)
undo_one (Wrote idle at w) past over saved capacity same law room =
    let first : over ≡ take (length w) (drop at (content past)) = ap (λ (l : List (List ℕ)). get_or l 0 []) same in
    let others : saved ≡ saved_of past = ap (λ (l : List (List ℕ)). drop 1 l) same in (
      tt,
      omega (arith, ap length first, length-take (length w) (drop at (content past)), length-drop at (content past), length-put (content past) at w, law.0),
      ap (λ (o : List ℕ). undone (Wrote idle at w) o (put (content past) at w)) first ∙ undo_write (content past) at w law.0,
      others,
      refl,
    )
undo_one (CutTo idle len) past over saved capacity same law room =
    let first : over ≡ drop len (content past) = ap (λ (l : List (List ℕ)). get_or l 0 []) same in
    let others : saved ≡ saved_of past = ap (λ (l : List (List ℕ)). drop 1 l) same in (
      tt,
      omega (arith, ap length first, length-drop len (content past), length-take len (content past), room),
      ap (λ (o : List ℕ). take len (content past) ++ o) first ∙ take-append-drop len (content past),
      others,
      refl,
    )
undo_one (Synced idle) past over saved capacity same law room = absurd (cc same)
undo_one (Crashed idle image) past over saved capacity same law room = absurd (cc same)

-- some call is left where something is saved
pub undo_some : (acts : List Act) (bytes : List ℕ) (saved : List (List ℕ)) (over : List ℕ) → IsUndone acts [] bytes (saved ++ over ∷ []) → ⊥
undo_some acts bytes saved over so_far = let none : over ∷ reverse saved ≡ [] = sym (reverse-append saved (over ∷ [])) ∙ so_far.saved_are in cc none

module _ (acts before : List Act) (act : Act) (bytes over : List ℕ) (saved : List (List ℕ)) (capacity : ℕ) (so_far : IsUndone acts (before ++ act ∷ []) bytes (saved ++ over ∷ [])) (law : IsLawful (reverse acts)) (room : greatest (reverse acts) ≤ capacity) where
  turned : reverse acts ≡ reverse so_far.after ++ (act ∷ reverse before)
  turned = ap (λ (l : List Act). reverse l) so_far.split ∙ reverse-append (before ++ act ∷ []) so_far.after ∙ ap (λ (l : List Act). reverse so_far.after ++ l) (reverse_push before act)

  past_law : IsLawful (act ∷ reverse before)
  past_law = IsLawful-older (reverse so_far.after) (act ∷ reverse before) (subst IsLawful turned law)

  past_room : length (content (reverse before)) ≤ capacity
  past_room = omega (arith, content-greatest (reverse before), greatest-older (act ∷ []) (reverse before), greatest-older (reverse so_far.after) (act ∷ reverse before), ap greatest turned, room)

  kept : over ∷ reverse saved ≡ saved_of (act ∷ reverse before)
  kept = sym (reverse-append saved (over ∷ [])) ∙ so_far.saved_are ∙ ap saved_of (reverse_push before act)

  bytes_now : bytes ≡ content (act ∷ reverse before)
  bytes_now = so_far.bytes_are ∙ ap content (reverse_push before act)

  pub undo_holds : HoldsFirst act over bytes capacity
  undo_holds = subst (λ (l : List ℕ). HoldsFirst act over l capacity) (sym bytes_now) (undo_one act (reverse before) over (reverse saved) capacity kept past_law past_room).1

  pub undo_step : IsUndone acts before (undone act over bytes) saved
  undo_step =
      let one = undo_one act (reverse before) over (reverse saved) capacity kept past_law past_room in
      record {
        after = act ∷ so_far.after;
        split = so_far.split ∙ append_assoc before (act ∷ []) so_far.after;
        changes = (one.0, so_far.changes);
        bytes_are = ap (λ (l : List ℕ). undone act over l) bytes_now ∙ one.2;
        saved_are = one.3;
        old_are = so_far.old_are ∙ ap (λ (l : List Act). image_of l 0) (reverse_push before act) ∙ one.4;
      }

pub undo_end : (acts rest : List Act) (bytes : List ℕ) → IsUndone acts rest bytes [] → UndoneTo acts (length rest) bytes
undo_end acts rest bytes so_far =
    let front : take (length rest) acts ≡ rest = ap (λ (l : List Act). take (length rest) l) so_far.split ∙ take_at rest so_far.after (length rest) refl in
    let back : drop (length rest) acts ≡ so_far.after = ap (λ (l : List Act). drop (length rest) l) so_far.split ∙ drop_at rest so_far.after (length rest) refl in
    record {
      within = omega (arith, ap length so_far.split, length-append rest so_far.after);
      changes = subst (λ (l : List Act). AllByRecursion IsChange l) (sym back) so_far.changes;
      bytes_are = λ n. so_far.bytes_are ∙ at_sync (reverse rest) (sym so_far.saved_are) n ∙ ap (λ (l : List Act). image_of (reverse l) n) (sym front);
      old_are = so_far.bytes_are ∙ at_sync (reverse rest) (sym so_far.saved_are) 0 ∙ sym so_far.old_are;
      short =
          omega (
            arith,
            ap length so_far.bytes_are,
            content-greatest (reverse rest),
            greatest-older (reverse so_far.after) (reverse rest),
            ap greatest (ap (λ (l : List Act). reverse l) so_far.split ∙ reverse-append rest so_far.after),
          );
    }
