-- How a crash makes the calls since the last sync again.
use Rattle.std.proofs.Common.{◌≡◌, inl, inr, ℕ, zero, suc, ◌+◌, ◌-◌, ◌<◌, ◌≤◌, min, List, [], ◌∷◌, ◌++◌, length, get_or, take, drop, reverse, refl, sym, ap, ◌∙◌, subst, arith, take-append-drop, length-append, append_assoc}
use Rattle.std.proofs.lemmas.List.{append-nil, drop_at, drop-drop, length-drop, length-take, take_all, take_at, reverse-append}
use Rattle.std.specs.List.{AllByRecursion}
use Rattle.bcv_disk.specs.Crash.{put}
use Rattle.bcv_disk.specs.Inside.{IsLawful, greatest}
use Rattle.bcv_disk.specs.Record.{content, filled, image_of, torn_bytes}
use Rattle.bcv_disk.specs.Tearing.{HasPlace, IsChange, UndoneTo, redone}
use Rattle.bcv_disk.specs.Told.{behind, length-put}
use Rattle.bcv_disk.specs.declared.platter.Act.{Act}
use Rattle.bcv_disk.specs.declared.platter.Act.TheVariants.{Wrote, CutTo, Synced, Crashed}
use Rattle.bcv_disk.proofs.Lawful.{IsLawful-older, content-greatest, greatest-older, length-image, reverse_push}

-- the calls that are left follow those that were made again
pub record IsRedone (acts rest : List Act) (bytes : List ℕ) (image : ℕ) (old : List ℕ) : Type 0 where
  pub done : List Act
  pub split : acts ≡ done ++ rest
  pub changes : AllByRecursion IsChange rest
  pub bytes_are : bytes ≡ image_of (reverse done) image
  pub old_is : old ≡ image_of (reverse done) 0

pub redo_start : (acts : List Act) (first : ℕ) (bytes : List ℕ) (image : ℕ) → UndoneTo acts first bytes → IsRedone acts (drop first acts) bytes image bytes
redo_start acts first bytes image u =
    record { done = take first acts; split = sym (take-append-drop first acts); changes = u.changes; bytes_are = u.bytes_are image; old_is = u.bytes_are 0 }

-- one call is made again on an image
redo_one : (act : Act) (past : List Act) (image capacity : ℕ) → 2 ≤ image → IsLawful (act ∷ past) → IsChange act → length (content (act ∷ past)) ≤ capacity
    → HasPlace act (image_of past image) capacity × (redone image (image_of past 0) act (image_of past image) ≡ image_of (act ∷ past) image) × (image_of (act ∷ past) 0 ≡ image_of past 0)
redo_one act past zero capacity from law change room = absurd (omega (arith, from))
redo_one (Wrote idle at w) past (suc n) capacity from law change room =
    (((omega (arith, law.0, length-image past n), omega (arith, length-put (content past) at w, law.0, room))), refl, refl)
redo_one (CutTo idle len) past (suc n) capacity from law change room = (tt, refl, refl)
redo_one (Synced idle) past (suc n) capacity from law change room = absurd change
redo_one (Crashed idle image) past (suc n) capacity from law change room = absurd change

module _ (acts after : List Act) (act : Act) (bytes old : List ℕ) (image capacity : ℕ) (so_far : IsRedone acts (act ∷ after) bytes image old) (from : 2 ≤ image) (law : IsLawful (reverse acts)) (room : greatest (reverse acts) ≤ capacity) where
  abbrev past : List Act
  past = reverse so_far.done

  turned : reverse acts ≡ reverse after ++ (act ∷ past)
  turned =
      ap (λ (l : List Act). reverse l) (so_far.split ∙ sym (append_assoc so_far.done (act ∷ []) after)) ∙ reverse-append (so_far.done ++ act ∷ []) after
      ∙ ap (λ (l : List Act). reverse after ++ l) (reverse_push so_far.done act)

  one : HasPlace act (image_of past image) capacity × (redone image (image_of past 0) act (image_of past image) ≡ image_of (act ∷ past) image) × (image_of (act ∷ past) 0 ≡ image_of past 0)
  one =
      redo_one act past image capacity from (IsLawful-older (reverse after) (act ∷ past) (subst IsLawful turned law)) so_far.changes.0
      (omega (arith, content-greatest (act ∷ past), greatest-older (reverse after) (act ∷ past), ap greatest turned, room))

  pub redo_place : HasPlace act bytes capacity
  redo_place = subst (λ (l : List ℕ). HasPlace act l capacity) (sym so_far.bytes_are) one.0

  pub redo_step : IsRedone acts after (redone image old act bytes) image old
  redo_step = record {
    done = so_far.done ++ act ∷ [];
    split = so_far.split ∙ sym (append_assoc so_far.done (act ∷ []) after);
    changes = so_far.changes.1;
    bytes_are =
        ap (λ (l : List ℕ). redone image old act l) so_far.bytes_are ∙ ap (λ (o : List ℕ). redone image o act (image_of past image)) so_far.old_is ∙ one.1
        ∙ ap (λ (l : List Act). image_of l image) (sym (reverse_push so_far.done act));
    old_is = so_far.old_is ∙ sym one.2 ∙ ap (λ (l : List Act). image_of l 0) (sym (reverse_push so_far.done act));
  }

pub redo_end : (acts : List Act) (bytes : List ℕ) (image : ℕ) (old : List ℕ) → IsRedone acts [] bytes image old → bytes ≡ image_of (reverse acts) image
redo_end acts bytes image old so_far = so_far.bytes_are ∙ ap (λ (l : List Act). image_of (reverse l) image) (sym (so_far.split ∙ append-nil so_far.done))

-- a write of other bytes of that number over one that was just made
pub put_over : (before : List ℕ) (at : ℕ) (w other : List ℕ) → at ≤ length before → length other ≡ length w → put (put before at w) at other ≡ put before at other
put_over before at w other within same =
    let front : take at (put before at w) ≡ take at before =
    ap (λ (l : List ℕ). take at l) (append_assoc (take at before) w (drop (at + length w) before)) ∙ take_at (take at before) (w ++ drop (at + length w) before) at (omega (arith, length-take at before, within)) in
    let back : drop (at + length other) (put before at w) ≡ drop (at + length other) before =
    ap (λ (n : ℕ). drop (at + n) (put before at w)) same ∙ behind before at w (inr within) ∙ ap (λ (n : ℕ). drop (at + n) before) (sym same) in
    (λ i. front i ++ other ++ back i)

pub filled-torn : (image : ℕ) (old : List ℕ) (at : ℕ) (w : List ℕ) → 2 ≤ image → filled image old at w ≡ torn_bytes image old at w
filled-torn zero old at w from = absurd (omega (arith, from))
filled-torn (suc zero) old at w from = absurd (omega (arith, from))
filled-torn (suc (suc n)) old at w from = refl

-- a list that begins with this call
pub first_split : (rest : List Act) (act : Act) → 1 ≤ length rest → act ≡ get_or rest 0 act → rest ≡ act ∷ drop 1 rest
first_split [] act some is = absurd (omega (arith, some))
first_split (x ∷ rest) act some is = ap (λ (a : Act). a ∷ rest) (sym is)

-- the loop's own spelling of what is left
pub IsRedone-rest : (acts rest : List Act) (bytes : List ℕ) (image : ℕ) (old : List ℕ) (n : ℕ) → n ≡ length rest → IsRedone acts rest bytes image old → IsRedone acts (take n rest) bytes image old
IsRedone-rest acts rest bytes image old n long so_far = subst (λ (l : List Act). IsRedone acts l bytes image old) (sym (take_all n rest (omega (arith, long)))) so_far
