-- How the calls of a platter keep its record.
use Rattle.std.proofs.Common.{◌≡◌, ℕ, zero, suc, ◌+◌, ◌-◌, ◌≤◌, max, List, [], ◌∷◌, ◌++◌, length, take, drop, reverse, refl, sym, ap, ◌∙◌, subst, arith}
use Rattle.std.proofs.lemmas.List.{length-drop, length-take, reverse-append, take_all}
use Rattle.bcv_disk.specs.Crash.{put}
use Rattle.bcv_disk.specs.Inside.{HoldsRecord, IsLawful, greatest, saved_of}
use Rattle.bcv_disk.specs.Record.{content, image_of}
use Rattle.bcv_disk.specs.Told.{length-put}
use Rattle.bcv_disk.specs.declared.platter.Act.{Act}
use Rattle.bcv_disk.specs.declared.platter.Act.TheVariants.{Wrote, CutTo, Synced, Crashed}
use Rattle.bcv_disk.proofs.Lawful.{content-greatest, length-image, reverse_push}

-- the lists as the code keeps them, with one more at their ends
module _ (bytes : List ℕ) (acts list : List Act) (saved kept : List (List ℕ)) (act : Act) (over : List ℕ) (so_far : HoldsRecord bytes (reverse acts) (reverse saved)) (pushed : list ≡ acts ++ act ∷ []) where
  turned : reverse list ≡ act ∷ reverse acts
  turned = ap (λ (l : List Act). reverse l) pushed ∙ reverse_push acts act

  module _ (also : kept ≡ saved ++ over ∷ []) where
    turned_saved : reverse kept ≡ over ∷ reverse saved
    turned_saved = ap (λ (l : List (List ℕ)). reverse l) also ∙ reverse-append saved (over ∷ [])

    pub kept_write : (idle at : ℕ) (w new : List ℕ) → act ≡ Wrote idle at w → at ≤ length bytes → over ≡ take (length w) (drop at bytes) → new ≡ put bytes at w → HoldsRecord new (reverse list) (reverse kept)
    kept_write idle at w new is within over_is put_is =
        let past : reverse list ≡ Wrote idle at w ∷ reverse acts = turned ∙ ap (λ (a : Act). a ∷ reverse acts) is in
        subst (λ (l : List Act). HoldsRecord new l (reverse kept)) (sym past) (record {
          bytes_are = put_is ∙ ap (λ (l : List ℕ). put l at w) so_far.bytes_are;
          saved_are = turned_saved ∙ (λ i. (over_is ∙ ap (λ (l : List ℕ). take (length w) (drop at l)) so_far.bytes_are) i ∷ so_far.saved_are i);
          lawful = (omega (arith, within, ap length so_far.bytes_are), so_far.lawful);
        })

    pub kept_cut : (idle len : ℕ) (new : List ℕ) → act ≡ CutTo idle len → over ≡ take (length bytes) (drop len bytes) → new ≡ take len bytes → HoldsRecord new (reverse list) (reverse kept)
    kept_cut idle len new is over_is cut_is =
        let past : reverse list ≡ CutTo idle len ∷ reverse acts = turned ∙ ap (λ (a : Act). a ∷ reverse acts) is in
        subst (λ (l : List Act). HoldsRecord new l (reverse kept)) (sym past) (record {
          bytes_are = cut_is ∙ ap (λ (l : List ℕ). take len l) so_far.bytes_are;
          saved_are = turned_saved ∙ (λ i. (over_is ∙ take_all (length bytes) (drop len bytes) (omega (arith, length-drop len bytes)) ∙ ap (λ (l : List ℕ). drop len l) so_far.bytes_are) i ∷ so_far.saved_are i);
          lawful = so_far.lawful;
        })

  pub kept_sync : (idle : ℕ) → act ≡ (Synced idle) → kept ≡ [] → HoldsRecord bytes (reverse list) (reverse kept)
  kept_sync idle is none =
      let past : reverse list ≡ Synced idle ∷ reverse acts = turned ∙ ap (λ (a : Act). a ∷ reverse acts) is in
      subst (λ (l : List Act). HoldsRecord bytes l (reverse kept)) (sym past) (record { bytes_are = so_far.bytes_are; saved_are = ap (λ (l : List (List ℕ)). reverse l) none; lawful = so_far.lawful })

  pub kept_crash : (idle image : ℕ) (new : List ℕ) → act ≡ Crashed idle image → kept ≡ [] → new ≡ image_of (reverse acts) image → HoldsRecord new (reverse list) (reverse kept)
  kept_crash idle image new is none image_is =
      let past : reverse list ≡ Crashed idle image ∷ reverse acts = turned ∙ ap (λ (a : Act). a ∷ reverse acts) is in
      subst (λ (l : List Act). HoldsRecord new l (reverse kept)) (sym past) (record { bytes_are = image_is; saved_are = ap (λ (l : List (List ℕ)). reverse l) none; lawful = so_far.lawful })

-- no image is longer than the bytes have been
pub image-greatest : (acts : List Act) (n : ℕ) → length (image_of acts n) ≤ greatest acts
image-greatest [] n = omega arith
image-greatest (Wrote idle at w ∷ past) zero = omega (arith, image-greatest past zero)
image-greatest (Wrote idle at w ∷ past) (suc n) = omega (arith, length-image (Wrote idle at w ∷ past) n, content-greatest (Wrote idle at w ∷ past))
image-greatest (CutTo idle len ∷ past) zero = omega (arith, image-greatest past zero)
image-greatest (CutTo idle len ∷ past) (suc n) = omega (arith, length-image (CutTo idle len ∷ past) n, content-greatest (CutTo idle len ∷ past))
image-greatest (Synced idle ∷ past) n = omega (arith, content-greatest past)
image-greatest (Crashed idle image ∷ past) n = omega (arith, image-greatest past image)

-- room for the bytes after one call more
module _ (acts list : List Act) (act : Act) (capacity : ℕ) (pushed : list ≡ acts ++ act ∷ []) (room : greatest (reverse acts) ≤ capacity) where
  longest : greatest (reverse list) ≡ greatest (act ∷ reverse acts)
  longest = ap greatest (ap (λ (l : List Act). reverse l) pushed ∙ reverse_push acts act)

  pub room_write : (idle at : ℕ) (w : List ℕ) → act ≡ Wrote idle at w → at ≤ length (content (reverse acts)) → at + length w ≤ capacity → greatest (reverse list) ≤ capacity
  room_write idle at w is within fits =
      omega (arith, longest, ap (λ (a : Act). greatest (a ∷ reverse acts)) is, length-put (content (reverse acts)) at w, content-greatest (reverse acts), room, within, fits)

  pub room_cut : (idle len : ℕ) → act ≡ CutTo idle len → greatest (reverse list) ≤ capacity
  room_cut idle len is = omega (arith, longest, ap (λ (a : Act). greatest (a ∷ reverse acts)) is, length-take len (content (reverse acts)), content-greatest (reverse acts), room)

  pub room_sync : (idle : ℕ) → act ≡ (Synced idle) → greatest (reverse list) ≤ capacity
  room_sync idle is = omega (arith, longest, ap (λ (a : Act). greatest (a ∷ reverse acts)) is, content-greatest (reverse acts), room)

  pub room_crash : (idle image : ℕ) → act ≡ Crashed idle image → greatest (reverse list) ≤ capacity
  room_crash idle image is = omega (arith, longest, ap (λ (a : Act). greatest (a ∷ reverse acts)) is, image-greatest (reverse acts) image, room)
