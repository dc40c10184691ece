-- Lists of bytes with a part in the middle that may change.
use Rattle.std.proofs.Common.{◌≡◌, ℕ, ◌+◌, min, List, [], ◌∷◌, ◌++◌, length, get_or, take, drop, sym, ◌∙◌, ap, subst, refl, arith, append_assoc, length-append, take-append-drop}
use Rattle.std.proofs.lemmas.List.{take_at, drop_at, drop_more, drop-drop}
use Rattle.std.specs.List.{AllByRecursion}
use Rattle.std.proofs.lemmas.List.{flat_map_more}
use Rattle.bcv_disk.specs.Crash.{put, Torn}
use Rattle.bcv_journal.specs.Layout.{IsItem, open_item, written}

pub each-push : (items : List (List ℕ)) (item : List ℕ) → AllByRecursion IsItem items → IsItem item → AllByRecursion IsItem (items ++ item ∷ [])
each-push [] item each is = (is, tt)
each-push (x ∷ items) item each is = (each.0, each-push items item each.1 is)

pub written-push : (front : List ℕ) (items : List (List ℕ)) (item rest : List ℕ) → written front (items ++ item ∷ []) ++ rest ≡ written front items ++ (open_item item ++ rest)
written-push front items item rest =
    ap (λ (l : List ℕ). l ++ rest) (sym (flat_map_more open_item front items item)) ∙ append_assoc (written front items) (open_item item) rest

-- a file that is a front, a byte, and a rest
module _ (front : List ℕ) (gate : ℕ) (rest : List ℕ) where
  abbrev pub file : List ℕ
  file = front ++ gate ∷ rest

  length-file : length file ≡ length front + (1 + length rest)
  length-file = omega (arith, length-append front (gate ∷ rest))

  split : file ≡ (front ++ gate ∷ []) ++ rest
  split = sym (append_assoc front (gate ∷ []) rest)

  front_length : length (front ++ gate ∷ []) ≡ length front + 1
  front_length = omega (arith, length-append front (gate ∷ []))

  upto : take (length front + 1) file ≡ front ++ gate ∷ []
  upto = ap (λ (l : List ℕ). take (length front + 1) l) split ∙ take_at (front ++ gate ∷ []) rest (length front + 1) front_length

  from_there : drop (length front + 1) file ≡ rest
  from_there = ap (λ (l : List ℕ). drop (length front + 1) l) split ∙ drop_at (front ++ gate ∷ []) rest (length front + 1) front_length

  -- a write after the byte
  pub put_after : (block : List ℕ) → put file (length front + 1) block ≡ front ++ gate ∷ (block ++ drop (length block) rest)
  put_after block =
      (λ i. upto i ++ block ++ (sym (drop-drop (length block) (length front + 1) file) ∙ ap (λ (l : List ℕ). drop (length block) l) from_there) i)
      ∙ append_assoc (front ++ gate ∷ []) block (drop (length block) rest)
      ∙ append_assoc front (gate ∷ []) (block ++ drop (length block) rest)

  -- whatever a torn write after the byte leaves
  pub torn_after : (n : ℕ) (image : List ℕ) → Torn (length front + 1) n file image → image ≡ front ++ gate ∷ drop (length front + 1) image
  torn_after n image torn =
      let least : min (length front + 1) (length file) ≡ length front + 1 = omega (arith, length-file) in
      let same : take (length front + 1) image ≡ front ++ gate ∷ [] = subst (λ (k : ℕ). take k image ≡ take (length front + 1) file) least torn.before ∙ upto in
      sym (take-append-drop (length front + 1) image) ∙ ap (λ (l : List ℕ). l ++ drop (length front + 1) image) same ∙ append_assoc front (gate ∷ []) (drop (length front + 1) image)

  -- a write of the byte
  pub put_gate : (byte : ℕ) → put file (length front) (byte ∷ []) ≡ front ++ byte ∷ rest
  put_gate byte = (λ i. take_at front (gate ∷ rest) (length front) refl i ++ byte ∷ [] ++ from_there i) ∙ append_assoc front (byte ∷ []) rest

  pub torn_gate : (image : List ℕ) → Torn (length front) 1 file image → image ≡ front ++ get_or image (length front) 0 ∷ rest
  torn_gate image torn =
      let least : min (length front) (length file) ≡ length front = omega (arith, length-file) in
      let same : take (length front) image ≡ front = subst (λ (k : ℕ). take k image ≡ take (length front) file) least torn.before ∙ take_at front (gate ∷ rest) (length front) refl in
      let back : drop (length front) image ≡ get_or image (length front) 0 ∷ rest =
      drop_more image (length front) 0 (omega (arith, torn.no_shorter, length-file)) ∙ ap (λ (l : List ℕ). get_or image (length front) 0 ∷ l) (torn.after ∙ from_there) in
      sym (take-append-drop (length front) image) ∙ (λ i. same i ++ back i)
