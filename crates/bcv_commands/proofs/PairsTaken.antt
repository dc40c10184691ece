-- How far the reading of pairs has come, and how it ends.
use Rattle.std.proofs.Common.{◌≡◌, ◌≢◌, ℕ, ◌+◌, ◌<◌, ◌≤◌, inl, inr, List, [], ◌∷◌, ◌++◌, length, length-append, Ok, Err, refl, sym, ap, ◌∙◌, subst, arith}
use Rattle.std.specs.Prelude.{Option, Result}
use Rattle.std.specs.Io.KnownBytes.{Consumes, IsAtEnd}
use Rattle.std.proofs.KnownBytes.{Consumes-nil, Consumes-trans}
use Rattle.bcv_base.specs.ManifestGrammar.{◌>>=◌}
use Rattle.bcv_model.specs.Script.{pair_line_of}
use Rattle.bcv_lines.specs.Lines.{Splits, IsOpen, IsNext, AreAll, text_of, most_of_script}
use Rattle.bcv_lines.specs.Reading.{FitsFront, FitsWhole, PassesLimit}
use Rattle.bcv_lines.proofs.LineLists.{text_length, lines_few, splits_more, splits_line, is_last}
use Rattle.bcv_commands.specs.declared.pairs.PairsFault.{PairsFault}
use Rattle.bcv_commands.specs.declared.pairs.PairsFault.TheVariants as fault
use Rattle.bcv_commands.specs.Pairs.{pairs_of, ReadsPairs}
use Rattle.bcv_commands.specs.PairLines.{TakesPair}

-- ---- the pairs of more lines

bind_ok : {A B : Type 0} (r : Result A ℕ) (f : A → Result B ℕ) (y : B) → (r >>= f) ≡ Ok y → (x : A) × (r ≡ Ok x) × (f x ≡ Ok y)
bind_ok (Ok x) f y e = (x, refl, e)
bind_ok (Err left) f y e = cc

ok_is : {A : Type 0} (x y : A) → ◌≡◌ {A = Result A ℕ} (Ok x) (Ok y) → x ≡ y
ok_is x y e = cc

-- the number of the last page, or the one that all are above
abbrev pub last_page : ℕ → List (ℕ × List ℕ) → ℕ
last_page after [] = after
last_page after (p ∷ ps) = last_page p.0 ps

put_first : (r : Result (ℕ × List ℕ) ℕ) (p : ℕ × List ℕ) (ps pairs : List (ℕ × List ℕ)) → p ∷ ps ≡ pairs
    → ((r >>= λ (x : ℕ × List ℕ). Ok (ps ++ x ∷ [])) >>= λ (qs : List (ℕ × List ℕ)). Ok (p ∷ qs)) ≡ (r >>= λ (x : ℕ × List ℕ). Ok (pairs ++ x ∷ []))
put_first (Ok x) p ps pairs e = ap (λ (l : List (ℕ × List ℕ)). let r : Result (List (ℕ × List ℕ)) ℕ = Ok (l ++ x ∷ []) in r) e
put_first (Err at) p ps pairs e = refl

pub pairs_more : (after : ℕ) (lines : List (List ℕ)) (pairs : List (ℕ × List ℕ)) (line : List ℕ) (r : Result (ℕ × List ℕ) ℕ) → pairs_of after lines ≡ Ok pairs → pair_line_of (last_page after pairs) line ≡ r
    → pairs_of after (lines ++ line ∷ []) ≡ (r >>= λ (x : ℕ × List ℕ). Ok (pairs ++ x ∷ []))
pairs_more after [] pairs line r e q =
    let none : [] ≡ pairs = ok_is [] pairs e in
    let here : pair_line_of after line ≡ r = subst (λ (ps : List (ℕ × List ℕ)). pair_line_of (last_page after ps) line ≡ r) (sym none) q in
    ap (λ (x : Result (ℕ × List ℕ) ℕ). x >>= λ (p : ℕ × List ℕ). Ok (p ∷ [])) here
    ∙ ap (λ (ps : List (ℕ × List ℕ)). r >>= λ (x : ℕ × List ℕ). Ok (ps ++ x ∷ [])) none
pairs_more after (l ∷ lines) pairs line r e q =
    let first = bind_ok (pair_line_of after l) (λ (p : ℕ × List ℕ). pairs_of p.0 lines >>= λ (ps : List (ℕ × List ℕ)). Ok (p ∷ ps)) pairs e in
    let rest = bind_ok (pairs_of first.0.0 lines) (λ (ps : List (ℕ × List ℕ)). Ok (first.0 ∷ ps)) pairs first.2 in
    let same : first.0 ∷ rest.0 ≡ pairs = ok_is (first.0 ∷ rest.0) pairs rest.2 in
    let here : pair_line_of (last_page first.0.0 rest.0) line ≡ r = subst (λ (ps : List (ℕ × List ℕ)). pair_line_of (last_page after ps) line ≡ r) (sym same) q in
    ap (λ (x : Result (ℕ × List ℕ) ℕ). x >>= λ (p : ℕ × List ℕ). pairs_of p.0 (lines ++ line ∷ []) >>= λ (ps : List (ℕ × List ℕ)). Ok (p ∷ ps)) first.1
    ∙ ap (λ (x : Result (List (ℕ × List ℕ)) ℕ). x >>= λ (ps : List (ℕ × List ℕ)). Ok (first.0 ∷ ps)) (pairs_more first.0.0 lines rest.0 line r rest.1 here)
    ∙ put_first r first.0 rest.0 pairs same

-- a pair a line
pairs_count : (after : ℕ) (lines : List (List ℕ)) (pairs : List (ℕ × List ℕ)) → pairs_of after lines ≡ Ok pairs → length pairs ≡ length lines
pairs_count after [] pairs e = ap length (sym (ok_is [] pairs e))
pairs_count after (l ∷ lines) pairs e =
    let first = bind_ok (pair_line_of after l) (λ (p : ℕ × List ℕ). pairs_of p.0 lines >>= λ (ps : List (ℕ × List ℕ)). Ok (p ∷ ps)) pairs e in
    let rest = bind_ok (pairs_of first.0.0 lines) (λ (ps : List (ℕ × List ℕ)). Ok (first.0 ∷ ps)) pairs first.2 in
    omega (arith, ap length (ok_is (first.0 ∷ rest.0) pairs rest.2), pairs_count first.0.0 lines rest.0 rest.1)

last_is_new : (after : ℕ) (pairs : List (ℕ × List ℕ)) (p : ℕ × List ℕ) → last_page after (pairs ++ p ∷ []) ≡ p.0
last_is_new after [] p = refl
last_is_new after (q ∷ pairs) p = last_is_new q.0 pairs p

-- a line is no read fault
pub no_read_fault : (f : PairsFault) (after : ℕ) (line : List ℕ) (old new : List (ℕ × List ℕ)) → TakesPair (Err f) after line old new → f ≢ fault.ReadFault
no_read_fault (fault.BadScript n at) after line old new h e = cc
no_read_fault fault.NoMemory after line old new h e = cc
no_read_fault fault.TooLong after line old new h e = absurd h
no_read_fault fault.ReadFault after line old new h e = absurd h

-- ---- how far the reading has come

pub record PairsTaken (ib im : Option (List ℕ)) (pairs : List (ℕ × List ℕ)) (after used : ℕ) (chunk : List ℕ) : Type 0 where
  pub taken : List ℕ
  pub lines : List (List ℕ)
  pub consumes : Consumes ib im taken
  pub splits : Splits taken lines chunk
  pub are_pairs : pairs_of 0 lines ≡ Ok pairs
  pub after_is : after ≡ last_page 0 pairs
  pub used_is : length (text_of lines) ≡ used

abbrev pub PairsEnded : (ib ie : Option (List ℕ)) → Result (List (ℕ × List ℕ)) PairsFault → Type 0
PairsEnded ib ie result = (taken : List ℕ) × Consumes ib ie taken × ReadsPairs result taken (IsAtEnd ie)

pub none_taken : (i : Option (List ℕ)) (pairs : List (ℕ × List ℕ)) (chunk : List ℕ) (used : ℕ) → pairs ≡ [] → chunk ≡ [] → used ≡ 0 → PairsTaken i i pairs 0 used chunk
none_taken i pairs chunk used z e u = record {
  taken = [];
  lines = [];
  consumes = Consumes-nil i;
  splits = record { joined = sym e; are_lines = tt; within = omega arith };
  are_pairs = ap (λ (ps : List (ℕ × List ℕ)). let r : Result (List (ℕ × List ℕ)) ℕ = Ok ps in r) (sym z);
  after_is = ap (λ (ps : List (ℕ × List ℕ)). last_page 0 ps) (sym z);
  used_is = sym u;
}

pub pairs_few : (ib im : Option (List ℕ)) (pairs : List (ℕ × List ℕ)) (after used : ℕ) (chunk : List ℕ) → PairsTaken ib im pairs after used chunk → length pairs ≤ most_of_script
pairs_few ib im pairs after used chunk p = omega (arith, pairs_count 0 p.lines pairs p.are_pairs, lines_few p.lines, p.splits.within)

module _ (ib im : Option (List ℕ)) (pairs : List (ℕ × List ℕ)) (after used : ℕ) (chunk : List ℕ) (p : PairsTaken ib im pairs after used chunk) (ie : Option (List ℕ)) (t : List ℕ) (c : Consumes im ie t) where
  all_taken : Consumes ib ie (p.taken ++ t)
  all_taken = Consumes-trans ib im ie p.taken t p.consumes c

  split : Splits (p.taken ++ t) p.lines (chunk ++ t)
  split = splits_more p.taken t chunk p.lines p.splits

  pub ends_limit : PassesLimit used (chunk ++ t) → PairsEnded ib ie (Err fault.TooLong)
  ends_limit h =
      (p.taken ++ t, all_taken, (p.lines, chunk ++ t, split, subst (λ (u : ℕ). PassesLimit u (chunk ++ t)) (sym p.used_is) h, (pairs, p.are_pairs)))

  pub ends_fault : FitsFront used (chunk ++ t) → PairsEnded ib ie (Err fault.ReadFault)
  ends_fault f =
      let open_rest : IsOpen p.lines (chunk ++ t) = record { is_line = f.is_line; within = omega (arith, p.used_is, f.fits) } in
      (p.taken ++ t, all_taken, (p.lines, chunk ++ t, split, open_rest, (pairs, p.are_pairs)))

  pub ends_memory : PairsEnded ib ie (Err fault.NoMemory)
  ends_memory = (p.taken ++ t, all_taken, tt)

  pub ends_end : IsAtEnd ie → chunk ++ t ≡ [] → PairsEnded ib ie (Ok pairs)
  ends_end end e = (p.taken ++ t, all_taken, (end, (p.lines, inl (subst (Splits (p.taken ++ t) p.lines) e split), p.are_pairs)))

  -- the line writes the pair after those that were read
  line_after : (l : List ℕ) (r : Result (ℕ × List ℕ) ℕ) → pair_line_of after l ≡ r → pairs_of 0 (p.lines ++ l ∷ []) ≡ (r >>= λ (x : ℕ × List ℕ). Ok (pairs ++ x ∷ []))
  line_after l r e = pairs_more 0 p.lines pairs l r p.are_pairs (ap (λ (n : ℕ). pair_line_of n l) (sym p.after_is) ∙ e)

  whole_fits : (l : List ℕ) → FitsWhole used l → FitsWhole (length (text_of p.lines)) l
  whole_fits l f = subst (λ (u : ℕ). FitsWhole u l) (sym p.used_is) f

  pub goes_on : (l rest : List ℕ) (new : List (ℕ × List ℕ)) (page u : ℕ) → chunk ++ t ≡ l ++ 10 ∷ rest → FitsWhole used l → u ≡ used + length l + 1 → TakesPair (Ok page) after l pairs new → PairsTaken ib ie new page u rest
  goes_on l rest new page u e f u_is h = record {
    taken = p.taken ++ t;
    lines = p.lines ++ l ∷ [];
    consumes = all_taken;
    splits = splits_line (p.taken ++ t) (chunk ++ t) l rest p.lines split e (whole_fits l f);
    are_pairs = line_after l (Ok (page, h.0)) h.1 ∙ ap (λ (ps : List (ℕ × List ℕ)). let r : Result (List (ℕ × List ℕ)) ℕ = Ok ps in r) (sym h.2);
    after_is = sym (last_is_new 0 pairs (page, h.0)) ∙ ap (λ (ps : List (ℕ × List ℕ)). last_page 0 ps) (sym h.2);
    used_is = omega (arith, u_is, p.used_is, text_length p.lines l);
  }

  -- a line that is none, or for which there is no memory
  stopped : (l : List ℕ) (new : List (ℕ × List ℕ)) (f : PairsFault) → IsNext (IsAtEnd ie) p.lines (chunk ++ t) l → TakesPair (Err f) after l pairs new → PairsEnded ib ie (Err f)
  stopped l new (fault.BadScript n at) next h =
      let count : n ≡ length p.lines + 1 = omega (arith, h.0, pairs_count 0 p.lines pairs p.are_pairs) in
      (p.taken ++ t, all_taken, (p.lines, chunk ++ t, l, count, split, next, (pairs, p.are_pairs), line_after l (Err at) h.1))
  stopped l new fault.NoMemory next h = ends_memory
  stopped l new fault.TooLong next h = absurd h
  stopped l new fault.ReadFault next h = absurd h

  pub ends_line : (l rest : List ℕ) (new : List (ℕ × List ℕ)) (f : PairsFault) → chunk ++ t ≡ l ++ 10 ∷ rest → FitsWhole used l → TakesPair (Err f) after l pairs new → PairsEnded ib ie (Err f)
  ends_line l rest new f e fits h = stopped l new f (fits.is_line, inl (rest, e, (whole_fits l fits).fits)) h

  front_open : (l : List ℕ) → FitsFront used l → IsOpen p.lines l
  front_open l f = record { is_line = f.is_line; within = omega (arith, p.used_is, f.fits) }

  pub ends_last_line : (l : List ℕ) (new : List (ℕ × List ℕ)) (f : PairsFault) → IsAtEnd ie → chunk ++ t ≡ l → FitsFront used l → 0 < length l → TakesPair (Err f) after l pairs new → PairsEnded ib ie (Err f)
  ends_last_line l new f end e fits long h =
      stopped l new f (fits.is_line, inr (end, is_last p.lines l long, subst (IsOpen p.lines) (sym e) (front_open l fits), e)) h

  pub ends_last : (l : List ℕ) (new : List (ℕ × List ℕ)) (page : ℕ) → IsAtEnd ie → chunk ++ t ≡ l → FitsFront used l → 0 < length l → TakesPair (Ok page) after l pairs new → PairsEnded ib ie (Ok new)
  ends_last l new page end e fits long h =
      let all : AreAll (p.taken ++ t) (p.lines ++ l ∷ []) = inr (p.lines, l, refl, subst (Splits (p.taken ++ t) p.lines) e split, front_open l fits, long) in
      (p.taken ++ t, all_taken, (end, (p.lines ++ l ∷ [], all, line_after l (Ok (page, h.0)) h.1 ∙ ap (λ (ps : List (ℕ × List ℕ)). let r : Result (List (ℕ × List ℕ)) ℕ = Ok ps in r) (sym h.2))))
