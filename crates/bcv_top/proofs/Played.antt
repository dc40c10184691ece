-- How far a replay has come, and how it ends.
use Rattle.std.proofs.Common.{◌≡◌, ◌≢◌, ℕ, ◌+◌, ◌^◌, ◌<◌, ◌≤◌, inl, inr, List, [], ◌∷◌, ◌++◌, length, length-append, take, take_all, Some, None, Err, refl, sym, ap, ◌∙◌, subst, append_assoc, append-nil, arith}
use Rattle.std.specs.Prelude.{Option}
use Rattle.std.specs.Io.KnownBytes.{Appends, Consumes, IsAtEnd}
use Rattle.std.proofs.KnownBytes.{Consumes-nil, Consumes-trans, Appends-nil, Appends-trans}
use Rattle.std.proofs.lemmas.Grind.{flat_map-append}
use Rattle.bcv_model.specs.declared.reply.Said.{Said}
use Rattle.bcv_model.specs.ReplyText.{said_text}
use Rattle.bcv_model.specs.Script.{world_of, world_at}
use Rattle.bcv_world.specs.declared.world.World.{World}
use Rattle.bcv_commands.specs.declared.status.Status.{Status}
use Rattle.bcv_commands.specs.declared.status.Status.TheVariants as status
use Rattle.bcv_lines.specs.Lines.{Splits, IsOpen, IsNext, IsLast, IsLine, AreAll, AreLines, BeginsWith, text_of, most_of_script}
use Rattle.bcv_lines.specs.Reading.{FitsFront, FitsWhole, PassesLimit}
use Rattle.bcv_lines.proofs.LineLists.{text_length, lines_few, splits_more, splits_line, is_last}
use Rattle.bcv_top.specs.Replay.{Leads, StopsAt, replies_text}
use Rattle.bcv_top.specs.Headline.{Replays, WritesFront, HasCauses}
use Rattle.bcv_top.proofs.Writer.{take_over}
use Rattle.bcv_top.specs.Led.{Led, Tells, IsCut, IsReady, Ends, SaysLast, end_of, kept_at, listed}

-- ---- lists

no_end : (a : List (List ℕ)) (x : List ℕ) → a ++ x ∷ [] ≡ [] → ⊥
no_end [] x e = cc
no_end (b ∷ a) x e = cc

-- ---- what lines led to

led_leads : (w : Option World) (lines : List (List ℕ)) (replies : List Said) → Led w lines replies → Leads lines w replies
led_leads None lines replies l = subst (λ (x : List (List ℕ)). Leads x None replies) (sym l.0) l.1
led_leads (Some w) lines replies l = subst (λ (x : List (List ℕ)). Leads x (Some w) replies) (sym l.2) (l.3.on.world, (l.3.h, l.3.a, l.3.fixes, l.3.runs))

led_ready : (w : Option World) (lines : List (List ℕ)) (replies : List Said) → Led w lines replies → length lines < 2 ^ 62 → IsReady w
led_ready None lines replies l h = tt
led_ready (Some w) lines replies l h =
    (l.3.on.world, omega (arith, h, ap length l.2, l.3.on.events_are))

-- ---- the end by a line

-- the text of the replies with those to one more line
replies_more : (replies told : List Said) (written text : List ℕ) → written ≡ replies_text replies → text ≡ replies_text told → written ++ text ≡ replies_text (replies ++ told)
replies_more replies told written text e f =
    ap (λ (l : List ℕ). l ++ text) e ∙ ap (λ (l : List ℕ). replies_text replies ++ l) f ∙ sym (flat_map-append said_text replies told)

-- nothing was written after what was
same_text : (replies : List Said) (written w : List ℕ) → written ≡ replies_text replies → w ≡ [] → written ++ w ≡ replies_text replies
same_text replies written w e f = ap (λ (l : List ℕ). written ++ l) f ∙ append-nil written ∙ e

all_written : (replies : List Said) (written : List ℕ) → written ≡ replies_text replies → written ≡ take (length written) (replies_text replies)
all_written replies written e = sym (take_all (length written) written (omega arith)) ∙ ap (λ (l : List ℕ). take (length written) l) e

front : (taken rest line written w : List ℕ) (lines : List (List ℕ)) (replies : List Said) (ended : Type 0) (old new : Option World)
    → Splits taken lines rest → BeginsWith ended taken (lines ++ line ∷ []) → Led old lines replies → written ≡ replies_text replies → IsCut old new line w → WritesFront taken ended (written ++ w)
front taken rest line written w lines replies ended old new s all l t (inl e) =
    (lines, old, replies, length written, inl (rest, s), led_leads old lines replies l, ap (λ (x : List ℕ). written ++ x) e ∙ append-nil written ∙ all_written replies written t)
front taken rest line written w lines replies ended old new s all l t (inr c) =
    let told = listed c.3.0 in
    let more = replies_more replies told written c.0 t c.3.1 in (
      lines ++ line ∷ [],
      new,
      replies ++ told,
      length written + c.1,
      all,
      led_leads new (lines ++ line ∷ []) (replies ++ told) (c.3.2 lines replies l),
      ap (λ (x : List ℕ). written ++ x) c.2 ∙ sym (take_over written c.0 c.1) ∙ ap (λ (x : List ℕ). take (length written + c.1) x) more,
    )

stops : (taken rest line written w : List ℕ) (lines : List (List ℕ)) (replies : List Said) (ended : Type 0) (old new : Option World) (n : ℕ) (s : Status)
    → Splits taken lines rest → IsNext ended lines rest line → BeginsWith ended taken (lines ++ line ∷ []) → Led old lines replies → written ≡ replies_text replies → n ≡ length lines + 1
    → Ends s n old new line w → Replays s (kept_at s new) taken ended (written ++ w)
stops taken rest line written w lines replies ended old new n (status.BadScript at place) s i all l t c e =
    (lines, rest, line, replies, e.0 ∙ c, s, i, subst (λ (x : Option World). StopsAt place lines x replies line) (sym e.2) (led_leads old lines replies l, e.3), same_text replies written w t e.1)
stops taken rest line written w lines replies ended old new n status.WriteFault s i all l t c e = (
  lines ++ line ∷ [],
  replies,
  e.0,
  e.1,
  all,
  led_leads new (lines ++ line ∷ []) (replies ++ e.0 ∷ []) (e.3 lines replies l),
  ap (λ (x : List ℕ). x ++ w) t ∙ ap (λ (x : List ℕ). replies_text replies ++ x) e.2,
)
stops taken rest line written w lines replies ended old new n status.NoMemory s i all l t c e = (refl, front taken rest line written w lines replies ended old new s all l t e)
stops taken rest line written w lines replies ended old new n _ s i all l t c e = absurd e

-- all lines of the input led to what was written
done : (taken written : List ℕ) (all : List (List ℕ)) (replies : List Said) (ended : Type 0) (w : Option World) → ended → AreAll taken all → Led w all replies → written ≡ replies_text replies → (all ≡ [] → ⊥)
    → Replays status.Done w taken ended written
done taken written all replies ended None e a l t none = absurd (none l.0)
done taken written all replies ended (Some w) e a l t none =
    (e, (l.0, l.1, replies, subst (AreAll taken) l.2 a, subst (λ (x : List (List ℕ)). Leads x (Some w) replies) l.2 (led_leads (Some w) all replies l), t))

-- an input that ended after whole lines
no_world : world_of [] ≡ Err 0
unfolding world_of world_at
no_world = refl

ended_at : (w : Option World) (taken written rest : List ℕ) (lines : List (List ℕ)) (replies : List Said) (ended : Type 0) → ended → Splits taken lines rest → rest ≡ [] → Led w lines replies → written ≡ replies_text replies
    → Replays (end_of w) (kept_at (end_of w) w) taken ended written
ended_at None taken written rest lines replies ended end s e l t =
    let split : Splits taken [] [] = subst (λ (x : List (List ℕ)). Splits taken x []) l.0 (subst (Splits taken lines) e s) in
    let empty : IsLine [] = record { whole = refl; short = omega arith } in
    let whole : IsOpen [] [] = record { is_line = empty; within = omega arith } in
    ([], [], [], replies, refl, split, (empty, inr (end, tt, whole, refl)), (l.1, no_world), t)
ended_at (Some w) taken written rest lines replies ended end s e l t =
    let split : Splits taken (l.0 ∷ l.1) [] = subst (λ (x : List (List ℕ)). Splits taken x []) l.2 (subst (Splits taken lines) e s) in
    (end, (l.0, l.1, replies, inl split, subst (λ (x : List (List ℕ)). Leads x (Some w) replies) l.2 (led_leads (Some w) lines replies l), t))

-- ---- how far a replay has come: what was taken and written, and the lines that were applied

pub record Played (ib im ob om : Option (List ℕ)) (w : Option World) (number used : ℕ) (chunk : List ℕ) : Type 0 where
  pub taken : List ℕ
  pub written : List ℕ
  pub lines : List (List ℕ)
  pub replies : List Said
  pub consumes : Consumes ib im taken
  pub appends : Appends ob om written
  pub splits : Splits taken lines chunk
  pub led : Led w lines replies
  pub text : written ≡ replies_text replies
  pub number_is : number ≡ length lines
  pub used_is : length (text_of lines) ≡ used

abbrev pub Ended : (ib ie ob oe : Option (List ℕ)) → Status → Option World → Type 0
Ended ib ie ob oe s w = (taken : List ℕ) × (written : List ℕ) × Consumes ib ie taken × Appends ob oe written × Replays s w taken (IsAtEnd ie) written

-- what is handed back at a status, with the world where that is kept
pub at_end : (ib ie ob oe : Option (List ℕ)) (s' s : Status) (w' w : Option World) → s' ≡ s → w' ≡ kept_at s w → Ended ib ie ob oe s (kept_at s w) → Ended ib ie ob oe s' w'
at_end ib ie ob oe s' s w' w e f h = subst (λ (x : Status). Ended ib ie ob oe x w') (sym e) (subst (λ (x : Option World). Ended ib ie ob oe s x) (sym f) h)

pub at_words : (s' s : Status) → s' ≡ s → s ≢ status.BadWords → s' ≢ status.BadWords
at_words s' s e h = subst (λ (x : Status). x ≢ status.BadWords) (sym e) h

pub at_causes : (ib ie ob oe : ℕ) (s' s : Status) → s' ≡ s → HasCauses ib ie ob oe s → HasCauses ib ie ob oe s'
at_causes ib ie ob oe s' s e h = subst (λ (x : Status). HasCauses ib ie ob oe x) (sym e) h

pub played_none : (i o : Option (List ℕ)) (chunk : List ℕ) (used : ℕ) → chunk ≡ [] → used ≡ 0 → Played i i o o None 0 used chunk
played_none i o chunk used e u = record {
  taken = [];
  written = [];
  lines = [];
  replies = [];
  consumes = Consumes-nil i;
  appends = Appends-nil o;
  splits = record { joined = sym e; are_lines = tt; within = omega arith };
  led = (refl, refl);
  text = refl;
  number_is = refl;
  used_is = sym u;
}

pub ends_unstarted : (i o : Option (List ℕ)) → Ended i i o o status.NoMemory None
ends_unstarted i o =
    let none : Splits [] [] [] = record { joined = refl; are_lines = tt; within = omega arith } in
    ([], [], Consumes-nil i, Appends-nil o, (refl, ([], None, [], 0, inl ([], none), refl, refl)))

pub played_few : (ib im ob om : Option (List ℕ)) (w : Option World) (number used : ℕ) (chunk : List ℕ) → Played ib im ob om w number used chunk → number ≤ most_of_script
played_few ib im ob om w number used chunk p = omega (arith, p.number_is, lines_few p.lines, p.splits.within)

pub played_ready : (ib im ob om : Option (List ℕ)) (w : Option World) (number used : ℕ) (chunk : List ℕ) → Played ib im ob om w number used chunk → IsReady w
played_ready ib im ob om w number used chunk p = led_ready w p.lines p.replies p.led (omega (arith, lines_few p.lines, p.splits.within))

module _ (ib im ob om : Option (List ℕ)) (w : Option World) (number used : ℕ) (chunk : List ℕ) (p : Played ib im ob om w number used chunk) (ie : Option (List ℕ)) (t : List ℕ) (c : Consumes im ie t) where
  all_taken : Consumes ib ie (p.taken ++ t)
  all_taken = Consumes-trans ib im ie p.taken t p.consumes c

  pub ends_limit : PassesLimit used (chunk ++ t) → Ended ib ie ob om status.TooLong w
  ends_limit h =
      (p.taken ++ t, p.written, all_taken, p.appends, (p.lines, chunk ++ t, p.replies, splits_more p.taken t chunk p.lines p.splits, subst (λ (u : ℕ). PassesLimit u (chunk ++ t)) (sym p.used_is) h, led_leads w p.lines p.replies p.led, p.text))

  pub ends_fault : FitsFront used (chunk ++ t) → Ended ib ie ob om status.ReadFault w
  ends_fault f =
      let open_rest : IsOpen p.lines (chunk ++ t) = record { is_line = f.is_line; within = omega (arith, p.used_is, f.fits) } in
      (p.taken ++ t, p.written, all_taken, p.appends, (p.lines, chunk ++ t, p.replies, splits_more p.taken t chunk p.lines p.splits, open_rest, led_leads w p.lines p.replies p.led, p.text))

  pub ends_memory : Ended ib ie ob om status.NoMemory None
  ends_memory =
      let all : BeginsWith (IsAtEnd ie) (p.taken ++ t) p.lines = inl (chunk ++ t, splits_more p.taken t chunk p.lines p.splits) in
      (p.taken ++ t, p.written, all_taken, p.appends, (refl, (p.lines, w, p.replies, length p.written, all, led_leads w p.lines p.replies p.led, all_written p.replies p.written p.text)))

  pub ends_line : (oe : Option (List ℕ)) (line rest more : List ℕ) (new : Option World) (n : ℕ) (s : Status) → chunk ++ t ≡ line ++ 10 ∷ rest → FitsWhole used line → n ≡ number + 1 → Appends om oe more → Ends s n w new line more
      → Ended ib ie ob oe s (kept_at s new)
  ends_line oe line rest more new n s e f n_is a h =
      let fits : FitsWhole (length (text_of p.lines)) line = subst (λ (u : ℕ). FitsWhole u line) (sym p.used_is) f in
      let split = splits_more p.taken t chunk p.lines p.splits in
      let next : IsNext (IsAtEnd ie) p.lines (chunk ++ t) line = (f.is_line, inl (rest, e, fits.fits)) in (
        p.taken ++ t,
        p.written ++ more,
        all_taken,
        Appends-trans ob om oe p.written more p.appends a,
        stops (p.taken ++ t) (chunk ++ t) line p.written more p.lines p.replies (IsAtEnd ie) w new n s split next (inl (rest, splits_line (p.taken ++ t) (chunk ++ t) line rest p.lines split e fits)) p.led p.text (n_is ∙ ap (λ (k : ℕ). k + 1) p.number_is) h,
      )

  pub goes_on : (oe : Option (List ℕ)) (line rest more : List ℕ) (new : Option World) (n u : ℕ) → chunk ++ t ≡ line ++ 10 ∷ rest → FitsWhole used line → n ≡ number + 1 → u ≡ used + length line + 1 → Appends om oe more → Tells w new line more
      → Played ib ie ob oe new n u rest
  goes_on oe line rest more new n u e f n_is u_is a h =
      let fits : FitsWhole (length (text_of p.lines)) line = subst (λ (u : ℕ). FitsWhole u line) (sym p.used_is) f in
      let split = splits_more p.taken t chunk p.lines p.splits in
      record {
        taken = p.taken ++ t;
        written = p.written ++ more;
        lines = p.lines ++ line ∷ [];
        replies = p.replies ++ listed h.0;
        consumes = all_taken;
        appends = Appends-trans ob om oe p.written more p.appends a;
        splits = splits_line (p.taken ++ t) (chunk ++ t) line rest p.lines split e fits;
        led = h.2 p.lines p.replies p.led;
        text = replies_more p.replies (listed h.0) p.written more p.text h.1;
        number_is = omega (arith, n_is, p.number_is, length-append p.lines (line ∷ []));
        used_is = omega (arith, u_is, p.used_is, text_length p.lines line);
      }

  last_all : (line : List ℕ) → chunk ++ t ≡ line → FitsFront used line → 0 < length line → AreAll (p.taken ++ t) (p.lines ++ line ∷ [])
  last_all line e f long =
      let split : Splits (p.taken ++ t) p.lines line = subst (Splits (p.taken ++ t) p.lines) e (splits_more p.taken t chunk p.lines p.splits) in
      let rest_open : IsOpen p.lines line = record { is_line = f.is_line; within = omega (arith, p.used_is, f.fits) } in
      inr (p.lines, line, refl, split, rest_open, long)

  last_next : (line : List ℕ) → IsAtEnd ie → chunk ++ t ≡ line → FitsFront used line → 0 < length line → IsNext (IsAtEnd ie) p.lines (chunk ++ t) line
  last_next line end e f long =
      let whole : IsOpen p.lines line = record { is_line = f.is_line; within = omega (arith, p.used_is, f.fits) } in
      (f.is_line, inr (end, is_last p.lines line long, subst (IsOpen p.lines) (sym e) whole, e))

  last_ends : (oe : Option (List ℕ)) (line more : List ℕ) (new : Option World) (n : ℕ) (s : Status) → IsAtEnd ie → chunk ++ t ≡ line → FitsFront used line → 0 < length line → n ≡ number + 1 → Appends om oe more → Ends s n w new line more
      → Ended ib ie ob oe s (kept_at s new)
  last_ends oe line more new n s end e f long n_is a h = (
    p.taken ++ t,
    p.written ++ more,
    all_taken,
    Appends-trans ob om oe p.written more p.appends a,
    stops (p.taken ++ t) (chunk ++ t) line p.written more p.lines p.replies (IsAtEnd ie) w new n s (splits_more p.taken t chunk p.lines p.splits) (last_next line end e f long) (inr (end, last_all line e f long)) p.led p.text (n_is ∙ ap (λ (k : ℕ). k + 1) p.number_is) h,
  )

  pub ends_last : (oe : Option (List ℕ)) (line more : List ℕ) (new : Option World) (n : ℕ) (s : Status) → IsAtEnd ie → chunk ++ t ≡ line → FitsFront used line → 0 < length line → n ≡ number + 1 → Appends om oe more → SaysLast s n w new line more
      → Ended ib ie ob oe s (kept_at s new)
  ends_last oe line more new n status.Done end e f long n_is a h = (
    p.taken ++ t,
    p.written ++ more,
    all_taken,
    Appends-trans ob om oe p.written more p.appends a,
    done (p.taken ++ t) (p.written ++ more) (p.lines ++ line ∷ []) (p.replies ++ listed h.0) (IsAtEnd ie) new end (last_all line e f long) (h.2 p.lines p.replies p.led)
        (replies_more p.replies (listed h.0) p.written more p.text h.1) (no_end p.lines line),
  )
  ends_last oe line more new n (status.BadScript at place) end e f long n_is a h = last_ends oe line more new n (status.BadScript at place) end e f long n_is a h
  ends_last oe line more new n status.WriteFault end e f long n_is a h = last_ends oe line more new n status.WriteFault end e f long n_is a h
  ends_last oe line more new n status.NoMemory end e f long n_is a h = last_ends oe line more new n status.NoMemory end e f long n_is a h
  ends_last oe line more new n _ end e f long n_is a h = absurd h

  pub ends_end : IsAtEnd ie → chunk ++ t ≡ [] → Ended ib ie ob om (end_of w) (kept_at (end_of w) w)
  ends_end end e =
      (p.taken ++ t, p.written, all_taken, p.appends, ended_at w (p.taken ++ t) p.written (chunk ++ t) p.lines p.replies (IsAtEnd ie) end (splits_more p.taken t chunk p.lines p.splits) e p.led p.text)
