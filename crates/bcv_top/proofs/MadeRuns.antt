-- The script that is made from a number is played: what its lines keep to, and how far a world has come.
use Rattle.std.proofs.Common.{◌≡◌, ℕ, zero, suc, ◌+◌, ◌-◌, ◌^◌, ◌<◌, ◌≤◌, ◌/◌, ◌%◌, Bool, true, false, not, inl, inr, Some, None, take, List, [], ◌∷◌, ◌++◌, length, length-append, refl, sym, ap, ◌∙◌, subst, append_assoc, append-nil, arith}
use Rattle.std.proofs.Math.Nat.{mod-lt}
use Rattle.std.specs.Prelude.{Option}
use Rattle.std.specs.Io.KnownBytes.{Appends}
use lib.Count.{ones}
use Rattle.bcv_base.specs.Image.{Page}
use Rattle.bcv_world.specs.declared.world.World.{World}
use Rattle.bcv_base.specs.declared.outcome.Outcome.TheVariants as outcome
use Rattle.bcv_world.specs.LineEvents.{IsSpec, Keeps, KeepsAsk}
use Rattle.bcv_world.specs.Standing.{IsFirst, state_at}
use Rattle.bcv_world.specs.WorldForm.{IsWorld}
use Rattle.bcv_machine.specs.Run.{Transcript, empty_transcript, then_said}
use Rattle.bcv_machine.specs.State.{State}
use Rattle.bcv_model.specs.declared.ask.Ask.{Ask}
use Rattle.bcv_model.specs.declared.ask.Ask.TheVariants as ask
use Rattle.bcv_model.specs.declared.event.Act.TheVariants as act
use Rattle.bcv_model.specs.declared.event.Event.{Event}
use Rattle.bcv_model.specs.declared.event.Event.TheVariants as event
use Rattle.bcv_model.specs.declared.reply.Said.{Said}
use Rattle.bcv_model.specs.declared.spec.WorldSpec.{WorldSpec}
use Rattle.bcv_script.proofs.Adding.{onto_more}
use Rattle.bcv_top.specs.declared.draws.AskKind.{AskKind}
use Rattle.bcv_top.specs.declared.draws.AskKind.TheVariants as kind
use Rattle.bcv_top.specs.declared.draws.LineKind.{LineKind}
use Rattle.bcv_top.specs.declared.draws.LineKind.TheVariants as line
use Rattle.bcv_top.specs.Generated.{a_byte, a_name, advanced, an_event, asked, below, events_from, generated, generated_spec, line_kind, lined, page_with, up_to}
use Rattle.bcv_top.specs.declared.output.Wrote.{Wrote}
use Rattle.bcv_top.specs.declared.output.Wrote.TheVariants as wrote
use Rattle.bcv_commands.specs.declared.status.Status.{Status}
use Rattle.bcv_commands.specs.declared.status.Status.TheVariants as status
use Rattle.bcv_top.specs.Led.{PlaysOn, is_no_memory, kept_at}
use Rattle.bcv_top.specs.MadeRun.{Generates, Playing, PlaysEvent, PlaysMore, RanAll, status_by, summary_text}
use Rattle.bcv_top.specs.Writing.{Writes}
use Rattle.bcv_top.proofs.PlayedOn.{new_plays, no_memory, one_more}
use Rattle.bcv_top.proofs.Stepping.{GoesOn}

-- ---- lines keep to the world

page_length : (byte : ℕ) → length (page_with byte) ≡ 512
page_length byte = refl

asked_keeps : (k : AskKind) (x : ℕ) → KeepsAsk generated_spec (asked k x).0
asked_keeps kind.Poll x = tt
asked_keeps kind.New x =
    let db = a_name x in
    let b = a_byte db.1 in
    let c = a_byte b.1 in
    record { same_size = refl; each = (page_length b.0, (page_length c.0, tt)); few = omega arith }
asked_keeps kind.Begin x = tt
asked_keeps kind.Read x = tt
asked_keeps kind.Commit x = tt
asked_keeps kind.Upload x = tt
asked_keeps kind.Copy x = tt
asked_keeps kind.Drop x = tt
asked_keeps kind.Cleanup x = tt
asked_keeps kind.Resolve x = tt
asked_keeps kind.Revert x = tt
asked_keeps kind.End x = tt
asked_keeps kind.Hold x = tt
asked_keeps kind.Step x = tt

lined_keeps : (client : ℕ) (k : LineKind) (x : ℕ) → 1 ≤ client → client ≤ 4 → Keeps generated_spec (lined client k x).0
lined_keeps client line.Tick x low high = tt
lined_keeps client line.FailedStep x low high = (low, high, tt)
lined_keeps client (line.Asks k) x low high = (low, high, asked_keeps k x)

event_keeps : (x : ℕ) → Keeps generated_spec (an_event x).0
event_keeps x =
    let client = up_to 4 x in
    let k = below 32 client.1 in
    let less : (below 4 x).0 < 4 = mod-lt (advanced x / 2 ^ 33) (omega arith) in
    lined_keeps client.0 (line_kind k.0) k.1 (omega arith) (omega (arith, less))

-- ---- one event

pub plays_event : (old new : World) (e : Event) (s : Said) (b : Bool) → b ≡ not (is_no_memory s.reply) → old.tally.events < 2 ^ 62 → GoesOn old new e s → PlaysEvent b old new e
plays_event old new e s false ran few goes = tt
plays_event old new e s true ran few goes = λ h a events on.
    let memory : is_no_memory s.reply ≡ false = was_not (is_no_memory s.reply) ran in
    let more = one_more old new h a events e s on goes.world goes.spec goes.tally goes.takes (omega (arith, few, on.events_are)) (no_memory s.reply memory) in
    record { said = s; choice = more.choice; state = more.state; spec = goes.spec; on = more.on }
  where
    was_not : (t : Bool) → true ≡ not t → t ≡ false
    was_not true e = cc
    was_not false e = refl

-- ---- the script

no_lines : (x : ℕ) → events_from 0 x ≡ []
unfolding events_from
no_lines x = refl

more_lines : (left x : ℕ) → 0 < left → events_from left x ≡ (an_event x).0 ∷ events_from (left - 1) (an_event x).1
unfolding events_from
more_lines zero x some = absurd (omega (arith, some))
more_lines (suc left) x some =
    let same : left ≡ suc left - 1 = omega arith in ap (λ (k : ℕ). (an_event x).0 ∷ events_from k (an_event x).1) same

module _ (n : ℕ) (w : World) (x left : ℕ) (p : Playing n w x left) where
  pub playing_world : IsWorld w
  playing_world = p.on.world

  pub playing_few : w.tally.events < 2 ^ 62
  playing_few = omega (arith, p.on.events_are, p.count)

  pub playing_keeps : (e : Event) → e ≡ (an_event x).0 → Keeps w.spec e
  playing_keeps e is = subst (λ (s : WorldSpec). Keeps s e) (sym p.spec) (subst (Keeps generated_spec) (sym is) (event_keeps x))

  pub playing_on : (new : World) (e : Event) (later : ℕ) → 0 < left → e ≡ (an_event x).0 → later ≡ (an_event x).1 → PlaysEvent true w new e → Playing n new later (left - 1)
  playing_on new e later some is next plays =
      let more : PlaysMore w new p.h e (length p.h.events) = plays p.h p.a (length p.h.events) p.on in
      let h : Transcript = then_said p.h e more.said more.choice in
      let count : length p.h.events + 1 ≡ length h.events = omega (arith, length-append p.h.events (e ∷ [])) in
      let lines : e ∷ events_from (left - 1) later ≡ events_from left x =
      ap (λ (y : ℕ). e ∷ events_from (left - 1) y) next ∙ ap (λ (y : Event). y ∷ events_from (left - 1) (an_event x).1) is ∙ sym (more_lines left x some) in
      record {
        h = h;
        a = more.state;
        on = subst (PlaysOn new h more.state) count more.on;
        spec = more.spec ∙ p.spec;
        script = append_assoc p.h.events (e ∷ []) (events_from (left - 1) later) ∙ ap (λ (l : List Event). p.h.events ++ l) lines ∙ p.script;
        count = omega (arith, p.count, count, some);
      }

  pub playing_ends : left ≡ 0 → RanAll n w
  playing_ends none =
      let no_more : events_from left x ≡ [] = ap (λ (k : ℕ). events_from k x) none ∙ no_lines x in
      (p.on.world, (p.h, p.a, sym (append-nil p.h.events) ∙ ap (λ (l : List Event). p.h.events ++ l) (sym no_more) ∙ p.script, p.spec, p.on.plays))

-- ---- the first two events

pub made_sizes : IsSpec generated_spec
unfolding ones
made_sizes = record { block = refl; page = refl; retention = omega arith }

abbrev creates : Event
creates = event.Of 1 (act.Ask (ask.Create 1024 50) outcome.Ok)

abbrev steps : Event
steps = event.Of 1 (act.Ask (ask.Step 1) outcome.Ok)

pub creates_keeps : (spec : WorldSpec) → spec ≡ generated_spec → (e : Event) → e ≡ creates → Keeps spec e
creates_keeps spec is e made = subst (λ (y : Event). Keeps spec y) (sym made) (subst (λ (s : WorldSpec). Keeps s creates) (sym is) (omega arith, omega arith, (refl, refl)))

two_first : (a b c d : Event) (l : List Event) → a ≡ c → b ≡ d → a ∷ b ∷ l ≡ c ∷ d ∷ l
two_first a b c d l e f = ap (λ (y : Event). y ∷ b ∷ l) e ∙ ap (λ (y : Event). c ∷ y ∷ l) f

module _ (w one : World) (e1 : Event) (world : IsWorld w) (none : w.tally.events ≡ 0) (first : IsFirst w) (spec : w.spec ≡ generated_spec) (plays : PlaysEvent true w one e1) where
  abbrev once : PlaysMore w one empty_transcript e1 0
  once = plays empty_transcript (state_at w first.places) 0 (new_plays w world none first)

  pub begun_world : IsWorld one
  begun_world = once.on.world

  pub begun_few : one.tally.events < 2 ^ 62
  begun_few = omega (arith, once.on.events_are)

  pub begun_keeps : (e : Event) → e ≡ steps → Keeps one.spec e
  begun_keeps e made = subst (λ (y : Event). Keeps one.spec y) (sym made) (subst (λ (s : WorldSpec). Keeps s steps) (sym (once.spec ∙ spec)) (omega arith, omega arith, tt))

  pub begun_playing : (n : ℕ) (two : World) (e2 : Event) → e1 ≡ creates → e2 ≡ steps → PlaysEvent true one two e2 → Playing n two n 1998
  begun_playing n two e2 is_1 is_2 again =
      let h : Transcript = then_said empty_transcript e1 once.said once.choice in
      let twice : PlaysMore one two h e2 1 = again h once.state 1 once.on in
      record {
        h = then_said h e2 twice.said twice.choice;
        a = twice.state;
        on = twice.on;
        spec = twice.spec ∙ once.spec ∙ spec;
        script = two_first e1 e2 creates steps (events_from 1998 n) is_1 is_2;
        count = refl;
      }

-- ---- the summary

pub five_onto : (old a b c d e m1 m2 m3 m4 new : List ℕ) → m1 ≡ old ++ a → m2 ≡ m1 ++ b → m3 ≡ m2 ++ c → m4 ≡ m3 ++ d → new ≡ m4 ++ e
    → new ≡ old ++ (a ++ (b ++ (c ++ (d ++ e))))
five_onto old a b c d e m1 m2 m3 m4 new h1 h2 h3 h4 h5 =
    onto_more old a (b ++ (c ++ (d ++ e))) m1 new h1
    (onto_more m1 b (c ++ (d ++ e)) m2 new h2 (onto_more m2 c (d ++ e) m3 new h3 (onto_more m3 d e m4 new h4 h5)))

-- ---- pages

pub two_items : (p q r s : Page) (none one two : List Page) → none ≡ [] → one ≡ none ++ p ∷ [] → two ≡ one ++ q ∷ [] → p ≡ r → q ≡ s → two ≡ r ∷ s ∷ []
two_items p q r s none one two h0 h1 h2 hp hq =
    h2 ∙ ap (λ (l : List Page). l ++ q ∷ []) (h1 ∙ ap (λ (l : List Page). l ++ p ∷ []) h0) ∙ ap (λ (y : Page). y ∷ q ∷ []) hp ∙ ap (λ (y : Page). r ∷ y ∷ []) hq

pub made_database : (x x1 x2 : ℕ) (db : List ℕ) (b c : ℕ) (pages : List Page) → db ≡ (a_name x).0 → x1 ≡ (a_name x).1 → b ≡ (a_byte x1).0 → x2 ≡ (a_byte x1).1 → c ≡ (a_byte x2).0
    → pages ≡ page_with b ∷ page_with c ∷ [] → ask.NewDb db 512 pages ≡ (asked kind.New x).0
made_database x x1 x2 db b c pages is_db is_1 is_b is_2 is_c are =
    let y : ℕ = (a_name x).1 in
    let z : ℕ = (a_byte y).1 in
    let first : b ≡ (a_byte y).0 = is_b ∙ ap (λ (k : ℕ). (a_byte k).0) is_1 in
    let second : c ≡ (a_byte z).0 = is_c ∙ ap (λ (k : ℕ). (a_byte k).0) (is_2 ∙ ap (λ (k : ℕ). (a_byte k).1) is_1) in
    let all : pages ≡ page_with (a_byte y).0 ∷ page_with (a_byte z).0 ∷ [] =
    are ∙ ap (λ (k : ℕ). page_with k ∷ page_with c ∷ []) first ∙ ap (λ (k : ℕ). page_with (a_byte y).0 ∷ page_with k ∷ []) second in
    ap (λ (d : List ℕ). ask.NewDb d 512 pages) is_db ∙ ap (λ (ps : List Page). ask.NewDb (a_name x).0 512 ps) all

-- ---- the end

abbrev pub Wrote_tally : (b o : Option (List ℕ)) → ℕ → Status → Option World → Type 0
Wrote_tally b o n s kept = (written : List ℕ) × Appends b o written × Generates n s kept written

generated_by : (b o : Option (List ℕ)) (n : ℕ) (w : World) (bytes : List ℕ) (r : Wrote) → RanAll n w → bytes ≡ summary_text w.tally
    → (written : List ℕ) × Appends b o written × Writes r bytes written → Wrote_tally b o n (status_by r) (kept_at (status_by r) (Some w))
generated_by b o n w bytes wrote.All all is h = (h.0, h.1, (all, h.2 ∙ is))
generated_by b o n w bytes wrote.Failed all is h = (h.0, h.1, (all, (h.2.1.0, h.2.1.1 ∙ ap (λ (l : List ℕ). take h.2.1.0 l) is)))
generated_by b o n w bytes wrote.NoMemory all is h = (h.0, h.1, inr (w, all, (h.2.1.0, h.2.1.1 ∙ ap (λ (l : List ℕ). take h.2.1.0 l) is)))

pub generated_end : (b o : Option (List ℕ)) (n : ℕ) (w : World) (bytes : List ℕ) (r : Wrote) (s t : Status) (kept : Option World) → RanAll n w → bytes ≡ summary_text w.tally
    → t ≡ status_by r → s ≡ t → kept ≡ kept_at t (Some w) → (written : List ℕ) × Appends b o written × Writes r bytes written → Wrote_tally b o n s kept
generated_end b o n w bytes r s t kept all is by same left h =
    let world : kept ≡ kept_at (status_by r) (Some w) = left ∙ ap (λ (y : Status). kept_at y (Some w)) by in
    subst (λ (y : Status). Wrote_tally b o n y kept) (sym (same ∙ by))
    (subst (λ (y : Option World). Wrote_tally b o n (status_by r) y) (sym world) (generated_by b o n w bytes r all is h))

-- no memory for the tally's text
pub generated_nothing : (n : ℕ) (s : Status) (w : Option World) → s ≡ status.NoMemory → w ≡ None → Generates n s w []
generated_nothing n s w is none =
    subst (λ (x : Status). Generates n x w []) (sym is) (subst (λ (v : Option World). Generates n status.NoMemory v []) (sym none) (inl refl))
