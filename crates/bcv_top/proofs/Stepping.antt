-- What one line does to the world that the lines before it led to.
use Rattle.std.proofs.Common.{◌≡◌, ℕ, ◌<◌, ◌+◌, ◌^◌, inl, inr, List, [], ◌∷◌, ◌++◌, length, length-append, map, take, Some, None, Result, Ok, Err, refl, sym, ap, ◌∙◌, subst, append-nil, arith}
use Rattle.std.specs.Prelude.{Option, false}
use Rattle.std.specs.Io.KnownBytes.{Appends}
use Rattle.std.proofs.KnownBytes.{Appends-nil}
use Rattle.std.proofs.lemmas.List.{map-append}
use Rattle.bcv_world.specs.declared.world.World.{World}
use Rattle.bcv_world.specs.Standing.{IsFirst, state_at}
use Rattle.bcv_world.specs.Tallies.{tallied}
use Rattle.bcv_world.specs.WorldForm.{IsWorld}
use Rattle.bcv_machine.specs.Run.{Transcript, empty_transcript, then_said}
use Rattle.bcv_machine.specs.State.{State}
use Rattle.bcv_model.specs.declared.event.Event.{Event}
use Rattle.bcv_model.specs.declared.reply.Said.{Said}
use Rattle.bcv_model.specs.declared.spec.WorldSpec.{WorldSpec}
use Rattle.bcv_model.specs.ReplyText.{said_text}
use Rattle.bcv_model.specs.Script.{world_of, event_of}
use Rattle.bcv_script.specs.Reading.{Refuses}
use Rattle.bcv_script.specs.declared.fault.LineFault.{LineFault}
use Rattle.bcv_script.specs.declared.fault.LineFault.TheVariants as fault
use Rattle.bcv_top.specs.declared.output.Wrote.{Wrote}
use Rattle.bcv_top.specs.declared.output.Wrote.TheVariants as wrote
use Rattle.bcv_commands.specs.declared.status.Status.{Status}
use Rattle.bcv_commands.specs.declared.status.Status.TheVariants as status
use Rattle.bcv_top.specs.Course.{WorldTakes}
use Rattle.bcv_top.specs.Replay.{Runs, replies_text}
use Rattle.bcv_top.specs.Writing.{Writes}
use Rattle.bcv_top.specs.Led.{LedBy, LeadsOn, PlaysOn, Tells, Steps, Ends, Says, SaysLast, First, Answers, is_no_memory, listed, stopped_by, writing_end_of}
use Rattle.bcv_top.proofs.PlayedOn.{OneMore, new_plays, no_memory, one_more}

-- ---- a further line

pub answer_unread : (f : LineFault) (world : World) (line text : List ℕ) → Refuses f (event_of world.spec line) → Answers (Err f) world world line text
answer_unread (fault.BadLine at) world line text e = (refl, e)
answer_unread fault.NoMemory world line text e = tt

events_more : (spec : WorldSpec) (lines : List (List ℕ)) (line : List ℕ) (es : List Event) (e : Event) → map (event_of spec) lines ≡ map Ok es → event_of spec line ≡ Ok e
    → map (event_of spec) (lines ++ line ∷ []) ≡ map Ok (es ++ e ∷ [])
events_more spec lines line es e is here =
    map-append (event_of spec) lines (line ∷ []) ∙ ap (λ (x : List (Result Event ℕ)). x ++ event_of spec line ∷ []) is
    ∙ ap (λ (x : Result Event ℕ). map Ok es ++ x ∷ []) here ∙ sym (map-append {B = Result Event ℕ} Ok es (e ∷ []))

-- the world goes on by an event, with this said of it
pub record GoesOn (old new : World) (e : Event) (s : Said) : Type 0 where
  pub world : IsWorld new
  pub spec : new.spec ≡ old.spec
  pub tally : new.tally ≡ tallied old.tally s
  pub takes : WorldTakes old new e s

module _ (old new : World) (line : List ℕ) (e : Event) (s : Said) (is : event_of old.spec line ≡ Ok e) (ran : is_no_memory s.reply ≡ false)
    (few : old.tally.events < 2 ^ 62) (goes : GoesOn old new e s) where
  led_on : (first : List ℕ) (lines : List (List ℕ)) (replies : List Said) → LedBy first old lines replies → LedBy first new (lines ++ line ∷ []) (replies ++ s ∷ [])
  led_on first lines replies l =
      let more = one_more old new l.h l.a (length lines) e s l.on goes.world goes.spec goes.tally goes.takes (omega (arith, few, l.on.events_are)) (no_memory s.reply ran) in
      let h : Transcript = then_said l.h e s more.choice in
      let events = subst (λ (x : WorldSpec). map (event_of x) (lines ++ line ∷ []) ≡ map Ok (l.h.events ++ e ∷ [])) (sym goes.spec) (events_more old.spec lines line l.h.events e l.runs.events is) in
      let count : length lines + 1 ≡ length (lines ++ line ∷ []) = omega (arith, length-append lines (line ∷ [])) in
      record {
        h = h;
        a = more.state;
        fixes = subst (λ (x : WorldSpec). world_of first ≡ Ok x) (sym goes.spec) l.fixes;
        on = subst (PlaysOn new h more.state) count more.on;
        runs = record { events = events; saids = ap (λ (x : List Said). x ++ s ∷ []) l.runs.saids; plays = more.on.plays };
      }

  pub answered : (text : List ℕ) → text ≡ said_text s → Answers (Ok tt) old new line text
  answered text said = (s, said, led_on)

-- ---- the first line

pub first_unread : (f : LineFault) (line : List ℕ) → Refuses f (world_of line) → First (Err f) line
first_unread (fault.BadLine at) line e = e
first_unread fault.NoMemory line e = tt

pub first_fixed : (line : List ℕ) (w : World) (spec : WorldSpec) → world_of line ≡ Ok spec → w.spec ≡ spec → IsWorld w → w.tally.events ≡ 0 → IsFirst w → LedBy line w [] []
first_fixed line w spec e is world none first =
    let on : PlaysOn w empty_transcript (state_at w first.places) 0 = new_plays w world none first in
    record {
      h = empty_transcript;
      a = state_at w first.places;
      fixes = e ∙ ap (λ (x : WorldSpec). Ok x) (sym is);
      on = on;
      runs = record { events = refl; saids = refl; plays = on.plays };
    }

-- ---- any line

pub step_answer : (r : Result (Unit {0}) LineFault) (old new : World) (line text : List ℕ) → Answers r old new line text → Steps (Some old) (Some new) line text r
step_answer (Ok u) old new line text h =
    (Some h.0, h.1 ∙ sym (append-nil (said_text h.0)), λ lines replies l. (l.0, l.1 ++ line ∷ [], ap (λ (x : List (List ℕ)). x ++ line ∷ []) l.2, h.2 l.0 l.1 replies l.3))
step_answer (Err (fault.BadLine at)) old new line text h =
    (ap (λ (w : World). Some w) h.0, h.1)
step_answer (Err fault.NoMemory) old new line text h = tt

pub step_first : (w : World) (line text : List ℕ) → text ≡ [] → LedBy line w [] [] → Tells None (Some w) line text
step_first w line text e b = (
  None,
  e,
  λ lines replies l.
      let none : replies ++ [] ≡ [] = append-nil replies ∙ l.1 in
      (line, [], ap (λ (x : List (List ℕ)). x ++ line ∷ []) l.0, subst (LedBy line w []) (sym none) b),
)

pub step_no_world : (f : LineFault) (line text : List ℕ) → First (Err f) line → Steps None None line text (Err f)
step_no_world (fault.BadLine at) line text h = (refl, h)
step_no_world fault.NoMemory line text h = tt

-- ---- a line and the writing of its reply

abbrev pub Wrote_out : (b n : Option (List ℕ)) → Result (Unit {0}) Status → ℕ → Option World → Option World → List ℕ → Type 0
Wrote_out b n r number old new line = (written : List ℕ) × Appends b n written × Says r number old new line written

-- a text of which only a front was written is no first line's
fault_at : (number : ℕ) (old new : Option World) (line text bytes written : List ℕ) (said : Option Said) (k : ℕ) → text ≡ replies_text (listed said) → LeadsOn old new line said → bytes ≡ text → 0 < length bytes → written ≡ take k bytes
    → Ends status.WriteFault number old new line written
fault_at number old new line text bytes written None k t h e some w = let none : length bytes ≡ 0 = ap length (e ∙ t) in absurd (omega arith)
fault_at number old new line text bytes written (Some s) k t h e some w = (s, k, w ∙ ap (λ (l : List ℕ). take k l) (e ∙ t ∙ append-nil (said_text s)), h)

pub says_wrote : (b n : Option (List ℕ)) (number : ℕ) (old new : Option World) (line text bytes : List ℕ) (r : Wrote) → Tells old new line text → bytes ≡ text → (written : List ℕ) × Appends b n written × Writes r bytes written
    → Wrote_out b n (writing_end_of r) number old new line
says_wrote b n number old new line text bytes wrote.All h e w = (w.0, w.1, subst (Tells old new line) (sym (w.2 ∙ e)) h)
says_wrote b n number old new line text bytes wrote.Failed h e w = (w.0, w.1, fault_at number old new line text bytes w.0 h.0 w.2.1.0 h.1 h.2 e w.2.0 w.2.1.1)
says_wrote b n number old new line text bytes wrote.NoMemory h e w = (w.0, w.1, inr (text, w.2.1.0, w.2.1.1 ∙ ap (λ (l : List ℕ). take w.2.1.0 l) e, h))

pub wrote_failed : (r : Wrote) → writing_end_of r ≡ Err status.WriteFault → r ≡ wrote.Failed
wrote_failed wrote.All e = cc
wrote_failed wrote.Failed e = refl
wrote_failed wrote.NoMemory e = cc

pub says_stopped : (b : Option (List ℕ)) (number : ℕ) (old new : Option World) (line text : List ℕ) (f : LineFault) → Steps old new line text (Err f) → Wrote_out b b (Err (stopped_by number f)) number old new line
says_stopped b number old new line text (fault.BadLine at) h = ([], Appends-nil b, (refl, refl, h.0, h.1))
says_stopped b number old new line text fault.NoMemory h = ([], Appends-nil b, inl refl)

pub stopped_not : (number : ℕ) (f : LineFault) → stopped_by number f ≡ status.WriteFault → ⊥
stopped_not number (fault.BadLine at) e = cc
stopped_not number fault.NoMemory e = cc

pub last_err : (s : Status) (n : ℕ) (old new : Option World) (line w : List ℕ) → Ends s n old new line w → SaysLast s n old new line w
last_err (status.BadScript at place) n old new line w e = e
last_err status.WriteFault n old new line w e = e
last_err status.NoMemory n old new line w e = e
last_err _ n old new line w e = absurd e
