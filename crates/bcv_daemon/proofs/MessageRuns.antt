-- Messages answered one after the other, their answers written, and the end of a connection.
use Rattle.std.proofs.Common.{◌≡◌, ◌⊎◌, inl, inr, ℕ, ◌+◌, ◌<◌, ◌^◌, List, [], ◌∷◌, ◌++◌, length, take, drop, Result, Ok, Err, refl, sym, ap, subst, ◌∙◌, append_assoc, append-nil, length-append, take-append-drop, arith}
use Rattle.std.proofs.lemmas.Grind.{flat_map-append}
use Rattle.bcv_disk.specs.DiskShown.{DiskShown, DiskTold}
use Rattle.bcv_store.specs.StoreShown.{StoreTold}
use Rattle.bcv_client.specs.Talk.{Point}
use Rattle.bcv_proto.specs.Messages.{IsCut, Reads}
use Rattle.bcv_proto.specs.declared.message.Message.{Message}
use Rattle.bcv_proto.specs.declared.message.Parsed.{Parsed}
use Rattle.bcv_proto.specs.declared.message.Parsed.TheVariants as parsed
use Rattle.bcv_daemon.specs.Connections.{AnswersAll, AreBelow, IsNoFront, Nexts, OnlyPending, Serves, ServesUp, Stops, Tries, Turn, Turns, WritesLast, WritesPending, answers_of, ended, messages_of, turn_answer, turn_message}
use Rattle.bcv_daemon.specs.declared.connection.Connection.{Connection}
use Rattle.bcv_daemon.specs.declared.connection.Next.TheVariants as next
use Rattle.bcv_daemon.specs.declared.connection.ServeEnd.{ServeEnd}
use Rattle.bcv_daemon.specs.declared.connection.ServeEnd.TheVariants as end
use Rattle.bcv_daemon.specs.declared.sessions.Session.{Session}

-- ---- lists of messages

below_join : (used : ℕ) (ts us : List Turn) → AreBelow used ts → AreBelow (used + length (messages_of ts)) us → AreBelow used (ts ++ us)
below_join used [] us x y =
    let e : used + length {A = ℕ} [] ≡ used = omega arith in
    subst (λ (n : ℕ). AreBelow n us) e y
below_join used (t ∷ ts) us x y =
    let e : used + length (messages_of (t ∷ ts)) ≡ (used + length (turn_message t)) + length (messages_of ts) = omega (arith, length-append (turn_message t) (messages_of ts)) in
    (x.0, below_join (used + length (turn_message t)) ts us x.1 (subst (λ (n : ℕ). AreBelow n us) e y))

taken_more : (old came first mid second new : List ℕ) → old ++ came ≡ first ++ mid → mid ++ [] ≡ second ++ new → old ++ came ≡ (first ++ second) ++ new
taken_more old came first mid second new e f =
    e ∙ (ap (λ (l : List ℕ). first ++ l) (sym (append-nil mid) ∙ f) ∙ sym (append_assoc first second new))

given_more : (old first w mid second v left : List ℕ) → old ++ first ≡ w ++ mid → mid ++ second ≡ v ++ left → old ++ (first ++ second) ≡ (w ++ v) ++ left
given_more old first w mid second v left e f =
    sym (append_assoc old first second) ∙ (ap (λ (l : List ℕ). l ++ second) e ∙ (append_assoc w mid second ∙ (ap (λ (l : List ℕ). w ++ l) f ∙ sym (append_assoc w v left))))

abbrev end_of : Result (Unit {0}) ServeEnd → ServeEnd
end_of (Ok done) = end.Closed
end_of (Err e) = e

-- an end is that of its error
pub one_end : (e d : ServeEnd) → (let r : Result (Unit {0}) ServeEnd = Err e in r) ≡ Err d → e ≡ d
one_end e d h = ap end_of h

abbrev is_bad : Parsed → Type 0
is_bad parsed.Bad = Unit {0}
is_bad _ = ⊥

whole_is_fine : (m : Message) (n : ℕ) → parsed.Bad ≡ parsed.Whole m n → ⊥
whole_is_fine m n e = subst is_bad e tt

short_is_fine : parsed.Bad ≡ parsed.Short → ⊥
short_is_fine e = subst is_bad e tt

pub no_front : (bytes input : List ℕ) (found : Parsed) → Reads input found → found ≡ parsed.Bad → input ≡ bytes → IsNoFront bytes
no_front bytes input found r e f =
    let reads : Reads bytes parsed.Bad = subst (λ (l : List ℕ). Reads l parsed.Bad) f (subst (λ (p : Parsed). Reads input p) e r) in
    record { none = λ m n b. whole_is_fine m n ((reads.whole m n).1 b); uncut = λ c. short_is_fine (reads.short.1 c) }

pub is_cut : (bytes input : List ℕ) (found : Parsed) → Reads input found → found ≡ parsed.Short → input ≡ bytes → IsCut bytes
is_cut bytes input found r e f = subst (λ (l : List ℕ). IsCut l) f (r.short.0 e)

not_empty : (x : ℕ) (xs : List ℕ) → ((x ∷ xs) ≡ []) → ⊥
not_empty x xs e = omega (arith, ap length e)

module _ {D : Type 0} {g : _} (told : DiskTold) (shown : D → DiskShown) (store : StoreTold) where
  turns_join : (a mid b : Point D g) (ss between later : List Session) (ts us : List Turn) → Turns told shown store a ss ts mid between
      → Turns told shown store mid between us b later → Turns told shown store a ss (ts ++ us) b later
  turns_join a mid b ss between later [] us x y =
      subst (λ (p : Point D g). Turns told shown store p ss us b later) x.0 (subst (λ (s : List Session). Turns told shown store mid s us b later) x.1 y)
  turns_join a mid b ss between later (t ∷ ts) us x y = (x.0, x.1, x.2, x.3, turns_join x.0 mid b x.1 between later ts us x.4 y)

  -- ---- a connection that goes on

  pub serves_none : (a : Point D g) (c : Connection) → c.pending.items ≡ [] → Serves told shown store a a c c [] [] []
  serves_none a c e = record {
    turns = [];
    answered = (refl, refl);
    taken = append-nil c.inbox;
    used = omega arith;
    below = tt;
    given = append-nil c.pending.items ∙ e;
  }

  pub serves_begin : (a : Point D g) (c : Connection) → Serves told shown store a a c c [] [] c.pending.items
  serves_begin a c = record {
    turns = [];
    answered = (refl, refl);
    taken = append-nil c.inbox;
    used = omega arith;
    below = tt;
    given = append-nil c.pending.items;
  }

  pub serves_more : (a b c : Point D g) (old mid new : Connection) (came w p v left : List ℕ) → Serves told shown store a b old mid came w p
      → mid.pending.items ≡ p → Serves told shown store b c mid new [] v left → Serves told shown store a c old new came (w ++ v) left
  serves_more a b c old mid new came w p v left x e y = record {
    turns = x.turns ++ y.turns;
    answered = turns_join a b c old.sessions.items mid.sessions.items new.sessions.items x.turns y.turns x.answered y.answered;
    taken = taken_more old.inbox came (messages_of x.turns) mid.inbox (messages_of y.turns) new.inbox x.taken y.taken
        ∙ ap (λ (l : List ℕ). l ++ new.inbox) (sym (flat_map-append turn_message x.turns y.turns));
    used = omega (arith, x.used, y.used, ap length (flat_map-append turn_message x.turns y.turns), length-append (messages_of x.turns) (messages_of y.turns));
    below = below_join old.used x.turns y.turns x.below (subst (λ (n : ℕ). AreBelow n y.turns) x.used y.below);
    given = ap (λ (l : List ℕ). old.pending.items ++ l) (flat_map-append turn_answer x.turns y.turns)
        ∙ given_more old.pending.items (answers_of x.turns) w p (answers_of y.turns) v left x.given
        (ap (λ (l : List ℕ). l ++ answers_of y.turns) (sym e) ∙ y.given);
  }

  pub serves_wrote : (a b : Point D g) (old mid new : Connection) (came w p v left : List ℕ) → Serves told shown store a b old mid came w p
      → OnlyPending mid new → v ++ left ≡ p → Serves told shown store a b old new came (w ++ v) left
  serves_wrote a b old mid new came w p v left x only e = record {
    turns = x.turns;
    answered = subst (λ (s : List Session). Turns told shown store a old.sessions.items x.turns b s) (sym only.sessions) x.answered;
    taken = x.taken ∙ ap (λ (l : List ℕ). messages_of x.turns ++ l) (sym only.inbox);
    used = only.used ∙ x.used;
    below = x.below;
    given = x.given ∙ (ap (λ (l : List ℕ). w ++ l) (sym e) ∙ sym (append_assoc w v left));
  }

  pub serves_as : (a b : Point D g) (old mid new : Connection) (came w p : List ℕ) → Serves told shown store a b old mid came w p
      → OnlyPending mid new → Serves told shown store a b old new came w p
  serves_as a b old mid new came w p x only =
      subst (λ (l : List ℕ). Serves told shown store a b old new came l p) (append-nil w) (serves_wrote a b old mid new came w p [] p x only refl)

  pub serves_came : (a b : Point D g) (old mid new : Connection) (came w p more : List ℕ) → Serves told shown store a b old mid came w p
      → new.inbox ≡ mid.inbox ++ more → new.sessions.items ≡ mid.sessions.items → new.used ≡ mid.used
      → Serves told shown store a b old new (came ++ more) w p
  serves_came a b old mid new came w p more x inbox sessions used = record {
    turns = x.turns;
    answered = subst (λ (s : List Session). Turns told shown store a old.sessions.items x.turns b s) (sym sessions) x.answered;
    taken = sym (append_assoc old.inbox came more) ∙ (ap (λ (l : List ℕ). l ++ more) x.taken
        ∙ (append_assoc (messages_of x.turns) mid.inbox more ∙ ap (λ (l : List ℕ). messages_of x.turns ++ l) (sym inbox)));
    used = used ∙ x.used;
    below = x.below;
    given = x.given;
  }

  -- ---- a connection that stops

  stops_front : (a b : Point D g) (old mid new : Connection) (came w p v : List ℕ) (k : ℕ) → Serves told shown store a b old mid came w p
      → OnlyPending mid new → v ≡ take k p → Serves told shown store a b old new came (w ++ v) (drop k p)
  stops_front a b old mid new came w p v k x only e =
      serves_wrote a b old mid new came w p v (drop k p) x only (ap (λ (l : List ℕ). l ++ drop k p) e ∙ take-append-drop k p)

  stops_whole : (a b : Point D g) (old mid new : Connection) (came w p v : List ℕ) → Serves told shown store a b old mid came w p → OnlyPending mid new
      → v ≡ p → Serves told shown store a b old new came (w ++ v) []
  stops_whole a b old mid new came w p v x only e = serves_wrote a b old mid new came w p v [] x only (append-nil v ∙ e)

  -- the sink took a front of what was pending
  pub stops_short : (a b : Point D g) (old mid new : Connection) (came w p v : List ℕ) (k : ℕ) (e : ServeEnd) → Serves told shown store a b old mid came w p
      → OnlyPending mid new → v ≡ take k p → (e ≡ end.WriteFault) ⊎ (e ≡ end.NoMemory) → Stops told shown store a b old new came (w ++ v) e
  stops_short a b old mid new came w p v k e x only f (inl h) =
      subst (λ (d : ServeEnd). Stops told shown store a b old new came (w ++ v) d) (sym h) (drop k p, stops_front a b old mid new came w p v k x only f)
  stops_short a b old mid new came w p v k e x only f (inr h) =
      subst (λ (d : ServeEnd). Stops told shown store a b old new came (w ++ v) d) (sym h)
      (record { mid = b; between = new; left = drop k p; serves = stops_front a b old mid new came w p v k x only f; tries = inl (refl, refl) })

  -- the pending answers were to be written
  pub stops_pending : (a b : Point D g) (old mid new : Connection) (came w p q v : List ℕ) (e : ServeEnd) → Serves told shown store a b old mid came w p
      → OnlyPending mid new → WritesPending (Err e) p q v → Stops told shown store a b old new came (w ++ v) e
  stops_pending a b old mid new came w p q v end.WriteFault x only h = stops_short a b old mid new came w p v h.0 end.WriteFault x only h.1 (inl refl)
  stops_pending a b old mid new came w p q v end.NoMemory x only h = stops_short a b old mid new came w p v h.0 end.NoMemory x only h.1 (inr refl)
  stops_pending a b old mid new came w p q v _ x only h = absurd h

  -- nothing more is there for now
  waits_so : (a c : Point D g) (old mid new : Connection) (w v : List ℕ) (r : Result (Unit {0}) ServeEnd)
      → Serves told shown store a c old mid [] w mid.pending.items → OnlyPending mid new
      → WritesPending r mid.pending.items new.pending.items v → (r ≡ Ok tt → new.pending.items ≡ []) → new.used < 2 ^ 63 → IsCut new.inbox
      → AnswersAll told shown store a c old new (w ++ v) r
  waits_so a c old mid new w v (Ok done) here only wrote all below cut =
      let none : new.pending.items ≡ [] = all refl in
      (serves_wrote a c old mid new [] w mid.pending.items v [] here only (ap (λ (l : List ℕ). v ++ l) (sym none) ∙ wrote), none, below, cut)
  waits_so a c old mid new w v (Err e) here only wrote all below cut =
      stops_pending a c old mid new [] w mid.pending.items new.pending.items v e here only wrote

  -- what was answered up to a connection that stays
  stays : (a b c : Point D g) (old mid new : Connection) (w : List ℕ) → Serves told shown store a b old mid [] w mid.pending.items → c ≡ b → new ≡ mid
      → Serves told shown store a c old new [] w new.pending.items
  stays a b c old mid new w x e f =
      subst (λ (q : Point D g). Serves told shown store a q old new [] w new.pending.items) (sym e)
      (subst (λ (k : Connection). Serves told shown store a b old k [] w k.pending.items) (sym f) x)

  pub waits : (a b c : Point D g) (old mid more new : Connection) (w v : List ℕ) (r : Result (Unit {0}) ServeEnd)
      → Serves told shown store a b old mid [] w mid.pending.items → Nexts told shown store b c mid more next.Waits → OnlyPending more new
      → WritesPending r more.pending.items new.pending.items v → (r ≡ Ok tt → new.pending.items ≡ []) → AnswersAll told shown store a c old new (w ++ v) r
  waits a b c old mid more new w v r x y only wrote all =
      waits_so a c old more new w v r (stays a b c old mid more w x y.0.0 y.0.1) only wrote all
      (omega (arith, only.used, ap (λ (k : Connection). k.used) y.0.1, y.1))
      (subst (λ (l : List ℕ). IsCut l) (sym (only.inbox ∙ ap (λ (k : Connection). k.inbox) y.0.1)) y.2)

  -- ---- a connection that ends

  -- the pending answers are written, or the sink fails or has no memory
  ends_wrote : (a b : Point D g) (old mid new : Connection) (w p v : List ℕ) (wanted e : ServeEnd) → Serves told shown store a b old mid [] w p
      → OnlyPending mid new
      → ((e ≡ wanted) × (v ≡ p)) ⊎ (((e ≡ end.WriteFault) ⊎ (e ≡ end.NoMemory)) × ((k : ℕ) × (v ≡ take k p)))
      → (Serves told shown store a b old new [] (w ++ v) [] → Stops told shown store a b old new [] (w ++ v) wanted)
      → Stops told shown store a b old new [] (w ++ v) e
  ends_wrote a b old mid new w p v wanted e x only (inl h) whole =
      subst (λ (d : ServeEnd). Stops told shown store a b old new [] (w ++ v) d) (sym h.0) (whole (stops_whole a b old mid new [] w p v x only h.1))
  ends_wrote a b old mid new w p v wanted e x only (inr h) whole = stops_short a b old mid new [] w p v h.1.0 e x only h.1.1 h.0

  pub stops_last : (a b c : Point D g) (old mid more new : Connection) (w v : List ℕ) (wanted e : ServeEnd)
      → Serves told shown store a b old mid [] w mid.pending.items → Nexts told shown store b c mid more (next.Ends wanted) → OnlyPending more new
      → WritesLast wanted e more.pending.items v → Stops told shown store a c old new [] (w ++ v) e
  stops_last a b c old mid more new w v end.Limit e x y only wrote =
      ends_wrote a c old more new w more.pending.items v end.Limit e (stays a b c old mid more w x y.0.0 y.0.1) only wrote
      (λ s. (s, omega (arith, only.used, ap (λ (k : Connection). k.used) y.0.1, y.1)))
  stops_last a b c old mid more new w v (end.BadMessage at) e x y only wrote =
      ends_wrote a c old more new w more.pending.items v (end.BadMessage at) e (stays a b c old mid more w x y.0.0 y.0.1) only wrote
      (λ s. (
        s,
        omega (arith, only.used, ap (λ (k : Connection). k.used) y.0.1, y.1),
        y.2 ∙ sym (only.used ∙ ap (λ (k : Connection). k.used) y.0.1),
        subst (λ (l : List ℕ). IsNoFront l) (sym (only.inbox ∙ ap (λ (k : Connection). k.inbox) y.0.1)) y.3,
      ))
  stops_last a b c old mid more new w v end.NoMemory e x y only wrote =
      subst (λ (d : ServeEnd). Stops told shown store a c old new [] (w ++ v) d) (sym wrote.0)
      (record {
        mid = b;
        between = mid;
        left = mid.pending.items;
        serves = serves_wrote a b old mid mid [] w mid.pending.items v mid.pending.items x (record { inbox = refl; sessions = refl; used = refl })
            (ap (λ (l : List ℕ). l ++ mid.pending.items) wrote.1);
        tries = inr (subst (λ (s : List Session). Tries told shown store b c mid.sessions.items s mid.inbox) (sym only.sessions) y);
      })
  stops_last a b c old mid more new w v _ e x y only wrote = absurd y

  -- the sink failed where the connection ends for that
  pub last_cause : (b c : Point D g) (mid more : Connection) (wanted : ServeEnd) (R : Type 0) → Nexts told shown store b c mid more (next.Ends wanted)
      → (wanted ≡ end.WriteFault) ⊎ R → R
  last_cause b c mid more wanted R y (inl e) = absurd (subst (λ (d : ServeEnd). Nexts told shown store b c mid more (next.Ends d)) e y)
  last_cause b c mid more wanted R y (inr r) = r

  -- ---- the whole

  -- what stopped a connection after what was served before
  pub stops_join : (a b c : Point D g) (old mid new : Connection) (came w p v : List ℕ) (e : ServeEnd) → Serves told shown store a b old mid came w p
      → mid.pending.items ≡ p → Stops told shown store b c mid new [] v e → Stops told shown store a c old new came (w ++ v) e
  stops_join a b c old mid new came w p v end.Limit x same y = (serves_more a b c old mid new came w p v [] x same y.0, y.1)
  stops_join a b c old mid new came w p v (end.BadMessage at) x same y = (serves_more a b c old mid new came w p v [] x same y.0, y.1, y.2, y.3)
  stops_join a b c old mid new came w p v end.WriteFault x same y = (y.0, serves_more a b c old mid new came w p v y.0 x same y.1)
  stops_join a b c old mid new came w p v end.NoMemory x same y =
      record {
        mid = y.mid;
        between = y.between;
        left = y.left;
        serves = serves_more a b y.mid old mid y.between came w p v y.left x same y.serves;
        tries = y.tries;
      }
  stops_join a b c old mid new came w p v _ x same y = absurd y

  pub stops_up : (a b : Point D g) (old new : Connection) (came w : List ℕ) (AtEnd : Type 0) (e : ServeEnd) → Stops told shown store a b old new came w e
      → ServesUp told shown store a b old new came w AtEnd e
  stops_up a b old new came w AtEnd end.Limit y = y
  stops_up a b old new came w AtEnd (end.BadMessage at) y = (y.0, y.1, y.2, inl y.3)
  stops_up a b old new came w AtEnd end.WriteFault y = y
  stops_up a b old new came w AtEnd end.NoMemory y = y
  stops_up a b old new came w AtEnd _ y = absurd y

  -- the input has ended
  ends_input : (a b : Point D g) (old new : Connection) (came w : List ℕ) (AtEnd : Type 0) (bytes : List ℕ) (used : ℕ)
      → Serves told shown store a b old new came w [] → new.used < 2 ^ 63 → AtEnd → IsCut new.inbox → bytes ≡ new.inbox → used ≡ new.used
      → ServesUp told shown store a b old new came w AtEnd (ended bytes used)
  ends_input a b old new came w AtEnd [] used x below at cut e f = (x, below, at, sym e)
  ends_input a b old new came w AtEnd (y ∷ ys) used x below at cut e f = (x, below, f, inr (at, (λ n. not_empty y ys (e ∙ n)), cut))

  pub ends_with_input : (a b : Point D g) (old mid new : Connection) (came w : List ℕ) (AtEnd : Type 0) (e : ServeEnd)
      → Serves told shown store a b old mid came w [] → OnlyPending mid new → mid.used < 2 ^ 63 → AtEnd → IsCut mid.inbox → e ≡ ended new.inbox new.used
      → ServesUp told shown store a b old new came w AtEnd e
  ends_with_input a b old mid new came w AtEnd e x only below at cut is =
      subst (λ (d : ServeEnd). ServesUp told shown store a b old new came w AtEnd d) (sym is)
      (ends_input a b old new came w AtEnd new.inbox new.used (serves_as a b old mid new came w [] x only) (omega (arith, only.used, below)) at
      (subst (λ (l : List ℕ). IsCut l) (sym only.inbox) cut) refl refl)

  -- bytes that are answered and bytes that are left are as many as before
  pub counts_same : (a b : Point D g) (old new : Connection) (w left : List ℕ) → Serves told shown store a b old new [] w left
      → old.used + length old.inbox ≡ new.used + length new.inbox
  counts_same a b old new w left x =
      omega (arith, x.used, ap length x.taken, length-append (messages_of x.turns) new.inbox, ap length (append-nil old.inbox))
