-- The service of a connection from its begin to its end.
use Rattle.std.proofs.Common.{◌≡◌, inl, ℕ, suc, ◌+◌, List, [], ◌++◌, length, take, refl, sym, ap, subst, ◌∙◌, append-nil, arith}
use Rattle.std.proofs.Math.Seq.{take-append_seam}
use Rattle.bcv_disk.specs.DiskShown.{DiskShown, DiskTold}
use Rattle.bcv_store.specs.StoreShown.{StoreTold}
use Rattle.bcv_client.specs.Talk.{Point}
use Rattle.bcv_daemon.specs.Connections.{AreBelow, EndsAll, IsFresh, Serves, ServesUp, Turns, answers_of, messages_of}
use Rattle.bcv_talks.specs.TalkRuns.{TalksAreRuns}
use Rattle.bcv_daemon.specs.MachineRuns.{ends_exchanges, turns_exchanges}
use Rattle.bcv_daemon.specs.Served.{EndsSo, IsWithin, Served, ServedOn, ServedOne, TriesLast, tried_exchanges}
use Rattle.bcv_daemon.proofs.AnswerCauses.{disk_counts, talk_counts}
use Rattle.bcv_daemon.proofs.TalkWhole.{ends_talk, joined, tried_talk, turns_talk}
use Rattle.bcv_daemon.specs.declared.connection.Connection.{Connection}
use Rattle.bcv_daemon.specs.declared.connection.ServeEnd.{ServeEnd}
use Rattle.bcv_daemon.specs.declared.connection.ServeEnd.TheVariants as end
use Rattle.bcv_daemon.specs.declared.sessions.Session.{Session}

module _ {D : Type 0} {g : _} (told : DiskTold) (shown : D → DiskShown) (store : StoreTold) where
  -- all answers of a new connection are what was written and what is left to write
  answers_are : (a b : Point D g) (old new : Connection) (taken written left : List ℕ) → IsFresh old → (x : Serves told shown store a b old new taken written left)
      → answers_of x.turns ≡ written ++ left
  answers_are a b old new taken written left fresh x = ap (λ (l : List ℕ). l ++ answers_of x.turns) (sym fresh.pending) ∙ x.given

  whole : (a b : Point D g) (old new : Connection) (taken written : List ℕ) → IsFresh old → (x : Serves told shown store a b old new taken written [])
      → written ≡ answers_of x.turns
  whole a b old new taken written fresh x = sym (answers_are a b old new taken written [] fresh x ∙ append-nil written)

  front : (a b : Point D g) (old new : Connection) (taken written left : List ℕ) → IsFresh old → (x : Serves told shown store a b old new taken written left)
      → written ≡ take (length written) (answers_of x.turns)
  front a b old new taken written left fresh x =
      sym (ap (λ (l : List ℕ). take (length written) l) (answers_are a b old new taken written left fresh x) ∙ take-append_seam written left)

  counted : (a b : Point D g) (old new : Connection) (taken written left : List ℕ) → IsFresh old → (x : Serves told shown store a b old new taken written left)
      → new.used ≡ length (messages_of x.turns)
  counted a b old new taken written left fresh x = omega (arith, x.used, fresh.used)

  closes : (a b c d : Point D g) (old new : Connection) (taken written left : List ℕ) (AtEnd : Type 0) (e : ServeEnd) (later : List Session) → IsFresh old
      → (x : Serves told shown store a b old new taken written left) → IsWithin x.turns e → EndsSo AtEnd x.turns new.inbox written e
      → TriesLast told shown store b c new.sessions.items later new.inbox e → EndsAll told shown store c later d → TalksAreRuns told shown store a.client
      → Served told shown store a d taken written AtEnd e
  closes a b c d old new taken written left AtEnd e later fresh x within ends tried closed law =
      let answered = subst (λ (ss : List Session). Turns told shown store a ss x.turns b new.sessions.items) fresh.sessions x.answered in
      let first = turns_exchanges told shown store a [] x.turns b new.sessions.items answered in
      let next = tried_exchanges told shown store b c new.sessions.items later new.inbox e tried in
      let last = ends_exchanges told shown store c later d closed in
      let talk =
      joined told shown store first (next ++ last) a b d (turns_talk told shown store a [] x.turns b new.sessions.items answered)
      (joined told shown store next last b c d (tried_talk told shown store b c new.sessions.items later new.inbox e tried) (ends_talk told shown store c later d closed)) in
      record {
        turns = x.turns;
        rest = new.inbox;
        bytes = ap (λ (l : List ℕ). l ++ taken) (sym fresh.inbox) ∙ x.taken;
        below = subst (λ (n : ℕ). AreBelow n x.turns) fresh.used x.below;
        within = within;
        ends = ends;
        mid = b;
        sessions = new.sessions.items;
        answered = answered;
        last = c;
        left = later;
        tried = tried;
        closed = closed;
        exchanges = first ++ (next ++ last);
        asked = refl;
        talk = talk;
        machine = λ mine used moment f tells disk_tells stands honest new. law a d (first ++ (next ++ last)) talk mine used moment f refl tells disk_tells stands honest new;
        counted = talk_counts told shown store (first ++ (next ++ last)) a d talk;
        disk_counted = disk_counts told shown store (first ++ (next ++ last)) a d talk;
      }

  pub served : (a b d : Point D g) (old new : Connection) (taken written : List ℕ) (AtEnd : Type 0) (e : ServeEnd) → IsFresh old
      → ServesUp told shown store a b old new taken written AtEnd e → EndsAll told shown store b new.sessions.items d → TalksAreRuns told shown store a.client
      → Served told shown store a d taken written AtEnd e
  served a b d old new taken written AtEnd end.Closed fresh y closed law =
      let n = counted a b old new taken written [] fresh y.0 in
      closes a b b d old new taken written [] AtEnd end.Closed new.sessions.items fresh y.0 (omega (arith, n, y.1)) (whole a b old new taken written fresh y.0, y.2, y.3)
      (refl, refl) closed law
  served a b d old new taken written AtEnd end.Limit fresh y closed law =
      let n = counted a b old new taken written [] fresh y.0 in
      closes a b b d old new taken written [] AtEnd end.Limit new.sessions.items fresh y.0 tt (whole a b old new taken written fresh y.0, omega (arith, n, y.1)) (refl, refl) closed law
  served a b d old new taken written AtEnd (end.BadMessage at) fresh y closed law =
      let n = counted a b old new taken written [] fresh y.0 in
      closes a b b d old new taken written [] AtEnd (end.BadMessage at) new.sessions.items fresh y.0 (omega (arith, n, y.1))
      (whole a b old new taken written fresh y.0, y.2 ∙ n, y.3) (refl, refl) closed law
  served a b d old new taken written AtEnd end.ReadFault fresh y closed law =
      let n = counted a b old new taken written [] fresh y.0 in
      closes a b b d old new taken written [] AtEnd end.ReadFault new.sessions.items fresh y.0 (omega (arith, n, y.1)) (whole a b old new taken written fresh y.0, y.2) (refl, refl)
      closed law
  served a b d old new taken written AtEnd end.WriteFault fresh y closed law =
      closes a b b d old new taken written y.0 AtEnd end.WriteFault new.sessions.items fresh y.1 tt (length written, front a b old new taken written y.0 fresh y.1) (refl, refl) closed law
  served a b d old new taken written AtEnd end.NoMemory fresh y closed law =
      closes a y.mid b d old y.between taken written y.left AtEnd end.NoMemory new.sessions.items fresh y.serves tt
      (length written, front a y.mid old y.between taken written y.left fresh y.serves) y.tries closed law

  -- there was no memory for a connection
  pub unserved : (a : Point D g) (AtEnd : Type 0) → TalksAreRuns told shown store a.client → Served told shown store a a [] [] AtEnd end.NoMemory
  unserved a AtEnd law = record {
    turns = [];
    rest = [];
    bytes = refl;
    below = tt;
    within = tt;
    ends = (0, refl);
    mid = a;
    sessions = [];
    answered = (refl, refl);
    last = a;
    left = [];
    tried = inl (refl, refl);
    closed = refl;
    exchanges = [];
    asked = refl;
    talk = refl;
    machine = λ mine used moment f tells disk_tells stands honest new. law a a [] refl mine used moment f refl tells disk_tells stands honest new;
    counted = talk_counts told shown store [] a a refl;
    disk_counted = disk_counts told shown store [] a a refl;
  }

  -- one connection more is served
  pub on_more : (a b c : Point D g) (n : ℕ) → ServedOn told shown store a n b → ServedOne told shown store b c → ServedOn told shown store a (n + 1) c
  on_more a b c n x y =
      let one : n + 1 ≡ suc n = omega arith in
      subst (λ (k : ℕ). ServedOn told shown store a k c) (sym one) (b, x, y)
