-- Calls of a client as talks.
use Rattle.std.proofs.Common.{◌≡◌, ℕ, false, List, [], ◌∷◌, ◌++◌, inl, inr, refl, subst}
use Rattle.bcv_disk.specs.DiskShown.{DiskShown, DiskTold}
use Rattle.bcv_machine.specs.Step.{is_task}
use Rattle.bcv_model.specs.declared.ask.Ask.{Ask}
use Rattle.bcv_model.specs.declared.ask.Ask.TheVariants as ask
use Rattle.bcv_model.specs.declared.reply.Reply.{Reply}
use Rattle.bcv_model.specs.declared.reply.Reply.TheVariants as reply
use Rattle.bcv_store.specs.StoreShown.{StoreTold}
use Rattle.bcv_daemon.specs.Connections.{AskedOver}
use Rattle.bcv_client.specs.RangeAsks.{exchange}
use Rattle.bcv_client.specs.Talk.{Exchange, Exchanged, Point, Talks}

pub no_task : (r : Reply) → ((n left : ℕ) → r ≡ reply.Task n left → ⊥) → is_task r ≡ false
no_task (reply.Task n left) h = absurd (h n left refl)
no_task _ h = refl

module _ {D : Type 0} {g : _} (told : DiskTold) (shown : D → DiskShown) (store : StoreTold) where
  pub talks_join : (a b c : Point D g) (es more : List Exchange) → Talks told shown store a es b → Talks told shown store b more c
      → Talks told shown store a (es ++ more) c
  talks_join a b c [] more talk next = subst (λ (x : Point D g). Talks told shown store x more c) talk next
  talks_join a b c (e ∷ es) more talk next = (talk.0, talk.1, talks_join talk.0 b c es more talk.2 next)

  pub one_call : (a b : Point D g) (e : Exchange) → Exchanged told shown store a e b → Talks told shown store a (e ∷ []) b
  one_call a b e call = (b, call, refl)

  pub asked_once : (a b : Point D g) (q : Ask) (r : Reply) → Exchanged told shown store a (exchange q r) b → is_task r ≡ false
      → AskedOver told shown store a b q r
  asked_once a b q r call e = record {
    exchanges = exchange q r ∷ [];
    talk = one_call a b (exchange q r) call;
    asked = inl (e, refl);
  }

  pub asked_twice : (a mid b : Point D g) (q : Ask) (n left : ℕ) (r : Reply) → Exchanged told shown store a (exchange q (reply.Task n left)) mid
      → Exchanged told shown store mid (exchange (ask.Step n) r) b → AskedOver told shown store a b q r
  asked_twice a mid b q n left r first second = record {
    exchanges = exchange q (reply.Task n left) ∷ exchange (ask.Step n) r ∷ [];
    talk = (mid, first, one_call mid b (exchange (ask.Step n) r) second);
    asked = inr (n, left, refl);
  }
