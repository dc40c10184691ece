-- Talks one after the other are a talk.
use Rattle.std.proofs.Common.{List, [], ◌∷◌, ◌++◌, refl, subst}
use Rattle.bcv_disk.specs.DiskShown.{DiskShown, DiskTold}
use Rattle.bcv_store.specs.StoreShown.{StoreTold}
use Rattle.bcv_client.specs.Talk.{Exchange, Exchanged, Point, Talks}

module _ {D : Type 0} {g : _} (told : DiskTold) (shown : D → DiskShown) (store : StoreTold) where
  pub talks_join : (a b c : Point D g) (es more : List Exchange) → Talks told shown store a es b → Talks told shown store b more c
      → Talks told shown store a (es ++ more) c
  talks_join a b c [] more talk next = subst (λ (x : Point D g). Talks told shown store x more c) talk next
  talks_join a b c (e ∷ es) more talk next = (talk.0, talk.1, talks_join talk.0 b c es more talk.2 next)

  pub call_is_talk : (a b : Point D g) (e : Exchange) → Exchanged told shown store a e b → Talks told shown store a (e ∷ []) b
  call_is_talk a b e call = (b, call, refl)

  pub talk_and_call : (a b c : Point D g) (es : List Exchange) (e : Exchange) → Talks told shown store a es b → Exchanged told shown store b e c
      → Talks told shown store a (es ++ e ∷ []) c
  talk_and_call a b c es e talk call = talks_join a b c es (e ∷ []) talk (call_is_talk b c e call)
