-- One session more that is ended.
use Rattle.std.proofs.Common.{◌≡◌, ℕ, suc, ◌+◌, ◌<◌, List, [], ◌∷◌, ◌++◌, length, take, get_or, refl, subst, sym, ap, ◌∙◌, arith}
use Rattle.std.proofs.Math.Seq.{take-suc}
use Rattle.bcv_disk.specs.DiskShown.{DiskShown, DiskTold}
use Rattle.bcv_model.specs.declared.ask.Ask.TheVariants as ask
use Rattle.bcv_model.specs.declared.reply.Reply.{Reply}
use Rattle.bcv_store.specs.StoreShown.{StoreTold}
use Rattle.bcv_daemon.specs.Connections.{EndsAll}
use Rattle.bcv_client.specs.RangeAsks.{exchange}
use Rattle.bcv_client.specs.Talk.{Exchanged, Point}
use Rattle.bcv_daemon.specs.declared.sessions.Session.{Session}

module _ {D : Type 0} {g : _} (told : DiskTold) (shown : D → DiskShown) (store : StoreTold) where
  pub ends_more : (a b c : Point D g) (ss : List Session) (s : Session) (r : Reply) → EndsAll told shown store a ss b
      → Exchanged told shown store b (exchange (ask.End s.txn) r) c → EndsAll told shown store a (ss ++ s ∷ []) c
  ends_more a b c [] s r ends call = (c, r, subst (λ (x : Point D g). Exchanged told shown store x (exchange (ask.End s.txn) r) c) ends call, refl)
  ends_more a b c (t ∷ ts) s r ends call = (ends.0, ends.1, ends.2, ends_more ends.0 b c ts s r ends.3 call)

  pub ends_at : (a b c : Point D g) (ss : List Session) (i : ℕ) (d : Session) (r : Reply) → i < length ss → EndsAll told shown store a (take i ss) b
      → Exchanged told shown store b (exchange (ask.End (get_or ss i d).txn) r) c → EndsAll told shown store a (take (i + 1) ss) c
  ends_at a b c ss i d r h ends call =
      let one : i + 1 ≡ suc i = omega arith in
      subst (λ (l : List Session). EndsAll told shown store a l c) (sym (ap (λ (n : ℕ). take n ss) one ∙ take-suc ss i d h)) (ends_more a b c (take i ss) (get_or ss i d) r ends call)
