use Rattle.std.proofs.Common.{◌∙◌, Some, ap, refl, sym}
use Rattle.bcv_transaction.specs.Open.{Open}
use Rattle.bcv_transaction.proofs.FitLaws.{fetch_leaves_fit, leaves_fit_by, nothing_done}
use Rattle.bcv_transaction.proofs.transactions.Transactions.fetch.Goals as goal
use Rattle.bcv_transaction.proofs.transactions.Transactions.fetch.Goals.{in-Some, in-None}

pub returns-clause-fit : goal.returns-clause-fit
returns-clause-fit g c =
    let o = c.args.self.now in
    let old = g.S.Store.shown c.args.store.now in
    let now = g.S.Store.shown c.match-self.store in
    let m : Open = record { slots = c.match-self.self-inside.slots; cache = c.match-self.self-inside.cache; txns = c.match-self.self-inside.txns.items } in
    elim c.match-self.branch [
      | in-Some w ↦ (let n : Open = record { slots = c.self.inside.slots; cache = Some w.fetch_in.new.cache; txns = c.self.inside.txns.items } in
          leaves_fit_by g.S.Store.told old (g.S.Store.shown w.fetch_in.new.store) now o n m (ap (λ s. g.S.Store.shown s) w.store-is)
          (ap (λ i. record { slots = i.slots; cache = i.cache; txns = i.txns.items }) w.self-inside-is)
          (fetch_leaves_fit g.S.Store.told old (g.S.Store.shown w.fetch_in.new.store) c.args.id w.fetch_in.result o n w.in-Some.cache w.fetch_in.new.cache (ap (λ (x : Open). x.cache) (sym c.self.view_is) ∙ w.in-Some.is) refl
          (ap (λ (x : Open). x.txns) c.self.view_is) w.fetch_in.ensures.fetches))
      | in-None w ↦ (leaves_fit_by g.S.Store.told old old now o o m (ap (λ s. g.S.Store.shown s) w.store-is)
          (ap (λ i. record { slots = i.slots; cache = i.cache; txns = i.txns.items }) w.self-inside-is ∙ c.self.view_is) (nothing_done g.S.Store.told old o))
    ]
