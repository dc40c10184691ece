use Rattle.std.proofs.Common.{◌≡◌, ℕ, true, false, ◌==◌, List, [], ◌∷◌, ◌++◌, take, is_some, inl, inr, sym, ◌∙◌, ap, subst, arith, ne_eqb, eq-eqb}
use Rattle.std.proofs.lemmas.Bool.{cases_eq}
use Rattle.std.proofs.lemmas.List.{append-nil}
use Rattle.bcv_base.specs.Image.{written}
use Rattle.bcv_pages.specs.Index.{listed, has_room}
use Rattle.bcv_pages.proofs.Writings.{some-more, none-yet, number-at, later-number, or-false}
use Rattle.bcv_pages.proofs.page_index.PageIndex.add.Goals as goal

pub add_one-requires : goal.add_one-requires
add_one-requires c =
    let at = number-at c.args.pages.now c.loop-written.written-index c.written-item.result c.loop-written-test.true c.written-item.is in
    subst (λ (p : ℕ). has_room c.loop-written.self.lists p) at (c.loop-written.invariant.room c.loop-written.written-index (omega arith) c.loop-written-test.true)

pub loop-written-preserved : goal.loop-written-preserved
loop-written-preserved c =
    let ws = c.args.pages.now in
    let i = c.loop-written.written-index in
    let w = c.written-item.result in
    let more = λ (p : ℕ). some-more ws i w p c.loop-written-test.true c.written-item.is in
    record {
      listed = λ p. elim (cases_eq p w.0) [
        | inl same ↦
            let none : is_some (written (take i ws) p) ≡ false = ap (λ n. is_some (written (take i ws) n)) same ∙ none-yet ws i w c.requires.ascend c.loop-written-test.true c.written-item.is in
            let here : (w.0 == p) ≡ true = eq-eqb w.0 p (sym same) in
            rw (more p, none, here) (ap (listed c.add_one.new.self.lists) same ∙ c.add_one.ensures.listed ∙ ap (λ (ns : List ℕ). ns ++ c.args.number ∷ []) (ap (listed c.loop-written.self.lists) (sym same) ∙ c.loop-written.invariant.listed p ∙ rw none (append-nil _)))
        | inr other ↦
            let there : (w.0 == p) ≡ false = ne_eqb w.0 p (λ same. other (sym same)) in
            rw (more p, there, or-false) (c.add_one.ensures.others p other ∙ c.loop-written.invariant.listed p)
      ];
      room = λ k le lt.
          let past = later-number ws i k w c.requires.ascend (omega arith) lt c.written-item.is in
          c.add_one.ensures.room _ (λ same. absurd (omega arith)) (c.loop-written.invariant.room k (omega arith) lt);
    }
