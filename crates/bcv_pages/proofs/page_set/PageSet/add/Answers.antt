use Rattle.std.proofs.Common.{◌≡◌, ℕ, ◌+◌, ◌++◌, ◌∷◌, [], List, length, Option, Some, IfSome, is_some, option_map, true, sym, ◌∙◌, ap, subst, arith}
use Rattle.std.specs.Global.{Vec}
use Rattle.std.proofs.lemmas.Bool.{and_parts}
use Rattle.std.proofs.lemmas.List.{length-map}
use Rattle.bcv_base.specs.Views.{is_commit, ascends, have_size}
use Rattle.bcv_model.specs.declared.ask.Commit.{Commit}
use Rattle.bcv_model.specs.Commits.{writes_of}
use Rattle.bcv_pages.specs.Held.{Held, numbers_of}
use Rattle.bcv_pages.specs.Indexed.{IsReady}
use Rattle.bcv_pages.specs.Minima.{Minima}
use Rattle.bcv_pages.proofs.Places.{IsAscending-from_ascends}
use Rattle.bcv_pages.proofs.Sets.{well-push, sizes-push, pages-push}
use Rattle.bcv_pages.proofs.page_set.PageSet.add.Goals as goal

pub add-requires-clause-ascend : goal.add-requires-clause-ascend
add-requires-clause-ascend c =
    let pages = c.args.commit.pages in
    let up : ascends 0 c.args.commit.size pages ≡ true = (and_parts (ascends 0 c.args.commit.size pages) (have_size c.args.self.now.page_size pages) c.requires.commit).0 in
    rw c.items.ensures (IsAscending-from_ascends 0 c.args.commit.size pages up)

pub add-requires-clause-room : goal.add-requires-clause-room
add-requires-clause-room c =
    let numbers : List ℕ = numbers_of (writes_of c.args.commit) in
    let is : option_map (λ (v : Vec ℕ). v.items) c.self.inside.ready ≡ Some numbers = ap (λ (h : Held). h.ready) c.self.view_is ∙ c.requires.ready in
    let ready = subst (λ (o : Option (List ℕ)). IfSome o (IsReady c.self.inside.index.lists c.self.inside.minima.ready)) is c.self.invariant.1.ready in
    λ k lt. rw c.items.ensures (ready.room k (omega (arith, length-map c.args.commit.pages (λ w. w.0), ap length c.items.ensures)))

pub invariant_of-self-2 : goal.invariant_of-self-2
invariant_of-self-2 c =
    let items : List Commit = c.self.inside.commits.items in
    let numbers : List ℕ = numbers_of (writes_of c.args.commit) in
    let is : option_map (λ (v : Vec ℕ). v.items) c.self.inside.ready ≡ Some numbers = ap (λ (h : Held). h.ready) c.self.view_is ∙ c.requires.ready in
    let next = c.self.invariant.0.next (ap is_some is) in
    let one = subst (λ n. is_commit n (writes_of c.args.commit) ≡ true) (sym (ap (λ (h : Held). h.page_size) c.self.view_is)) c.requires.commit in (
      record {
        well = rw c.in-Ok.ensures.items (well-push c.self.inside.page_size items c.args.commit c.self.invariant.0.well one);
        fits = omega (arith, c.in-Ok.ensures.len, next);
        room = λ ready. (cc);
        next = λ ready. (cc);
      },
      record {
        pages = λ p. rw c.in-Ok.ensures.items (rw (c.items.ensures, c.self.invariant.1.pages p) at (c.add.ensures p) ∙ sym (pages-push c.self.inside.forgotten items c.args.commit p (c.last-number.result + 1) (omega (arith, c.last-number.ensures))));
        least = rw c.in-Ok.ensures.items (ap (λ (m : Minima). m.sizes) c.push.ensures ∙ ap (λ (ns : List ℕ). ns ++ c.args.commit.size ∷ []) c.self.invariant.1.least ∙ sym (sizes-push items c.args.commit));
        ready = tt;
      },
    )
