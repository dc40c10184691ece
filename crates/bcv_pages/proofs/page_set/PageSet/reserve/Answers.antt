use Rattle.std.proofs.Common.{◌≡◌, ◌+◌, List, map, length, ◌∙◌, ap, arith}
use Rattle.std.proofs.lemmas.List.{length-map}
use Rattle.bcv_base.specs.Image.{Writes}
use Rattle.bcv_model.specs.Commits.{writes_of}
use Rattle.bcv_pages.specs.Held.{last_of}
use Rattle.bcv_pages.specs.Minima.{Minima}
use Rattle.bcv_pages.proofs.page_set.PageSet.reserve.Goals as goal

pub invariant_of-self-2 : goal.invariant_of-self-2
invariant_of-self-2 c =
    let kept : List Writes = map writes_of c.self.inside.commits.items in
    let last : c.self.inside.forgotten + length kept ≡ last_of c.args.self.now = ap last_of c.self.view_is in
    let many : length kept ≡ length c.self.inside.commits.items = length-map c.self.inside.commits.items writes_of in (
      record {
        well = rw c.in_ok-reserve.ensures.items c.self.invariant.0.well;
        fits = omega (arith, c.in_ok-reserve.ensures.len, c.self.invariant.0.fits);
        room = λ ready. omega (arith, c.in_ok-reserve.ensures.ok);
        next = λ ready. omega (arith, c.in_ok-reserve.ensures.len, c.requires.last, c.self.inside.commits.ok);
      },
      record {
        pages = λ p. rw c.in_ok-reserve.ensures.items (c.in_ok-reserve-3.ensures.same p ∙ c.self.invariant.1.pages p);
        least = rw c.in_ok-reserve.ensures.items (ap (λ (m : Minima). m.sizes) c.in_ok-reserve-2.ensures ∙ c.self.invariant.1.least);
        ready = record {
          minimum = ap (λ (m : Minima). m.ready) c.in_ok-reserve-2.ensures;
          room = rw c.as_slice.ensures.value at c.in_ok-reserve-3.ensures.room;
        };
      },
    )
