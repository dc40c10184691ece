use Rattle.std.proofs.Common.{ℕ, rules}
use Rattle.std.proofs.lemmas.List.Sorted.{answers_always}
use Rattle.bcv_base.specs.Image.{Page}
use Rattle.bcv_pages.proofs.Places.{searched}
use Rattle.bcv_pages.proofs.search.place.Goals as goal

-- the closure gives a page's number
pub returns : goal.returns
returns c =
    let facts = c.binary_search_by_key.ensures in
    let by_number = facts.position (λ (w : ℕ × Page). w.0) (answers_always _ _ _ (λ f a r g called. search rules)) in
    searched _ c.requires c.args.page _ facts.bound by_number
