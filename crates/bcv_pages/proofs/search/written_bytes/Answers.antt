use Rattle.std.proofs.Common.{Some, sym, ◌∙◌, ap, List, ℕ}
use Rattle.bcv_pages.proofs.Places.{written-at, written-gap}
use Rattle.bcv_pages.proofs.search.written_bytes.Goals as goal

pub returns-in-Ok : goal.returns-in-Ok
returns-in-Ok c = ap (λ (x : List ℕ). Some x) c.items.ensures ∙ sym (written-at c.args.pages.now c.args.page c.in-Ok.at c.index-pages-at.result c.in-Ok.ensures)

pub returns-in-Err : goal.returns-in-Err
returns-in-Err c = sym (written-gap c.args.pages.now c.args.page _ c.in-Err.ensures)
