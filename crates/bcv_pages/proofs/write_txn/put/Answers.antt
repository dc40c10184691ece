use Rattle.std.proofs.Common.{◌≡◌, ℕ, List, ◌∙◌, subst}
use Rattle.bcv_base.specs.Image.{Page}
use Rattle.bcv_pages.specs.Placed.{IsAt}
use Rattle.bcv_pages.proofs.Places.{put-at}
use Rattle.bcv_pages.proofs.write_txn.put.Goals as goal

pub returns-in-Ok-clause-ok : goal.returns-in-Ok-clause-ok
returns-in-Ok-clause-ok c =
    let bytes : c.of.result ≡ c.args.bytes.now = c.of.ensures ∙ c.in_ok-from_slice.ensures.items in
    let at = subst (λ (ws : List (ℕ × Page)). IsAt ws c.args.page c.in-Ok.at) c.deref.ensures.value c.in-Ok.ensures in
    rw bytes (put-at c.args.pages.now.items c.args.page c.in-Ok.at (c.args.page, c.args.bytes.now) at)
