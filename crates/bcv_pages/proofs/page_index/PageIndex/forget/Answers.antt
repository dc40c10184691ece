use Rattle.std.proofs.Common.{rules}
use Rattle.std.proofs.lemmas.Map.Keys.{IsDistinct-from_sorted}
use Rattle.bcv_pages.proofs.Retained.{found-after, room-after, among-at}
use Rattle.bcv_pages.proofs.page_index.PageIndex.forget.Goals as goal

pub returns-clause-listed : goal.returns-clause-listed
returns-clause-listed c p =
    found-after _ c.args.upto c.args.ready.now _ (λ k v b w f' call. search rules) _ _ p (IsDistinct-from_sorted _ _ c.retain.ensures.was_ordered) c.retain.ensures.filtered (c.requires p)

pub returns-clause-room : goal.returns-clause-room
returns-clause-room c k inside has = room-after _ c.args.upto c.args.ready.now _ (λ k v b w f' call. search rules) _ _ _ c.retain.ensures.filtered (among-at c.args.ready.now k inside) has
