use Rattle.std.proofs.Common.{ap, ◌∙◌}
use Rattle.lru.specs.LruCache.{lru_cache}
use Rattle.bcv_cache.proofs.Places.{put_entries-absent}
use Rattle.bcv_cache.proofs.fill.put_first.Goals as goal

pub returns-in-Ok-clause-ok : goal.returns-in-Ok-clause-ok
returns-in-Ok-clause-ok c = c.in-Ok.ensures.entries ∙ ap (λ es. lru_cache es c.args.places.now.cap) (put_entries-absent c.args.id c.args.slot c.args.places.now.entries c.args.places.now.cap c.requires.absent c.requires.spare)
