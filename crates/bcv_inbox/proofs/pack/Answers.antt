use Rattle.std.proofs.Common.{take, ap, ◌∙◌, ◌-◌}
use Rattle.bcv_inbox.proofs.Packed.{moved_to_front}
use Rattle.bcv_inbox.proofs.pack.Goals as goal

pub returns-clause-front : goal.returns-clause-front
returns-clause-front c = ap (λ l. take (c.args.to - c.args.from) l) c.copy_within.ensures.items ∙ moved_to_front c.args.room.now.items c.args.from c.args.to c.requires.within.0 c.requires.within.1
