use Rattle.std.proofs.Common.{rules}
use Rattle.bcv_notes.specs.KeptBy.{items_of}
use Rattle.bcv_notes.proofs.KeptSizes.{few_first, first_step}
use Rattle.bcv_notes.proofs.kept_notes.push_local.Goals as goal

pub first_note-requires : goal.first_note-requires
first_note-requires c = few_first c.args.local.now c.in-Some.first.now c.in-Some.after.now (search rules) c.requires

pub returns-in_ok-push_committed-in-Some : goal.returns-in_ok-push_committed-in-Some
returns-in_ok-push_committed-in-Some c =
    first_step c.args.items.now.items c.push.new.self.items c.in_ok-first_note-in-Some.field-0 (items_of c.push_committed.new.items.items) c.args.local.now c.in-Some.first.now c.in-Some.after.now (search rules) (search rules) (search rules) (search rules)
