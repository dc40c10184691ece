use Rattle.std.proofs.Common.{Some, ap, sym, ◌∙◌, List, ℕ}
use Rattle.bcv_notes.proofs.Entries.{entry_is, entry_is_not}
use Rattle.bcv_notes.proofs.parts.entry_of.Goals as goal

pub split_at-requires : goal.split_at-requires
split_at-requires c =
    let e = c.in-Ok.ensures in
    (entry_is c.args.block c.args.bytes.now c.in-Ok.entry c.in-Ok.taken e.found.2.0 e.found.0 e.found.2.1 e.exact).0

pub returns-in-Ok : goal.returns-in-Ok
returns-in-Ok c =
    let e = c.in-Ok.ensures in
    (entry_is c.args.block c.args.bytes.now c.in-Ok.entry c.in-Ok.taken e.found.2.0 e.found.0 e.found.2.1 e.exact).1
    ∙ ap (λ (r : List ℕ). Some (c.in-Ok.entry, r)) (sym c.split_at.ensures.back)

pub returns-in-Err-Bad : goal.returns-in-Err-Bad
returns-in-Err-Bad c = entry_is_not c.args.block c.args.bytes.now c.in-Err-Bad.field-0 c.in-Err-Bad.field-0-0 c.in-Err-Bad.field-0-is c.in-Err-Bad.ensures.exact
