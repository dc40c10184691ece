use Rattle.std.proofs.Common.{◌≡◌, List, ap, arith}
use Rattle.std.specs.List.{flat_map}
use Rattle.bcv_model.specs.declared.kept.Local.{Local}
use Rattle.bcv_notes.specs.KeptNotes.{local_notes, notes_size}
use Rattle.bcv_notes.proofs.KeptSizes.{kept_parts}
use Rattle.bcv_notes.proofs.kept_notes.kept_items.Goals as goal

pub push_locals-requires : goal.push_locals-requires
push_locals-requires c =
    let same : notes_size (flat_map local_notes c.items.result.now) ≡ notes_size (flat_map local_notes c.args.kept.now.locals) = ap (λ (ls : List Local). notes_size (flat_map local_notes ls)) c.items.ensures in
    omega (arith, kept_parts c.args.kept.now, same, c.requires)
