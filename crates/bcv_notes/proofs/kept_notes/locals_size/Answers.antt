use Rattle.std.proofs.Common.{List, refl, rules, arith}
use Rattle.std.specs.List.{flat_map}
use Rattle.bcv_model.specs.declared.kept.Local.{Local}
use Rattle.bcv_notes.specs.KeptNotes.{local_notes, notes_size}
use Rattle.bcv_notes.proofs.KeptSizes.{ended, locals_more}
use Rattle.bcv_notes.proofs.kept_notes.locals_size.Goals as goal

pub loop-local-preserved : goal.loop-local-preserved
loop-local-preserved c =
    let more = locals_more c.loop-local.rest.now c.in-Some.local.now c.in-Some.after.now (search rules) in
    (omega (arith, c.saturating_add-size.ensures), omega (arith, more, c.loop-local.invariant.1, c.local_size.ensures, c.saturating_add-size.ensures))

pub returns : goal.returns
returns c =
    ended (λ (ls : List Local). notes_size (flat_map local_notes ls)) c.loop-local.rest.now c.loop-local.size (notes_size (flat_map local_notes c.args.locals.now)) refl c.in_default.ensures.cases c.loop-local.invariant.0 c.loop-local.invariant.1
