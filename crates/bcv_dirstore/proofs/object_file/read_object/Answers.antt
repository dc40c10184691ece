use Rattle.std.proofs.Common.{rules, ◌∙◌, refl, ap, arith}
use Rattle.std.proofs.lemmas.Bool.{le-ltb}
use Rattle.std.proofs.lemmas.List.{length-drop}
use Rattle.bcv_dirstore.specs.ObjectFile.{object_in, object_at, is_torn}
use Rattle.bcv_dirstore.proofs.object_file.read_object.Goals as goal

pub returns-then-len-most-clause-gets : goal.returns-then-len-most-clause-gets
returns-then-len-most-clause-gets g c = λ told.
    let first = c.in-Whole.ensures.fronts.is told in
    record {
      whole = ap is_torn first.1 ∙ le-ltb _ 8 (omega (arith, first.3));
      answers = (refl, search rules, omega (arith, c.if-len-most.true), (object_in first.0, ap object_at first.1, omega (arith, length-drop 8 first.0, first.3)));
    }
