use Rattle.std.proofs.Common.{rules, ◌∙◌, not, ap}
use Rattle.std.specs.Str.{bytes_eq}
use Rattle.bcv_base.specs.Keyed.{without_keyed}
use Rattle.std.proofs.lemmas.Fn.{filter_same}
use Rattle.bcv_model.specs.declared.kept.Local.{Local}
use Rattle.bcv_model.specs.Notes.{kept_name}
use Rattle.bcv_notes.proofs.Placing.{without_is}
use Rattle.bcv_notes.proofs.folding.without_local.Goals as goal

pub returns : goal.returns
returns c =
    c.of.ensures
    ∙ filter_same _ (λ (l : Local). not (bytes_eq (kept_name l) c.args.db.now)) _ (λ x r f' k. search rules) _ _ c.retain.ensures.filtered
    ∙ without_is c.args.db.now c.into_vec-locals.result.items
    ∙ ap (without_keyed kept_name c.args.db.now) c.into_vec-locals.ensures
