use Rattle.std.proofs.Common.{sym, ◌∙◌}
use Rattle.std.specs.Prelude.{not}
use Rattle.std.proofs.lemmas.Bool.{not_from_true}
use Rattle.bcv_base.specs.Ids.{id_eq}
use Rattle.bcv_dbmap.specs.Checked.{zero_id}
use Rattle.bcv_dbmap.proofs.Marked.{marked_shut}
use Rattle.bcv_dbmap.proofs.counting.mark_if_filled.Goals as goal

pub returns-then-same_as : goal.returns-then-same_as
returns-then-same_as c =
    let id = c.args.id.now in
    marked_shut (not (id_eq id zero_id)) (id_eq id) c.args.ids.now c.args.marks.now c.requires.len (not_from_true (id_eq id zero_id) (sym c.same_as.ensures ∙ c.if-same_as.true))
