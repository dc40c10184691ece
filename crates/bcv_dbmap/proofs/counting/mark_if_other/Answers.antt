use Rattle.std.proofs.Common.{sym, ◌∙◌}
use Rattle.std.specs.Prelude.{not}
use Rattle.std.specs.Str.{bytes_eq}
use Rattle.std.proofs.lemmas.Bool.{not_from_true}
use Rattle.bcv_base.specs.declared.id.Id16.{Id16}
use Rattle.bcv_base.specs.Ids.{has_id}
use Rattle.bcv_dbmap.proofs.Marked.{marked_shut}
use Rattle.bcv_dbmap.proofs.counting.mark_if_other.Goals as goal

pub returns-then-same_as : goal.returns-then-same_as
returns-then-same_as c =
    let d = c.args.db.now in
    marked_shut (not (bytes_eq d.name c.args.name.now)) (λ (i : Id16). has_id i d.blocks) c.args.ids.now c.args.marks.now c.requires.len (not_from_true (bytes_eq d.name c.args.name.now) (sym c.same_as.ensures ∙ c.if-same_as.true))
