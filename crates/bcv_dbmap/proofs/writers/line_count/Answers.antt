use Rattle.std.proofs.Common.{sym, ap, ◌∙◌}
use Rattle.std.specs.Prelude.{is_some}
use Rattle.bcv_base.specs.declared.id.Id16.{Id16}
use Rattle.bcv_base.specs.Keyed.{keyed}
use Rattle.bcv_base.specs.ManifestRules.{writer_id}
use Rattle.bcv_dbmap.proofs.Counts.{length_there, length_missing, full_there, full_missing}
use Rattle.bcv_dbmap.proofs.writers.line_count.Goals as goal

pub returns-then-has_writer-clause-count : goal.returns-then-has_writer-clause-count
returns-then-has_writer-clause-count c = λ w e.
    sym (length_there writer_id w c.args.writers.now c.requires.order (ap (λ (i : Id16). is_some (keyed writer_id i.0 c.args.writers.now)) e ∙ sym c.has_writer.ensures ∙ c.if-has_writer.true))

pub returns-else-has_writer-clause-count : goal.returns-else-has_writer-clause-count
returns-else-has_writer-clause-count c = λ w e.
    sym (length_missing writer_id w c.args.writers.now (ap (λ (i : Id16). is_some (keyed writer_id i.0 c.args.writers.now)) e ∙ sym c.has_writer.ensures ∙ c.if-has_writer.false))

pub returns-then-has_writer-clause-full : goal.returns-then-has_writer-clause-full
returns-then-has_writer-clause-full c = full_there (keyed writer_id c.args.id.now.0 c.args.writers.now) _ c.requires.few (sym c.has_writer.ensures ∙ c.if-has_writer.true)

pub returns-else-has_writer-clause-full : goal.returns-else-has_writer-clause-full
returns-else-has_writer-clause-full c = full_missing (keyed writer_id c.args.id.now.0 c.args.writers.now) _ (sym c.has_writer.ensures ∙ c.if-has_writer.false)
