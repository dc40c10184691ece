use Rattle.std.proofs.Common.{sym, subst, ◌∙◌}
use Rattle.bcv_dbmap.specs.Checked.{checked}
use Rattle.store_tests.specs.Tried.{IsTried}
use Rattle.store_tests.proofs.Trying.{tried_again, passes_from_no_err}
use Rattle.store_tests.proofs.dbmap.next.Goals as goal

pub returns-in-Ok : goal.returns-in-Ok
returns-in-Ok c =
    let m = c.args.m.now in
    let p = c.args.plan.now in
    let passes = passes_from_no_err c.check.result (checked m p c.id_of-writer.result) c.check.ensures (sym c.is_err.ensures.value ∙ c.if-is_err.false) in
    subst IsTried (sym c.in-Ok.ensures) (tried_again m p c.id_of.result c.id_of-writer.result c.args.moment c.requires.tried c.requires.fits passes c.ranges.moment.fits c.id_of.ensures c.id_of-writer.ensures)
