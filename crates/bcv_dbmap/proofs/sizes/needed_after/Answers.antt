use Rattle.std.proofs.Common.{◌≡◌, Option, refl, sym, ap, ◌∙◌}
use Rattle.std.specs.Option.{option_map}
use Rattle.std.specs.Prelude.{Some}
use Rattle.bcv_base.specs.declared.manifest.DbEntry.{DbEntry}
use Rattle.bcv_base.specs.Keyed.{keyed, with_made}
use Rattle.bcv_base.specs.ManifestRules.{db_name}
use Rattle.bcv_dbmap.specs.declared.plan.EditPlan.{EditPlan}
use Rattle.bcv_dbmap.specs.Applied.{dbs_after}
use Rattle.bcv_dbmap.specs.Checked.{needed_total, zero_id}
use Rattle.bcv_dbmap.proofs.sizes.needed_after.Goals as goal

pub returns-in-Some-clause-value : goal.returns-in-Some-clause-value
returns-in-Some-clause-value c =
    let dbs = c.args.dbs.now in
    let made : DbEntry = record c.in-Some.db.now { name = c.in-Copy.to; tag = zero_id } in
    let found : keyed db_name c.in-Copy.from dbs ≡ Some c.in-Some.db.now = sym c.database_of.ensures ∙ ap (option_map (λ d. d.now)) c.in-Some.is in
    c.needed_with-in-Some.ensures.value made refl (c.needed_under-in-Some.ensures.value made refl refl refl)
    ∙ ap (λ (o : Option DbEntry). needed_total c.args.block (with_made db_name (option_map (λ (d : DbEntry). record d { name = c.in-Copy.to; tag = zero_id }) o) dbs)) (sym found)
    ∙ ap (λ (p : EditPlan). needed_total c.args.block (dbs_after p zero_id dbs)) (sym c.in-Copy.is)
