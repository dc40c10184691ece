use Rattle.std.proofs.Common.{List, subst}
use Rattle.bcv_databases.specs.Catalog.{use_name}
use Rattle.bcv_databases.specs.NamedLists.{IsThere}
use Rattle.bcv_databases.specs.declared.set_use.SetUse.{SetUse}
use Rattle.bcv_databases.proofs.UploadEnds.{moved_there}
use Rattle.bcv_databases.proofs.uploaded.move_from.Goals as goal

pub returns-in-Ok : goal.returns-in-Ok
returns-in-Ok c =
    let us : List SetUse = c.args.uses.now.items in
    let there : IsThere use_name c.args.db.now us c.in-Ok.place = subst (λ (xs : List SetUse). IsThere use_name c.args.db.now xs c.in-Ok.place) c.deref.ensures.value c.in-Ok.ensures.there in
    moved_there c.args.db.now us c.in-Ok.place c.index_mut.result.now c.args.count there c.index_mut.ensures.value
