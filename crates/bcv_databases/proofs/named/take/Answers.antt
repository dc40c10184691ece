use Rattle.std.proofs.Common.{List, sym, subst}
use Rattle.bcv_databases.specs.NamedLists.{IsFree}
use Rattle.bcv_databases.proofs.Places.{without_none}
use Rattle.bcv_databases.proofs.named.take.Goals as goal

pub returns-in-Err-clause-others : goal.returns-in-Err-clause-others
returns-in-Err-clause-others g c =
    let key = g.T.Named.key in
    let name = c.args.name.now in
    let free : IsFree key name c.args.items.now.items c.in-Err.field-0 = subst (λ (l : List g.row.T.Denot). IsFree key name l c.in-Err.field-0) c.deref.ensures.value c.in-Err.ensures.free in
    sym (without_none key name c.args.items.now.items (free.none c.requires))
