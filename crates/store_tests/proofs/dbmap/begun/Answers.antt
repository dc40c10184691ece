use Rattle.std.proofs.Common.{refl, sym, subst, lit<}
use Rattle.store_tests.specs.Tried.{IsTried}
use Rattle.bcv_dbmap.proofs.RulesLaws.{first_meets_rules}
use Rattle.store_tests.proofs.Trying.{is_power, is_size}
use Rattle.store_tests.proofs.dbmap.begun.Goals as goal

pub first-requires : goal.first-requires
first-requires c = is_power

pub returns-in-Ok : goal.returns-in-Ok
returns-in-Ok c =
    let both = first_meets_rules 1024 100 c.id_of.result c.id_of-2.result 1 is_size (lit< tt) (lit< tt) c.id_of.ensures c.id_of-2.ensures in
    subst IsTried (sym c.in-Ok.ensures) (record { rules = both.0; limits = both.1; block = refl })
