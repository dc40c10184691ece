-- The names that are drawn in a run.
use Rattle.std.specs.Prelude.{List, [], ◌∷◌, ◌++◌}
use Rattle.bcv_base.specs.declared.id.Id16.{Id16}
use Rattle.bcv_client.specs.Talk.{Exchange}
use Rattle.bcv_clientlaws.specs.OtherParts.{Includes}
use Rattle.bcv_dbmap.specs.Honest.{AreApart}
use Rattle.bcv_machine.specs.Run.{AllDiffer}
use Rattle.bcv_store.specs.StoreShown.{StoreTold}
use Rattle.bcv_talks.specs.Runs.{RunState, RunsOver}

-- the names that are drawn in a run, in order; those of its publications are among them
abbrev pub run_names : (store : StoreTold) (mine used : List Id16) (a : RunState)
    (es : List Exchange) (b : RunState) → RunsOver store mine used a es b → List Id16
run_names store mine used a [] b run = []
run_names store mine used a (e ∷ es) b run =
    run.1.ids ++ run_names store mine (used ++ run.1.ids) run.0 es b run.2

-- they are mine, none of them was used before the run, and none is drawn twice
pub record NamesDiffer (mine used names : List Id16) : Type 0 where
  pub own : Includes mine names
  pub apart : AreApart used names
  pub differ : AllDiffer names

abbrev pub RunNamesDiffer : StoreTold → Type 0
RunNamesDiffer store =
    (mine used : List Id16) (a b : RunState) (es : List Exchange)
    (run : RunsOver store mine used a es b)
    → NamesDiffer mine used (run_names store mine used a es b run)
