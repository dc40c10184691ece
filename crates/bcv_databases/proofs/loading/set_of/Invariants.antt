use Rattle.std.proofs.Common.{◌≡◌, map, take, None}
use Rattle.bcv_model.specs.Commits.{writes_of}
use Rattle.bcv_databases.proofs.loading.set_of.Given as goal

abbrev pub invariant-loop-commit : goal.invariant-loop-commit
invariant-loop-commit l = l.set ≡ record { page_size = l.page_size; forgotten = 0; kept = map writes_of (take l.commit-index l.commits); ready = None }
