use Rattle.std.proofs.Common.{◌+◌, inl}
use Rattle.bcv_clientlog.specs.LogParts.{log_area, log_tail}
use Rattle.bcv_clientstate.specs.Journaled.{most_of}
use Rattle.bcv_clientstate.proofs.NotesTried.{loads_within}
use Rattle.bcv_ledger.proofs.ledger.Ledger.rests.Goals as goal

pub returns : goal.returns
returns g c f holds still within =
    let l = c.args.self.now in
    record {
      settled = λ o. holds;
      still = λ o. still;
      images = λ image left. inl (loads_within image l.databases.kept (log_tail l.log + log_area l.log) (most_of f) within (c.span.ensures.leaves l.databases.kept holds image left));
      within = within;
    }
