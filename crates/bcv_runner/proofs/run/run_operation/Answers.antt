use Rattle.std.proofs.Common.{inl}
use Rattle.bcv_runner.proofs.run.run_operation.Goals as goal

pub returns-in-Ready-clause-runs : goal.returns-in-Ready-clause-runs
returns-in-Ready-clause-runs g c = record {
  either = inl (record {
    start = c.in-Ready.client;
    names = g.N.Names.shown c.up.new.names;
    up = record {
      rises = c.in-Ready.ensures.rises;
      empty = c.in-Ready.ensures.empty;
      again = c.in-Ready.ensures.again;
      first = c.in-Ready.ensures.first;
    };
    asks = c.over_client.ensures.talk;
  });
}
