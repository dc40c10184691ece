use Rattle.std.proofs.Common.{refl}
use Rattle.bcv_runner.specs.CommandAsks.{around, point_of}
use Rattle.bcv_runner.proofs.run.over_client.Goals as goal

pub returns-clause-talk : goal.returns-clause-talk
returns-clause-talk g c =
    let talk = c.run_asks-ending.ensures.talk in
    let a = point_of c.args.client (around g.S.Store.shown g.N.Names.shown g.C.Clock.shown c.args.outside.now) in
    let b = point_of c.run_asks-ending.new.client (around g.S.Store.shown g.N.Names.shown g.C.Clock.shown c.run_asks-ending.new.outside) in
    record {
      end = c.run_asks-ending.new.client;
      talk = talk;
      down = record { is = c.down.ensures.disk; leaves = c.down.ensures.leaves; down = c.down.ensures.down };
      machine = λ mine used moment f tells disk_tells named begins honest new.
          c.talks_are_runs.ensures.ends a b talk.exchanges talk.talks mine used moment f c.down.result refl tells disk_tells begins.stands honest new
          (c.talks_leave_fit.ensures.names a b talk.exchanges talk.talks refl named) begins.left c.down.ensures.down;
    }
