use Rattle.std.proofs.Common.{◌∙◌, sym}
use Rattle.bcv_runner.proofs.TalkJoins.{begun_read, not_begun}
use Rattle.bcv_runner.proofs.reading.read_database.Goals as goal

pub returns-in-Some-clause-talk : goal.returns-in-Some-clause-talk
returns-in-Some-clause-talk g c =
    let d = g.D.Disk in
    begun_read d.told d.shown g.S.Store.told c.args.db c.args.offset c.args.length c.in-Some.txn c.ask_client-begun.result c.read_range.result _ _ _ c.ask_client-begun.ensures.exchanged
    (sym c.txn_of.ensures ∙ c.in-Some.is) c.read_range.ensures.talk

pub returns-in-None-clause-talk : goal.returns-in-None-clause-talk
returns-in-None-clause-talk g c =
    let d = g.D.Disk in
    not_begun d.told d.shown g.S.Store.told c.args.db c.args.offset c.args.length c.ask_client-begun.result c.ended.result _ _ c.ask_client-begun.ensures.exchanged
    (sym c.txn_of.ensures ∙ c.in-None.is) c.ended.ensures.ending
