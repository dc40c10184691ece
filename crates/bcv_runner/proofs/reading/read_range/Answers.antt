use Rattle.std.proofs.Common.{◌∙◌, sym}
use Rattle.bcv_runner.proofs.TalkJoins.{bytes_came, page_missed}
use Rattle.bcv_runner.proofs.reading.read_range.Goals as goal

pub returns-in-Ok-clause-talk : goal.returns-in-Ok-clause-talk
returns-in-Ok-clause-talk g c =
    let o = c.args.outside.now in
    bytes_came g.D.Disk.told g.D.Disk.shown g.S.Store.told c.args.offset c.args.length c.args.txn (g.S.Store.shown o.store) (g.S.Store.shown c.read_at-read.new.store) (g.N.Names.shown o.names) (g.C.Clock.shown o.clock)
    c.args.client.now c.read_at-read.new.self c.read_at-read.new.into.items c.in-Ok.bytes c.read_at-read.result _ c.read_at-read.ensures.reads (sym c.bytes_read.ensures ∙ c.in-Ok.is) c.end_txn.ensures

pub returns-in-Err-clause-talk : goal.returns-in-Err-clause-talk
returns-in-Err-clause-talk g c =
    let o = c.args.outside.now in
    page_missed g.D.Disk.told g.D.Disk.shown g.S.Store.told c.args.offset c.args.length c.args.txn (g.S.Store.shown o.store) (g.S.Store.shown c.read_at-read.new.store) (g.N.Names.shown o.names) (g.C.Clock.shown o.clock)
    c.args.client.now c.read_at-read.new.self c.read_at-read.new.into.items c.read_at-read.result c.in-Err.reply c.ended.result c.read_at-read.ensures.reads (sym c.bytes_read.ensures ∙ c.in-Err.is) c.ended.ensures.ending
