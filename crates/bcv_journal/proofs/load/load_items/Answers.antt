use Rattle.std.proofs.Common.{arith}
use Rattle.bcv_journal.proofs.LoadParts.{calls-long, calls-short, load_part, sync_failed, too_long}
use Rattle.bcv_journal.proofs.load.load_items.Goals as goal

pub returns-in_default : goal.returns-in_default
returns-in_default g c =
    let d = g.D.Disk in
    sync_failed d.told (d.shown c.args.disk.now) (d.shown c.synced_len.new.disk) (g.met.D.Disk.only_now c.args.disk.now) c.synced_len.ensures.crash _ c.in_default.is c.synced_len.ensures.fails

pub returns-then-size : goal.returns-then-size
returns-then-size g c =
    let d = g.D.Disk in
    load_part d.told (d.shown c.args.disk.now) (d.shown c.synced_len.new.disk) (g.met.D.Disk.only_now c.args.disk.now) c.synced_len.ensures.crash (λ none. cc (none, c.in-Some.is)) c.in-Some.ensures.seen c.in-Some.ensures.durable c.synced_len.ensures.fails c.in-Some.ensures.calls
    (d.shown c.load_short.new.disk) 2 c.load_short.result (λ t. calls-short (d.shown c.args.disk.now).seen (omega (arith, c.in-Some.ensures.length t, c.if-size.true))) c.load_short.ensures

pub returns-then-size-gt-MOST : goal.returns-then-size-gt-MOST
returns-then-size-gt-MOST g c =
    let d = g.D.Disk in
    too_long d.told (d.shown c.args.disk.now) (d.shown c.synced_len.new.disk) (g.met.D.Disk.only_now c.args.disk.now) c.synced_len.ensures.crash (λ none. cc (none, c.in-Some.is)) c.in-Some.ensures.seen c.in-Some.ensures.durable c.synced_len.ensures.fails c.in-Some.ensures.calls
    (λ t. omega (arith, c.in-Some.ensures.length t, c.if-size-gt-MOST.true))

pub returns-else-size-gt-MOST : goal.returns-else-size-gt-MOST
returns-else-size-gt-MOST g c =
    let d = g.D.Disk in
    load_part d.told (d.shown c.args.disk.now) (d.shown c.synced_len.new.disk) (g.met.D.Disk.only_now c.args.disk.now) c.synced_len.ensures.crash (λ none. cc (none, c.in-Some.is)) c.in-Some.ensures.seen c.in-Some.ensures.durable c.synced_len.ensures.fails c.in-Some.ensures.calls
    (d.shown c.load_long.new.disk) 1 c.load_long.result (λ t. calls-long (d.shown c.args.disk.now).seen (omega (arith, c.in-Some.ensures.length t, c.if-size.false)) (omega (arith, c.in-Some.ensures.length t, c.if-size-gt-MOST.false))) c.load_long.ensures
