use Rattle.std.proofs.Common.{not, ap}
use Rattle.bcv_top.proofs.MadeRuns.{plays_event}
use Rattle.bcv_top.proofs.Stepping.{GoesOn}
use Rattle.bcv_top.proofs.generate.play.Goals as goal

pub returns : goal.returns
returns g c =
    let goes : GoesOn c.args.world.now c.apply-said.new.self c.args.event c.apply-said.result =
    record { world = c.apply-said.ensures.world; spec = c.apply-said.ensures.spec; tally = c.apply-said.ensures.tally; takes = record { takes = c.apply-said.ensures.takes; caches = c.apply-said.ensures.caches; sets = c.apply-said.ensures.sets } } in
    plays_event c.args.world.now c.apply-said.new.self c.args.event c.apply-said.result (not c.is_no_memory.result) (ap not c.is_no_memory.ensures) c.requires.few goes
