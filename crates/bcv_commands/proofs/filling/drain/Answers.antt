use Rattle.std.proofs.Common.{◌≡◌, ◌++◌, length-append, refl, ◌∙◌, arith}
use Rattle.std.proofs.KnownBytes.{Consumes-trans}
use Rattle.bcv_commands.proofs.Fillings.{drains_end, drains_limit, drains_fault}
use Rattle.bcv_commands.proofs.filling.drain.Goals as goal

pub draining-preserved : goal.draining-preserved
draining-preserved g c =
    let inv = c.draining.invariant in
    let full = c.in-Full.ensures in
    record {
      taken = inv.taken ++ c.fill.new.slice;
      consumes = Consumes-trans (g.I.Source.left c.args.input.now) (g.I.Source.left c.draining.input) (g.I.Source.left c.fill.new.input) inv.taken c.fill.new.slice inv.consumes full.bytes.0;
      count = omega (arith, inv.count, inv.room, full.len, length-append inv.taken c.fill.new.slice);
      room = full.len ∙ inv.room;
      within = omega (arith, full.bytes.1, full.len, inv.room);
      unended = full.goes_on refl;
      later = omega (arith, inv.later, full.later);
    }

pub returns-in-Ended-clause-bytes : goal.returns-in-Ended-clause-bytes
returns-in-Ended-clause-bytes g c =
    let inv = c.draining.invariant in
    drains_end (g.I.Source.left c.args.input.now) (g.I.Source.left c.draining.input) (g.I.Source.left c.fill.new.input) c.args.before c.draining.length inv.taken c.fill.new.slice inv.consumes inv.count c.in-Ended._count c.in-Ended.ensures.bytes

pub returns-in-TooLong-clause-bytes : goal.returns-in-TooLong-clause-bytes
returns-in-TooLong-clause-bytes g c =
    let inv = c.draining.invariant in
    drains_limit (g.I.Source.left c.args.input.now) (g.I.Source.left c.draining.input) (g.I.Source.left c.fill.new.input) c.args.before c.draining.length inv.taken c.fill.new.slice inv.consumes inv.count c.in-TooLong.ensures.bytes

pub returns-in-Failed-clause-bytes : goal.returns-in-Failed-clause-bytes
returns-in-Failed-clause-bytes g c =
    let inv = c.draining.invariant in
    drains_fault (g.I.Source.left c.args.input.now) (g.I.Source.left c.draining.input) (g.I.Source.left c.fill.new.input) c.args.before c.draining.length inv.taken c.fill.new.slice inv.consumes inv.count c.in-Failed.ensures.bytes
