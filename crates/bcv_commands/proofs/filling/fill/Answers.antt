use Rattle.std.proofs.Common.{◌≡◌, ◌+◌, ◌-◌, ◌<◌, ◌≤◌, length, take, take_all, sym, ◌∙◌, subst, arith}
use Rattle.std.specs.Io.KnownBytes.{Consumes}
use Rattle.std.proofs.lemmas.Grind.{common_steps}
use Rattle.std.proofs.lemmas.List.{length-drop, length-take-le}
use Rattle.bcv_commands.proofs.Fillings.{filled_more, filled_kept}
use Rattle.bcv_commands.proofs.filling.fill.Goals as goal

pub filling-preserved : goal.filling-preserved
filling-preserved g c =
    let inv = c.filling.invariant in
    let took = c.in-Some.ensures in
    let room : c.in-Some.more ≤ length c.take_at.new.slice - c.filling.count = omega (arith, took.bytes.1, length-drop c.filling.count c.take_at.new.slice) in
    let test : c.filling.count < length c.filling.slice = grind (arith, common_steps) in
    let small : c.args.before + (c.filling.count + c.in-Some.more) ≤ 268435456 = grind (arith, common_steps) in
    record {
      consumes = filled_more (g.I.Source.left c.args.input.now) (g.I.Source.left c.filling.input) (g.I.Source.left c.take_at.new.input) c.filling.count c.in-Some.more c.filling.slice c.take_at.new.slice inv.consumes took.front took.bytes.2;
      front = omega (arith, room, test, took.len);
      len = took.len ∙ inv.len;
      within = small;
      unended = took.ends;
      later = omega (arith, inv.later, took.cause);
    }

pub returns-then-before-count-gt-MOST_OF_FILE-clause-bytes : goal.returns-then-before-count-gt-MOST_OF_FILE-clause-bytes
returns-then-before-count-gt-MOST_OF_FILE-clause-bytes g c =
    let inv = c.filling.invariant in
    let took = c.in-Some.ensures in
    let all = c.filling.count + c.in-Some.more in
    let test : c.filling.count < length c.filling.slice = grind (arith, common_steps) in
    let room : all ≤ length c.take_at.new.slice = omega (arith, test, took.len, took.bytes.1, length-drop c.filling.count c.take_at.new.slice) in
    let over : 268435456 < c.args.before + all = grind (arith, common_steps) in (
      take all c.take_at.new.slice,
      filled_more (g.I.Source.left c.args.input.now) (g.I.Source.left c.filling.input) (g.I.Source.left c.take_at.new.input) c.filling.count c.in-Some.more c.filling.slice c.take_at.new.slice inv.consumes took.front took.bytes.2,
      omega (arith, over, length-take-le all c.take_at.new.slice room),
    )

pub returns-in-End-clause-bytes : goal.returns-in-End-clause-bytes
returns-in-End-clause-bytes g c =
    let inv = c.filling.invariant in
    let took = c.in-End.ensures in
    let test : c.filling.count < length c.filling.slice = grind (arith, common_steps) in (
      took.bytes.0,
      filled_kept (g.I.Source.left c.args.input.now) (g.I.Source.left c.filling.input) (g.I.Source.left c.take_at.new.input) c.filling.count c.filling.slice c.take_at.new.slice inv.consumes took.front took.bytes.1,
      omega (arith, test, took.len),
      inv.within,
    )

pub returns-in-Failed-clause-bytes : goal.returns-in-Failed-clause-bytes
returns-in-Failed-clause-bytes g c =
    let inv = c.filling.invariant in
    let took = c.in-Failed.ensures in
    let fits : c.filling.count ≤ length c.take_at.new.slice = omega (arith, inv.front, took.len) in (
      take c.filling.count c.take_at.new.slice,
      filled_kept (g.I.Source.left c.args.input.now) (g.I.Source.left c.filling.input) (g.I.Source.left c.take_at.new.input) c.filling.count c.filling.slice c.take_at.new.slice inv.consumes took.front took.bytes,
      omega (arith, inv.within, inv.front, took.len, length-take-le c.filling.count c.take_at.new.slice fits),
    )

pub returns-clause-bytes : goal.returns-clause-bytes
returns-clause-bytes g c =
    let inv = c.filling.invariant in
    let done : length c.filling.slice ≤ c.filling.count = grind (arith, common_steps) in
    (subst (Consumes (g.I.Source.left c.args.input.now) (g.I.Source.left c.filling.input)) (take_all c.filling.count c.filling.slice done) inv.consumes, omega (arith, inv.within, inv.front, done))
