use Rattle.std.proofs.Common.{ℕ, sym, subst, ◌∙◌, arith}
use Rattle.bcv_lines.specs.Reading.{FitsFront}
use Rattle.bcv_lines.proofs.Reader.{took_more}
use Rattle.bcv_lines.proofs.lines.Lines.next.Goals as goal

pub loop-self-preserved : goal.loop-self-preserved
loop-self-preserved g c =
    let inv = c.loop-self.invariant in
    record {
      took = took_more (g.I.Source.left c.args.input.now) (g.I.Source.left c.loop-self.input) (g.I.Source.left c.refill.new.input) c.args.self.now.chunk c.loop-self.self.line.items c.loop-self.self.chunk c.gather.new.self.line.items c.refill.new.self
          inv.took c.in-Part.ensures.bytes.0 c.in-Some.ensures.bytes.1;
      front = subst (λ (u : ℕ). FitsFront u c.gather.new.self.line.items) (sym c.in-Part.ensures.counts) c.in-Part.ensures.bytes.2;
      used = c.in-Part.ensures.counts ∙ inv.used;
      unended = c.in-Some.ensures.ends;
      later = omega (arith, inv.later, c.in-Some.ensures.cause);
    }
