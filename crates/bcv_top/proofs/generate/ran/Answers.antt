use Rattle.std.proofs.Common.{rules, ◌≡◌, ◌<◌, Bool, true, subst}
use Rattle.bcv_top.specs.MadeRun.{PlaysEvent}
use Rattle.bcv_top.proofs.MadeRuns.{playing_ends, playing_on}
use Rattle.bcv_top.proofs.generate.ran.Goals as goal

pub loop-left-preserved : goal.loop-left-preserved
loop-left-preserved g c =
    let ran : c.play.result ≡ true = search rules in
    let some : 0 < c.loop-left.left = search rules in
    let plays = subst (λ (b : Bool). PlaysEvent b c.loop-left.world c.play.new.world c.in-Ok.event) ran c.play.ensures in
    playing_on c.args.n c.loop-left.world c.loop-left.draws.x c.loop-left.left c.loop-left.invariant c.play.new.world c.in-Ok.event c.event.new.self.x some c.in-Ok.ensures.value c.event.ensures.next plays

pub returns : goal.returns
returns g c =
    let none : c.loop-left.left ≡ 0 = search rules in
    playing_ends c.args.n c.loop-left.world c.loop-left.draws.x c.loop-left.left c.loop-left.invariant none
