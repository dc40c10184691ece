use Rattle.std.proofs.Common.{rules, ◌≡◌, Bool, true, subst}
use Rattle.bcv_world.specs.declared.world.World.{World}
use Rattle.bcv_top.specs.MadeRun.{PlaysEvent}
use Rattle.bcv_top.proofs.MadeRuns.{begun_few, begun_keeps, begun_playing, begun_world, creates_keeps, made_sizes}
use Rattle.bcv_top.proofs.generate.begun.Goals as goal

pub new-requires-clause-sizes : goal.new-requires-clause-sizes
new-requires-clause-sizes g c = made_sizes

pub play-requires-2-clause-world : goal.play-requires-2-clause-world
play-requires-2-clause-world g c =
    let ran : c.play.result ≡ true = search rules in
    let plays = subst (λ (b : Bool). PlaysEvent b c.in-Ok.world c.play.new.world c.first_asks.result) ran c.play.ensures in
    begun_world c.in-Ok.world c.play.new.world c.first_asks.result c.in-Ok.ensures.world c.in-Ok.ensures.tally c.in-Ok.ensures.first c.in-Ok.ensures.spec plays

pub play-requires-2-clause-few : goal.play-requires-2-clause-few
play-requires-2-clause-few g c =
    let ran : c.play.result ≡ true = search rules in
    let plays = subst (λ (b : Bool). PlaysEvent b c.in-Ok.world c.play.new.world c.first_asks.result) ran c.play.ensures in
    begun_few c.in-Ok.world c.play.new.world c.first_asks.result c.in-Ok.ensures.world c.in-Ok.ensures.tally c.in-Ok.ensures.first c.in-Ok.ensures.spec plays

pub play-requires-2-clause-keeps : goal.play-requires-2-clause-keeps
play-requires-2-clause-keeps g c =
    let ran : c.play.result ≡ true = search rules in
    let plays = subst (λ (b : Bool). PlaysEvent b c.in-Ok.world c.play.new.world c.first_asks.result) ran c.play.ensures in
    begun_keeps c.in-Ok.world c.play.new.world c.first_asks.result c.in-Ok.ensures.world c.in-Ok.ensures.tally c.in-Ok.ensures.first c.in-Ok.ensures.spec plays
    c.first_asks-2.result c.first_asks-2.ensures

pub returns : goal.returns
returns g c =
    let ran : c.play.result ≡ true = search rules in
    let plays = subst (λ (b : Bool). PlaysEvent b c.in-Ok.world c.play.new.world c.first_asks.result) ran c.play.ensures in
    let ran_again : c.play-2.result ≡ true = search rules in
    let again = subst (λ (b : Bool). PlaysEvent b c.play.new.world c.play-2.new.world c.first_asks-2.result) ran_again c.play-2.ensures in
    begun_playing c.in-Ok.world c.play.new.world c.first_asks.result c.in-Ok.ensures.world c.in-Ok.ensures.tally c.in-Ok.ensures.first c.in-Ok.ensures.spec plays
    c.args.n c.play-2.new.world c.first_asks-2.result c.first_asks.ensures c.first_asks-2.ensures again
