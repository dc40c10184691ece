use Rattle.std.proofs.Common.{◌∙◌, ◌++◌, List, [], ℕ, ap}
use Rattle.std.proofs.KnownBytes.{Appends-nil}
use Rattle.bcv_world.specs.declared.tally.Tally.{Tally}
use Rattle.bcv_top.specs.MadeRun.{summary_text}
use Rattle.bcv_top.proofs.MadeRuns.{generated_end, generated_nothing}
use Rattle.bcv_top.proofs.generate.generate_top.Goals as goal

pub returns-clause-generates : goal.returns-clause-generates
returns-clause-generates g c =
    let text = c.as_slice-bytes.ensures.value ∙ c.in-Ok.ensures ∙ ap (λ (l : List ℕ). l ++ summary_text c.tally.result) c.new-text.ensures.items ∙ ap (λ (t : Tally). summary_text t) c.tally.ensures in
    generated_end (g.O.Sink.given c.args.out.now) (g.O.Sink.given c.write_all-wrote.new.out) c.args.n c.in-Some.world c.as_slice-bytes.result.now c.write_all-wrote.result c.at-2.result.status c.status_of.result c.at-2.result.world
    c.in-Some.ensures text c.status_of.ensures c.at-2.ensures.status c.at-2.ensures.world c.write_all-wrote.ensures.bytes

pub returns-in-Err-clause-generates : goal.returns-in-Err-clause-generates
returns-in-Err-clause-generates g c =
    ([], Appends-nil (g.O.Sink.given c.args.out.now), generated_nothing c.args.n c.at-in-Err.result.status c.at-in-Err.result.world c.at-in-Err.ensures.status c.at-in-Err.ensures.world)
