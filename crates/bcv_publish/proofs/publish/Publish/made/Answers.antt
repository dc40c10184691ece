use Rattle.std.proofs.Common.{◌≡◌, Some, IfOk, MatchOption, subst, sym, arith}
use Rattle.bcv_publish.specs.declared.publish.Publish.TheInside.{Inside}
use Rattle.bcv_publish.specs.ManifestPut.{IsReady, IsMadeOf}
use Rattle.bcv_publish.specs.State.{State}
use Rattle.bcv_publish.proofs.Made.{all_made}
use Rattle.bcv_publish.proofs.publish.Publish.made.Goals as goal

abbrev viewed : Inside → State
viewed p = record { writer = p.writer; id = p.id; latest = p.latest; refused = p.refused; block = p.block }

pub returns-clause-made : goal.returns-clause-made
returns-clause-made c =
    let there : c.self.inside.latest ≡ Some c.in-Some.read = cc in
    let ready = subst (λ (s : State). MatchOption s.latest ⊥ (λ l. IsReady l.manifest c.args.plan.now s.writer)) (sym c.self.view_is) c.requires in
    subst (λ (p : State). IfOk c.apply.result (λ m. MatchOption p.latest ⊥ (λ read. IsMadeOf p read c.args.plan.now c.args.moment m))) c.self.view_is
    (all_made (viewed c.self.inside) c.args.plan.now c.args.moment c.self.inside.latest c.in-Some.read c.apply.result there ready (omega arith) c.bytes-id.ensures.id c.bytes-writer.ensures.id c.apply.ensures)
