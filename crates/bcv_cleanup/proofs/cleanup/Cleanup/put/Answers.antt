use Rattle.std.proofs.Common.{◌∙◌, Bool, MatchOption, sym, ap, subst}
use Rattle.bcv_cleanup.specs.declared.cleanup.Cleanup.TheInside.{Inside}
use Rattle.bcv_cleanup.specs.CleanupPut.{CleansAll}
use Rattle.bcv_cleanup.specs.State.{State}
use Rattle.bcv_cleanup.proofs.PutLaws.{any_complete}
use Rattle.bcv_cleanup.proofs.cleanup.Cleanup.put.Goals as goal

abbrev viewed : Inside → State
viewed t = record { edit = t.edit; publish = t.publish; moment = t.moment; deleted = t.deleted; more = t.more; published = t.published }

pub returns-clause-complete : goal.returns-clause-complete
returns-clause-complete g c =
    let s : State = viewed c.self.inside in
    let after : Bool → State = λ b. record s { publish = c.put-end.new.self; published = b } in
    subst (λ (x : State). MatchOption x.publish.latest ⊥ (λ read. CleansAll x read c.put-end.result (after c.is_published-self-inside.result))) c.self.view_is
    (subst (λ (b : Bool). MatchOption s.publish.latest ⊥ (λ read. CleansAll s read c.put-end.result (after b))) (sym c.is_published-self-inside.ensures)
    (any_complete c.args.moment s c.put-end.result c.put-end.new.self c.self.invariant (ap (λ (x : State). x.published) c.self.view_is ∙ c.requires.running.waits) c.put-end.ensures.leaves))
