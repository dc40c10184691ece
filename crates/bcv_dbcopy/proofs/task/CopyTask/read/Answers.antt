use Rattle.std.proofs.Common.{◌≡◌, ◌∙◌, ℕ, true, false, Option, None, is_none, sym, ap, subst}
use Rattle.bcv_base.specs.declared.seen.Latest.{Latest}
use Rattle.bcv_dbcopy.specs.declared.task.CopyTask.TheInside.{Inside}
use Rattle.bcv_dbcopy.specs.State.{State, IsTask}
use Rattle.bcv_dbcopy.specs.TaskWork.{WorkLeaves, block_known}
use Rattle.bcv_dbcopy.proofs.Tasks.{task_read, none_kept}
use Rattle.bcv_dbcopy.proofs.task.CopyTask.read.Goals as goal

abbrev viewed : Inside → State
viewed t = record { edit = t.edit; pages = t.pages; publish = t.publish; block = t.block; published = t.published }

pub invariant_of-self : goal.invariant_of-self
invariant_of-self g c =
    let known : c.block_known-self-inside.result ≡ block_known c.self.inside.block c.get-work.new.self.latest = c.block_known-self-inside.ensures ∙ ap (block_known c.self.inside.block) c.latest.ensures in
    let none : c.self.inside.publish.latest ≡ None = none_kept c.self.inside.publish.latest (subst (λ (s : State). is_none s.publish.latest ≡ true) (sym c.self.view_is) c.requires.none) in
    let running : c.self.inside.published ≡ false = subst (λ (s : State). s.published ≡ false) (sym c.self.view_is) c.requires.running in
    subst (λ (b : Option ℕ). IsTask (record { edit = c.self.inside.edit; pages = c.self.inside.pages; publish = c.get-work.new.self; block = b; published = c.self.inside.published })) (sym known)
    (task_read c.args.seen.now (viewed c.self.inside) c.get-work.result c.get-work.new.self c.self.invariant running none c.get-work.ensures.leaves)

pub returns-clause-task : goal.returns-clause-task
returns-clause-task g c = invariant_of-self g c

pub returns-clause-leaves : goal.returns-clause-leaves
returns-clause-leaves g c =
    let known : c.block_known-self-inside.result ≡ block_known c.self.inside.block c.get-work.new.self.latest = c.block_known-self-inside.ensures ∙ ap (block_known c.self.inside.block) c.latest.ensures in
    let none : c.self.inside.publish.latest ≡ None = none_kept c.self.inside.publish.latest (subst (λ (s : State). is_none s.publish.latest ≡ true) (sym c.self.view_is) c.requires.none) in
    let new : Option ℕ → State = λ b. record { edit = c.self.inside.edit; pages = c.self.inside.pages; publish = c.get-work.new.self; block = b; published = c.self.inside.published } in
    subst (λ (s : State). WorkLeaves s.publish.latest c.args.seen.now s c.get-work.result (new c.block_known-self-inside.result)) c.self.view_is
    (subst (λ (o : Option Latest). WorkLeaves o c.args.seen.now (viewed c.self.inside) c.get-work.result (new c.block_known-self-inside.result)) (sym none)
    (c.get-work.new.self, c.get-work.ensures.leaves, ap new known))
