use Rattle.std.proofs.Common.{◌≡◌, ◌∙◌, ◌<◌, length, true, not, Option, Some, None, is_none, option_copied, Bor, refl, sym, ap, subst}
use Rattle.bcv_base.specs.declared.seen.Latest.{Latest}
use Rattle.bcv_dbcopy.specs.State.{State, IsTask}
use Rattle.bcv_dbcopy.proofs.WorkLaws.{read_works}
use Rattle.bcv_dbcopy.proofs.task.CopyTask.work.Goals as goal

none_copied : (o : Option (Bor Latest)) → is_none o ≡ true → option_copied o ≡ None
none_copied None h = refl
none_copied (Some l) h = absurd (cc)

pub returns-then-is_none-clause-works : goal.returns-then-is_none-clause-works
returns-then-is_none-clause-works g c =
    let there : c.self.inside.publish.latest ≡ None = sym c.latest.ensures ∙ none_copied c.latest.result (ap not (c.is_none.ensures ∙ ap not c.if-is_none.true)) in
    let none : c.args.self.now.publish.latest ≡ None = sym (ap (λ (s : State). s.publish.latest) c.self.view_is) ∙ there in
    read_works g.S.Store.told (g.S.Store.shown c.args.store.now) (g.S.Store.shown c.read.new.store) (g.N.Names.shown c.args.names.now) c.args.seen.now
    c.args.self.now c.read.result c.read.new.self (subst IsTask c.self.view_is c.self.invariant) c.requires.running.waits none c.read.ensures.leaves c.read.ensures.gets

pub returns-else-is_none-clause-running : goal.returns-else-is_none-clause-running
returns-else-is_none-clause-running g c = record {
  task = c.put_block.ensures.task;
  waits = ap (λ (s : State). s.published) c.put_block.ensures.rest ∙ c.requires.running.waits;
  few = subst (λ (s : State). length s.publish.refused < 8) (sym c.put_block.ensures.rest) c.requires.running.few;
}
