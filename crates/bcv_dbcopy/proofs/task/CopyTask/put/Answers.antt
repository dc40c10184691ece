use Rattle.std.proofs.Common.{◌≡◌, Bool, true, MatchOption, sym, subst}
use Rattle.bcv_publish.specs.declared.work.PutEnd.TheVariants as put
use Rattle.bcv_publish.specs.ManifestPut.{ManifestPutSound}
use Rattle.bcv_dbcopy.specs.declared.task.CopyTask.TheInside.{Inside}
use Rattle.bcv_dbcopy.specs.State.{State, IsRunning, IsTask, is_ready}
use Rattle.bcv_dbcopy.specs.TaskPut.{MayPut}
use Rattle.bcv_dbcopy.proofs.MayPut.{any_sound}
use Rattle.bcv_dbcopy.proofs.Tasks.{any_ready, any_put, any_refused}
use Rattle.bcv_dbcopy.proofs.task.CopyTask.put.Goals as goal

abbrev viewed : Inside → State
viewed t = record { edit = t.edit; pages = t.pages; publish = t.publish; block = t.block; published = t.published }

pub put-end-requires-clause-ready : goal.put-end-requires-clause-ready
put-end-requires-clause-ready g c = any_ready _ c.self.invariant (subst (λ (s : State). is_ready s ≡ true) (sym c.self.view_is) c.requires.ready)

pub invariant_of-self : goal.invariant_of-self
invariant_of-self g c =
    subst (λ (b : Bool). IsTask (record { edit = c.self.inside.edit; pages = c.self.inside.pages; publish = c.put-end.new.self; block = c.self.inside.block; published = b })) (sym c.is_published-self-inside.ensures)
    (any_put c.args.moment _ c.put-end.result c.put-end.new.self c.self.invariant (subst (λ (s : State). is_ready s ≡ true) (sym c.self.view_is) c.requires.ready) c.put-end.ensures.leaves)

pub returns-clause-sound : goal.returns-clause-sound
returns-clause-sound g c =
    λ tells mine sound honest. subst (λ (s : State). MatchOption s.publish.latest ⊥ (λ read. MayPut mine (g.S.Store.shown c.args.store.now).log s read
    → ManifestPutSound g.S.Store.told mine (g.S.Store.shown c.args.store.now) (g.S.Store.shown c.put-end.new.store) s.publish read s.edit c.args.moment c.put-end.result c.put-end.new.self))
    c.self.view_is
    (any_sound g.S.Store.told mine (g.S.Store.shown c.args.store.now) (g.S.Store.shown c.put-end.new.store) _ c.args.moment c.put-end.result c.put-end.new.self c.self.invariant
    (subst (λ (s : State). is_ready s ≡ true) (sym c.self.view_is) c.requires.ready) tells sound honest c.put-end.ensures.puts)

pub returns-clause-running : goal.returns-clause-running
returns-clause-running g c =
    subst (λ (b : Bool). c.put-end.result ≡ put.Refused → IsRunning (record { edit = c.self.inside.edit; pages = c.self.inside.pages; publish = c.put-end.new.self; block = c.self.inside.block; published = b })) (sym c.is_published-self-inside.ensures)
    (any_refused c.args.moment (viewed c.self.inside) c.put-end.result c.put-end.new.self
    (any_put c.args.moment (viewed c.self.inside) c.put-end.result c.put-end.new.self c.self.invariant (subst (λ (s : State). is_ready s ≡ true) (sym c.self.view_is) c.requires.ready) c.put-end.ensures.leaves) c.put-end.ensures.leaves)
