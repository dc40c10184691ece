use Rattle.std.proofs.Common.{◌≡◌, Bool, List, true, MatchOption, sym, subst}
use Rattle.bcv_base.specs.Image.{Writes}
use Rattle.bcv_publish.specs.declared.work.PutEnd.TheVariants as put
use Rattle.bcv_publish.specs.ManifestPut.{ManifestPutSound}
use Rattle.bcv_upload.specs.State.{State, IsRunning, is_ready, plan_of}
use Rattle.bcv_upload.specs.UploadPut.{MayPut}
use Rattle.bcv_upload.proofs.MayPut.{any_sound}
use Rattle.bcv_upload.proofs.Tasks.{any_put, any_ready, any_refused}
use Rattle.bcv_upload.proofs.Viewed.{viewed}
use Rattle.bcv_upload.proofs.upload.Upload.put.Goals as goal

pub put-end-requires-clause-ready : goal.put-end-requires-clause-ready
put-end-requires-clause-ready g c =
    any_ready (viewed c.self.inside) c.self.inside.plan c.self.invariant.plan_is c.self.invariant.task (subst (λ (s : State). is_ready s ≡ true) (sym c.self.view_is) c.requires.ready)

pub returns-clause-sound : goal.returns-clause-sound
returns-clause-sound g c =
    λ tells mine sound honest. subst (λ (s : State). MatchOption s.publish.latest ⊥ (λ read. (view : List Writes) → MayPut mine (g.S.Store.shown c.args.store.now).log view s read
    → ManifestPutSound g.S.Store.told mine (g.S.Store.shown c.args.store.now) (g.S.Store.shown c.put-end.new.store) s.publish read (plan_of s) c.args.moment c.put-end.result c.put-end.new.self))
    c.self.view_is
    (any_sound g.S.Store.told mine (g.S.Store.shown c.args.store.now) (g.S.Store.shown c.put-end.new.store) (viewed c.self.inside) c.self.inside.plan c.args.moment c.put-end.result c.put-end.new.self
    c.self.invariant.plan_is c.self.invariant.task (subst (λ (s : State). is_ready s ≡ true) (sym c.self.view_is) c.requires.ready) tells sound honest c.put-end.ensures.puts)

pub returns-clause-running : goal.returns-clause-running
returns-clause-running g c =
    subst (λ (b : Bool). c.put-end.result ≡ put.Refused → IsRunning (record (viewed c.self.inside) { publish = c.put-end.new.self; published = b })) (sym c.is_published-self-inside.ensures)
    (any_refused c.args.moment (viewed c.self.inside) c.self.inside.plan c.put-end.result c.put-end.new.self
    (any_put c.args.moment (viewed c.self.inside) c.self.inside.plan c.put-end.result c.put-end.new.self c.self.invariant.task (subst (λ (s : State). is_ready s ≡ true) (sym c.self.view_is) c.requires.ready) c.put-end.ensures.leaves)
    c.put-end.ensures.leaves)
