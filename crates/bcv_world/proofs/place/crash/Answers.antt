use Rattle.std.proofs.Common.{◌≡◌, ◌∙◌, ap, subst, sym}
use Rattle.bcv_disk.specs.declared.memory.MemDisk.{MemDisk}
use Rattle.bcv_model.specs.declared.event.Act.TheVariants as act
use Rattle.bcv_model.specs.declared.reply.Reply.{Reply}
use Rattle.bcv_model.specs.declared.reply.Reply.TheVariants as reply
use Rattle.bcv_world.specs.declared.place.Place.TheVariants as place
use Rattle.bcv_world.specs.SetTroubles.{crashed}
use Rattle.bcv_world.specs.Standing.{PlaceActs}
use Rattle.bcv_world.proofs.QuietPlaces.{crashes_up}
use Rattle.bcv_world.proofs.place.crash.Goals as goal
use Rattle.bcv_world.proofs.place.crash.Goals.{in-Done, in-Failed, in-NoMemory}

pub returns-clause-left : goal.returns-clause-left
returns-clause-left g =
    ap (λ (d : MemDisk). place.Down d) (g.crash.ensures.crashed ∙ ap (crashed g.args.image) g.down-disk.ensures.disk)

pub returns-clause-acts : goal.returns-clause-acts
returns-clause-acts g log names moment slots =
    let said : g.match-crash.reply ≡ reply.Crashed =
    elim g.match-crash.branch [
      | in-Done w ↦ w.reply-is
      | in-Failed w ↦ absurd (cc (w.in-Failed.is, g.crash.ensures.done))
      | in-NoMemory w ↦ absurd (cc (w.in-NoMemory.is, g.crash.ensures.done))
    ] in
    subst (λ (r : Reply). PlaceActs log log names names moment slots (place.Up g.args.client) (place.Down g.crash.new.self) (act.Crash g.args.image) r) (sym said)
    (crashes_up log names moment slots g.args.image g.args.client g.crash.new.self
    (g.crash.ensures.crashed ∙ ap (crashed g.args.image) g.down-disk.ensures.disk))
