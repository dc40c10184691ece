use Rattle.std.proofs.Common.{[], refl, arith, rules}
use Rattle.bcv_disk.specs.declared.platter.Act.TheVariants.{Crashed}
use Rattle.bcv_disk.proofs.Keeping.{kept_crash, room_crash}
use Rattle.bcv_disk.proofs.platter.Platter.crash.Goals as goal

pub invariant_of-self-2 : goal.invariant_of-self-2
invariant_of-self-2 c =
    let p = c.self.inside in
    let act = Crashed p.idle c.args.image in
    record {
      holds =
          kept_crash p.bytes.items p.acts.items c.note.new.list.items p.saved.items c.clear.new.self.items act [] c.self.invariant.holds (search rules) p.idle c.args.image c.leave_image.new.bytes.items refl (search rules) (search rules);
      room = search rules;
      bytes_room = room_crash p.acts.items c.note.new.list.items act _ (search rules) (search rules) p.idle c.args.image refl;
      spare_room = room_crash p.acts.items c.note.new.list.items act _ (search rules) (search rules) p.idle c.args.image refl;
      spare_empty = search rules;
    }
