use Rattle.std.proofs.Common.{refl, arith, rules}
use Rattle.bcv_disk.specs.declared.platter.Act.TheVariants.{Wrote}
use Rattle.bcv_disk.proofs.Keeping.{kept_write, room_write}
use Rattle.bcv_disk.proofs.platter.Platter.write.Goals as goal

pub invariant_of-self-2 : goal.invariant_of-self-2
invariant_of-self-2 c =
    let p = c.self.inside in
    let act = Wrote p.idle c.args.at c.args.bytes.now in
    record {
      holds =
          kept_write p.bytes.items p.acts.items c.note.new.list.items p.saved.items c.note-2.new.list.items act c.in_ok-over.over.items c.self.invariant.holds (search rules) (search rules) p.idle c.args.at c.args.bytes.now c.overwrite.new.content.items refl (search rules)
          (search rules) (search rules);
      room = search rules;
      bytes_room = room_write p.acts.items c.note.new.list.items act _ (search rules) (search rules) p.idle c.args.at c.args.bytes.now refl (search rules) (search rules);
      spare_room = room_write p.acts.items c.note.new.list.items act _ (search rules) (search rules) p.idle c.args.at c.args.bytes.now refl (search rules) (search rules);
      spare_empty = search rules;
    }
