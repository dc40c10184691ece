use Rattle.std.proofs.Common.{refl, arith, rules}
use Rattle.bcv_disk.specs.declared.platter.Act.TheVariants.{CutTo}
use Rattle.bcv_disk.proofs.Keeping.{kept_cut, room_cut}
use Rattle.bcv_disk.proofs.platter.Platter.cut.Goals as goal

pub invariant_of-self-2 : goal.invariant_of-self-2
invariant_of-self-2 c =
    let p = c.self.inside in
    let act = CutTo p.idle c.args.len in
    record {
      holds =
          kept_cut p.bytes.items p.acts.items c.note.new.list.items p.saved.items c.note-2.new.list.items act c.in_ok-over.over.items c.self.invariant.holds (search rules) (search rules) p.idle c.args.len c.truncate.new.self.items refl (search rules) (search rules);
      room = search rules;
      bytes_room = room_cut p.acts.items c.note.new.list.items act _ (search rules) (search rules) p.idle c.args.len refl;
      spare_room = room_cut p.acts.items c.note.new.list.items act _ (search rules) (search rules) p.idle c.args.len refl;
      spare_empty = search rules;
    }
