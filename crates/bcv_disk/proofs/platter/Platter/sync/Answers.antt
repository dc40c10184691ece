use Rattle.std.proofs.Common.{[], refl, arith, rules}
use Rattle.bcv_disk.specs.declared.platter.Act.TheVariants.{Synced}
use Rattle.bcv_disk.proofs.Keeping.{kept_sync, room_sync}
use Rattle.bcv_disk.proofs.platter.Platter.sync.Goals as goal

pub invariant_of-self : goal.invariant_of-self
invariant_of-self c =
    let p = c.self.inside in
    record {
      holds = kept_sync p.bytes.items p.acts.items c.note.new.list.items p.saved.items c.clear.new.self.items (Synced p.idle) [] c.self.invariant.holds (search rules) p.idle refl (search rules);
      room = search rules;
      bytes_room = room_sync p.acts.items c.note.new.list.items (Synced p.idle) _ (search rules) (search rules) p.idle refl;
      spare_room = room_sync p.acts.items c.note.new.list.items (Synced p.idle) _ (search rules) (search rules) p.idle refl;
      spare_empty = search rules;
    }
