-- What a line of a script does to a disk: the troubles that it sets have its very numbers, and a crash leaves its image.
use Rattle.std.specs.Prelude.{◌≡◌, ℕ, Some}
use Rattle.bcv_client.specs.Planned.{trouble_of}
use Rattle.bcv_clientlog.specs.LogParts.{log_disk}
use Rattle.bcv_disk.specs.DiskShown.{Trouble}
use Rattle.bcv_disk.specs.declared.memory.MemDisk.{MemDisk}
use Rattle.bcv_disk.specs.Memory.{shown_of}
use Rattle.bcv_disk.specs.Story.{with_crash}
use Rattle.bcv_model.specs.declared.event.Act.{Act}
use Rattle.bcv_model.specs.declared.event.Act.TheVariants as act
use Rattle.bcv_model.specs.declared.event.Event.{Event}
use Rattle.bcv_model.specs.declared.event.Event.TheVariants as event
use Rattle.bcv_slots.specs.Numbered.{item_at}
use Rattle.bcv_world.specs.declared.place.Place.{Place}
use Rattle.bcv_world.specs.declared.place.Place.TheVariants as place
use Rattle.bcv_world.specs.declared.world.World.{World}

-- the troubles of the disk of a place
abbrev pub troubles_at : Place → Trouble
troubles_at (place.Up c) = trouble_of shown_of c
troubles_at (place.Down disk) = (shown_of disk).trouble

-- the disk after a crash that leaves an image
abbrev pub crashed : ℕ → MemDisk → MemDisk
crashed image disk = record disk { platter = with_crash image disk.platter }

-- a fuse or a failure that is set of a client that is up has the very numbers, and no other trouble changes; a crash leaves its disk
-- with the very image
abbrev pub SetsTrouble : Act → Place → Place → Type 0
SetsTrouble (act.Fuse calls image) (place.Up c) after =
    troubles_at after ≡ record (trouble_of shown_of c) { fuse = Some (calls, image) }
SetsTrouble (act.FailAt calls) (place.Up c) after =
    troubles_at after ≡ record (trouble_of shown_of c) { failure = Some calls }
SetsTrouble (act.Crash image) (place.Up c) after = after ≡ place.Down (crashed image (log_disk c.ledger.log))
SetsTrouble _ _ _ = Unit {0}

-- so it is of the place that an event speaks of
abbrev pub SetsAsTold : World → World → Event → Type 0
SetsAsTold old new (event.Tick seconds) = Unit {0}
SetsAsTold old new (event.Of number what) =
    (before after : Place) → item_at number old.places.items ≡ Some before
    → item_at number new.places.items ≡ Some after → SetsTrouble what before after
