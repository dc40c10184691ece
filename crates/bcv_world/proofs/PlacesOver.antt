-- A place stands over what others append.
use Rattle.std.proofs.Common.{◌≡◌, List, [], ◌∷◌, ◌++◌, refl, sym, subst}
use Rattle.std.specs.List.{AllByRecursion}
use Rattle.bcv_base.specs.declared.log.Entry.{Entry}
use Rattle.bcv_base.specs.History.{history_of}
use Rattle.bcv_cache.specs.Entry as cache
use Rattle.bcv_clientlaws.specs.OtherParts.{Includes}
use Rattle.bcv_clientlaws.proofs.OtherParts.{fewer_lawful}
use Rattle.bcv_clientlog.specs.LogParts.{log_disk}
use Rattle.bcv_clientstate.specs.Parts.{Parts}
use Rattle.bcv_clientstate.specs.SeenClient.{Free}
use Rattle.bcv_client.specs.ClientParts.{entries_of, parts_of}
use Rattle.bcv_client.specs.Events.{SawItsReads}
use Rattle.bcv_client.specs.declared.client.Client.{Client}
use Rattle.bcv_client.specs.declared.job.Job.{Job}
use Rattle.bcv_client.specs.declared.job.Job.TheVariants as job
use Rattle.bcv_dbmap.specs.Growth.{AreLawful}
use Rattle.bcv_dbmap.specs.Sound.{IsSoundLog}
use Rattle.bcv_disk.specs.Memory.{shown_of}
use Rattle.bcv_disk.specs.declared.memory.MemDisk.{MemDisk}
use Rattle.bcv_publisher.specs.WorkStep.{seen_before}
use Rattle.bcv_risen.specs.RisenSides.{IsDown}
use Rattle.bcv_slots.specs.declared.Slot.{Slot}
use Rattle.bcv_tasks.specs.State.{publish_of}
use Rattle.bcv_worldlaws.specs.Places.{ClientPlace, DownPlace, UpPlace, place_names}
use Rattle.bcv_worldlaws.proofs.PlacesStay.{down_stays, others_stay, place_falls, seen_stays}
use Rattle.bcv_world.specs.declared.place.Place.{Place}
use Rattle.bcv_world.specs.declared.place.Place.TheVariants as place
use Rattle.bcv_world.specs.Standing.{LiesDown, StandsAs, StandsUp}

module _ (log others : List Entry) (sound : IsSoundLog log) (grown : IsSoundLog (log ++ others)) where
  saw_stays : (j : Job) → SawItsReads (history_of log) j → SawItsReads (history_of (log ++ others)) j
  saw_stays (job.Fetch access txn page) saw = tt
  saw_stays job.Poll saw = tt
  saw_stays (job.Publish set taken t) saw = seen_stays log others (seen_before (publish_of t)) saw
  saw_stays job.Resolve saw = tt

  all_saw : (ss : List (Slot Job)) → AllByRecursion (λ (s : Slot Job). SawItsReads (history_of log) s.item) ss
      → AllByRecursion (λ (s : Slot Job). SawItsReads (history_of (log ++ others)) s.item) ss
  all_saw [] all = tt
  all_saw (s ∷ ss) all = (saw_stays s.item all.0, all_saw ss all.1)

  up_over : {g : _} (c : Client MemDisk g) (f : Free) → AreLawful (place_names (UpPlace (parts_of c) (entries_of c) f)) (history_of log) others
      → StandsUp log c f → StandsUp (log ++ others) c f
  up_over c f lawful s =
      let up : ClientPlace = UpPlace (parts_of c) (entries_of c) f in
      let down : ClientPlace = DownPlace c.id c.ledger.databases.kept f in
      let would : IsDown (shown_of (log_disk c.ledger.log)) log c.id c.ledger.databases.kept f =
      record { is_id = s.over.fits.is_id; ordered = s.over.fits.ordered; holds = s.over.journaled.images; fits = s.left } in
      let fewer : Includes (place_names up) (place_names down) = (place_falls log (parts_of c) (entries_of c) f f refl s.over.fits).names in
      record {
        over = record {
          sound = grown;
          fits = (others_stay log others up sound lawful s.over.fits).fits;
          saw = all_saw c.tasks.items s.over.saw;
          journaled = s.over.journaled;
          slots = s.over.slots;
        };
        left =
            (down_stays shown_of (log_disk c.ledger.log) log others c.id c.ledger.databases.kept f sound
            (fewer_lawful (place_names up) (place_names down) fewer (history_of log) others lawful) would).fits;
        set = s.set;
        unburnt = s.unburnt;
      }

  -- others keep away from the names of the place
  pub place_over : (p : Place) (cp : ClientPlace) → AreLawful (place_names cp) (history_of log) others → StandsAs log p cp → StandsAs (log ++ others) p cp
  place_over (place.Up c) (UpPlace p entries f) lawful s =
      let at : (x : Parts) (es : List cache.Entry) → x ≡ p → es ≡ entries → AreLawful (place_names (UpPlace x es f)) (history_of log) others =
      λ x es same also. subst (λ (y : Parts). AreLawful (place_names (UpPlace y es f)) (history_of log) others) (sym same) lawful in
      (s.0, s.1, up_over c f (at (parts_of c) (entries_of c) (sym s.0) (sym s.1)) s.2)
  place_over (place.Up c) (DownPlace id k f) lawful s = s
  place_over (place.Down disk) (UpPlace p entries f) lawful s = s
  place_over (place.Down disk) (DownPlace id k f) lawful s = record { down = down_stays shown_of disk log others id k f sound lawful s.down; set = s.set }
