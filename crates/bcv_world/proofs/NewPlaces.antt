-- A client comes up for the first time, over an empty disk: it has the next name as its id.
use Rattle.std.proofs.Common.{◌≡◌, ◌∙◌, ◌+◌, ℕ, true, false, List, [], ◌∷◌, ◌++◌, length, length-append, Some, None, inl, inr, refl, sym, ap, subst, arith}
use Rattle.std.proofs.lemmas.List.{append_cancel_left}
use Rattle.std.proofs.lemmas.List.FromFn.{length-map-range_with_len, map-range_with_len_more}
use Rattle.bcv_base.specs.declared.id.Id16.{Id16}
use Rattle.bcv_base.specs.declared.names.Draw.TheVariants as draw
use Rattle.bcv_base.specs.Drawn.{Draws}
use Rattle.bcv_base.specs.Numbered.{Counter, counted, numbered, numbered_names}
use Rattle.bcv_cache.specs.Entry as cache
use Rattle.bcv_clientlog.specs.LogParts.{LoadsAs}
use Rattle.bcv_clientstate.specs.Parts.{Parts}
use Rattle.bcv_clientstate.specs.SeenClient.{Free}
use Rattle.bcv_clientstate.specs.UpSides.{risen_parts}
use Rattle.bcv_client.specs.ClientParts.{entries_of, parts_of}
use Rattle.bcv_client.specs.ClientUp.{ComesNew, IsNewlyUp, StartsEmpty, risen_of}
use Rattle.bcv_client.specs.Events.{StandsOver}
use Rattle.bcv_client.specs.Planned.{trouble_of}
use Rattle.bcv_client.specs.declared.client.Client.{Client}
use Rattle.bcv_client.specs.declared.rising.Up.TheVariants as up
use Rattle.bcv_dbmap.proofs.SoundLaws.{empty_is_sound}
use Rattle.bcv_disk.specs.contracts.memory.MemDiskDisk.TheImpl.{ghosts}
use Rattle.bcv_disk.specs.DiskShown.{Trouble}
use Rattle.bcv_disk.specs.Memory.{shown_of, tells_all}
use Rattle.bcv_disk.specs.Record.{content}
use Rattle.bcv_disk.specs.Story.{Story, untouched}
use Rattle.bcv_disk.specs.Troubles.{Suffers}
use Rattle.bcv_disk.specs.declared.memory.MemDisk.{MemDisk}
use Rattle.bcv_model.specs.declared.kept.Kept.{Kept}
use Rattle.bcv_model.specs.Notes.{nothing_kept}
use Rattle.bcv_risen.specs.Rises.{IsNamed, IsUp, Rises}
use Rattle.bcv_risen.specs.RisenSides.{new_free}
use Rattle.bcv_worldlaws.specs.Places.{UpPlace}
use Rattle.bcv_worldlaws.specs.WorldLaws.{IsNewPlace, new_parts}
use Rattle.bcv_worldlaws.proofs.FirstWorld.{new_place}
use Rattle.bcv_world.specs.declared.place.Place.TheVariants as place
use Rattle.bcv_world.specs.Standing.{IsNewUp, IsSetAs, StandsUp}
use Rattle.bcv_world.proofs.RisenPlaces.{leaves_settled}
use Rattle.bcv_world.proofs.SetDisks.{set_after, unburnt_after}

-- ---- the next name

names_more : (n : ℕ) → numbered_names (n + 1) ≡ numbered_names n ++ numbered (n + 1) ∷ []
names_more n = map-range_with_len_more numbered 1 n (n + 1) (omega arith)

module _ (n k : ℕ) (i : Id16) (drawn : numbered_names k ≡ numbered_names n ++ i ∷ []) where
  pub one_more : k ≡ n + 1
  one_more =
      sym (length-map-range_with_len numbered 1 k) ∙ ap length drawn ∙ length-append (numbered_names n) (i ∷ [])
      ∙ ap (λ (x : ℕ). x + 1) (length-map-range_with_len numbered 1 n)

  pub next_is : i ≡ numbered (n + 1)
  next_is =
      let both : i ∷ [] ≡ numbered (n + 1) ∷ [] =
      append_cancel_left (numbered_names n) (i ∷ []) (numbered (n + 1) ∷ []) (sym drawn ∙ ap numbered_names one_more ∙ names_more n) in
      cc both

-- ---- an empty disk

-- it has no note
empty_loads : LoadsAs [] nothing_kept 17
empty_loads = record {
  items = [];
  tail = 17;
  ends = inl (omega arith, refl, refl);
  are = record { notes = []; texts = refl; folds = refl };
  room = record { begin = omega arith; end = tt };
  within = omega arith;
}

-- a disk that is new
pub record IsEmptyDisk (disk : MemDisk) : Type 0 where
  pub platter : disk.platter ≡ untouched
  pub trouble : (shown_of disk).trouble ≡ (let t : Trouble = record { burnt = false; fuse = None; failure = None; calls = 0 } in t)

module _ (disk : MemDisk) (empty_disk : IsEmptyDisk disk) where
  disk_loads : LoadsAs (shown_of disk).seen nothing_kept 17
  disk_loads = subst (λ (s : Story). LoadsAs (content s.acts) nothing_kept 17) (sym empty_disk.platter) empty_loads

  nothing_set : (f : Free) → IsSetAs (shown_of disk).trouble f
  nothing_set f =
      subst (λ (t : Trouble). IsSetAs t f) (sym empty_disk.trouble)
      (record { fused = λ is. absurd (let never : false ≡ true = is in cc); failing = λ is. absurd (let never : false ≡ true = is in cc) })

  -- ---- the client

  module _ (names later : Counter) (slots : ℕ) (c : Client MemDisk ghosts) (risen : Rises tells_all shown_of disk (counted names) (counted later) (risen_of (up.Ready c)))
      (empty : StartsEmpty slots c) (first : ComesNew tells_all shown_of disk slots (up.Ready c)) where
    is_newly : IsNewlyUp shown_of slots 17 c
    is_newly = first tt 17 disk_loads

    -- nothing was left, so its id was drawn
    was_drawn : Draws (counted names) (counted later) (draw.Drawn c.id)
    was_drawn = by risen.ends.named
      where
        u : IsUp tells_all shown_of disk (counted names) (counted later) c.ledger c.id c.seen
        u = risen.ends

        by : IsNamed (counted names) (counted later) u.left c.id c.ledger.databases.kept → Draws (counted names) (counted later) (draw.Drawn c.id)
        by (inl had) =
            let nothing : u.left ≡ nothing_kept = (u.only tt nothing_kept 17 disk_loads).0 in
            let some : None ≡ Some c.id = sym (ap (λ (k : Kept). k.me) nothing) ∙ had.0 in
            absurd (cc (some))
        by (inr new) = new.2

    abbrev one_drawn : numbered_names later.count ≡ numbered_names names.count ++ c.id ∷ []
    one_drawn = was_drawn.names

    over : StandsOver shown_of c [] (new_free slots)
    over = is_newly.stands [] (new_free slots) empty_is_sound refl refl (omega arith)

    stands : StandsUp [] c (new_free slots)
    stands =
        let old : Trouble = (shown_of disk).trouble in
        let s : Suffers old (trouble_of shown_of c) ⊥ = risen.fails.troubles tt in
        record {
          over = over;
          left = leaves_settled [] c (new_free slots) refl over;
          set = set_after old (trouble_of shown_of c) s (new_free slots) (nothing_set (new_free slots));
          unburnt = unburnt_after old (trouble_of shown_of c) s (new_free slots) (nothing_set (new_free slots)) (ap (λ (t : Trouble). t.burnt) empty_disk.trouble) (λ never. never);
        }

    parts_are : parts_of c ≡ new_parts (numbered (names.count + 1)) c.seen
    parts_are =
        empty.parts ∙ ap (λ (k : Kept). risen_parts c.id k c.seen) is_newly.kept
        ∙ ap (λ (i : Id16). new_parts i c.seen) (next_is names.count later.count c.id one_drawn)

    is_new : IsNewPlace slots (numbered (names.count + 1)) (UpPlace (parts_of c) (entries_of c) (new_free slots))
    is_new =
        let i : Id16 = numbered (names.count + 1) in
        let law : IsNewPlace slots i (UpPlace (new_parts i c.seen) [] (new_free slots)) = new_place slots i c.seen in
        subst (λ (q : Parts). IsNewPlace slots i (UpPlace q (entries_of c) (new_free slots))) (sym parts_are)
        (subst (λ (es : List cache.Entry). IsNewPlace slots i (UpPlace (new_parts i c.seen) es (new_free slots))) (sym empty.entries) law)

    pub new_up : IsNewUp names later slots (place.Up c)
    new_up = record {
      now = UpPlace (parts_of c) (entries_of c) (new_free slots);
      drawn = one_more names.count later.count c.id one_drawn;
      stands = (refl, refl, stands);
      fits = over.fits;
      is_new = is_new;
      given = refl;
    }
