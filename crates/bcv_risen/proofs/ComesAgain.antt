-- A client that comes up is the machine's: one that crashed, and one that comes up for the first time.
use Rattle.std.proofs.Common.{◌≡◌, ◌∙◌, inl, inr, ℕ, ◌+◌, ◌≤◌, List, [], map, Option, Some, None, is_some, refl, sym, ap, subst, arith}
use Rattle.std.proofs.lemmas.Option.{same_Some}
use Rattle.bcv_base.specs.declared.id.Id16.{Id16}
use Rattle.bcv_base.specs.declared.log.Entry.{Entry}
use Rattle.bcv_base.specs.declared.seen.Seen.{Seen}
use Rattle.bcv_base.specs.Drawn.{NamesShown}
use Rattle.bcv_base.specs.History.{history_of}
use Rattle.bcv_clientlaws.specs.OtherParts.{FitsKept}
use Rattle.bcv_clientlaws.proofs.OtherParts.{risen_fits}
use Rattle.bcv_clientlog.specs.LogParts.{LoadsAs, log_area, log_tail}
use Rattle.bcv_clientlog.proofs.LoadedLog.{loads_once}
use Rattle.bcv_clientstate.specs.Fits.{Fits, FitsSeen}
use Rattle.bcv_clientstate.specs.Journaled.{HoldsKept, most_of}
use Rattle.bcv_clientstate.specs.SeenClient.{Free, seen_client}
use Rattle.bcv_clientstate.specs.SeenContainer.{container_of}
use Rattle.bcv_clientstate.specs.SeenKept.{seen_kept}
use Rattle.bcv_clientstate.specs.UpSides.{risen_free, risen_parts}
use Rattle.bcv_clientstate.proofs.UpSides.{loads_what_is_left}
use Rattle.bcv_databases.specs.Table.{local_row, merged_rows, table_of}
use Rattle.bcv_databases.specs.declared.known.Known.{Known}
use Rattle.bcv_dbmap.specs.Sound.{IsSoundLog}
use Rattle.bcv_disk.specs.DiskShown.{DiskShown, DiskTold}
use Rattle.bcv_ledger.specs.declared.ledger.Ledger.{Ledger}
use Rattle.bcv_ledger.proofs.TableLaws.{lists_are_the_machines}
use Rattle.bcv_machine.specs.CrashAndUp.{MayBeLeft}
use Rattle.bcv_machine.specs.LocalWriting.{local_rows}
use Rattle.bcv_machine.specs.State as m
use Rattle.bcv_model.specs.declared.kept.Kept.{Kept}
use Rattle.bcv_model.specs.declared.note.Note.TheVariants as note
use Rattle.bcv_model.specs.Notes.{after_note, nothing_kept}
use Rattle.bcv_risen.specs.Rises.{IsNamed, IsOldOrNamed, IsUp, Rises, name_bytes}
use Rattle.bcv_risen.specs.RisenSides.{RisenAgain, IsDown, RisenFirst, IsUpFirst, IsUpAgain, RisesAgain, RisesFirst, new_free}
use Rattle.bcv_risen.specs.SeenBases.{seen_in}
use Rattle.bcv_risen.specs.declared.risen.Risen.{Risen}
use Rattle.bcv_risen.specs.declared.risen.Risen.TheVariants as risen
use Rattle.bcv_risen.specs.declared.risen.RiseFault.TheVariants as fault
use Rattle.bcv_risen.proofs.SeenFits.{seen_fits}

-- where an id was left, it is the one that is kept
kept_named : (old new : NamesShown) (left : Kept) (own id : Id16) (kept : Kept) → left.me ≡ Some id → IsNamed old new left own kept → (kept ≡ left) × (own ≡ id)
kept_named old new left own id kept me (inl n) = (n.1, same_Some own id (sym n.0 ∙ me))
kept_named old new left own id kept me (inr n) = let none : None ≡ Some id = ap (λ (k : Kept). k.me) (sym n.0) ∙ me in absurd (cc (none))

-- where nothing was left, the id is new
newly_named : (old new : NamesShown) (left : Kept) (own : Id16) (kept : Kept) → left ≡ nothing_kept → IsNamed old new left own kept → kept ≡ after_note nothing_kept (note.Me own)
newly_named old new left own kept nothing (inl n) = let some : None ≡ Some own = ap (λ (k : Kept). k.me) (sym nothing) ∙ n.0 in absurd (cc (some))
newly_named old new left own kept nothing (inr n) = n.1

-- ---- images that load as the file does

module _ (before image : List ℕ) (same : (k : Kept) (most : ℕ) → LoadsAs before k most → LoadsAs image k most) where
  holds_same : (k : Kept) (most : ℕ) (flight : Option m.Note) → HoldsKept before k most flight → HoldsKept image k most flight
  holds_same k most flight (inl loads) = inl (same k most loads)
  holds_same k most flight (inr h) =
      inr (record { note = h.note; may = h.may; seen = h.seen; is_seen = h.is_seen; flies = h.flies; loads = same (after_note k h.note) most h.loads })

-- an image that holds what is kept loads as something
loads_something : (image : List ℕ) (k : Kept) (most : ℕ) (flight : Option m.Note) → HoldsKept image k most flight → (left : Kept) × LoadsAs image left most
loads_something image k most flight (inl loads) = (k, loads)
loads_something image k most flight (inr h) = (after_note k h.note, h.loads)

-- ---- a client that is down

module _ (shown : DiskShown) (log : List Entry) (id : Id16) (k : Kept) (f : Free) (down : IsDown shown log id k f) (there : shown.may_leave shown.seen) where
  pub file : (left : Kept) × LoadsAs shown.seen left (most_of f)
  file = loads_something shown.seen k (most_of f) f.flight (down.holds shown.seen there)

  pub file_fits : (left : Kept) (most : ℕ) → LoadsAs shown.seen left most → FitsKept log id left []
  file_fits left most loads = down.fits shown.seen there left most loads

  -- it has an id
  pub file_named : (most : ℕ) → LoadsAs shown.seen nothing_kept most → ⊥
  file_named most loads = cc ((file_fits nothing_kept most loads).named)

  -- each image of a disk that came back is one of before, or loads as the file did
  image_holds : (old new : NamesShown) (image : List ℕ) → IsOldOrNamed shown old new image → HoldsKept image k (most_of f) f.flight
  image_holds old new image (inl (inl was)) = down.holds image was
  image_holds old new image (inl (inr same)) = holds_same shown.seen image same k (most_of f) f.flight (down.holds shown.seen there)
  image_holds old new image (inr n) =
      let none = (n.3 file.0 (most_of f) file.1).0 in
      absurd (file_named (most_of f) (subst (λ (j : Kept). LoadsAs shown.seen j (most_of f)) none file.1))

  image_fits : (old new : NamesShown) (image : List ℕ) → IsOldOrNamed shown old new image → (left : Kept) (most : ℕ) → LoadsAs image left most → FitsKept log id left []
  image_fits old new image (inl (inl was)) left most loads = down.fits image was left most loads
  image_fits old new image (inl (inr same)) left most loads =
      let one : file.0 ≡ left = loads_once image file.0 left (most_of f) most (same file.0 (most_of f) file.1) loads in
      subst (λ (j : Kept). FitsKept log id j []) one (file_fits file.0 (most_of f) file.1)
  image_fits old new image (inr n) left most loads =
      let none = (n.3 file.0 (most_of f) file.1).0 in
      absurd (file_named (most_of f) (subst (λ (j : Kept). LoadsAs shown.seen j (most_of f)) none file.1))

  pub still_down : (old new : NamesShown) (after : DiskShown) → ((image : List ℕ) → after.may_leave image → IsOldOrNamed shown old new image) → IsDown after log id k f
  still_down old new after each = record {
    is_id = down.is_id;
    ordered = down.ordered;
    holds = λ image left. image_holds old new image (each image left);
    fits = λ image left. image_fits old new image (each image left);
  }

module _ {D : Type 0} {g : _} (told : DiskTold) (shown : D → DiskShown)
    (stands : (d : D) → told.tells → (shown d).may_leave (shown d).seen)
    (counts_now : (d : D) → told.tells → (t : ℕ) (image : List ℕ) → t ≤ (shown d).moment → (shown d).may_leave image → (shown d).left_since t image)
    (disk : D) (old new : NamesShown) where
  -- ---- it is up again

  module _ (t : told.tells) (log : List Entry) (id : Id16) (k : Kept) (f : Free) (sound : IsSoundLog log) (down : IsDown (shown disk) log id k f) where
    module _ (l : Ledger D g) (own : Id16) (seen : Seen) (up : IsUp told shown disk old new l own seen) where
      abbrev kept : Kept
      kept = l.databases.kept

      left_fits : FitsKept log id up.left []
      left_fits = let f0 = up.found t in file_fits (shown disk) log id k f down (stands disk t) up.left f0.0 f0.1

      names : (kept ≡ up.left) × (own ≡ id)
      names = kept_named old new up.left own id kept left_fits.named up.named

      kept_fits : FitsKept log own kept []
      kept_fits =
          let here : FitsKept log own up.left [] = subst (λ (i : Id16). FitsKept log i up.left []) (sym names.1) left_fits in
          subst (λ (j : Kept). FitsKept log own j []) (sym names.0) here

      may_be_left : MayBeLeft (seen_kept k) f.flight (seen_kept kept)
      may_be_left =
          let here : MayBeLeft (seen_kept k) f.flight (seen_kept up.left) =
          loads_what_is_left (shown disk).seen k up.left (most_of f) f.flight down.ordered (down.holds (shown disk).seen (stands disk t))
          (λ other long loads. (up.only t other long loads).0) in
          subst (λ (j : Kept). MayBeLeft (seen_kept k) f.flight (seen_kept j)) (sym names.0) here

      fits : Fits (risen_parts own kept seen) [] log
      fits = risen_fits log own kept seen up.is_id kept_fits (subst (FitsSeen (history_of log)) (sym up.sees) (seen_fits (history_of log) sound kept kept_fits.locals))

      within : log_tail l.log + log_area l.log ≤ most_of f
      within =
          let file0 = file (shown disk) log id k f down (stands disk t) in
          let o = (up.only t file0.0 (most_of f) file0.1).1 in
          let none : name_bytes up.left.me ≡ 0 = ap name_bytes left_fits.named in
          omega (arith, o, none)

      rows : (moment : ℕ) → table_of l.databases ≡ local_rows (container_of moment (history_of log)) (seen_kept kept).locals
      rows moment =
          ap (λ (ks : List Known). merged_rows ks (map local_row kept.locals)) up.known
          ∙ (lists_are_the_machines moment log [] (risen_parts own kept seen) (risen_free f) sound fits).0

      pending : (moment : ℕ) → is_some kept.pending ≡ is_some (seen_kept kept).pending
      pending moment = (lists_are_the_machines moment log [] (risen_parts own kept seen) (risen_free f) sound fits).1

      pub up_again : IsUpAgain shown log id k f l own seen
      up_again = record {
        same = names.1;
        left = may_be_left;
        fits = fits;
        journaled = up.rests (risen_free f) (up.holds t) refl within;
        comes_up = λ moment. (seen_kept kept, may_be_left, rows moment, pending moment, refl);
      }

    again_by : (result : Risen D g) → Rises told shown disk old new result → RisenAgain shown log id k f result
    again_by (risen.Ready l own seen) r = up_again l own seen r.ends
    again_by (risen.Refused back (fault.NotJournal place)) r =
        let file0 = file (shown disk) log id k f down (stands disk t) in
        (r.ends.1 t).3 file0.0 (most_of f) file0.1
    again_by (risen.Refused back fault.DiskFault) r =
        let run = r.any_moment t in
        still_down (shown disk) log id k f down (stands disk t) old new (shown back) (λ image left. run.each image (counts_now back t (shown disk).moment image run.later left))
    again_by (risen.Refused back fault.NamesFault) r = let n = r.ends.1 t in file_named (shown disk) log id k f down (stands disk t) n.0 n.1
    again_by (risen.Refused back fault.NoMemory) r =
        let run = r.any_moment t in
        still_down (shown disk) log id k f down (stands disk t) old new (shown back) (λ image left. run.each image (counts_now back t (shown disk).moment image run.later left))

  pub again : (result : Risen D g) → Rises told shown disk old new result → RisesAgain told shown disk result
  again result r t log id k f sound down = again_by t log id k f sound down result r

  -- ---- it is up for the first time

  module _ (most : ℕ) (t : told.tells) (loads : LoadsAs (shown disk).seen nothing_kept most) where
    module _ (l : Ledger D g) (id : Id16) (seen : Seen) (up : IsUp told shown disk old new l id seen) where
      only : (up.left ≡ nothing_kept) × (log_tail l.log + log_area l.log ≤ most + name_bytes up.left.me)
      only = up.only t nothing_kept most loads

      new_kept : l.databases.kept ≡ after_note nothing_kept (note.Me id)
      new_kept = newly_named old new up.left id l.databases.kept only.0 up.named

      new_seen : seen ≡ seen_in nothing_kept
      new_seen = up.sees ∙ ap seen_in new_kept

      new_fits : (log : List Entry) → Fits (risen_parts id (after_note nothing_kept (note.Me id)) (seen_in nothing_kept)) [] log
      new_fits log =
          risen_fits log id (after_note nothing_kept (note.Me id)) (seen_in nothing_kept) up.is_id
          (record { named = refl; ordered = tt; locals = tt; are_known = record { order = tt; apart = tt; fits = tt }; pending = tt })
          (record { block = tt; number = omega arith })

      pub is_new : IsUpFirst shown most l id seen
      is_new = record {
        kept = new_kept;
        fits = λ log.
            let here : Fits (risen_parts id (after_note nothing_kept (note.Me id)) seen) [] log =
            subst (λ (s : Seen). Fits (risen_parts id (after_note nothing_kept (note.Me id)) s) [] log) (sym new_seen) (new_fits log) in
            subst (λ (j : Kept). Fits (risen_parts id j seen) [] log) (sym new_kept) here;
        journaled = λ f still within.
            let o = only.1 in
            let bytes : name_bytes up.left.me ≡ 44 = ap (λ (j : Kept). name_bytes j.me) only.0 in
            up.rests f (up.holds t) still (omega (arith, o, bytes, within));
        is_new = λ past slots. ap (λ (j : Kept). seen_client past (risen_parts id j seen) (new_free slots)) new_kept;
      }

    first_by : (result : Risen D g) → Rises told shown disk old new result → RisenFirst shown most result
    first_by (risen.Ready l id seen) r = is_new l id seen r.ends
    first_by (risen.Refused back (fault.NotJournal place)) r = (r.ends.1 t).3 nothing_kept most loads
    first_by (risen.Refused back fault.DiskFault) r = tt
    first_by (risen.Refused back fault.NamesFault) r = tt
    first_by (risen.Refused back fault.NoMemory) r = tt

  pub first : (result : Risen D g) → Rises told shown disk old new result → RisesFirst told shown disk result
  first result r t most loads = first_by most t loads result r
