-- What a crash may leave of a client's disk fits the log: where nothing is in flight, after others appended, and after notes.
use Rattle.std.proofs.Common.{◌≡◌, ◌∙◌, ◌⊎◌, ◌≤◌, ◌||◌, ℕ, Bool, true, false, List, [], ◌∷◌, ◌++◌, append-nil, Option, Some, None, inl, inr, refl, sym, subst}
use Rattle.bcv_base.specs.declared.id.Id16.{Id16}
use Rattle.bcv_base.specs.declared.log.Entry.{Entry}
use Rattle.bcv_base.specs.History.{history_of}
use Rattle.bcv_base.specs.Ids.{has_id, id_eq}
use Rattle.bcv_clientlaws.specs.OtherParts.{FitsKept, Includes}
use Rattle.bcv_clientlaws.proofs.OtherParts.{in_front}
use Rattle.bcv_clientlog.specs.LogParts.{LoadsAs, LoadsUpTo, is_shut, log_disk}
use Rattle.bcv_clientlog.specs.declared.log.ClientLog.{ClientLog}
use Rattle.bcv_clientlog.proofs.LoadedLog.{loads_once}
use Rattle.bcv_clientstate.specs.Journaled.{HoldsKept, most_of}
use Rattle.bcv_clientstate.specs.Parts.{mine_of, names_of_pending}
use Rattle.bcv_clientstate.specs.SeenClient.{Free}
use Rattle.bcv_clientstate.specs.SeenKept.{seen_note}
use Rattle.bcv_clientstate.specs.UpSides.{risen_parts}
use Rattle.bcv_dbmap.specs.Growth.{AreLawful}
use Rattle.bcv_disk.specs.Crash.{LeavesOnly}
use Rattle.bcv_disk.specs.DiskShown.{DiskShown, DiskTold}
use Rattle.bcv_machine.specs.State as m
use Rattle.bcv_model.specs.declared.kept.Kept.{Kept}
use Rattle.bcv_model.specs.declared.kept.PendingPub.{PendingPub}
use Rattle.bcv_model.specs.declared.note.Note.{Note}
use Rattle.bcv_model.specs.declared.note.Note.TheVariants as note
use Rattle.bcv_model.specs.Notes.{after_note, kept_published}
use Rattle.bcv_publisher.specs.NotesFit.{FoldsFit}
use Rattle.bcv_publisher.proofs.NotesFit.{client_kept, image_fits}
use Rattle.bcv_risen.specs.RisenSides.{IsDown}
use Rattle.bcv_risen.specs.SeenBases.{seen_in}
use Rattle.bcv_risen.proofs.StaysDown.{growth_leaves_down}
use Rattle.bcv_client.specs.CallNames.{LeavesFit, flight_names}
use Rattle.bcv_client.specs.ClientParts.{entries_of, parts_of}
use Rattle.bcv_client.specs.Events.{StandsOver}
use Rattle.bcv_client.specs.declared.client.Client.{Client}
use Rattle.bcv_client.proofs.TasksTaken.{behind}

-- ---- the same log

-- a client of the same id and log leaves the same
pub same_left : {D : Type 0} {g : _} (shown : D → DiskShown) (old new : Client D g) (log : List Entry) → new.id ≡ old.id → new.ledger.log ≡ old.ledger.log → LeavesFit shown old log
    → LeavesFit shown new log
same_left {D = D} {g = g} shown old new log id same fits = λ image there left most loads.
    subst (λ (i : Id16). FitsKept log i left []) (sym id)
    (fits image (subst (λ (l : ClientLog D g). (shown (log_disk l)).may_leave image) same there) left most loads)

-- ---- nothing in flight

settled : (image : List ℕ) (k : Kept) (most : ℕ) (flight : Option m.Note) → flight ≡ None → HoldsKept image k most flight → LoadsAs image k most
settled image k most flight none (inl loads) = loads
settled image k most flight none (inr h) = absurd (let both : None ≡ Some h.seen = sym none ∙ h.flies in cc)

module _ {D : Type 0} {g : _} (shown : D → DiskShown) (c : Client D g) (log : List Entry) (f : Free) (stands : StandsOver shown c log f) where
  abbrev kept : Kept
  kept = c.ledger.databases.kept

  abbrev kept_fits : FitsKept log c.id kept []
  kept_fits = client_kept log (entries_of c) (parts_of c) stands.fits

  -- each image loads as what is kept
  pub still_left : f.flight ≡ None → LeavesFit shown c log
  still_left none image there left most loads =
      let now : LoadsAs image kept (most_of f) = settled image kept (most_of f) f.flight none (stands.journaled.images image there) in
      subst (λ (k : Kept). FitsKept log c.id k []) (loads_once image kept left (most_of f) most now loads) kept_fits

  -- an open journal has nothing in flight
  pub open_left : is_shut c.ledger.log ≡ false → LeavesFit shown c log
  open_left is_open = still_left (stands.journaled.still is_open)

  -- ---- down

  pub left_is_down : LeavesFit shown c log → IsDown (shown (log_disk c.ledger.log)) log c.id kept f
  left_is_down fits = record { is_id = stands.fits.is_id; ordered = stands.fits.ordered; holds = stands.journaled.images; fits = fits }

-- ---- names

no_name : (i : Id16) (P : Type 0) → has_id i [] ≡ true → P
no_name i P has = absurd (let e : false ≡ true = has in cc)

-- what is pending in what may be left was pending, or is that of the intent in flight
done_pending : (i : Id16) (number : ℕ) (k : Kept) (o : Option PendingPub) → k.pending ≡ o → has_id i (names_of_pending (kept_published number k o).pending) ≡ true
    → has_id i (names_of_pending k.pending) ≡ true
done_pending i number k None is has = has
done_pending i number k (Some p) is has = no_name i (has_id i (names_of_pending k.pending) ≡ true) has

noted_pending : (i : Id16) (k : Kept) (x : Note) (y : m.Note) → seen_note k x ≡ Some y → has_id i (names_of_pending (after_note k x).pending) ≡ true
    → (has_id i (names_of_pending k.pending) ≡ true) ⊎ (has_id i (flight_names (Some y)) ≡ true)
noted_pending i k (note.Me id) y is has = inl has
noted_pending i k (note.First entry number block c) y is has = inl has
noted_pending i k (note.Committed db c) y is has = inl has
noted_pending i k (note.Intent p) y is has = inr (subst (λ (o : Option m.Note). has_id i (flight_names o) ≡ true) is has)
noted_pending i k (note.Done id number) y is has = inl (done_pending i number k k.pending refl has)
noted_pending i k (note.Void id) y is has = no_name i _ has
noted_pending i k (note.Revert db) y is has = inl has

left_pending : (i : Id16) (image : List ℕ) (k left : Kept) (most long : ℕ) (flight : Option m.Note) → HoldsKept image k most flight → LoadsAs image left long
    → has_id i (names_of_pending left.pending) ≡ true → (has_id i (names_of_pending k.pending) ≡ true) ⊎ (has_id i (flight_names flight) ≡ true)
left_pending i image k left most long flight (inl was) loads has =
    inl (subst (λ (j : Kept). has_id i (names_of_pending j.pending) ≡ true) (sym (loads_once image k left most long was loads)) has)
left_pending i image k left most long flight (inr h) loads has =
    let same : after_note k h.note ≡ left = loads_once image (after_note k h.note) left most long h.loads loads in
    subst (λ (o : Option m.Note). (has_id i (names_of_pending k.pending) ≡ true) ⊎ (has_id i (flight_names o) ≡ true)) (sym h.flies)
    (noted_pending i k h.note h.seen h.is_seen (subst (λ (j : Kept). has_id i (names_of_pending j.pending) ≡ true) (sym same) has))

either_of : (P Q R : Type 0) → (P → R) → (Q → R) → P ⊎ Q → R
either_of P Q R one two (inl p) = one p
either_of P Q R one two (inr q) = two q

first_or_rest : (i x : Id16) (rest all : List Id16) → (has_id i (x ∷ []) ≡ true → has_id i all ≡ true) → (has_id i rest ≡ true → has_id i all ≡ true) → has_id i (x ∷ rest) ≡ true
    → has_id i all ≡ true
first_or_rest i x rest all one two has =
    elim (id_eq x i) as (λ (t : Bool). ((t || false) ≡ true → has_id i all ≡ true) → (t || has_id i rest) ≡ true → has_id i all ≡ true) [
      | true ↦ λ first h. first refl
      | false ↦ λ first h. two h
    ] one has

-- ---- growth

module _ {D : Type 0} {g : _} (shown : D → DiskShown) (c : Client D g) (log others : List Entry) (mine : List Id16) (f : Free) (stands : StandsOver shown c log f)
    (all : Includes mine (mine_of (parts_of c))) (flight : Includes mine (flight_names f.flight)) where
  own_names : Includes mine (c.id ∷ names_of_pending c.ledger.databases.kept.pending)
  own_names = in_front mine (c.id ∷ names_of_pending c.ledger.databases.kept.pending) _ all

  left_names : (image : List ℕ) → (shown (log_disk c.ledger.log)).may_leave image → (left : Kept) (most : ℕ) → LoadsAs image left most
      → Includes mine (mine_of (risen_parts c.id left (seen_in left)))
  left_names image there left most loads i has =
      first_or_rest i c.id (names_of_pending left.pending ++ []) mine (in_front mine (c.id ∷ []) (names_of_pending c.ledger.databases.kept.pending) own_names i)
      (λ pending.
      either_of (has_id i (names_of_pending c.ledger.databases.kept.pending) ≡ true) (has_id i (flight_names f.flight) ≡ true) (has_id i mine ≡ true)
      (λ was. own_names i (behind i (c.id ∷ []) (names_of_pending c.ledger.databases.kept.pending) was)) (flight i)
      (left_pending i image c.ledger.databases.kept left (most_of f) most f.flight (stands.journaled.images image there) loads
      (subst (λ (ids : List Id16). has_id i ids ≡ true) (append-nil (names_of_pending left.pending)) pending))) has

  pub grown_left : AreLawful mine (history_of log) others → LeavesFit shown c log → LeavesFit shown c (log ++ others)
  grown_left lawful fits =
      (growth_leaves_down shown (log_disk c.ledger.log) mine log others c.id c.ledger.databases.kept f stands.sound left_names lawful (left_is_down shown c log f stands fits)).fits

-- ---- notes

-- a crash leaves what was kept, or that with the first of some notes, and so on
pub noted_left : {D : Type 0} {g : _} (told : DiskTold) (shown : D → DiskShown)
    (counts_now : (disk : D) → told.tells → (t : ℕ) (image : List ℕ) → t ≤ (shown disk).moment → (shown disk).may_leave image → (shown disk).left_since t image)
    (tells : told.tells) (old new : Client D g) (log : List Entry) (k : Kept) (most : ℕ) (notes : List Note) → new.id ≡ old.id
    → LeavesOnly (shown (log_disk old.ledger.log)) (shown (log_disk new.ledger.log)) (LoadsUpTo k most notes) → FoldsFit log old.id k notes → LeavesFit shown new log
noted_left told shown counts_now tells old new log k most notes id leaves fits = λ image there left long loads.
    subst (λ (i : Id16). FitsKept log i left []) (sym id)
    (image_fits log old.id k most notes fits image
    (leaves.each image (counts_now (log_disk new.ledger.log) tells (shown (log_disk old.ledger.log)).moment image leaves.later there)) left long loads)
