-- A place stays while others append, and moves down and up.
use Rattle.std.proofs.Common.{◌≡◌, ◌+◌, ◌*◌, ◌≤◌, inl, inr, ℕ, true, List, [], ◌++◌, Option, Some, None, refl, sym, subst, arith}
use Rattle.std.specs.List.{flat_map}
use Rattle.std.specs.Option.{option_map}
use Rattle.bcv_base.specs.declared.id.Id16.{Id16}
use Rattle.bcv_base.specs.declared.log.Entry.{Entry}
use Rattle.bcv_base.specs.declared.manifest.Manifest.{Manifest}
use Rattle.bcv_base.specs.declared.seen.Seen.{Seen}
use Rattle.bcv_base.specs.History.{Item, count_of, history_of}
use Rattle.bcv_base.specs.HistoryLaws.{has_id-first, history_after-append}
use Rattle.bcv_base.specs.Ids.{IsId, has_id}
use Rattle.bcv_cache.specs.Entry as cache
use Rattle.bcv_clientlaws.specs.OtherParts.{FitsKept, Includes}
use Rattle.bcv_clientlaws.proofs.OtherParts.{behind_one, in_front, in_rest, includes_all, others_leave_fits, risen_fits, the_first}
use Rattle.bcv_clientstate.specs.Fits.{Fits, FitsSeen}
use Rattle.bcv_clientstate.specs.Parts.{Parts, Task, mine_of, names_of_job, names_of_pending}
use Rattle.bcv_clientlog.proofs.LoadedLog.{loads_once}
use Rattle.bcv_clientstate.specs.Journaled.{HoldsKept, most_of}
use Rattle.bcv_clientstate.specs.SeenClient.{Free}
use Rattle.bcv_clientstate.specs.SeenKept.{seen_kept, seen_pending}
use Rattle.bcv_clientstate.specs.UpSides.{risen_parts}
use Rattle.bcv_clientstate.proofs.UpSides.{loads_what_is_left}
use Rattle.bcv_clientstate.proofs.Growth.{leaves_client, rising, some_kept}
use Rattle.bcv_clientstate.proofs.Bases.{published_after}
use Rattle.bcv_dbmap.specs.Growth.{AreLawful}
use Rattle.bcv_dbmap.specs.Outlived.{IsPublished}
use Rattle.bcv_dbmap.specs.Sound.{IsSoundLog}
use Rattle.bcv_disk.specs.DiskShown.{DiskShown}
use Rattle.bcv_machine.specs.CrashAndUp.{MayBeLeft}
use Rattle.bcv_machine.specs.Noting.{kept_after, kept_published}
use Rattle.bcv_machine.specs.State as m
use Rattle.bcv_machine.specs.State.{pending_ids}
use Rattle.bcv_model.specs.declared.kept.Kept.{Kept}
use Rattle.bcv_model.specs.declared.kept.PendingPub.{PendingPub}
use Rattle.bcv_worldlaws.specs.Places.{DownPlace, UpPlace, flight_names, place_names}
use Rattle.bcv_worldlaws.specs.WorldLaws.{DownCrashes, DownStays, OthersStay, PlaceFalls, PlaceRises, SeenStays}
use Rattle.bcv_worldlaws.proofs.Names.{both_mine, none_mine, one_mine}

-- what a client keeps fits its log by itself
kept_alone : (log : List Entry) (entries : List cache.Entry) (p : Parts) → Fits p entries log → FitsKept log p.id p.kept []
kept_alone log entries p fits =
    record { named = fits.named; ordered = fits.ordered; locals = fits.locals; are_known = record { order = tt; apart = tt; fits = tt }; pending = fits.pending }

-- ---- growth

nothing_seen : Seen
nothing_seen = record { block = None; number = 0 }

nothing_fits : (log : List Entry) → FitsSeen (history_of log) nothing_seen
unfolding nothing_seen
nothing_fits log = record { block = tt; number = omega arith }

module _ (mine : List Id16) (log others : List Entry) (id : Id16) (sound : IsSoundLog log) (lawful : AreLawful mine (history_of log) others) (is_id : IsId id) (own : has_id id mine ≡ true) where
  pub kept_stays : (k : Kept) → Includes mine (names_of_pending k.pending) → FitsKept log id k [] → FitsKept (log ++ others) id k []
  kept_stays k names kept =
      let p : Parts = risen_parts id k nothing_seen in
      let all : Includes mine (mine_of p) = one_mine mine id (names_of_pending k.pending ++ []) own (both_mine mine (names_of_pending k.pending) [] names (none_mine mine)) in
      kept_alone (log ++ others) [] p (others_leave_fits mine log others p [] sound all lawful (risen_fits log id k nothing_seen is_id kept (nothing_fits log)))

-- the names of a place that is down: the client's id, and the others
down_own : (id : Id16) (k : Kept) (f : Free) → has_id id (place_names (DownPlace id k f)) ≡ true
down_own id k f = has_id-first id (names_of_pending k.pending ++ flight_names f.flight)

down_rest : (id : Id16) (k : Kept) (f : Free) → Includes (place_names (DownPlace id k f)) (names_of_pending k.pending ++ flight_names f.flight)
down_rest id k f = let names : List Id16 = place_names (DownPlace id k f) in behind_one names id (names_of_pending k.pending ++ flight_names f.flight) (includes_all names)

down_pending : (id : Id16) (k : Kept) (f : Free) → Includes (place_names (DownPlace id k f)) (names_of_pending k.pending)
down_pending id k f = in_front (place_names (DownPlace id k f)) (names_of_pending k.pending) (flight_names f.flight) (down_rest id k f)

down_flight : (id : Id16) (k : Kept) (f : Free) → Includes (place_names (DownPlace id k f)) (flight_names f.flight)
down_flight id k f = in_rest (place_names (DownPlace id k f)) (names_of_pending k.pending) (flight_names f.flight) (down_rest id k f)

pub others_stay : OthersStay
others_stay log others (UpPlace p entries f) sound lawful fits =
    let names : List Id16 = place_names (UpPlace p entries f) in
    record {
      fits = others_leave_fits names log others p entries sound (in_front names (mine_of p) (flight_names f.flight) (includes_all names)) lawful fits;
      seen = leaves_client log others p entries f sound fits;
    }
others_stay log others (DownPlace id k f) sound lawful fits =
    let names : List Id16 = place_names (DownPlace id k f) in
    record {
      fits = record { is_id = fits.is_id; kept = kept_stays names log others id sound lawful fits.is_id (down_own id k f) k (down_pending id k f) fits.kept };
      seen = refl;
    }

published_stays : (log more : List Entry) (k : Manifest) → IsPublished k (history_of log) → IsPublished k (history_of (log ++ more))
published_stays log more k there = subst (IsPublished k) (sym (history_after-append [] log more)) (published_after k (history_of log) more there)

pub seen_stays : SeenStays
seen_stays log more seen fits = record {
  block =
      some_kept (λ b. (k : Manifest) × IsPublished k (history_of log) × (k.block ≡ b)) (λ b. (k : Manifest) × IsPublished k (history_of (log ++ more)) × (k.block ≡ b))
      (λ b h. (h.0, published_stays log more h.0 h.1, h.2)) seen.block fits.block;
  number = subst (λ (n : List Item). seen.number ≤ count_of n) (sym (history_after-append [] log more)) (rising (history_of log) more seen.number fits.number);
}

-- ---- what may be left

pub pending_same : (o : Option PendingPub) → pending_ids (option_map seen_pending o) ≡ names_of_pending o
pending_same None = refl
pending_same (Some x) = refl

published_names : (mine : List Id16) (n : ℕ) (o : Option m.Pending) (k : m.KeptState) → Includes mine (pending_ids k.pending) → Includes mine (pending_ids (kept_published n o k).pending)
published_names mine n None k all = all
published_names mine n (Some x) k all = none_mine mine

noted_names : (mine : List Id16) (k : m.KeptState) (x : m.Note) → Includes mine (pending_ids k.pending) → Includes mine (flight_names (Some x))
    → Includes mine (pending_ids (kept_after k x).pending)
noted_names mine k (m.Committing name base w) all flies = all
noted_names mine k (m.Reverting name) all flies = all
noted_names mine k (m.Intending p) all flies = flies
noted_names mine k (m.Finishing n) all flies = published_names mine n k.pending k all
noted_names mine k m.Voiding all flies = none_mine mine

left_seen : (mine : List Id16) (k left : m.KeptState) (flight : Option m.Note) → MayBeLeft k flight left → Includes mine (pending_ids k.pending) → Includes mine (flight_names flight)
    → Includes mine (pending_ids left.pending)
left_seen mine k left None may all flies = subst (λ (x : m.KeptState). Includes mine (pending_ids x.pending)) (sym may) all
left_seen mine k left (Some x) (inl same) all flies = subst (λ (y : m.KeptState). Includes mine (pending_ids y.pending)) (sym same) all
left_seen mine k left (Some x) (inr noted) all flies = subst (λ (y : m.KeptState). Includes mine (pending_ids y.pending)) (sym noted) (noted_names mine k x all flies)

-- the names of what may be left are those of the place
left_names : (mine : List Id16) (k left : Kept) (flight : Option m.Note) → MayBeLeft (seen_kept k) flight (seen_kept left) → Includes mine (names_of_pending k.pending)
    → Includes mine (flight_names flight) → Includes mine (names_of_pending left.pending)
left_names mine k left flight may all flies =
    subst (Includes mine) (pending_same left.pending) (left_seen mine (seen_kept k) (seen_kept left) flight may (subst (Includes mine) (sym (pending_same k.pending)) all) flies)

-- ---- down and up

pub place_falls : PlaceFalls
place_falls log p entries f free same fits =
    let names : List Id16 = place_names (UpPlace p entries f) in
    let waiting : List Id16 = names_of_pending p.kept.pending in
    let running : List Id16 = flat_map (λ (t : Task). names_of_job t.job) p.tasks in
    let own : Includes names (mine_of p) = in_front names (mine_of p) (flight_names f.flight) (includes_all names) in
    let flies : Includes names (flight_names f.flight) = in_rest names (mine_of p) (flight_names f.flight) (includes_all names) in
    record {
      fits = record { is_id = fits.is_id; kept = kept_alone log entries p fits };
      names =
          one_mine names p.id (waiting ++ flight_names free.flight) (the_first names p.id (waiting ++ running) own)
          (both_mine names waiting (flight_names free.flight) (in_front names waiting running (behind_one names p.id (waiting ++ running) own))
          (subst (λ (o : Option m.Note). Includes names (flight_names o)) (sym same) flies));
    }

pub place_rises : PlaceRises
place_rises log id k left seen f may fits =
    let names : List Id16 = place_names (DownPlace id k f) in
    let waiting : List Id16 = names_of_pending left.pending in
    let own : Includes names waiting = left_names names k left f.flight may (down_pending id k f) (down_flight id k f) in
    record {
      fits = fits;
      names =
          one_mine names id ((waiting ++ []) ++ []) (down_own id k f)
          (both_mine names (waiting ++ []) [] (both_mine names waiting [] own (none_mine names)) (none_mine names));
    }

pub down_stays : {D : Type 0} (shown : D → DiskShown) (disk : D) → DownStays shown disk
down_stays shown disk log others id k f sound lawful down =
    let names : List Id16 = place_names (DownPlace id k f) in
    record {
      is_id = down.is_id;
      ordered = down.ordered;
      holds = down.holds;
      fits = λ image there left most loads.
          let may : MayBeLeft (seen_kept k) f.flight (seen_kept left) =
          loads_what_is_left image k left (most_of f) f.flight down.ordered (down.holds image there) (λ other long also. loads_once image left other most long loads also) in
          kept_stays names log others id sound lawful down.is_id (down_own id k f) left (left_names names k left f.flight may (down_pending id k f) (down_flight id k f))
          (down.fits image there left most loads);
    }

pub down_crashes : {D : Type 0} (shown : D → DiskShown) (was disk : D) → DownCrashes shown was disk
down_crashes shown was disk log id k f free noted flight left down = record {
  is_id = down.is_id;
  ordered = down.ordered;
  holds = λ image there.
      subst (λ (o : Option m.Note). HoldsKept image k (most_of free) o) (sym flight)
      (subst (λ (n : ℕ). HoldsKept image k (17 + 2 * n) f.flight) (sym noted) (down.holds image (left image there)));
  fits = λ image there. down.fits image (left image there);
}
