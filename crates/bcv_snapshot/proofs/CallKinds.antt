-- What each call says of the cache makes it a call that leaves an image as it was.
use Rattle.std.proofs.Common.{ℕ, Bool, true, false, List, Result, Ok, Err, ap, inl, inr}
use Rattle.std.specs.declared.alloc.AllocError.{AllocError}
use Rattle.bcv_base.specs.declared.id.Id16.{Id16}
use Rattle.bcv_base.specs.History.{Item}
use Rattle.bcv_base.specs.Image.{Writes}
use Rattle.bcv_cache.specs.Entry.{Blocks}
use Rattle.bcv_snapshot.specs.declared.fetched.Fetched.{Fetched}
use Rattle.bcv_snapshot.specs.declared.fetched.Fetched.TheVariants as fetched
use Rattle.bcv_snapshot.specs.declared.place.Place.{Place}
use Rattle.bcv_snapshot.specs.declared.place.Place.TheVariants as place
use Rattle.bcv_snapshot.specs.BlockFetch.{FetchLeaves, SoundFetchEnds}
use Rattle.bcv_base.specs.declared.outcome.Outcome.{Outcome}
use Rattle.bcv_snapshot.specs.CallLaw.{MayCall, CallsChangeNoImage}
use Rattle.bcv_snapshot.specs.Opened.{Opened}
use Rattle.bcv_snapshot.specs.TxnCalls.{TxnFrees, TxnHolds, TxnPlaces}

place_calls : (past : List Item) (t : Opened) (cs : List Writes) (c d : Blocks) (p : ℕ) (r : Place) → TxnPlaces t cs c p r d → MayCall past c d
place_calls past t cs c d p place.BadPage at = inl at.1
place_calls past t cs c d p place.Local at = inl at.2
place_calls past t cs c d p place.Zeros at = inl at.1
place_calls past t cs c d p (place.Cached slot) at = inr (inl (at.1.id, ap (λ (x : Blocks). x.entries) at.1.first))
place_calls past t cs c d p (place.Absent id) at = inl at.3

hold_calls : (past : List Item) (held : Bool) (t u : Opened) (c d : Blocks) (p slot : ℕ) (r : Result (Unit {0}) AllocError) → TxnHolds held t c p slot r u d → MayCall past c d
hold_calls past true t u c d p slot (Ok done) holds = inl holds.1
hold_calls past true t u c d p slot (Err e) holds = absurd holds
hold_calls past false t u c d p slot (Ok done) holds = inr (inr (inl (slot, ap (λ (x : Blocks). x.entries) holds.pinned)))
hold_calls past false t u c d p slot (Err e) holds = inl holds.1

free_calls : (past : List Item) (t u : Opened) (c d : Blocks) (p : ℕ) (r : Bool) → TxnFrees t c p r u d → MayCall past c d
free_calls past t u c d p true frees = inr (inr (inr (inl (frees.1.pin.slot, ap (λ (x : Blocks). x.entries) frees.1.unpinned))))
free_calls past t u c d p false frees = inl frees.2

-- a get of a block
get_calls : (o : Outcome) (past : List Item) (id : Id16) (c d : Blocks) (r : Fetched) → FetchLeaves id c r d → SoundFetchEnds o past id c r d → MayCall past c d
get_calls o past id c d (fetched.In slot) leaves ends = inr (inr (inr (inr (inr (slot, id, ends.0, ends.2, ends.4)))))
get_calls o past id c d fetched.CacheFull leaves ends = absurd leaves
get_calls o past id c d fetched.Gone leaves ends = inl leaves
get_calls o past id c d (fetched.BadBlock len) leaves ends = inl leaves.1
get_calls o past id c d fetched.StoreFault leaves ends = inl leaves
get_calls o past id c d fetched.NoMemory leaves ends = inl leaves

pub calls_change_no_image : CallsChangeNoImage
calls_change_no_image = record {
  places = place_calls;
  holds = hold_calls;
  frees = free_calls;
  ends = λ past hs c d is. inr (inr (inr (inr (inl (hs, ap (λ (x : Blocks). x.entries) is)))));
  finds = λ past id c d is. inr (inl (id, ap (λ (x : Blocks). x.entries) is));
  gets = get_calls;
}
