-- The open transactions after a fetch.
use Rattle.std.proofs.Common.{◌≡◌, ◌∙◌, ℕ, ◌≤◌, Bool, true, false, cond, List, Option, Some, None, sym, ap, subst, arith}
use Rattle.std.specs.List.{AllByRecursion}
use Rattle.std.specs.Option.{option_map_or}
use Rattle.bcv_base.specs.declared.id.Id16.{Id16}
use Rattle.bcv_cache.specs.Entry.{Blocks, Entry}
use Rattle.bcv_cache.specs.Cache.{KeepsPinned, has_free_slot, has_id, has_room, last_unpinned, last_unpinned_dropped, room_made, slot_of, without}
use Rattle.bcv_snapshot.specs.declared.fetched.Fetched.{Fetched}
use Rattle.bcv_snapshot.specs.declared.fetched.Fetched.TheVariants as fetched
use Rattle.bcv_snapshot.specs.declared.held_block.HeldBlock.{HeldBlock}
use Rattle.bcv_snapshot.specs.BlockFetch.{BlockFetches, FetchLeaves}
use Rattle.bcv_snapshot.specs.Pins.{pins_in}
use Rattle.bcv_snapshot.proofs.CallLaws.{all_found_first}
use Rattle.bcv_snapshot.proofs.HeldBlocks.{all_imply, all_without}
use Rattle.bcv_snapshot.proofs.PinLaws.{pins_filled}
use Rattle.bcv_store.specs.StoreShown.{StoreShown, StoreTold}
use Rattle.bcv_transaction.specs.declared.open_txn.OpenTxn.{OpenTxn}
use Rattle.bcv_transaction.specs.ListCalls.{SameSize}
use Rattle.bcv_transaction.specs.Open.{AreOpenIn, all_held}
use Rattle.bcv_transaction.proofs.OpenMoves.{same_size}
use Rattle.bcv_transaction.proofs.PinCounts.{HasNoOthers}

-- what the cache is after a fetch: as large, and with no other pins
record Fetches (hs : List HeldBlock) (c d : Blocks) : Type 0 where
  size : SameSize c d
  counts : HasNoOthers hs d.entries

same : (hs : List HeldBlock) (c d : Blocks) → HasNoOthers hs c.entries → d ≡ c → Fetches hs c d
same hs c d all is = record { size = same_size c d is; counts = subst (λ (z : Blocks). HasNoOthers hs z.entries) (sym is) all }

-- what holds of each entry holds of those that stay where one more comes
pub all_room_made : (P : Entry → Type 0) (c : Blocks) → AllByRecursion P c.entries → AllByRecursion P (room_made c)
all_room_made P c all = by (has_free_slot c)
  where
    dropped : (o : Option Entry) → AllByRecursion P (option_map_or (λ (e : Entry). without (has_id e.id) c.entries) o c.entries)
    dropped None = all
    dropped (Some e) = all_without P (has_id e.id) c.entries all

    by : (b : Bool) → AllByRecursion P (cond b c.entries (last_unpinned_dropped c.entries))
    by true = all
    by false = dropped (last_unpinned c.entries)

left : (hs : List HeldBlock) (id : Id16) (c d : Blocks) (r : Fetched) → HasNoOthers hs c.entries → FetchLeaves id c r d → Fetches hs c d
left hs id c d (fetched.In slot) all leaves = record {
  size = record { most = ap (λ (z : Blocks). z.most) leaves.2; block = ap (λ (z : Blocks). z.block) leaves.2 };
  counts = subst (λ (z : Blocks). HasNoOthers hs z.entries) (sym leaves.2) (omega arith, all_room_made (λ (e : Entry). e.count ≤ pins_in e.slot hs) c all);
}
left hs id c d fetched.CacheFull all leaves = absurd leaves
left hs id c d fetched.Gone all leaves = same hs c d all leaves
left hs id c d (fetched.BadBlock len) all leaves = same hs c d all leaves.1
left hs id c d fetched.StoreFault all leaves = same hs c d all leaves
left hs id c d fetched.NoMemory all leaves = same hs c d all leaves

by_fetch : (hs : List HeldBlock) (o : Option ℕ) (room : Bool) (store : StoreTold) (old new : StoreShown) (id : Id16) (c d : Blocks) (r : Fetched) → HasNoOthers hs c.entries
    → BlockFetches o room store old new id c r d → Fetches hs c d
by_fetch hs (Some slot) room store old new id c d r all does = record {
  size = record { most = ap (λ (z : Blocks). z.most) does.1; block = ap (λ (z : Blocks). z.block) does.1 };
  counts = subst (λ (z : Blocks). HasNoOthers hs z.entries) (sym does.1) (all_found_first (λ (e : Entry). e.count ≤ pins_in e.slot hs) id c.entries all);
}
by_fetch hs None false store old new id c d r all does = same hs c d all does.1
by_fetch hs None true store old new id c d r all does = left hs id c d r all does.leaves

pub size_fetched : (ts : List OpenTxn) (store : StoreTold) (old new : StoreShown) (id : Id16) (c d : Blocks) (r : Fetched) → AreOpenIn c ts
    → BlockFetches (slot_of id c.entries) (has_room c) store old new id c r d → SameSize c d
size_fetched ts store old new id c d r opened does = (by_fetch (all_held ts) (slot_of id c.entries) (has_room c) store old new id c d r opened.no_others does).size

pub open_fetched : (ts : List OpenTxn) (store : StoreTold) (old new : StoreShown) (id : Id16) (c d : Blocks) (r : Fetched) → AreOpenIn c ts → KeepsPinned c.entries d.entries
    → BlockFetches (slot_of id c.entries) (has_room c) store old new id c r d → AreOpenIn d ts
open_fetched ts store old new id c d r opened keeps does =
    let f = by_fetch (all_held ts) (slot_of id c.entries) (has_room c) store old new id c d r opened.no_others does in
    record {
      numbers = opened.numbers;
      differ = opened.differ;
      txns = opened.txns;
      blocks = all_imply (λ (t : OpenTxn). t.txn.base.block ≡ c.block) (λ (t : OpenTxn). t.txn.base.block ≡ d.block) (λ t is. is ∙ sym f.size.block) ts opened.blocks;
      pins = pins_filled (all_held ts) c.entries d.entries keeps opened.pins;
      no_others = f.counts;
    }
