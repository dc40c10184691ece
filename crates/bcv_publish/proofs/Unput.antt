-- A name that no manifest has listed has an object exactly where it was put; where it has none, the put of a block under it is lawful.
use Rattle.std.proofs.Common.{◌≡◌, ℕ, Bool, true, false, List, Option, Some, None, is_none, inl, inr, ap}
use Rattle.bcv_base.specs.declared.id.Id16.{Id16}
use Rattle.bcv_base.specs.declared.log.Entry.{Entry}
use Rattle.bcv_base.specs.declared.object.ObjName.TheVariants as object
use Rattle.bcv_base.specs.History.{Item, history_of, first_put}
use Rattle.bcv_base.specs.Ids.{has_id}
use Rattle.bcv_base.specs.Log.{Object, object_of}
use Rattle.bcv_dbmap.specs.BlockLaws.{IsObjectOf}
use Rattle.bcv_dbmap.specs.Growth.{PutsNew}
use Rattle.bcv_dbmap.specs.Honest.{AreApart}
use Rattle.bcv_dbmap.specs.Past.{was_listed, was_deleted}
use Rattle.bcv_dbmap.specs.Sound.{Sound}
use Rattle.bcv_dbmap.proofs.BlockLaws.{block_is_first_put}
use Rattle.bcv_dbmap.proofs.Bools.{not_passed, not_both}
use Rattle.bcv_dbmap.proofs.PastLaws.{deleted_dead, dead_listed}

-- a block that no manifest has listed was not deleted
unlisted_stays : (past : List Item) (i : Id16) → Sound past → was_listed past i ≡ false → was_deleted past i ≡ false
unlisted_stays past i s unlisted = not_passed (was_deleted past i) (λ gone. not_both (was_listed past i) (dead_listed past i s.made (deleted_dead past i s.safe gone)) unlisted)

-- whether there is an object, by what was put
pub record IsUnput (absent : Bool) (first : Option (List ℕ)) : Type 0 where
  pub none : absent ≡ true → first ≡ None
  pub some : absent ≡ false → is_none first ≡ false

unput_by : (past : List Item) (i : Id16) (x : Option Object) → IsObjectOf past i x → was_deleted past i ≡ false → IsUnput (is_none x) (first_put past i)
unput_by past i None (inl unput) kept = record { none = λ h. unput; some = λ h. absurd (cc) }
unput_by past i None (inr gone) kept = absurd (cc)
unput_by past i (Some x) put kept = record { none = λ h. absurd (cc); some = λ h. ap (λ (o : Option (List ℕ)). is_none o) put.0 }

pub unput_of : (log : List Entry) (i : Id16) → Sound (history_of log) → was_listed (history_of log) i ≡ false → IsUnput (is_none (object_of (object.Block i) log)) (first_put (history_of log) i)
unput_of log i s unlisted = unput_by (history_of log) i (object_of (object.Block i) log) (block_is_first_put log i s) (unlisted_stays (history_of log) i s unlisted)

-- its put is lawful to every other client that shares no name
pub puts_new : (mine theirs : List Id16) (log : List Entry) (i : Id16) → AreApart mine theirs → has_id i mine ≡ true → was_listed (history_of log) i ≡ false
    → first_put (history_of log) i ≡ None → PutsNew theirs (history_of log) i
puts_new mine theirs log i apart is unlisted unput = record { unput = unput; unlisted = unlisted; not_mine = apart i is }
