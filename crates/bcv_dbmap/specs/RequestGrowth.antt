-- How a log grows in one request.
use Rattle.std.specs.Prelude.{◌≡◌, ◌≤◌, List, [], ◌++◌, length}
use Rattle.bcv_base.specs.declared.id.Id16.{Id16}
use Rattle.bcv_base.specs.declared.log.Entry.{Entry}
use Rattle.bcv_base.specs.History.{history_of}
use Rattle.bcv_dbmap.specs.Growth.{AreLawful}
use Rattle.bcv_dbmap.specs.Honest.{AreApart}
use Rattle.bcv_dbmap.specs.Sound.{Sound}

-- others append lawful entries, and none where the store is alone; after them comes at most one own entry, which is lawful to
-- every client that shares no name; and the log stays sound
pub record RequestGrowth (alone : Type 0) (mine : List Id16) (before after : List Entry) : Type 0 where
  pub others : List Entry
  pub none : alone → others ≡ []
  pub lawful : AreLawful mine (history_of before) others
  pub own : List Entry
  pub one : length own ≤ 1
  pub grown : after ≡ (before ++ others) ++ own
  pub own_lawful : (theirs : List Id16) → AreApart mine theirs → AreLawful theirs (history_of (before ++ others)) own
  pub sound : Sound (history_of after)
