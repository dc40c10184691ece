-- Between two calls of a client others may append lawful entries: the client still fits the log, and the machine's client that
-- it is seen as is the same.
use Rattle.std.specs.Prelude.{◌≡◌, List, ◌++◌}
use Rattle.bcv_base.specs.declared.log.Entry.{Entry}
use Rattle.bcv_base.specs.History.{history_of}
use Rattle.bcv_cache.specs.Entry as cache
use Rattle.bcv_dbmap.specs.Growth.{AreLawful}
use Rattle.bcv_dbmap.specs.Sound.{IsSoundLog}
use Rattle.bcv_clientstate.specs.Fits.{Fits}
use Rattle.bcv_clientstate.specs.Parts.{Parts, mine_of}
use Rattle.bcv_clientstate.specs.SeenClient.{Free, seen_client}

abbrev pub GrowthFits : Type 0
GrowthFits =
    (log others : List Entry) (p : Parts) (entries : List cache.Entry) → IsSoundLog log → AreLawful (mine_of p) (history_of log) others
    → Fits p entries log → Fits p entries (log ++ others)

abbrev pub GrowthLeavesClient : Type 0
GrowthLeavesClient =
    (log more : List Entry) (p : Parts) (entries : List cache.Entry) (f : Free) → IsSoundLog log → Fits p entries log
    → seen_client (history_of (log ++ more)) p f ≡ seen_client (history_of log) p f
