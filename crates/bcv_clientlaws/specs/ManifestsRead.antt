-- A client that has read a manifest of the log fits it: what it keeps of the manifest, what it saw, and what it knows.
use Rattle.std.specs.Prelude.{List, Some}
use Rattle.bcv_base.specs.declared.log.Entry.{Entry}
use Rattle.bcv_base.specs.declared.manifest.Manifest.{Manifest}
use Rattle.bcv_base.specs.declared.seen.Latest.{Latest}
use Rattle.bcv_base.specs.declared.seen.Seen.{Seen}
use Rattle.bcv_base.specs.History.{Item, history_of}
use Rattle.bcv_cache.specs.Entry as cache
use Rattle.bcv_dbmap.specs.Kept.{IsKept}
use Rattle.bcv_dbmap.specs.Sound.{Sound, IsSoundLog}
use Rattle.bcv_poller.specs.ManifestPoll.{IsSeenIn}
use Rattle.bcv_clientstate.specs.Fits.{Fits, FitsSeen}
use Rattle.bcv_clientstate.specs.Parts.{Parts}
use Rattle.bcv_clientstate.specs.PollSides.{with_read}

-- what is seen of a container by a manifest
abbrev pub seen_of : Manifest → Seen
seen_of m = record { block = Some m.block; number = m.number }

-- it is so in the log that has the manifest
abbrev pub ReadIsSeen : Type 0
ReadIsSeen =
    (log : List Entry) (l : Latest) → IsSoundLog log → IsKept log l
    → FitsSeen (history_of log) (seen_of l.manifest)

-- the client knows the manifest's databases then, whatever it has seen that is so
abbrev pub ReadFits : Type 0
ReadFits =
    (log : List Entry) (p : Parts) (entries : List cache.Entry) (l : Latest) (seen : Seen) → IsSoundLog log
    → Fits p entries log → IsKept log l
    → FitsSeen (history_of log) seen → Fits (with_read l seen p) entries log

-- a poll meets no manifest that contradicts what was seen
abbrev pub SeenIsSeenIn : Type 0
SeenIsSeenIn = (past : List Item) (seen : Seen) → Sound past → FitsSeen past seen → IsSeenIn past seen
