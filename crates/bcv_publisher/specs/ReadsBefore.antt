-- What a publication has read before refused puts lies in the log.
use Rattle.std.specs.Prelude.{List, Some}
use Rattle.bcv_base.specs.declared.id.Id16.{Id16}
use Rattle.bcv_base.specs.declared.log.Entry.{Entry}
use Rattle.bcv_base.specs.declared.seen.Latest.{Latest}
use Rattle.bcv_base.specs.History.{Item, history_of, last_of}
use Rattle.bcv_clientstate.specs.Fits.{FitsSeen}
use Rattle.bcv_dbmap.specs.Kept.{IsKept}
use Rattle.bcv_dbmap.specs.Sound.{IsSoundLog}
use Rattle.bcv_publish.specs.ManifestPut.{refused_once}
use Rattle.bcv_publish.specs.State as publish
use Rattle.bcv_tasks.specs.TaskPut.{IsPassed}
use Rattle.bcv_publisher.specs.WorkStep.{seen_before}

-- a new publication has read nothing
abbrev pub NewHasReadNone : Type 0
NewHasReadNone =
    (past : List Item) (writer id : Id16) → FitsSeen past (seen_before (publish.new_publish writer id))

-- a put that was refused, since another version came in between
abbrev pub RefusedHasRead : Type 0
RefusedHasRead =
    (log : List Entry) (p : publish.State) (read : Latest) → IsSoundLog log → IsKept log read
    → IsPassed (last_of (history_of log)) (Some read)
    → FitsSeen (history_of log) (seen_before (refused_once p read))
