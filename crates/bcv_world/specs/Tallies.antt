-- What a world's replies were, by their number.
use Rattle.std.specs.Prelude.{◌≡◌, ℕ, ◌+◌, ◌≤◌, Bool, true, false, if◌then◌else◌, is_some}
use Rattle.bcv_model.specs.declared.reply.Reply.{Reply}
use Rattle.bcv_model.specs.declared.reply.Reply.TheVariants as reply
use Rattle.bcv_model.specs.declared.reply.Said.{Said}
use Rattle.bcv_world.specs.declared.tally.Tally.{Tally}

-- a page, a task that goes on, or another reply
pub data ReplyKind : Type 0 where
  IsPage : ReplyKind
  IsGoingOn : ReplyKind
  IsOther : ReplyKind

abbrev pub kind_of_reply : Reply → ReplyKind
kind_of_reply (reply.Page bytes) = IsPage
kind_of_reply (reply.Task number left) = IsGoingOn
kind_of_reply (reply.Working left) = IsGoingOn
kind_of_reply _ = IsOther

abbrev pub with_reply : ReplyKind → Tally → Tally
with_reply IsPage t = record t { pages = t.pages + 1 }
with_reply IsGoingOn t = record t { working = t.working + 1 }
with_reply IsOther t = record t { other = t.other + 1 }

-- the tally with one event more, by what was said of it
abbrev pub tallied : Tally → Said → Tally
tallied t said =
    with_reply (kind_of_reply said.reply)
    (record t { events = t.events + 1; versions = if is_some said.published then t.versions + 1 else t.versions })

-- each event had one reply, and published one version at most
pub record IsTally (t : Tally) : Type 0 where
  pub replies : t.pages + t.working + t.other ≡ t.events
  pub published : t.versions ≤ t.events
