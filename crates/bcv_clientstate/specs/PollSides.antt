-- The step of a poll in the machine's words.
use Rattle.std.specs.Prelude.{◌≡◌, ℕ, List, Some, None}
use Rattle.bcv_base.specs.declared.outcome.Outcome.{Outcome}
use Rattle.bcv_base.specs.declared.outcome.Outcome.TheVariants as outcome
use Rattle.bcv_base.specs.declared.seen.Latest.{Latest}
use Rattle.bcv_base.specs.declared.seen.Seen.{Seen}
use Rattle.bcv_base.specs.History.{Item, last_of}
use Rattle.bcv_dbmap.specs.Sound.{Sound}
use Rattle.bcv_machine.specs.Poll.{Polls}
use Rattle.bcv_model.specs.declared.reply.Reply.TheVariants as reply
use Rattle.bcv_clientstate.specs.KnownLaws.{known_of}
use Rattle.bcv_clientstate.specs.Parts.{Parts}
use Rattle.bcv_clientstate.specs.SeenClient.{Free, seen_up, side_of}

-- the client that keeps a manifest that it read, and knows its databases
abbrev pub with_read : Latest → Seen → Parts → Parts
with_read l seen p = record p { latest = Some l; seen = seen; known = known_of p.kept l.manifest }

-- the last manifest was read: the machine polls it
abbrev pub ReadIsPolled : Type 0
ReadIsPolled =
    (moment : ℕ) (past : List Item) (p : Parts) (f : Free) (l : Latest) (seen : Seen) → Sound past → last_of past ≡ Some l.manifest
    → Polls (side_of moment past p f) (seen_up past p) outcome.Ok (reply.Polled l.manifest.number) (side_of moment past (with_read l seen p) f)

-- there is no manifest
abbrev pub NoneIsPolled : Type 0
NoneIsPolled =
    (moment : ℕ) (past : List Item) (p : Parts) (f : Free) → Sound past → last_of past ≡ None
    → Polls (side_of moment past p f) (seen_up past p) outcome.Ok reply.NoContainer (side_of moment past p f)

-- the store failed
abbrev pub FaultIsPolled : Type 0
FaultIsPolled =
    (moment : ℕ) (past : List Item) (p : Parts) (f : Free) (o : Outcome) → (o ≡ outcome.Ok → ⊥)
    → Polls (side_of moment past p f) (seen_up past p) o reply.StoreFault (side_of moment past p f)
