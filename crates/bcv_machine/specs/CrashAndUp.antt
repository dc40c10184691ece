-- A client's crash, what a crash may leave, and how the client comes up; and what is set to strike its disk.
use Rattle.std.specs.Prelude.{◌≡◌, ◌⊎◌, true, false, Option, Some, None, is_some}
use Rattle.bcv_model.specs.declared.reply.Reply.{Reply}
use Rattle.bcv_model.specs.declared.reply.Reply.TheVariants as reply
use Rattle.bcv_machine.specs.LocalWriting.{local_rows}
use Rattle.bcv_machine.specs.Noting.{kept_after}
use Rattle.bcv_machine.specs.State.{KeptState, Note, Side, new_up, with_client}

-- ---- down

-- the client is down, with what it keeps and the note in flight
abbrev pub crashed : Side → Side
crashed s = with_client s (record s.client { up = None })

abbrev pub Crashes : Side → Reply → Side → Type 0
Crashes s reply.Crashed t = t ≡ crashed s
Crashes s _ t = ⊥

-- ---- up

-- what a crash may have left: what is kept, or that with the note in flight
abbrev pub MayBeLeft : KeptState → Option Note → KeptState → Type 0
MayBeLeft kept None k = k ≡ kept
MayBeLeft kept (Some x) k = (k ≡ kept) ⊎ (k ≡ kept_after kept x)

-- the client once it is up with this: nothing is in flight, and nothing else is known
abbrev pub risen : Side → KeptState → Side
risen s k = with_client s (record s.client { kept = k; flight = None; up = Some new_up })

-- the client is up and shows what is left; or its disk fails or crashes, where that is set, and it stays down
abbrev pub ComesUp : Side → Reply → Side → Type 0
ComesUp s (reply.UpAgain rows pending) t =
    (k : KeptState) × MayBeLeft s.client.kept s.client.flight k × (rows ≡ local_rows s.container k.locals) × (pending ≡ is_some k.pending) × (t ≡ risen s k)
ComesUp s reply.DiskFault t = (s.client.failing ≡ true) × (t ≡ with_client s (record s.client { failing = false }))
ComesUp s reply.Crashed t = (s.client.fused ≡ true) × (t ≡ with_client s (record s.client { fused = false }))
ComesUp s _ t = ⊥

-- ---- what is set on the disk

abbrev pub SetsFuse : Side → Reply → Side → Type 0
SetsFuse s reply.Fine t = t ≡ with_client s (record s.client { fused = true })
SetsFuse s _ t = ⊥

abbrev pub SetsFailure : Side → Reply → Side → Type 0
SetsFailure s reply.Fine t = t ≡ with_client s (record s.client { failing = true })
SetsFailure s _ t = ⊥
