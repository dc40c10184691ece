-- A client that crashed and comes up, in the machine's words: what its journal gives is what it kept, with or without the note in
-- flight, and nothing else is known.
use Rattle.std.specs.Prelude.{◌≡◌, ℕ, false, List, [], Option, None}
use Rattle.bcv_base.specs.declared.id.Id16.{Id16}
use Rattle.bcv_base.specs.declared.seen.Seen.{Seen}
use Rattle.bcv_base.specs.History.{Item}
use Rattle.bcv_clientlog.specs.LogParts.{LoadsAs}
use Rattle.bcv_machine.specs.CrashAndUp.{MayBeLeft, risen}
use Rattle.bcv_machine.specs.State as m
use Rattle.bcv_model.specs.declared.kept.Kept.{Kept}
use Rattle.bcv_clientstate.specs.Journaled.{HoldsKept}
use Rattle.bcv_clientstate.specs.KeptLaws.{IsOrdered}
use Rattle.bcv_clientstate.specs.Parts.{Parts}
use Rattle.bcv_clientstate.specs.SeenClient.{Free, side_of}
use Rattle.bcv_clientstate.specs.SeenKept.{seen_kept}

-- what the image of a crash loads as is what the machine says may be left
abbrev pub LoadsWhatIsLeft : Type 0
LoadsWhatIsLeft =
    (image : List ℕ) (k left : Kept) (most : ℕ) (flight : Option m.Note) → IsOrdered k → HoldsKept image k most flight
    → ((other : Kept) (long : ℕ) → LoadsAs image other long → left ≡ other) → MayBeLeft (seen_kept k) flight (seen_kept left)

-- a client that is up again
abbrev pub risen_parts : Id16 → Kept → Seen → Parts
risen_parts id left seen = record { id = id; closed = false; seen = seen; latest = None; kept = left; known = []; txns = []; tasks = [] }

abbrev pub risen_free : Free → Free
risen_free f = record f { flight = None }

abbrev pub RisesAsMachine : Type 0
RisesAsMachine =
    (moment : ℕ) (past : List Item) (p : Parts) (f : Free) (id : Id16) (left : Kept) (seen : Seen)
    → risen (side_of moment past p f) (seen_kept left) ≡ side_of moment past (risen_parts id left seen) (risen_free f)
