-- Why a replay ended: a fault comes only where its count rose, and bad words never.
use Rattle.std.proofs.Common.{◌≡◌, ◌≢◌, ℕ, ◌≤◌, List, arith}
use Rattle.std.specs.Prelude.{Option, None, Some}
use Rattle.bcv_base.specs.Faults.{Rose}
use Rattle.bcv_world.specs.declared.world.World.{World}
use Rattle.bcv_commands.specs.declared.status.Status.{Status}
use Rattle.bcv_commands.specs.declared.status.Status.TheVariants as status
use Rattle.bcv_top.specs.Headline.{HasCauses}
use Rattle.bcv_top.specs.Led.{Ends, SaysLast, end_of}

pub rose_since : (a b c : ℕ) → a ≤ b → Rose b c → Rose a c
rose_since a b c h r = omega arith

-- neither a fault of the input nor bad words
abbrev pub IsLineEnd : Status → Type 0
IsLineEnd s = (s ≢ status.ReadFault) × (s ≢ status.BadWords)

pub line_end : (s : Status) (n : ℕ) (old new : Option World) (line w : List ℕ) → Ends s n old new line w → IsLineEnd s
line_end (status.BadScript at place) n old new line w e = (λ x. cc, λ x. cc)
line_end status.WriteFault n old new line w e = (λ x. cc, λ x. cc)
line_end status.NoMemory n old new line w e = (λ x. cc, λ x. cc)
line_end _ n old new line w e = absurd e

pub last_end : (s : Status) (n : ℕ) (old new : Option World) (line w : List ℕ) → SaysLast s n old new line w → IsLineEnd s
last_end status.Done n old new line w e = (λ x. cc, λ x. cc)
last_end (status.BadScript at place) n old new line w e = (λ x. cc, λ x. cc)
last_end status.WriteFault n old new line w e = (λ x. cc, λ x. cc)
last_end status.NoMemory n old new line w e = (λ x. cc, λ x. cc)
last_end _ n old new line w e = absurd e

pub caused : (ib ie ob om oe : ℕ) (s : Status) → IsLineEnd s → ob ≤ om → (s ≡ status.WriteFault → Rose om oe) → HasCauses ib ie ob oe s
caused ib ie ob om oe s e h f = record { read = λ x. absurd (e.0 x); write = λ x. rose_since ob om oe h (f x) }

pub caused_by_input : (ib im ie ob oe : ℕ) → ib ≤ im → Rose im ie → HasCauses ib ie ob oe status.ReadFault
caused_by_input ib im ie ob oe h f = record { read = λ x. rose_since ib im ie h f; write = λ x. cc }

pub end_line_end : (w : Option World) → IsLineEnd (end_of w)
end_line_end None = (λ x. cc, λ x. cc)
end_line_end (Some w) = (λ x. cc, λ x. cc)

pub end_caused : (ib ie ob oe : ℕ) (w : Option World) → HasCauses ib ie ob oe (end_of w)
end_caused ib ie ob oe None = record { read = λ x. cc; write = λ x. cc }
end_caused ib ie ob oe (Some w) = record { read = λ x. cc; write = λ x. cc }
