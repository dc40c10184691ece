use Rattle.std.proofs.Common.{◌≡◌, ◌++◌, take}
use Rattle.bcv_base.specs.Names.{hex_of}
use Rattle.bcv_script.proofs.writing.add_hex.Given as goal

abbrev pub invariant-loop-byte : goal.invariant-loop-byte
invariant-loop-byte l = l.into.items ≡ l.initial.into.items ++ hex_of (take l.byte-index l.bytes)
