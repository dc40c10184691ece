-- Etags that are the numbers of their entries.
use Rattle.std.specs.Prelude.{ℕ, ◌+◌, Bool, true, ◌&&◌, ◌==◌, List, [], ◌∷◌}
use Rattle.bcv_base.specs.declared.log.Entry.{Entry}
use Rattle.bcv_base.specs.declared.log.Entry.TheVariants as entry

-- the entry is a deletion, or has this etag
abbrev pub is_numbered : ℕ → Entry → Bool
is_numbered number (entry.Put own name bytes etag) = etag == number
is_numbered number (entry.Deleted own name at) = true

-- the etag of each put is the number of the entries up to it, which are so many more than those listed here
abbrev pub are_numbered : ℕ → List Entry → Bool
are_numbered before [] = true
are_numbered before (e ∷ es) = is_numbered (before + 1) e && are_numbered (before + 1) es
