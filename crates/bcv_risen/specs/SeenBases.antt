-- What a client that comes up has seen of its container.
use Rattle.std.specs.Prelude.{ℕ, max, List, [], ◌∷◌, Option, slice_get}
use Rattle.std.specs.Option.{option_map}
use Rattle.bcv_base.specs.declared.seen.Seen.{Seen}
use Rattle.bcv_model.specs.declared.kept.Kept.{Kept}
use Rattle.bcv_model.specs.declared.kept.Local.{Local}

-- the block size of databases with commits, where there are some
abbrev pub first_block : List Local → Option ℕ
first_block ls = option_map (λ (l : Local). l.block) (slice_get ls 0)

-- the greatest number of a base, or 0
abbrev pub greatest_base : List Local → ℕ
greatest_base [] = 0
greatest_base (l ∷ ls) = max l.number (greatest_base ls)

-- what was seen, by the bases of the databases with commits
abbrev pub seen_in : Kept → Seen
seen_in k = record { block = first_block k.locals; number = greatest_base k.locals }
