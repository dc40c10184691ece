-- Marks by which most ids are known not to be a dead block's.
use Rattle.std.specs.Prelude.{◌≡◌, ℕ, ◌%◌, ◌^◌, ◌≤◌, Bool, true, false, List, length, get_or}
use Rattle.std.specs.Int.{w128, from_be_bytes}
use Rattle.std.specs.List.{list_any}
use Rattle.bcv_base.specs.declared.id.Id16.{Id16}
use Rattle.bcv_base.specs.declared.manifest.Dead.{Dead}
use Rattle.bcv_base.specs.Ids.{id_eq}

-- the id is a dead block's
abbrev pub is_dead_id : List Dead → Id16 → Bool
is_dead_id dead i = list_any (λ e. id_eq i e.id) dead

-- where an id's mark stands among so many: at its last eight bytes as a number, modulo so many
abbrev pub place_of_mark : ℕ → Id16 → ℕ
place_of_mark count i = (from_be_bytes w128 i.0 % 2 ^ 64) % count

-- the place of each dead block's id is marked
pub record AreMarked (dead : List Dead) (marks : List Bool) : Type 0 where
  pub some : 1 ≤ length marks
  pub each : (i : Id16) → is_dead_id dead i ≡ true → get_or marks (place_of_mark (length marks) i) false ≡ true
