-- How many blocks databases and versions need.
use Rattle.std.specs.Prelude.{ℕ, ◌+◌, List, [], ◌∷◌, length}
use Rattle.bcv_base.specs.ManifestRules.{blocks_needed}
use Rattle.bcv_base.specs.Version.{Database, Version}

-- the blocks that the images of some databases need, for a block size
abbrev pub database_blocks : ℕ → List Database → ℕ
database_blocks block [] = 0
database_blocks block (d ∷ ds) = blocks_needed block d.page_size (length d.image) + database_blocks block ds

-- the blocks of all databases of some versions
abbrev pub all_blocks : ℕ → List Version → ℕ
all_blocks block [] = 0
all_blocks block (v ∷ vs) = database_blocks block v.dbs + all_blocks block vs
