-- How many and how large the parts of a container may be.
use Rattle.std.specs.Prelude.{ℕ}

-- the writers of a manifest
abbrev pub most_writers : ℕ
most_writers = 4096

-- the databases of a manifest
abbrev pub most_databases : ℕ
most_databases = 1024

-- the blocks of a database
abbrev pub most_blocks : ℕ
most_blocks = 65536

-- the dead blocks of a manifest
abbrev pub most_dead : ℕ
most_dead = 1048576

-- the bytes of a manifest
abbrev pub most_bytes : ℕ
most_bytes = 67108864
