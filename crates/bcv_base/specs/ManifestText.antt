-- The one spelling of a manifest and of a database's entry. Numbers stand with their highest byte first.
use Rattle.std.specs.Prelude.{ℕ, List, [], ◌∷◌, ◌++◌, length}
use Rattle.std.specs.List.{flat_map}
use Rattle.std.specs.Int.{w8, w32, w64, to_be_bytes}
use Rattle.bcv_base.specs.declared.id.Id16.{Id16}
use Rattle.bcv_base.specs.declared.manifest.DbEntry.{DbEntry}
use Rattle.bcv_base.specs.declared.manifest.Dead.{Dead}
use Rattle.bcv_base.specs.declared.manifest.Manifest.{Manifest}
use Rattle.bcv_base.specs.declared.manifest.Writer.{Writer}

-- BCVMAN01
abbrev pub magic : List ℕ
magic = 66 ∷ 67 ∷ 86 ∷ 77 ∷ 65 ∷ 78 ∷ 48 ∷ 49 ∷ []

abbrev pub id_text : Id16 → List ℕ
id_text i = i.0

abbrev pub writer_text : Writer → List ℕ
writer_text w = w.id.0 ++ (w.last.0 ++ to_be_bytes w64 w.number)

-- the name behind its length, the tag, the page size, the page count and the ids of the blocks
abbrev pub entry_text : DbEntry → List ℕ
entry_text d =
    to_be_bytes w8 (length d.name)
    ++ (d.name ++ (d.tag.0 ++ (to_be_bytes w32 d.page_size ++ (to_be_bytes w32 d.pages ++ flat_map id_text d.blocks))))

abbrev pub dead_text : Dead → List ℕ
dead_text e = e.id.0 ++ to_be_bytes w64 e.stamp

-- the items behind their count
abbrev pub counted : {A : Type 0} → (A → List ℕ) → List A → List ℕ
counted text xs = to_be_bytes w32 (length xs) ++ flat_map text xs

abbrev pub manifest_text : Manifest → List ℕ
manifest_text m =
    magic
    ++ (to_be_bytes w64 m.number
    ++ (to_be_bytes w64 m.moment
    ++ (to_be_bytes w32 m.block
    ++ (to_be_bytes w64 m.retention
    ++ (m.id.0 ++ (counted writer_text m.writers ++ (counted entry_text m.dbs ++ counted dead_text m.dead)))))))
