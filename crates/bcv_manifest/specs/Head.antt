-- The front of a manifest's spelling.
use Rattle.std.specs.Prelude.{ℕ, List, ◌++◌}
use Rattle.std.specs.Int.{w32, w64, to_be_bytes}
use Rattle.bcv_base.specs.declared.manifest.Manifest.{Manifest}
use Rattle.bcv_base.specs.ManifestText.{magic}

-- what stands before the lists
abbrev pub head_text : Manifest → List ℕ
head_text m =
    magic ++ (to_be_bytes w64 m.number ++ (to_be_bytes w64 m.moment ++ (to_be_bytes w32 m.block ++ (to_be_bytes w64 m.retention ++ m.id.0))))
