-- How a disk in memory keeps its record.
use Rattle.std.specs.Prelude.{◌≡◌, ℕ, ◌<◌, ◌≤◌, max, true, List, [], ◌∷◌, length, take, drop, reverse, vec_len, vec_capacity}
use Rattle.bcv_disk.specs.Record.{content, is_unsynced}
use Rattle.bcv_disk.specs.Story.{Story}
use Rattle.bcv_disk.specs.declared.platter.Act.{Act}
use Rattle.bcv_disk.specs.declared.platter.Act.TheVariants.{Wrote, CutTo, Synced, Crashed}
use Rattle.bcv_disk.specs.declared.platter.Platter.TheInside.{Inside}

-- the record, the newest call first
abbrev pub story_of : Inside → Story
story_of p = record { idle = p.idle; acts = reverse p.acts.items }

-- what each call since the last sync or crash overwrote or cut away, the newest first
abbrev pub saved_of : List Act → List (List ℕ)
saved_of [] = []
saved_of (Wrote idle at bytes ∷ past) = take (length bytes) (drop at (content past)) ∷ saved_of past
saved_of (CutTo idle len ∷ past) = drop len (content past) ∷ saved_of past
saved_of (Synced idle ∷ past) = []
saved_of (Crashed idle image ∷ past) = []

-- each write begins within the bytes that it found
abbrev pub IsLawful : List Act → Type 0
IsLawful [] = Unit {0}
IsLawful (Wrote idle at bytes ∷ past) = (at ≤ length (content past)) × IsLawful past
IsLawful (CutTo idle len ∷ past) = IsLawful past
IsLawful (Synced idle ∷ past) = IsLawful past
IsLawful (Crashed idle image ∷ past) = IsLawful past

-- the greatest length that the bytes have had
abbrev pub greatest : List Act → ℕ
greatest [] = 0
greatest (act ∷ past) = max (length (content (act ∷ past))) (greatest past)

-- these bytes are those of the record, and this was taken away since the last sync, the newest first
pub record HoldsRecord (bytes : List ℕ) (past : List Act) (saved : List (List ℕ)) : Type 0 where
  pub bytes_are : bytes ≡ content past
  pub saved_are : saved ≡ saved_of past
  pub lawful : IsLawful past

-- the bytes are those of the record, what was overwritten since the last sync is kept, and there is room for a crash
pub record IsKept (p : Inside) : Type 0 where
  pub holds : HoldsRecord p.bytes.items (reverse p.acts.items) (reverse p.saved.items)
  pub room : 0 < vec_len p.saved → vec_len p.acts < vec_capacity p.acts
  pub bytes_room : greatest (reverse p.acts.items) ≤ vec_capacity p.bytes
  pub spare_room : greatest (reverse p.acts.items) ≤ vec_capacity p.spare
  pub spare_empty : p.spare.items ≡ []
