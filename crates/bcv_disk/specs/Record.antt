-- What a disk in memory says of itself, from the record of its calls, the newest first.
use Rattle.std.specs.Prelude.{◌≡◌, ◌⊎◌, ℕ, zero, suc, ◌+◌, ◌%◌, ◌==◌, ◌≤◌, Bool, true, false, ◌&&◌, nat_lt, List, [], ◌∷◌, length, take, get_or, if◌then◌else◌}
use Rattle.bcv_disk.specs.Crash.{put, Torn, Shortened, Through}
use Rattle.bcv_disk.specs.declared.platter.Act.{Act}
use Rattle.bcv_disk.specs.declared.platter.Act.TheVariants.{Wrote, CutTo, Synced, Crashed}

-- the byte that an image from 2 on has where this byte was written over old: 0, 255, or at an even place within old the old one
abbrev pub torn_byte : ℕ → List ℕ → ℕ → ℕ → ℕ
torn_byte image old place byte =
    if image == 2 then 0 else if image == 3 then 255 else if (place % 2 == 0) && nat_lt place (length old) then get_or old place 0 else byte

-- the same of bytes from a place on
abbrev pub torn_bytes : ℕ → List ℕ → ℕ → List ℕ → List ℕ
torn_bytes image old place [] = []
torn_bytes image old place (byte ∷ bytes) = torn_byte image old place byte ∷ torn_bytes image old (suc place) bytes

-- what an image from 1 on has where these bytes were written over old and not synced; image 1 has them all
abbrev pub filled : ℕ → List ℕ → ℕ → List ℕ → List ℕ
filled zero old place bytes = bytes
filled (suc zero) old place bytes = bytes
filled (suc (suc n)) old place bytes = torn_bytes (suc (suc n)) old place bytes

-- The image of this number: 0 is the bytes of the last sync; every other one has the length that a read shows, and at each
-- place that was written since then what the number says. Image 1 is what a read gives.
abbrev pub image_of : List Act → ℕ → List ℕ
image_of [] n = []
image_of (Wrote idle at bytes ∷ past) zero = image_of past zero
image_of (Wrote idle at bytes ∷ past) (suc n) = put (image_of past (suc n)) at (filled (suc n) (image_of past zero) at bytes)
image_of (CutTo idle len ∷ past) zero = image_of past zero
image_of (CutTo idle len ∷ past) (suc n) = take len (image_of past (suc n))
image_of (Synced idle ∷ past) n = image_of past 1
image_of (Crashed idle image ∷ past) n = image_of past image

-- what a read gives
abbrev pub content : List Act → List ℕ
content acts = image_of acts 1

-- a crash now may leave this image
abbrev pub Leaves : List Act → List ℕ → Type 0
Leaves [] image = image ≡ []
Leaves (Wrote idle at bytes ∷ past) image = Through (Torn at (length bytes)) (Leaves past) image
Leaves (CutTo idle len ∷ past) image = Through (Shortened len) (Leaves past) image
Leaves (Synced idle ∷ past) image = image ≡ content past
Leaves (Crashed idle n ∷ past) image = image ≡ image_of past n

-- the crashes that came before a call and found nothing to tear, which the record keeps as a number
abbrev pub idle_before : Act → ℕ
idle_before (Wrote idle at bytes) = idle
idle_before (CutTo idle len) = idle
idle_before (Synced idle) = idle
idle_before (Crashed idle image) = idle

-- the moment: the recorded calls, and the crashes that found nothing to tear
abbrev pub moment_of : ℕ → List Act → ℕ
moment_of idle [] = idle
moment_of idle (act ∷ past) = idle + suc (moment_of (idle_before act) past)

-- a crash at some moment from t on may leave this image
abbrev pub LeftSince : ℕ → List Act → ℕ → List ℕ → Type 0
LeftSince idle [] t image = (t ≤ idle) × Leaves [] image
LeftSince idle (act ∷ past) t image = ((t ≤ moment_of idle (act ∷ past)) × Leaves (act ∷ past) image) ⊎ LeftSince (idle_before act) past t image

-- a call since the last sync or crash may still be undone by a crash
abbrev pub is_unsynced : List Act → Bool
is_unsynced [] = false
is_unsynced (Wrote idle at bytes ∷ past) = true
is_unsynced (CutTo idle len ∷ past) = true
is_unsynced (Synced idle ∷ past) = false
is_unsynced (Crashed idle image ∷ past) = false
