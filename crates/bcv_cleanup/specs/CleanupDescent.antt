-- What each step that goes on lowers, so that a cleanup ends.
use Rattle.std.specs.Prelude.{◌≡◌, ◌<◌, ◌-◌, ◌⊎◌, ℕ, length}
use Rattle.bcv_cleanup.specs.State.{State, left_of, manifest_requests}

-- how many puts may still be refused
abbrev pub refusals_of : State → ℕ
refusals_of s = 8 - length s.publish.refused

-- the manifest's requests that are left
abbrev pub requests_of : State → ℕ
requests_of s = manifest_requests s.publish.latest

-- one state lies below another: by the refusals to come, then by the manifest's requests, then by all that are left
abbrev pub IsBelow : State → State → Type 0
IsBelow new old =
    (refusals_of new < refusals_of old)
    ⊎ ((refusals_of new ≡ refusals_of old)
    × ((requests_of new < requests_of old) ⊎ ((requests_of new ≡ requests_of old) × (left_of new < left_of old))))
