-- What a set of pages holds, as its callers see it.
use Rattle.std.specs.Prelude.{◌≡◌, ℕ, ◌+◌, ◌-◌, ◌^◌, ◌<◌, ◌≤◌, true, min, List, [], ◌∷◌, ◌++◌, length, map, take, drop, Option, Some, None, is_some}
use Rattle.std.specs.List.{list_all}
use Rattle.bcv_base.specs.Image.{Writes}
use Rattle.bcv_base.specs.Views.{is_commit}
use Rattle.bcv_model.specs.declared.ask.Commit.{Commit}
use Rattle.bcv_model.specs.Commits.{writes_of}

-- the size of a page in bytes, how many commits were forgotten, the commits after them, and the page numbers of the commit for which there is room
pub record Held : Type 0 where
  pub page_size : ℕ
  pub forgotten : ℕ
  pub kept : List Writes
  pub ready : Option (List ℕ)

-- what is held in these fields
abbrev pub held_of : ℕ → ℕ → List Commit → Option (List ℕ) → Held
held_of page_size forgotten commits ready = record { page_size = page_size; forgotten = forgotten; kept = map writes_of commits; ready = ready }

-- the number of the last commit, where they are numbered from 1
abbrev pub last_of : Held → ℕ
last_of h = h.forgotten + length h.kept

-- the commits of a view may be asked for: those numbered from + 1 to `to`
pub record CanView (h : Held) (from to : ℕ) : Type 0 where
  pub kept : h.forgotten ≤ from
  pub order : from ≤ to
  pub there : to ≤ last_of h

-- the commits of a view
abbrev pub view_of : Held → ℕ → ℕ → List Writes
view_of h from to = take (to - from) (drop (from - h.forgotten) h.kept)

-- the view may be asked for after a change as before, and is the same
abbrev pub KeepsView : Held → Held → ℕ → ℕ → Type 0
KeepsView old new from to = CanView old from to → CanView new from to × (view_of new from to ≡ view_of old from to)

-- the page numbers of a commit
abbrev pub numbers_of : Writes → List ℕ
numbers_of c = map (λ w. w.0) c.pages

-- with room for a commit
abbrev pub with_room : Writes → Held → Held
with_room c h = record h { ready = Some (numbers_of c) }

-- with one more commit, for which the room is used
abbrev pub with_commit : Writes → Held → Held
with_commit c h = record h { kept = h.kept ++ c ∷ []; ready = None }

-- without the first so many of the commits
abbrev pub without_first : ℕ → Held → Held
without_first count h = record h { forgotten = h.forgotten + count; kept = drop count h.kept }

-- without the commits up to this number
abbrev pub without_upto : ℕ → Held → Held
without_upto upto h = without_first (min (upto - h.forgotten) (length h.kept)) h

-- what is true of every set: each commit is as it should be, their numbers fit, and where there is room so does one more
pub record IsHeld (h : Held) (len capacity : ℕ) : Type 0 where
  pub well : list_all (is_commit h.page_size) h.kept ≡ true
  pub fits : h.forgotten + len < 2 ^ 64
  pub room : is_some h.ready ≡ true → len < capacity
  pub next : is_some h.ready ≡ true → h.forgotten + len < 2 ^ 64 - 1
