-- What a set of pages keeps beside its commits: the index of the pages and the least sizes.
use Rattle.std.specs.Prelude.{◌≡◌, ℕ, Bool, ◌+◌, ◌<◌, true, List, length, map, slice_index}
use Rattle.std.specs.Global.{Vec}
use Rattle.std.specs.Option.{IfSome}
use Rattle.std.specs.BTreeMap.{BTreeMap}
use Rattle.bcv_base.specs.Image.{Writes}
use Rattle.bcv_pages.specs.Held.{Held}
use Rattle.bcv_pages.specs.Index.{writing, listed, has_room}
use Rattle.bcv_pages.specs.Minima.{Minima}

-- the sizes of commits
abbrev pub sizes : List Writes → List ℕ
sizes cs = map (λ c. c.size) cs

-- there is room for a commit that writes these pages
pub record IsReady (lists : BTreeMap ℕ (Vec ℕ)) (minima_ready : Bool) (pages : List ℕ) : Type 0 where
  pub minimum : minima_ready ≡ true
  pub room : (k : ℕ) → k < length pages → has_room lists (slice_index pages k)

-- the index lists the commits that write each page, the minima are those of the commits' sizes, and what is ready has room
pub record IsIndexed (h : Held) (lists : BTreeMap ℕ (Vec ℕ)) (minima : Minima) : Type 0 where
  pub pages : (p : ℕ) → listed lists p ≡ writing (h.forgotten + 1) h.kept p
  pub least : minima.sizes ≡ sizes h.kept
  pub ready : IfSome h.ready (IsReady lists minima.ready)
