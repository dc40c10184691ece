-- Where the local pages of a view are, and the blocks that hold one.
use Rattle.std.specs.Prelude.{◌≡◌, ℕ, ◌<◌, ◌≤◌, Bool, true, false, min, List, [], ◌∷◌, MatchOption, Option}
use Rattle.bcv_base.specs.Image.{Writes, is_base}

-- how many pages, from the first on, the base and each image after it have
abbrev pub pages_kept : ℕ → List Writes → ℕ
pages_kept base_pages [] = base_pages
pages_kept base_pages (c ∷ cs) = pages_kept (min base_pages c.size) cs

-- the first local page of a view from `page` on, past the view's size where there is none before
pub record IsNextLocal (base_pages : ℕ) (cs : List Writes) (page next : ℕ) : Type 0 where
  pub from : page ≤ next
  pub found : is_base base_pages cs next ≡ false
  pub before : (p : ℕ) → page ≤ p → p < next → is_base base_pages cs p ≡ true

-- the first block from `start` on that passes a test
pub record IsNextBlock (test : ℕ → Bool) (count start block : ℕ) : Type 0 where
  pub from : start ≤ block
  pub inside : block < count
  pub passes : test block ≡ true
  pub before : (b : ℕ) → start ≤ b → b < block → test b ≡ false

-- the first block from `start` on that passes a test, and none where no block before `count` does
abbrev pub FindsBlock : (ℕ → Bool) → ℕ → ℕ → Option ℕ → Type 0
FindsBlock test count start found = MatchOption found ((b : ℕ) → start ≤ b → b < count → test b ≡ false) (IsNextBlock test count start)
