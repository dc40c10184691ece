-- Names of mine under which blocks may be put, and blocks that were put for a publication to come.
use Rattle.std.specs.Prelude.{◌≡◌, ℕ, true, false, List, None}
use Rattle.bcv_base.specs.declared.id.Id16.{Id16}
use Rattle.bcv_base.specs.History.{Item, HasBlock, first_put}
use Rattle.bcv_base.specs.Ids.{has_id}
use Rattle.bcv_dbmap.specs.Past.{was_listed, was_dead}

-- a name of mine under which a block may be put: none was, and no manifest has listed it or had it in its delete list
pub record IsFreshName (mine : List Id16) (past : List Item) (i : Id16) : Type 0 where
  pub is_mine : has_id i mine ≡ true
  pub unput : first_put past i ≡ None
  pub unlisted : was_listed past i ≡ false
  pub not_dead : was_dead past i ≡ false

-- a block of mine that was put with the block size, and that no manifest has listed or had in its delete list
pub record IsOwnBlock (mine : List Id16) (past : List Item) (size : ℕ) (i : Id16) : Type 0 where
  pub is_mine : has_id i mine ≡ true
  pub there : HasBlock past i size
  pub unlisted : was_listed past i ≡ false
  pub not_dead : was_dead past i ≡ false
