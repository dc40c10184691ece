-- Versions of a container, with whole images.
use Rattle.std.specs.Prelude.{ℕ, List}
use Rattle.bcv_base.specs.declared.id.Id16.{Id16}
use Rattle.bcv_base.specs.Image.{Page}

-- a database of a version: the tag is the id of the publication that made it
pub record Database : Type 0 where
  pub name : List ℕ
  pub tag : Id16
  pub page_size : ℕ
  pub image : List Page

-- a version: the id of its publication, its moment, and its databases, ascending by name. Its number is its place among the versions, from 1
pub record Version : Type 0 where
  pub id : Id16
  pub moment : ℕ
  pub dbs : List Database

abbrev pub the_name : Database → List ℕ
the_name d = d.name
