-- That others are honest: the premise under which a log stays sound.
use Rattle.std.specs.Prelude.{◌≡◌, ◌⊎◌, true, false, List, [], ◌∷◌, ◌++◌}
use Rattle.bcv_base.specs.declared.id.Id16.{Id16}
use Rattle.bcv_base.specs.declared.log.Entry.{Entry}
use Rattle.bcv_base.specs.History.{Item, item_of, history_of}
use Rattle.bcv_base.specs.Ids.{has_id}
use Rattle.bcv_base.specs.Log.{is_own}
use Rattle.bcv_dbmap.specs.Growth.{IsLawful}

-- each of these entries that no own call made is lawful at its place
abbrev pub AreHonest : List Id16 → List Item → List Entry → Type 0
AreHonest mine past [] = Unit {0}
AreHonest mine past (e ∷ es) = (is_own e ≡ false → IsLawful mine past (item_of e)) × AreHonest mine (item_of e ∷ past) es

-- whatever was added to a log, others added lawful entries alone; where the store is alone, there are no others
abbrev pub GrewHonestly : Type 0 → List Id16 → List Entry → List Entry → Type 0
GrewHonestly alone mine before after = alone ⊎ ((added : List Entry) → after ≡ before ++ added → AreHonest mine (history_of before) added)

-- no name of mine is one of theirs
abbrev pub AreApart : List Id16 → List Id16 → Type 0
AreApart mine theirs = (i : Id16) → has_id i mine ≡ true → has_id i theirs ≡ false
