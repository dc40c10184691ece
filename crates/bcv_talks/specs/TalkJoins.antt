-- Talks with one client, one after the other.
use Rattle.std.specs.Prelude.{◌≡◌, List, [], ◌∷◌, ◌++◌}
use Rattle.bcv_disk.specs.DiskShown.{DiskShown, DiskTold}
use Rattle.bcv_store.specs.StoreShown.{StoreTold}
use Rattle.bcv_client.specs.Talk.{Exchange, Exchanged, Point, Talks}
use Rattle.bcv_client.specs.declared.client.Client.{Client}

-- two talks with a client, the second from where the first ended, are one
abbrev pub TalksJoin : {D : Type 0} {g : _} → DiskTold → (D → DiskShown) → StoreTold
    → Client D g → Type 0
TalksJoin told shown store client =
    (a b c : Point _ _) (es more : List Exchange) → a.client ≡ client
    → Talks told shown store a es b → Talks told shown store b more c
    → Talks told shown store a (es ++ more) c

-- one call is a talk
abbrev pub CallIsTalk : {D : Type 0} {g : _} → DiskTold → (D → DiskShown) → StoreTold
    → Client D g → Type 0
CallIsTalk told shown store client =
    (a b : Point _ _) (e : Exchange) → a.client ≡ client → Exchanged told shown store a e b
    → Talks told shown store a (e ∷ []) b

-- a talk and one more call are a talk
abbrev pub TalkAndCall : {D : Type 0} {g : _} → DiskTold → (D → DiskShown) → StoreTold
    → Client D g → Type 0
TalkAndCall told shown store client =
    (a b c : Point _ _) (es : List Exchange) (e : Exchange) → a.client ≡ client
    → Talks told shown store a es b → Exchanged told shown store b e c
    → Talks told shown store a (es ++ e ∷ []) c
