-- What a crash may leave of a client's disk after a talk.
use Rattle.std.specs.Prelude.{◌≡◌, true, List, [], ◌∷◌, is_some}
use Rattle.bcv_base.specs.declared.id.Id16.{Id16}
use Rattle.bcv_client.specs.CallNames.{LeavesFit}
use Rattle.bcv_client.specs.Talk.{Exchange, Point, Talks}
use Rattle.bcv_client.specs.declared.client.Client.{Client}
use Rattle.bcv_clientstate.specs.SeenClient.{Free}
use Rattle.bcv_disk.specs.DiskShown.{DiskShown, DiskTold}
use Rattle.bcv_store.specs.StoreShown.{StoreTold}
use Rattle.bcv_talks.specs.TalkRuns.{NamesAreNew, OthersAreHonest, PointStands}

-- of each call the names that it drew are the same, whichever of its clauses tells them
abbrev pub NamesAgree : {D : Type 0} {g : _} (told : DiskTold) (shown : D → DiskShown)
    (store : StoreTold) (a : Point D g) (es : List Exchange) (b : Point D g)
    → Talks told shown store a es b → Type 0
NamesAgree told shown store a [] b talk = Unit {0}
NamesAgree told shown store a (e ∷ es) b talk =
    (talk.1.falls.ids ≡ talk.1.asks.calls.ids) × NamesAgree told shown store talk.0 es b talk.2

-- so they are where the names that were drawn are told
abbrev pub ToldNamesAgree : {D : Type 0} {g : _} → DiskTold → (D → DiskShown) → StoreTold
    → Client D g → Type 0
ToldNamesAgree told shown store client =
    (a b : Point _ _) (es : List Exchange) (talk : Talks told shown store a es b)
    → a.client ≡ client
    → is_some a.names.drawn ≡ true → NamesAgree told shown store a es b talk

-- after a talk what a crash may leave fits the log, where it did as the talk began
abbrev pub TalksLeaveFit : {D : Type 0} {g : _} → DiskTold → (D → DiskShown) → StoreTold
    → Client D g → Type 0
TalksLeaveFit told shown store client =
    (a b : Point _ _) (es : List Exchange) (talk : Talks told shown store a es b)
    (mine used : List Id16) (f : Free)
    → a.client ≡ client → store.tells → told.tells → PointStands shown mine a f
    → OthersAreHonest told shown store mine a es b talk
    → NamesAreNew told shown store mine used a es b talk
    → NamesAgree told shown store a es b talk
    → LeavesFit shown a.client a.store.log → LeavesFit shown b.client b.store.log
