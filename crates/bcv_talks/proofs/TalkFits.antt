-- What a crash may leave fits the log after a talk.
use Rattle.std.proofs.Common.{◌≡◌, ◌∙◌, true, false, List, [], ◌∷◌, ◌++◌, Option, Some, None, is_some, refl, sym, subst}
use Rattle.std.proofs.lemmas.List.{append_cancel_left}
use Rattle.bcv_base.specs.declared.id.Id16.{Id16}
use Rattle.bcv_base.specs.Drawn.{AddsNames}
use Rattle.bcv_base.specs.History.{history_of}
use Rattle.bcv_clientlaws.specs.OtherParts.{Includes}
use Rattle.bcv_clientstate.specs.SeenClient.{Free}
use Rattle.bcv_client.specs.CallNames.{LeavesFit}
use Rattle.bcv_client.specs.Talk.{Exchange, Point, Talks}
use Rattle.bcv_client.specs.TaskCalls.{AreNew}
use Rattle.bcv_disk.specs.DiskShown.{DiskShown, DiskTold}
use Rattle.bcv_store.specs.StoreShown.{StoreTold}
use Rattle.bcv_talks.specs.TalkFits.{NamesAgree}
use Rattle.bcv_talks.specs.TalkRuns.{NamesAreNew, OthersAreHonest, PointStands}
use Rattle.bcv_talks.proofs.TalkRuns.{stands_on, taken}

-- ---- names

-- told names that were added in one way were added in no other
record AddedOnce (new : Option (List Id16)) (one other : List Id16) : Type 0 where
  told : is_some new ≡ true
  same : one ≡ other

added_once : (old new : Option (List Id16)) (one other : List Id16) → is_some old ≡ true → AddsNames old new one → AddsNames old new other → AddedOnce new one other
added_once None new one other told first next = absurd (let no_one : false ≡ true = told in cc)
added_once (Some old) None one other told first next = absurd first
added_once (Some old) (Some new) one other told first next = record { told = refl; same = append_cancel_left old one other (sym first ∙ next) }

module _ {D : Type 0} {g : _} (told : DiskTold) (shown : D → DiskShown) (store : StoreTold) where
  pub told_names_agree : (a b : Point D g) (es : List Exchange) (talk : Talks told shown store a es b) → is_some a.names.drawn ≡ true
      → NamesAgree told shown store a es b talk
  told_names_agree a b [] talk tells = tt
  told_names_agree a b (e ∷ es) talk tells =
      let once : AddedOnce talk.0.names.drawn talk.1.falls.ids talk.1.asks.calls.ids =
      added_once a.names.drawn talk.0.names.drawn talk.1.falls.ids talk.1.asks.calls.ids tells talk.1.falls.drawn talk.1.asks.calls.drawn in
      (once.same, told_names_agree talk.0 b es talk.2 once.told)

  -- ---- what may be left

  pub talk_leaves_fit : (a b : Point D g) (es : List Exchange) (talk : Talks told shown store a es b) (mine used : List Id16) (f : Free) → store.tells → told.tells
      → PointStands shown mine a f → OthersAreHonest told shown store mine a es b talk → NamesAreNew told shown store mine used a es b talk
      → NamesAgree told shown store a es b talk → LeavesFit shown a.client a.store.log → LeavesFit shown b.client b.store.log
  talk_leaves_fit a b [] talk mine used f tells disk_tells stands honest names same left =
      subst (λ (x : Point D g). LeavesFit shown x.client x.store.log) (sym talk) left
  talk_leaves_fit a b (e ∷ es) talk mine used f tells disk_tells stands honest names same left =
      let free : Free = (taken told shown store mine used a talk.0 e talk.1 0 f tells disk_tells stands honest.0 names.0).free in
      let now : LeavesFit shown talk.0.client talk.0.store.log =
      talk.1.falls.over tells disk_tells mine f stands.over stands.names stands.flight (subst (Includes mine) (sym same.0) names.0.own)
      (subst (AreNew (history_of a.store.log)) (sym same.0) names.0.unused) honest.0 left in
      talk_leaves_fit talk.0 b es talk.2 mine (used ++ talk.1.asks.calls.ids) free tells disk_tells
      (stands_on told shown store mine used a talk.0 e talk.1 0 f tells disk_tells stands honest.0 names.0) honest.1 names.1 same.1 now
