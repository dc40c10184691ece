-- How a log grows in one request: what others appended is lawful and keeps it sound, and after it come the own entries.
use Rattle.std.proofs.Common.{◌≡◌, ◌∙◌, ◌⊎◌, inl, inr, ◌≤◌, List, [], ◌∷◌, ◌++◌, length, append-nil, append_assoc, refl, sym, ap, subst}
use Rattle.std.specs.List.{All}
use Rattle.std.proofs.lemmas.List.Elements.{All-head, All-tail, All-nil}
use Rattle.bcv_base.specs.declared.id.Id16.{Id16}
use Rattle.bcv_base.specs.declared.log.Entry.{Entry}
use Rattle.bcv_base.specs.History.{Item, item_of, history_of}
use Rattle.bcv_dbmap.specs.Growth.{AreLawful, IsUntouched}
use Rattle.bcv_dbmap.specs.Honest.{AreHonest, AreApart, GrewHonestly}
use Rattle.bcv_dbmap.specs.RequestGrowth.{RequestGrowth}
use Rattle.bcv_dbmap.specs.Sound.{Sound}
use Rattle.bcv_dbmap.proofs.OthersLaws.{others_keep_sound, others_leave_mine}
use Rattle.bcv_store.specs.Plans.{AreOthers, IsForeign}

-- ---- entries of others are lawful

honest_front : (mine : List Id16) (past : List Item) (es more : List Entry) → AreHonest mine past (es ++ more) → AreHonest mine past es
honest_front mine past [] more h = tt
honest_front mine past (e ∷ es) more h = (h.0, honest_front mine (item_of e ∷ past) es more h.1)

honest_lawful : (mine : List Id16) (past : List Item) (es : List Entry) → AreHonest mine past es → All IsForeign es → AreLawful mine past es
honest_lawful mine past [] h foreign = tt
honest_lawful mine past (e ∷ es) h foreign = (h.0 (All-head IsForeign e es foreign), honest_lawful mine (item_of e ∷ past) es h.1 (All-tail IsForeign e es foreign))

others_lawful : (alone : Type 0) (mine : List Id16) (before others own after : List Entry) → AreOthers alone others → after ≡ (before ++ others) ++ own → GrewHonestly alone mine before after
    → AreLawful mine (history_of before) others
others_lawful alone mine before others own after by grown (inl is_alone) = subst (AreLawful mine (history_of before)) (sym (by.none is_alone)) tt
others_lawful alone mine before others own after by grown (inr honest) =
    honest_lawful mine (history_of before) others (honest_front mine (history_of before) others own (honest (others ++ own) (grown ∙ append_assoc before others own))) by.foreign

-- ---- the log with what others appended, and what is known of it

pub record Later (mine : List Id16) (before others : List Entry) : Type 0 where
  pub lawful : AreLawful mine (history_of before) others
  pub sound : Sound (history_of (before ++ others))
  pub untouched : IsUntouched mine (history_of before) (history_of (before ++ others))

pub later_of : (alone : Type 0) (mine : List Id16) (before others own after : List Entry) → AreOthers alone others → after ≡ (before ++ others) ++ own → Sound (history_of before) → GrewHonestly alone mine before after
    → Later mine before others
later_of alone mine before others own after by grown s honest =
    let lawful = others_lawful alone mine before others own after by grown honest in
    record { lawful = lawful; sound = others_keep_sound mine before others s lawful; untouched = others_leave_mine mine before others s lawful }

-- no others
pub no_others : (alone : Type 0) → AreOthers alone []
no_others alone = record { foreign = All-nil IsForeign; none = λ _. refl }

-- ---- the growth of a request

-- with these own entries
abbrev pub growth_of : (alone : Type 0) (mine : List Id16) (before others own after : List Entry) → AreOthers alone others → Later mine before others → after ≡ (before ++ others) ++ own → length own ≤ 1
    → ((theirs : List Id16) → AreApart mine theirs → AreLawful theirs (history_of (before ++ others)) own) → RequestGrowth alone mine before after
growth_of alone mine before others own after by later grown one lawful = record {
  others = others;
  none = by.none;
  lawful = later.lawful;
  own = own;
  one = one;
  grown = grown;
  own_lawful = lawful;
  sound = subst (λ (l : List Entry). Sound (history_of l)) (sym grown) (others_keep_sound [] (before ++ others) own later.sound (lawful [] (λ i mine. refl)));
}
