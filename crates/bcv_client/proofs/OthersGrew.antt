-- What stays where others appended to a log, and the client nothing.
use Rattle.std.proofs.Common.{◌≡◌, ◌∙◌, List, [], ◌++◌, append-nil, sym, ap, subst}
use Rattle.bcv_base.specs.declared.id.Id16.{Id16}
use Rattle.bcv_base.specs.declared.log.Entry.{Entry}
use Rattle.bcv_cache.specs.Entry as cache
use Rattle.bcv_clientlaws.specs.OtherParts.{Includes}
use Rattle.bcv_clientlaws.proofs.OtherParts.{others_leave_fits}
use Rattle.bcv_clientstate.specs.Fits.{Fits}
use Rattle.bcv_clientstate.specs.Parts.{Parts, mine_of}
use Rattle.bcv_dbmap.specs.RequestGrowth.{RequestGrowth}
use Rattle.bcv_dbmap.specs.Sound.{IsSoundLog}

-- others alone appended
pub grown_by_others : (alone : Type 0) (mine : List Id16) (before after : List Entry) (growth : RequestGrowth alone mine before after) → growth.own ≡ [] → after ≡ before ++ growth.others
grown_by_others alone mine before after growth none =
    growth.grown ∙ ap (λ (es : List Entry). (before ++ growth.others) ++ es) none ∙ append-nil (before ++ growth.others)

-- the client still fits
pub fits_grown : (alone : Type 0) (mine : List Id16) (before after : List Entry) (p : Parts) (entries : List cache.Entry) (growth : RequestGrowth alone mine before after) → growth.own ≡ []
    → IsSoundLog before → Includes mine (mine_of p) → Fits p entries before → Fits p entries after
fits_grown alone mine before after p entries growth none sound all fits =
    subst (λ (log : List Entry). Fits p entries log) (sym (grown_by_others alone mine before after growth none))
    (others_leave_fits mine before growth.others p entries sound all growth.lawful fits)
