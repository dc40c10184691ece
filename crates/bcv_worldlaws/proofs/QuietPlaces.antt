-- What happens to a client without a request and without a note.
use Rattle.std.proofs.Common.{◌≡◌, ◌-◌, ◌==◌, ◌&&◌, ℕ, zero, suc, Bool, true, false, if◌then◌else◌, List, [], ◌∷◌, slice_get, Option, Some, None, IfSome, refl, sym, subst}
use Rattle.std.proofs.lemmas.Option.{same_Some}
use Rattle.bcv_base.specs.declared.id.Id16.{Id16}
use Rattle.bcv_base.specs.declared.log.Entry.{Entry}
use Rattle.bcv_base.specs.History.{history_of}
use Rattle.bcv_clientlaws.specs.OtherParts.{Includes}
use Rattle.bcv_clientlaws.proofs.OtherParts.{includes_all}
use Rattle.bcv_machine.specs.Step.{Acts, Choice, drawn_by_act, publishes}
use Rattle.bcv_model.specs.declared.event.Act.{Act}
use Rattle.bcv_model.specs.declared.event.Act.TheVariants as act
use Rattle.bcv_worldlaws.specs.Places.{ClientPlace, DownPlace, UpPlace, AwayFrom, FitsPlace, PlacesFit, WorldFits, place_at, place_names, place_side, seen_place, with_place}
use Rattle.bcv_worldlaws.specs.QuietActs.{QuietActGoesOn, QuietActs, QuietActsFit, Quietly, quiet_act}
use Rattle.bcv_worldlaws.specs.WorldLaws.{MovesPlace, WorldStep}
use Rattle.bcv_worldlaws.proofs.Acting.{act_is_next, found_at}
use Rattle.bcv_worldlaws.proofs.Names.{none_mine}
use Rattle.bcv_worldlaws.proofs.PlacesStay.{place_falls}
use Rattle.bcv_worldlaws.proofs.WorldOn.{place_moves}

nothing_away : (places : List ClientPlace) → AwayFrom [] places
nothing_away [] = tt
nothing_away (p ∷ ps) = (λ i h. absurd (let never : false ≡ true = h in cc), nothing_away ps)

fits_there : (log : List Entry) (places : List ClientPlace) (k : ℕ) (x : ClientPlace) → PlacesFit log places → slice_get places k ≡ Some x → FitsPlace log x
fits_there log [] k x fit at = absurd (cc (at))
fits_there log (p ∷ ps) zero x fit at = subst (FitsPlace log) (same_Some p x at) fit.0
fits_there log (p ∷ ps) (suc k) x fit at = fits_there log ps k x fit.1 at

pub quiet_acts : QuietActs
quiet_acts moment past (act.Ask q o) (UpPlace p entries f) choice = tt
quiet_acts moment past act.Up (UpPlace p entries f) choice = ((refl, refl), refl)
quiet_acts moment past (act.Crash image) (UpPlace p entries f) choice = (refl, refl)
quiet_acts moment past (act.Fuse calls image) (UpPlace p entries f) choice = (refl, refl)
quiet_acts moment past (act.FailAt calls) (UpPlace p entries f) choice = (refl, refl)
quiet_acts moment past (act.Ask q o) (DownPlace id k f) choice = ((refl, refl), refl)
quiet_acts moment past act.Up (DownPlace id k f) choice = tt
quiet_acts moment past (act.Crash image) (DownPlace id k f) choice = ((refl, refl), refl)
quiet_acts moment past (act.Fuse calls image) (DownPlace id k f) choice = ((refl, refl), refl)
quiet_acts moment past (act.FailAt calls) (DownPlace id k f) choice = ((refl, refl), refl)

pub quiet_acts_fit : QuietActsFit
quiet_acts_fit log (act.Ask q o) (UpPlace p entries f) fits = tt
quiet_acts_fit log act.Up (UpPlace p entries f) fits = record { fits = fits; names = includes_all (place_names (UpPlace p entries f)) }
quiet_acts_fit log (act.Crash image) (UpPlace p entries f) fits = place_falls log p entries f f refl fits
quiet_acts_fit log (act.Fuse calls image) (UpPlace p entries f) fits = record { fits = fits; names = includes_all (place_names (UpPlace p entries f)) }
quiet_acts_fit log (act.FailAt calls) (UpPlace p entries f) fits = record { fits = fits; names = includes_all (place_names (UpPlace p entries f)) }
quiet_acts_fit log (act.Ask q o) (DownPlace id k f) fits = record { fits = fits; names = includes_all (place_names (DownPlace id k f)) }
quiet_acts_fit log act.Up (DownPlace id k f) fits = tt
quiet_acts_fit log (act.Crash image) (DownPlace id k f) fits = record { fits = fits; names = includes_all (place_names (DownPlace id k f)) }
quiet_acts_fit log (act.Fuse calls image) (DownPlace id k f) fits = record { fits = fits; names = includes_all (place_names (DownPlace id k f)) }
quiet_acts_fit log (act.FailAt calls) (DownPlace id k f) fits = record { fits = fits; names = includes_all (place_names (DownPlace id k f)) }

-- what is said of it draws no name
quiet_draws : (what : Act) (p : ClientPlace) (id : Id16) → IfSome (quiet_act what p) (λ q. drawn_by_act what q.reply id ≡ [])
quiet_draws (act.Ask q o) (UpPlace p entries f) id = tt
quiet_draws act.Up (UpPlace p entries f) id = refl
quiet_draws (act.Crash image) (UpPlace p entries f) id = refl
quiet_draws (act.Fuse calls image) (UpPlace p entries f) id = refl
quiet_draws (act.FailAt calls) (UpPlace p entries f) id = refl
quiet_draws (act.Ask q o) (DownPlace id k f) i = no_task (publishes q) i
  where
    no_task : (b : Bool) (i : Id16) → (if b && false then i ∷ [] else []) ≡ []
    no_task true i = refl
    no_task false i = refl
quiet_draws act.Up (DownPlace id k f) i = tt
quiet_draws (act.Crash image) (DownPlace id k f) i = refl
quiet_draws (act.Fuse calls image) (DownPlace id k f) i = refl
quiet_draws (act.FailAt calls) (DownPlace id k f) i = refl

module _ (moment : ℕ) (names : List Id16) (log : List Entry) (places : List ClientPlace) (n : ℕ) (old : ClientPlace) (what : Act) (choice : Choice)
    (fits : WorldFits names log places) (at : place_at n places ≡ Some old) where
  goes_on : (o : Option Quietly)
      → IfSome o (λ q. Acts (place_side moment (history_of log) old) (seen_place (history_of log) old).up what (record { published = None; reply = q.reply }) choice (place_side moment (history_of log) q.place))
      → IfSome o (λ q. MovesPlace log old q.place) → IfSome o (λ q. drawn_by_act what q.reply choice.name ≡ [])
      → IfSome o (λ q. WorldStep moment log log places (with_place n q.place places) n what (record { published = None; reply = q.reply }) choice names)
  goes_on None acts moves draws = tt
  goes_on (Some q) acts moves draws =
      let moved = place_moves moment names log places n old q.place fits at moves in
      record {
        fits = moved.0;
        next =
            act_is_next moment log log places n old q.place [] what (record { published = None; reply = q.reply }) choice at (nothing_away places)
            (subst (Includes []) (sym draws) (none_mine [])) moved.1 acts;
      }

pub quiet_act_goes_on : QuietActGoesOn
quiet_act_goes_on moment names log places n old what choice fits at =
    goes_on moment names log places n old what choice fits at (quiet_act what old) (quiet_acts moment (history_of log) what old choice)
    (quiet_acts_fit log what old (fits_there log places (n - 1) old fits.fit (found_at (n == 0) (slice_get places (n - 1)) old at)))
    (quiet_draws what old choice.name)
