-- A client that has just come up stands over its log.
use Rattle.std.proofs.Common.{◌≡◌, ◌∙◌, ◌+◌, ◌≤◌, ℕ, true, List, [], Option, None, sym, ap, subst}
use Rattle.bcv_base.specs.declared.id.Id16.{Id16}
use Rattle.bcv_base.specs.Ids.{has_id}
use Rattle.bcv_cache.specs.Entry as cache
use Rattle.bcv_client.specs.CallNames.{flight_names}
use Rattle.bcv_client.specs.ClientParts.{parts_of}
use Rattle.bcv_client.specs.ClientUp.{IsBack, IsNewlyUp, StartsEmpty}
use Rattle.bcv_client.specs.Talk.{Point}
use Rattle.bcv_client.specs.declared.client.Client.{Client}
use Rattle.bcv_clientlaws.specs.OtherParts.{Includes}
use Rattle.bcv_clientlaws.proofs.OtherParts.{in_front}
use Rattle.bcv_clientstate.specs.Fits.{Fits}
use Rattle.bcv_clientstate.specs.Journaled.{most_of}
use Rattle.bcv_clientstate.specs.Parts.{Parts, mine_of}
use Rattle.bcv_clientstate.specs.SeenClient.{Free}
use Rattle.bcv_clientstate.specs.UpSides.{risen_free, risen_parts}
use Rattle.bcv_dbmap.specs.Sound.{IsSoundLog}
use Rattle.bcv_disk.specs.DiskShown.{DiskShown}
use Rattle.bcv_machine.specs.State as m
use Rattle.bcv_model.specs.declared.kept.Kept.{Kept}
use Rattle.bcv_model.specs.declared.note.Note.TheVariants as note
use Rattle.bcv_model.specs.Notes.{after_note, nothing_kept}
use Rattle.bcv_talks.specs.TalkStarts.{BackBegins, TalkBegins, NewBegins}
use Rattle.bcv_worldlaws.specs.Places.{DownPlace, place_names}
use Rattle.bcv_worldlaws.proofs.Names.{none_mine, one_mine}
use Rattle.bcv_worldlaws.proofs.PlacesStay.{place_rises}

module _ {D : Type 0} {g : _} (shown : D → DiskShown) (a : Point D g) (mine : List Id16) (slots : ℕ) (f : Free) (empty : StartsEmpty slots a.client) where
  -- ---- a client that is back

  module _ (id : Id16) (k : Kept) (back : IsBack shown a.store.log id k f a.client) (names : Includes mine (place_names (DownPlace id k f))) where
    abbrev kept : Kept
    kept = a.client.ledger.databases.kept

    parts : parts_of a.client ≡ risen_parts id kept a.client.seen
    parts = empty.parts ∙ ap (λ (i : Id16). risen_parts i kept a.client.seen) back.same

    fits : Fits (risen_parts id kept a.client.seen) [] a.store.log
    fits =
        subst (λ (p : Parts). Fits p [] a.store.log) parts
        (subst (λ (es : List cache.Entry). Fits (parts_of a.client) es a.store.log) empty.entries back.stands.fits)

    its_names : Includes mine (mine_of (risen_parts id kept a.client.seen))
    its_names i has =
        names i
        (in_front (place_names (DownPlace id k f)) (mine_of (risen_parts id kept a.client.seen)) []
        (place_rises a.store.log id k kept a.client.seen f back.left fits).names i has)

    pub back_begins : TalkBegins shown mine a (risen_free f)
    back_begins = record {
      stands = record { over = back.stands; names = subst (λ (p : Parts). Includes mine (mine_of p)) (sym parts) its_names; flight = none_mine mine };
      left = back.leaves;
    }

  -- ---- a new client

  module _ (most : ℕ) (is_new : IsNewlyUp shown slots most a.client) (own : has_id a.client.id mine ≡ true) (sound : IsSoundLog a.store.log) (given : f.slots ≡ slots)
      (still : f.flight ≡ None) (within : most + 44 ≤ most_of f) where
    new_parts : parts_of a.client ≡ risen_parts a.client.id (after_note nothing_kept (note.Me a.client.id)) a.client.seen
    new_parts = empty.parts ∙ ap (λ (k : Kept). risen_parts a.client.id k a.client.seen) is_new.kept

    pub new_begins : TalkBegins shown mine a f
    new_begins = record {
      stands = record {
        over = is_new.stands a.store.log f sound given still within;
        names = subst (λ (p : Parts). Includes mine (mine_of p)) (sym new_parts) (one_mine mine a.client.id [] own (none_mine mine));
        flight = subst (λ (o : Option m.Note). Includes mine (flight_names o)) (sym still) (none_mine mine);
      };
      left = is_new.leaves a.store.log sound;
    }

-- ---- the laws

module _ {D : Type 0} {g : _} (shown : D → DiskShown) (client : Client D g) where
  pub back_is_begun : BackBegins shown client
  back_is_begun a mine slots id k f is empty back names =
      back_begins shown a mine slots f (subst (StartsEmpty slots) (sym is) empty) id k
      (subst (λ (c : Client D g). IsBack shown a.store.log id k f c) (sym is) back) names

  pub new_is_begun : NewBegins shown client
  new_is_begun a mine slots most f is empty is_new own sound given still within =
      new_begins shown a mine slots f (subst (StartsEmpty slots) (sym is) empty) most (subst (IsNewlyUp shown slots most) (sym is) is_new)
      (subst (λ (c : Client D g). has_id c.id mine ≡ true) (sym is) own) sound given still within
