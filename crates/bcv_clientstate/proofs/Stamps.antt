-- The stamp of a dead block is the moment of a published manifest.
use Rattle.std.proofs.Common.{◌≡◌, ◌∙◌, ℕ, Bool, true, false, cond, max, List, [], ◌∷◌, Option, Some, None, inl, inr, refl, sym, ap}
use Rattle.std.proofs.lemmas.Option.{same_Some}
use Rattle.bcv_base.specs.declared.id.Id16.{Id16}
use Rattle.bcv_base.specs.declared.manifest.DbEntry.{DbEntry}
use Rattle.bcv_base.specs.declared.manifest.Dead.{Dead}
use Rattle.bcv_base.specs.declared.manifest.Manifest.{Manifest}
use Rattle.bcv_base.specs.History.{Item, BlockPut, Published, Unreadable, BlockDeleted, ManifestDeleted, Always, last_of}
use Rattle.bcv_base.specs.Ids.{has_id}
use Rattle.bcv_base.specs.Keyed.{keyed}
use Rattle.bcv_base.specs.ManifestRules.{dead_id, lists}
use Rattle.bcv_dbmap.specs.Applied.{dbs_after, dead_after, swept_ids}
use Rattle.bcv_dbmap.specs.Outlived.{IsPublished}
use Rattle.bcv_dbmap.specs.Sound.{Follows, IsEditOf, IsMade}
use Rattle.bcv_clientstate.specs.StampLaws.{StampsAreMoments}
use Rattle.bcv_dbmap.proofs.DeadLaws.{dead_at, dead_after_found}

-- a manifest with the stamp as its moment was published
abbrev HasMoment : List Item → Dead → Type 0
HasMoment past e = (k : Manifest) × IsPublished k past × (k.moment ≡ e.stamp)

-- what is found was stamped just now, or was there before
by_found : {G : Type 0} (now before swept : Bool) (fresh : Dead) (old : Option Dead) (e : Dead)
    → cond now None (cond before (Some fresh) (cond swept None old)) ≡ Some e → (fresh ≡ e → G) → (old ≡ Some e → G) → G
by_found true before swept fresh old e h new stays = absurd (cc)
by_found false true swept fresh old e h new stays = new (same_Some fresh e h)
by_found false false true fresh old e h new stays = absurd (cc)
by_found false false false fresh old e h new stays = stays h

edit_stamp : (past : List Item) (old m : Manifest) (edit : IsEditOf old m) (i : Id16) (e : Dead) → keyed dead_id i.0 m.dead ≡ Some e
    → (keyed dead_id i.0 old.dead ≡ Some e → HasMoment past e) → HasMoment (Published m ∷ past) e
edit_stamp past old m edit i e found earlier =
    let stamp : ℕ = max old.moment edit.moment in
    let now : List DbEntry = dbs_after edit.plan m.id old.dbs in
    let dead : List Dead = dead_after edit.plan stamp now old.dbs old.dead in
    let is : keyed dead_id i.0 dead ≡ Some e = ap (λ (x : Manifest). keyed dead_id i.0 x.dead) (sym edit.made) ∙ found in
    by_found {G = HasMoment (Published m ∷ past) e} (lists now i) (lists old.dbs i) (has_id i (swept_ids edit.plan)) (dead_at i stamp) (keyed dead_id i.0 old.dead) e
    (sym (dead_after_found edit.plan stamp now old.dbs old.dead i) ∙ is)
    (λ fresh. (m, inl refl, ap (λ (x : Manifest). x.moment) edit.made ∙ ap (λ (d : Dead). d.stamp) fresh))
    (λ stays. let k = earlier stays in (k.0, inr k.1, k.2))

later : (x : Item) (past : List Item) (e : Dead) → HasMoment past e → HasMoment (x ∷ past) e
later x past e h = (h.0, inr h.1, h.2)

made_stamp : (past : List Item) (m : Manifest) (o : Option Manifest) → last_of past ≡ o → Follows o m → (i : Id16) (e : Dead) → keyed dead_id i.0 m.dead ≡ Some e
    → ((old : Manifest) → last_of past ≡ Some old → keyed dead_id i.0 old.dead ≡ Some e → HasMoment past e) → HasMoment (Published m ∷ past) e
made_stamp past m None is first i e found earlier =
    let none : keyed dead_id i.0 m.dead ≡ None = ap (λ (x : Manifest). keyed dead_id i.0 x.dead) first.made in absurd (cc)
made_stamp past m (Some old) is edit i e found earlier = edit_stamp past old m edit i e found (earlier old is)

stamped : (past : List Item) (m : Manifest) (i : Id16) (e : Dead) → Always IsMade past → last_of past ≡ Some m → keyed dead_id i.0 m.dead ≡ Some e → HasMoment past e
stamped [] m i e made last found = absurd (cc)
stamped (BlockPut j bytes ∷ past) m i e made last found = later (BlockPut j bytes) past e (stamped past m i e made.0 last found)
stamped (Published k ∷ past) m i e made last found =
    let same : k ≡ m = same_Some k m last in
    made_stamp past k (last_of past) refl made.1 i e (ap (λ (x : Manifest). keyed dead_id i.0 x.dead) same ∙ found) (λ old is was. stamped past old i e made.0 is was)
stamped (Unreadable ∷ past) m i e made last found = later Unreadable past e (stamped past m i e made.0 last found)
stamped (BlockDeleted j at ∷ past) m i e made last found = later (BlockDeleted j at) past e (stamped past m i e made.0 last found)
stamped (ManifestDeleted ∷ past) m i e made last found = later ManifestDeleted past e (stamped past m i e made.0 last found)

pub stamps_are_moments : StampsAreMoments
stamps_are_moments past m i e sound last found = stamped past m i e sound.made last found
