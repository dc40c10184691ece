-- The databases after commits that nobody needs were forgotten.
use Rattle.std.proofs.Common.{◌≡◌, ◌≢◌, ◌∙◌, ℕ, ◌-◌, ◌<◌, ◌≤◌, eqb, min, Bool, true, false, cond, List, [], ◌∷◌, length, length-drop, set, refl, sym, ap, subst, arith, Option, Some, None, inl, inr}
use Rattle.std.specs.Prelude.{IfSome}
use Rattle.std.specs.Option.{option_map}
use Rattle.std.specs.Str.{bytes_eq}
use Rattle.std.proofs.lemmas.Bool.{cases_eq, eqb-true, eq-eqb}
use Rattle.std.proofs.lemmas.Option.{same_Some}
use Rattle.bcv_base.specs.Keyed.{keyed}
use Rattle.bcv_base.specs.ManifestRules.{Ascends}
use Rattle.bcv_dbmap.proofs.Keys.{above_found, before_other, by_test, key_same, keyed_here, keyed_there}
use Rattle.bcv_model.specs.declared.kept.Local.{Local}
use Rattle.bcv_model.specs.Notes.{kept_name}
use Rattle.bcv_pages.specs.Held.{Held, CanView, KeepsView, last_of, view_of, without_upto}
use Rattle.bcv_databases.specs.Catalog.{Catalog, Rooms, set_at, use_name, writes_in}
use Rattle.bcv_databases.specs.Changes.{KeepsFrom, Trims, least_of, needed_from, trimmed, use_of}
use Rattle.bcv_databases.specs.Slots.{changed}
use Rattle.bcv_databases.specs.Sound.{AreApart, AreDatabases, HasSet, IsSetOf}
use Rattle.bcv_databases.specs.declared.set_use.SetUse.{SetUse}
use Rattle.bcv_databases.proofs.OneChanged.{has_moved, if_found}
use Rattle.bcv_databases.proofs.Slots.{at_other, at_same}

-- ---- who needs a set

use_here : (place : ℕ) (u : SetUse) (us : List SetUse) → u.set ≡ place → use_of place (u ∷ us) ≡ Some u
use_here place u us same = ap (λ (b : Bool). cond b (Some u) (use_of place us)) (eq-eqb u.set place same)

use_later : (place : ℕ) (u : SetUse) (us : List SetUse) → eqb u.set place ≡ false → use_of place (u ∷ us) ≡ use_of place us
use_later place u us other = ap (λ (b : Bool). cond b (Some u) (use_of place us)) other

-- the use of a set is that of the database that has it
use_found : (us : List SetUse) (a : List ℕ) (v : SetUse) → Ascends use_name us → AreApart us → keyed use_name a us ≡ Some v → use_of v.set us ≡ Some v
use_found [] a v asc apart found = absurd cc
use_found (u ∷ us) a v asc apart found =
    by_test (bytes_eq u.name a)
    (λ e. let same : u ≡ v = same_Some u v (sym (keyed_here use_name a u us e) ∙ found) in use_here v.set u us (ap (λ (x : SetUse). x.set) same) ∙ ap Some same)
    (λ e.
    let later : keyed use_name a us ≡ Some v = sym (keyed_there use_name a u us e) ∙ found in
    let tail : AreApart us = λ k m x y is_x is_y same.
    apart k m x y
    (keyed_there use_name k u us (before_other u.name k (above_found use_name u.name k us x asc.0 is_x)) ∙ is_x)
    (keyed_there use_name m u us (before_other u.name m (above_found use_name u.name m us y asc.0 is_y)) ∙ is_y) same in
    by_test (eqb u.set v.set)
    (λ t.
    let one : u.name ≡ a = apart u.name a u v (keyed_here use_name u.name u us (key_same u.name)) found (eqb-true u.set v.set t) in
    let both : true ≡ false = sym (ap (bytes_eq u.name) (sym one) ∙ key_same u.name) ∙ e in absurd cc)
    (λ t. use_later v.set u us t ∙ use_found us a v asc.1 tail later))

least_first : (a upto : ℕ) (o : Option ℕ) → least_of (Some a) o ≡ Some upto → upto ≤ a
least_first a upto None is = let e : a ≡ upto = same_Some a upto is in omega (arith, e)
least_first a upto (Some b) is = let e : min a b ≡ upto = same_Some (min a b) upto is in omega (arith, e)

least_second : (o : Option ℕ) (b upto : ℕ) → least_of o (Some b) ≡ Some upto → upto ≤ b
least_second None b upto is = let e : b ≡ upto = same_Some b upto is in omega (arith, e)
least_second (Some a) b upto is = let e : min a b ≡ upto = same_Some (min a b) upto is in omega (arith, e)

least_none : (a : ℕ) (o : Option ℕ) → least_of (Some a) o ≡ None → ⊥
least_none a None is = cc (is)
least_none a (Some b) is = cc (is)

-- ---- a set without commits that its database does not need

last_forgot : (upto : ℕ) (h : Held) → last_of (without_upto upto h) ≡ last_of h
last_forgot upto h =
    let k : ℕ = min (upto - h.forgotten) (length h.kept) in
    omega (arith, length-drop k h.kept)

forgot_set : (l : Local) (from upto : ℕ) (h : Held) → KeepsView h (without_upto upto h) from (last_of h) → IsSetOf l from h → IsSetOf l from (without_upto upto h)
forgot_set l from upto h keeps is =
    let last : last_of h ≡ last_of (without_upto upto h) = sym (last_forgot upto h) in
    let both = keeps is.view in
    subst (λ (n : ℕ). CanView (without_upto upto h) from n × (view_of (without_upto upto h) from n ≡ writes_in l) → IsSetOf l from (without_upto upto h)) (sym last)
    (λ x. record { size = is.size; view = x.0; commits = x.1 }) (both.0, both.1 ∙ is.commits)

module _ (c : Catalog) (s : AreDatabases c) (place : ℕ) (oldest : Option ℕ) (rooms : Rooms) where
  module _ (upto : ℕ) (needed : Some upto ≡ needed_from c.uses place oldest) (inside : place < length c.sets)
      (views : IfSome (set_at c.sets place) (λ h. (from to : ℕ) → upto ≤ from → KeepsView h (without_upto upto h) from to)) (new : List (Option Held)) (new_is : new ≡ changed (without_upto upto) place c.sets) where
    keeps_at : (h : Held) → set_at c.sets place ≡ Some h → (from to : ℕ) → upto ≤ from → KeepsView h (without_upto upto h) from to
    keeps_at h at = subst (λ (o : Option Held). IfSome o (λ h. (from to : ℕ) → upto ≤ from → KeepsView h (without_upto upto h) from to)) at views

    new_at : (h : Held) → set_at c.sets place ≡ Some h → set_at new place ≡ Some (without_upto upto h)
    new_at h at =
        ap (λ (xs : List (Option Held)). set_at xs place) new_is ∙ at_same c.sets place (option_map (without_upto upto) (set_at c.sets place)) inside ∙ ap (option_map (without_upto upto)) at

    new_other : (p : ℕ) → p ≢ place → set_at new p ≡ set_at c.sets p
    new_other p other = ap (λ (xs : List (Option Held)). set_at xs p) new_is ∙ at_other c.sets place p (option_map (without_upto upto) (set_at c.sets place)) other

    forgot_has : (a : List ℕ) (o : Option Local) (p : Option SetUse) → keyed use_name a c.uses ≡ p → HasSet c.sets o p → HasSet new o p
    forgot_has a None None is has = tt
    forgot_has a None (Some u) is has = absurd has
    forgot_has a (Some l) None is has = absurd has
    forgot_has a (Some l) (Some u) is has = elim (cases_eq u.set place) [
      | inl e ↦
          let its : use_of place c.uses ≡ Some u = ap (λ (n : ℕ). use_of n c.uses) (sym e) ∙ use_found c.uses a u s.uses_order s.apart is in
          let low : upto ≤ u.from = least_first u.from upto oldest (sym (needed ∙ ap (λ (o : Option SetUse). least_of (option_map (λ (x : SetUse). x.from) o) oldest) its)) in
          let at : set_at c.sets place ≡ Some has.0 = ap (set_at c.sets) (sym e) ∙ has.1 in
          (without_upto upto has.0, ap (set_at new) e ∙ new_at has.0 at, forgot_set l u.from upto has.0 (keeps_at has.0 at u.from (last_of has.0) low) has.2)
      | inr other ↦ (has.0, new_other u.set other ∙ has.1, has.2)
    ]

    pub forgot_sound : AreDatabases (record { kept = c.kept; known = c.known; uses = c.uses; sets = new; rooms = rooms })
    forgot_sound = record {
      order = s.order;
      known_order = s.known_order;
      without = s.without;
      held = λ a. forgot_has a (keyed kept_name a c.kept.locals) (keyed use_name a c.uses) refl (s.held a);
      uses_order = s.uses_order;
      apart = s.apart;
      pending = s.pending;
    }

    pub forgot_trims : Trims c (record { kept = c.kept; known = c.known; uses = c.uses; sets = new; rooms = rooms }) place oldest
    forgot_trims = record {
      kept = refl;
      known = refl;
      uses = refl;
      there =
          ap (λ (xs : List (Option Held)). set_at xs place) new_is ∙ at_same c.sets place (option_map (without_upto upto) (set_at c.sets place)) inside
          ∙ ap (λ (n : Option ℕ). trimmed n (set_at c.sets place)) needed;
      others = new_other;
    }

    views_by : (o : Option ℕ) → oldest ≡ o → (from to : ℕ) → IfSome o (λ x. x ≤ from → KeepsFrom c.sets new place from to)
    views_by None is from to = tt
    views_by (Some x) is from to = λ le h at.
        let low : upto ≤ x = least_second (option_map (λ (u : SetUse). u.from) (use_of place c.uses)) x upto (sym (needed ∙ ap (needed_from c.uses place) is)) in
        let far : upto ≤ from = omega (arith, low, le) in
        (without_upto upto h, new_at h at, keeps_at h at from to far)

    pub forgot_views : (from to : ℕ) → IfSome oldest (λ x. x ≤ from → KeepsFrom c.sets new place from to)
    forgot_views from to = views_by oldest refl from to

  -- nobody needs the set
  module _ (needed : None ≡ needed_from c.uses place oldest) (inside : place < length c.sets) where
    unused : (a : List ℕ) (v : SetUse) → keyed use_name a c.uses ≡ Some v → v.set ≡ place → ⊥
    unused a v is same =
        let its : use_of place c.uses ≡ Some v = ap (λ (n : ℕ). use_of n c.uses) (sym same) ∙ use_found c.uses a v s.uses_order s.apart is in
        least_none v.from oldest (sym (needed ∙ ap (λ (o : Option SetUse). least_of (option_map (λ (x : SetUse). x.from) o) oldest) its))

    pub dropped_sound : AreDatabases (record { kept = c.kept; known = c.known; uses = c.uses; sets = set c.sets place None; rooms = rooms })
    dropped_sound = record {
      order = s.order;
      known_order = s.known_order;
      without = s.without;
      held = λ a.
          has_moved c.sets (set c.sets place None) (keyed kept_name a c.kept.locals) (keyed use_name a c.uses)
          (if_found (λ (v : SetUse). set_at (set c.sets place None) v.set ≡ set_at c.sets v.set) (keyed use_name a c.uses) (λ v found. at_other c.sets place v.set None (unused a v found))) (s.held a);
      uses_order = s.uses_order;
      apart = s.apart;
      pending = s.pending;
    }

    pub dropped_trims : Trims c (record { kept = c.kept; known = c.known; uses = c.uses; sets = set c.sets place None; rooms = rooms }) place oldest
    dropped_trims = record {
      kept = refl;
      known = refl;
      uses = refl;
      there = at_same c.sets place None inside ∙ ap (λ (n : Option ℕ). trimmed n (set_at c.sets place)) needed;
      others = λ p other. at_other c.sets place p None other;
    }
