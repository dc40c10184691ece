-- Walks over a delete list: what is picked, and whether there is more.
use Rattle.std.proofs.Common.{◌≡◌, ◌∙◌, ◌⊎◌, inl, inr, ℕ, zero, suc, ◌+◌, ◌<◌, ◌≤◌, ◌^◌, Bool, true, false, not, ◌&&◌, ◌||◌, cond, List, [], ◌∷◌, ◌++◌, take, drop, length, get_or, Option, Some, refl, sym, ap, subst, arith}
use Rattle.std.specs.List.{AllByRecursion, filter}
use Rattle.std.proofs.Math.Seq.{drop-cons, take-append_seam, take-length}
use Rattle.std.proofs.lemmas.Bool.{le-leb}
use Rattle.std.proofs.lemmas.List.{take_all, take_more, take-append-drop, length-map}
use Rattle.std.proofs.lemmas.List.Elements.{filter-append}
use Rattle.std.proofs.lemmas.List.Folds.{list_any-append}
use Rattle.bcv_base.specs.declared.id.Id16.{Id16}
use Rattle.bcv_base.specs.declared.manifest.DbEntry.{DbEntry}
use Rattle.bcv_base.specs.declared.manifest.Dead.{Dead}
use Rattle.bcv_base.specs.declared.manifest.Manifest.{Manifest}
use Rattle.bcv_base.specs.HistoryLaws.{id_eq-is, has_id-first, has_id-later}
use Rattle.bcv_base.specs.Ids.{id_eq, has_id}
use Rattle.bcv_base.specs.Keyed.{keyed}
use Rattle.bcv_base.specs.ManifestRules.{MeetsRules, MeetsDeadRules, IsAbove, Ascends, dead_id}
use Rattle.bcv_dbmap.specs.Deletions.{cleaned, most_cleaned}
use Rattle.bcv_dbmap.specs.Past.{is_old}
use Rattle.bcv_dbmap.proofs.Keys.{before_other, key_same, keyed_here, keyed_there}
use Rattle.bcv_keeprule.specs.Retention.{IsKeepRule}
use Rattle.bcv_cleanup.specs.Picks.{Picks, PicksFirst}
use Rattle.bcv_cleanup.specs.Released.{RuleAnswers, FindsDead, IsTestOf, has_more, ids_of}

-- ---- one entry more

-- past an entry that is no further one
pub passed_one : (released : Dead → Bool) (ids : List Id16) (dead : List Dead) (k : ℕ) (d : Dead) → k < length dead → false ≡ (released (get_or dead k d) && not (has_id (get_or dead k d).id ids))
    → has_more released ids (drop k dead) ≡ has_more released ids (drop (k + 1) dead)
passed_one released ids dead k d within none =
    let next : suc k ≡ k + 1 = omega arith in
    ap (λ (l : List Dead). has_more released ids l) (drop-cons dead k d within) ∙ ap (λ (b : Bool). b || has_more released ids (drop (suc k) dead)) (sym none)
    ∙ ap (λ (n : ℕ). has_more released ids (drop n dead)) next

module _ (answers : RuleAnswers) (moment retention : ℕ) where
  kept_out : (dead : List Dead) (ids : List Id16) (e : Dead) → Picks answers moment retention dead ids → answers e.stamp moment retention false → Picks answers moment retention (dead ++ e ∷ []) ids
  kept_out [] ids e p says = inr (says, p)
  kept_out (x ∷ xs) ids e (inl p) says = inl (p.0, p.1, p.2, kept_out xs p.0 e p.3 says)
  kept_out (x ∷ xs) ids e (inr p) says = inr (p.0, kept_out xs ids e p.1 says)

  taken_in : (dead : List Dead) (ids : List Id16) (e : Dead) → Picks answers moment retention dead ids → answers e.stamp moment retention true → Picks answers moment retention (dead ++ e ∷ []) (ids ++ e.id ∷ [])
  taken_in [] ids e p says = inl ([], ap (λ (l : List Id16). l ++ e.id ∷ []) p, says, refl)
  taken_in (x ∷ xs) ids e (inl p) says = inl (p.0 ++ e.id ∷ [], ap (λ (l : List Id16). l ++ e.id ∷ []) p.1, p.2, taken_in xs p.0 e p.3 says)
  taken_in (x ∷ xs) ids e (inr p) says = inr (p.0, taken_in xs ids e p.1 says)

  -- the entry at the place that a walk has reached, and what the rule answered of it
  pub skipped : (dead : List Dead) (ids : List Id16) (k : ℕ) (d : Dead) (b : Bool) → k < length dead → Picks answers moment retention (take k dead) ids → answers (get_or dead k d).stamp moment retention b → b ≡ false
      → Picks answers moment retention (take (k + 1) dead) ids
  skipped dead ids k d b within p says is =
      subst (λ (l : List Dead). Picks answers moment retention l ids) (sym (take_more dead k d within))
      (kept_out (take k dead) ids (get_or dead k d) p (subst (answers (get_or dead k d).stamp moment retention) is says))

  pub picked : (dead : List Dead) (ids new : List Id16) (k : ℕ) (d : Dead) (b : Bool) → k < length dead → Picks answers moment retention (take k dead) ids → answers (get_or dead k d).stamp moment retention b → b ≡ true
      → new ≡ ids ++ (get_or dead k d).id ∷ [] → Picks answers moment retention (take (k + 1) dead) new
  picked dead ids new k d b within p says is more =
      subst (λ (l : List Id16). Picks answers moment retention (take (k + 1) dead) l) (sym more)
      (subst (λ (l : List Dead). Picks answers moment retention l (ids ++ (get_or dead k d).id ∷ [])) (sym (take_more dead k d within))
      (taken_in (take k dead) ids (get_or dead k d) p (subst (answers (get_or dead k d).stamp moment retention) is says)))

-- ---- the whole walk

-- each stamp is a moment
abbrev pub AreMoments : List Dead → Type 0
AreMoments dead = AllByRecursion (λ (e : Dead). e.stamp < 2 ^ 64) dead

front_of : (P : Dead → Type 0) (n : ℕ) (xs : List Dead) → AllByRecursion P xs → AllByRecursion P (take n xs)
front_of P zero xs all = tt
front_of P (suc n) [] all = tt
front_of P (suc n) (x ∷ xs) all = (all.0, front_of P n xs all.1)

module _ (answers : RuleAnswers) (moment retention : ℕ) (released : Dead → Bool) (test : IsTestOf answers moment retention released) where
  -- what is picked are the entries that the test releases
  picks_are : (dead : List Dead) (ids : List Id16) → AreMoments dead → Picks answers moment retention dead ids → ids ≡ ids_of (filter released dead)
  picks_are [] ids fits p = p
  picks_are (e ∷ es) ids fits (inl p) =
      p.1 ∙ ap (λ (l : List Id16). e.id ∷ l) (picks_are es p.0 fits.1 p.3) ∙ ap (λ (b : Bool). ids_of (cond b (e ∷ filter released es) (filter released es))) (sym (test e true fits.0 p.2))
  picks_are (e ∷ es) ids fits (inr p) =
      picks_are es ids fits.1 p.1 ∙ ap (λ (b : Bool). ids_of (cond b (e ∷ filter released es) (filter released es))) (sym (test e false fits.0 p.0))

-- of what a walk went past, nothing is left
none_besides : (released : Dead → Bool) (dead : List Dead) (ids : List Id16) → ((i : Id16) → has_id i (ids_of (filter released dead)) ≡ true → has_id i ids ≡ true) → has_more released ids dead ≡ false
none_besides released [] ids all = refl
none_besides released (e ∷ es) ids all = by_answer (released e) refl (none_besides released es ids) all
  where
    by_answer : (b : Bool) → released e ≡ b → (((i : Id16) → has_id i (ids_of (filter released es)) ≡ true → has_id i ids ≡ true) → has_more released ids es ≡ false)
        → ((i : Id16) → has_id i (ids_of (cond b (e ∷ filter released es) (filter released es))) ≡ true → has_id i ids ≡ true) → ((released e && not (has_id e.id ids)) || has_more released ids es) ≡ false
    by_answer true is later all =
        ap (λ (b : Bool). (b && not (has_id e.id ids)) || has_more released ids es) is
        ∙ ap (λ (b : Bool). not b || has_more released ids es) (all e.id (has_id-first e.id (ids_of (filter released es))))
        ∙ later (λ i h. all i (has_id-later i e.id (ids_of (filter released es)) h))
    by_answer false is later all = ap (λ (b : Bool). (b && not (has_id e.id ids)) || has_more released ids es) is ∙ later all

-- what a walk took are the first entries that the test releases, and what it did not reach says whether there are more
module _ (answers : RuleAnswers) (moment retention place : ℕ) (dead : List Dead) (ids : List Id16) (fits : AreMoments dead) (p : PicksFirst answers moment retention dead place ids)
    (released : Dead → Bool) (test : IsTestOf answers moment retention released) where
  abbrev reached : List Dead
  reached = take place dead

  are : ids ≡ ids_of (filter released reached)
  are = picks_are answers moment retention released test (take place dead) ids (front_of (λ (e : Dead). e.stamp < 2 ^ 64) place dead fits) p.picks

  both : reached ++ drop place dead ≡ dead
  both = take-append-drop place dead

  first_ones : ids ≡ ids_of (cleaned released dead)
  first_ones = by_stop p.stops
    where
      long : length ids ≡ length (filter released (take place dead))
      long = ap (λ (l : List Id16). length l) are ∙ length-map (filter released (take place dead)) (λ (e : Dead). e.id)

      by_stop : (length ids ≡ most_cleaned) ⊎ (place ≡ length dead) → ids ≡ ids_of (cleaned released dead)
      by_stop (inl full) =
          let seam : take (length (filter released reached)) (filter released reached ++ filter released (drop place dead)) ≡ filter released reached =
          take-append_seam (filter released reached) (filter released (drop place dead)) in
          are ∙ ap ids_of (sym seam) ∙ ap (λ (n : ℕ). ids_of (take n (filter released reached ++ filter released (drop place dead)))) (sym long ∙ full)
          ∙ ap (λ (l : List Dead). ids_of (take most_cleaned l)) (sym (filter-append released reached (drop place dead))) ∙ ap (λ (l : List Dead). ids_of (cleaned released l)) both
      by_stop (inr whole) =
          let all : reached ≡ dead = ap (λ (n : ℕ). take n dead) whole ∙ take-length dead in
          are ∙ ap ids_of (sym (take_all most_cleaned (filter released reached) (omega (arith, long, p.few)))) ∙ ap (λ (l : List Dead). ids_of (cleaned released l)) all

  further_ones : has_more released ids dead ≡ has_more released ids (drop place dead)
  further_ones =
      ap (λ (l : List Dead). has_more released ids l) (sym both) ∙ list_any-append (λ (e : Dead). released e && not (has_id e.id ids)) reached (drop place dead)
      ∙ ap (λ (b : Bool). b || has_more released ids (drop place dead)) (none_besides released reached ids (λ i h. ap (has_id i) are ∙ h))

-- ---- the retention

-- each dead block is the one that its id finds
each_found : (xs : List Dead) → Ascends dead_id xs → AllByRecursion (λ (e : Dead). keyed dead_id e.id.0 xs ≡ Some e) xs
each_found [] asc = tt
each_found (x ∷ xs) asc = (keyed_here dead_id x.id.0 x xs (key_same x.id.0), later xs asc.0 (each_found xs asc.1))
  where
    later : (ys : List Dead) → IsAbove dead_id x.id.0 ys → AllByRecursion (λ (e : Dead). keyed dead_id e.id.0 xs ≡ Some e) ys → AllByRecursion (λ (e : Dead). keyed dead_id e.id.0 (x ∷ xs) ≡ Some e) ys
    later [] above all = tt
    later (y ∷ ys) above all = (keyed_there dead_id y.id.0 x xs (before_other x.id.0 y.id.0 above.0) ∙ all.0, later ys above.1 all.1)

-- what the rule releases has its retention behind it
module _ (answers : RuleAnswers) (moment retention : ℕ) (patient : (stamp : ℕ) → stamp < 2 ^ 64 → answers stamp moment retention true → stamp + retention ≤ moment) (dead : List Dead) where
  expired : (xs : List Dead) (ids : List Id16) (i : Id16) → AllByRecursion (λ (e : Dead). keyed dead_id e.id.0 dead ≡ Some e) xs → AreMoments xs → Picks answers moment retention xs ids → has_id i ids ≡ true
      → is_old (keyed dead_id i.0 dead) retention moment ≡ true
  expired [] ids i found fits p h = let none : has_id i [] ≡ true = sym (ap (has_id i) p) ∙ h in absurd cc
  expired (e ∷ es) ids i found fits (inl p) h = by_first (id_eq e.id i) refl (sym (ap (has_id i) p.1) ∙ h) (expired es p.0 i found.1 fits.1 p.3)
    where
      by_first : (b : Bool) → id_eq e.id i ≡ b → (b || has_id i p.0) ≡ true → (has_id i p.0 ≡ true → is_old (keyed dead_id i.0 dead) retention moment ≡ true) → is_old (keyed dead_id i.0 dead) retention moment ≡ true
      by_first true same h later =
          subst (λ (j : Id16). is_old (keyed dead_id j.0 dead) retention moment ≡ true) (id_eq-is e.id i same)
          (ap (λ (o : Option Dead). is_old o retention moment) found.0 ∙ le-leb (e.stamp + retention) moment (patient e.stamp fits.0 p.2))
      by_first false same h later = later h
  expired (e ∷ es) ids i found fits (inr p) h = expired es ids i found.1 fits.1 p.1 h

-- ---- what a first get finds

are_moments : (dbs : List DbEntry) (dead : List Dead) → AllByRecursion (MeetsDeadRules dbs) dead → AreMoments dead
are_moments dbs [] all = tt
are_moments dbs (e ∷ es) all = (all.0.stamp, are_moments dbs es all.1)

pub finds_first : (asks : ℕ → ℕ → ℕ → Type 0) (answers : RuleAnswers) (moment : ℕ) (m : Manifest) (place : ℕ) (ids : List Id16) (more : Bool) → IsKeepRule asks answers → moment < 2 ^ 64 → MeetsRules m
    → PicksFirst answers moment m.retention m.dead place ids → ((released : Dead → Bool) → IsTestOf answers moment m.retention released → more ≡ has_more released ids (drop place m.dead)) → FindsDead answers moment m [] ids more
finds_first asks answers moment m place ids more rule small rules p rest =
    let fits = are_moments m.dbs m.dead rules.each_dead in
    record {
      takes = record {
        first = first_ones answers moment m.retention place m.dead ids fits p;
        expired =
            λ i h. expired answers moment m.retention (λ stamp is says. rule.patient stamp moment m.retention is small rules.retention says) m.dead (take place m.dead) ids i
            (front_of (λ (e : Dead). keyed dead_id e.id.0 m.dead ≡ Some e) place m.dead (each_found m.dead rules.dead)) (front_of (λ (e : Dead). e.stamp < 2 ^ 64) place m.dead fits) p.picks h;
      };
      further = λ released test. rest released test ∙ sym (further_ones answers moment m.retention place m.dead ids fits p released test);
    }
