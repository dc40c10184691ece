-- The delete list behind a plan: what a look-up finds in it, by cases, and that it ascends.
use Rattle.std.proofs.Common.{◌≡◌, ◌∙◌, ℕ, Bool, true, false, ◌||◌, ◌⊎◌, inl, inr, cond, List, [], ◌∷◌, Option, Some, None, is_some, refl, sym, ap, subst}
use Rattle.bcv_base.specs.declared.id.Id16.{Id16}
use Rattle.bcv_base.specs.declared.manifest.DbEntry.{DbEntry}
use Rattle.bcv_base.specs.declared.manifest.Dead.{Dead}
use Rattle.bcv_base.specs.HistoryLaws.{id_eq-is}
use Rattle.bcv_base.specs.Ids.{id_eq, has_id}
use Rattle.bcv_base.specs.Keyed.{keyed, with_keyed}
use Rattle.bcv_base.specs.ManifestRules.{dead_id, lists, is_dead, IsAbove, Ascends}
use Rattle.bcv_dbmap.specs.declared.plan.EditPlan.{EditPlan}
use Rattle.bcv_dbmap.specs.Applied.{bury, bury_all, still_dead, swept_ids, dead_after}
use Rattle.bcv_dbmap.proofs.Keys.{by_test, keyed_here, keyed_there, keyed_at, keyed_other, ascends_with}

-- a dead block of a stamp
abbrev pub dead_at : Id16 → ℕ → Dead
dead_at i stamp = record { id = i; stamp = stamp }

-- ---- what is buried

-- one id
abbrev pub bury_one : ℕ → List DbEntry → Id16 → List Dead → List Dead
bury_one stamp dbs i dead = cond (lists dbs i) dead (with_keyed dead_id (dead_at i stamp) dead)

-- the id of one that is buried is found with the stamp where no database lists it, and what is found of another stays
buried_one : (stamp : ℕ) (dbs : List DbEntry) (j i : Id16) (dead : List Dead)
    → keyed dead_id i.0 (bury_one stamp dbs j dead) ≡ cond (lists dbs i) (keyed dead_id i.0 dead) (cond (id_eq j i) (Some (dead_at i stamp)) (keyed dead_id i.0 dead))
buried_one stamp dbs j i dead =
    by_test (id_eq j i)
    (λ e.
    subst (λ (k : Id16). keyed dead_id i.0 (bury_one stamp dbs k dead) ≡ cond (lists dbs i) (keyed dead_id i.0 dead) (cond (id_eq j i) (Some (dead_at i stamp)) (keyed dead_id i.0 dead))) (sym (id_eq-is j i e))
    (at_itself (lists dbs i) (id_eq j i) e))
    (λ e. apart (lists dbs j) (lists dbs i) (id_eq j i) e (keyed_other dead_id (dead_at j stamp) i.0 dead e))
  where
    at_itself : (b c : Bool) → c ≡ true → keyed dead_id i.0 (cond b dead (with_keyed dead_id (dead_at i stamp) dead)) ≡ cond b (keyed dead_id i.0 dead) (cond c (Some (dead_at i stamp)) (keyed dead_id i.0 dead))
    at_itself true c e = refl
    at_itself false true e = keyed_at dead_id (dead_at i stamp) dead
    at_itself false false e = absurd cc

    apart : (a b c : Bool) → c ≡ false → keyed dead_id i.0 (with_keyed dead_id (dead_at j stamp) dead) ≡ keyed dead_id i.0 dead
        → keyed dead_id i.0 (cond a dead (with_keyed dead_id (dead_at j stamp) dead)) ≡ cond b (keyed dead_id i.0 dead) (cond c (Some (dead_at i stamp)) (keyed dead_id i.0 dead))
    apart a b true e f = absurd cc
    apart true true false e f = refl
    apart true false false e f = refl
    apart false true false e f = f
    apart false false false e f = f

-- a block of these ids or of those
twice : (listed a b : Bool) (found old : Option Dead)
    → cond listed (cond listed old (cond a found old)) (cond b found (cond listed old (cond a found old))) ≡ cond listed old (cond (a || b) found old)
twice true a b found old = refl
twice false true true found old = refl
twice false true false found old = refl
twice false false b found old = refl

-- the same of several
pub bury_found : (stamp : ℕ) (dbs : List DbEntry) (is : List Id16) (i : Id16) (dead : List Dead)
    → keyed dead_id i.0 (bury stamp dbs is dead) ≡ cond (lists dbs i) (keyed dead_id i.0 dead) (cond (has_id i is) (Some (dead_at i stamp)) (keyed dead_id i.0 dead))
bury_found stamp dbs [] i dead = both_same (lists dbs i)
  where
    both_same : (b : Bool) → keyed dead_id i.0 dead ≡ cond b (keyed dead_id i.0 dead) (keyed dead_id i.0 dead)
    both_same true = refl
    both_same false = refl
bury_found stamp dbs (j ∷ is) i dead =
    bury_found stamp dbs is i (bury_one stamp dbs j dead)
    ∙ ap (λ (o : Option Dead). cond (lists dbs i) o (cond (has_id i is) (Some (dead_at i stamp)) o)) (buried_one stamp dbs j i dead)
    ∙ twice (lists dbs i) (id_eq j i) (has_id i is) (Some (dead_at i stamp)) (keyed dead_id i.0 dead)

pub bury_all_found : (stamp : ℕ) (dbs before : List DbEntry) (i : Id16) (dead : List Dead)
    → keyed dead_id i.0 (bury_all stamp dbs before dead) ≡ cond (lists dbs i) (keyed dead_id i.0 dead) (cond (lists before i) (Some (dead_at i stamp)) (keyed dead_id i.0 dead))
bury_all_found stamp dbs [] i dead = bury_found stamp dbs [] i dead
bury_all_found stamp dbs (d ∷ ds) i dead =
    bury_all_found stamp dbs ds i (bury stamp dbs d.blocks dead)
    ∙ ap (λ (o : Option Dead). cond (lists dbs i) o (cond (lists ds i) (Some (dead_at i stamp)) o)) (bury_found stamp dbs d.blocks i dead)
    ∙ twice (lists dbs i) (has_id i d.blocks) (lists ds i) (Some (dead_at i stamp)) (keyed dead_id i.0 dead)

-- ---- what stays dead

pub still_found : (dbs : List DbEntry) (swept : List Id16) (i : Id16) (dead : List Dead)
    → keyed dead_id i.0 (still_dead dbs swept dead) ≡ cond (lists dbs i || has_id i swept) None (keyed dead_id i.0 dead)
still_found dbs swept i [] = nothing (lists dbs i || has_id i swept)
  where
    nothing : (b : Bool) → ◌≡◌ {A = Option Dead} None (cond b None None)
    nothing true = refl
    nothing false = refl
still_found dbs swept i (e ∷ es) =
    by_test (id_eq e.id i)
    (λ t. at_itself (still_found dbs swept i es) (lists dbs e.id || has_id e.id swept) (ap (λ (k : Id16). lists dbs k || has_id k swept) (id_eq-is e.id i t)) t)
    (λ t. apart (lists dbs e.id || has_id e.id swept) t ∙ still_found dbs swept i es ∙ ap (λ (o : Option Dead). cond (lists dbs i || has_id i swept) None o) (sym (keyed_there dead_id i.0 e es t)))
  where
    at_itself : keyed dead_id i.0 (still_dead dbs swept es) ≡ cond (lists dbs i || has_id i swept) None (keyed dead_id i.0 es) → (b : Bool) → b ≡ (lists dbs i || has_id i swept) → id_eq e.id i ≡ true
        → keyed dead_id i.0 (cond b (still_dead dbs swept es) (e ∷ still_dead dbs swept es)) ≡ cond (lists dbs i || has_id i swept) None (keyed dead_id i.0 (e ∷ es))
    at_itself rest true same t =
        rest ∙ ap (λ (b : Bool). cond b None (keyed dead_id i.0 es)) (sym same) ∙ ap (λ (b : Bool). cond b None (keyed dead_id i.0 (e ∷ es))) same
    at_itself rest false same t =
        keyed_here dead_id i.0 e (still_dead dbs swept es) t ∙ sym (keyed_here dead_id i.0 e es t) ∙ ap (λ (b : Bool). cond b None (keyed dead_id i.0 (e ∷ es))) same

    apart : (b : Bool) → id_eq e.id i ≡ false → keyed dead_id i.0 (cond b (still_dead dbs swept es) (e ∷ still_dead dbs swept es)) ≡ keyed dead_id i.0 (still_dead dbs swept es)
    apart true t = refl
    apart false t = keyed_there dead_id i.0 e (still_dead dbs swept es) t

-- ---- the delete list behind a plan

-- what a look-up finds: nothing of a block that is listed, the stamp of one that is listed no longer, nothing of one that
-- was swept, and else what was found before
abbrev pub dead_found : EditPlan → ℕ → List DbEntry → List DbEntry → List Dead → Id16 → Option Dead
dead_found p stamp now before dead i =
    cond (lists now i) None (cond (lists before i) (Some (dead_at i stamp)) (cond (has_id i (swept_ids p)) None (keyed dead_id i.0 dead)))

pub dead_after_found : (p : EditPlan) (stamp : ℕ) (now before : List DbEntry) (dead : List Dead) (i : Id16)
    → keyed dead_id i.0 (dead_after p stamp now before dead) ≡ dead_found p stamp now before dead i
dead_after_found p stamp now before dead i =
    bury_all_found stamp now before i (still_dead now (swept_ids p) dead)
    ∙ ap (λ (o : Option Dead). cond (lists now i) o (cond (lists before i) (Some (dead_at i stamp)) o)) (still_found now (swept_ids p) i dead)
    ∙ together (lists now i) (lists before i) (has_id i (swept_ids p)) (Some (dead_at i stamp)) (keyed dead_id i.0 dead)
  where
    together : (a b c : Bool) (found old : Option Dead)
        → cond a (cond (a || c) None old) (cond b found (cond (a || c) None old)) ≡ cond a None (cond b found (cond c None old))
    together true b c found old = refl
    together false b c found old = refl

-- what is found was listed or dead before
pub found_died : (p : EditPlan) (stamp : ℕ) (now before : List DbEntry) (dead : List Dead) (i : Id16)
    → is_some (dead_found p stamp now before dead i) ≡ true → (lists before i ≡ true) ⊎ (is_dead dead i ≡ true)
found_died p stamp now before dead i = found (lists now i) (lists before i) (has_id i (swept_ids p))
  where
    found : (a b c : Bool) → is_some (cond a None (cond b (Some (dead_at i stamp)) (cond c None (keyed dead_id i.0 dead)))) ≡ true → (b ≡ true) ⊎ (is_dead dead i ≡ true)
    found true b c h = absurd cc
    found false true c h = inl refl
    found false false true h = absurd cc
    found false false false h = inr h

-- a block that is listed is not dead
pub listed_not_dead : (p : EditPlan) (stamp : ℕ) (now before : List DbEntry) (dead : List Dead) (i : Id16)
    → lists now i ≡ true → keyed dead_id i.0 (dead_after p stamp now before dead) ≡ None
listed_not_dead p stamp now before dead i h =
    dead_after_found p stamp now before dead i
    ∙ ap (λ (b : Bool). cond b None (cond (lists before i) (Some (dead_at i stamp)) (cond (has_id i (swept_ids p)) None (keyed dead_id i.0 dead)))) h

-- one that is listed no longer has the stamp
pub left_dead : (p : EditPlan) (stamp : ℕ) (now before : List DbEntry) (dead : List Dead) (i : Id16)
    → lists now i ≡ false → lists before i ≡ true → keyed dead_id i.0 (dead_after p stamp now before dead) ≡ Some (dead_at i stamp)
left_dead p stamp now before dead i h g =
    dead_after_found p stamp now before dead i
    ∙ ap (λ (b : Bool). cond b None (cond (lists before i) (Some (dead_at i stamp)) (cond (has_id i (swept_ids p)) None (keyed dead_id i.0 dead)))) h
    ∙ ap (λ (b : Bool). cond b (Some (dead_at i stamp)) (cond (has_id i (swept_ids p)) None (keyed dead_id i.0 dead))) g

-- one that was swept, and that was not listed before, is gone from the list
pub swept_dead : (p : EditPlan) (stamp : ℕ) (now before : List DbEntry) (dead : List Dead) (i : Id16)
    → lists now i ≡ false → lists before i ≡ false → has_id i (swept_ids p) ≡ true → keyed dead_id i.0 (dead_after p stamp now before dead) ≡ None
swept_dead p stamp now before dead i h g s =
    dead_after_found p stamp now before dead i
    ∙ ap (λ (b : Bool). cond b None (cond (lists before i) (Some (dead_at i stamp)) (cond (has_id i (swept_ids p)) None (keyed dead_id i.0 dead)))) h
    ∙ ap (λ (b : Bool). cond b (Some (dead_at i stamp)) (cond (has_id i (swept_ids p)) None (keyed dead_id i.0 dead))) g
    ∙ ap (λ (b : Bool). cond b None (keyed dead_id i.0 dead)) s

-- each other one is as it was
pub stays_dead : (p : EditPlan) (stamp : ℕ) (now before : List DbEntry) (dead : List Dead) (i : Id16)
    → lists now i ≡ false → lists before i ≡ false → has_id i (swept_ids p) ≡ false → keyed dead_id i.0 (dead_after p stamp now before dead) ≡ keyed dead_id i.0 dead
stays_dead p stamp now before dead i h g s =
    dead_after_found p stamp now before dead i
    ∙ ap (λ (b : Bool). cond b None (cond (lists before i) (Some (dead_at i stamp)) (cond (has_id i (swept_ids p)) None (keyed dead_id i.0 dead)))) h
    ∙ ap (λ (b : Bool). cond b (Some (dead_at i stamp)) (cond (has_id i (swept_ids p)) None (keyed dead_id i.0 dead))) g
    ∙ ap (λ (b : Bool). cond b None (keyed dead_id i.0 dead)) s

-- ---- it ascends

pub bury_ascends : (stamp : ℕ) (dbs : List DbEntry) (is : List Id16) (dead : List Dead) → Ascends dead_id dead → Ascends dead_id (bury stamp dbs is dead)
bury_ascends stamp dbs [] dead asc = asc
bury_ascends stamp dbs (i ∷ is) dead asc = bury_ascends stamp dbs is (bury_one stamp dbs i dead) (one (lists dbs i))
  where
    one : (b : Bool) → Ascends dead_id (cond b dead (with_keyed dead_id (dead_at i stamp) dead))
    one true = asc
    one false = ascends_with dead_id (dead_at i stamp) dead asc

pub bury_all_ascends : (stamp : ℕ) (dbs before : List DbEntry) (dead : List Dead) → Ascends dead_id dead → Ascends dead_id (bury_all stamp dbs before dead)
bury_all_ascends stamp dbs [] dead asc = asc
bury_all_ascends stamp dbs (d ∷ ds) dead asc = bury_all_ascends stamp dbs ds (bury stamp dbs d.blocks dead) (bury_ascends stamp dbs d.blocks dead asc)

still_above : (dbs : List DbEntry) (swept : List Id16) (k : List ℕ) (dead : List Dead) → IsAbove dead_id k dead → IsAbove dead_id k (still_dead dbs swept dead)
still_above dbs swept k [] above = tt
still_above dbs swept k (e ∷ es) above = one (lists dbs e.id || has_id e.id swept) (still_above dbs swept k es above.1)
  where
    one : (b : Bool) → IsAbove dead_id k (still_dead dbs swept es) → IsAbove dead_id k (cond b (still_dead dbs swept es) (e ∷ still_dead dbs swept es))
    one true rest = rest
    one false rest = (above.0, rest)

pub still_ascends : (dbs : List DbEntry) (swept : List Id16) (dead : List Dead) → Ascends dead_id dead → Ascends dead_id (still_dead dbs swept dead)
still_ascends dbs swept [] asc = tt
still_ascends dbs swept (e ∷ es) asc = one (lists dbs e.id || has_id e.id swept) (still_ascends dbs swept es asc.1)
  where
    one : (b : Bool) → Ascends dead_id (still_dead dbs swept es) → Ascends dead_id (cond b (still_dead dbs swept es) (e ∷ still_dead dbs swept es))
    one true rest = rest
    one false rest = (still_above dbs swept (dead_id e) es asc.0, rest)

pub dead_after_ascends : (p : EditPlan) (stamp : ℕ) (now before : List DbEntry) (dead : List Dead) → Ascends dead_id dead → Ascends dead_id (dead_after p stamp now before dead)
dead_after_ascends p stamp now before dead asc = bury_all_ascends stamp now before (still_dead now (swept_ids p) dead) (still_ascends now (swept_ids p) dead asc)
