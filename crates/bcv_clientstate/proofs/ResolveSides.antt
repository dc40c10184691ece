-- What a resolve finds of the pending publication.
use Rattle.std.proofs.Common.{◌≡◌, ◌∙◌, ◌+◌, ℕ, Bool, true, false, ◌||◌, cond, List, [], ◌∷◌, ◌++◌, length, Option, Some, None, inl, inr, refl, ap, subst, arith}
use Rattle.std.proofs.lemmas.Option.{same_Some}
use Rattle.bcv_base.specs.declared.id.Id16.{Id16}
use Rattle.bcv_base.specs.declared.manifest.Manifest.{Manifest}
use Rattle.bcv_base.specs.History.{Item, BlockPut, Published, Unreadable, BlockDeleted, ManifestDeleted, Always}
use Rattle.bcv_base.specs.HistoryLaws.{id_eq-self, version-count}
use Rattle.bcv_base.specs.Ids.{id_eq}
use Rattle.bcv_base.specs.Version.{Version}
use Rattle.bcv_base.specs.Versions.{Reads, version_of, versions_of}
use Rattle.bcv_dbmap.specs.Past.{Publication, has_version, is_own, last_own}
use Rattle.bcv_dbmap.specs.Sound.{HasNewId}
use Rattle.bcv_machine.specs.Resolve.{number_from}
use Rattle.bcv_publish.specs.Resolve.{IsNotLast}
use Rattle.bcv_clientstate.specs.ResolveSides.{AtIsFound, FreshIsNotFound, LastIsFound, VoidedIsNotFound}

-- ---- versions in a row

-- the first that has an id, and else one of two rests
sooner_by : (b : Bool) (n : ℕ) (one two : Option ℕ) (k : ℕ) → (one ≡ Some k → two ≡ Some k) → cond b (Some n) one ≡ Some k → cond b (Some n) two ≡ Some k
sooner_by true n one two k later e = e
sooner_by false n one two k later e = later e

next_by : (b : Bool) (n : ℕ) (one two next : Option ℕ) → (one ≡ None → two ≡ next) → cond b (Some n) one ≡ None → cond b (Some n) two ≡ next
next_by true n one two next later e = absurd (cc)
next_by false n one two next later e = later e

-- one that is found among the first is found among more
found_sooner : (n : ℕ) (id : Id16) (vs ws : List Version) (k : ℕ) → number_from n id vs ≡ Some k → number_from n id (vs ++ ws) ≡ Some k
found_sooner n id [] ws k e = absurd (cc)
found_sooner n id (v ∷ vs) ws k e = sooner_by (id_eq v.id id) n (number_from (n + 1) id vs) (number_from (n + 1) id (vs ++ ws)) k (λ later. found_sooner (n + 1) id vs ws k later) e

-- where none of the first has it, the next one is looked at
found_next : (n : ℕ) (id : Id16) (vs : List Version) (v : Version) → number_from n id vs ≡ None → number_from n id (vs ++ v ∷ []) ≡ cond (id_eq v.id id) (Some (n + length vs)) None
found_next n id [] v e = ap (λ (k : ℕ). cond (id_eq v.id id) (Some k) None) (omega arith)
found_next n id (w ∷ vs) v e =
    next_by (id_eq w.id id) n (number_from (n + 1) id vs) (number_from (n + 1) id (vs ++ v ∷ [])) (cond (id_eq v.id id) (Some (n + length (w ∷ vs))) None)
    (λ later. found_next (n + 1) id vs v later ∙ ap (λ (k : ℕ). cond (id_eq v.id id) (Some k) None) (omega arith)) e

-- ---- histories

first_false : (a b : Bool) → (a || b) ≡ false → a ≡ false
first_false true b e = e
first_false false b e = refl

second_false : (a b : Bool) → (a || b) ≡ false → b ≡ false
second_false true b e = absurd (cc)
second_false false b e = e

pub fresh_is_not_found : FreshIsNotFound
fresh_is_not_found [] id fresh = refl
fresh_is_not_found (BlockPut i bytes ∷ past) id fresh = fresh_is_not_found past id fresh
fresh_is_not_found (Published m ∷ past) id fresh =
    found_next 1 id (versions_of past) (version_of past m) (fresh_is_not_found past id (second_false (id_eq m.id id) (has_version past id) fresh))
    ∙ ap (λ (b : Bool). cond b (Some (1 + length (versions_of past))) None) (first_false (id_eq m.id id) (has_version past id) fresh)
fresh_is_not_found (Unreadable ∷ past) id fresh = fresh_is_not_found past id fresh
fresh_is_not_found (BlockDeleted i at ∷ past) id fresh = fresh_is_not_found past id fresh
fresh_is_not_found (ManifestDeleted ∷ past) id fresh = fresh_is_not_found past id fresh

-- a manifest is found at its number
at_end : (past : List Item) (m : Manifest) → Always Reads (Published m ∷ past) → has_version past m.id ≡ false → number_from 1 m.id (versions_of (Published m ∷ past)) ≡ Some m.number
at_end past m reads fresh =
    let count = version-count past reads.0 in
    let number = reads.1.number in
    found_next 1 m.id (versions_of past) (version_of past m) (fresh_is_not_found past m.id fresh)
    ∙ ap (λ (b : Bool). cond b (Some (1 + length (versions_of past))) None) (id_eq-self m.id)
    ∙ ap Some (omega (arith, count, number))

-- the last manifest is the writer's own, or what was found before stays
by_own : (b : Bool) (m : Manifest) (id : Id16) (n : ℕ) (earlier : Option Publication) (vs : List Version) → number_from 1 m.id vs ≡ Some m.number
    → (earlier ≡ Some (record { id = id; number = n }) → number_from 1 id vs ≡ Some n)
    → cond b (Some (record { id = m.id; number = m.number })) earlier ≡ Some (record { id = id; number = n }) → number_from 1 id vs ≡ Some n
by_own true m id n earlier vs now before e =
    let one : Publication = record { id = m.id; number = m.number } in
    let two : Publication = record { id = id; number = n } in
    subst (λ (p : Publication). number_from 1 p.id vs ≡ Some p.number) (same_Some one two e) now
by_own false m id n earlier vs now before e = before e

last_found : (past : List Item) (writer id : Id16) (n : ℕ) → Always Reads past → Always HasNewId past → last_own past writer ≡ Some (record { id = id; number = n })
    → number_from 1 id (versions_of past) ≡ Some n
last_found [] writer id n reads fresh last = absurd (cc)
last_found (BlockPut i bytes ∷ past) writer id n reads fresh last = last_found past writer id n reads.0 fresh.0 last
last_found (Published m ∷ past) writer id n reads fresh last =
    by_own (is_own writer m) m id n (last_own past writer) (versions_of (Published m ∷ past)) (at_end past m reads fresh.1)
    (λ earlier. found_sooner 1 id (versions_of past) (version_of past m ∷ []) n (last_found past writer id n reads.0 fresh.0 earlier)) last
last_found (Unreadable ∷ past) writer id n reads fresh last = last_found past writer id n reads.0 fresh.0 last
last_found (BlockDeleted i at ∷ past) writer id n reads fresh last = last_found past writer id n reads.0 fresh.0 last
last_found (ManifestDeleted ∷ past) writer id n reads fresh last = last_found past writer id n reads.0 fresh.0 last

pub last_is_found : LastIsFound
last_is_found past writer id n sound last = last_found past writer id n sound.reads sound.new_ids last

-- ---- what a resolve answers

pub at_is_found : AtIsFound
at_is_found o past seen writer p n sound ends = last_is_found past writer p.id n sound ends.1

pub voided_is_not_found : VoidedIsNotFound
voided_is_not_found o past seen writer p (inl fresh) ends = fresh_is_not_found past p.id fresh
voided_is_not_found o past seen writer p (inr made) ends = absurd (subst (IsNotLast p.id) made.last ends.1 refl)
