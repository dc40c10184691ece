-- Why a call is refused, by the databases in memory; and what holds where nothing speaks against it.
use Rattle.std.proofs.Common.{◌≡◌, ◌∙◌, ◌<◌, ◌≤◌, ◌+◌, ◌^◌, ◌&&◌, ℕ, Bool, true, false, not, nat_le, nat_lt, List, [], ◌∷◌, length, Option, Some, None, IsSome, is_some, is_none, option_and_then, refl, sym, ap, subst, arith}
use Rattle.std.proofs.lemmas.Bool.{and_parts, leb-true, ltb-true}
use Rattle.std.proofs.lemmas.Option.{same_Some}
use Rattle.std.specs.Option.{option_map}
use Rattle.bcv_base.specs.Image.{Page, Writes, or_else}
use Rattle.bcv_base.specs.Keyed.{keyed}
use Rattle.bcv_base.specs.ManifestRules.{blocks_needed}
use Rattle.bcv_base.specs.Views.{ascends, have_size, is_commit}
use Rattle.bcv_databases.specs.Catalog.{Catalog, View, commits_of, found_at, known_name, known_view, local_view, set_at, use_name}
use Rattle.bcv_databases.specs.Changes.{commit_note, note_over}
use Rattle.bcv_databases.specs.Sound.{AreDatabases, HasSet, IsSame}
use Rattle.bcv_databases.specs.declared.known.Known.{Known}
use Rattle.bcv_databases.specs.declared.set_use.SetUse.{SetUse}
use Rattle.bcv_machine.specs.Refusals.{first_reason}
use Rattle.bcv_model.specs.declared.ask.Commit.{Commit}
use Rattle.bcv_model.specs.declared.kept.Kept.{Kept}
use Rattle.bcv_model.specs.declared.kept.Local.{Local}
use Rattle.bcv_model.specs.declared.note.Note.{Note}
use Rattle.bcv_model.specs.declared.note.Note.TheVariants as note
use Rattle.bcv_model.specs.declared.reply.Reply.{Reply}
use Rattle.bcv_model.specs.declared.reply.Reply.TheVariants as reply
use Rattle.bcv_model.specs.Notes.{kept_name}
use Rattle.bcv_pages.specs.Held.{Held}
use Rattle.bcv_clientstate.specs.PartRefusals.{bad_commit, commit_reason_in, has_local_in, known_part, large_commit, local_part, part_view_in, revert_reason_in}
use Rattle.bcv_clientstate.specs.Parts.{LedgerParts}
use Rattle.bcv_dbmap.proofs.Keys.{keyed_key}
use Rattle.bcv_ledger.specs.Reasons.{commit_reason_by, parts_by, revert_reason_by}

-- the view of a database with commits, or of a known one
abbrev pub view_by : Catalog → Option Local → Option Known → Option View
view_by c a b = or_else (option_map (local_view c) a) (option_map known_view b)

-- ---- a commit

commit_by : (closed : Bool) (w : Writes) (c : Catalog) (a : Option Local) (b : Option Known)
    → first_reason
    ((closed, reply.Closed) ∷ (is_none (or_else (option_map local_part a) (option_map known_part b)), reply.NoDatabase) ∷ (bad_commit w (or_else (option_map local_part a) (option_map known_part b)), reply.BadPage) ∷ (large_commit w (or_else (option_map local_part a) (option_map known_part b)), reply.TooLarge) ∷ [])
    ≡ commit_reason_by closed w (view_by c a b)
commit_by closed w c (Some l) b = refl
commit_by closed w c None (Some k) = refl
commit_by closed w c None None = refl

pub commit_reason_is : (closed : Bool) (w : Writes) (c : Catalog) (db : List ℕ) → commit_reason_in (parts_by closed c) db w ≡ commit_reason_by closed w (found_at c db)
commit_reason_is closed w c db = commit_by closed w c (keyed kept_name db c.kept.locals) (keyed known_name db c.known)

-- ---- a revert

some_there : {A B : Type 0} (f : A → B) (o : Option A) (x : A) → o ≡ Some x → is_some (option_map f o) ≡ true
some_there f None x e = absurd (cc)
some_there f (Some y) x e = refl

-- a database with commits has a set of them
set_there : (sets : List (Option Held)) (l : Local) (o : Option SetUse) → HasSet sets (Some l) o → is_some (option_and_then (commits_of sets) o) ≡ true
set_there sets l None has = absurd has
set_there sets l (Some u) has = some_there _ (set_at sets u.set) has.0 has.1

pub has_commits : (c : Catalog) (db : List ℕ) (l : Local) → AreDatabases c → keyed kept_name db c.kept.locals ≡ Some l → is_some (local_view c l).commits ≡ true
has_commits c db l are e =
    let named : kept_name l ≡ db = keyed_key kept_name db c.kept.locals l e in
    ap (λ (n : List ℕ). is_some (option_and_then (commits_of c.sets) (keyed use_name n c.uses))) named
    ∙ set_there c.sets l (keyed use_name db c.uses) (subst (λ (o : Option Local). HasSet c.sets o (keyed use_name db c.uses)) e (are.held db))

none_of : {A : Type 0} (o : Option A) → is_some o ≡ true → is_none o ≡ false
none_of None e = absurd (cc)
none_of (Some x) e = refl

revert_by : (closed pending busy : Bool) (c : Catalog) (a : Option Local) (b : Option Known) → ((l : Local) → a ≡ Some l → is_some (local_view c l).commits ≡ true)
    → first_reason
    ((closed, reply.Closed) ∷ (pending, reply.Pending) ∷ (busy, reply.Busy) ∷ (is_none (or_else (option_map local_part a) (option_map known_part b)), reply.NoDatabase) ∷ (not (is_some a), reply.Nothing) ∷ [])
    ≡ revert_reason_by closed pending busy (view_by c a b)
revert_by closed pending busy c (Some l) b some =
    ap (λ (x : Bool). first_reason ((closed, reply.Closed) ∷ (pending, reply.Pending) ∷ (busy, reply.Busy) ∷ (x, reply.Nothing) ∷ [])) (sym (none_of (local_view c l).commits (some l refl)))
revert_by closed pending busy c None (Some k) some = refl
revert_by closed pending busy c None None some = refl

pub revert_reason_is : (closed busy : Bool) (c : Catalog) (db : List ℕ) → AreDatabases c → revert_reason_in (parts_by closed c) busy db ≡ revert_reason_by closed (is_some c.kept.pending) busy (found_at c db)
revert_reason_is closed busy c db are = revert_by closed (is_some c.kept.pending) busy c (keyed kept_name db c.kept.locals) (keyed known_name db c.known) (λ l e. has_commits c db l are e)

-- ---- where nothing speaks against it

-- of the first reasons none holds
pub none_first : (b : Bool) (r : Reply) (rest : List (Bool × Reply)) → first_reason ((b, r) ∷ rest) ≡ None → (b ≡ false) × (first_reason rest ≡ None)
none_first true r rest e = absurd (cc)
none_first false r rest e = (refl, e)

pub not_false : (b : Bool) → not b ≡ false → b ≡ true
not_false true e = refl
not_false false e = absurd (cc)

pub record CommitIsFree (closed : Bool) (w : Writes) (v : Option View) : Type 0 where
  pub is_open : closed ≡ false
  pub there : View
  pub is : v ≡ Some there
  pub fits : is_commit there.entry.page_size w ≡ true
  pub small : nat_lt 65536 (blocks_needed there.block there.entry.page_size w.size) ≡ false

pub commit_is_free : (closed : Bool) (w : Writes) (v : Option View) → commit_reason_by closed w v ≡ None → CommitIsFree closed w v
commit_is_free closed w None e =
    let a = none_first closed reply.Closed ((true, reply.NoDatabase) ∷ []) e in absurd (let b = a.1 in cc)
commit_is_free closed w (Some v) e =
    let large : Bool = nat_lt 65536 (blocks_needed v.block v.entry.page_size w.size) in
    let bad : Bool = not (is_commit v.entry.page_size w) in
    let a = none_first closed reply.Closed ((bad, reply.BadPage) ∷ (large, reply.TooLarge) ∷ []) e in
    let b = none_first bad reply.BadPage ((large, reply.TooLarge) ∷ []) a.1 in
    let d = none_first large reply.TooLarge [] b.1 in
    record { is_open = a.0; there = v; is = refl; fits = not_false (is_commit v.entry.page_size w) b.0; small = d.0 }

-- a commit has no more pages than its size
ascends_few : (low high : ℕ) (ws : List (ℕ × Page)) → low ≤ high → ascends low high ws ≡ true → low + length ws ≤ high
ascends_few low high [] le asc = omega (arith, le)
ascends_few low high (w ∷ ws) le asc =
    let parts = and_parts (nat_lt low w.0 && nat_le w.0 high) (ascends w.0 high ws) asc in
    let here = and_parts (nat_lt low w.0) (nat_le w.0 high) parts.0 in
    let rest : w.0 + length ws ≤ high = ascends_few w.0 high ws (leb-true w.0 high here.1) parts.1 in
    let above : low < w.0 = ltb-true low w.0 here.0 in
    omega (arith, rest, above)

pub few_pages : (page_size : ℕ) (w : Writes) → w.size < 2 ^ 32 → is_commit page_size w ≡ true → length w.pages < 2 ^ 32
few_pages page_size w small is =
    let few : 0 + length w.pages ≤ w.size = ascends_few 0 w.size w.pages (omega arith) (and_parts (ascends 0 w.size w.pages) (have_size page_size w.pages) is).0 in
    omega (arith, few, small)

-- ---- the note of a commit

pub note_there : (c : Catalog) (db : List ℕ) (commit : Commit) (v : View) → found_at c db ≡ Some v → (x : Note) × (commit_note c db commit ≡ Some x)
note_there c db commit v e = by (keyed kept_name db c.kept.locals) (keyed known_name db c.known) e
  where
    by : (a : Option Local) (b : Option Known) → view_by c a b ≡ Some v → (x : Note) × (note_over db commit a b ≡ Some x)
    by (Some l) b e = (note.Committed db commit, refl)
    by None (Some k) e = (note.First k.entry k.number k.block commit, refl)
    by None None e = absurd (cc)

-- the view has commits: one more
pub noted_later : (c : Catalog) (db : List ℕ) (commit : Commit) (v : View) → found_at c db ≡ Some v → is_some v.commits ≡ true → commit_note c db commit ≡ Some (note.Committed db commit)
noted_later c db commit v e some = by (keyed kept_name db c.kept.locals) (keyed known_name db c.known) e
  where
    by : (a : Option Local) (b : Option Known) → view_by c a b ≡ Some v → note_over db commit a b ≡ Some (note.Committed db commit)
    by (Some l) b e = refl
    by None (Some k) e = let is : known_view k ≡ v = same_Some (known_view k) v e in let none : is_some v.commits ≡ false = ap (λ (x : View). is_some x.commits) (sym is) in absurd (cc)
    by None None e = absurd (cc)

-- it has none: the first one, over the base
pub noted_first : (c : Catalog) (db : List ℕ) (commit : Commit) (v : View) → AreDatabases c → found_at c db ≡ Some v → is_some v.commits ≡ false
    → commit_note c db commit ≡ Some (note.First v.entry v.number v.block commit)
noted_first c db commit v are e none = by (keyed kept_name db c.kept.locals) (keyed known_name db c.known) refl e
  where
    by : (a : Option Local) (b : Option Known) → keyed kept_name db c.kept.locals ≡ a → view_by c a b ≡ Some v → note_over db commit a b ≡ Some (note.First v.entry v.number v.block commit)
    by (Some l) b is e =
        let same : local_view c l ≡ v = same_Some (local_view c l) v e in
        let some : is_some (local_view c l).commits ≡ true = has_commits c db l are is in
        let some_v : is_some v.commits ≡ true = sym (ap (λ (x : View). is_some x.commits) same) ∙ some in
        absurd (cc)
    by None (Some k) is e = ap (λ (x : View). Some (note.First x.entry x.number x.block commit)) (same_Some (known_view k) v e)
    by None None is e = absurd (cc)

-- a database stays known while memory is taken
some_by : (c d : Catalog) (a : Option Local) (b : Option Known) → IsSome (view_by c a b) → IsSome (view_by d a b)
some_by c d (Some l) b some = refl
some_by c d None (Some k) some = refl
some_by c d None None some = absurd (cc)

pub known_still : (old mid : Catalog) (db : List ℕ) → IsSame old mid → IsSome (found_at old db) → IsSome (found_at mid db)
known_still old mid db same some =
    subst (λ (o : Option Local). IsSome (view_by mid o (keyed known_name db mid.known))) (sym (ap (λ (k : Kept). keyed kept_name db k.locals) same.kept))
    (subst (λ (o : Option Known). IsSome (view_by mid (keyed kept_name db old.kept.locals) o)) (sym (ap (λ (ks : List Known). keyed known_name db ks) same.known))
    (some_by old mid (keyed kept_name db old.kept.locals) (keyed known_name db old.known) some))

-- a commit is not refused
pub free_to_commit : (closed : Bool) (w : Writes) (c : Catalog) (db : List ℕ) → commit_reason_in (parts_by closed c) db w ≡ None → CommitIsFree closed w (found_at c db)
free_to_commit closed w c db none = commit_is_free closed w (found_at c db) (sym (commit_reason_is closed w c db) ∙ none)

-- and its database is known
pub open_to_commit : (l : LedgerParts) (db : List ℕ) (w : Writes) → commit_reason_in l db w ≡ None → (l.closed ≡ false) × (is_none (part_view_in l db) ≡ false)
open_to_commit l db w none =
    let unknown : Bool = is_none (part_view_in l db) in
    let last = (bad_commit w (part_view_in l db), reply.BadPage) ∷ (large_commit w (part_view_in l db), reply.TooLarge) ∷ [] in
    let a = none_first l.closed reply.Closed ((unknown, reply.NoDatabase) ∷ last) none in
    (a.0, (none_first unknown reply.NoDatabase last a.1).0)

-- nor is a revert
pub record RevertIsFree (closed busy : Bool) (c : Catalog) (db : List ℕ) : Type 0 where
  pub is_open : closed ≡ false
  pub free : is_some c.kept.pending ≡ false
  pub quiet : busy ≡ false
  pub local : is_some (keyed kept_name db c.kept.locals) ≡ true

pub free_to_revert : (closed busy : Bool) (c : Catalog) (db : List ℕ) → revert_reason_in (parts_by closed c) busy db ≡ None → RevertIsFree closed busy c db
free_to_revert closed busy c db none =
    let pending : Bool = is_some c.kept.pending in
    let unknown : Bool = is_none (part_view_in (parts_by closed c) db) in
    let nothing : Bool = not (has_local_in (parts_by closed c) db) in
    let last = (nothing, reply.Nothing) ∷ [] in
    let a = none_first closed reply.Closed ((pending, reply.Pending) ∷ (busy, reply.Busy) ∷ (unknown, reply.NoDatabase) ∷ last) none in
    let b = none_first pending reply.Pending ((busy, reply.Busy) ∷ (unknown, reply.NoDatabase) ∷ last) a.1 in
    let d = none_first busy reply.Busy ((unknown, reply.NoDatabase) ∷ last) b.1 in
    let e = none_first unknown reply.NoDatabase last d.1 in
    let f = none_first nothing reply.Nothing [] e.1 in
    record { is_open = a.0; free = b.0; quiet = d.0; local = not_false (is_some (keyed kept_name db c.kept.locals)) f.0 }

pub some_is : {A : Type 0} (o : Option A) → is_some o ≡ true → (x : A) × (o ≡ Some x)
some_is None e = absurd (cc)
some_is (Some x) e = (x, refl)
