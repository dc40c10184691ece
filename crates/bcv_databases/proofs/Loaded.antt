-- Loops over loaded databases.
use Rattle.std.proofs.Common.{◌≡◌, ◌∙◌, ℕ, zero, suc, ◌+◌, ◌<◌, ◌≤◌, true, false, List, [], ◌∷◌, ◌++◌, length, get_or, take, map, refl, sym, ap, subst, arith, Option, Some, None}
use Rattle.std.specs.List.{list_all}
use Rattle.std.proofs.lemmas.Bool.{and_parts}
use Rattle.std.proofs.lemmas.List.{take_more}
use Rattle.std.specs.Str.{bytes_eq}
use Rattle.std.proofs.lemmas.Option.{same_Some}
use Rattle.bcv_base.specs.Image.{Writes}
use Rattle.bcv_base.specs.Keyed.{keyed}
use Rattle.bcv_base.specs.ManifestRules.{Ascends, IsAbove}
use Rattle.bcv_dbmap.proofs.Keys.{by_test, keyed_here, keyed_there, same_key}
use Rattle.bcv_base.specs.Views.{is_commit}
use Rattle.bcv_model.specs.declared.ask.Commit.{Commit}
use Rattle.bcv_model.specs.declared.kept.Local.{Local}
use Rattle.bcv_model.specs.Commits.{writes_of}
use Rattle.bcv_model.specs.Notes.{kept_name}
use Rattle.bcv_model.specs.declared.kept.Kept.{Kept}
use Rattle.bcv_pages.specs.Held.{Held, CanView, last_of, with_commit, with_room}
use Rattle.bcv_databases.specs.Catalog.{Rooms, set_at, use_name}
use Rattle.bcv_databases.specs.Sound.{AreApart, AreDatabases, AreLoaded, HasSet, IsSetOf}
use Rattle.bcv_databases.specs.declared.known.Known.{Known}
use Rattle.bcv_databases.proofs.SetViews.{view_whole}
use Rattle.bcv_databases.specs.Slots.{loaded_set, uses_from}
use Rattle.bcv_databases.specs.declared.set_use.SetUse.{SetUse}

-- ---- commits

pub commit_at : (page_size : ℕ) (cs : List Commit) (i : ℕ) (x : Commit) → i < length cs → x ≡ get_or cs i x → list_all (is_commit page_size) (map writes_of cs) ≡ true
    → is_commit page_size (writes_of x) ≡ true
commit_at page_size [] i x lt is all = absurd (omega (arith, lt))
commit_at page_size (c ∷ cs) zero x lt is all =
    ap (λ (z : Commit). is_commit page_size (writes_of z)) is ∙ (and_parts (is_commit page_size (writes_of c)) (list_all (is_commit page_size) (map writes_of cs)) all).0
commit_at page_size (c ∷ cs) (suc i) x lt is all =
    commit_at page_size cs i x (omega (arith, lt)) is (and_parts (is_commit page_size (writes_of c)) (list_all (is_commit page_size) (map writes_of cs)) all).1

-- a set of these commits
abbrev pub filled : ℕ → List Commit → Held
filled page_size cs = record { page_size = page_size; forgotten = 0; kept = map writes_of cs; ready = None }

map_push : (cs : List Commit) (c : Commit) → map writes_of cs ++ writes_of c ∷ [] ≡ map writes_of (cs ++ c ∷ [])
map_push [] c = refl
map_push (x ∷ xs) c = ap (λ (ws : List Writes). writes_of x ∷ ws) (map_push xs c)

-- one more commit
pub filled_more : (page_size : ℕ) (cs : List Commit) (i : ℕ) (x copy : Commit) (h reserved added : Held) → i < length cs → x ≡ get_or cs i x → copy ≡ x
    → h ≡ filled page_size (take i cs) → reserved ≡ with_room (writes_of x) h → added ≡ with_commit (writes_of copy) reserved → added ≡ filled page_size (take (i + 1) cs)
filled_more page_size cs i x copy h reserved added lt is copied was room more =
    more
    ∙ ap (λ (r : Held). with_commit (writes_of copy) r) (room ∙ ap (with_room (writes_of x)) was)
    ∙ ap (λ (z : Commit). with_commit (writes_of z) (with_room (writes_of x) (filled page_size (take i cs)))) (copied ∙ is)
    ∙ ap (λ (ws : List Writes). record { page_size = page_size; forgotten = 0; kept = ws; ready = None }) (map_push (take i cs) (get_or cs i x) ∙ ap (map writes_of) (sym (take_more cs i x lt)))

-- ---- uses

abbrev pub use_at : Local → ℕ → SetUse
use_at l place = record { name = kept_name l; set = place; from = 0 }

uses_push : (place : ℕ) (ls : List Local) (l : Local) (end : ℕ) → place + length ls ≡ end → uses_from place ls ++ use_at l end ∷ [] ≡ uses_from place (ls ++ l ∷ [])
uses_push place [] l end e = let same : end ≡ place = omega (arith, e) in ap (λ (n : ℕ). use_at l n ∷ []) same
uses_push place (x ∷ xs) l end e = ap (λ (us : List SetUse). use_at x place ∷ us) (uses_push (place + 1) xs l end (omega (arith, e)))

length_front : {A : Type 0} (i : ℕ) (xs : List A) → i < length xs → length (take i xs) ≡ i
length_front i [] lt = absurd (omega (arith, lt))
length_front zero (x ∷ xs) lt = refl
length_front (suc i) (x ∷ xs) lt = ap suc (length_front i xs (omega (arith, lt)))

pub uses_more : (ls : List Local) (i : ℕ) (l : Local) → i < length ls → l ≡ get_or ls i l → uses_from 0 (take i ls) ++ use_at l i ∷ [] ≡ uses_from 0 (take (i + 1) ls)
uses_more ls i l lt is =
    let n : length (take i ls) ≡ i = length_front i ls lt in
    uses_push 0 (take i ls) l i (omega (arith, n))
    ∙ ap (λ (z : Local). uses_from 0 (take i ls ++ z ∷ [])) is
    ∙ ap (uses_from 0) (sym (take_more ls i l lt))

-- ---- all that was loaded

-- where no use has been found before this place, none is before it
use_above : (a : List ℕ) (place : ℕ) (ls : List Local) (u : SetUse) → keyed use_name a (uses_from place ls) ≡ Some u → place ≤ u.set
use_above a place [] u found = absurd cc
use_above a place (l ∷ ls) u found =
    by_test (bytes_eq (kept_name l) a)
    (λ e. let same : use_at l place ≡ u = same_Some (use_at l place) u (sym (keyed_here use_name a (use_at l place) (uses_from (place + 1) ls) e) ∙ found) in
    let at : place ≡ u.set = ap (λ (v : SetUse). v.set) same in omega (arith, at))
    (λ e. let more : place + 1 ≤ u.set = use_above a (place + 1) ls u (sym (keyed_there use_name a (use_at l place) (uses_from (place + 1) ls) e) ∙ found) in omega (arith, more))

-- the first use is that of its place
use_first : (a : List ℕ) (place : ℕ) (l : Local) (ls : List Local) (u : SetUse) → bytes_eq (kept_name l) a ≡ true → keyed use_name a (uses_from place (l ∷ ls)) ≡ Some u → u.set ≡ place
use_first a place l ls u e found =
    ap (λ (v : SetUse). v.set) (sym (same_Some (use_at l place) u (sym (keyed_here use_name a (use_at l place) (uses_from (place + 1) ls) e) ∙ found)))

uses_apart : (place : ℕ) (ls : List Local) → AreApart (uses_from place ls)
uses_apart place [] a b u v is_u is_v same = absurd cc
uses_apart place (l ∷ ls) a b u v is_u is_v same =
    let later : (k : List ℕ) (w : SetUse) → bytes_eq (kept_name l) k ≡ false → keyed use_name k (uses_from place (l ∷ ls)) ≡ Some w → keyed use_name k (uses_from (place + 1) ls) ≡ Some w =
    λ k w e found. sym (keyed_there use_name k (use_at l place) (uses_from (place + 1) ls) e) ∙ found in
    by_test (bytes_eq (kept_name l) a)
    (λ ea. by_test (bytes_eq (kept_name l) b)
    (λ eb. sym (same_key (kept_name l) a ea) ∙ same_key (kept_name l) b eb)
    (λ eb. let at : u.set ≡ place = use_first a place l ls u ea is_u in
    let above : place + 1 ≤ v.set = use_above b (place + 1) ls v (later b v eb is_v) in absurd (omega (arith, at, above, same))))
    (λ ea. by_test (bytes_eq (kept_name l) b)
    (λ eb. let at : v.set ≡ place = use_first b place l ls v eb is_v in
    let above : place + 1 ≤ u.set = use_above a (place + 1) ls u (later a u ea is_u) in absurd (omega (arith, at, above, same)))
    (λ eb. uses_apart (place + 1) ls a b u v (later a u ea is_u) (later b v eb is_v) same))

above_uses : (k : List ℕ) (place : ℕ) (ls : List Local) → IsAbove kept_name k ls → IsAbove use_name k (uses_from place ls)
above_uses k place [] above = tt
above_uses k place (l ∷ ls) above = (above.0, above_uses k (place + 1) ls above.1)

uses_ascend : (place : ℕ) (ls : List Local) → Ascends kept_name ls → Ascends use_name (uses_from place ls)
uses_ascend place [] asc = tt
uses_ascend place (l ∷ ls) asc = (above_uses (kept_name l) (place + 1) ls asc.0, uses_ascend (place + 1) ls asc.1)

-- the set of a loaded database has its commits
filled_is : (l : Local) → IsSetOf l 0 (filled l.entry.page_size l.commits)
filled_is l =
    let can : CanView (filled l.entry.page_size l.commits) 0 (last_of (filled l.entry.page_size l.commits)) = record { kept = omega arith; order = omega arith; there = omega arith } in
    record { size = refl; view = can; commits = view_whole (filled l.entry.page_size l.commits) 0 can }

-- each has its set, where the sets from this place on are theirs
loaded_held : (all : List (Option Held)) (place : ℕ) (ls : List Local) → ((i : ℕ) → set_at all (place + i) ≡ set_at (map loaded_set ls) i)
    → (db : List ℕ) → HasSet all (keyed kept_name db ls) (keyed use_name db (uses_from place ls))
loaded_held all place [] sets db = tt
loaded_held all place (l ∷ ls) sets db =
    let us : List SetUse = uses_from (place + 1) ls in
    by_test (bytes_eq (kept_name l) db)
    (λ e.
    let n : place + 0 ≡ place = omega arith in
    subst (λ (o : Option Local). HasSet all o (keyed use_name db (uses_from place (l ∷ ls)))) (sym (keyed_here kept_name db l ls e))
    (subst (λ (o : Option SetUse). HasSet all (Some l) o) (sym (keyed_here use_name db (use_at l place) us e))
    (filled l.entry.page_size l.commits, ap (set_at all) (sym n) ∙ sets 0, filled_is l)))
    (λ e.
    let rest : HasSet all (keyed kept_name db ls) (keyed use_name db us) =
    loaded_held all (place + 1) ls (λ i. let n : place + 1 + i ≡ place + suc i = omega arith in ap (set_at all) n ∙ sets (suc i)) db in
    subst (λ (o : Option Local). HasSet all o (keyed use_name db (uses_from place (l ∷ ls)))) (sym (keyed_there kept_name db l ls e))
    (subst (λ (o : Option SetUse). HasSet all (keyed kept_name db ls) o) (sym (keyed_there use_name db (use_at l place) us e)) rest))

pub loaded_are : (k : Kept) (ks : List Known) (us : List SetUse) (xs : List (Option Held)) (rooms : Rooms) → AreLoaded k → ks ≡ [] → us ≡ uses_from 0 k.locals → xs ≡ map loaded_set k.locals
    → AreDatabases (record { kept = k; known = ks; uses = us; sets = xs; rooms = rooms })
loaded_are k ks us xs rooms loaded no_known uses_are sets_are =
    let sets : (i : ℕ) → set_at (map loaded_set k.locals) (0 + i) ≡ set_at (map loaded_set k.locals) i = λ i. let n : 0 + i ≡ i = omega arith in ap (set_at (map loaded_set k.locals)) n in
    subst (λ (z : List Known). AreDatabases (record { kept = k; known = z; uses = us; sets = xs; rooms = rooms })) (sym no_known)
    (subst (λ (z : List SetUse). AreDatabases (record { kept = k; known = []; uses = z; sets = xs; rooms = rooms })) (sym uses_are)
    (subst (λ (z : List (Option Held)). AreDatabases (record { kept = k; known = []; uses = uses_from 0 k.locals; sets = z; rooms = rooms })) (sym sets_are)
    (record {
      order = loaded.order;
      known_order = tt;
      without = tt;
      held = loaded_held (map loaded_set k.locals) 0 k.locals sets;
      uses_order = uses_ascend 0 k.locals loaded.order;
      apart = uses_apart 0 k.locals;
      pending = loaded.pending;
    })))
