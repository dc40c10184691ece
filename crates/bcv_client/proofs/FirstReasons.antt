-- What holds where nothing speaks against a call.
use Rattle.std.proofs.Common.{◌≡◌, ◌∙◌, ℕ, Bool, true, false, not, List, [], ◌∷◌, Option, Some, None, is_none, is_some, option_and_then, refl, ap, subst}
use Rattle.std.specs.Option.{option_map}
use Rattle.bcv_base.specs.Keyed.{keyed}
use Rattle.bcv_clientstate.specs.PartRefusals.{bad_commit, commit_reason_in, has_local_in, large_commit, part_view_in, revert_reason_in}
use Rattle.bcv_clientstate.specs.Parts.{LedgerParts}
use Rattle.bcv_databases.specs.Catalog.{Catalog, commits_of, local_view, set_at, use_name}
use Rattle.bcv_databases.specs.Sound.{AreDatabases, HasSet, KeepsViews}
use Rattle.bcv_databases.specs.declared.set_use.SetUse.{SetUse}
use Rattle.bcv_dbmap.proofs.Keys.{keyed_key}
use Rattle.bcv_base.specs.Image.{Writes}
use Rattle.bcv_machine.specs.Refusals.{first_reason}
use Rattle.bcv_model.specs.declared.kept.Local.{Local}
use Rattle.bcv_model.specs.declared.reply.Reply.{Reply}
use Rattle.bcv_model.specs.declared.reply.Reply.TheVariants as reply
use Rattle.bcv_model.specs.Notes.{kept_name}
use Rattle.bcv_pages.specs.Held.{Held, last_of}

-- of the first reasons none holds
pub none_first : (b : Bool) (r : Reply) (rest : List (Bool × Reply)) → first_reason ((b, r) ∷ rest) ≡ None → (b ≡ false) × (first_reason rest ≡ None)
none_first true r rest e = absurd (let is : Some r ≡ None = e in cc)
none_first false r rest e = (refl, e)

pub there_is : {A : Type 0} (o : Option A) → is_none o ≡ false → (x : A) × (o ≡ Some x)
there_is None e = absurd (let is : true ≡ false = e in cc)
there_is (Some x) e = (x, refl)

-- ---- commits and reverts

-- a commit that is not refused is one of an open log, and its database is known
pub open_to_commit : (l : LedgerParts) (db : List ℕ) (w : Writes) → commit_reason_in l db w ≡ None → (l.closed ≡ false) × (is_none (part_view_in l db) ≡ false)
open_to_commit l db w none =
    let last = (bad_commit w (part_view_in l db), reply.BadPage) ∷ (large_commit w (part_view_in l db), reply.TooLarge) ∷ [] in
    let a = none_first l.closed reply.Closed ((is_none (part_view_in l db), reply.NoDatabase) ∷ last) none in
    (a.0, (none_first (is_none (part_view_in l db)) reply.NoDatabase last a.1).0)

-- and does not make its database too large
pub small_commit : (l : LedgerParts) (db : List ℕ) (w : Writes) → commit_reason_in l db w ≡ None → large_commit w (part_view_in l db) ≡ false
small_commit l db w none =
    let large = (large_commit w (part_view_in l db), reply.TooLarge) ∷ [] in
    let bad = (bad_commit w (part_view_in l db), reply.BadPage) ∷ large in
    let a = none_first l.closed reply.Closed ((is_none (part_view_in l db), reply.NoDatabase) ∷ bad) none in
    let b = none_first (is_none (part_view_in l db)) reply.NoDatabase bad a.1 in
    let d = none_first (bad_commit w (part_view_in l db)) reply.BadPage large b.1 in
    (none_first (large_commit w (part_view_in l db)) reply.TooLarge [] d.1).0

-- a revert that is not refused is one of an open log, and nothing publishes
pub free_to_revert : (l : LedgerParts) (busy : Bool) (db : List ℕ) → revert_reason_in l busy db ≡ None → (l.closed ≡ false) × (busy ≡ false)
free_to_revert l busy db none =
    let last = (is_none (part_view_in l db), reply.NoDatabase) ∷ (not (has_local_in l db), reply.Nothing) ∷ [] in
    let a = none_first l.closed reply.Closed ((is_some l.kept.pending, reply.Pending) ∷ (busy, reply.Busy) ∷ last) none in
    let b = none_first (is_some l.kept.pending) reply.Pending ((busy, reply.Busy) ∷ last) a.1 in
    (a.0, (none_first busy reply.Busy last b.1).0)

-- ---- databases with commits

some_there : {A B : Type 0} (f : A → B) (o : Option A) (x : A) → o ≡ Some x → is_some (option_map f o) ≡ true
some_there f None x e = absurd (let is : None ≡ Some x = e in cc)
some_there f (Some y) x e = refl

set_there : (sets : List (Option Held)) (l : Local) (o : Option SetUse) → HasSet sets (Some l) o → is_some (option_and_then (commits_of sets) o) ≡ true
set_there sets l None has = absurd has
set_there sets l (Some u) has = some_there (λ (h : Held). record { set = u.set; from = u.from; to = last_of h }) (set_at sets u.set) has.0 has.1

-- a database with commits has a set of them
pub has_commits : (c : Catalog) (db : List ℕ) (l : Local) → AreDatabases c → keyed kept_name db c.kept.locals ≡ Some l → is_some (local_view c l).commits ≡ true
has_commits c db l are e =
    ap (λ (n : List ℕ). is_some (option_and_then (commits_of c.sets) (keyed use_name n c.uses))) (keyed_key kept_name db c.kept.locals l e)
    ∙ set_there c.sets l (keyed use_name db c.uses) (subst (λ (o : Option Local). HasSet c.sets o (keyed use_name db c.uses)) e (are.held db))

pub same_views : (sets : List (Option Held)) → KeepsViews sets sets
same_views sets place h at = (h, at, (λ from to can. (can, refl)), refl)
