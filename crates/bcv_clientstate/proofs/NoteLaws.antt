-- What is kept after a note, in the machine's words.
use Rattle.std.proofs.Common.{◌≡◌, ◌∙◌, ℕ, List, [], ◌∷◌, ◌++◌, map, drop, Option, Some, None, IfSome, refl, sym, ap, subst}
use Rattle.std.specs.Option.{option_map}
use Rattle.std.proofs.lemmas.List.{map-append, drop-map}
use Rattle.std.proofs.Math.Seq.{drop-nil}
use Rattle.bcv_base.specs.Image.{Writes}
use Rattle.bcv_base.specs.Keyed.{keyed, with_keyed, without_keyed}
use Rattle.bcv_base.specs.ManifestRules.{Ascends}
use Rattle.bcv_model.specs.declared.ask.Commit.{Commit}
use Rattle.bcv_model.specs.declared.kept.Kept.{Kept}
use Rattle.bcv_model.specs.declared.kept.Local.{Local}
use Rattle.bcv_model.specs.declared.kept.PendingPub.{PendingPub}
use Rattle.bcv_model.specs.declared.kept.Uploading.{Uploading}
use Rattle.bcv_model.specs.declared.note.Note.TheVariants as note
use Rattle.bcv_model.specs.Commits.{writes_of}
use Rattle.bcv_model.specs.Notes.{after_note, kept_name, kept_published, rebased, with_local_commit, with_uploaded, with_published}
use Rattle.bcv_machine.specs.Noting as made
use Rattle.bcv_machine.specs.Noting.{kept_after, with_commit, with_remaining, locals_published}
use Rattle.bcv_machine.specs.State.{KeptState, LocalDb, Committing, local_name, local_commits, commits_in}
use Rattle.bcv_clientstate.specs.KeptLaws.{IsOrdered, IsKeptAfter, NotesAreSteps, NotesKeepOrder}
use Rattle.bcv_clientstate.specs.SeenKept.{seen_commit, seen_kept, seen_local, seen_pending, seen_upload}
use Rattle.bcv_dbmap.proofs.Keys.{keyed_key, ascends_with, ascends_without}
use Rattle.bcv_clientstate.proofs.KeyedMaps.{keyed_map, with_map, without_map}
use Rattle.bcv_clientstate.proofs.Replaced.{replaced_none, replaced_with, replaced_without, without_none}

local_found : (k : List ℕ) (ls : List Local) → keyed local_name k (map seen_local ls) ≡ option_map seen_local (keyed kept_name k ls)
local_found = keyed_map kept_name local_name seen_local (λ l. refl)

with_seen : (l : Local) (ls : List Local) → with_keyed local_name (seen_local l) (map seen_local ls) ≡ map seen_local (with_keyed kept_name l ls)
with_seen = with_map kept_name local_name seen_local (λ l. refl)

without_seen : (k : List ℕ) (ls : List Local) → without_keyed local_name k (map seen_local ls) ≡ map seen_local (without_keyed kept_name k ls)
without_seen = without_map kept_name local_name seen_local (λ l. refl)

-- ---- commits

-- one more commit of a database
abbrev with_more : Commit → Local → Local
with_more c l = record l { commits = l.commits ++ c ∷ [] }

more_is : (db : List ℕ) (c : Commit) (ls : List Local) (l : Local) → Ascends kept_name ls → keyed kept_name db ls ≡ Some l → with_local_commit db c ls ≡ with_keyed kept_name (with_more c l) ls
more_is db c ls l asc e = replaced_with (λ x. with_more c x ∷ []) db ls l (with_more c l) asc e (keyed_key kept_name db ls l e) refl

-- ---- uploads

-- what is left of a database over the base of an upload
abbrev left_of : ℕ → Uploading → List Commit → Local
left_of number u cs = record { entry = u.entry; number = number; block = u.block; commits = cs }

uploaded : (number : ℕ) (u : Uploading) (ls : List Local) (l : Local) (cs : List Commit) → Ascends kept_name ls → keyed kept_name u.entry.name ls ≡ Some l → drop u.count l.commits ≡ cs
    → map seen_local (with_uploaded number u ls) ≡ with_remaining u.entry.name number (map writes_of cs) (map seen_local ls)
uploaded number u ls l [] asc e is =
    ap (map seen_local) (replaced_without (λ x. rebased number u (drop u.count x.commits)) u.entry.name ls l asc e (ap (rebased number u) is))
    ∙ sym (without_seen u.entry.name ls)
uploaded number u ls l (c ∷ cs) asc e is =
    ap (map seen_local) (replaced_with (λ x. rebased number u (drop u.count x.commits)) u.entry.name ls l (left_of number u (c ∷ cs)) asc e refl (ap (rebased number u) is))
    ∙ sym (with_seen (left_of number u (c ∷ cs)) ls)

-- the commits of a database, as they are taken
commits_seen : (db : List ℕ) (ls : List Local) (o : Option Local) → keyed kept_name db ls ≡ o → commits_in (map seen_local ls) db ≡ local_commits (option_map seen_local o)
commits_seen db ls o e = ap local_commits (local_found db ls) ∙ ap (λ (x : Option Local). local_commits (option_map seen_local x)) e

taken_seen : (number : ℕ) (u : Uploading) (ls : List Local) (o : Option Local) → Ascends kept_name ls → keyed kept_name u.entry.name ls ≡ o
    → map seen_local (with_uploaded number u ls) ≡ with_remaining u.entry.name number (drop u.count (commits_in (map seen_local ls) u.entry.name)) (map seen_local ls)
taken_seen number u ls None asc e =
    ap (map seen_local) (replaced_none (λ x. rebased number u (drop u.count x.commits)) u.entry.name ls e ∙ sym (without_none u.entry.name ls e))
    ∙ sym (without_seen u.entry.name ls)
    ∙ ap (λ (ws : List Writes). with_remaining u.entry.name number ws (map seen_local ls)) (sym (drop-nil u.count))
    ∙ ap (λ (ws : List Writes). with_remaining u.entry.name number (drop u.count ws) (map seen_local ls)) (sym (commits_seen u.entry.name ls None e))
taken_seen number u ls (Some l) asc e =
    uploaded number u ls l (drop u.count l.commits) asc e refl
    ∙ ap (λ (ws : List Writes). with_remaining u.entry.name number ws (map seen_local ls)) (sym (drop-map writes_of u.count l.commits))
    ∙ ap (λ (ws : List Writes). with_remaining u.entry.name number (drop u.count ws) (map seen_local ls)) (sym (commits_seen u.entry.name ls (Some l) e))

published_seen : (number : ℕ) (upload : Option Uploading) (ls : List Local) → Ascends kept_name ls
    → map seen_local (with_published number upload ls) ≡ locals_published number (option_map seen_upload upload) (map seen_local ls)
published_seen number None ls asc = refl
published_seen number (Some u) ls asc = taken_seen number u ls (keyed kept_name u.entry.name ls) asc refl

-- ---- the law

-- what is kept with other databases
abbrev with_locals : Kept → List LocalDb → KeptState
with_locals k ls = record (seen_kept k) { locals = ls }

first_step : (k : Kept) (l : Local) (c : Commit) → l.commits ≡ c ∷ [] → keyed kept_name l.entry.name k.locals ≡ None
    → with_locals k (map seen_local (with_keyed kept_name l k.locals)) ≡ kept_after (seen_kept k) (Committing l.entry.name l.number (writes_of c))
first_step k l c one new =
    let first : Option LocalDb → LocalDb = with_commit l.entry.name l.number (writes_of c) in
    ap (with_locals k) (sym (with_seen l k.locals))
    ∙ ap (λ (ws : List Writes). with_locals k (with_keyed local_name (record { name = l.entry.name; base = l.number; commits = ws }) (map seen_local k.locals))) (ap (map writes_of) one)
    ∙ sym (ap (λ (o : Option LocalDb). with_locals k (with_keyed local_name (first o) (map seen_local k.locals))) (local_found l.entry.name k.locals ∙ ap (option_map seen_local) new))

more_step : (k : Kept) (db : List ℕ) (c : Commit) (l : Local) → IsOrdered k → keyed kept_name db k.locals ≡ Some l
    → with_locals k (map seen_local (with_local_commit db c k.locals)) ≡ kept_after (seen_kept k) (Committing db l.number (writes_of c))
more_step k db c l asc e =
    let more : Option LocalDb → LocalDb = with_commit db l.number (writes_of c) in
    ap (λ (ls : List Local). with_locals k (map seen_local ls)) (more_is db c k.locals l asc e)
    ∙ ap (with_locals k) (sym (with_seen (with_more c l) k.locals))
    ∙ ap (λ (ws : List Writes). with_locals k (with_keyed local_name (record { name = kept_name l; base = l.number; commits = ws }) (map seen_local k.locals))) (map-append writes_of l.commits (c ∷ []))
    ∙ sym (ap (λ (o : Option LocalDb). with_locals k (with_keyed local_name (more o) (map seen_local k.locals))) (local_found db k.locals ∙ ap (option_map seen_local) e))

-- a publication that was pending was made
done_step : (k : Kept) (number : ℕ) (p : Option PendingPub) → IsOrdered k → k.pending ≡ p
    → seen_kept (kept_published number k p) ≡ made.kept_published number (option_map seen_pending p) (seen_kept k)
done_step k number None asc e = refl
done_step k number (Some p) asc e = ap (λ (ls : List LocalDb). record { locals = ls; pending = None }) (published_seen number p.upload k.locals asc)

pub are_steps : NotesAreSteps
are_steps k (note.Me id) asc may = refl
are_steps k (note.First entry number block c) asc may = first_step k (record { entry = entry; number = number; block = block; commits = c ∷ [] }) c refl may.is_new
are_steps k (note.Committed db c) asc may =
    subst (λ (o : Option Local). IsKeptAfter (seen_kept k) (seen_commit db c o) (seen_kept (after_note k (note.Committed db c)))) (sym may.is_local) (more_step k db c may.local asc may.is_local)
are_steps k (note.Intent p) asc may = refl
are_steps k (note.Done id number) asc may = done_step k number k.pending asc refl
are_steps k (note.Void id) asc may = refl
are_steps k (note.Revert db) asc may = ap (with_locals k) (sym (without_seen db k.locals))

-- ---- the order

uploaded_order : (number : ℕ) (u : Uploading) (ls : List Local) (o : Option Local) (cs : List Commit) → Ascends kept_name ls → keyed kept_name u.entry.name ls ≡ o
    → IfSome o (λ l. drop u.count l.commits ≡ cs) → Ascends kept_name (with_uploaded number u ls)
uploaded_order number u ls None cs asc e is = subst (Ascends kept_name) (sym (replaced_none (λ x. rebased number u (drop u.count x.commits)) u.entry.name ls e)) asc
uploaded_order number u ls (Some l) [] asc e is =
    subst (Ascends kept_name) (sym (replaced_without (λ x. rebased number u (drop u.count x.commits)) u.entry.name ls l asc e (ap (rebased number u) is)))
    (ascends_without kept_name u.entry.name ls asc)
uploaded_order number u ls (Some l) (c ∷ cs) asc e is =
    subst (Ascends kept_name) (sym (replaced_with (λ x. rebased number u (drop u.count x.commits)) u.entry.name ls l (left_of number u (c ∷ cs)) asc e refl (ap (rebased number u) is)))
    (ascends_with kept_name (left_of number u (c ∷ cs)) ls asc)

published_order : (number : ℕ) (k : Kept) (p : Option PendingPub) → IsOrdered k → IsOrdered (kept_published number k p)
published_order number k None asc = asc
published_order number k (Some p) asc = by_upload p.upload
  where
    commits_of : Option Local → Uploading → List Commit
    commits_of None u = []
    commits_of (Some l) u = drop u.count l.commits

    is_taken : (o : Option Local) (u : Uploading) → IfSome o (λ l. drop u.count l.commits ≡ commits_of o u)
    is_taken None u = tt
    is_taken (Some l) u = refl

    by_upload : (upload : Option Uploading) → Ascends kept_name (with_published number upload k.locals)
    by_upload None = asc
    by_upload (Some u) =
        uploaded_order number u k.locals (keyed kept_name u.entry.name k.locals) (commits_of (keyed kept_name u.entry.name k.locals) u) asc refl (is_taken (keyed kept_name u.entry.name k.locals) u)

pub keep_order : NotesKeepOrder
keep_order k (note.Me id) asc may = asc
keep_order k (note.First entry number block c) asc may = ascends_with kept_name (record { entry = entry; number = number; block = block; commits = c ∷ [] }) k.locals asc
keep_order k (note.Committed db c) asc may =
    subst (Ascends kept_name) (sym (more_is db c k.locals may.local asc may.is_local)) (ascends_with kept_name (with_more c may.local) k.locals asc)
keep_order k (note.Intent p) asc may = asc
keep_order k (note.Done id number) asc may = published_order number k k.pending asc
keep_order k (note.Void id) asc may = asc
keep_order k (note.Revert db) asc may = ascends_without kept_name db k.locals asc
