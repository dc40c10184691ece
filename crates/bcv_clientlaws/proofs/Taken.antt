-- What an upload takes of a database stays there under a note that leaves the commits.
use Rattle.std.proofs.Common.{◌≡◌, ◌∙◌, ◌≤◌, ℕ, true, false, List, [], ◌∷◌, ◌++◌, length, map, take, Some, None, refl, sym, ap, subst, arith}
use Rattle.std.specs.Str.{bytes_eq}
use Rattle.std.proofs.lemmas.List.{length-take, map-append, take-append-le}
use Rattle.std.proofs.lemmas.Option.{same_Some}
use Rattle.bcv_base.specs.Image.{Writes}
use Rattle.bcv_base.specs.Keyed.{keyed, with_keyed}
use Rattle.bcv_dbmap.proofs.Keys.{by_test, keyed_at, keyed_key, keyed_other, same_key}
use Rattle.bcv_databases.proofs.Replaced.{replaced_with, with_more}
use Rattle.bcv_model.specs.declared.ask.Commit.{Commit}
use Rattle.bcv_model.specs.declared.kept.Kept.{Kept}
use Rattle.bcv_model.specs.declared.kept.Local.{Local}
use Rattle.bcv_model.specs.declared.note.Note.TheVariants as note
use Rattle.bcv_model.specs.Commits.{writes_of}
use Rattle.bcv_model.specs.Notes.{kept_name}
use Rattle.bcv_clientstate.specs.Fits.{TakesFrom}
use Rattle.bcv_clientlaws.specs.OtherParts.{NotesKeepTaken}

-- what stands at the front of some commits stands at the front of more
more_commits : (view : List Writes) (cs : List Commit) (c : Commit) → take (length view) (map writes_of cs) ≡ view → take (length view) (map writes_of (cs ++ c ∷ [])) ≡ view
more_commits view cs c is =
    let n : ℕ = length view in
    let long : length (take n (map writes_of cs)) ≡ n = ap length is in
    let within : n ≤ length (map writes_of cs) = omega (arith, long, length-take n (map writes_of cs)) in
    ap (take n) (map-append writes_of cs (c ∷ [])) ∙ take-append-le n (map writes_of cs) (writes_of c ∷ []) within ∙ is

-- another database is put among them
beside : (k : Kept) (m : Local) (name : List ℕ) (number : ℕ) (view : List Writes) → bytes_eq (kept_name m) name ≡ false → TakesFrom k name number view
    → TakesFrom (record k { locals = with_keyed kept_name m k.locals }) name number view
beside k m name number view other takes =
    record { local = takes.local; is_local = keyed_other kept_name m name k.locals other ∙ takes.is_local; base = takes.base; first = takes.first; some = takes.some }

-- a database with one more commit is
one_more : (k : Kept) (l : Local) (c : Commit) (name : List ℕ) (number : ℕ) (view : List Writes) → keyed kept_name (kept_name l) k.locals ≡ Some l → TakesFrom k name number view
    → TakesFrom (record k { locals = with_keyed kept_name (with_more c l) k.locals }) name number view
one_more k l c name number view found takes =
    by_test (bytes_eq (kept_name l) name)
    (λ e.
    let same : kept_name l ≡ name = same_key (kept_name l) name e in
    let one : takes.local ≡ l = same_Some takes.local l (sym takes.is_local ∙ ap (λ (n : List ℕ). keyed kept_name n k.locals) (sym same) ∙ found) in
    record {
      local = with_more c l;
      is_local = ap (λ (n : List ℕ). keyed kept_name n (with_keyed kept_name (with_more c l) k.locals)) (sym same) ∙ keyed_at kept_name (with_more c l) k.locals;
      base = ap (λ (x : Local). x.number) (sym one) ∙ takes.base;
      first = more_commits view l.commits c (ap (λ (x : Local). take (length view) (map writes_of x.commits)) (sym one) ∙ takes.first);
      some = takes.some;
    })
    (λ e. beside k (with_more c l) name number view e takes)

none_there : (db name : List ℕ) (ls : List Local) (l : Local) → keyed kept_name db ls ≡ None → keyed kept_name name ls ≡ Some l → bytes_eq db name ≡ true → ⊥
none_there db name ls l none found e =
    let both : None ≡ Some l = sym none ∙ ap (λ (n : List ℕ). keyed kept_name n ls) (same_key db name e) ∙ found in cc

not_same : (db name : List ℕ) (ls : List Local) (l : Local) → keyed kept_name db ls ≡ None → keyed kept_name name ls ≡ Some l → bytes_eq db name ≡ false
not_same db name ls l none found = by_test (bytes_eq db name) (λ e. absurd (none_there db name ls l none found e)) (λ e. e)

pub notes_keep_taken : NotesKeepTaken
notes_keep_taken k (note.Me id) order may leaves name number view takes =
    record { local = takes.local; is_local = takes.is_local; base = takes.base; first = takes.first; some = takes.some }
notes_keep_taken k (note.First entry own block commit) order may leaves name number view takes =
    beside k (record { entry = entry; number = own; block = block; commits = commit ∷ [] }) name number view
    (not_same entry.name name k.locals takes.local may.is_new takes.is_local) takes
notes_keep_taken k (note.Committed db commit) order may leaves name number view takes =
    let is_name : kept_name may.local ≡ db = keyed_key kept_name db k.locals may.local may.is_local in
    let found : keyed kept_name (kept_name may.local) k.locals ≡ Some may.local = ap (λ (n : List ℕ). keyed kept_name n k.locals) is_name ∙ may.is_local in
    subst (λ (ls : List Local). TakesFrom (record k { locals = ls }) name number view)
    (sym (replaced_with (λ (x : Local). with_more commit x ∷ []) db k.locals may.local (with_more commit may.local) order may.is_local refl is_name))
    (one_more k may.local commit name number view found takes)
notes_keep_taken k (note.Intent p) order may leaves name number view takes =
    record { local = takes.local; is_local = takes.is_local; base = takes.base; first = takes.first; some = takes.some }
notes_keep_taken k (note.Done id own) order may leaves name number view takes = absurd leaves
notes_keep_taken k (note.Void id) order may leaves name number view takes =
    record { local = takes.local; is_local = takes.is_local; base = takes.base; first = takes.first; some = takes.some }
notes_keep_taken k (note.Revert db) order may leaves name number view takes = absurd leaves
