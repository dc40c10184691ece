-- A note that stays makes the fewest notes longer.
use Rattle.std.proofs.Common.{◌≡◌, ◌∙◌, ℕ, ◌+◌, ◌≤◌, List, [], ◌∷◌, ◌++◌, length, Option, Some, None, sym, ap, arith}
use Rattle.std.specs.List.{flat_map}
use Rattle.std.specs.Str.{bytes_eq}
use Rattle.bcv_base.specs.Keyed.{keyed, with_keyed}
use Rattle.bcv_dbmap.proofs.Keys.{by_place, by_test, keyed_here, keyed_there, same_key}
use Rattle.bcv_model.specs.declared.ask.Commit.{Commit}
use Rattle.bcv_model.specs.declared.kept.Local.{Local}
use Rattle.bcv_model.specs.declared.kept.PendingPub.{PendingPub}
use Rattle.bcv_model.specs.declared.note.Note.TheVariants.{Me, First, Committed, Intent, Done, Void, Revert}
use Rattle.bcv_model.specs.Notes.{after_note, kept_name, note_size, with_local_commit}
use Rattle.bcv_notes.specs.KeptNotes.{SizeGrows, committed_notes, first_notes, intent_notes, local_notes, notes_size}
use Rattle.bcv_notes.proofs.KeptSizes.{kept_parts, notes_append}
use Rattle.bcv_notes.proofs.WellKept.{grown, grows, here, there}

abbrev locals_size : List Local → ℕ
locals_size ls = notes_size (flat_map local_notes ls)

first_size : (l : Local) (ls : List Local) → locals_size (l ∷ ls) ≡ notes_size (local_notes l) + locals_size ls
first_size l ls = notes_append (local_notes l) (flat_map local_notes ls)

size_with : (x : Local) (ls : List Local) → keyed kept_name (kept_name x) ls ≡ None → locals_size (with_keyed kept_name x ls) ≡ locals_size ls + notes_size (local_notes x)
size_with x [] none = omega (arith, first_size x [])
size_with x (y ∷ ys) none =
    by_place kept_name (λ (l : List Local). locals_size l ≡ locals_size (y ∷ ys) + notes_size (local_notes x)) x y ys
    (λ e. let both : Some y ≡ None = sym (keyed_here kept_name (kept_name x) y ys e) ∙ none in absurd (cc both))
    (λ e f. omega (arith, first_size x (y ∷ ys)))
    (λ e f.
    let more = size_with x ys (sym (keyed_there kept_name (kept_name x) y ys e) ∙ none) in
    omega (arith, more, first_size y (with_keyed kept_name x ys), first_size y ys))

committed_more : (db : List ℕ) (cs : List Commit) (c : Commit) → notes_size (committed_notes db (cs ++ c ∷ [])) ≡ notes_size (committed_notes db cs) + (5 + note_size (Committed db c))
committed_more db [] c = omega arith
committed_more db (x ∷ cs) c = omega (arith, committed_more db cs c)

first_more : (l : Local) (cs : List Commit) (c : Commit) → notes_size (first_notes l cs) + 5 + note_size (Committed (kept_name l) c) ≤ notes_size (first_notes l (cs ++ c ∷ []))
first_more l [] c = omega arith
first_more l (x ∷ cs) c = omega (arith, committed_more (kept_name l) cs c)

size_committed : (db : List ℕ) (c : Commit) (ls : List Local) (l : Local) → keyed kept_name db ls ≡ Some l → locals_size ls + 5 + note_size (Committed db c) ≤ locals_size (with_local_commit db c ls)
size_committed db c [] l found = absurd cc
size_committed db c (y ∷ ys) l found =
    by_test (bytes_eq (kept_name y) db)
    (λ e.
    let name : kept_name y ≡ db = same_key (kept_name y) db e in
    let at : locals_size (with_local_commit db c (y ∷ ys)) ≡ locals_size (grown c y ∷ ys) = ap locals_size (here (grows db c) db y ys e) in
    omega (arith, at, first_size (grown c y) ys, first_size y ys, first_more y y.commits c, ap length name))
    (λ e.
    let at : locals_size (with_local_commit db c (y ∷ ys)) ≡ locals_size (y ∷ with_local_commit db c ys) = ap locals_size (there (grows db c) db y ys e) in
    let more = size_committed db c ys l (sym (keyed_there kept_name db y ys e) ∙ found) in
    omega (arith, at, first_size y (with_local_commit db c ys), first_size y ys, more))

pub size_grows : SizeGrows
size_grows k (Me id) may stays = absurd stays
size_grows k (First entry number block c) may stays =
    let x : Local = record { entry = entry; number = number; block = block; commits = c ∷ [] } in
    omega (arith, size_with x k.locals may.is_new, kept_parts k, kept_parts (after_note k (First entry number block c)))
size_grows k (Committed db c) may stays = omega (arith, size_committed db c k.locals may.local may.is_local, kept_parts k, kept_parts (after_note k (Committed db c)))
size_grows k (Intent p) may stays =
    let none : notes_size (intent_notes k.pending) ≡ 0 = ap (λ (o : Option PendingPub). notes_size (intent_notes o)) may.free in
    omega (arith, none, kept_parts k, kept_parts (after_note k (Intent p)))
size_grows k (Done id number) may stays = absurd stays
size_grows k (Void id) may stays = absurd stays
size_grows k (Revert db) may stays = absurd stays
