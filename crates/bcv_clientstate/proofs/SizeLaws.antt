-- How many bytes a note has, as the machine counts them.
use Rattle.std.proofs.Common.{◌≡◌, ◌∙◌, ℕ, ◌+◌, ◌*◌, List, map, length, take, replicate, Option, Some, None, IfSome, refl, sym, ap, subst}
use Rattle.std.proofs.lemmas.List.{length-replicate}
use Rattle.std.specs.Prelude.{option_and_then, unwrap_or}
use Rattle.std.specs.Option.{option_map}
use Rattle.std.specs.List.{AllByRecursion}
use Rattle.bcv_base.specs.declared.manifest.DbEntry.{DbEntry}
use Rattle.bcv_base.specs.History.{Item}
use Rattle.bcv_base.specs.Joined.{database_of, joined}
use Rattle.bcv_base.specs.Keyed.{keyed}
use Rattle.bcv_base.specs.ManifestRules.{MeetsEntryRules, blocks_needed, entry_length}
use Rattle.bcv_base.specs.Version.{Database}
use Rattle.bcv_base.specs.Views.{view_size}
use Rattle.bcv_dbmap.specs.Sound.{Sound}
use Rattle.bcv_model.specs.declared.ask.Commit.{Commit}
use Rattle.bcv_model.specs.declared.kept.Kept.{Kept}
use Rattle.bcv_model.specs.declared.kept.Local.{Local}
use Rattle.bcv_model.specs.declared.kept.Uploading.{Uploading}
use Rattle.bcv_model.specs.declared.note.Note as bytes
use Rattle.bcv_model.specs.declared.note.Note.TheVariants as note
use Rattle.bcv_model.specs.Commits.{writes_of}
use Rattle.bcv_model.specs.NoteRules.{MayUpload}
use Rattle.bcv_model.specs.Notes.{commit_size, kept_name, note_size, upload_size}
use Rattle.bcv_machine.specs.Noting.{commit_note, commit_of, entry_with, logged, upload_in, upload_with, some_id}
use Rattle.bcv_machine.specs.State.{Container, LocalDb, Taken, database_at, local_name}
use Rattle.bcv_clientstate.specs.BaseLaws.{FitsLocal, FitsUpload, NotesHaveSizes}
use Rattle.bcv_clientstate.specs.SeenContainer.{HasBase, container_of}
use Rattle.bcv_clientstate.specs.SeenKept.{seen_commit, seen_kept, seen_local, seen_upload}
use Rattle.bcv_dbmap.proofs.Keys.{keyed_key, all_found}
use Rattle.bcv_clientstate.proofs.Bases.{base_block, base_database, pages_len}
use Rattle.bcv_clientstate.proofs.KeyedMaps.{keyed_map}

local_found : (k : List ℕ) (ls : List Local) → keyed local_name k (map seen_local ls) ≡ option_map seen_local (keyed kept_name k ls)
local_found = keyed_map kept_name local_name seen_local (λ l. refl)

-- an entry over a database has the length of one with the same name and as many blocks as its pages need
entry_len : (block pages : ℕ) (d : Database) (e : DbEntry) → d.name ≡ e.name → d.page_size ≡ e.page_size → pages ≡ e.pages → MeetsEntryRules block e
    → entry_length e ≡ entry_length (entry_with block pages d)
entry_len block pages d e name size many rules =
    ap (λ (n : ℕ). 25 + length e.name + 16 * n)
    (rules.blocks ∙ ap (λ (s : ℕ). blocks_needed block s e.pages) (sym size) ∙ ap (blocks_needed block d.page_size) (sym many)
    ∙ sym (length-replicate (blocks_needed block d.page_size pages) some_id))
    ∙ ap (λ (n : List ℕ). 25 + length n + 16 * length (replicate (blocks_needed block d.page_size pages) some_id)) (sym name)

module _ (moment : ℕ) (past : List Item) (sound : Sound past) where
  abbrev c : Container
  c = container_of moment past

  first_size : (k : Kept) (e : DbEntry) (number block : ℕ) (w : Commit) → keyed kept_name e.name k.locals ≡ None → HasBase past number block e → MeetsEntryRules block e
      → note_size (note.First e number block w) ≡ note_size (commit_note c e.name number (writes_of w) (keyed local_name e.name (map seen_local k.locals)))
  first_size k e number block w new has rules =
      let d : Database = database_of past e in
      let noted : Option Database → bytes.Note =
      λ o. unwrap_or (option_map (λ (x : Database). note.First (entry_with c.block (length x.image) x) number c.block (commit_of (writes_of w))) o) (note.Committed e.name (commit_of (writes_of w))) in
      ap (λ (n : ℕ). 13 + n + commit_size w.pages)
      (entry_len c.block (length d.image) d e refl refl (pages_len e.pages e.page_size (joined past e.blocks)) (subst (λ b. MeetsEntryRules b e) (sym (base_block past number block e sound has)) rules))
      ∙ sym (ap (λ (o : Option Database). note_size (noted o)) (base_database moment past number block e sound has))
      ∙ sym (ap (λ (o : Option LocalDb). note_size (commit_note c e.name number (writes_of w) o)) (local_found e.name k.locals ∙ ap (option_map seen_local) new))

  more_size : (k : Kept) (db : List ℕ) (w : Commit) (l : Local) → keyed kept_name db k.locals ≡ Some l
      → note_size (note.Committed db w) ≡ note_size (commit_note c db l.number (writes_of w) (keyed local_name db (map seen_local k.locals)))
  more_size k db w l e =
      sym (ap (λ (o : Option LocalDb). note_size (commit_note c db l.number (writes_of w) o)) (local_found db k.locals ∙ ap (option_map seen_local) e))

  upload_len : (k : Kept) (u : Uploading) → AllByRecursion (FitsLocal past) k.locals → MayUpload k u → FitsUpload k u
      → upload_size (Some u) ≡ upload_size (upload_in c (map seen_local k.locals) (Some (seen_upload u)))
  upload_len k u all may fits =
      let l : Local = may.local in
      let is : FitsLocal past l = all_found kept_name (FitsLocal past) u.entry.name k.locals l all may.is_local in
      let named : kept_name l ≡ u.entry.name = keyed_key kept_name u.entry.name k.locals l may.is_local in
      let d : Database = database_of past l.entry in
      let x : Taken = seen_upload u in
      let size : ℕ = view_size (length d.image) (take u.count (map writes_of l.commits)) in
      let fit : u.entry.pages ≡ view_size l.entry.pages (take u.count (map writes_of l.commits)) = subst (λ (o : Option Local). IfSome o (λ y. u.entry.pages ≡ view_size y.entry.pages (take u.count (map writes_of y.commits)))) may.is_local fits in
      let many : size ≡ u.entry.pages = ap (λ (n : ℕ). view_size n (take u.count (map writes_of l.commits))) (pages_len l.entry.pages l.entry.page_size (joined past l.entry.blocks)) ∙ sym fit in
      let rules : MeetsEntryRules c.block u.entry = subst (λ (b : ℕ). MeetsEntryRules b u.entry) (may.same_block ∙ sym (base_block past l.number l.block l.entry sound is)) may.is_entry in
      ap (λ (n : ℕ). 12 + n) (entry_len c.block size d u.entry named (sym may.same_page_size) many rules)
      ∙ sym (ap (λ (o : Option Database). upload_size (option_map (λ (y : Database). record { count = u.count; block = c.block; entry = entry_with c.block (view_size (length y.image) (take u.count (map writes_of l.commits))) y }) o))
      (ap (database_at c l.number) (sym named) ∙ base_database moment past l.number l.block l.entry sound is))
      ∙ sym (ap (λ (o : Option LocalDb). upload_size (option_and_then (upload_with c x) o)) (local_found u.entry.name k.locals ∙ ap (option_map seen_local) may.is_local))

  intent_size : (k : Kept) (o : Option Uploading) → AllByRecursion (FitsLocal past) k.locals → IfSome o (MayUpload k) → IfSome o (FitsUpload k)
      → upload_size o ≡ upload_size (upload_in c (map seen_local k.locals) (option_map seen_upload o))
  intent_size k None all may fits = refl
  intent_size k (Some u) all may fits = upload_len k u all may fits

pub have_sizes : NotesHaveSizes
have_sizes moment past k (note.Me id) sound all may fits = tt
have_sizes moment past k (note.First e number block w) sound all may fits = first_size moment past sound k e number block w may.is_new fits may.is_entry
have_sizes moment past k (note.Committed db w) sound all may fits =
    subst (λ (o : Option Local). IfSome (seen_commit db w o) (λ y. note_size (note.Committed db w) ≡ note_size (logged (container_of moment past) (seen_kept k) y)))
    (sym may.is_local) (more_size moment past sound k db w may.local may.is_local)
have_sizes moment past k (note.Intent p) sound all may fits = ap (λ (n : ℕ). 18 + n) (intent_size moment past sound k p.upload all may.upload fits)
have_sizes moment past k (note.Done id number) sound all may fits = refl
have_sizes moment past k (note.Void id) sound all may fits = refl
have_sizes moment past k (note.Revert db) sound all may fits = refl
