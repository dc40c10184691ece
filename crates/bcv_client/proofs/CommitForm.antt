-- A client stays in form under a commit.
use Rattle.std.proofs.Common.{◌≡◌, ◌∙◌, ℕ, Bool, true, false, cond, List, [], ◌∷◌, ◌++◌, Option, Some, None, IfSome, refl, sym, ap, subst}
use Rattle.std.specs.Str.{bytes_eq}
use Rattle.std.proofs.lemmas.Bool.{ltb-false}
use Rattle.std.proofs.lemmas.Option.{same_Some}
use Rattle.std.specs.Option.{option_map}
use Rattle.bcv_base.specs.declared.manifest.DbEntry.{DbEntry}
use Rattle.bcv_base.specs.declared.seen.Seen.{Seen}
use Rattle.bcv_base.specs.Image.{or_else}
use Rattle.bcv_base.specs.Keyed.{keyed, with_keyed, without_keyed}
use Rattle.bcv_base.specs.ManifestRules.{blocks_needed}
use Rattle.bcv_cache.specs.Entry.{Blocks}
use Rattle.bcv_clientlaws.specs.Forms.{AreInForm, KnownInForm, NeedsFewBlocks, NoteInForm}
use Rattle.bcv_clientlaws.proofs.DatabaseForms.{found_in_form, notes_keep_form}
use Rattle.bcv_clientstate.specs.PartRefusals.{PartView, known_part, large_commit, local_part}
use Rattle.bcv_databases.specs.Catalog.{Catalog, known_name}
use Rattle.bcv_databases.specs.Changes.{commit_note, note_over}
use Rattle.bcv_databases.specs.Sound.{CanUpload, KeepsViews}
use Rattle.bcv_databases.specs.declared.known.Known.{Known}
use Rattle.bcv_dbmap.proofs.Keys.{all_found, all_without, by_test, keyed_key, keyed_other, same_key}
use Rattle.bcv_ledger.specs.NoteEnds.{kept_ended, known_ended}
use Rattle.bcv_model.specs.declared.ask.Commit.{Commit}
use Rattle.bcv_model.specs.declared.kept.Kept.{Kept}
use Rattle.bcv_model.specs.declared.kept.Local.{Local}
use Rattle.bcv_model.specs.declared.kept.Uploading.{Uploading}
use Rattle.bcv_model.specs.declared.note.Note.{Note}
use Rattle.bcv_model.specs.declared.note.Note.TheVariants as note
use Rattle.bcv_model.specs.declared.reply.Reply.{Reply}
use Rattle.bcv_model.specs.Commits.{writes_of}
use Rattle.bcv_model.specs.Notes.{after_note, kept_name, with_local_commit}
use Rattle.bcv_slots.specs.declared.Slot.{Slot}
use Rattle.bcv_transaction.specs.Open.{Open}
use Rattle.bcv_client.specs.ClientForm.{HasSize, IsInForm}
use Rattle.bcv_client.specs.declared.job.Job.{Job}
use Rattle.bcv_client.proofs.FormKept.{LeavesTasks, form_stays}

-- ---- what can be uploaded stays

-- the database is found, with the entry that it had
record Found (l : Local) (o : Option Local) : Type 0 where
  local : Local
  is : o ≡ Some local
  entry : local.entry ≡ l.entry

abbrev more : Commit → Local → Local
more w x = record x { commits = x.commits ++ w ∷ [] }

found_more : (db name : List ℕ) (w : Commit) (ls : List Local) (l : Local) → keyed kept_name name ls ≡ Some l → Found l (keyed kept_name name (with_local_commit db w ls))
found_more db name w [] l is = absurd (let e : None ≡ Some l = is in cc)
found_more db name w (x ∷ xs) l is =
    elim (bytes_eq (kept_name x) db) as (λ (b : Bool). Found l (keyed kept_name name (cond b (more w x ∷ xs) (x ∷ with_local_commit db w xs)))) [
      | true ↦
          elim (bytes_eq (kept_name x) name) as (λ (b : Bool). cond b (Some x) (keyed kept_name name xs) ≡ Some l → Found l (cond b (Some (more w x)) (keyed kept_name name xs))) [
            | true ↦ λ e. record { local = more w x; is = refl; entry = ap (λ (y : Local). y.entry) (same_Some x l e) }
            | false ↦ λ e. record { local = l; is = e; entry = refl }
          ] is
      | false ↦
          elim (bytes_eq (kept_name x) name) as (λ (b : Bool). cond b (Some x) (keyed kept_name name xs) ≡ Some l → Found l (cond b (Some x) (keyed kept_name name (with_local_commit db w xs)))) [
            | true ↦ λ e. record { local = x; is = refl; entry = ap (λ (y : Local). y.entry) (same_Some x l e) }
            | false ↦ λ e. found_more db name w xs l e
          ] is
    ]

can_still : (ls : List Local) (u : Uploading) (l : Local) → u.entry.page_size ≡ l.entry.page_size → Found l (keyed kept_name u.entry.name ls) → CanUpload ls u
can_still ls u l size f = record { local = f.local; is_local = f.is; size = size ∙ sym (ap (λ (e : DbEntry). e.page_size) f.entry) }

-- another database is not the one without commits
is_other : (db name : List ℕ) (ls : List Local) (l : Local) → keyed kept_name db ls ≡ None → keyed kept_name name ls ≡ Some l → bytes_eq db name ≡ false
is_other db name ls l none found =
    by_test (bytes_eq db name) (λ e. absurd (let both : None ≡ Some l = sym none ∙ ap (λ (n : List ℕ). keyed kept_name n ls) (same_key db name e) ∙ found in cc)) (λ e. e)

-- what is kept after the note of a commit
record LeavesKept (k after : Kept) : Type 0 where
  pending : after.pending ≡ k.pending
  uploads : (u : Uploading) → CanUpload k.locals u → CanUpload after.locals u

leaves_kept : (k : Kept) (known : List Known) (db : List ℕ) (w : Commit) (x : Note) (a : Option Local) (b : Option Known) → keyed kept_name db k.locals ≡ a → keyed known_name db known ≡ b
    → note_over db w a b ≡ Some x → LeavesKept k (after_note k x)
leaves_kept k known db w x (Some l) b has knows is =
    subst (λ (y : Note). LeavesKept k (after_note k y)) (same_Some (note.Committed db w) x is)
    (record { pending = refl; uploads = λ u can. can_still (with_local_commit db w k.locals) u can.local can.size (found_more db u.entry.name w k.locals can.local can.is_local) })
leaves_kept k known db w x None (Some n) has knows is =
    let m : Local = record { entry = n.entry; number = n.number; block = n.block; commits = w ∷ [] } in
    let named : known_name n ≡ db = keyed_key known_name db known n knows in
    let none : keyed kept_name (kept_name m) k.locals ≡ None = ap (λ (d : List ℕ). keyed kept_name d k.locals) named ∙ has in
    subst (λ (y : Note). LeavesKept k (after_note k y)) (same_Some (note.First n.entry n.number n.block w) x is)
    (record {
      pending = refl;
      uploads = λ u can.
          can_still (with_keyed kept_name m k.locals) u can.local can.size
          (record { local = can.local; is = keyed_other kept_name m u.entry.name k.locals (is_other (kept_name m) u.entry.name k.locals can.local none can.is_local) ∙ can.is_local; entry = refl });
    })
leaves_kept k known db w x None None has knows is = absurd (let e : None ≡ Some x = is in cc)

-- ---- the block size

-- a commit that does not make its database too large
abbrev IsSmall : List ℕ → Commit → Option Local → Option Known → Type 0
IsSmall db w l n = large_commit (writes_of w) (or_else (option_map local_part l) (option_map known_part n)) ≡ false

few_blocks : (b : ℕ) (w : Commit) (v : PartView) → v.block ≡ b → large_commit (writes_of w) (Some v) ≡ false → NeedsFewBlocks b v.entry.page_size w
few_blocks b w v same small = subst (λ (n : ℕ). NeedsFewBlocks n v.entry.page_size w) same (ltb-false 65536 (blocks_needed v.block v.entry.page_size w.size) small)

note_in_form : (b : ℕ) (k : Kept) (known : List Known) (db : List ℕ) (w : Commit) (x : Note) (l : Option Local) (n : Option Known) → AreInForm b k known → keyed kept_name db k.locals ≡ l
    → keyed known_name db known ≡ n → IsSmall db w l n → note_over db w l n ≡ Some x → NoteInForm b k x
note_in_form b k known db w x (Some l) n are has knows small is =
    let same : l.block ≡ b = (found_in_form b k known db l are has).0.0 in
    subst (NoteInForm b k) (same_Some (note.Committed db w) x is)
    (subst (λ (o : Option Local). IfSome o (λ (y : Local). NeedsFewBlocks b y.entry.page_size w)) (sym has) (few_blocks b w (local_part l) same small))
note_in_form b k known db w x None (Some n) are has knows small is =
    let here : KnownInForm b n = all_found known_name (KnownInForm b) db known n are.known knows in
    subst (NoteInForm b k) (same_Some (note.First n.entry n.number n.block w) x is) (here, few_blocks b w (known_part n) here.0 small)
note_in_form b k known db w x None None are has knows small is = absurd (let e : None ≡ Some x = is in cc)

-- of a client, by what it keeps and knows
abbrev SizeOf : Option ℕ → Catalog → Option Blocks → Kept → List Known → Type 0
SizeOf size c blocks k known = HasSize size (record c { kept = k; known = known }) blocks

size_noted : (size : Option ℕ) (c : Catalog) (blocks : Option Blocks) (db : List ℕ) (w : Commit) (x : Note) → commit_note c db w ≡ Some x
    → IsSmall db w (keyed kept_name db c.kept.locals) (keyed known_name db c.known) → HasSize size c blocks
    → SizeOf size c blocks (after_note c.kept x) (without_keyed known_name db c.known)
size_noted None c blocks db w x is small has =
    absurd (let e : None ≡ Some x = sym (ap (λ (ls : List Local). note_over db w (keyed kept_name db ls) (keyed known_name db c.known)) has.0 ∙ ap (λ (ks : List Known). note_over db w None (keyed known_name db ks)) has.1) ∙ is in cc)
size_noted (Some b) c blocks db w x is small has =
    let noted : AreInForm b (after_note c.kept x) c.known =
    notes_keep_form b c.kept c.known x has.1 (note_in_form b c.kept c.known db w x (keyed kept_name db c.kept.locals) (keyed known_name db c.known) has.1 refl refl small is) in
    (has.0, record { locals = noted.locals; known = all_without known_name (KnownInForm b) db c.known noted.known; pending = noted.pending }, has.2)

-- ---- the form

module _ (seen : Seen) (c d : Catalog) (o : Open) (ss : List (Slot Job)) (form : IsInForm seen c o ss) (db : List ℕ) (w : Commit) (x : Note) (is : commit_note c db w ≡ Some x)
    (views : KeepsViews c.sets d.sets) (small : IsSmall db w (keyed kept_name db c.kept.locals) (keyed known_name db c.known)) where
  size_by : (k : Kept) (known : List Known) → d.kept ≡ k → d.known ≡ known → SizeOf seen.block c o.cache k known → HasSize seen.block d o.cache
  size_by k known kept knows has =
      size_of seen.block (subst (λ (z : Kept). SizeOf seen.block c o.cache z d.known) (sym kept) (subst (λ (z : List Known). SizeOf seen.block c o.cache k z) (sym knows) has))
    where
      size_of : (s : Option ℕ) → SizeOf s c o.cache d.kept d.known → HasSize s d o.cache
      size_of None h = h
      size_of (Some b) h = h

  leaves_by : (k : Kept) → d.kept ≡ k → LeavesKept c.kept k → LeavesTasks c d
  leaves_by k kept leaves = record {
    pending = ap (λ (z : Kept). z.pending) kept ∙ leaves.pending;
    uploads = λ u can. subst (λ (z : Kept). CanUpload z.locals u) (sym kept) (leaves.uploads u can);
    views = views;
  }

  pub commit_form : (fault : Option Reply) → d.kept ≡ kept_ended fault c.kept x → d.known ≡ known_ended fault c.known (without_keyed known_name db c.known) → IsInForm seen d o ss
  commit_form None kept knows =
      form_stays c d seen o (leaves_by (after_note c.kept x) kept (leaves_kept c.kept c.known db w x (keyed kept_name db c.kept.locals) (keyed known_name db c.known) refl refl is)) ss form
      (size_by (after_note c.kept x) (without_keyed known_name db c.known) kept knows (size_noted seen.block c o.cache db w x is small form.size))
  commit_form (Some fault) kept knows =
      form_stays c d seen o (leaves_by c.kept kept (record { pending = refl; uploads = λ u can. can })) ss form (size_by c.kept c.known kept knows (size_same seen.block form.size))
    where
      size_same : (s : Option ℕ) → HasSize s c o.cache → SizeOf s c o.cache c.kept c.known
      size_same None h = h
      size_same (Some b) h = h
