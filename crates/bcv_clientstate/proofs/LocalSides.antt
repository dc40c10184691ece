-- A commit and a revert in the machine's words.
use Rattle.std.proofs.Common.{◌≡◌, ◌∙◌, ℕ, List, map, Option, Some, refl, sym, ap, subst}
use Rattle.std.specs.Option.{option_map}
use Rattle.bcv_base.specs.History.{Item, history_of}
use Rattle.bcv_base.specs.Image.{Writes}
use Rattle.bcv_base.specs.Keyed.{keyed, without_keyed}
use Rattle.bcv_machine.specs.LocalWriting.{CommitsOver, NotesLocally, RevertsFrom, with_known, without_known}
use Rattle.bcv_machine.specs.Noting.{noted}
use Rattle.bcv_machine.specs.Refusals.{UnlessRefused}
use Rattle.bcv_machine.specs.State as m
use Rattle.bcv_machine.specs.State.{known_name as seen_name, local_name, with_client, with_up}
use Rattle.bcv_model.specs.declared.kept.Kept.{Kept}
use Rattle.bcv_model.specs.declared.kept.Local.{Local}
use Rattle.bcv_model.specs.declared.kept.PendingPub.{PendingPub}
use Rattle.bcv_model.specs.declared.note.Note as bytes
use Rattle.bcv_model.specs.declared.note.Note.TheVariants as note
use Rattle.bcv_model.specs.declared.reply.Reply.{Reply}
use Rattle.bcv_model.specs.declared.reply.Reply.TheVariants as reply
use Rattle.bcv_model.specs.Notes.{after_note, kept_name, note_size}
use Rattle.bcv_databases.specs.Catalog.{known_name}
use Rattle.bcv_clientstate.specs.Journaled.{free_noted}
use Rattle.bcv_clientstate.specs.LocalSides.{CommitsAsAsked, EndsLocally, RefusesCommit, RefusesRevert, RevertsAsAsked, committed, known_again, reverted, shut}
use Rattle.bcv_clientstate.specs.NoteSides.{EndsPublication, MayNote, while_up, with_note}
use Rattle.bcv_clientstate.specs.PartRefusals.{seen_view}
use Rattle.bcv_clientstate.specs.Parts.{Parts}
use Rattle.bcv_clientstate.specs.SeenClient.{Free, seen_client, seen_known, seen_task, seen_up, side_of}
use Rattle.bcv_clientstate.specs.SeenKept.{seen_local, seen_note}
use Rattle.bcv_dbmap.proofs.Keys.{keyed_key}
use Rattle.bcv_clientstate.proofs.KeyedMaps.{keyed_map, with_map, without_map}
use Rattle.bcv_clientstate.proofs.NoteSides.{fails_as_noted, full_as_noted, stands_as_noted}
use Rattle.bcv_clientstate.proofs.PartRefusals.{commit_is_refused, revert_is_refused, view_is_view}

-- the note of a commit leaves the pending publication
pub pending_left : (k : Kept) (x : bytes.Note) (db : List ℕ) (base : ℕ) (w : Writes) → seen_note k x ≡ Some (m.Committing db base w) → (after_note k x).pending ≡ k.pending
pending_left k (note.Me id) db base w is = absurd (cc)
pending_left k (note.First entry number block commit) db base w is = refl
pending_left k (note.Committed name commit) db base w is = refl
pending_left k (note.Intent p) db base w is = absurd (cc)
pending_left k (note.Done id number) db base w is = absurd (cc)
pending_left k (note.Void id) db base w is = absurd (cc)
pending_left k (note.Revert name) db base w is = absurd (cc)

-- the note does not end a publication
pub ends_none : (db : List ℕ) (base : ℕ) (w : Writes) → EndsPublication (m.Committing db base w) → ⊥
ends_none db base w ends = ends

-- ---- how a note of one's own ends

module _ (moment : ℕ) (past : List Item) (p : Parts) (f : Free) (x : bytes.Note) (y : m.Note) (may : MayNote past p x y) (not : EndsPublication y → ⊥) where
  abbrev s : m.Side
  s = side_of moment past p f

  abbrev u : m.Up
  u = seen_up past p

  -- where the client afterwards is seen as the machine's one
  locally : (after : Parts) (next : m.Up) → (side_of moment past after (free_noted (note_size x) f) ≡ with_client s (noted s next y))
      → (r : Reply) (q : Parts) (g : Free) → EndsLocally after p f x y r q g → NotesLocally s u next y r (side_of moment past q g)
  locally after next same reply.Fine q g is = ap (λ (a : Parts). side_of moment past a g) is.0 ∙ ap (side_of moment past after) is.1 ∙ same
  locally after next same reply.DiskFault q g is =
      (refl, (is.0, ap (λ (a : Parts). seen_client past a g) is.1 ∙ ap (seen_client past (shut p)) is.2 ∙ sym (fails_as_noted moment past p f u x y may)))
  locally after next same reply.JournalFull q g is =
      (refl, (full_as_noted moment past p f x y may not is.0, ap (λ (a : Parts). seen_client past a g) is.1 ∙ ap (seen_client past p) is.2))
  locally after next same _ q g is = absurd is

-- ---- commit

module _ (moment : ℕ) (past : List Item) (p : Parts) (f : Free) (db : List ℕ) (base : ℕ) (w : Writes) (x : bytes.Note) (may : MayNote past p x (m.Committing db base w)) where
  abbrev taken : List m.KnownDb
  taken = without_keyed seen_name db (map seen_known p.known)

  commit_up : seen_up past (committed db x p) ≡ without_known (seen_up past p) db
  commit_up =
      ap (λ (ks : List m.KnownDb). record (seen_up past (committed db x p)) { known = ks }) (sym (without_map known_name seen_name seen_known (λ k. refl) db p.known))
      ∙ ap (λ (o : Option PendingPub). record (seen_up past p) { known = taken; tasks = map (seen_task o) p.tasks }) (pending_left p.kept x db base w may.is)

  commit_stands : side_of moment past (committed db x p) (free_noted (note_size x) f)
      ≡ with_client (side_of moment past p f) (noted (side_of moment past p f) (without_known (seen_up past p) db) (m.Committing db base w))
  commit_stands =
      ap (λ (u : m.Up). with_client (side_of moment past p f) (while_up (seen_client past (with_note x p) (free_noted (note_size x) f)) u)) commit_up
      ∙ ap (with_client (side_of moment past p f)) (sym (stands_as_noted moment past p f (without_known (seen_up past p) db) x (m.Committing db base w) may))

pub commits_as_asked : CommitsAsAsked
commits_as_asked moment log entries p q f g db w v x r sound fits free there may ends =
    let past : List Item = history_of log in
    let s : m.Side = side_of moment past p f in
    let u : m.Up = seen_up past p in
    let t : m.Side = side_of moment past q g in
    subst (λ (o : Option Reply). UnlessRefused o (with_up s u) r t (CommitsOver s u db w (m.view_of s.client.kept u db) r t)) (sym (commit_is_refused moment p entries f log db w sound fits ∙ free))
    (subst (λ (o : Option m.View). CommitsOver s u db w o r t) (sym (view_is_view past p db ∙ ap (option_map seen_view) there))
    (locally moment past p f x (m.Committing db v.number w) may (ends_none db v.number w) (committed db x p) (without_known u db) (commit_stands moment past p f db v.number w x may) r q g ends))

pub refuses_commit : RefusesCommit
refuses_commit moment log entries p f db w r sound fits why =
    let past : List Item = history_of log in
    let s : m.Side = side_of moment past p f in
    let u : m.Up = seen_up past p in
    subst (λ (o : Option Reply). UnlessRefused o (with_up s u) r s (CommitsOver s u db w (m.view_of s.client.kept u db) r s)) (sym (commit_is_refused moment p entries f log db w sound fits ∙ why)) (refl, refl)

-- ---- revert

module _ (moment : ℕ) (past : List Item) (p : Parts) (f : Free) (db : List ℕ) (l : Local) (there : keyed kept_name db p.kept.locals ≡ Some l) (may : MayNote past p (note.Revert db) (m.Reverting db)) where
  abbrev x : bytes.Note
  x = note.Revert db

  name_is : kept_name l ≡ db
  name_is = keyed_key kept_name db p.kept.locals l there

  revert_up : seen_up past (reverted l x p) ≡ with_known (seen_up past p) (kept_name l) l.number
  revert_up = ap (λ (ks : List m.KnownDb). record (seen_up past p) { known = ks }) (sym (with_map known_name seen_name seen_known (λ k. refl) (known_again l) p.known))

  revert_stands : side_of moment past (reverted l x p) (free_noted (note_size x) f)
      ≡ with_client (side_of moment past p f) (noted (side_of moment past p f) (with_known (seen_up past p) (kept_name l) l.number) (m.Reverting db))
  revert_stands =
      ap (λ (u : m.Up). with_client (side_of moment past p f) (while_up (seen_client past (with_note x p) (free_noted (note_size x) f)) u)) revert_up
      ∙ ap (with_client (side_of moment past p f)) (sym (stands_as_noted moment past p f (with_known (seen_up past p) (kept_name l) l.number) x (m.Reverting db) may))

pub reverts_as_asked : RevertsAsAsked
reverts_as_asked moment log p q f g db l r free there may ends =
    let past : List Item = history_of log in
    let s : m.Side = side_of moment past p f in
    let u : m.Up = seen_up past p in
    let t : m.Side = side_of moment past q g in
    subst (λ (o : Option Reply). UnlessRefused o (with_up s u) r t (RevertsFrom s u (keyed local_name db s.client.kept.locals) r t)) (sym (revert_is_refused past p db ∙ free))
    (subst (λ (o : Option m.LocalDb). RevertsFrom s u o r t) (sym (keyed_map kept_name local_name seen_local (λ k. refl) db p.kept.locals ∙ ap (option_map seen_local) there))
    (subst (λ (name : List ℕ). NotesLocally s u (with_known u (kept_name l) l.number) (m.Reverting name) r t) (sym (name_is moment past p f db l there may))
    (locally moment past p f (note.Revert db) (m.Reverting db) may (λ (e : ⊥). e) (reverted l (note.Revert db) p) (with_known u (kept_name l) l.number) (revert_stands moment past p f db l there may) r q g ends)))

pub refuses_revert : RefusesRevert
refuses_revert moment log p f db r why =
    let past : List Item = history_of log in
    let s : m.Side = side_of moment past p f in
    let u : m.Up = seen_up past p in
    subst (λ (o : Option Reply). UnlessRefused o (with_up s u) r s (RevertsFrom s u (keyed local_name db s.client.kept.locals) r s)) (sym (revert_is_refused past p db ∙ why)) (refl, refl)
