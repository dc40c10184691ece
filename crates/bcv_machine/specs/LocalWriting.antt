-- Writing without the store: commit and revert, and the table of a client's databases.
use Rattle.std.specs.Prelude.{◌≡◌, ℕ, List, [], ◌∷◌, length, map, Option, Some, None, is_some, unwrap_or}
use Rattle.std.specs.Option.{option_map}
use Rattle.bcv_base.specs.Image.{Writes}
use Rattle.bcv_base.specs.Keyed.{keyed, with_keyed, without_keyed}
use Rattle.bcv_base.specs.Version.{Database}
use Rattle.bcv_base.specs.Views.{view_size}
use Rattle.bcv_model.specs.declared.reply.Reply.{Reply}
use Rattle.bcv_model.specs.declared.reply.Reply.TheVariants as reply
use Rattle.bcv_model.specs.declared.reply.Row.{Row}
use Rattle.bcv_machine.specs.Noting.{noted, NoteFails}
use Rattle.bcv_machine.specs.Refusals.{UnlessRefused, commit_refusal, revert_refusal}
use Rattle.bcv_machine.specs.State.{Container, KeptState, LocalDb, KnownDb, Note, Committing, Reverting, Up, View, Side, view_of, base_of, local_name, known_name, local_view, known_view, with_client, with_up}

-- ---- a note of one's own

-- the note stands, and the client goes on with this; or noting fails, and it has what it had
abbrev pub NotesLocally : Side → Up → Up → Note → Reply → Side → Type 0
NotesLocally s u after x reply.Fine t = t ≡ with_client s (noted s after x)
NotesLocally s u after x r t = NoteFails s u x r t

-- ---- commit

-- a database with a commit is not among those without
abbrev pub without_known : Up → List ℕ → Up
without_known u db = record u { known = without_keyed known_name db u.known }

abbrev pub CommitsOver : Side → Up → List ℕ → Writes → Option View → Reply → Side → Type 0
CommitsOver s u db w None r t = ⊥
CommitsOver s u db w (Some v) r t = NotesLocally s u (without_known u db) (Committing db v.base w) r t

abbrev pub Commits : Side → Up → List ℕ → Writes → Reply → Side → Type 0
Commits s u db w r t = UnlessRefused (commit_refusal s u db w) (with_up s u) r t (CommitsOver s u db w (view_of s.client.kept u db) r t)

-- ---- revert

-- a database without commits, at a version's number
abbrev pub with_known : Up → List ℕ → ℕ → Up
with_known u db n = record u { known = with_keyed known_name (record { name = db; base = n }) u.known }

-- the commits are gone, and the base stays
abbrev pub RevertsFrom : Side → Up → Option LocalDb → Reply → Side → Type 0
RevertsFrom s u None r t = ⊥
RevertsFrom s u (Some d) r t = NotesLocally s u (with_known u d.name d.base) (Reverting d.name) r t

abbrev pub Reverts : Side → Up → List ℕ → Reply → Side → Type 0
Reverts s u db r t = UnlessRefused (revert_refusal s.client.kept u db) (with_up s u) r t (RevertsFrom s u (keyed local_name db s.client.kept.locals) r t)

-- ---- the table

-- the size of a view, in pages
abbrev pub pages_of : Container → List ℕ → View → ℕ
pages_of c name v = unwrap_or (option_map (λ (d : Database). view_size (length d.image) v.commits) (base_of c name v)) 0

abbrev pub row_of : Container → List ℕ → View → Row
row_of c name v = record { name = name; number = v.base; pages = pages_of c name v; commits = length v.commits }

abbrev pub row_name : Row → List ℕ
row_name r = r.name

abbrev pub local_rows : Container → List LocalDb → List Row
local_rows c ls = map (λ (d : LocalDb). row_of c d.name (local_view d)) ls

-- the rows of known databases, each at its place among further rows
abbrev pub merged_rows : Container → List KnownDb → List Row → List Row
merged_rows c [] rows = rows
merged_rows c (d ∷ ds) rows = with_keyed row_name (row_of c d.name (known_view d)) (merged_rows c ds rows)

-- the rows of all databases that a client knows, ascending by name
abbrev pub table_of : Container → KeptState → Up → List Row
table_of c k u = merged_rows c u.known (local_rows c k.locals)

abbrev pub Lists : Side → Up → Reply → Side → Type 0
Lists s u (reply.Table rows pending) t = (rows ≡ table_of s.container s.client.kept u) × (pending ≡ is_some s.client.kept.pending) × (t ≡ with_up s u)
Lists s u _ t = ⊥
