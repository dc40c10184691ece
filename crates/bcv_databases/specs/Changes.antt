-- What the calls make of the databases.
use Rattle.std.specs.Prelude.{◌≡◌, ◌≢◌, ℕ, ◌<◌, ◌==◌, not, true, min, List, [], ◌∷◌, Option, Some, None, is_some, length, map, filter, find, vec_capacity, if◌then◌else◌}
use Rattle.std.specs.Option.{option_map}
use Rattle.bcv_base.specs.declared.id.Id16.{Id16}
use Rattle.bcv_base.specs.declared.manifest.DbEntry.{DbEntry}
use Rattle.bcv_base.specs.declared.manifest.Manifest.{Manifest}
use Rattle.bcv_base.specs.Keyed.{keyed, with_keyed, with_made, without_keyed}
use Rattle.bcv_base.specs.Views.{is_commit}
use Rattle.bcv_model.specs.declared.ask.Commit.{Commit}
use Rattle.bcv_model.specs.declared.kept.Kept.{Kept}
use Rattle.bcv_model.specs.declared.kept.Local.{Local}
use Rattle.bcv_model.specs.declared.kept.PendingPub.{PendingPub}
use Rattle.bcv_model.specs.declared.kept.Uploading.{Uploading}
use Rattle.bcv_model.specs.declared.note.Note.{Note}
use Rattle.bcv_model.specs.declared.note.Note.TheVariants.{First, Committed, Done, Revert}
use Rattle.bcv_model.specs.Commits.{writes_of}
use Rattle.bcv_model.specs.Notes.{after_note, kept_name}
use Rattle.bcv_pages.specs.Held.{Held, KeepsView, numbers_of, without_upto}
use Rattle.bcv_databases.specs.Catalog.{Catalog, known_name, set_at, use_name}
use Rattle.bcv_databases.specs.Sound.{KeepsViews}
use Rattle.bcv_databases.specs.declared.known.Known.{Known}
use Rattle.bcv_databases.specs.declared.ready.FirstReady.{FirstReady}
use Rattle.bcv_databases.specs.declared.ready.ReadyCommit.{ReadyCommit}
use Rattle.bcv_databases.specs.declared.ready.ReadyCommit.TheVariants.{First as FirstOf, Later as LaterOf}
use Rattle.bcv_databases.specs.declared.set_use.SetUse.{SetUse}

-- ---- commit

abbrev pub note_over : List ℕ → Commit → Option Local → Option Known → Option Note
note_over db commit (Some l) known = Some (Committed db commit)
note_over db commit None (Some k) = Some (First k.entry k.number k.block commit)
note_over db commit None None = None

-- the note of a commit: the first one over a known database, or one more
abbrev pub commit_note : Catalog → List ℕ → Commit → Option Note
commit_note c db commit = note_over db commit (keyed kept_name db c.kept.locals) (keyed known_name db c.known)

-- a set has room for a commit, whose pages have its size
pub record HasRoom (commit : Commit) (h : Held) : Type 0 where
  pub ready : h.ready ≡ Some (numbers_of (writes_of commit))
  pub fits : is_commit h.page_size (writes_of commit) ≡ true

-- all memory is there for one more commit of a database
pub record IsLaterReady (c : Catalog) (db : List ℕ) (copy commit : Commit) : Type 0 where
  pub local : Local
  pub is_local : keyed kept_name db c.kept.locals ≡ Some local
  pub is_copy : copy ≡ commit
  pub room : length local.commits < c.rooms.commits
  pub set_use : SetUse
  pub is_use : keyed use_name db c.uses ≡ Some set_use
  pub held : Held
  pub is_held : set_at c.sets set_use.set ≡ Some held
  pub has_room : HasRoom commit held

-- the memory for a first commit over pages of a size, at a place, where so many databases have commits
pub record HasMemory (f : FirstReady) (page_size place count : ℕ) (commit : Commit) : Type 0 where
  pub is_copy : f.commits ≡ commit ∷ []
  pub empty : f.set ≡ record { page_size = page_size; forgotten = 0; kept = []; ready = Some (numbers_of (writes_of commit)) }
  pub at : f.place ≡ place
  pub none : f.locals.items ≡ []
  pub room : count < vec_capacity f.locals

-- all memory is there for the first commit of a database
pub record IsFirstReady (c : Catalog) (db : List ℕ) (f : FirstReady) (commit : Commit) : Type 0 where
  pub known : Known
  pub is_known : keyed known_name db c.known ≡ Some known
  pub without : keyed kept_name db c.kept.locals ≡ None
  pub fits : is_commit known.entry.page_size (writes_of commit) ≡ true
  pub memory : HasMemory f known.entry.page_size f.place (length c.kept.locals) commit
  pub inside : f.place < length c.sets
  pub free : set_at c.sets f.place ≡ None
  pub uses : length c.uses < c.rooms.uses

abbrev pub IsReady : Catalog → List ℕ → Commit → ReadyCommit → Type 0
IsReady c db commit (LaterOf copy) = IsLaterReady c db copy commit
IsReady c db commit (FirstOf f) = IsFirstReady c db f commit

-- the commit is kept as its note says, and the database is not among those without commits
pub record Adds (old new : Catalog) (db : List ℕ) (commit : Commit) : Type 0 where
  pub note : Note
  pub is_note : commit_note old db commit ≡ Some note
  pub kept : new.kept ≡ after_note old.kept note
  pub known : new.known ≡ without_keyed known_name db old.known
  pub views : KeepsViews old.sets new.sets

-- ---- revert

-- the base of a database with commits
abbrev pub base_of : Local → Known
base_of l = record { entry = l.entry; number = l.number; block = l.block }

-- the commits are given up as the note says, and the base is known
pub record Reverts (old new : Catalog) (db : List ℕ) : Type 0 where
  pub local : Local
  pub is_local : keyed kept_name db old.kept.locals ≡ Some local
  pub kept : new.kept ≡ after_note old.kept (Revert db)
  pub known : new.known ≡ with_keyed known_name (base_of local) old.known
  pub views : KeepsViews old.sets new.sets

-- ---- publications

-- what is kept is as after the note, and nothing else changes
pub record Ends (old new : Catalog) (note : Note) : Type 0 where
  pub kept : new.kept ≡ after_note old.kept note
  pub known : new.known ≡ old.known
  pub views : KeepsViews old.sets new.sets

-- the database of an upload, as it was published
abbrev pub published : ℕ → Uploading → Known
published number u = record { entry = u.entry; number = number; block = u.block }

-- the database of an upload, where it has no commits left among these
abbrev pub left_known : ℕ → List Local → Uploading → Option Known
left_known number locals u = if is_some (keyed kept_name u.entry.name locals) then None else Some (published number u)

abbrev pub upload_left : ℕ → List Local → Option Uploading → Option Known
upload_left number locals None = None
upload_left number locals (Some u) = left_known number locals u

-- the database of the publication that was pending, where it was an upload and no commits are left
abbrev pub known_left : ℕ → List Local → Option PendingPub → Option Known
known_left number locals None = None
known_left number locals (Some p) = upload_left number locals p.upload

-- the pending publication was made, and its database is known as published where no commits are left
pub record Resolves (old new : Catalog) (number : ℕ) : Type 0 where
  pub kept : (id : Id16) → new.kept ≡ after_note old.kept (Done id number)
  pub known : new.known ≡ with_made known_name (known_left number new.kept.locals old.kept.pending) old.known
  pub views : KeepsViews old.sets new.sets

-- ---- polls

-- the databases of a manifest
abbrev pub known_in : Manifest → List Known
known_in m = map (λ (d : DbEntry). record { entry = d; number = m.number; block = m.block }) m.dbs

-- those of them that have no commits here
abbrev pub known_at : Kept → List Known → List Known
known_at k found = filter (λ (x : Known). not (is_some (keyed kept_name (known_name x) k.locals))) found

pub record Polls (old new : Catalog) (found : List Known) : Type 0 where
  pub kept : new.kept ≡ old.kept
  pub known : new.known ≡ known_at old.kept found
  pub sets : new.sets ≡ old.sets
  pub uses : new.uses ≡ old.uses

-- ---- what is forgotten

-- the use of a set by a database
abbrev pub use_of : ℕ → List SetUse → Option SetUse
use_of set uses = find (λ (u : SetUse). u.set == set) uses

-- the lesser of two numbers that may be there
abbrev pub least_of : Option ℕ → Option ℕ → Option ℕ
least_of None b = b
least_of (Some a) None = Some a
least_of (Some a) (Some b) = Some (min a b)

-- the number after which a database's or a transaction's commits begin in a set
abbrev pub needed_from : List SetUse → ℕ → Option ℕ → Option ℕ
needed_from uses set oldest = least_of (option_map (λ (u : SetUse). u.from) (use_of set uses)) oldest

-- a set without the commits that neither needs; no set where nobody does
abbrev pub trimmed : Option ℕ → Option Held → Option Held
trimmed None h = None
trimmed (Some upto) h = option_map (without_upto upto) h

pub record Trims (old new : Catalog) (set : ℕ) (oldest : Option ℕ) : Type 0 where
  pub kept : new.kept ≡ old.kept
  pub known : new.known ≡ old.known
  pub uses : new.uses ≡ old.uses
  pub there : set_at new.sets set ≡ trimmed (needed_from old.uses set oldest) (set_at old.sets set)
  pub others : (place : ℕ) → place ≢ set → set_at new.sets place ≡ set_at old.sets place

-- a view of a set stays
abbrev pub KeepsFrom : List (Option Held) → List (Option Held) → ℕ → ℕ → ℕ → Type 0
KeepsFrom old new set from to =
    (h : Held) → set_at old set ≡ Some h → (g : Held) × (set_at new set ≡ Some g) × KeepsView h g from to
