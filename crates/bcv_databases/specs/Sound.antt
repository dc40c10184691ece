-- What holds of the databases that a client knows, whatever was called.
use Rattle.std.specs.Prelude.{◌≡◌, ℕ, ◌≤◌, true, List, Option, Some, None, IfSome, length}
use Rattle.std.specs.List.{AllByRecursion, list_all}
use Rattle.bcv_base.specs.Keyed.{keyed}
use Rattle.bcv_base.specs.ManifestRules.{Ascends}
use Rattle.bcv_base.specs.Views.{is_commit}
use Rattle.bcv_model.specs.declared.kept.Kept.{Kept}
use Rattle.bcv_model.specs.declared.kept.Local.{Local}
use Rattle.bcv_model.specs.declared.kept.PendingPub.{PendingPub}
use Rattle.bcv_model.specs.declared.kept.Uploading.{Uploading}
use Rattle.bcv_model.specs.Notes.{kept_name}
use Rattle.bcv_pages.specs.Held.{Held, CanView, KeepsView, last_of, view_of}
use Rattle.bcv_databases.specs.Catalog.{Catalog, known_name, set_at, use_name, writes_in}
use Rattle.bcv_databases.specs.declared.set_use.SetUse.{SetUse}

-- ---- sets

-- the commits after this number, up to the last, are those of the database, and its pages have the set's size
pub record IsSetOf (l : Local) (from : ℕ) (h : Held) : Type 0 where
  pub size : h.page_size ≡ l.entry.page_size
  pub view : CanView h from (last_of h)
  pub commits : view_of h from (last_of h) ≡ writes_in l

-- a database with commits uses a set that has them, and no other database uses one
abbrev pub HasSet : List (Option Held) → Option Local → Option SetUse → Type 0
HasSet sets None None = Unit {0}
HasSet sets (Some l) (Some u) = (h : Held) × (set_at sets u.set ≡ Some h) × IsSetOf l u.from h
HasSet sets _ _ = ⊥

-- two databases use no set in common
abbrev pub AreApart : List SetUse → Type 0
AreApart uses =
    (a b : List ℕ) (u v : SetUse) → keyed use_name a uses ≡ Some u → keyed use_name b uses ≡ Some v → u.set ≡ v.set → a ≡ b

-- ---- the whole

-- an upload is that of a database with commits, and leaves it its page size
pub record CanUpload (locals : List Local) (u : Uploading) : Type 0 where
  pub local : Local
  pub is_local : keyed kept_name u.entry.name locals ≡ Some local
  pub size : u.entry.page_size ≡ local.entry.page_size

abbrev pub CanEnd : List Local → Option PendingPub → Type 0
CanEnd locals p = IfSome p (λ x. IfSome x.upload (CanUpload locals))

pub record AreDatabases (c : Catalog) : Type 0 where
  pub order : Ascends kept_name c.kept.locals
  pub known_order : Ascends known_name c.known
  pub without : AllByRecursion (λ k. keyed kept_name (known_name k) c.kept.locals ≡ None) c.known
  pub held : (db : List ℕ) → HasSet c.sets (keyed kept_name db c.kept.locals) (keyed use_name db c.uses)
  pub uses_order : Ascends use_name c.uses
  pub apart : AreApart c.uses
  pub pending : CanEnd c.kept.locals c.kept.pending

-- ---- what a change keeps

-- each set stays, with its page size, and each view that it could be asked for is there as before
abbrev pub KeepsViews : List (Option Held) → List (Option Held) → Type 0
KeepsViews old new =
    (place : ℕ) (h : Held) → set_at old place ≡ Some h
    → (g : Held) × (set_at new place ≡ Some g) × ((from to : ℕ) → KeepsView h g from to) × (g.page_size ≡ h.page_size)

-- nothing that a caller sees has changed
pub record IsSame (old new : Catalog) : Type 0 where
  pub kept : new.kept ≡ old.kept
  pub known : new.known ≡ old.known
  pub views : KeepsViews old.sets new.sets

-- ---- what was loaded

-- of a loaded database each commit has its page size, and there is one
pub record IsLoaded (l : Local) : Type 0 where
  pub some : 1 ≤ length l.commits
  pub commits : list_all (is_commit l.entry.page_size) (writes_in l) ≡ true

pub record AreLoaded (k : Kept) : Type 0 where
  pub order : Ascends kept_name k.locals
  pub each : AllByRecursion IsLoaded k.locals
  pub pending : CanEnd k.locals k.pending
