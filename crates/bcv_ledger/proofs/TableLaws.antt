-- What a ledger shows of its databases, in the machine's words.
use Rattle.std.proofs.Common.{◌≡◌, ◌∙◌, ℕ, List, [], ◌∷◌, map, length, Option, Some, None, refl, sym, ap, subst}
use Rattle.std.specs.Prelude.{option_and_then, unwrap_or}
use Rattle.std.specs.Option.{option_map}
use Rattle.std.specs.List.{AllByRecursion}
use Rattle.bcv_base.specs.declared.manifest.DbEntry.{DbEntry}
use Rattle.bcv_base.specs.History.{Item, history_of}
use Rattle.bcv_base.specs.Image.{Writes, or_else}
use Rattle.bcv_base.specs.Joined.{joined}
use Rattle.bcv_base.specs.Keyed.{keyed, with_keyed}
use Rattle.bcv_base.specs.Version.{Database}
use Rattle.bcv_base.specs.Views.{view_size}
use Rattle.bcv_databases.specs.Catalog.{Catalog, commits_of, known_name, known_view, local_view, use_name, writes_in}
use Rattle.bcv_databases.specs.Sound.{HasSet}
use Rattle.bcv_databases.specs.Table.{known_row, local_row, merged_rows, row_name}
use Rattle.bcv_databases.specs.declared.database_view.CommitsAt.{CommitsAt}
use Rattle.bcv_databases.specs.declared.known.Known.{Known}
use Rattle.bcv_databases.specs.declared.set_use.SetUse.{SetUse}
use Rattle.bcv_dbmap.specs.Sound.{Sound}
use Rattle.bcv_machine.specs.LocalWriting as machine
use Rattle.bcv_machine.specs.State as m
use Rattle.bcv_model.specs.declared.kept.Local.{Local}
use Rattle.bcv_model.specs.declared.reply.Row.{Row}
use Rattle.bcv_model.specs.Commits.{writes_of}
use Rattle.bcv_model.specs.Notes.{kept_name}
use Rattle.bcv_pages.specs.Held.{Held, last_of}
use Rattle.bcv_clientstate.specs.BaseLaws.{FitsLocal}
use Rattle.bcv_clientstate.specs.Fits.{FitsKnown}
use Rattle.bcv_clientstate.specs.PartRefusals.{known_part, local_part, seen_view}
use Rattle.bcv_clientstate.specs.Parts.{with_ledger}
use Rattle.bcv_clientstate.specs.SeenClient.{seen_known}
use Rattle.bcv_clientstate.specs.SeenContainer.{HasBase, container_of}
use Rattle.bcv_clientstate.specs.SeenKept.{seen_local}
use Rattle.bcv_clientstate.proofs.Bases.{base_database, pages_len}
use Rattle.bcv_clientstate.proofs.PartRefusals.{map_len, some_map, view_is_view}
use Rattle.bcv_dbmap.proofs.Keys.{keyed_key}
use Rattle.bcv_ledger.specs.Reasons.{parts_by}
use Rattle.bcv_ledger.specs.TableLaws.{FoundIsView, ListsAreTheMachines, found_view, writes_at, writes_of_set}

-- ---- views

-- the commits of a database are those that stand in its set
writes_there : (sets : List (Option Held)) (l : Local) (o : Option SetUse) → HasSet sets (Some l) o → writes_at sets (option_and_then (commits_of sets) o) ≡ writes_in l
writes_there sets l None has = absurd has
writes_there sets l (Some u) has =
    let at : Held → CommitsAt = λ h. record { set = u.set; from = u.from; to = last_of h } in
    ap (λ (o : Option Held). writes_at sets (option_map at o)) has.1
    ∙ ap (λ (o : Option Held). writes_of_set o (at has.0)) has.1
    ∙ has.2.commits

seen_found : (c : Catalog) (db : List ℕ) (a : Option Local) (b : Option Known) → ((l : Local) → a ≡ Some l → writes_at c.sets (local_view c l).commits ≡ writes_in l)
    → option_map seen_view (or_else (option_map local_part a) (option_map known_part b)) ≡ option_map (found_view c) (or_else (option_map (local_view c) a) (option_map known_view b))
seen_found c db (Some l) b is = ap (λ (ws : List Writes). Some (record { base = l.number; commits = ws })) (sym (is l refl))
seen_found c db None (Some k) is = refl
seen_found c db None None is = refl

pub found_is_view : FoundIsView
found_is_view past p closed c db are =
    view_is_view past (with_ledger (parts_by closed c) p) db
    ∙ seen_found c db (keyed kept_name db c.kept.locals) (keyed known_name db c.known) (λ l e. local_writes l e)
  where
    local_writes : (l : Local) → keyed kept_name db c.kept.locals ≡ Some l → writes_at c.sets (local_view c l).commits ≡ writes_in l
    local_writes l e =
        ap (λ (n : List ℕ). writes_at c.sets (option_and_then (commits_of c.sets) (keyed use_name n c.uses))) (keyed_key kept_name db c.kept.locals l e)
        ∙ writes_there c.sets l (keyed use_name db c.uses) (subst (λ (o : Option Local). HasSet c.sets o (keyed use_name db c.uses)) e (are.held db))

-- ---- the table

module _ (moment : ℕ) (past : List Item) (sound : Sound past) where
  abbrev c : m.Container
  c = container_of moment past

  -- the pages of a view over a base
  pages_are : (number block : ℕ) (e : DbEntry) (ws : List Writes) → HasBase past number block e → machine.pages_of c e.name (record { base = number; commits = ws }) ≡ view_size e.pages ws
  pages_are number block e ws has =
      ap (λ (o : Option Database). unwrap_or (option_map (λ (d : Database). view_size (length d.image) ws) o) 0) (base_database moment past number block e sound has)
      ∙ ap (λ (n : ℕ). view_size n ws) (pages_len e.pages e.page_size (joined past e.blocks))

  local_is : (l : Local) → FitsLocal past l → machine.row_of c l.entry.name (m.local_view (seen_local l)) ≡ local_row l
  local_is l has =
      ap (λ (n : ℕ). record { name = l.entry.name; number = l.number; pages = n; commits = length (map writes_of l.commits) }) (pages_are l.number l.block l.entry (map writes_of l.commits) has)
      ∙ ap (λ (n : ℕ). record { name = l.entry.name; number = l.number; pages = view_size l.entry.pages (map writes_of l.commits); commits = n }) (map_len writes_of l.commits)

  known_is : (k : Known) → FitsKnown past k → machine.row_of c k.entry.name (m.known_view (seen_known k)) ≡ known_row k
  known_is k has = ap (λ (n : ℕ). record { name = k.entry.name; number = k.number; pages = n; commits = 0 }) (pages_are k.number k.block k.entry [] has)

  locals_are : (ls : List Local) → AllByRecursion (FitsLocal past) ls → machine.local_rows c (map seen_local ls) ≡ map local_row ls
  locals_are [] all = refl
  locals_are (l ∷ ls) all = ap (λ (r : Row). r ∷ machine.local_rows c (map seen_local ls)) (local_is l all.0) ∙ ap (λ (rs : List Row). local_row l ∷ rs) (locals_are ls all.1)

  merged_are : (ks : List Known) (rows : List Row) → AllByRecursion (FitsKnown past) ks → machine.merged_rows c (map seen_known ks) rows ≡ merged_rows ks rows
  merged_are [] rows all = refl
  merged_are (k ∷ ks) rows all =
      ap (λ (r : Row). with_keyed row_name r (machine.merged_rows c (map seen_known ks) rows)) (known_is k all.0)
      ∙ ap (with_keyed row_name (known_row k)) (merged_are ks rows all.1)

pub lists_are_the_machines : ListsAreTheMachines
lists_are_the_machines moment log entries p f sound fits = (
  sym (ap (λ (rows : List Row). machine.merged_rows (container_of moment (history_of log)) (map seen_known p.known) rows) (locals_are moment (history_of log) sound p.kept.locals fits.locals)
      ∙ merged_are moment (history_of log) sound p.known (map local_row p.kept.locals) fits.known),
  sym (some_map _ p.kept.pending),
  refl,
)
