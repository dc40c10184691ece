-- What a ledger shows of its databases, in the machine's words.
use Rattle.std.specs.Prelude.{◌≡◌, ℕ, Bool, List, [], map, Option, Some, None, is_some}
use Rattle.std.specs.Option.{option_map}
use Rattle.bcv_base.specs.declared.log.Entry.{Entry}
use Rattle.bcv_base.specs.History.{Item, history_of}
use Rattle.bcv_base.specs.Image.{Writes}
use Rattle.bcv_cache.specs.Entry as cache
use Rattle.bcv_databases.specs.Catalog.{Catalog, View, found_at, set_at}
use Rattle.bcv_databases.specs.Sound.{AreDatabases}
use Rattle.bcv_databases.specs.Table.{local_row, merged_rows}
use Rattle.bcv_databases.specs.declared.database_view.CommitsAt.{CommitsAt}
use Rattle.bcv_dbmap.specs.Sound.{IsSoundLog}
use Rattle.bcv_machine.specs.LocalWriting.{Lists}
use Rattle.bcv_machine.specs.State as m
use Rattle.bcv_model.specs.declared.reply.Reply.TheVariants as reply
use Rattle.bcv_pages.specs.Held.{Held, view_of}
use Rattle.bcv_clientstate.specs.Fits.{Fits}
use Rattle.bcv_clientstate.specs.Parts.{Parts, with_ledger}
use Rattle.bcv_clientstate.specs.SeenClient.{Free, seen_up, side_of}
use Rattle.bcv_clientstate.specs.SeenKept.{seen_kept}
use Rattle.bcv_ledger.specs.Reasons.{parts_by}

-- ---- a view

-- what some commits of a set write
abbrev pub writes_of_set : Option Held → CommitsAt → List Writes
writes_of_set None at = []
writes_of_set (Some h) at = view_of h at.from at.to

abbrev pub writes_at : List (Option Held) → Option CommitsAt → List Writes
writes_at sets None = []
writes_at sets (Some at) = writes_of_set (set_at sets at.set) at

-- a database in memory as the machine's view
abbrev pub found_view : Catalog → View → m.View
found_view c v = record { base = v.number; commits = writes_at c.sets v.commits }

-- what is found of a name is the machine's view of it, with the commits that stand in its set
abbrev pub FoundIsView : Type 0
FoundIsView =
    (past : List Item) (p : Parts) (closed : Bool) (c : Catalog) (db : List ℕ) → AreDatabases c
    → m.view_of (seen_kept c.kept) (seen_up past (with_ledger (parts_by closed c) p)) db ≡ option_map (found_view c) (found_at c db)

-- ---- the table

-- the rows of the databases, and whether a publication is pending, are what the machine lists
abbrev pub ListsAreTheMachines : Type 0
ListsAreTheMachines =
    (moment : ℕ) (log : List Entry) (entries : List cache.Entry) (p : Parts) (f : Free) → IsSoundLog log → Fits p entries log
    → Lists (side_of moment (history_of log) p f) (seen_up (history_of log) p) (reply.Table (merged_rows p.known (map local_row p.kept.locals)) (is_some p.kept.pending)) (side_of moment (history_of log) p f)
