-- When a client refuses an ask, by what it has in memory; and that this is when the machine does.
use Rattle.std.specs.Prelude.{◌≡◌, ℕ, Bool, true, false, not, List, [], ◌∷◌, length, map, Option, Some, None, is_some, is_none, nat_le, nat_lt}
use Rattle.std.specs.List.{list_any}
use Rattle.std.specs.Option.{option_map}
use Rattle.bcv_base.specs.declared.log.Entry.{Entry}
use Rattle.bcv_base.specs.declared.manifest.DbEntry.{DbEntry}
use Rattle.bcv_base.specs.History.{Item, history_of}
use Rattle.bcv_base.specs.Image.{Writes, or_else}
use Rattle.bcv_base.specs.Keyed.{keyed}
use Rattle.bcv_base.specs.ManifestRules.{blocks_needed}
use Rattle.bcv_base.specs.Views.{is_commit}
use Rattle.bcv_cache.specs.Entry as cache
use Rattle.bcv_dbmap.specs.Sound.{IsSoundLog}
use Rattle.bcv_machine.specs.Refusals as refusals
use Rattle.bcv_machine.specs.Refusals.{first_reason, UnlessRefused}
use Rattle.bcv_machine.specs.State as m
use Rattle.bcv_model.specs.declared.kept.Local.{Local}
use Rattle.bcv_model.specs.declared.reply.Reply.{Reply}
use Rattle.bcv_model.specs.declared.reply.Reply.TheVariants as reply
use Rattle.bcv_model.specs.Commits.{writes_of}
use Rattle.bcv_model.specs.Notes.{kept_name}
use Rattle.bcv_databases.specs.Catalog.{known_name}
use Rattle.bcv_clientstate.specs.Fits.{Fits}
use Rattle.bcv_databases.specs.declared.known.Known.{Known}
use Rattle.bcv_clientstate.specs.Parts.{Job, Fetching, Polling, Creating, Copying, Uploading, Cleaning, Resolving, Task, Parts, LedgerParts, ledger_of}
use Rattle.bcv_clientstate.specs.SeenClient.{Free, seen_up, side_of}
use Rattle.bcv_clientstate.specs.SeenContainer.{HasBase}
use Rattle.bcv_clientstate.specs.SeenKept.{seen_kept}

-- ---- the view of a database

-- a known database: its base, the number and block size of that, and the commits
pub record PartView : Type 0 where
  pub entry : DbEntry
  pub number : ℕ
  pub block : ℕ
  pub commits : List Writes

abbrev pub local_part : Local → PartView
local_part l = record { entry = l.entry; number = l.number; block = l.block; commits = map writes_of l.commits }

abbrev pub known_part : Known → PartView
known_part k = record { entry = k.entry; number = k.number; block = k.block; commits = [] }

abbrev pub part_view_in : LedgerParts → List ℕ → Option PartView
part_view_in l db = or_else (option_map local_part (keyed kept_name db l.kept.locals)) (option_map known_part (keyed known_name db l.known))

abbrev pub part_view : Parts → List ℕ → Option PartView
part_view p db = part_view_in (ledger_of p) db

abbrev pub seen_view : PartView → m.View
seen_view v = record { base = v.number; commits = v.commits }

-- it is the machine's view, and its base is there
abbrev pub ViewIsView : Type 0
ViewIsView = (past : List Item) (p : Parts) (db : List ℕ) → m.view_of (seen_kept p.kept) (seen_up past p) db ≡ option_map seen_view (part_view p db)

pub record IsViewOver (past : List Item) (db : List ℕ) (v : PartView) : Type 0 where
  pub base : HasBase past v.number v.block v.entry
  pub name : v.entry.name ≡ db

abbrev pub ViewHasBase : Type 0
ViewHasBase = (p : Parts) (entries : List cache.Entry) (log : List Entry) (db : List ℕ) (v : PartView) → Fits p entries log → part_view p db ≡ Some v → IsViewOver (history_of log) db v

-- ---- what runs

abbrev pub is_publishing : Job → Bool
is_publishing (Fetching access txn page) = false
is_publishing Polling = false
is_publishing (Creating block retention id) = true
is_publishing (Copying s) = true
is_publishing (Uploading s view) = true
is_publishing (Cleaning s) = true
is_publishing Resolving = true

abbrev pub runs_publication : Parts → Bool
runs_publication p = list_any (λ (t : Task). is_publishing t.job) p.tasks

-- ---- reasons, in the order in which they are tested

abbrev pub begin_reason : Parts → List ℕ → Option Reply
begin_reason p db = first_reason ((is_none (part_view p db), reply.NoDatabase) ∷ (nat_le 64 (length p.txns), reply.TooMany) ∷ [])

abbrev pub bad_commit : Writes → Option PartView → Bool
bad_commit w None = false
bad_commit w (Some v) = not (is_commit v.entry.page_size w)

abbrev pub large_commit : Writes → Option PartView → Bool
large_commit w None = false
large_commit w (Some v) = nat_lt 65536 (blocks_needed v.block v.entry.page_size w.size)

abbrev pub commit_reason_in : LedgerParts → List ℕ → Writes → Option Reply
commit_reason_in l db w =
    first_reason ((l.closed, reply.Closed) ∷ (is_none (part_view_in l db), reply.NoDatabase) ∷ (bad_commit w (part_view_in l db), reply.BadPage) ∷ (large_commit w (part_view_in l db), reply.TooLarge) ∷ [])

abbrev pub commit_reason : Parts → List ℕ → Writes → Option Reply
commit_reason p db w = commit_reason_in (ledger_of p) db w

abbrev pub has_local_in : LedgerParts → List ℕ → Bool
has_local_in l db = is_some (keyed kept_name db l.kept.locals)

abbrev pub has_local : Parts → List ℕ → Bool
has_local p db = has_local_in (ledger_of p) db

-- where a publication or a resolve may run beside it
abbrev pub revert_reason_in : LedgerParts → Bool → List ℕ → Option Reply
revert_reason_in l busy db =
    first_reason
    ((l.closed, reply.Closed) ∷ (is_some l.kept.pending, reply.Pending) ∷ (busy, reply.Busy) ∷ (is_none (part_view_in l db), reply.NoDatabase) ∷ (not (has_local_in l db), reply.Nothing) ∷ [])

abbrev pub revert_reason : Parts → List ℕ → Option Reply
revert_reason p db = revert_reason_in (ledger_of p) (runs_publication p) db

-- ---- that they are the machine's

abbrev pub BusyIsBusy : Type 0
BusyIsBusy = (past : List Item) (p : Parts) → refusals.is_busy (seen_up past p) ≡ runs_publication p

abbrev pub BeginIsRefused : Type 0
BeginIsRefused = (past : List Item) (p : Parts) (db : List ℕ) → refusals.begin_refusal (seen_kept p.kept) (seen_up past p) db ≡ begin_reason p db

abbrev pub CommitIsRefused : Type 0
CommitIsRefused =
    (moment : ℕ) (p : Parts) (entries : List cache.Entry) (f : Free) (log : List Entry) (db : List ℕ) (w : Writes) → IsSoundLog log → Fits p entries log
    → refusals.commit_refusal (side_of moment (history_of log) p f) (seen_up (history_of log) p) db w ≡ commit_reason p db w

abbrev pub RevertIsRefused : Type 0
RevertIsRefused = (past : List Item) (p : Parts) (db : List ℕ) → refusals.revert_refusal (seen_kept p.kept) (seen_up past p) db ≡ revert_reason p db
