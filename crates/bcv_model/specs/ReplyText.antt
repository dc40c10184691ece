-- The text of what is said of an event.
use Rattle.std.specs.Prelude.{ℕ, Bool, true, false, ◌==◌, List, [], ◌∷◌, ◌++◌, Option, Some, None, codes, if◌then◌else◌}
use Rattle.std.specs.List.{flat_map}
use Rattle.std.specs.Fmt.{decimal}
use Rattle.bcv_base.specs.Names.{hex_of}
use Rattle.bcv_model.specs.declared.reply.Reply.{Reply}
use Rattle.bcv_model.specs.declared.reply.Reply.TheVariants as reply
use Rattle.bcv_model.specs.declared.reply.Row.{Row}
use Rattle.bcv_model.specs.declared.reply.Said.{Said}

-- ---- a page

-- a byte before others, which goes where it is zero and none follows
abbrev pub before_trimmed : ℕ → List ℕ → List ℕ
before_trimmed b [] = if b == 0 then [] else b ∷ []
before_trimmed b (c ∷ cs) = b ∷ c ∷ cs

-- the bytes up to the last one that isn't zero
abbrev pub trimmed : List ℕ → List ℕ
trimmed [] = []
trimmed (b ∷ bs) = before_trimmed b (trimmed bs)

abbrev pub hex_or_dash : List ℕ → List ℕ
hex_or_dash [] = codes "-"
hex_or_dash (b ∷ bs) = hex_of (b ∷ bs)

-- a page's hex digits up to the last byte that isn't zero, and `-` for a page of zeros
abbrev pub page_text : List ℕ → List ℕ
page_text page = hex_or_dash (trimmed page)

-- ---- rows

abbrev pub row_text : Row → List ℕ
row_text r = codes " " ++ (r.name ++ (codes ":" ++ (decimal r.number ++ (codes ":" ++ (decimal r.pages ++ (codes ":" ++ decimal r.commits))))))

abbrev pub flag_text : Bool → List ℕ → List ℕ
flag_text true text = text
flag_text false text = []

abbrev pub numbers_text : List ℕ → List ℕ
numbers_text ns = flat_map (λ n. codes " " ++ decimal n) ns

-- ---- a reply

unfoldable pub reply_text : Reply → List ℕ
reply_text reply.Fine = codes "ok"
reply_text (reply.Txn n) = codes "txn " ++ decimal n
reply_text (reply.Page bytes) = codes "page " ++ page_text bytes
reply_text (reply.Task task left) = codes "task " ++ (decimal task ++ (codes " working " ++ decimal left))
reply_text (reply.Working left) = codes "working " ++ decimal left
reply_text reply.Held = codes "held"
reply_text (reply.Done n) = codes "done " ++ decimal n
reply_text (reply.Polled n) = codes "polled " ++ decimal n
reply_text (reply.Cleaned deleted more) = codes "cleaned " ++ (decimal deleted ++ flag_text more (codes " more"))
reply_text (reply.Resolved n) = codes "resolved " ++ decimal n
reply_text reply.Voided = codes "voided"
reply_text (reply.Table rows pending) = codes "list" ++ (flat_map row_text rows ++ flag_text pending (codes " pending"))
reply_text (reply.UpAgain rows pending) = codes "up" ++ (flat_map row_text rows ++ flag_text pending (codes " pending"))
reply_text reply.NoDatabase = codes "no-database"
reply_text reply.BadPage = codes "bad-page"
reply_text reply.NoTxn = codes "no-txn"
reply_text reply.NotHeld = codes "not-held"
reply_text reply.NoTask = codes "no-task"
reply_text reply.TooMany = codes "too-many"
reply_text reply.CacheFull = codes "cache-full"
reply_text reply.Nothing = codes "nothing"
reply_text reply.Pending = codes "pending"
reply_text reply.Busy = codes "busy"
reply_text reply.HasLocal = codes "has-local"
reply_text reply.Exists = codes "exists"
reply_text reply.NoContainer = codes "no-container"
reply_text reply.PageTooLarge = codes "page-too-large"
reply_text reply.TooLarge = codes "too-large"
reply_text reply.TooManyDatabases = codes "too-many-databases"
reply_text (reply.Conflict mine theirs) = codes "conflict " ++ (hex_of mine.0 ++ (codes " " ++ hex_of theirs.0))
reply_text reply.WritersFull = codes "writers-full"
reply_text reply.DeleteListFull = codes "delete-list-full"
reply_text reply.ManifestTooLong = codes "manifest-too-long"
reply_text reply.VersionsFull = codes "versions-full"
reply_text (reply.Contended numbers) = codes "contended" ++ numbers_text numbers
reply_text reply.Gone = codes "gone"
reply_text (reply.BadBlock len) = codes "bad-block " ++ decimal len
reply_text (reply.BadManifest at) = codes "bad-manifest " ++ decimal at
reply_text (reply.NotJournal at) = codes "bad-journal " ++ decimal at
reply_text (reply.BadImage at) = codes "bad-image " ++ decimal at
reply_text reply.NameTaken = codes "name-taken"
reply_text reply.StoreFault = codes "store-fault"
reply_text reply.DiskFault = codes "disk-fault"
reply_text reply.NamesFault = codes "names-fault"
reply_text reply.ClockFault = codes "clock-fault"
reply_text reply.JournalFull = codes "journal-full"
reply_text reply.Closed = codes "closed"
reply_text (reply.Unknown id) = codes "unknown " ++ hex_of id.0
reply_text reply.Down = codes "down"
reply_text reply.IsUp = codes "is-up"
reply_text reply.Crashed = codes "crashed"
reply_text reply.NoMemory = codes "no-memory"

-- `+K ` where version K was put
abbrev pub published_text : Option ℕ → List ℕ
published_text None = []
published_text (Some k) = codes "+" ++ (decimal k ++ codes " ")

-- the line of what is said, with its newline
unfoldable pub said_text : Said → List ℕ
said_text said = published_text said.published ++ (reply_text said.reply ++ 10 ∷ [])
