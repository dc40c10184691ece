-- The grammar of a script's lines: readers take a line's words from the left, and name the first one that cannot stand.
use Rattle.std.specs.Prelude.{ℕ, ◌-◌, ◌^◌, List, [], ◌∷◌, length, Option, Result, Ok, Err, if◌then◌else◌, codes}
use Rattle.std.specs.Option.{ok_or}
use Rattle.std.specs.Str.{bytes_eq}
use Rattle.bcv_base.specs.declared.outcome.Outcome.{Outcome}
use Rattle.bcv_base.specs.declared.outcome.Outcome.TheVariants as outcome
use Rattle.bcv_base.specs.Image.{Page}
use Rattle.bcv_base.specs.ManifestGrammar.{◌>>=◌, placed}
use Rattle.bcv_model.specs.declared.ask.Ask.{Ask}
use Rattle.bcv_model.specs.declared.ask.Ask.TheVariants as ask
use Rattle.bcv_model.specs.declared.ask.Commit.{Commit}
use Rattle.bcv_model.specs.declared.event.Act.{Act}
use Rattle.bcv_model.specs.declared.event.Act.TheVariants as act
use Rattle.bcv_model.specs.declared.event.Event.{Event}
use Rattle.bcv_model.specs.declared.event.Event.TheVariants as event
use Rattle.bcv_model.specs.declared.spec.WorldSpec.{WorldSpec}
use Rattle.bcv_model.specs.declared.verb.Verb.{Verb}
use Rattle.bcv_model.specs.declared.verb.Verb.TheVariants as verb
use Rattle.bcv_base.specs.Padded.{padded}
use Rattle.bcv_model.specs.Words.{words_of, bytes_left, exactly, meaning_in, number_in, name_of, block_size_of, page_size_of_word, slots_of, page_of_text, pair_of}

-- ---- readers of words

-- a value and the words after it; or a fault, told by how many bytes the line has from the first word on that cannot stand:
-- none where the line ends too early
abbrev pub ReadWords : Type 0 → Type 0
ReadWords A = Result (A × List (List ℕ)) ℕ

-- what the first word writes; it cannot stand where it writes nothing
abbrev pub word_at : {A : Type 0} → (List ℕ → Option A) → List (List ℕ) → ReadWords A
word_at meaning [] = Err 0
word_at meaning (w ∷ ws) = do
  x ← ok_or (meaning w) (bytes_left (w ∷ ws))
  Ok (x, ws)

-- the line ends here: a further word cannot stand
abbrev pub ended : List (List ℕ) → Result (Unit {0}) ℕ
ended [] = Ok tt
ended (w ∷ ws) = Err (bytes_left (w ∷ ws))

-- what the word writes that ends the line
abbrev pub last_word_at : {A : Type 0} → (List ℕ → Option A) → List (List ℕ) → Result A ℕ
last_word_at meaning words = do
  x ← word_at meaning words
  _ ← ended x.1
  Ok x.0

-- the pages that the words write, each by its text
abbrev pub pages_at : ℕ → List (List ℕ) → Result (List Page) ℕ
pages_at size [] = Ok []
pages_at size (w ∷ ws) = do
  page ← ok_or (page_of_text size w) (bytes_left (w ∷ ws))
  pages ← pages_at size ws
  Ok (page ∷ pages)

-- the numbered pages that the words write, each number above the one before it
abbrev pub pairs_at : ℕ → ℕ → List (List ℕ) → Result (List (ℕ × Page)) ℕ
pairs_at size after [] = Ok []
pairs_at size after (w ∷ ws) = do
  pair ← ok_or (pair_of size after w) (bytes_left (w ∷ ws))
  pairs ← pairs_at size pair.0 ws
  Ok ((pair.0, padded size pair.1) ∷ pairs)

-- ---- the world line

unfoldable pub world_at : List (List ℕ) → Result WorldSpec ℕ
world_at words = do
  word ← word_at (exactly (codes "world")) words
  clients ← word_at (number_in 1 16) word.1
  block ← word_at block_size_of clients.1
  page ← word_at (page_size_of_word block.0) block.1
  retention ← word_at (number_in 0 (2 ^ 64 - 1)) page.1
  slots ← last_word_at (slots_of block.0) retention.1
  Ok (record { clients = clients.0; block = block.0; page = page.0; retention = retention.0; slots = slots })

-- the world that a world line fixes, or the place of the fault
unfoldable pub world_of : List ℕ → Result WorldSpec ℕ
world_of line = placed (length line) (world_at (words_of line))

-- ---- what happens to a client

-- the second word of a client's line
abbrev pub verbs : List (List ℕ × Verb)
verbs =
    (codes "up", verb.Up) ∷ (codes "crash", verb.Crash) ∷ (codes "fuse", verb.Fuse) ∷ (codes "fail", verb.Fail)
    ∷ (codes "begin", verb.Begin) ∷ (codes "read", verb.Read) ∷ (codes "hold", verb.Hold) ∷ (codes "look", verb.Look)
    ∷ (codes "free", verb.Free) ∷ (codes "end", verb.End) ∷ (codes "commit", verb.Commit) ∷ (codes "revert", verb.Revert)
    ∷ (codes "list", verb.List) ∷ (codes "create", verb.Create) ∷ (codes "new", verb.New) ∷ (codes "upload", verb.Upload)
    ∷ (codes "copy", verb.Copy) ∷ (codes "drop", verb.Drop) ∷ (codes "poll", verb.Poll) ∷ (codes "cleanup", verb.Cleanup)
    ∷ (codes "resolve", verb.Resolve) ∷ (codes "step", verb.Step) ∷ []

-- the third word of a step's line
abbrev pub outcomes : List (List ℕ × Outcome)
outcomes = (codes "fail", outcome.Fail) ∷ (codes "lost", outcome.Lost) ∷ []

-- the outcome of a step's request: it is done where the line doesn't say otherwise
abbrev pub outcome_at : List (List ℕ) → Result Outcome ℕ
outcome_at [] = Ok outcome.Ok
outcome_at (w ∷ ws) = last_word_at (meaning_in outcomes) (w ∷ ws)

-- the number of an open transaction, and of a page
abbrev pub txn_in : List ℕ → Option ℕ
txn_in w = number_in 1 64 w

abbrev pub page_in : List ℕ → Option ℕ
page_in w = number_in 1 (2 ^ 32 - 1) w

-- a number of device calls, or of pages
abbrev pub count_in : List ℕ → Option ℕ
count_in w = number_in 0 (2 ^ 32 - 1) w

-- one of the five images that a crash may leave
abbrev pub image_in : List ℕ → Option ℕ
image_in w = number_in 0 4 w

-- a transaction and a page, which end the line
abbrev pub txn_and_page_at : List (List ℕ) → Result (ℕ × ℕ) ℕ
txn_and_page_at words = do
  txn ← word_at txn_in words
  page ← last_word_at page_in txn.1
  Ok (txn.0, page)

-- a number of device calls and an image, which end the line
abbrev pub fuse_at : List (List ℕ) → Result (ℕ × ℕ) ℕ
fuse_at words = do
  calls ← word_at count_in words
  image ← last_word_at image_in calls.1
  Ok (calls.0, image)

-- two databases, which end the line
abbrev pub names_at : List (List ℕ) → Result (List ℕ × List ℕ) ℕ
names_at words = do
  from ← word_at name_of words
  to ← last_word_at name_of from.1
  Ok (from.0, to)

-- a database, its size in pages, and numbered pages
abbrev pub commit_at : ℕ → List (List ℕ) → Result (List ℕ × Commit) ℕ
commit_at page_size words = do
  db ← word_at name_of words
  size ← word_at count_in db.1
  pages ← pairs_at page_size 0 size.1
  Ok (db.0, record { size = size.0; pages = pages })

-- a database and its pages
abbrev pub new_at : ℕ → List (List ℕ) → Result (List ℕ × List Page) ℕ
new_at page_size words = do
  db ← word_at name_of words
  pages ← pages_at page_size db.1
  Ok (db.0, pages)

-- a task, and the outcome of its request
abbrev pub step_at : List (List ℕ) → Result (ℕ × Outcome) ℕ
step_at words = do
  task ← word_at (number_in 1 16) words
  o ← outcome_at task.1
  Ok (task.0, o)

-- the client is asked, and each request that the ask makes is done
abbrev pub asking : Ask → Act
asking q = act.Ask q outcome.Ok

-- what happens to a client by the line's second word and those after it; sizes that the line doesn't say are the world's
unfoldable pub act_at : WorldSpec → Verb → List (List ℕ) → Result Act ℕ
act_at spec verb.Up words = ended words >>= λ _. Ok act.Up
act_at spec verb.Crash words = last_word_at image_in words >>= λ image. Ok (act.Crash image)
act_at spec verb.Fuse words = fuse_at words >>= λ x. Ok (act.Fuse x.0 x.1)
act_at spec verb.Fail words = last_word_at count_in words >>= λ calls. Ok (act.FailAt calls)
act_at spec verb.Begin words = last_word_at name_of words >>= λ db. Ok (asking (ask.Begin db))
act_at spec verb.Read words = txn_and_page_at words >>= λ x. Ok (asking (ask.Read x.0 x.1))
act_at spec verb.Hold words = txn_and_page_at words >>= λ x. Ok (asking (ask.Hold x.0 x.1))
act_at spec verb.Look words = txn_and_page_at words >>= λ x. Ok (asking (ask.Look x.0 x.1))
act_at spec verb.Free words = txn_and_page_at words >>= λ x. Ok (asking (ask.Free x.0 x.1))
act_at spec verb.End words = last_word_at txn_in words >>= λ txn. Ok (asking (ask.End txn))
act_at spec verb.Commit words = commit_at spec.page words >>= λ x. Ok (asking (ask.Commit x.0 x.1))
act_at spec verb.Revert words = last_word_at name_of words >>= λ db. Ok (asking (ask.Revert db))
act_at spec verb.List words = ended words >>= λ _. Ok (asking ask.List)
act_at spec verb.Create words = ended words >>= λ _. Ok (asking (ask.Create spec.block spec.retention))
act_at spec verb.New words = new_at spec.page words >>= λ x. Ok (asking (ask.NewDb x.0 spec.page x.1))
act_at spec verb.Upload words = last_word_at name_of words >>= λ db. Ok (asking (ask.Upload db))
act_at spec verb.Copy words = names_at words >>= λ x. Ok (asking (ask.Copy x.0 x.1))
act_at spec verb.Drop words = last_word_at name_of words >>= λ db. Ok (asking (ask.Remove db))
act_at spec verb.Poll words = ended words >>= λ _. Ok (asking ask.Poll)
act_at spec verb.Cleanup words = ended words >>= λ _. Ok (asking ask.Cleanup)
act_at spec verb.Resolve words = ended words >>= λ _. Ok (asking ask.Resolve)
act_at spec verb.Step words = step_at words >>= λ x. Ok (act.Ask (ask.Step x.0) x.1)

-- ---- the lines of events

-- a client's number, from 1, and what happens to it
abbrev pub client_at : WorldSpec → List (List ℕ) → Result Event ℕ
client_at spec words = do
  client ← word_at (number_in 1 spec.clients) words
  kind ← word_at (meaning_in verbs) client.1
  what ← act_at spec kind.0 kind.1
  Ok (event.Of client.0 what)

-- so many seconds, which end the line
abbrev pub tick_at : List (List ℕ) → Result Event ℕ
tick_at words = do
  seconds ← last_word_at (number_in 0 (2 ^ 64 - 1)) words
  Ok (event.Tick seconds)

unfoldable pub event_at : WorldSpec → List (List ℕ) → Result Event ℕ
event_at spec [] = Err 0
event_at spec (w ∷ ws) = if bytes_eq w (codes "tick") then tick_at ws else client_at spec (w ∷ ws)

-- the event that a line is in a world, or the place of the fault
unfoldable pub event_of : WorldSpec → List ℕ → Result Event ℕ
event_of spec line = placed (length line) (event_at spec (words_of line))

-- ---- the lines that the command `commit` reads

-- a line of one word: a page number above the one before it, and the bytes of the page's text, which no database's page size
-- limits yet
unfoldable pub pair_line_of : ℕ → List ℕ → Result (ℕ × List ℕ) ℕ
pair_line_of after line = placed (length line) (last_word_at (pair_of 65536 after) (words_of line))
