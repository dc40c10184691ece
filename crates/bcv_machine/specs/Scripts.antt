-- Worked scripts of two clients, with blocks of 1,024 bytes, pages of 512 and two slots: the events, and what is said of each.
use Rattle.std.specs.Prelude.{true, ℕ, List, [], ◌∷◌, ◌++◌, map, replicate, Option, Some, None, false, codes}
use Rattle.bcv_base.specs.declared.id.Id16.{Id16}
use Rattle.bcv_base.specs.declared.outcome.Outcome.{Outcome}
use Rattle.bcv_base.specs.declared.outcome.Outcome.TheVariants as outcome
use Rattle.bcv_base.specs.Image.{Page}
use Rattle.bcv_model.specs.declared.ask.Ask.{Ask}
use Rattle.bcv_model.specs.declared.ask.Ask.TheVariants as ask
use Rattle.bcv_model.specs.declared.ask.Commit.{Commit}
use Rattle.bcv_model.specs.declared.event.Act.{Act}
use Rattle.bcv_model.specs.declared.event.Act.TheVariants as act
use Rattle.bcv_model.specs.declared.event.Event.{Event}
use Rattle.bcv_model.specs.declared.event.Event.TheVariants as event
use Rattle.bcv_model.specs.declared.reply.Reply.{Reply}
use Rattle.bcv_model.specs.declared.reply.Reply.TheVariants as reply
use Rattle.bcv_model.specs.declared.reply.Row.{Row}
use Rattle.bcv_model.specs.declared.reply.Said.{Said}
use Rattle.bcv_machine.specs.Run.{Run}
use Rattle.bcv_machine.specs.State.{State, first_state}
use Rattle.bcv_machine.specs.Step.{Choice}

-- ---- lines

-- an event, what is said of it, and what is left open
pub record Line : Type 0 where
  pub event : Event
  pub said : Said
  pub choice : Choice

-- an id whose last byte is n
abbrev pub id_of : ℕ → Id16
id_of n = record { 0 = 0 ∷ 0 ∷ 0 ∷ 0 ∷ 0 ∷ 0 ∷ 0 ∷ 0 ∷ 0 ∷ 0 ∷ 0 ∷ 0 ∷ 0 ∷ 0 ∷ 0 ∷ n ∷ [] }

abbrev pub draws : ℕ → Choice
draws n = record { name = id_of n; second = false }

abbrev pub says : Reply → Said
says r = record { published = None; reply = r }

-- client n is asked, and its request, if it makes one, is done
abbrev pub asks : ℕ → Ask → Reply → Line
asks n q r = record { event = event.Of n (act.Ask q outcome.Ok); said = says r; choice = draws 0 }

-- a publication starts under the id of this number
abbrev pub starts : ℕ → Ask → ℕ → ℕ → Line
starts n q id left = record { event = event.Of n (act.Ask q outcome.Ok); said = says (reply.Task 1 left); choice = draws id }

-- a step of client n's first task
abbrev pub steps : ℕ → Reply → Line
steps n r = asks n (ask.Step 1) r

-- a step whose request fails, or whose answer is lost
abbrev pub steps_with : Outcome → ℕ → Option ℕ → Reply → Line
steps_with o n published r = record { event = event.Of n (act.Ask (ask.Step 1) o); said = record { published = published; reply = r }; choice = draws 0 }

-- the step that puts version k
abbrev pub puts : ℕ → ℕ → Line
puts n k = steps_with outcome.Ok n (Some k) (reply.Done k)

-- something else happens to client n
abbrev pub acts : ℕ → Act → Reply → Line
acts n what r = record { event = event.Of n what; said = says r; choice = draws 0 }

-- from a state the machine accepts the lines, and reaches another
abbrev pub PlaysFrom : State → List Line → State → Type 0
PlaysFrom a ls b = Run a (map (λ (l : Line). l.event) ls) (map (λ (l : Line). l.said) ls) (map (λ (l : Line). l.choice) ls) b

-- from the beginning
abbrev pub Plays : List Line → State → Type 0
Plays ls b = PlaysFrom (first_state 2 2) ls b

-- ---- pages and commits

-- a page of a byte and zeros
abbrev pub page : ℕ → Page
page b = b ∷ replicate 511 0

-- a commit of one page
abbrev pub one_page : ℕ → Commit
one_page b = record { size = 1; pages = (1, page b) ∷ [] }

abbrev pub row : List ℕ → ℕ → ℕ → ℕ → Row
row name number pages commits = record { name = name; number = number; pages = pages; commits = commits }

-- ---- the beginning

-- client 1 creates the container, and publishes a database of these pages, which are few blocks
abbrev pub creates : List Line
creates = starts 1 (ask.Create 1024 100) 3 1 ∷ puts 1 1 ∷ []

-- a database of one page
abbrev pub begins : Page → List Line
begins p = creates ++ (starts 1 (ask.NewDb (codes "a") 512 (p ∷ [])) 4 3 ∷ steps 1 (reply.Working 2) ∷ steps 1 (reply.Working 1) ∷ puts 1 2 ∷ [])

-- client n polls version k
abbrev pub polls : ℕ → ℕ → List Line
polls n k = asks n ask.Poll (reply.Task 1 1) ∷ steps n (reply.Polled k) ∷ []

-- client n commits a page and uploads it as version k
abbrev pub uploads : ℕ → ℕ → ℕ → ℕ → List Line
uploads n b id k =
    asks n (ask.Commit (codes "a") (one_page b)) reply.Fine ∷ starts n (ask.Upload (codes "a")) id 4 ∷ steps n (reply.Working 3) ∷ steps n (reply.Working 1) ∷ puts n k ∷ []

-- ---- contention over copies

-- client 2 publishes a copy as version k, and client 1's put of what it read before is refused
abbrev pub intervenes : ℕ → ℕ → ℕ → List Line
intervenes byte id k = starts 2 (ask.Copy (codes "a") (byte ∷ [])) id 2 ∷ steps 2 (reply.Working 1) ∷ puts 2 k ∷ []

abbrev pub tries_again : List Line
tries_again = steps 1 (reply.Working 2) ∷ steps 1 (reply.Working 1) ∷ []

-- client 1 copies a database, and before each of its puts client 2 publishes; up to the eighth put
abbrev pub contends : Page → List Line
contends p =
    begins p ++ (starts 1 (ask.Copy (codes "a") (codes "b")) 6 2 ∷ steps 1 (reply.Working 1) ∷ [])
    ++ intervenes 99 7 3 ++ tries_again ++ intervenes 100 8 4 ++ tries_again ++ intervenes 101 9 5 ++ tries_again ++ intervenes 102 10 6 ++ tries_again
    ++ intervenes 103 11 7 ++ tries_again ++ intervenes 104 12 8 ++ tries_again ++ intervenes 105 13 9 ++ tries_again ++ intervenes 106 14 10

-- the eighth put is refused too, with the numbers that were read
abbrev pub is_contended : List ℕ → List Line
is_contended numbers = steps 1 (reply.Contended numbers) ∷ []

abbrev pub numbers_read : List ℕ
numbers_read = 2 ∷ 3 ∷ 4 ∷ 5 ∷ 6 ∷ 7 ∷ 8 ∷ 9 ∷ []

-- ---- a lost answer, and its resolve

-- client 1 uploads, the put's answer is lost, and client 2 publishes twice over the same database
abbrev pub loses_an_answer : List Line
loses_an_answer =
    begins (page 170)
    ++ (asks 1 (ask.Commit (codes "a") (one_page 187)) reply.Fine ∷ starts 1 (ask.Upload (codes "a")) 6 4 ∷ steps 1 (reply.Working 3) ∷ steps 1 (reply.Working 1)
    ∷ steps_with outcome.Lost 1 (Some 3) (reply.Unknown (id_of 6)) ∷ [])
    ++ polls 2 3 ++ uploads 2 204 8 4 ++ uploads 2 221 10 5
    ++ (asks 1 (ask.Upload (codes "a")) reply.Pending ∷ asks 1 ask.Resolve (reply.Task 1 1) ∷ [])

abbrev pub is_resolved : List Line
is_resolved = steps 1 (reply.Resolved 3) ∷ []

-- after it client 1 has no commits, and after a poll it reads the page that client 2 published last
abbrev pub goes_on_reading : List Line
goes_on_reading =
    asks 1 ask.List (reply.Table (row (codes "a") 3 1 0 ∷ []) false) ∷ []
    ++ polls 1 5 ++ (asks 1 (ask.Begin (codes "a")) (reply.Txn 1) ∷ asks 1 (ask.Read 1 1) (reply.Task 1 1) ∷ steps 1 (reply.Page (page 221)) ∷ [])

-- ---- a crash

-- a commit is noted, and the client crashes after it
abbrev pub crashes_later : List Line
crashes_later = begins (page 170) ++ (asks 1 (ask.Commit (codes "a") (one_page 187)) reply.Fine ∷ acts 1 (act.Crash 0) reply.Crashed ∷ [])

-- the fuse burns while a commit is noted, at whichever call and with whichever image
abbrev pub crashes_in_a_commit : ℕ → ℕ → List Line
crashes_in_a_commit calls image = begins (page 170) ++ (acts 1 (act.Fuse calls image) reply.Fine ∷ asks 1 (ask.Commit (codes "a") (one_page 187)) reply.Crashed ∷ [])

-- the client comes up with nothing, or with the commit
abbrev pub comes_up_without : List Line
comes_up_without = acts 1 act.Up (reply.UpAgain [] false) ∷ []

abbrev pub comes_up_with : ℕ → List Line
comes_up_with commits = acts 1 act.Up (reply.UpAgain (row (codes "a") 2 1 commits ∷ []) false) ∷ []

-- ---- pins

-- a database of six pages, which are three blocks, and a transaction that holds the first block
abbrev pub holds_one : List Line
holds_one =
    creates
    ++ (starts 1 (ask.NewDb (codes "a") 512 (page 1 ∷ page 2 ∷ page 3 ∷ page 4 ∷ page 5 ∷ page 6 ∷ [])) 4 8
    ∷ steps 1 (reply.Working 4) ∷ steps 1 (reply.Working 3) ∷ steps 1 (reply.Working 2) ∷ steps 1 (reply.Working 1) ∷ puts 1 2 ∷ [])
    ++ (asks 1 (ask.Begin (codes "a")) (reply.Txn 1) ∷ asks 1 (ask.Hold 1 1) (reply.Task 1 1) ∷ steps 1 reply.Held ∷ [])

-- it holds the second block too, and its cache is full until it frees the first
abbrev pub holds_two : List Line
holds_two =
    asks 1 (ask.Hold 1 3) (reply.Task 1 1) ∷ steps 1 reply.Held ∷ asks 1 (ask.Hold 1 5) reply.CacheFull ∷ asks 1 (ask.Free 1 1) reply.Fine
    ∷ asks 1 (ask.Hold 1 5) (reply.Task 1 1) ∷ steps_with outcome.Fail 1 None reply.StoreFault ∷ asks 1 (ask.Look 1 3) (reply.Page (page 3))
    ∷ asks 1 (ask.Hold 1 5) (reply.Task 1 1) ∷ steps 1 reply.Held ∷ asks 1 (ask.Look 1 6) (reply.Page (page 6)) ∷ []

abbrev pub is_not_held : List Line
is_not_held = asks 1 (ask.Look 1 1) reply.NotHeld ∷ []

-- ---- a conflict

-- both clients commit over version 2, and client 1 publishes first
abbrev pub commits_twice : List Line
commits_twice = begins (page 170) ++ polls 2 2 ++ (asks 2 (ask.Commit (codes "a") (one_page 204)) reply.Fine ∷ []) ++ uploads 1 187 6 3 ++ (starts 2 (ask.Upload (codes "a")) 8 4 ∷ [])

abbrev pub conflicts : ℕ → ℕ → List Line
conflicts mine theirs = steps 2 (reply.Conflict (id_of mine) (id_of theirs)) ∷ []

-- client 2 gives its commit up, and reads client 1's page after a poll
abbrev pub gives_up : List Line
gives_up =
    asks 2 (ask.Revert (codes "a")) reply.Fine ∷ []
    ++ polls 2 3 ++ (asks 2 (ask.Begin (codes "a")) (reply.Txn 1) ∷ asks 2 (ask.Read 1 1) (reply.Task 1 1) ∷ steps 2 (reply.Page (page 187)) ∷ [])

-- ---- a cleanup

-- client 2's transaction is over version 2, client 1 publishes version 3 in place of it, and so many seconds pass
abbrev pub replaces : ℕ → List Line
replaces seconds =
    begins (page 170) ++ polls 2 2 ++ (asks 2 (ask.Begin (codes "a")) (reply.Txn 1) ∷ []) ++ uploads 1 187 6 3
    ++ (record { event = event.Tick seconds; said = says reply.Fine; choice = draws 0 } ∷ starts 1 ask.Cleanup 8 66 ∷ [])

-- within the retention nothing is there to be cleaned up
abbrev pub finds_nothing : List Line
finds_nothing = steps 1 (reply.Cleaned 0 false) ∷ []

-- after it the old block is deleted, and client 2's read finds it gone
abbrev pub cleans_up : List Line
cleans_up = steps 1 (reply.Working 2) ∷ steps 1 (reply.Working 1) ∷ steps_with outcome.Ok 1 (Some 4) (reply.Cleaned 1 false) ∷ []

abbrev pub reads_again : List Line
reads_again = asks 2 (ask.Read 1 1) (reply.Task 1 1) ∷ []

abbrev pub is_gone : List Line
is_gone = steps 2 reply.Gone ∷ []

-- ---- a crash around a publication

-- client 1 is about to put the manifest of an upload, and its fuse is set
abbrev pub is_about_to_put : ℕ → ℕ → List Line
is_about_to_put calls image =
    begins (page 170)
    ++ (asks 1 (ask.Commit (codes "a") (one_page 187)) reply.Fine ∷ starts 1 (ask.Upload (codes "a")) 6 4 ∷ steps 1 (reply.Working 3) ∷ steps 1 (reply.Working 1)
    ∷ acts 1 (act.Fuse calls image) reply.Fine ∷ [])

-- it crashes with the version published, or before the put
abbrev pub crashes_after_put : List Line
crashes_after_put = steps_with outcome.Ok 1 (Some 3) reply.Crashed ∷ []

abbrev pub crashes_before_put : List Line
crashes_before_put = steps 1 reply.Crashed ∷ []

-- it comes up with its commit and the publication pending, and resolves
abbrev pub comes_up_pending : List Line
comes_up_pending = acts 1 act.Up (reply.UpAgain (row (codes "a") 2 1 1 ∷ []) true) ∷ asks 1 ask.Resolve (reply.Task 1 1) ∷ []

abbrev pub is_voided : List Line
is_voided = steps 1 reply.Voided ∷ []
