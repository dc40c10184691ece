-- The script that is made from a number: its events, in order, as values.
use Rattle.std.specs.Prelude.{ℕ, zero, suc, ◌+◌, ◌*◌, ◌/◌, ◌%◌, ◌^◌, ◌==◌, List, [], ◌∷◌, if◌then◌else◌}
use Rattle.bcv_base.specs.declared.outcome.Outcome.TheVariants as outcome
use Rattle.bcv_base.specs.Image.{Page}
use Rattle.bcv_base.specs.Padded.{padded}
use Rattle.bcv_model.specs.declared.ask.Ask.{Ask}
use Rattle.bcv_model.specs.declared.ask.Ask.TheVariants as ask
use Rattle.bcv_model.specs.declared.event.Act.TheVariants as act
use Rattle.bcv_model.specs.declared.event.Event.{Event}
use Rattle.bcv_model.specs.declared.event.Event.TheVariants as event
use Rattle.bcv_model.specs.declared.spec.WorldSpec.{WorldSpec}
use Rattle.bcv_top.specs.declared.draws.AskKind.{AskKind}
use Rattle.bcv_top.specs.declared.draws.AskKind.TheVariants as kind
use Rattle.bcv_top.specs.declared.draws.LineKind.{LineKind}
use Rattle.bcv_top.specs.declared.draws.LineKind.TheVariants as line

-- ---- draws

-- the number after another one
abbrev pub advanced : ℕ → ℕ
advanced x = (x * 6364136223846793005 + 1442695040888963407) % 2 ^ 64

-- what is read off a number, with the number after it
abbrev pub Draw : Type 0 → Type 0
Draw A = ℕ → A × ℕ

infixl 10 ◌>>=◌
abbrev pub ◌>>=◌ : {A B : Type 0} → Draw A → (A → Draw B) → Draw B
(d >>= f) x = f (d x).0 (d x).1

abbrev pub gives : {A : Type 0} → A → Draw A
gives a x = (a, x)

-- a number below a bound: the bits of the next number from the 34th on
abbrev pub below : ℕ → Draw ℕ
below n x = (advanced x / 2 ^ 33 % n, advanced x)

-- a number from 1 to a bound
abbrev pub up_to : ℕ → Draw ℕ
up_to n = below n >>= λ d. gives (d + 1)

-- one of the names `a`, `b` and `c`
abbrev pub a_name : Draw (List ℕ)
a_name = below 3 >>= λ d. gives ((97 + d) ∷ [])

-- a byte
abbrev pub a_byte : Draw ℕ
a_byte = below 256

-- the page that begins with a byte, and goes on with zeros
abbrev pub page_with : ℕ → Page
page_with byte = padded 512 (byte ∷ [])

-- ---- lines

-- the ask of a line by its kind
abbrev pub asked : AskKind → Draw Ask
asked kind.Poll = gives ask.Poll
asked kind.New =
    a_name >>= λ db. a_byte >>= λ b. a_byte >>= λ c.
    gives (ask.NewDb db 512 (page_with b ∷ page_with c ∷ []))
asked kind.Begin = a_name >>= λ db. gives (ask.Begin db)
asked kind.Read = up_to 4 >>= λ x. up_to 4 >>= λ p. gives (ask.Read x p)
asked kind.Commit =
    a_name >>= λ db. up_to 4 >>= λ size. up_to size >>= λ p. a_byte >>= λ b.
    gives (ask.Commit db (record { size = size; pages = (p, page_with b) ∷ [] }))
asked kind.Upload = a_name >>= λ db. gives (ask.Upload db)
asked kind.Copy = a_name >>= λ from. a_name >>= λ to. gives (ask.Copy from to)
asked kind.Drop = a_name >>= λ db. gives (ask.Remove db)
asked kind.Cleanup = gives ask.Cleanup
asked kind.Resolve = gives ask.Resolve
asked kind.Revert = a_name >>= λ db. gives (ask.Revert db)
asked kind.End = up_to 4 >>= λ x. gives (ask.End x)
asked kind.Hold = up_to 4 >>= λ x. up_to 4 >>= λ p. gives (ask.Hold x p)
asked kind.Step = up_to 3 >>= λ t. gives (ask.Step t)

-- a line's kind by a number below 32
abbrev pub ask_kind : ℕ → AskKind
ask_kind k =
    if k == 0 then kind.Poll else if k == 1 then kind.New else if k == 2 then kind.Begin
    else if k == 3 then kind.Read else if k == 4 then kind.Commit else if k == 5 then kind.Upload
    else if k == 6 then kind.Copy else if k == 7 then kind.Drop else if k == 8 then kind.Cleanup
    else if k == 9 then kind.Resolve else if k == 11 then kind.Revert else if k == 12 then kind.End
    else if k == 13 then kind.Hold else kind.Step

abbrev pub line_kind : ℕ → LineKind
line_kind k =
    if k == 10 then line.Tick else if k == 31 then line.FailedStep else line.Asks (ask_kind k)

-- the event of a client's line by its kind
abbrev pub lined : ℕ → LineKind → Draw Event
lined client line.Tick = below 40 >>= λ n. gives (event.Tick n)
lined client line.FailedStep = gives (event.Of client (act.Ask (ask.Step 1) outcome.Fail))
lined client (line.Asks k) = asked k >>= λ q. gives (event.Of client (act.Ask q outcome.Ok))

-- the event of a line: a client is drawn, then the line's kind, then what is in it
abbrev pub an_event : Draw Event
an_event = up_to 4 >>= λ client. below 32 >>= λ k. lined client (line_kind k)

-- so many events
unfoldable pub events_from : ℕ → ℕ → List Event
events_from zero x = []
events_from (suc n) x = (an_event x).0 ∷ events_from n (an_event x).1

-- ---- the script

-- what its first line fixes
abbrev pub generated_spec : WorldSpec
generated_spec = record { clients = 4; block = 1024; page = 512; retention = 50; slots = 4 }

-- the first client makes the container, and 1,998 lines are drawn
abbrev pub generated : ℕ → List Event
generated n =
    event.Of 1 (act.Ask (ask.Create 1024 50) outcome.Ok)
    ∷ event.Of 1 (act.Ask (ask.Step 1) outcome.Ok) ∷ events_from 1998 n
