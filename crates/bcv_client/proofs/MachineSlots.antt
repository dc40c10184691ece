-- A commit and a revert of the machine leave a client its slots.
use Rattle.std.proofs.Common.{◌≡◌, ℕ, List, Option, Some, None, ap}
use Rattle.bcv_base.specs.Image.{Writes}
use Rattle.bcv_base.specs.Keyed.{keyed}
use Rattle.bcv_machine.specs.LocalWriting.{Commits, CommitsOver, NotesLocally, Reverts, RevertsFrom, with_known, without_known}
use Rattle.bcv_machine.specs.Noting.{Notes}
use Rattle.bcv_machine.specs.Refusals.{UnlessRefused, commit_refusal, revert_refusal}
use Rattle.bcv_machine.specs.State as m
use Rattle.bcv_machine.specs.State.{local_name, view_of, with_up}
use Rattle.bcv_model.specs.declared.reply.Reply.{Reply}
use Rattle.bcv_model.specs.declared.reply.Reply.TheVariants as reply

abbrev Same : m.Side → m.Side → Type 0
Same s t = t.client.slots ≡ s.client.slots

notes_slots : (s : m.Side) (u : m.Up) (x : m.Note) (r : Reply) (d : m.Client) → Notes s u x (Some r) d → d.slots ≡ s.client.slots
notes_slots s u x reply.JournalFull d n = ap (λ (c : m.Client). c.slots) n.1
notes_slots s u x reply.DiskFault d n = ap (λ (c : m.Client). c.slots) n.1
notes_slots s u x reply.Crashed d n = ap (λ (c : m.Client). c.slots) n.1
notes_slots s u x _ d n = absurd n

local_slots : (s : m.Side) (u after : m.Up) (x : m.Note) (r : Reply) (t : m.Side) → NotesLocally s u after x r t → Same s t
local_slots s u after x reply.Fine t n = ap (λ (y : m.Side). y.client.slots) n
local_slots s u after x r t n = notes_slots s u x r t.client n.1

unless_slots : (s : m.Side) (u : m.Up) (why : Option Reply) (r : Reply) (t : m.Side) (Does : Type 0) → (Does → Same s t) → UnlessRefused why (with_up s u) r t Does → Same s t
unless_slots s u None r t Does does goes = does goes
unless_slots s u (Some reason) r t Does does goes = ap (λ (y : m.Side). y.client.slots) goes.1

commits_over : (s : m.Side) (u : m.Up) (db : List ℕ) (w : Writes) (v : Option m.View) (r : Reply) (t : m.Side) → CommitsOver s u db w v r t → Same s t
commits_over s u db w None r t goes = absurd goes
commits_over s u db w (Some v) r t goes = local_slots s u (without_known u db) (m.Committing db v.base w) r t goes

pub commits_keep_slots : (s : m.Side) (u : m.Up) (db : List ℕ) (w : Writes) (r : Reply) (t : m.Side) → Commits s u db w r t → t.client.slots ≡ s.client.slots
commits_keep_slots s u db w r t goes =
    unless_slots s u (commit_refusal s u db w) r t (CommitsOver s u db w (view_of s.client.kept u db) r t) (λ does. commits_over s u db w (view_of s.client.kept u db) r t does) goes

reverts_over : (s : m.Side) (u : m.Up) (d : Option m.LocalDb) (r : Reply) (t : m.Side) → RevertsFrom s u d r t → Same s t
reverts_over s u None r t goes = absurd goes
reverts_over s u (Some d) r t goes = local_slots s u (with_known u d.name d.base) (m.Reverting d.name) r t goes

pub reverts_keep_slots : (s : m.Side) (u : m.Up) (db : List ℕ) (r : Reply) (t : m.Side) → Reverts s u db r t → t.client.slots ≡ s.client.slots
reverts_keep_slots s u db r t goes =
    unless_slots s u (revert_refusal s.client.kept u db) r t (RevertsFrom s u (keyed local_name db s.client.kept.locals) r t)
    (λ does. reverts_over s u (keyed local_name db s.client.kept.locals) r t does) goes
