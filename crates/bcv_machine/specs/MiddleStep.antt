-- A step of a publication between the manifest's get and its put: it puts, gets or deletes a block.
use Rattle.std.specs.Prelude.{◌≡◌, ℕ, ◌+◌, ◌%◌, ◌⊎◌, max, Option, Some, None}
use Rattle.bcv_base.specs.declared.outcome.Outcome.{Outcome}
use Rattle.bcv_base.specs.declared.outcome.Outcome.TheVariants as outcome
use Rattle.bcv_model.specs.declared.reply.Reply.{Reply}
use Rattle.bcv_model.specs.declared.reply.Reply.TheVariants as reply
use Rattle.bcv_machine.specs.Gone.{MayBeGone}
use Rattle.bcv_machine.specs.Noting.{FaultEnds}
use Rattle.bcv_machine.specs.State.{Container, Kind, Creating, Making, Uploading, Copying, Removing, Cleaning, CleanupBegun, Publication, Up, Side, with_up}

-- the next request of an upload is for a block of which nothing was done yet
abbrev pub IsBlockBegun : ℕ → Type 0
IsBlockBegun left = left % 2 ≡ 1

-- how many requests are left after one of these: an upload's put of a block may take its get with it
abbrev pub Lowers : Kind → ℕ → ℕ → Type 0
Lowers (Creating block retention) left next = ⊥
Lowers (Making d page_size pages) left next = next + 1 ≡ left
Lowers (Uploading d base commits) left next = (next + 1 ≡ left) ⊎ (IsBlockBegun left × (next + 2 ≡ left))
Lowers (Copying a b) left next = ⊥
Lowers (Removing a) left next = ⊥
Lowers Cleaning left next = next + 1 ≡ left

-- the old bytes of a block, which an upload gets first, are gone
abbrev pub IsGone : Container → Kind → ℕ → Type 0
IsGone c (Creating block retention) left = ⊥
IsGone c (Making d page_size pages) left = ⊥
IsGone c (Uploading d base commits) left = IsBlockBegun left × MayBeGone c d base
IsGone c (Copying a b) left = ⊥
IsGone c (Removing a) left = ⊥
IsGone c Cleaning left = ⊥

-- what ends the publication here: the store failed, or a block is gone
abbrev pub IsMiddleFault : Container → Publication → Outcome → Reply → Type 0
IsMiddleFault c p outcome.Ok reply.Gone = IsGone c p.kind p.left
IsMiddleFault c p outcome.Ok _ = ⊥
IsMiddleFault c p outcome.Fail r = r ≡ reply.StoreFault
IsMiddleFault c p outcome.Lost r = r ≡ reply.StoreFault

-- the greatest moment of a deletion, after one at this moment
abbrev pub swept_at : ℕ → Option ℕ → Option ℕ
swept_at moment None = Some moment
swept_at moment (Some earlier) = Some (max earlier moment)

abbrev pub swept_by : Option CleanupBegun → Container → Container
swept_by None c = c
swept_by (Some b) c = record c { swept = swept_at b.moment c.swept }

-- the container after a request that had its effect: a cleanup deletes a block by the moment at which it began
abbrev pub deleted_by : Publication → Kind → Container → Container
deleted_by p (Creating block retention) c = c
deleted_by p (Making d page_size pages) c = c
deleted_by p (Uploading d base commits) c = c
deleted_by p (Copying a b) c = c
deleted_by p (Removing a) c = c
deleted_by p Cleaning c = swept_by p.begun c

abbrev pub after_request : Outcome → Publication → Container → Container
after_request outcome.Ok p c = deleted_by p p.kind c
after_request outcome.Fail p c = c
after_request outcome.Lost p c = deleted_by p p.kind c

abbrev pub requested : Side → Publication → Outcome → Side
requested s p o = record s { container = after_request o p s.container }

-- the request is done and the publication goes on, or it ends
abbrev pub GoesOn : Side → Up → Publication → Outcome → Reply → Side → Option Publication → Type 0
GoesOn s u p outcome.Ok (reply.Working left) t rest = Lowers p.kind p.left left × (t ≡ with_up (requested s p outcome.Ok) u) × (rest ≡ Some (record p { left = left }))
GoesOn s u p o r t rest = ((fault : Reply) × IsMiddleFault s.container p o fault × FaultEnds p.intended (requested s p o) u fault r t) × (rest ≡ None)
