-- When a client refuses to start a task, by what it has in memory; and that this is when the machine does.
use Rattle.std.specs.Prelude.{◌≡◌, ℕ, Bool, List, [], ◌∷◌, ◌++◌, length, map, Option, Some, None, is_none, is_some, nat_le}
use Rattle.bcv_base.specs.History.{Item}
use Rattle.bcv_base.specs.Keyed.{keyed}
use Rattle.bcv_machine.specs.Refusals as refusals
use Rattle.bcv_machine.specs.Refusals.{first_reason}
use Rattle.bcv_machine.specs.Starting.{upload_of}
use Rattle.bcv_machine.specs.State as m
use Rattle.bcv_model.specs.declared.kept.Local.{Local}
use Rattle.bcv_model.specs.declared.reply.Reply.{Reply}
use Rattle.bcv_model.specs.declared.reply.Reply.TheVariants as reply
use Rattle.bcv_model.specs.Commits.{writes_of}
use Rattle.bcv_model.specs.Notes.{kept_name}
use Rattle.bcv_clientstate.specs.PartRefusals.{has_local, part_view, runs_publication}
use Rattle.bcv_clientstate.specs.Parts.{Parts}
use Rattle.bcv_clientstate.specs.SeenClient.{seen_up}
use Rattle.bcv_clientstate.specs.SeenKept.{seen_kept}

-- ---- reasons, in the order in which they are tested

-- 16 tasks run
abbrev pub runs_all : Parts → Bool
runs_all p = nat_le 16 (length p.tasks)

-- what speaks against a publication of this kind alone
abbrev pub kind_reasons : Parts → m.Kind → List (Bool × Reply)
kind_reasons p (m.Creating block retention) = []
kind_reasons p (m.Making d page_size pages) = []
kind_reasons p (m.Uploading d base commits) = (is_none (part_view p d), reply.NoDatabase) ∷ (refusals.has_none commits, reply.Nothing) ∷ []
kind_reasons p (m.Copying a b) = []
kind_reasons p (m.Removing a) = (has_local p a, reply.HasLocal) ∷ []
kind_reasons p m.Cleaning = []

abbrev pub start_reason : Parts → m.Kind → Option Reply
start_reason p kind =
    first_reason
    (((p.closed, reply.Closed) ∷ (is_some p.kept.pending, reply.Pending) ∷ (runs_publication p, reply.Busy) ∷ []) ++ (kind_reasons p kind ++ (runs_all p, reply.TooMany) ∷ []))

abbrev pub poll_reason : Parts → Option Reply
poll_reason p = first_reason ((runs_all p, reply.TooMany) ∷ [])

abbrev pub resolve_reason : Parts → Option Reply
resolve_reason p =
    first_reason ((p.closed, reply.Closed) ∷ (runs_publication p, reply.Busy) ∷ (is_none p.kept.pending, reply.Nothing) ∷ (runs_all p, reply.TooMany) ∷ [])

-- ---- that they are the machine's

abbrev pub StartIsRefused : Type 0
StartIsRefused = (past : List Item) (p : Parts) (kind : m.Kind) → refusals.start_refusal (seen_kept p.kept) (seen_up past p) kind ≡ start_reason p kind

abbrev pub PollIsRefused : Type 0
PollIsRefused = (past : List Item) (p : Parts) → refusals.poll_refusal (seen_up past p) ≡ poll_reason p

abbrev pub ResolveIsRefused : Type 0
ResolveIsRefused = (past : List Item) (p : Parts) → refusals.resolve_refusal (seen_kept p.kept) (seen_up past p) ≡ resolve_reason p

-- what an upload is asked over: the base and the commits that the database has now
abbrev pub asked_over : List ℕ → Option Local → m.Kind
asked_over db None = m.Uploading db 0 []
asked_over db (Some l) = m.Uploading db l.number (map writes_of l.commits)

abbrev pub UploadIsOver : Type 0
UploadIsOver = (p : Parts) (db : List ℕ) → upload_of (seen_kept p.kept) db ≡ asked_over db (keyed kept_name db p.kept.locals)
