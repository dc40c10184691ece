-- A client refuses to start a task where the machine does.
use Rattle.std.proofs.Common.{◌≡◌, ◌∙◌, ℕ, Bool, true, false, List, [], ◌∷◌, ◌++◌, Option, Some, None, is_none, is_some, refl, sym, ap}
use Rattle.std.specs.Prelude.{nat_le}
use Rattle.std.specs.Option.{option_map}
use Rattle.bcv_base.specs.History.{Item}
use Rattle.bcv_base.specs.Image.{or_else}
use Rattle.bcv_base.specs.Keyed.{keyed}
use Rattle.bcv_machine.specs.Refusals as refusals
use Rattle.bcv_machine.specs.Refusals.{first_reason}
use Rattle.bcv_machine.specs.Starting.{upload_over}
use Rattle.bcv_machine.specs.State as m
use Rattle.bcv_machine.specs.State.{local_name}
use Rattle.bcv_model.specs.declared.kept.Local.{Local}
use Rattle.bcv_model.specs.declared.reply.Reply.{Reply}
use Rattle.bcv_model.specs.declared.reply.Reply.TheVariants as reply
use Rattle.bcv_model.specs.Notes.{kept_name}
use Rattle.bcv_clientstate.specs.PartRefusals.{has_local, runs_publication}
use Rattle.bcv_clientstate.specs.Parts.{Parts}
use Rattle.bcv_clientstate.specs.SeenClient.{seen_up}
use Rattle.bcv_clientstate.specs.SeenKept.{seen_kept, seen_local}
use Rattle.bcv_clientstate.specs.StartRefusals.{PollIsRefused, ResolveIsRefused, StartIsRefused, UploadIsOver, asked_over, kind_reasons, runs_all}
use Rattle.bcv_clientstate.proofs.KeyedMaps.{keyed_map}
use Rattle.bcv_clientstate.proofs.PartRefusals.{busy_is_busy, map_len, none_map, some_map, unknown}

-- ---- reasons in a row

-- the first of some reasons, or else the first of these
reasons_after : (xs ys : List (Bool × Reply)) → first_reason (xs ++ ys) ≡ or_else (first_reason xs) (first_reason ys)
reasons_after [] ys = refl
reasons_after ((true, r) ∷ xs) ys = refl
reasons_after ((false, r) ∷ xs) ys = reasons_after xs ys

then_kind_is : (k : m.KeptState) (u : m.Up) (kind : m.Kind) (o : Option Reply) → refusals.then_kind k u kind o ≡ or_else o (refusals.then_tasks u (refusals.kind_refusal k u kind))
then_kind_is k u kind None = refl
then_kind_is k u kind (Some r) = refl

then_tasks_is : (u : m.Up) (o : Option Reply) → refusals.then_tasks u o ≡ or_else o (first_reason ((refusals.has_all_tasks u, reply.TooMany) ∷ []))
then_tasks_is u None = refl
then_tasks_is u (Some r) = refl

-- ---- what is asked

module _ (past : List Item) (p : Parts) where
  abbrev k : m.KeptState
  k = seen_kept p.kept

  abbrev u : m.Up
  u = seen_up past p

  all_run : refusals.has_all_tasks u ≡ runs_all p
  all_run = ap (nat_le 16) (map_len _ p.tasks)

  some_pending : is_some k.pending ≡ is_some p.kept.pending
  some_pending = some_map _ p.kept.pending

  none_pending : is_none k.pending ≡ is_none p.kept.pending
  none_pending = none_map _ p.kept.pending

  local_here : (db : List ℕ) → refusals.has_commits k db ≡ has_local p db
  local_here db = ap is_some (keyed_map kept_name local_name seen_local (λ l. refl) db p.kept.locals) ∙ some_map seen_local (keyed kept_name db p.kept.locals)

  kind_is : (kind : m.Kind) → refusals.kind_refusal k u kind ≡ first_reason (kind_reasons p kind)
  kind_is (m.Creating block retention) = refl
  kind_is (m.Making d page_size pages) = refl
  kind_is (m.Uploading d base commits) = ap (λ (b : Bool). first_reason ((b, reply.NoDatabase) ∷ (refusals.has_none commits, reply.Nothing) ∷ [])) (unknown past p d)
  kind_is (m.Copying a b) = refl
  kind_is (m.Removing a) = ap (λ (b : Bool). first_reason ((b, reply.HasLocal) ∷ [])) (local_here a)
  kind_is m.Cleaning = refl

  abbrev always : List (Bool × Reply)
  always = (p.closed, reply.Closed) ∷ (is_some p.kept.pending, reply.Pending) ∷ (runs_publication p, reply.Busy) ∷ []

  always_is : first_reason ((u.closed, reply.Closed) ∷ (is_some k.pending, reply.Pending) ∷ (refusals.is_busy u, reply.Busy) ∷ []) ≡ first_reason always
  always_is =
      ap (λ (b : Bool). first_reason ((p.closed, reply.Closed) ∷ (b, reply.Pending) ∷ (refusals.is_busy u, reply.Busy) ∷ [])) some_pending
      ∙ ap (λ (b : Bool). first_reason ((p.closed, reply.Closed) ∷ (is_some p.kept.pending, reply.Pending) ∷ (b, reply.Busy) ∷ [])) (busy_is_busy past p)

  tasks_are : (kind : m.Kind) → refusals.then_tasks u (refusals.kind_refusal k u kind) ≡ first_reason (kind_reasons p kind ++ (runs_all p, reply.TooMany) ∷ [])
  tasks_are kind =
      then_tasks_is u (refusals.kind_refusal k u kind)
      ∙ ap (λ (o : Option Reply). or_else o (first_reason ((refusals.has_all_tasks u, reply.TooMany) ∷ []))) (kind_is kind)
      ∙ ap (λ (b : Bool). or_else (first_reason (kind_reasons p kind)) (first_reason ((b, reply.TooMany) ∷ []))) all_run
      ∙ sym (reasons_after (kind_reasons p kind) ((runs_all p, reply.TooMany) ∷ []))

  start_is : (kind : m.Kind) → refusals.start_refusal k u kind ≡ first_reason (always ++ (kind_reasons p kind ++ (runs_all p, reply.TooMany) ∷ []))
  start_is kind =
      then_kind_is k u kind (first_reason ((u.closed, reply.Closed) ∷ (is_some k.pending, reply.Pending) ∷ (refusals.is_busy u, reply.Busy) ∷ []))
      ∙ ap (λ (o : Option Reply). or_else o (refusals.then_tasks u (refusals.kind_refusal k u kind))) always_is
      ∙ ap (or_else (first_reason always)) (tasks_are kind)
      ∙ sym (reasons_after always (kind_reasons p kind ++ (runs_all p, reply.TooMany) ∷ []))

  resolve_is : refusals.resolve_refusal k u ≡ first_reason ((p.closed, reply.Closed) ∷ (runs_publication p, reply.Busy) ∷ (is_none p.kept.pending, reply.Nothing) ∷ (runs_all p, reply.TooMany) ∷ [])
  resolve_is =
      ap (λ (b : Bool). first_reason ((p.closed, reply.Closed) ∷ (b, reply.Busy) ∷ (is_none k.pending, reply.Nothing) ∷ (refusals.has_all_tasks u, reply.TooMany) ∷ [])) (busy_is_busy past p)
      ∙ ap (λ (b : Bool). first_reason ((p.closed, reply.Closed) ∷ (runs_publication p, reply.Busy) ∷ (b, reply.Nothing) ∷ (refusals.has_all_tasks u, reply.TooMany) ∷ [])) none_pending
      ∙ ap (λ (b : Bool). first_reason ((p.closed, reply.Closed) ∷ (runs_publication p, reply.Busy) ∷ (is_none p.kept.pending, reply.Nothing) ∷ (b, reply.TooMany) ∷ [])) all_run

pub start_is_refused : StartIsRefused
start_is_refused past p kind = start_is past p kind

pub poll_is_refused : PollIsRefused
poll_is_refused past p = ap (λ (b : Bool). first_reason ((b, reply.TooMany) ∷ [])) (all_run past p)

pub resolve_is_refused : ResolveIsRefused
resolve_is_refused past p = resolve_is past p

over_is : (db : List ℕ) (o : Option Local) → upload_over db (option_map seen_local o) ≡ asked_over db o
over_is db None = refl
over_is db (Some l) = refl

pub upload_is_over : UploadIsOver
upload_is_over p db = ap (upload_over db) (keyed_map kept_name local_name seen_local (λ l. refl) db p.kept.locals) ∙ over_is db (keyed kept_name db p.kept.locals)
