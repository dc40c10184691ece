-- The get of a publication, and its requests for blocks, as steps of the machine over a log with what was appended.
use Rattle.std.proofs.Common.{◌≡◌, ◌∙◌, ◌≤◌, ◌==◌, ℕ, zero, suc, Bool, true, false, cond, ◌||◌, List, [], ◌∷◌, ◌++◌, append-nil, length, map, Option, Some, None, option_map, inl, inr, refl, sym, ap, subst, arith}
use Rattle.std.proofs.lemmas.Bool.{eq-eqb, le-ltb, lt-leb}
use Rattle.std.proofs.lemmas.Option.{same_Some}
use Rattle.std.specs.Prelude.{nat_lt}
use Rattle.bcv_base.specs.declared.log.Entry.{Entry}
use Rattle.bcv_base.specs.declared.log.Entry.TheVariants as entry
use Rattle.bcv_base.specs.declared.manifest.Manifest.{Manifest}
use Rattle.bcv_base.specs.declared.object.ObjName.TheVariants as object
use Rattle.bcv_base.specs.declared.outcome.Outcome.{Outcome}
use Rattle.bcv_base.specs.declared.outcome.Outcome.TheVariants as outcome
use Rattle.bcv_base.specs.declared.seen.Seen.{Seen}
use Rattle.bcv_base.specs.History.{BlockDeleted, BlockPut, Item, history_after, history_of, item_of, last_of}
use Rattle.bcv_base.specs.HistoryLaws.{history_after-append, history_of-more}
use Rattle.bcv_base.specs.Image.{Writes}
use Rattle.bcv_base.specs.Version.{Version}
use Rattle.bcv_base.specs.Versions.{versions_of}
use Rattle.bcv_cache.specs.Entry as cache
use Rattle.bcv_clientlaws.specs.FaultEnds.{side_with}
use Rattle.bcv_clientlaws.specs.OwnEntries.{AreOfBlocks}
use Rattle.bcv_clientlaws.proofs.ManifestsRead.{seen_is_seen_in}
use Rattle.bcv_clientstate.specs.CheckLaws.{IsAskedAs, fault_reply}
use Rattle.bcv_clientstate.specs.Fits.{Fits, FitsSeen}
use Rattle.bcv_clientstate.specs.Parts.{OpenTxn, Parts}
use Rattle.bcv_clientstate.specs.SeenClient.{Free, seen_client, seen_txn, seen_up, side_of}
use Rattle.bcv_clientstate.specs.SeenContainer.{container_of}
use Rattle.bcv_clientstate.proofs.CheckLaws.{fault_is_found, none_is_found}
use Rattle.bcv_clientstate.proofs.Growth.{leaves_client}
use Rattle.bcv_dbmap.specs.declared.plan.EditPlan.{EditPlan}
use Rattle.bcv_dbmap.specs.Sound.{IsSoundLog, Sound}
use Rattle.bcv_dbmap.proofs.ManifestLaws.{published_is_up_to}
use Rattle.bcv_machine.specs.ManifestGet.{GetsManifest}
use Rattle.bcv_machine.specs.MiddleStep.{GoesOn, IsGone, after_request}
use Rattle.bcv_machine.specs.State as m
use Rattle.bcv_machine.specs.Step.{StepsPublication}
use Rattle.bcv_model.specs.declared.kept.PendingPub.{PendingPub}
use Rattle.bcv_model.specs.declared.reply.Reply.{Reply}
use Rattle.bcv_model.specs.declared.reply.Reply.TheVariants as reply
use Rattle.bcv_poller.specs.ManifestPoll.{IsSeenIn}
use Rattle.bcv_publication.specs.TaskSides.{seen_task}
use Rattle.bcv_publish.specs.declared.work.Work.{Work}
use Rattle.bcv_publish.specs.declared.work.Work.TheVariants as work
use Rattle.bcv_publish.specs.ManifestGet.{SoundGetEnds}
use Rattle.bcv_publish.specs.ManifestRead.{is_other, is_past, unlike}
use Rattle.bcv_publish.specs.State as publish
use Rattle.bcv_tasks.specs.declared.publish_task.PublishTask.{PublishTask}
use Rattle.bcv_tasks.specs.State.{left_of}
use Rattle.bcv_publisher.specs.PutStep.{StepGoes, version_added}
use Rattle.bcv_publisher.specs.WorkStep.{number_above, seen_before}
use Rattle.bcv_publisher.proofs.WorkFaults.{Ended, IsToEnd, get_fails, get_finds_fault, get_finds_none, request_ends, request_is_gone}

-- ---- blocks add no version

same_versions : (past : List Item) (own : List Entry) → AreOfBlocks own → versions_of (history_after past own) ≡ versions_of past
same_versions past [] are = refl
same_versions past (entry.Put mine object.Manifest bytes etag ∷ es) are = absurd are.0
same_versions past (entry.Put mine (object.Block i) bytes etag ∷ es) are = same_versions (BlockPut i bytes ∷ past) es are.1
same_versions past (entry.Deleted mine object.Manifest at ∷ es) are = absurd are.0
same_versions past (entry.Deleted mine (object.Block i) at ∷ es) are = same_versions (BlockDeleted i at ∷ past) es are.1

-- at least two requests
two_more : (n : ℕ) → 2 ≤ n → (k : ℕ) × (n ≡ suc (suc k))
two_more zero le = absurd (omega (arith, le))
two_more (suc zero) le = absurd (omega (arith, le))
two_more (suc (suc k)) le = (k, refl)

module _ (moment : ℕ) (log own : List Entry) (entries : List cache.Entry) (here : Parts) (f : Free) (q : m.Publication) (sound : IsSoundLog log) (fits : Fits here entries log) (are : AreOfBlocks own) where
  abbrev past : List Item
  past = history_of log

  abbrev later : List Item
  later = history_of (log ++ own)

  abbrev u : m.Up
  u = seen_up past here

  versions : versions_of later ≡ versions_of past
  versions = ap versions_of (history_after-append [] log own) ∙ same_versions past own are

  added : version_added past later ≡ None
  added =
      ap (λ (vs : List Version). cond (length (versions_of past) == length vs) None (Some (length vs))) versions
      ∙ ap (λ (b : Bool). cond b None (Some (length (versions_of past)))) (eq-eqb (length (versions_of past)) (length (versions_of past)) refl)

  txns : map (seen_txn later) here.txns ≡ map (seen_txn past) here.txns
  txns =
      same_Some (map (seen_txn later) here.txns) (map (seen_txn past) here.txns)
      (ap (λ (c : m.Client). option_map (λ (y : m.Up). y.txns) c.up) (leaves_client log own here entries f sound fits))

  client : (next : Parts) (free : Free) → next.txns ≡ here.txns → seen_client later next free ≡ seen_client past next free
  client next free same =
      ap (λ (ts : List m.Txn). record (seen_client past next free) { up = Some (record (seen_up past next) { txns = ts }) })
      (subst (λ (ts : List OpenTxn). map (seen_txn later) ts ≡ map (seen_txn past) ts) (sym same) txns)

  pub get_goes : q.read ≡ None → own ≡ [] → (o : Outcome) (r : Reply) (next : Parts) (free : Free) (rest : Option m.Publication)
      → GetsManifest (side_of moment past here f) u q o r (side_of moment past next free) rest → StepGoes moment past later here next f free q o r rest
  get_goes unread none o r next free rest gets = record {
    second = false;
    steps =
        subst (λ (k : Option ℕ). StepsPublication k q.left (side_of moment past here f) u q o (record { published = version_added past later; reply = r }) false (side_of moment later next free) rest) (sym unread)
        (added, subst (λ (l : List Item). GetsManifest (side_of moment past here f) u q o r (side_of moment l next free) rest) (sym (ap (λ (es : List Entry). history_of (log ++ es)) none ∙ ap history_of (append-nil log))) gets);
  }

  pub middle_goes : (n : ℕ) → q.read ≡ Some n → 2 ≤ q.left → (c : m.Container) → container_of moment later ≡ c → (o : Outcome) (r : Reply) (next : Parts) (free : Free) (rest : Option m.Publication)
      → next.txns ≡ here.txns → GoesOn (side_of moment past here f) u q o r (side_with c past next free) rest → StepGoes moment past later here next f free q o r rest
  middle_goes n read more c is o r next free rest same goes =
      let two = two_more q.left more in
      record {
        second = false;
        steps =
            subst (λ (k : Option ℕ). StepsPublication k q.left (side_of moment past here f) u q o (record { published = version_added past later; reply = r }) false (side_of moment later next free) rest) (sym read)
            (subst (λ (l : ℕ). StepsPublication (Some n) l (side_of moment past here f) u q o (record { published = version_added past later; reply = r }) false (side_of moment later next free) rest) (sym two.1) (
              added,
              subst (λ (x : m.Container). GoesOn (side_of moment past here f) u q o r (record { container = x; client = seen_client later next free }) rest) (sym is)
                  (subst (λ (x : m.Client). GoesOn (side_of moment past here f) u q o r (record { container = c; client = x }) rest) (sym (client next free same)) goes),
            ));
      }

  -- ---- what is said of a request, by what it came to

  module _ (w : Option PendingPub) (o : Outcome) (view : List Writes) (v : PublishTask) where
    -- the task goes on
    abbrev pub On : Type 0
    On = StepGoes moment past later here here f f q o (reply.Working (left_of v)) (Some (seen_task w view v))

    -- it ends by this
    abbrev pub By : Reply → Type 0
    By fault =
        (r : Reply) (next : Parts) (free : Free) → next.txns ≡ here.txns → Ended w here f fault r next free → StepGoes moment past later here next f free q o r None

    abbrev pub Says : Work → Type 0
    Says work.More = On
    Says work.Nothing = By (reply.Cleaned 0 false)
    Says (work.Fault e) = By (fault_reply e)
    Says work.NoContainer = By reply.NoContainer
    Says (work.BadManifest at) = By (reply.BadManifest at)
    Says work.Gone = By reply.Gone
    Says (work.BadBlock len) = By (reply.BadBlock len)
    Says work.NameTaken = By reply.NameTaken
    Says work.StoreFault = By reply.StoreFault
    Says work.NamesFault = Unit {0}
    Says work.ClockFault = Unit {0}
    Says work.NoMemory = Unit {0}

    -- a get of the manifest
    module _ (to_end : IsToEnd log entries here q w) (unread : q.read ≡ None) (none : own ≡ []) (seen : Seen) (plan : EditPlan) (p : publish.State)
        (asked : IsAskedAs (container_of moment past) q.kind plan) (like : (k : Manifest) → last_of past ≡ Some k → unlike p seen k ≡ None) where
      abbrev c : m.Container
      c = container_of moment past

      at_ok : o ≡ outcome.Ok → (r : Reply) (next : Parts) (free : Free) → GetsManifest (side_of moment past here f) u q outcome.Ok r (side_of moment past next free) None
          → StepGoes moment past later here next f free q o r None
      at_ok ok r next free gets =
          get_goes unread none o r next free None (subst (λ (y : Outcome). GetsManifest (side_of moment past here f) u q y r (side_of moment past next free) None) (sym ok) gets)

      pub get_says : (result : Work) (t : publish.State) → (result ≡ work.More → On) → SoundGetEnds o log seen plan p result t → Says result
      get_says work.More t on ends = on refl
      get_says (work.Fault e) t on ends = λ r next free same how.
          at_ok ends.1 r next free
          (get_finds_fault c log entries here f q w to_end e (fault_is_found moment past ends.0.manifest q plan p.writer e sound ends.2 asked ends.5.0) r next free how)
      get_says work.NoContainer t on ends = λ r next free same how.
          at_ok ends.0 r next free (get_finds_none c log entries here f q w to_end (none_is_found moment past q sound ends.1) r next free how)
      get_says (work.BadManifest at) t on ends = absurd (let both : ◌≡◌ {A = Option ℕ} None (Some at) = sym (like ends.0 ends.2) ∙ ends.3 in cc)
      get_says work.StoreFault t on ends = λ r next free same how. get_goes unread none o r next free None (get_fails c log entries here f q w to_end o ends.0 r next free how)
      get_says work.NoMemory t on ends = tt
      get_says work.NamesFault t on ends = tt
      get_says work.ClockFault t on ends = tt
      get_says work.Nothing t on ends = absurd ends.5
      get_says work.Gone t on ends = absurd ends.5
      get_says (work.BadBlock len) t on ends = absurd ends.5
      get_says work.NameTaken t on ends = absurd ends.5

    -- a request for a block
    module _ (to_end : IsToEnd log entries here q w) (n : ℕ) (read : q.read ≡ Some n) (more : 2 ≤ q.left) where
      pub request_fails_by : (o ≡ outcome.Ok → ⊥) → container_of moment later ≡ after_request o q (container_of moment past) → By reply.StoreFault
      request_fails_by not is = λ r next free same how.
          middle_goes n read more (after_request o q (container_of moment past)) is o r next free None same (request_ends (container_of moment past) log entries here f q w to_end o not r next free how)

      pub request_gone_by : o ≡ outcome.Ok → container_of moment later ≡ after_request outcome.Ok q (container_of moment past)
          → IsGone (container_of moment past) q.kind q.left → By reply.Gone
      request_gone_by ok is gone = λ r next free same how.
          middle_goes n read more (after_request outcome.Ok q (container_of moment past)) is o r next free None same
          (subst (λ (y : Outcome). GoesOn (side_of moment past here f) u q y r (side_with (after_request outcome.Ok q (container_of moment past)) past next free) None) (sym ok)
          (request_is_gone (container_of moment past) log entries here f q w to_end gone r next free how))

-- ---- the container after what a request appended

pub same_container : (moment : ℕ) (log own : List Entry) → own ≡ [] → container_of moment (history_of (log ++ own)) ≡ container_of moment (history_of log)
same_container moment log own none = ap (λ (es : List Entry). container_of moment (history_of (log ++ es))) none ∙ ap (λ (es : List Entry). container_of moment (history_of es)) (append-nil log)

pub after_one : (moment : ℕ) (log own : List Entry) (e : Entry) → own ≡ e ∷ [] → container_of moment (history_of (log ++ own)) ≡ container_of moment (item_of e ∷ history_of log)
after_one moment log own e one = ap (λ (es : List Entry). container_of moment (history_of (log ++ es))) one ∙ ap (container_of moment) (history_of-more log e)

-- ---- what was seen of the log does not contradict its last manifest

likeness : (a b x y : Bool) → a ≡ false → b ≡ false → x ≡ false → y ≡ false → ◌≡◌ {A = Option ℕ} (cond (a || b) (Some 8) (cond (x || y) (Some 24) None)) None
likeness false false false false ea eb ec ed = refl
likeness true b x y ea eb ec ed = absurd (let e : true ≡ false = ea in cc)
likeness false true x y ea eb ec ed = absurd (let e : true ≡ false = eb in cc)
likeness false false true y ea eb ec ed = absurd (let e : true ≡ false = ec in cc)
likeness false false false true ea eb ec ed = absurd (let e : true ≡ false = ed in cc)

record IsWithin (seen : Seen) (last : Manifest) : Type 0 where
  number : seen.number ≤ last.number
  block : is_other seen.block last.block ≡ false

within : (past : List Item) (seen : Seen) (last : Manifest) → Sound past → last_of past ≡ Some last → IsSeenIn past seen → IsWithin seen last
within past seen last s is (inl nothing) = record { number = omega (arith, ap (λ (x : Seen). x.number) nothing); block = ap (λ (x : Seen). is_other x.block last.block) nothing }
within past seen last s is (inr was) =
    let up_to = published_is_up_to past was.0 last s is was.1 in
    record { number = omega (arith, was.2, up_to.number); block = subst (λ (b : ℕ). is_other seen.block b ≡ false) up_to.block was.3 }

not_past : (o : Option ℕ) (number : ℕ) → number_above o ≤ number → is_past o number ≡ false
not_past None number le = refl
not_past (Some earlier) number le = lt-leb number earlier (omega (arith, le))

pub never_bad : (past : List Item) (seen : Seen) (p : publish.State) → Sound past → FitsSeen past seen → FitsSeen past (seen_before p) → (k : Manifest) → last_of past ≡ Some k → unlike p seen k ≡ None
never_bad past seen p sound seen_fits read_fits k last =
    let a = within past seen k sound last (seen_is_seen_in past seen sound seen_fits) in
    let b = within past (seen_before p) k sound last (seen_is_seen_in past (seen_before p) sound read_fits) in
    likeness (nat_lt k.number seen.number) (is_past (publish.last_number p.refused) k.number) (is_other seen.block k.block) (is_other p.block k.block) (le-ltb k.number seen.number a.number)
    (not_past (publish.last_number p.refused) k.number b.number) a.block b.block
