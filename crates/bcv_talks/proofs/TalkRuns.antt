-- A talk with a client that stands over the log is a run of the machine.
use Rattle.std.proofs.Common.{◌≡◌, ◌≢◌, ◌∙◌, ◌⊎◌, ◌||◌, inl, inr, ℕ, Bool, true, false, List, [], ◌∷◌, ◌++◌, Option, Some, None, IfSome, unwrap_or, refl, sym, ap, subst}
use Rattle.bcv_base.specs.declared.id.Id16.{Id16}
use Rattle.bcv_base.specs.declared.log.Entry.{Entry}
use Rattle.bcv_base.specs.declared.outcome.Outcome.{Outcome}
use Rattle.bcv_base.specs.declared.outcome.Outcome.TheVariants as outcome
use Rattle.bcv_base.specs.Faults.{Rose}
use Rattle.bcv_base.specs.History.{history_of}
use Rattle.bcv_clientstate.specs.SeenClient.{Free, seen_client}
use Rattle.bcv_clientstate.proofs.Growth.{leaves_client}
use Rattle.bcv_client.specs.AskCalls.{AsksAs}
use Rattle.bcv_client.specs.ClientParts.{entries_of, parts_of}
use Rattle.bcv_client.specs.Events.{IsArmed, StandsOver, client_up}
use Rattle.bcv_client.specs.Steps.{EventOver, RequestOver, said_over}
use Rattle.bcv_client.specs.Talk.{Exchange, Exchanged, Point, Talks}
use Rattle.bcv_client.specs.declared.client.Client.{Client}
use Rattle.bcv_dbmap.specs.Honest.{GrewHonestly}
use Rattle.bcv_disk.specs.DiskShown.{DiskShown, DiskTold}
use Rattle.bcv_machine.specs.State as m
use Rattle.bcv_machine.specs.Step.{Asks, Choice}
use Rattle.bcv_model.specs.declared.reply.Reply.{Reply}
use Rattle.bcv_model.specs.declared.reply.Reply.TheVariants as reply
use Rattle.bcv_publisher.specs.WorkStep.{IsEvent}
use Rattle.bcv_store.specs.Plans.{next_of}
use Rattle.bcv_store.specs.StoreShown.{StoreTold}
use Rattle.bcv_talks.specs.Runs.{AskTaken, DrawsNew, RunState, RunStep, is_disk_fault, set_for, side_at, side_over}
use Rattle.bcv_talks.specs.TalkRuns.{NamesAreNew, OthersAreHonest, PointStands, TalkRun, point_seen}

-- ---- moments and failures

-- the moment that was read, else that of before
read_moment : (at : Option ℕ) (moment : ℕ) → IfSome at (λ x. x ≡ unwrap_or at moment)
read_moment None moment = tt
read_moment (Some x) moment = refl

-- a failure is set where one is answered
abbrev armed : Reply → Free → Free
armed r f = record f { failing = is_disk_fault r || f.failing }

is_armed : (r : Reply) (f : Free) → IsArmed r (armed r f)
is_armed reply.DiskFault f = refl
is_armed r f = tt

module _ {D : Type 0} {g : _} (told : DiskTold) (shown : D → DiskShown) (store : StoreTold) where
  -- what is set on the disk does not count for where a client stands
  armed_over : (c : Client D g) (log : List Entry) (f : Free) (r : Reply) → StandsOver shown c log f → StandsOver shown c log (armed r f)
  armed_over c log f r s = record {
    sound = s.sound;
    fits = s.fits;
    saw = s.saw;
    journaled = record { settled = s.journaled.settled; still = s.journaled.still; images = s.journaled.images; within = s.journaled.within };
    slots = s.slots;
  }

  -- ---- one call

  module _ (mine used : List Id16) (a b : Point D g) (e : Exchange) (call : Exchanged told shown store a e b) (moment : ℕ) (f : Free)
      (tells : store.tells) (disk_tells : told.tells) (stands : PointStands shown mine a f)
      (honest : GrewHonestly store.alone mine a.store.log b.store.log) (fresh : DrawsNew mine used a.store.log call.asks.calls.ids) where
    abbrev pub later : ℕ
    later = unwrap_or call.asks.calls.at moment

    abbrev Taken : Type 0
    Taken =
        RequestOver (AsksAs call.asks.name e.ask) (IsEvent a.names b.names a.clock b.clock e.reply) shown store mine a.store b.store a.client b.client later
        (armed e.reply f) e.reply

    pub taken : Taken
    taken =
        call.asks.calls.over tells disk_tells later mine (armed e.reply f) (armed_over a.client a.store.log f e.reply stands.over) stands.names fresh.own fresh.unused
        (read_moment call.asks.calls.at moment) honest (is_armed e.reply f)

    -- the client stands after the call
    pub stands_on : PointStands shown mine b taken.free
    stands_on = record { over = taken.stands; names = taken.names; flight = taken.flight stands.flight }

    abbrev before : RunState
    before = point_seen shown a moment f

    abbrev after : RunState
    after = point_seen shown b later taken.free

    abbrev grown : List Entry
    grown = a.store.log ++ taken.growth.others

    -- what others append leaves the machine's client
    same_client : seen_client (history_of grown) (parts_of a.client) f ≡ before.client
    same_client = leaves_client a.store.log taken.growth.others (parts_of a.client) (entries_of a.client) f stands.over.sound stands.over.fits

    module _ (event : EventOver (AsksAs call.asks.name e.ask) store a.store b.store taken.growth.others a.client b.client later (armed e.reply f) taken.free e.reply) where
      taken_by : (o : Outcome) → (o ≢ outcome.Ok → Rose a.store.faults b.store.faults) → (store.plans → (o ≡ next_of a.store.plan) ⊎ (b.store ≡ a.store))
          → (event.made ≡ true → o ≡ event.request) → AskTaken store before taken.growth.others call.asks.calls.ids e after
      taken_by o cause planned same =
          let goes = event.goes o same in
          let choice : Choice = record { name = call.asks.name; second = goes.0 } in
          record {
            up = client_up grown a.client;
            is_up = sym (ap (λ (c : m.Client). c.up) same_client);
            request = o;
            cause = cause;
            planned = planned;
            choice = choice;
            named = call.asks.named;
            taken =
                subst
                (λ (c : m.Client). Asks (side_over later grown (set_for e.reply c)) (client_up grown a.client) e.ask o (said_over grown b.store.log e.reply) choice (side_at after))
                same_client goes.1;
          }

      ask_taken : AskTaken store before taken.growth.others call.asks.calls.ids e after
      ask_taken = by event.made refl
        where
          by : (made : Bool) → event.made ≡ made → AskTaken store before taken.growth.others call.asks.calls.ids e after
          by true made = taken_by event.request (event.cause made) (λ plans. inl (event.planned plans made)) (λ h. refl)
          by false unmade =
              taken_by outcome.Ok (λ other. absurd (other refl)) (λ plans. inr (event.unmade unmade)) (λ made. absurd (let both : true ≡ false = sym made ∙ unmade in cc))

    pub run_step : RunStep store mine used before e after
    run_step = record {
      growth = taken.growth;
      ids = call.asks.calls.ids;
      drawn = call.asks.calls.drawn;
      few = call.asks.calls.few;
      fresh = fresh;
      at = call.asks.calls.at;
      reads = call.asks.calls.reads;
      moment = refl;
      fails = call.disk.rose;
      causes = call.causes;
      event = λ is. ask_taken (taken.event is);
    }

  -- ---- the talk

  pub talk_run : (a b : Point D g) (es : List Exchange) (talk : Talks told shown store a es b) (mine used : List Id16) (moment : ℕ) (f : Free) → store.tells
      → told.tells → PointStands shown mine a f → OthersAreHonest told shown store mine a es b talk → NamesAreNew told shown store mine used a es b talk
      → TalkRun told shown store mine used a es b talk moment f
  unfolding run_step
  talk_run a b [] talk mine used moment f tells disk_tells stands honest names = record {
    later = moment;
    free = f;
    run = ap (λ (x : Point D g). point_seen shown x moment f) talk;
    follows = tt;
    stands = subst (λ (x : Point D g). PointStands shown mine x f) (sym talk) stands;
  }
  talk_run a b (e ∷ es) talk mine used moment f tells disk_tells stands honest names =
      let now : ℕ = later mine used a talk.0 e talk.1 moment f tells disk_tells stands honest.0 names.0 in
      let free : Free = (taken mine used a talk.0 e talk.1 moment f tells disk_tells stands honest.0 names.0).free in
      let now_stands : PointStands shown mine talk.0 free = stands_on mine used a talk.0 e talk.1 moment f tells disk_tells stands honest.0 names.0 in
      let rest : TalkRun told shown store mine (used ++ talk.1.asks.calls.ids) talk.0 es b talk.2 now free =
      talk_run talk.0 b es talk.2 mine (used ++ talk.1.asks.calls.ids) now free tells disk_tells now_stands honest.1 names.1 in
      record {
        later = rest.later;
        free = rest.free;
        run = (point_seen shown talk.0 now free, run_step mine used a talk.0 e talk.1 moment f tells disk_tells stands honest.0 names.0, rest.run);
        follows = (refl, record { free = free; same = refl; stands = now_stands }, rest.follows);
        stands = rest.stands;
      }
