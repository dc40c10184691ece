-- A request before a put is the step of its publication, once what it came to is noted.
use Rattle.std.proofs.Common.{◌≡◌, subst}
use Rattle.bcv_base.specs.Faults.{Rose}
use Rattle.bcv_cleanup.specs.Released.{RuleAnswers}
use Rattle.bcv_disk.specs.DiskShown.{DiskShown, DiskTold}
use Rattle.bcv_ledger.specs.declared.ledger.Ledger.{Ledger}
use Rattle.bcv_publish.specs.declared.work.Work.{Work}
use Rattle.bcv_publish.specs.declared.work.Work.TheVariants as work
use Rattle.bcv_store.specs.StoreShown.{StoreTold}
use Rattle.bcv_tasks.specs.TaskWork.{ClockCause, NamesCause, WorkLeaves}
use Rattle.bcv_publisher.specs.WorkStep.{KeepsIntent, RequestIsStep, drawn_ids}
use Rattle.bcv_publisher.proofs.WorkDrawn.{draws_of, reads_of}
use Rattle.bcv_publisher.proofs.WorkMachine.{given_by, worked}
use Rattle.bcv_publisher.proofs.WorkOutcomes.{keeps_intent}
use Rattle.bcv_publisher.proofs.WorkReplies.{replied}

module _ {D : Type 0} {g : _} (told : DiskTold) (shown : D → DiskShown) (answers : RuleAnswers) (store : StoreTold) (old new : Ledger D g) where
  pub request_is_step : RequestIsStep told shown answers store old new
  request_is_step before after names later_names clock later_clock seen view c later_c t made r u is_open waits request ends =
      let works = request.step.works in
      let kind = request.step.kind in
      let leaves = request.step.leaves in
      let named : made ≡ work.NamesFault → Rose names.faults later_names.faults = λ e. (subst (λ (w : Work). NamesCause names.faults later_names.faults w) e works.names_failed).1 in
      let timed : made ≡ work.ClockFault → Rose clock.faults later_clock.faults = λ e. (subst (λ (w : Work). ClockCause clock.faults later_clock.faults w) e works.clock_failed).1 in
      let keeps : made ≡ work.More → KeepsIntent t u = λ e. keeps_intent answers seen view c t u (subst (λ (w : Work). WorkLeaves answers seen view c t w u) e leaves) in
      let said =
      replied told shown old new before after names later_names clock later_clock t u is_open waits leaves.same_id made r ends request.running keeps works.failed named timed in
      let draws = draws_of store before after names later_names clock later_clock seen view c t made u kind in
      record {
        made = made;
        leaves = leaves;
        kind = kind;
        works = works;
        drawn = draws.adds;
        few = draws.few;
        reads = reads_of store before after names later_names clock later_clock seen view c t made u kind;
        ends = ends;
        is_reply = said.is_reply;
        task = said.task;
        ledger = said.ledger;
        views = said.views;
        cache = request.cache;
        causes = said.causes;
        shut = said.shut;
        disk = said.disk;
        later = works.later;
        any_moment = said.any_moment;
        machine = λ store_tells tells p n mine may honest.
            let ids = drawn_ids store before after names later_names clock later_clock seen view c t made u kind in
            worked store mine before after seen view c old p n t ids may told shown names later_names clock later_clock later_c new made u
            (given_by store mine before after names later_names clock later_clock seen view c old p n store_tells honest answers t made u kind may leaves request.not_ready request.running)
            r ends said.is_reply tells is_open leaves.same_id request.cache works.failed named timed;
      }
