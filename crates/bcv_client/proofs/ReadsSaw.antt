-- What publishing tasks read before refused puts stays in a log.
use Rattle.std.proofs.Common.{◌≡◌, Bool, List, [], ◌∷◌, ◌++◌, filter, None, sym, subst, arith}
use Rattle.std.specs.List.{AllByRecursion}
use Rattle.bcv_base.specs.declared.id.Id16.{Id16}
use Rattle.bcv_base.specs.declared.log.Entry.{Entry}
use Rattle.bcv_base.specs.History.{Item, history_of}
use Rattle.bcv_clientlaws.proofs.Appended.{seen_later}
use Rattle.bcv_clientstate.specs.Fits.{FitsSeen}
use Rattle.bcv_dbmap.specs.RequestGrowth.{RequestGrowth}
use Rattle.bcv_publisher.specs.WorkStep.{seen_before}
use Rattle.bcv_slots.specs.declared.Slot.{Slot}
use Rattle.bcv_tasks.specs.State.{publish_of}
use Rattle.bcv_client.specs.Events.{SawItsReads}
use Rattle.bcv_client.specs.declared.job.Job.{Job}
use Rattle.bcv_client.specs.declared.job.Job.TheVariants as job
use Rattle.bcv_client.proofs.TasksPut.{all_filtered, all_last}

-- all tasks of a list
abbrev pub SawAll : List Item → List (Slot Job) → Type 0
SawAll past ss = AllByRecursion (λ (s : Slot Job). SawItsReads past s.item) ss

-- fewer tasks
pub saw_fewer : (past : List Item) (test : Slot Job → Bool) (ss : List (Slot Job)) → SawAll past ss → SawAll past (filter test ss)
saw_fewer past test ss all = all_filtered (λ (s : Slot Job). SawItsReads past s.item) test ss all

-- one more task
pub saw_more : (past : List Item) (ss : List (Slot Job)) (s : Slot Job) → SawAll past ss → SawItsReads past s.item → SawAll past (ss ++ s ∷ [])
saw_more past ss s all last = all_last (λ (x : Slot Job). SawItsReads past x.item) ss s all last

-- a publication that has read nothing
pub new_saw : (past : List Item) → FitsSeen past (record { block = None; number = 0 })
new_saw past = record { block = tt; number = omega arith }

-- the same tasks
pub saw_same : (past : List Item) (ss ts : List (Slot Job)) → ts ≡ ss → SawAll past ss → SawAll past ts
saw_same past ss ts same all = subst (SawAll past) (sym same) all

-- whatever is appended
pub job_saw_later : (log more : List Entry) (j : Job) → SawItsReads (history_of log) j → SawItsReads (history_of (log ++ more)) j
job_saw_later log more (job.Fetch access txn page) saw = tt
job_saw_later log more job.Poll saw = tt
job_saw_later log more (job.Publish set taken t) saw = seen_later log more (seen_before (publish_of t)) saw
job_saw_later log more job.Resolve saw = tt

pub saw_later : (log more : List Entry) (ss : List (Slot Job)) → SawAll (history_of log) ss → SawAll (history_of (log ++ more)) ss
saw_later log more [] all = tt
saw_later log more (s ∷ ss) all = (job_saw_later log more s.item all.0, saw_later log more ss all.1)

module _ (alone : Type 0) (mine : List Id16) (before after : List Entry) (growth : RequestGrowth alone mine before after) where
  -- one request over the log
  pub saw_grown : (ss : List (Slot Job)) → SawAll (history_of before) ss → SawAll (history_of after) ss
  saw_grown ss all =
      subst (λ (log : List Entry). SawAll (history_of log) ss) (sym growth.grown)
      (saw_later (before ++ growth.others) growth.own ss (saw_later before growth.others ss all))

  pub job_saw_grown : (j : Job) → SawItsReads (history_of before) j → SawItsReads (history_of after) j
  job_saw_grown j saw =
      subst (λ (log : List Entry). SawItsReads (history_of log) j) (sym growth.grown)
      (job_saw_later (before ++ growth.others) growth.own j (job_saw_later before growth.others j saw))
