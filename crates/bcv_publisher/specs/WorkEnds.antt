-- What a request before a put came to, as a reply, and what is noted where the task ends by it.
use Rattle.std.specs.Prelude.{◌≡◌, false, Option, Some, None}
use Rattle.bcv_clientstate.specs.CheckLaws.{fault_reply}
use Rattle.bcv_disk.specs.DiskShown.{DiskShown, DiskTold}
use Rattle.bcv_ledger.specs.declared.ledger.Ledger.{Ledger}
use Rattle.bcv_model.specs.declared.kept.PendingPub.{PendingPub}
use Rattle.bcv_model.specs.declared.reply.Reply.{Reply}
use Rattle.bcv_model.specs.declared.reply.Reply.TheVariants as reply
use Rattle.bcv_publish.specs.declared.work.Work.{Work}
use Rattle.bcv_publish.specs.declared.work.Work.TheVariants as work
use Rattle.bcv_tasks.specs.declared.publish_task.PublishTask.{PublishTask}
use Rattle.bcv_tasks.specs.State.{left_of}
use Rattle.bcv_publisher.specs.declared.work_end.Ended.{Ended}
use Rattle.bcv_publisher.specs.declared.work_end.Ended.TheVariants as end
use Rattle.bcv_publisher.specs.Settles.{Voids}

-- how a task ends by the answer of its request
abbrev pub end_of : Work → Ended
end_of work.More = end.GoesOn
end_of work.Nothing = end.By (reply.Cleaned 0 false)
end_of (work.Fault fault) = end.By (fault_reply fault)
end_of work.NoContainer = end.By reply.NoContainer
end_of (work.BadManifest at) = end.By (reply.BadManifest at)
end_of work.Gone = end.By reply.Gone
end_of (work.BadBlock len) = end.By (reply.BadBlock len)
end_of work.NameTaken = end.By reply.NameTaken
end_of work.StoreFault = end.By reply.StoreFault
end_of work.NamesFault = end.By reply.NamesFault
end_of work.ClockFault = end.By reply.ClockFault
end_of work.NoMemory = end.OutOfMemory

-- where the publication is pending void is noted, and else nothing
abbrev pub EndsBy : {D : Type 0} {g : _} → DiskTold → (D → DiskShown) → Ledger D g → Ledger D g
    → PublishTask → Option PendingPub → Reply → Reply → Type 0
EndsBy told shown old new t None r result = (new ≡ old) × (result ≡ r)
EndsBy told shown old new t (Some x) r result = Voids told shown old new t r result

-- a task that goes on, or that ends; where memory ran out nothing is noted
abbrev pub EndsWith : {D : Type 0} {g : _} → DiskTold → (D → DiskShown) → Ledger D g → Ledger D g
    → PublishTask → Ended → Reply → Type 0
EndsWith told shown old new t end.GoesOn result = (new ≡ old) × (result ≡ reply.Working (left_of t))
EndsWith told shown old new t end.OutOfMemory result = (new ≡ old) × (result ≡ reply.NoMemory)
EndsWith told shown old new t (end.By r) result =
    EndsBy told shown old new t old.databases.kept.pending r result

-- what becomes of a task whose request came to this
abbrev pub EndsWork : {D : Type 0} {g : _} → DiskTold → (D → DiskShown) → Ledger D g → Ledger D g
    → PublishTask → Work → Reply → Type 0
EndsWork told shown old new t result r = EndsWith told shown old new t (end_of result) r
