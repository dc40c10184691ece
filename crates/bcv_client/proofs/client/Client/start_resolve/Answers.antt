use Rattle.std.proofs.Common.{sym, ◌∙◌}
use Rattle.bcv_client.specs.ClientParts.{parts_of}
use Rattle.bcv_client.specs.declared.job.Job.TheVariants as job
use Rattle.bcv_client.proofs.TasksStart.{one_last, resolve_quiet, resolve_refused, resolve_started, resolve_waits, resolves}
use Rattle.bcv_client.proofs.client.Client.start_resolve.Goals as goal

pub returns-in-Some-clause-starts : goal.returns-in-Some-clause-starts
returns-in-Some-clause-starts g c = resolve_refused c.args.self.now c.in-Some.reason (sym c.resolve_refusal.ensures ∙ c.in-Some.is)

pub returns-in-Some-clause-steps : goal.returns-in-Some-clause-steps
returns-in-Some-clause-steps g c =
    resolves g.D.Disk.shown c.args.self.now c.args.self.now c.in-Some.reason (resolve_refused c.args.self.now c.in-Some.reason (sym c.resolve_refusal.ensures ∙ c.in-Some.is))

pub start-requires-clause-job : goal.start-requires-clause-job
start-requires-clause-job g c = resolve_waits (parts_of c.args.self.now) (sym c.resolve_refusal.ensures ∙ c.in_default.is)

pub start-requires-clause-single : goal.start-requires-clause-single
start-requires-clause-single g c = one_last c.args.self.now job.Resolve (resolve_quiet (parts_of c.args.self.now) (sym c.resolve_refusal.ensures ∙ c.in_default.is))

pub returns-clause-starts : goal.returns-clause-starts
returns-clause-starts g c =
    resolve_started c.args.self.now c.start.new.self c.start.result (sym c.resolve_refusal.ensures ∙ c.in_default.is) c.start.ensures.starts

pub returns-clause-steps : goal.returns-clause-steps
returns-clause-steps g c =
    resolves g.D.Disk.shown c.args.self.now c.start.new.self c.start.result
    (resolve_started c.args.self.now c.start.new.self c.start.result (sym c.resolve_refusal.ensures ∙ c.in_default.is) c.start.ensures.starts)
