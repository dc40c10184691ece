use Rattle.std.proofs.Common.{◌∙◌, ap, refl}
use Rattle.bcv_proto.specs.declared.answer.Answer.TheVariants as answer
use Rattle.bcv_client.specs.declared.byte_ranges.ReadAt.TheVariants as read_at
use Rattle.bcv_daemon.proofs.Responding.{reads_over}
use Rattle.bcv_daemon.proofs.responses.read.Goals as goal

pub returns-in-Full-clause-reads : goal.returns-in-Full-clause-reads
returns-in-Full-clause-reads g c =
    reads_over g.D.Disk.told g.D.Disk.shown g.S.Store.told _ _ _ _ _ _ c.args.txn c.args.off c.args.len _ read_at.Full _ c.in-Full.ensures.reads (ap (λ l. answer.Bytes l) c.of.ensures)

pub returns-in-Short-clause-reads : goal.returns-in-Short-clause-reads
returns-in-Short-clause-reads g c =
    reads_over g.D.Disk.told g.D.Disk.shown g.S.Store.told _ _ _ _ _ _ c.args.txn c.args.off c.args.len _ (read_at.Short c.in-Short.there) _ c.in-Short.ensures.reads
    (ap (λ l. answer.Bytes l) (c.of-in-Short.ensures ∙ c.cut.ensures))

pub returns-in-Refused-clause-reads : goal.returns-in-Refused-clause-reads
returns-in-Refused-clause-reads g c =
    reads_over g.D.Disk.told g.D.Disk.shown g.S.Store.told _ _ _ _ _ _ c.args.txn c.args.off c.args.len _ (read_at.Refused c.in-Refused.reply) _ c.in-Refused.ensures.reads refl
