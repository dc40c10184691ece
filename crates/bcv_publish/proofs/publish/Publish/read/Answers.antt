use Rattle.std.proofs.Common.{ℕ, List, subst}
use Rattle.bcv_publish.specs.ManifestRead.{ReadAnswered}
use Rattle.bcv_publish.proofs.ReadLaws.{read_reads}
use Rattle.bcv_publish.proofs.publish.Publish.read.Goals as goal

pub returns-clause-reads : goal.returns-clause-reads
returns-clause-reads g c =
    read_reads g.S.Store.told (g.S.Store.shown c.args.store.now) (g.S.Store.shown c.get-got.new.self) c.get-got.new.into.items c.get-got.result c.args.seen.now c.args.self.now c.read_answer.result c.get-got.ensures.gets
    (subst (λ (l : List ℕ). ReadAnswered c.get-got.result l c.args.seen.now c.args.self.now c.read_answer.result) c.deref.ensures.value c.read_answer.ensures.answered)
