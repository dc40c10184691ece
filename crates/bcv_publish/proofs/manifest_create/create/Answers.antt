use Rattle.std.proofs.Common.{refl, sym, subst, arith}
use Rattle.bcv_store.specs.declared.store.Put.TheVariants as answer
use Rattle.bcv_store.specs.declared.store.Cond.TheVariants as cond
use Rattle.bcv_publish.specs.declared.created.Created.TheVariants as created
use Rattle.bcv_dbmap.specs.Applied.{first_manifest}
use Rattle.bcv_publish.specs.ManifestCreate.{CreateLeaves}
use Rattle.bcv_publish.proofs.AppendLaws.{none_appends}
use Rattle.bcv_publish.proofs.CreateLaws.{create_creates, first_rules, answered_leaves}
use Rattle.bcv_publish.proofs.manifest_create.create.Goals as goal

pub append_manifest-answer-requires-clause-rules : goal.append_manifest-answer-requires-clause-rules
append_manifest-answer-requires-clause-rules g c =
    (first_rules c.args.block c.args.retention c.args.id c.args.writer c.args.moment c.in-Ok.manifest c.requires (omega arith) (omega arith) c.bytes-id.ensures.id c.bytes-writer.ensures.id c.in-Ok.ensures).0

pub append_manifest-answer-requires-clause-limits : goal.append_manifest-answer-requires-clause-limits
append_manifest-answer-requires-clause-limits g c =
    (first_rules c.args.block c.args.retention c.args.id c.args.writer c.args.moment c.in-Ok.manifest c.requires (omega arith) (omega arith) c.bytes-id.ensures.id c.bytes-writer.ensures.id c.in-Ok.ensures).1

pub append_manifest-answer-requires-clause-short : goal.append_manifest-answer-requires-clause-short
append_manifest-answer-requires-clause-short g c =
    (first_rules c.args.block c.args.retention c.args.id c.args.writer c.args.moment c.in-Ok.manifest c.requires (omega arith) (omega arith) c.bytes-id.ensures.id c.bytes-writer.ensures.id c.in-Ok.ensures).2

pub returns-in-Err-clause-creates : goal.returns-in-Err-clause-creates
returns-in-Err-clause-creates g c =
    create_creates g.S.Store.told (g.S.Store.shown c.args.store.now) (g.S.Store.shown c.args.store.now) c.args.block c.args.retention c.args.id c.args.writer c.args.moment _ answer.NoMemory created.NoMemory
    c.requires (omega arith) (omega arith) c.bytes-id.ensures.id c.bytes-writer.ensures.id (λ tells. g.met.S.Store.rising c.args.store.now tells) refl
    (none_appends g.S.Store.told (g.S.Store.shown c.args.store.now) cond.Absent (first_manifest c.args.block c.args.retention c.args.id c.args.writer c.args.moment)) refl

pub returns-clause-creates : goal.returns-clause-creates
returns-clause-creates g c =
    create_creates g.S.Store.told (g.S.Store.shown c.args.store.now) (g.S.Store.shown c.append_manifest-answer.new.store) c.args.block c.args.retention c.args.id c.args.writer c.args.moment c.in-Ok.manifest
    c.append_manifest-answer.result c.created.result c.requires (omega arith) (omega arith) c.bytes-id.ensures.id c.bytes-writer.ensures.id (λ tells. g.met.S.Store.rising c.append_manifest-answer.new.store tells)
    c.in-Ok.ensures c.append_manifest-answer.ensures.appends c.created.ensures

pub returns-clause-leaves : goal.returns-clause-leaves
returns-clause-leaves g c = subst (λ m. CreateLeaves m c.created.result) c.in-Ok.ensures (answered_leaves c.in-Ok.manifest c.append_manifest-answer.result c.created.result c.created.ensures)
