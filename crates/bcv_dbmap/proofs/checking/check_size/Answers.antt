use Rattle.std.proofs.Common.{◌≡◌, ◌+◌, ◌*◌, ◌≤◌, Bool, cond, List, length, Option, Some, None, sym, ap, ap₂, subst, ◌∙◌, arith}
use Rattle.std.specs.Prelude.{◌&&◌, is_none, nat_le, MatchResult}
use Rattle.std.proofs.lemmas.Bool.{lt-ltb, le-ltb}
use Rattle.bcv_base.specs.declared.manifest.Writer.{Writer}
use Rattle.bcv_base.specs.Keyed.{keyed}
use Rattle.bcv_base.specs.ManifestRules.{writer_id}
use Rattle.bcv_dbmap.specs.declared.fault.EditFault.{EditFault}
use Rattle.bcv_dbmap.specs.declared.fault.EditFault.TheVariants as fault
use Rattle.bcv_dbmap.specs.Applied.{applied}
use Rattle.bcv_dbmap.specs.Checked.{dead_length, needed_total, size_fault, zero_id}
use Rattle.bcv_dbmap.specs.Counted.{too_large}
use Rattle.bcv_dbmap.specs.Merged.{leaving}
use Rattle.bcv_dbmap.proofs.Counts.{none_from_ok, not_larger, few_dead_after, few_leaving}
use Rattle.bcv_dbmap.proofs.checking.check_size.Goals as goal

pub returns-then-line_count : goal.returns-then-line_count
returns-then-line_count c =
    let m = c.args.m.now in
    let p = c.args.plan.now in
    let full = sym (c.line_count.ensures.full ∙ ap (λ (ws : List Writer). is_none (keyed writer_id c.args.writer.now.0 ws) && nat_le 4096 (length ws)) c.items.ensures) ∙ lt-ltb 4096 c.line_count.result c.if-line_count.true in
    let bytes = 64 + 40 * length (applied m p zero_id c.args.writer.now 0).writers + needed_total m.block (applied m p zero_id c.args.writer.now 0).dbs in
    ap (λ (b : Bool). cond b (Some fault.WritersFull) (too_large bytes (dead_length m p))) full

pub check_lengths-requires-2-clause-dead : goal.check_lengths-requires-2-clause-dead
check_lengths-requires-2-clause-dead c =
    let m = c.args.m.now in
    let p = c.args.plan.now in
    let is = c.dead_count.ensures in
    let few : dead_length m p ≤ length m.dead + length (leaving p m.dbs) = few_dead_after m p c.requires.rules c.requires.passes in
    let most : length (leaving p m.dbs) ≤ 65536 = few_leaving p m.block m.dbs c.requires.rules.each_db in
    omega arith

pub returns-then-is_ok : goal.returns-then-is_ok
returns-then-is_ok c =
    let m = c.args.m.now in
    let p = c.args.plan.now in
    let full = sym (c.line_count.ensures.full ∙ ap (λ (ws : List Writer). is_none (keyed writer_id c.args.writer.now.0 ws) && nat_le 4096 (length ws)) c.items.ensures) ∙ le-ltb 4096 c.line_count.result c.if-line_count.false in
    let bytes = 64 + 40 * length (applied m p zero_id c.args.writer.now 0).writers + needed_total m.block (applied m p zero_id c.args.writer.now 0).dbs in
    let most : too_large c.bytes_beside-bytes.result c.dead_bound.result ≡ None =
    none_from_ok c.check_lengths.result (too_large c.bytes_beside-bytes.result c.dead_bound.result) c.check_lengths.ensures (sym c.is_ok.ensures.value ∙ c.if-is_ok.true) in
    ap (λ (b : Bool). cond b (Some fault.WritersFull) (too_large bytes (dead_length m p))) full
    ∙ not_larger bytes (length m.dead + length (leaving p m.dbs)) (dead_length m p) (few_dead_after m p c.requires.rules c.requires.passes)
    (sym (ap₂ too_large c.bytes_beside-bytes.ensures.value c.dead_bound.ensures.value) ∙ most)

pub returns : goal.returns
returns c =
    let m = c.args.m.now in
    let p = c.args.plan.now in
    let full = sym (c.line_count.ensures.full ∙ ap (λ (ws : List Writer). is_none (keyed writer_id c.args.writer.now.0 ws) && nat_le 4096 (length ws)) c.items.ensures) ∙ le-ltb 4096 c.line_count.result c.if-line_count.false in
    let bytes = 64 + 40 * length (applied m p zero_id c.args.writer.now 0).writers + needed_total m.block (applied m p zero_id c.args.writer.now 0).dbs in
    let whole : too_large c.bytes_beside-bytes.result c.dead_count.result ≡ size_fault m p c.args.writer.now =
    ap₂ too_large c.bytes_beside-bytes.ensures.value c.dead_count.ensures ∙ sym (ap (λ (b : Bool). cond b (Some fault.WritersFull) (too_large bytes (dead_length m p))) full) in
    subst (λ (o : Option EditFault). MatchResult c.check_lengths-2.result (λ _. o ≡ None) (λ f. o ≡ Some f)) whole c.check_lengths-2.ensures
