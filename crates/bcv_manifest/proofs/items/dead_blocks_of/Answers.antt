use Rattle.std.proofs.Common.{None, ap, ◌∙◌, sym}
use Rattle.bcv_base.specs.Ids.{has_id}
use Rattle.bcv_base.specs.ManifestRules.{lists}
use Rattle.bcv_manifest.proofs.Searched.{same_dead}
use Rattle.bcv_manifest.proofs.items.dead_blocks_of.Goals as goal

pub returns : goal.returns
returns c =
    let same = same_dead (lists c.args.dbs.now) (λ i. has_id i c.deref.result.now) (λ i. sym (ap (has_id i) c.deref.ensures.value ∙ c.in_ok-listed.ensures.same i)) c.args.count None c.args.bytes.now in
    rw same c.dead_list_of.ensures
