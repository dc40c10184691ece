use Rattle.std.proofs.Common.{ℕ, nat_le, rules}
use Rattle.std.proofs.lemmas.List.Sorted.{IsPartitionPoint-from_clause}
use Rattle.bcv_pages.proofs.Writings.{rising-parts, parted-front, parted-back}
use Rattle.bcv_pages.proofs.page_index.count_upto.Goals as goal

pub returns-clause-front : goal.returns-clause-front
returns-clause-front c up =
    let parted = IsPartitionPoint-from_clause (λ (n : ℕ). nat_le n c.args.upto) c.args.numbers.now c.partition_point.result c.partition_point.ensures.partitioned (rising-parts c.args.upto c.args.numbers.now up) (λ a r f called. search rules) in
    parted-front c.args.upto c.args.numbers.now c.partition_point.result c.partition_point.ensures.bound parted

pub returns-clause-back : goal.returns-clause-back
returns-clause-back c up =
    let parted = IsPartitionPoint-from_clause (λ (n : ℕ). nat_le n c.args.upto) c.args.numbers.now c.partition_point.result c.partition_point.ensures.partitioned (rising-parts c.args.upto c.args.numbers.now up) (λ a r f called. search rules) in
    parted-back c.args.upto c.args.numbers.now c.partition_point.result c.partition_point.ensures.bound parted
