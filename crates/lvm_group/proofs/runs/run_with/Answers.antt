use Rattle.std.proofs.Common.{leb, rules}
use Rattle.std.proofs.lemmas.List.Sorted.{IsPartitionPoint-from_clause, IsPartitionedBy-leb}
use Rattle.lvm_group.proofs.Found.{starts_rise, not_first, last_has, last_starts}
use Rattle.lvm_group.proofs.runs.run_with.Goals as goal

pub overflow_sub-result : goal.overflow_sub-result
overflow_sub-result c =
    let parted = IsPartitionedBy-leb (λ run. run.start) _ c.args.extent (starts_rise c.args.runs.now 0 c.requires.order) in
    let point = IsPartitionPoint-from_clause (λ run. leb run.start c.args.extent) _ _ c.partition_point-after.ensures.partitioned parted (λ a r q k. search rules) in
    not_first c.args.runs.now c.args.extent _ c.requires.order c.requires.within point

pub returns-clause-found : goal.returns-clause-found
returns-clause-found c =
    let parted = IsPartitionedBy-leb (λ run. run.start) _ c.args.extent (starts_rise c.args.runs.now 0 c.requires.order) in
    let point = IsPartitionPoint-from_clause (λ run. leb run.start c.args.extent) _ _ c.partition_point-after.ensures.partitioned parted (λ a r q k. search rules) in
    last_has c.args.runs.now c.args.extent c.partition_point-after.result _ c.requires.order c.requires.within
    (not_first c.args.runs.now c.args.extent _ c.requires.order c.requires.within point) c.partition_point-after.ensures.bound point

pub returns-clause-starts : goal.returns-clause-starts
returns-clause-starts c =
    let parted = IsPartitionedBy-leb (λ run. run.start) _ c.args.extent (starts_rise c.args.runs.now 0 c.requires.order) in
    let point = IsPartitionPoint-from_clause (λ run. leb run.start c.args.extent) _ _ c.partition_point-after.ensures.partitioned parted (λ a r q k. search rules) in
    last_starts c.args.runs.now c.args.extent c.partition_point-after.result _
    (not_first c.args.runs.now c.args.extent _ c.requires.order c.requires.within point) c.partition_point-after.ensures.bound point
