use Rattle.std.proofs.Common.{ltb, ltb-true, ltb-false, arith, rules}
use Rattle.std.proofs.lemmas.List.Sorted.{IsPartitionPoint-from_clause, IsPartitionedBy-ltb}
use Rattle.llog_store.specs.declared.place.Place.{Place}
use Rattle.llog_store.proofs.walking.count_before.Goals as goal

pub returns-clause-before : goal.returns-clause-before
returns-clause-before c =
    let parted = IsPartitionedBy-ltb (λ (p : Place). p.index) _ c.args.index c.requires in
    let point = IsPartitionPoint-from_clause (λ (p : Place). ltb p.index c.args.index) _ _ c.partition_point.ensures.partitioned parted (λ a r q k. search rules) in
    λ k d h. ltb-true _ _ (point.0 k d (omega arith) h)

pub returns-clause-from : goal.returns-clause-from
returns-clause-from c =
    let parted = IsPartitionedBy-ltb (λ (p : Place). p.index) _ c.args.index c.requires in
    let point = IsPartitionPoint-from_clause (λ (p : Place). ltb p.index c.args.index) _ _ c.partition_point.ensures.partitioned parted (λ a r q k. search rules) in
    λ k d low high. ltb-false _ _ (point.1 k d low high)
