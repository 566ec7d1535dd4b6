use Rattle.std.proofs.Common.{◌≡◌, true, false, arith, rules}
use Rattle.std.specs.Prelude.{nat_lt}
use Rattle.std.specs.List.Sorted.{IsPartitionPoint}
use Rattle.std.proofs.lemmas.List.Sorted.{IsPartitionPoint-from_clause, IsPartitionedBy-ltb}
use Rattle.sketch_text.proofs.Marks.{index_found, index_missed}
use Rattle.sketch_text.proofs.repeats.index_of.Goals as goal
use Rattle.sketch_text.proofs.repeats.index_of.Goals.{else-index-sorted-via-then-index-sorted+else-sorted-index, else-index-sorted-via-else-index-sorted}

pub returns-then-sorted-index : goal.returns-then-sorted-index
returns-then-sorted-index c =
    let sorted = c.args.sorted.now in
    let number = c.args.number in
    let index = c.partition_point-index.result in
    let parted : IsPartitionPoint (λ y. nat_lt y number ≡ true) (λ y. nat_lt y number ≡ false) sorted index =
    IsPartitionPoint-from_clause (λ y. nat_lt y number) sorted index c.partition_point-index.ensures.partitioned (IsPartitionedBy-ltb (λ x. x) sorted number c.requires) (λ a r q k. search rules)
    in
    index_found sorted number index c.requires parted c.if-index-sorted.true c.if-sorted-index.true

pub returns-else-index-sorted : goal.returns-else-index-sorted
returns-else-index-sorted c =
    let sorted = c.args.sorted.now in
    let number = c.args.number in
    let index = c.partition_point-index.result in
    let parted : IsPartitionPoint (λ y. nat_lt y number ≡ true) (λ y. nat_lt y number ≡ false) sorted index =
    IsPartitionPoint-from_clause (λ y. nat_lt y number) sorted index c.partition_point-index.ensures.partitioned (IsPartitionedBy-ltb (λ x. x) sorted number c.requires) (λ a r q k. search rules)
    in
    index_missed sorted number index c.requires parted (elim c.else-index-sorted.branch [
      | else-index-sorted-via-then-index-sorted+else-sorted-index w ↦ λ within. w.if-sorted-index.false
      | else-index-sorted-via-else-index-sorted w ↦ λ within. absurd (omega (arith, w.if-index-sorted.false))
    ])
