use Rattle.std.proofs.Common.{◌^◌, map, refl, arith}
use Rattle.sketch_rules.specs.Answers.{IsAscending}
use Rattle.trace_roots.proofs.Ascending.{le_by_bits, gt_by_bits, rises_on, rises_no_more, rises_to_the_end}
use Rattle.trace_roots.proofs.check.is_ascending.Goals as goal

pub returns-then-le : goal.returns-then-le
returns-then-le g c = (λ wrong. cc wrong, λ is_ascending. absurd (never is_ascending))
  where
    never : ¬ IsAscending 1 (2 ^ g.F.Field.BITS) (map g.F.Field.bits_of c.args.items.now)
    never =
        rises_no_more g.F.Field.bits_of (IsAscending 1 (2 ^ g.F.Field.BITS) (map g.F.Field.bits_of c.args.items.now)) (g.F.Field.bits_of c.loop-item.last) (2 ^ g.F.Field.BITS)
        c.args.items.now c.loop-item.item-index c.item-item.result (omega arith) c.item-item.is
        (le_by_bits g.F.Field.bits_of g.F.PartialOrd.partial_cmp g.F.Ord.cmp g.met.F.Ord.matches_partial_cmp g.met.F.Field.ordered c.le.result c.item-item.result c.loop-item.last c.le.ensures c.if-le.true)
        c.loop-item.invariant

pub loop-item-preserved : goal.loop-item-preserved
loop-item-preserved g c =
    rises_on g.F.Field.bits_of (IsAscending 1 (2 ^ g.F.Field.BITS) (map g.F.Field.bits_of c.args.items.now)) (g.F.Field.bits_of c.loop-item.last) (2 ^ g.F.Field.BITS)
    c.args.items.now c.loop-item.item-index c.item-item.result (omega arith) c.item-item.is
    (gt_by_bits g.F.Field.bits_of g.F.PartialOrd.partial_cmp g.F.Ord.cmp g.met.F.Ord.matches_partial_cmp g.met.F.Field.ordered c.le.result c.item-item.result c.loop-item.last c.le.ensures c.if-le.false)
    (g.met.F.Field.numbered.below c.item-item.result) c.loop-item.invariant

pub returns : goal.returns
returns g c = (
  λ held. rises_to_the_end g.F.Field.bits_of (IsAscending 1 (2 ^ g.F.Field.BITS) (map g.F.Field.bits_of c.args.items.now)) (g.F.Field.bits_of c.loop-item.last) (2 ^ g.F.Field.BITS)
      c.args.items.now c.loop-item.item-index (omega arith) c.loop-item.invariant,
  λ is_ascending. refl,
)
