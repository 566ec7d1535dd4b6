use Rattle.std.proofs.Common.{◌↔◌, ◌+◌, ◌^◌, map, drop}
use Rattle.sketch_rules.specs.Answers.{IsAscending}
use Rattle.trace_roots.proofs.check.is_ascending.Given as goal

abbrev pub invariant-loop-item : goal.invariant-loop-item
invariant-loop-item g l =
    IsAscending 1 (2 ^ g.F.Field.BITS) (map g.F.Field.bits_of l.items)
    ↔ IsAscending (g.F.Field.bits_of l.last + 1) (2 ^ g.F.Field.BITS) (map g.F.Field.bits_of (drop l.item-index l.items))
