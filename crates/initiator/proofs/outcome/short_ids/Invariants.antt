use Rattle.std.proofs.Common.{◌≡◌, map, take}
use Rattle.initiator.proofs.outcome.short_ids.Given as goal

-- the elements so far
abbrev pub invariant-loop-element : goal.invariant-loop-element
invariant-loop-element g l = l.shorts.items ≡ map g.F.Field.bits_of (take l.element-index l.elements)
