use Rattle.std.proofs.Common.{◌≡◌, drop, bit_xor}
use Rattle.field_rules.specs.Elements.{remainder}
use Rattle.field_rules.specs.Fields.{dot_of}
use Rattle.clmul_lanes.specs.Lane32.{ops, bits_of}
use Rattle.clmul_lanes.proofs.lane32.Lane32Field.dot.Given as goal

abbrev pub invariant-loop-i : goal.invariant-loop-i
invariant-loop-i l = bit_xor (remainder 32 32 l.sum) (bits_of (dot_of ops (drop l.i l.x) (drop l.i l.y))) ≡ bits_of (dot_of ops l.x l.y)
