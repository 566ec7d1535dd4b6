use Rattle.std.proofs.Common.{◌≡◌}
use Rattle.field_rules.specs.Fields.{conjugate, trace_of}
use Rattle.field_core.proofs.field.Field.trace.Given as goal

abbrev pub invariant-loop : goal.invariant-loop
invariant-loop g l = record {
  power_is : l.power ≡ conjugate g.Self.Field.ops l.counter l.fn.self;
  sum_is : l.sum ≡ trace_of g.Self.Field.ops l.counter l.fn.self;
}
