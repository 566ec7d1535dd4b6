use Rattle.std.proofs.Common.{◌≡◌, ◌-◌, ◌≤◌}
use Rattle.field_rules.specs.Fields.{conjugate}
use Rattle.field_laws.proofs.Inverses.{norm_of}
use Rattle.field_core.proofs.field.Field.inv.Given as goal

abbrev pub invariant-loop : goal.invariant-loop
invariant-loop g l = record {
  begun : 1 ≤ l.counter;
  within : l.counter ≤ g.Self.Field.BITS;
  power_is : l.power ≡ conjugate g.Self.Field.ops (l.counter - 1) l.fn.self;
  product_is : l.product ≡ norm_of g.Self.Field.ops (l.counter - 1) (g.Self.Field.ops.times l.fn.self l.fn.self);
}
