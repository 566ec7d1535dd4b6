use Rattle.field_rules.specs.Fields.{conjugate}
use Rattle.clmul_lanes.proofs.lane32.Lane32Field.square.Goals as goal

pub returns : goal.returns
unfolding conjugate
returns c = c.power_2.ensures
