use Rattle.std.proofs.Common.{sym, subst, arith}
use Rattle.node_rules.specs.Invariant.{IsConfig}
use Rattle.simulation.proofs.NewPairs.{is_config}
use Rattle.simulation.proofs.beginning.new_node.Goals as goal

pub new-requires : goal.new-requires
new-requires c = subst IsConfig (sym c.script_config.ensures) (is_config c.args.role c.args.salt (omega (arith, c.ranges.salt.fits)))
