use Rattle.std.proofs.Common.{[], ap, ◌∙◌}
use Rattle.node_rules.specs.declared.config.Role.TheVariants as role
use Rattle.pair_rules.specs.World.{World, no_effect}
use Rattle.protocol_text_rules.specs.Pairs.{script_config}
use Rattle.simulation.specs.Views.{view_of}
use Rattle.simulation.proofs.NewPairs.{are_new, are_new_of, opening-script_world}
use Rattle.simulation.proofs.beginning.new_duet.Goals as goal

pub new-requires : goal.new-requires
new-requires c = are_new c.in_ok-a.a c.in_ok-b.b c.in_ok-a.ensures c.in_ok-b.ensures

pub returns : goal.returns
returns c =
    c.new.ensures (script_config role.Opener 1) (script_config role.Accepter 2) [] [] (are_new_of c.in_ok-a.a c.in_ok-b.b c.in_ok-a.ensures c.in_ok-b.ensures)
    ∙ ap (λ (w : World). view_of (no_effect w)) opening-script_world
