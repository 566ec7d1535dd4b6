-- The two nodes that a script begins with, and what holds of them behind it. Their world stays folded, since its wires are
-- frames with checksums.
use Rattle.std.proofs.Common.{◌≡◌, ℕ, ◌^◌, ◌<◌, List, [], refl, subst, arith}
use Rattle.node_rules.specs.Invariant.{IsConfig}
use Rattle.node_rules.specs.State.{NodeView}
use Rattle.node_rules.specs.declared.config.Role.{Role}
use Rattle.node_rules.specs.declared.config.Role.TheVariants as role
use Rattle.pair_rules.specs.Headline.{IsFinishedWhereDrained}
use Rattle.pair_rules.specs.Reports.{AreAlikeWhereDrained}
use Rattle.pair_rules.specs.World.{World, ArePair, IsScript, opening_world, run}
use Rattle.pair_rules.specs.declared.event.Event.{Event}
use Rattle.headline_laws.proofs.Headline.{headline}
use Rattle.pair_end_laws.proofs.Alike.{drained_reports_are_alike}
use Rattle.protocol_text_rules.specs.Pairs.{script_config, script_world, simulation}
use Rattle.duet.specs.Views.{AreNew, AreNewOf, new_node}
use Rattle.tx_pool.proofs.Entries.{IsPool-empty}

pub is_config : (r : Role) (salt : ℕ) → salt < 2 ^ 64 → IsConfig (script_config r salt)
unfolding script_config
is_config r salt few = record { magic = refl; salt = few; nonce = omega arith; time = refl; least = omega arith; most = omega arith }

pub is_pair : ArePair (script_config role.Opener 1) (script_config role.Accepter 2) [] []
unfolding script_config
is_pair = record {
  opener = refl;
  accepter = refl;
  magic = refl;
  config_a = is_config role.Opener 1 (omega arith);
  config_b = is_config role.Accepter 2 (omega arith);
  pool_a = IsPool-empty;
  pool_b = IsPool-empty;
}

pub are_new_of : (a b : NodeView) → a ≡ new_node (script_config role.Opener 1) [] → b ≡ new_node (script_config role.Accepter 2) [] → AreNewOf (script_config role.Opener 1) (script_config role.Accepter 2) [] [] a b
are_new_of a b is_a is_b = record { pair = is_pair; node_a = is_a; node_b = is_b }

pub are_new : (a b : NodeView) → a ≡ new_node (script_config role.Opener 1) [] → b ≡ new_node (script_config role.Accepter 2) [] → AreNew a b
are_new a b is_a is_b = record { c = script_config role.Opener 1; d = script_config role.Accepter 2; p = []; q = []; of = are_new_of a b is_a is_b }

pub opening-script_world : opening_world (script_config role.Opener 1) (script_config role.Accepter 2) [] [] ≡ script_world
unfolding script_world
opening-script_world = refl

pub finished : (script : List Event) → IsScript script → IsFinishedWhereDrained (simulation script).world
finished script fine =
    subst (λ (w : World). IsFinishedWhereDrained (run w script).world) opening-script_world
    (headline (script_config role.Opener 1) (script_config role.Accepter 2) [] [] script is_pair fine)

pub alike : (script : List Event) → IsScript script → AreAlikeWhereDrained (simulation script).world
alike script fine =
    subst (λ (w : World). AreAlikeWhereDrained (run w script).world) opening-script_world
    (drained_reports_are_alike (script_config role.Opener 1) (script_config role.Accepter 2) [] [] script is_pair fine)
