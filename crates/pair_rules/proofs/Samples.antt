-- What the worked examples share.
use Rattle.std.proofs.Common.{Option, Some, ℕ, List, []}
use Rattle.node_rules.specs.Opener.{sketch_by}
use Rattle.node_rules.specs.State.{NodeState, initiator_of}
use Rattle.node_rules.specs.Steps.{turn_sequence as then_turn}
use Rattle.node_rules.specs.Turns.{Turn, after_move, unchanged}
use Rattle.node_rules.proofs.Samples.{receiving, config_of}
use Rattle.node_rules.specs.declared.config.Role.TheVariants as role
use Rattle.id_rules.proofs.Samples.{sipping}
use Rattle.pair_rules.specs.World.{World, Effect, turn_a, fullness, effect_of, unless_ended, run_from, end_on, is_event, deliveries, opening_world}
use Rattle.pair_rules.specs.Rounds.{capacity_by, EachRound}
use Rattle.pair_rules.specs.declared.event.Event.{Event}

-- an example that has this in its line `unfolding` computes what happens to a pair
unfoldable pub happening : Unit {0}
unfolding receiving sipping fullness effect_of unless_ended run_from end_on is_event deliveries capacity_by EachRound
happening = tt

-- two new nodes of the salts 1 and 2, with empty pools
abbrev pub new_pair : World
new_pair = opening_world (config_of role.Opener 1) (config_of role.Accepter 2) [] []

-- 16 times all deliveries
abbrev pub drain : List Event
drain = deliveries 16

-- what a first sketch does that reaches an opener, by what it is answered by: the opener as it has read it, the accepter,
-- and the bytes. Behind it there is no more to read
abbrev pub sketch_step : NodeState → List ℕ → Option (List ℕ) → Turn
sketch_step read bytes answer = after_move read (sketch_by answer (Some 0) (initiator_of read) read.set bytes)

abbrev pub sketch_effect : NodeState → NodeState → List ℕ → Option (List ℕ) → Effect
sketch_effect read b bytes answer =
    turn_a (record { a = read; b = b; ab = []; ba = [] }) (then_turn (sketch_step read bytes answer) (unchanged (sketch_step read bytes answer).state)) 0
