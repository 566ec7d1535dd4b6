-- A new pair that is drained has sent 8 messages of the handshake, and none besides: the bound on them is met. Two pairs of
-- whole deliveries take them.
use Rattle.std.proofs.Common.{◌≡◌, List, [], length, filter, refl}
use Rattle.wire_rules.specs.declared.message.Message.{Message}
use Rattle.node_rules.proofs.Samples.{config_of}
use Rattle.node_rules.specs.declared.config.Role.TheVariants as role
use Rattle.pair_rules.specs.World.{Effect, deliveries, run}
use Rattle.pair_rules.proofs.Samples.{happening, new_pair, drain}
use Rattle.pair_rules.specs.Messages.{is_of_handshake, is_of_rounds, rounds_of_event, rounds_unless_ended, rounds_of_script, all_messages}

abbrev sent : List Message
sent = all_messages (config_of role.Opener 1) (config_of role.Accepter 2) (run new_pair drain)

eight : length (filter is_of_handshake sent) ≡ 8
unfolding happening is_of_handshake
eight = refl

none_besides : filter is_of_rounds sent ≡ []
unfolding happening is_of_rounds
none_besides = refl

none_begun : rounds_of_script drain new_pair ≡ 0
unfolding happening rounds_of_script rounds_of_event rounds_unless_ended
none_begun = refl

two_pairs : (run new_pair (deliveries 2)).world.ab ≡ []
unfolding happening
two_pairs = refl
