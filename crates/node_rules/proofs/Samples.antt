-- What the worked examples share.
use Rattle.std.proofs.Common.{List, ℕ, [], ◌∷◌, pos, Option}
use Rattle.std.specs.Prelude.{codes}
use Rattle.wire_rules.specs.Commands.{name_of}
use Rattle.wire_rules.specs.declared.message.Message.{Message}
use Rattle.wire_rules.specs.declared.message.Message.TheVariants as message
use Rattle.wire_rules.proofs.Samples.{streaming, magic}
use Rattle.pool_rules.specs.Pools.{Transaction, transaction_of}
use Rattle.pool_rules.proofs.Samples.{sketching, pooling}
use Rattle.node_rules.specs.Stages.{waiting_phase, sent_phase, requested_extensions, sent_extensions, answered_ending, extensions_in, is_idle, is_after_handshake}
use Rattle.node_rules.specs.Opener.{start_if, round_after_sketch, remaining_set, on_no_answer, on_decoding, length_fault, question_by, sketch_by}
use Rattle.node_rules.specs.Barrier.{is_barrier, phase_after_barrier, pong_response, phase_after_fetch, pong_by}
use Rattle.node_rules.specs.Accepter.{reqrecon_by, extension_by, extension_after, ask_fault, diff_by, diff_after}
use Rattle.node_rules.specs.Inventory.{new_ids, inv_by, serving_by, serving_after, transaction_by}
use Rattle.node_rules.specs.Handshake.{opening, reply, own_version, version_by, in_greeting, offer_by, level_of, verack_by, in_greeted}
use Rattle.node_rules.specs.Additions.{after_addition_by, on_addition_by}
use Rattle.node_rules.specs.Steps.{opener_row, accepter_row, in_relay, in_phase, next_unless_ended, on_messages, at_message, at_front, on_frames, without_unread_by, on_piece_by, round_by, on_start_by}
use Rattle.node_rules.specs.State.{NodeState, opening_state}
use Rattle.node_rules.specs.declared.config.Config.{Config}
use Rattle.node_rules.specs.declared.config.Role.{Role}
use Rattle.node_rules.specs.declared.config.Role.TheVariants as role
use Rattle.node_rules.specs.declared.end.End.{End}

-- an example that has this in its line `unfolding` computes the machines of rounds
unfoldable pub moving : Unit {0}
unfolding sketching pooling waiting_phase sent_phase requested_extensions sent_extensions answered_ending extensions_in is_idle is_barrier is_after_handshake phase_after_fetch phase_after_barrier start_if round_after_sketch remaining_set on_no_answer on_decoding length_fault question_by sketch_by pong_response reqrecon_by extension_by extension_after ask_fault diff_by diff_after
moving = tt

-- the same for the steps of a node
unfoldable pub stepping : Unit {0}
unfolding moving name_of new_ids inv_by serving_by serving_after transaction_by opening reply version_by in_greeting offer_by level_of verack_by in_greeted after_addition_by on_addition_by opener_row accepter_row pong_by in_relay in_phase next_unless_ended on_messages at_message round_by on_start_by
stepping = tt

-- the same for pieces of bytes
unfoldable pub receiving : Unit {0}
unfolding stepping streaming at_front on_frames without_unread_by on_piece_by
receiving = tt

-- a node of the main network, with the nonce 0, the time 0, and this highest version of reconciliation
abbrev pub config_with : ℕ → Role → ℕ → Config
config_with top side salt = record { magic = magic; role = side; salt = salt; nonce = 0; time = pos 0; top = top }

abbrev pub config_of : Role → ℕ → Config
config_of side salt = config_with 2 side salt

-- the opener of salt 1 and the accepter of salt 2, as they are new
abbrev pub new_opener : List Transaction → NodeState
new_opener pool = opening_state (config_of role.Opener 1) pool

abbrev pub new_accepter : List Transaction → NodeState
new_accepter pool = opening_state (config_of role.Accepter 2) pool

-- the two transactions that stand in the documents
abbrev pub hello : Transaction
hello = transaction_of (codes "hello")

abbrev pub abc : Transaction
abc = transaction_of (codes "abc")

-- the peer's handshake, with this salt
abbrev pub introduced : ℕ → List Message
introduced salt =
    message.Version (own_version (config_of role.Opener salt)) ∷ message.WtxidRelay ∷ message.SendTxRcncl 2 salt ∷ message.Verack ∷ []

-- what a node ends with where it takes these messages
abbrev pub end_of : NodeState → List Message → Option End
end_of s ms = (on_messages s ms).state.ended

-- what it sends
abbrev pub sent_for : NodeState → List Message → List Message
sent_for s ms = (on_messages s ms).out
